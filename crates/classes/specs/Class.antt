-- What is worked out once for each formula row, so that two rows are compared by going down one path (02, No. 4): a class of
-- formulas that are alike up to one shift of all n + c and limits, and the shift itself.
use Rattle.std.specs.Prelude.{ℕ, zero, suc, ◌+◌, ◌*◌, ◌-◌, ◌<◌, ◌≤◌, ◌≡◌, Bool, List, eqb, leb, ℤ, pos, neg_ℤ, ◌+ℤ◌, get_or, if◌then◌else◌}
use Rattle.std.proofs.Math.Option.{Option, none, some}
use Rattle.std.specs.Int.Signed.{le_z}
use Rattle.stab.specs.Basic.{nat}
use Rattle.stab.specs.Formula.{Row, Kind, constant, literal, junction, iteration, unknown, kind_of, Base, nothing, parameter, index, Formula, const, lit, join, iter, tree}
use Rattle.formula.specs.Facts.{AllFormed}
use Rattle.stab.specs.Alike.{lower, instance, alike}

-- ---- shifts

-- each i + c outside an iteration stands as n + c
abbrev pub ground : Formula → Formula
ground f = instance (pos 0) f

-- the smaller of two shifts, either of which may be missing
unfoldable pub lesser : Option ℤ → Option ℤ → Option ℤ
lesser none y = y
lesser (some a) none = some a
lesser (some a) (some b) = if le_z a b then some a else some b

unfoldable pub off_lit : Base → ℤ → Option ℤ
off_lit nothing c = none
off_lit parameter c = some c
off_lit index c = some c

-- the shift: of a literal on n or i what is added, of an iteration what is added to n in its limit, of an and or an or the
-- smaller of its parts'
unfoldable pub off : Formula → Option ℤ
off (const v) = none
off (lit v s x c) = off_lit x c
off (join o f g) = lesser (off f) (off g)
off (iter o f b c) = some (neg_ℤ c)

-- a shift as a number, 0 where it is missing
unfoldable pub or_zero : Option ℤ → ℤ
or_zero none = pos 0
or_zero (some z) = z

-- f without its shift
unfoldable pub level : Formula → Formula
level f = lower (or_zero (off f)) (ground f)

-- ---- classes

-- f and g are alike up to their shifts
unfoldable pub akin : Formula → Formula → Bool
akin f g = alike (level f) (level g)

-- the least number below n that passes, and n where none does
unfoldable pub least : (ℕ → Bool) → ℕ → ℕ
least p zero = zero
least p (suc n) = if p zero then zero else suc (least (λ (m : ℕ). p (suc m)) n)

-- the class of row r: the least row that is akin to it
unfoldable pub class_of : (ℕ → Row) → ℕ → ℕ
class_of rows r = least (λ (q : ℕ). akin (tree rows q) (tree rows r)) r

-- ---- the numbers of a row

-- a shift of -9999..9999 as a number from 1 on, and 0 where it is missing
unfoldable pub shift_code : Option ℤ → ℕ
shift_code none = 0
shift_code (some z) = nat (z +ℤ pos 10000)

unfoldable pub shift_of : (ℕ → Row) → ℕ → ℕ
shift_of rows r = shift_code (off (tree rows r))

-- how far a part's shift p lies above the row's m; a missing one comes last
unfoldable pub above : ℕ → ℕ → ℕ
above m p = if eqb p 0 then 32767 else p - m

-- a part a of a row whose shift is m: its class, and how far its shift lies above
unfoldable pub part_code : (ℕ → Row) → ℕ → ℕ → ℕ
part_code rows m a = class_of rows a + 1024 * above m (shift_of rows a)

-- the codes of the parts a and b of row r
abbrev pub left_code : (ℕ → Row) → ℕ → ℕ
left_code rows r = part_code rows (shift_of rows r) (nat (rows r).a)

abbrev pub right_code : (ℕ → Row) → ℕ → ℕ
right_code rows r = part_code rows (shift_of rows r) (nat (rows r).b)

-- the leading part of an and or an or: that with the smaller code
unfoldable pub lead_as : (ℕ → Row) → ℕ → Kind → ℕ
lead_as rows r (constant v) = r
lead_as rows r (literal v) = r
lead_as rows r (junction o) = if leb (left_code rows r) (right_code rows r) then nat (rows r).a else nat (rows r).b
lead_as rows r (iteration o) = r
lead_as rows r unknown = r

unfoldable pub lead_of : (ℕ → Row) → ℕ → ℕ
lead_of rows r = lead_as rows r (kind_of (rows r).kind)

-- the part of row r that part p is not
unfoldable pub besides : (ℕ → Row) → ℕ → ℕ → ℕ
besides rows r p = if eqb p (nat (rows r).a) then nat (rows r).b else nat (rows r).a

-- the other part of an and or an or
abbrev pub other_of : (ℕ → Row) → ℕ → ℕ
other_of rows r = besides rows r (lead_of rows r)

-- ---- what is kept

-- three of the four numbers of row r: its class, its shift, its leading part
pub record Worked (rows : ℕ → Row) (forms : List ℕ) (r : ℕ) : Type 0 where
  pub class : get_or forms (4 * r) 0 ≡ class_of rows r
  pub shift : get_or forms (4 * r + 1) 0 ≡ shift_of rows r
  pub lead : get_or forms (4 * r + 2) 0 ≡ lead_of rows r

-- those of the first n rows
abbrev pub AllWorked : (ℕ → Row) → List ℕ → ℕ → Type 0
AllWorked rows forms n = (r : ℕ) → r < n → Worked rows forms r

-- n rows are well formed and worked out: any two of them can be compared
pub record Ready (rows : ℕ → Row) (forms : List ℕ) (n : ℕ) : Type 0 where
  pub few : n ≤ 1024
  pub formed : AllFormed rows n
  pub worked : AllWorked rows forms n
