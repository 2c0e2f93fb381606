-- The key of a row: its kind and two numbers that decide its class, made of what is known of smaller rows. Two well-formed rows
-- have the same key exactly if they are akin.
use Rattle.std.specs.Prelude.{ℕ, zero, suc, ◌+◌, ◌*◌, ◌/◌, ◌<◌, ◌≡◌, Bool, true, List, eqb, leb, ℤ, neg_ℤ, get_or, set, if◌then◌else◌}
use Rattle.std.proofs.Math.Option.{some}
use Rattle.stab.specs.Basic.{nat}
use Rattle.stab.specs.Formula.{Row, Kind, constant, literal, junction, iteration, unknown, kind_of, Base, nothing, parameter, index, base_of, well_formed}
use Rattle.formula.specs.Spread.{spread_of}
use Rattle.classes.specs.Class.{shift_code, above, class_of, shift_of, left_code, right_code, lead_of, AllWorked}
use Rattle.classes.specs.declared.form.Form.{Form}

-- what is added to nothing, and 0 for a literal on n or i
unfoldable pub added_of : Base → ℤ → ℕ
added_of nothing c = shift_code (some c)
added_of parameter c = 0
added_of index c = 0

unfoldable pub low_as : (ℕ → Row) → ℕ → Kind → ℕ
low_as rows r (constant v) = 0
low_as rows r (literal v) = nat (rows r).a
low_as rows r (junction o) = if leb (left_code rows r) (right_code rows r) then left_code rows r else right_code rows r
low_as rows r (iteration o) = class_of rows (nat (rows r).a) + 1024 * shift_of rows (nat (rows r).a)
low_as rows r unknown = 0

unfoldable pub high_as : (ℕ → Row) → ℕ → Kind → ℕ
high_as rows r (constant v) = 0
high_as rows r (literal v) = added_of (base_of (rows r).b) (rows r).c
high_as rows r (junction o) = if leb (left_code rows r) (right_code rows r) then right_code rows r else left_code rows r
high_as rows r (iteration o) = shift_code (some (rows r).b)
high_as rows r unknown = 0

unfoldable pub low_of : (ℕ → Row) → ℕ → ℕ
low_of rows r = low_as rows r (kind_of (rows r).kind)

unfoldable pub high_of : (ℕ → Row) → ℕ → ℕ
high_of rows r = high_as rows r (kind_of (rows r).kind)

-- the numbers of row r
unfoldable pub form_of : (ℕ → Row) → ℕ → Form
form_of rows r = record { shift = shift_of rows r; lead = lead_of rows r; low = low_of rows r; high = high_of rows r }

-- the smaller of two shifts, 0 for a missing one
unfoldable pub smaller : ℕ → ℕ → ℕ
smaller p q = if eqb p 0 then q else if eqb q 0 then p else if leb p q then p else q

-- a shift p, lowered by up - down, is q
unfoldable pub fitting : ℕ → ℕ → ℕ → ℕ → Bool
fitting up down p q = if eqb p 0 then eqb q 0 else eqb (q + up) (p + down)

-- ---- the numbers of row r by its columns w and by what is kept for smaller rows

-- the code of a part a in a row whose shift is m
unfoldable pub kept_code : List ℕ → ℕ → ℕ → ℕ
kept_code forms m a = get_or forms (4 * a) 0 + 1024 * above m (get_or forms (4 * a + 1) 0)

-- a literal: what is added is the shift, unless it is added to nothing
unfoldable pub literal_form : ℕ → Row → Form
literal_form r w =
    if eqb (nat w.b) 0
    then record { shift = 0; lead = r; low = nat w.a; high = shift_code (some w.c) }
    else record { shift = shift_code (some w.c); lead = r; low = nat w.a; high = 0 }

-- an and or an or with the shift m and the parts a and b, whose codes are x and y
unfoldable pub in_order : ℕ → ℕ → ℕ → ℕ → ℕ → Form
in_order m a b x y =
    if leb x y
    then record { shift = m; lead = a; low = x; high = y }
    else record { shift = m; lead = b; low = y; high = x }

unfoldable pub junction_form : Row → List ℕ → Form
junction_form w forms =
    let a = nat w.a in
    let b = nat w.b in
    let m = smaller (get_or forms (4 * a + 1) 0) (get_or forms (4 * b + 1) 0) in
    in_order m a b (kept_code forms m a) (kept_code forms m b)

-- an iteration
unfoldable pub iteration_form : ℕ → Row → List ℕ → Form
iteration_form r w forms =
    record {
      shift = shift_code (some (neg_ℤ w.c));
      lead = r;
      low = get_or forms (4 * nat w.a) 0 + 1024 * get_or forms (4 * nat w.a + 1) 0;
      high = shift_code (some w.b);
    }

-- by its kind
unfoldable pub kept_form_as : ℕ → Row → List ℕ → Kind → Form
kept_form_as r w forms (constant v) = record { shift = 0; lead = r; low = 0; high = 0 }
kept_form_as r w forms (literal v) = literal_form r w
kept_form_as r w forms (junction o) = junction_form w forms
kept_form_as r w forms (iteration o) = iteration_form r w forms
kept_form_as r w forms unknown = record { shift = 0; lead = r; low = 0; high = 0 }

abbrev pub kept_form : ℕ → Row → List ℕ → Form
kept_form r w forms = kept_form_as r w forms (kind_of w.kind)

-- w is row r of some rows, and well formed among them
pub record FormedAt (r : ℕ) (w : Row) : Type 0 where
  pub rows : ℕ → Row
  pub row : rows r ≡ w
  pub formed : well_formed rows r ≡ true

-- ---- rows of one hash

-- where rows with such a key are looked for: one of 512 places, by the high bits
abbrev pub hash_of : ℕ → ℕ → ℕ → ℕ
hash_of kind low high = spread_of low high kind 0 / 2097152

unfoldable pub hash_at : (ℕ → Row) → ℕ → ℕ
hash_at rows r = hash_of (nat (rows r).kind) (low_of rows r) (high_of rows r)

-- one more than the last row below n with that hash, 0 where there is none
unfoldable pub latest : (ℕ → Row) → ℕ → ℕ → ℕ
latest rows h zero = zero
latest rows h (suc n) = if eqb (hash_at rows n) h then suc n else latest rows h n

-- the fourth number of row r, the row before it of the same hash, and the two numbers of its key
pub record Listed (rows : ℕ → Row) (forms sides : List ℕ) (r : ℕ) : Type 0 where
  pub before : get_or forms (4 * r + 3) 0 ≡ latest rows (hash_at rows r) r
  pub low : get_or sides (2 * r) 0 ≡ low_of rows r
  pub high : get_or sides (2 * r + 1) 0 ≡ high_of rows r

-- the tables after n rows
pub record Done (rows : ℕ → Row) (forms sides heads : List ℕ) (n : ℕ) : Type 0 where
  pub worked : AllWorked rows forms n
  pub listed : (r : ℕ) → r < n → Listed rows forms sides r
  pub latest_of : (h : ℕ) → h < 512 → get_or heads h 0 ≡ latest rows h n

-- the tables with the numbers of row r
unfoldable pub forms_with : List ℕ → ℕ → ℕ → Form → ℕ → List ℕ
forms_with forms r class f before = set (set (set (set forms (4 * r) class) (4 * r + 1) f.shift) (4 * r + 2) f.lead) (4 * r + 3) before

unfoldable pub sides_with : List ℕ → ℕ → Form → List ℕ
sides_with sides r f = set (set sides (2 * r) f.low) (2 * r + 1) f.high

-- the tables with the numbers of the first n rows; past these they are as they were
unfoldable pub forms_after : (ℕ → Row) → List ℕ → ℕ → List ℕ
forms_after rows forms zero = forms
forms_after rows forms (suc n) = forms_with (forms_after rows forms n) n (class_of rows n) (form_of rows n) (latest rows (hash_at rows n) n)

unfoldable pub sides_after : (ℕ → Row) → List ℕ → ℕ → List ℕ
sides_after rows sides zero = sides
sides_after rows sides (suc n) = sides_with (sides_after rows sides n) n (form_of rows n)

unfoldable pub heads_after : (ℕ → Row) → List ℕ → ℕ → List ℕ
heads_after rows heads zero = heads
heads_after rows heads (suc n) = set (heads_after rows heads n) (hash_at rows n) (n + 1)
