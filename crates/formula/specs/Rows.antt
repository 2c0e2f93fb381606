-- What the pass over formula rows works out for a row, and what holds of rows that passed.
use Rattle.std.specs.Prelude.{ℕ, zero, suc, ◌+◌, ◌-◌, ◌*◌, ◌<◌, ◌≤◌, max, ◌≡◌, Bool, true, List, eqb, leb, ℤ, pos, length, get_or, if◌then◌else◌, Some, Ok, Err, None, Option}
use Rattle.stab.specs.Basic.{◌and◌, ◌or◌, eq_z, nat, below, ◌otherwise◌, scan}
use Rattle.stab.specs.Check.{at_unless, row_refusal, formula_refusal, root_fits}
use Rattle.stab.specs.Finding.{refuse, Finding}
use Rattle.stab.specs.declared.Refusal.TheVariants.{IllFormed, TooLarge}
use Rattle.stab.specs.Formula as F
use Rattle.stab.specs.Formula.{Row, Formula, tree, offset, base_of, on_index, well_formed, small_enough}
use Rattle.formula.specs.Facts.{bit, AllKnown, AllFormed}
use Rattle.formula.specs.Kept.{kept}
use Rattle.formula.specs.declared.rows.Facts.{Facts}

-- the four numbers of a formula
unfoldable pub facts_of : Formula → Facts
facts_of f = record { size = F.size f; depth = F.depth f; loose = bit (F.loose f); fixed = bit (F.fixed f) }

-- those that are kept for row r
unfoldable pub facts_at : List ℕ → ℕ → Facts
facts_at facts r = record { size = get_or facts (4 * r) 0; depth = get_or facts (4 * r + 1) 0; loose = get_or facts (4 * r + 2) 0; fixed = get_or facts (4 * r + 3) 0 }

-- the numbers of a formula with two parts, by those of its parts
unfoldable pub both_facts : Facts → Facts → Facts
both_facts f g =
    record {
      size = 1 + f.size + g.size;
      depth = 1 + max f.depth g.depth;
      loose = max f.loose g.loose;
      fixed = max f.fixed g.fixed;
    }

-- those of an iteration, by its body's
unfoldable pub over_facts : Facts → Facts
over_facts f = record { size = 1 + f.size; depth = 1 + f.depth; loose = 0; fixed = 1 }

-- the table with these kept for row r
abbrev pub kept_facts : List ℕ → ℕ → Facts → List ℕ
kept_facts facts r f = kept facts r f.size f.depth f.loose f.fixed

-- those are kept where nothing is found
unfoldable pub kept_if : Finding → List ℕ → ℕ → Facts → List ℕ
kept_if (Ok u) facts r f = kept_facts facts r f
kept_if (Err e) facts r f = facts

-- the table after a pass over n rows: the numbers that `want` gives of each row, where `judge` finds nothing of it and `passed` nothing
-- of the rows before it
unfoldable pub facts_table_by : (ℕ → Finding) → (ℕ → Finding) → (ℕ → Facts) → List ℕ → ℕ → List ℕ
facts_table_by passed judge want facts zero = facts
facts_table_by passed judge want facts (suc n) = kept_if (scan passed n otherwise judge n) (facts_table_by passed judge want facts n) n (want n)

-- the table after the pass over n rows, of which s are schema rows
unfoldable pub facts_table : Bool → (ℕ → Row) → ℕ → List ℕ → ℕ → List ℕ
facts_table older rows s facts n = facts_table_by (formula_refusal older rows s) (row_refusal rows) (λ r. facts_of (tree rows r)) facts n

-- the same where the root and the least value are looked at first
unfoldable pub formulas_table : Bool → (ℕ → Row) → List ℕ → ℕ → ℕ → ℤ → ℤ → List ℕ
formulas_table older rows facts n s root least = if root_fits s root least then facts_table older rows s facts n else facts

-- row r is ill-formed, or has these four numbers
unfoldable pub judged : (ℕ → Row) → ℕ → (Option Facts)
judged rows r = if well_formed rows r then Some (facts_of (tree rows r)) else None

-- a row whose columns are w is true or false: a, b and c are 0
unfoldable pub constant_judged : Row → (Option Facts)
constant_judged w =
    if eq_z w.a (pos 0) and eq_z w.b (pos 0) and eq_z w.c (pos 0)
    then Some (record { size = 1; depth = 1; loose = 0; fixed = 0 })
    else None

-- it is a literal: a is 0..255, b 0..2, c -9999..9999
unfoldable pub literal_judged : Row → (Option Facts)
literal_judged w =
    if below 256 w.a and below 3 w.b and offset w.c
    then Some (record { size = 1; depth = 1; loose = bit (on_index (base_of w.b)); fixed = 1 - bit (on_index (base_of w.b)) })
    else None

-- a row with these numbers is well formed, unless it mixes literals on i with what is not on i
unfoldable pub unmixed : Facts → (Option Facts)
unmixed f = if eqb f.loose 0 or eqb f.fixed 0 then Some f else None

-- row r, whose columns are w, has two parts: a and b are smaller rows that do not mix, c is 0
unfoldable pub pair_judged : ℕ → Row → List ℕ → (Option Facts)
pair_judged r w facts =
    if below r w.a and below r w.b and eq_z w.c (pos 0)
    then unmixed (both_facts (facts_at facts (nat w.a)) (facts_at facts (nat w.b)))
    else None

-- it is an iteration: a is a smaller row that is a body, b and c are -9999..9999
unfoldable pub body_judged : ℕ → Row → List ℕ → (Option Facts)
body_judged r w facts =
    if below r w.a and offset w.b and offset w.c and eqb (facts_at facts (nat w.a)).fixed 0
    then Some (over_facts (facts_at facts (nat w.a)))
    else None

-- 7, then 8, for a row that was judged so
unfoldable pub judged_refusal : (Option Facts) → ℕ → Finding
judged_refusal None r = refuse IllFormed (Some r)
judged_refusal (Some f) r = at_unless (leb f.size 4096 and leb f.depth 64) TooLarge r

-- its numbers are kept where nothing is found
unfoldable pub kept_judged : (Option Facts) → List ℕ → ℕ → List ℕ
kept_judged None facts r = facts
kept_judged (Some f) facts r = kept_if (judged_refusal (Some f) r) facts r f

-- what is kept of n rows is small enough that the numbers of one more row can be worked out
pub record Summable (facts : List ℕ) (n : ℕ) : Type 0 where
  pub room : 4 * n ≤ length facts
  pub size : (r : ℕ) → r < n → (facts_at facts r).size ≤ 4096
  pub depth : (r : ℕ) → r < n → (facts_at facts r).depth ≤ 64

-- the first n rows are small enough
abbrev pub AllSmall : (ℕ → Row) → ℕ → Type 0
AllSmall rows n = (r : ℕ) → r < n → small_enough rows r ≡ true

-- what holds of n rows that passed, and of the table that was lent for their numbers
pub record Passed (rows : ℕ → Row) (facts : List ℕ) (n : ℕ) : Type 0 where
  pub room : 4 * n ≤ length facts
  pub known : AllKnown rows facts n
  pub formed : AllFormed rows n
  pub small : AllSmall rows n
