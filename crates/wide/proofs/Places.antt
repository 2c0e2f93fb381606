-- Where plain rows stand.
use Prim.Native.Nat.{ℕ, zero, suc, ◌+◌, ◌-◌, ◌<◌, ◌≤◌}
use native.Mathlib.Omega.{arith}
use mathlib.Core.Path.{◌≡◌, refl, sym, ◌∙◌, ap, ap₂, subst}
use mathlib.Core.Logic.{⊎_elim}
use mathlib.Core.Bool.{Bool, true, false}
use mathlib.Core.List.{◌++◌}
use lib.Dec.{ltb}
use lib.ListN.{length, get_or, length-append, get_or-append}
use lib.Seq.{get_or-append-add}
use borrow.Author.Tests.{ltb-true, ltb-false}
use Rattle.stab.specs.Formula.{Row, constant, literal, junction, iteration, unknown}
use Rattle.stab.proofs.Bools.{decide}
use Rattle.stab.proofs.Scans.{below_suc}
use Rattle.wide.specs.WideFormula.{WideKind, plain, negation, implication, equivalence, wide_kind_of}
use Rattle.wide.specs.Plain.{rows_given, start_of, Image, three_rows, given_as, given, plain_rows}
use Rattle.wide.proofs.Tables.{blank}

three_length : (v : Bool) (s : ℕ) (f g : Image) → length (three_rows v s f g) ≡ 3
unfolding three_rows
three_length true s f g = refl
three_length false s f g = refl

given_as_length : (s : ℕ) (w : Row) (k : WideKind) (f g : Image) → length (given_as s w k f g) ≡ rows_given k
unfolding given_as rows_given
given_as_length s w (plain (constant v)) f g = refl
given_as_length s w (plain (literal v)) f g = refl
given_as_length s w (plain (junction o)) f g = refl
given_as_length s w (plain (iteration o)) f g = refl
given_as_length s w (plain unknown) f g = refl
given_as_length s w negation f g = refl
given_as_length s w implication f g = refl
given_as_length s w (equivalence v) f g =
    length-append (three_rows v s f g) _ ∙ ap₂ ◌+◌ (three_length v s f g) (three_length _ (s + 3) f g)

-- how many rows a wide row gives
pub given_length : (rows : ℕ → Row) (r : ℕ) → length (given rows r) ≡ rows_given (wide_kind_of (rows r).kind)
unfolding given
given_length rows r = given_as_length _ _ (wide_kind_of (rows r).kind) _ _

-- how many the first n wide rows give
pub plain_length : (rows : ℕ → Row) (n : ℕ) → length (plain_rows rows n) ≡ start_of rows n
unfolding plain_rows start_of
plain_length rows zero = refl
plain_length rows (suc n) =
    length-append (plain_rows rows n) (given rows n) ∙ ap₂ ◌+◌ (plain_length rows n) (given_length rows n)

pub start_next : (rows : ℕ → Row) (r : ℕ) → start_of rows (suc r) ≡ start_of rows r + rows_given (wide_kind_of (rows r).kind)
unfolding start_of
start_next rows r = refl

pub start_rises : (rows : ℕ → Row) (r n : ℕ) → r ≤ n → start_of rows r ≤ start_of rows n
start_rises rows r zero h = ap_le (omega arith)
  where
    ap_le : r ≡ 0 → start_of rows r ≤ start_of rows 0
    ap_le e = subst (λ (m : ℕ). start_of rows m ≤ start_of rows 0) (sym e) (omega arith)
start_rises rows r (suc n) h =
    ⊎_elim
    (λ l. omega (arith, start_rises rows r n (omega arith), start_next rows n))
    (λ e. subst (λ (m : ℕ). start_of rows m ≤ start_of rows (suc n)) (sym e) (omega arith))
    (below_suc r (suc n) (omega arith))

-- row k of those that wide row r gives stands k rows past its start
pub given_at : (rows : ℕ → Row) (n r k : ℕ) → r < n → k < rows_given (wide_kind_of (rows r).kind) → get_or (plain_rows rows n) (start_of rows r + k) blank ≡ get_or (given rows r) k blank
unfolding plain_rows
given_at rows zero r k l h = absurd (omega arith)
given_at rows (suc n) r k l h =
    ⊎_elim
    (λ m.
    get_or-append (plain_rows rows n) (given rows n) blank (start_of rows r + k) (omega (arith, plain_length rows n, start_next rows r, start_rises rows (suc r) n m))
    ∙ given_at rows n r k m h)
    (λ e.
    ap (λ (p : ℕ). get_or (plain_rows rows n ++ given rows n) p blank) (ap (λ (q : ℕ). start_of rows q + k) e ∙ ap (λ (q : ℕ). q + k) (sym (plain_length rows n)))
    ∙ get_or-append-add (plain_rows rows n) (given rows n) k blank
    ∙ ap (λ (q : ℕ). get_or (given rows q) k blank) (sym e))
    (below_suc r n l)

-- plain row p is one of those that the first n wide rows give
pub record GivenBelow (rows : ℕ → Row) (n p : ℕ) : Type 0 where
  pub source : ℕ
  pub among : ℕ
  pub before : source < n
  pub is_given : among < rows_given (wide_kind_of (rows source).kind)
  pub place : p ≡ start_of rows source + among

pub given_below : (rows : ℕ → Row) (n p : ℕ) → p < start_of rows n → GivenBelow rows n p
unfolding start_of
given_below rows zero p l = absurd (omega arith)
given_below rows (suc n) p l =
    ⊎_elim
    (λ e. let g = given_below rows n p (ltb-true p (start_of rows n) e) in record {
      source = g.source;
      among = g.among;
      before = omega (arith, g.before);
      is_given = g.is_given;
      place = g.place;
    })
    (λ e. let h = ltb-false p (start_of rows n) e in record {
      source = n;
      among = p - start_of rows n;
      before = omega arith;
      is_given = omega arith;
      place = omega arith;
    })
    (decide (ltb p (start_of rows n)))
