-- The range of an iteration: where no literal on i stands in the body, one value of i stands for all. Smaller rows.
use Rattle.std.specs.Prelude.{if◌then◌else◌}
use Prim.Native.Nat.{ℕ, zero, suc, ◌+◌, ◌*◌, ◌<◌, ◌≤◌, min}
use native.Mathlib.Omega.{arith}
use native.Mathlib.Numerals.{add-one}
use mathlib.Core.Path.{◌≡◌, refl, sym, ◌∙◌, ap, ap₂}
use mathlib.Core.Bool.{Bool, true, false, true≢false}
use mathlib.Core.List.{List}
use lib.Dec.{eqb}
use lib.IntN.{ℤ, pos, ◌+ℤ◌}
use lib.ListN.{get_or}
use Rattle.stab.specs.Basic.{◌and◌, ◌or◌}
use Rattle.stab.specs.Formula.{Op, conj, disj, nothing, parameter, index, Row, Formula, const, lit, join, iter, loose, on_index, tree}
use Rattle.stab.specs.Meaning.{Assignment, base, op, empty, over, value}
use Rattle.stab.proofs.Bools.{or_false_left, or_false_right}
use Rattle.formula.specs.Facts.{bit, Known, AllKnown}
use Rattle.pairs.specs.Index.{unbiased}
use Rattle.pairs.proofs.Parts.{unbiased_more}
use Rattle.assigned.specs.Assignments.{looked_at, Evaluable}

-- ---- no literal on i outside an iteration

still : (σ : Assignment) (n : ℕ) (f : Formula) (i j : ℤ) → loose f ≡ false → value σ n f i ≡ value σ n f j
unfolding value loose on_index base
still σ n (const v) i j h = refl
still σ n (lit v s nothing c) i j h = refl
still σ n (lit v s parameter c) i j h = refl
still σ n (lit v s index c) i j h = absurd (true≢false h)
still σ n (join o f g) i j h =
    ap₂ (op o) (still σ n f i j (or_false_left (loose f) (loose g) h)) (still σ n g i j (or_false_right (loose f) _ h))
still σ n (iter o f b c) i j h = refl

op_again : (o : Op) (v : Bool) → op o (op o (empty o) v) v ≡ op o (empty o) v
unfolding op empty ◌and◌ ◌or◌
op_again conj true = refl
op_again conj false = refl
op_again disj true = refl
op_again disj false = refl

over_still : (o : Op) (p : ℤ → Bool) (b : ℤ) (k : ℕ) → ((i j : ℤ) → p i ≡ p j) → over o p b 1 ≡ over o p b (suc k)
unfolding over
over_still o p b zero h = refl
over_still o p b (suc k) h =
    sym (op_again o (p (b +ℤ pos 0))) ∙ ap₂ (op o) (over_still o p b k h) (h (b +ℤ pos 0) (b +ℤ pos (suc k)))

over_first : (o : Op) (p : ℤ → Bool) (b : ℤ) (k : ℕ) → ((i j : ℤ) → p i ≡ p j) → over o p b (min 1 k) ≡ over o p b k
over_first o p b zero h = ap (over o p b) (omega arith)
over_first o p b (suc k) h = ap (over o p b) (omega arith) ∙ over_still o p b k h

-- one value of i more
pub over_next : (o : Op) (p : ℤ → Bool) (x k : ℕ) → over o p (unbiased x) (k + 1) ≡ op o (over o p (unbiased x) k) (p (unbiased (x + k)))
unfolding over
over_next o p x k =
    ap (over o p (unbiased x)) (add-one k) ∙ ap (λ (z : ℤ). op o (over o p (unbiased x) k) (p z)) (sym (unbiased_more x k))

-- ---- the values of i that are looked at

pub looked_few : (x left : ℕ) → looked_at x left ≤ left
unfolding looked_at
looked_few x left = go (eqb x 0)
  where
    go : (b : Bool) → (if b then min 1 left else left) ≤ left
    go true = omega arith
    go false = omega arith

module _ (o : Op) (σ : Assignment) (n : ℕ) (b : ℤ) (left : ℕ) where
  by_literals : (f : Formula) (v : Bool) → loose f ≡ v → over o (value σ n f) b (looked_at (bit v) left) ≡ over o (value σ n f) b left
  unfolding looked_at bit
  by_literals f true h = refl
  by_literals f false h = over_first o (value σ n f) b left (λ i j. still σ n f i j h)

  pub looked_enough : (rows : ℕ → Row) (facts : List ℕ) (r : ℕ) → Known rows facts r → over o (value σ n (tree rows r)) b (looked_at (get_or facts (4 * r + 2) 0) left) ≡ over o (value σ n (tree rows r)) b left
  looked_enough rows facts r h =
      ap (λ (x : ℕ). over o (value σ n (tree rows r)) b (looked_at x left)) h.loose ∙ by_literals (tree rows r) _ refl

-- ---- a smaller row

pub evaluable_below : (schema : List ℤ) (f g n : ℕ) (keys : List ℕ) (count m : ℕ) → Evaluable schema f n keys count m → g < f → Evaluable schema g n keys count m
evaluable_below schema f g n keys count m h p =
    record {
      row = omega (arith, h.row);
      formed = λ r q. h.formed r (omega arith);
      width = h.width;
      few = h.few;
      held = h.held;
      whole = h.whole;
      start = h.start;
    }

pub known_below : (rows : ℕ → Row) (facts : List ℕ) (f g : ℕ) → AllKnown rows facts (f + 1) → g < f → AllKnown rows facts (g + 1)
known_below rows facts f g h p r q = h r (omega arith)
