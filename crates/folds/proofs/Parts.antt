-- The columns of a row whose parts are put through, by its kind.
use Prim.Native.Nat.{ℕ, ◌<◌, ◌≤◌}
use native.Mathlib.Omega.{arith}
use mathlib.Core.Path.{◌≡◌, refl, ap}
use mathlib.Core.Logic.{⊎_elim}
use lib.Dec.{ltb}
use lib.IntN.{ℤ, pos, negsuc}
use borrow.Author.Tests.{ltb-true, ltb-false}
use Rattle.stab.specs.Basic.{eq_z, nat}
use Rattle.stab.specs.Formula.{Row, Kind, constant, literal, junction, iteration, unknown, kind_of}
use Rattle.stab.proofs.Bools.{decide}
use Rattle.formula.proofs.RowLaws.{constant_kind, literal_kind, junction_kind, iteration_kind, unknown_kind}
use Rattle.tidied.specs.Tidied.{through, renumbered_as, renumbered}

-- the row without parts, with two and with a body
abbrev two : (ℕ → ℕ) → Row → Row
two new w = record { kind = w.kind; a = through new w.a; b = through new w.b; c = w.c }

abbrev body : (ℕ → ℕ) → Row → Row
body new w = record { kind = w.kind; a = through new w.a; b = w.b; c = w.c }

module _ (new : ℕ → ℕ) (w : Row) where
  low : (z : ℤ) → nat z < 4 → renumbered_as new w (kind_of z) ≡ w
  unfolding renumbered_as nat
  low (pos n) h =
      ⊎_elim
      (λ t. ap (renumbered_as new w) (constant_kind n (ltb-true n 2 t)).1)
      (λ t. ap (renumbered_as new w) (literal_kind n (ltb-false n 2 t) h).1)
      (decide (ltb n 2))
  low (negsuc n) h = unfold kind_of eq_z in refl

  high : (z : ℤ) → 8 ≤ nat z → renumbered_as new w (kind_of z) ≡ w
  unfolding renumbered_as nat
  high (pos n) h = ap (renumbered_as new w) (unknown_kind n h)
  high (negsuc n) h = absurd (omega arith)

  fourth : (z : ℤ) → 4 ≤ nat z → nat z < 6 → renumbered_as new w (kind_of z) ≡ two new w
  unfolding renumbered_as nat
  fourth (pos n) h l = ap (renumbered_as new w) (junction_kind n h l).1
  fourth (negsuc n) h l = absurd (omega arith)

  sixth : (z : ℤ) → 6 ≤ nat z → nat z < 8 → renumbered_as new w (kind_of z) ≡ body new w
  unfolding renumbered_as nat
  sixth (pos n) h l = ap (renumbered_as new w) (iteration_kind n h l).1
  sixth (negsuc n) h l = absurd (omega arith)

  -- a row of a kind below 4 or from 8 on has no parts
  pub plain_low : nat w.kind < 4 → renumbered new w ≡ w
  unfolding renumbered
  plain_low h = low w.kind h

  pub plain_high : 8 ≤ nat w.kind → renumbered new w ≡ w
  unfolding renumbered
  plain_high h = high w.kind h

  -- column a of a row that has parts
  pub left_part : 4 ≤ nat w.kind → nat w.kind < 8 → (renumbered new w).a ≡ through new w.a
  unfolding renumbered
  left_part h l =
      ⊎_elim
      (λ t. ap (λ (v : Row). v.a) (fourth w.kind h (ltb-true _ 6 t)))
      (λ t. ap (λ (v : Row). v.a) (sixth w.kind (ltb-false _ 6 t) l))
      (decide (ltb (nat w.kind) 6))

  -- column b
  pub right_part : 4 ≤ nat w.kind → nat w.kind < 6 → (renumbered new w).b ≡ through new w.b
  unfolding renumbered
  right_part h l = ap (λ (v : Row). v.b) (fourth w.kind h l)

  pub right_plain : 6 ≤ nat w.kind → (renumbered new w).b ≡ w.b
  unfolding renumbered
  right_plain h =
      ⊎_elim
      (λ t. ap (λ (v : Row). v.b) (sixth w.kind h (ltb-true _ 8 t)))
      (λ t. ap (λ (v : Row). v.b) (high w.kind (ltb-false _ 8 t)))
      (decide (ltb (nat w.kind) 8))

-- column c stays
pub limit_plain : (new : ℕ → ℕ) (w : Row) → (renumbered new w).c ≡ w.c
unfolding renumbered renumbered_as
limit_plain new w = go (kind_of w.kind)
  where
    go : (k : Kind) → (renumbered_as new w k).c ≡ w.c
    go (constant v) = refl
    go (literal v) = refl
    go (junction o) = refl
    go (iteration o) = refl
    go unknown = refl
