-- The tests of a formula row stand for their statements.
use Prim.Native.Nat.{ℕ}
use mathlib.Core.Path.{◌≡◌, refl, sym, ◌∙◌, ap}
use mathlib.Core.Bool.{Bool, true, false, not, false≢true, true≢false}
use lib.IntN.{pos, neg_ℤ}
use Rattle.stab.specs.Basic.{nat}
use Rattle.stab.specs.Formula.{Row, Kind, constant, literal, junction, iteration, unknown, kind_of, Base, nothing, parameter, index, Formula, const, lit, join, iter, tree, on_index, loose, fixed, is_body, is_outer, mixes, offset, well_formed_as, well_formed}
use Rattle.stab.specs.Keeps.{Loose, Fixed, Outer, FormedAs}
use Rattle.stab.proofs.Bools.{false_of_not}
use Rattle.stab.proofs.Tests.{◌tests◌, ◌&◌, or_tests, eq_z_tests, within_tests, below_tests}

never : false tests ⊥
never = (false≢true, λ e. absurd e)

-- a test that fails stands for the opposite
pub none_tests : {a : Bool} {A : Type 0} → a tests A → not a tests (¬ A)
none_tests {a} {A} t =
    (λ h x. true≢false (sym (t.1 x) ∙ false_of_not a h), λ f. go a (λ e. f (t.0 e)))
  where
    go : (b : Bool) → (b ≡ true → ⊥) → not b ≡ true
    go true h = absurd (h refl)
    go false h = refl

on_index_tests : (x : Base) → on_index x tests (x ≡ index)
unfolding on_index
on_index_tests nothing = (λ h. absurd (false≢true h), λ e. let z : false ≡ true = ap on_index e in z)
on_index_tests parameter = (λ h. absurd (false≢true h), λ e. let z : false ≡ true = ap on_index e in z)
on_index_tests index = (λ h. refl, λ e. refl)

pub loose_tests : (f : Formula) → loose f tests Loose f
unfolding loose
loose_tests (const v) = never
loose_tests (lit v s x c) = on_index_tests x
loose_tests (join o f g) = or_tests (loose_tests f) (loose_tests g)
loose_tests (iter o f b c) = never

pub fixed_tests : (f : Formula) → fixed f tests Fixed f
unfolding fixed
fixed_tests (const v) = never
fixed_tests (lit v s x c) = none_tests (on_index_tests x)
fixed_tests (join o f g) = or_tests (fixed_tests f) (fixed_tests g)
fixed_tests (iter o f b c) = (λ h. tt, λ u. refl)

pub outer_tests : (f : Formula) → is_outer f tests Outer f
unfolding is_outer
outer_tests f = none_tests (loose_tests f)

formed_as_tests : (rows : ℕ → Row) (r : ℕ) (w : Row) (k : Kind) → well_formed_as rows r w k tests FormedAs rows r w k
unfolding well_formed_as offset mixes is_body
formed_as_tests rows r w (constant v) = eq_z_tests w.a (pos 0) & eq_z_tests w.b (pos 0) & eq_z_tests w.c (pos 0)
formed_as_tests rows r w (literal v) =
    within_tests (pos 0) (pos 255) w.a & within_tests (pos 0) (pos 2) w.b & within_tests (neg_ℤ (pos 9999)) (pos 9999) w.c
formed_as_tests rows r w (junction o) =
    below_tests r w.a & below_tests r w.b & eq_z_tests w.c (pos 0) & none_tests (loose_tests (tree rows r) & fixed_tests (tree rows r))
formed_as_tests rows r w (iteration o) =
    below_tests r w.a &
    within_tests (neg_ℤ (pos 9999)) (pos 9999) w.b &
    within_tests (neg_ℤ (pos 9999)) (pos 9999) w.c &
    none_tests (fixed_tests (tree rows (nat w.a)))
formed_as_tests rows r w unknown = never

pub formed_tests : (rows : ℕ → Row) (r : ℕ) → well_formed rows r tests FormedAs rows r (rows r) (kind_of (rows r).kind)
unfolding well_formed
formed_tests rows r = formed_as_tests rows r (rows r) (kind_of (rows r).kind)
