use borrow.Author.Rules.{rules}
use Prim.Native.Nat.{ℕ, ◌+◌}
use native.Mathlib.Omega.{arith}
use mathlib.Core.Path.{sym, ◌∙◌, ap, ap₂}
use lib.Dec.{eqb}
use borrow.Author.Tests.{eq-eqb, ne_eqb}
use Rattle.stab.proofs.Bools.{if_true, if_false}
use Rattle.classes.specs.Key.{fitting}
use Rattle.classes.proofs.numbers.shifts_fit.Statement.{statement}
use Rattle.classes.proofs.numbers.shifts_fit.Tie as tie

overflow_mul-f : tie.Need-overflow_mul-f
overflow_mul-f c = search rules

overflow_add-f : tie.Need-overflow_add-f
overflow_add-f c = search rules

kept_at-shift-requires : tie.Need-kept_at-shift-requires
kept_at-shift-requires c κs = search rules

overflow_mul-g : tie.Need-overflow_mul-g
overflow_mul-g c = search rules

overflow_add-g : tie.Need-overflow_add-g
overflow_add-g c = search rules

kept_at-other-requires : tie.Need-kept_at-other-requires
kept_at-other-requires c κs = search rules

returns-then-shift-eq0 : tie.Need-returns-then-shift-eq0
unfolding fitting
returns-then-shift-eq0 c =
    ap (λ (q : ℕ). eqb q 0) c.kept_at-other.ensures.0
    ∙ sym (if_true _ _ _ (eq-eqb _ 0 (sym c.kept_at-shift.ensures.0 ∙ c.if-shift-eq0.true)))

overflow_add-result : tie.Need-overflow_add-result
overflow_add-result c = omega (arith, c.kept_at-other.ensures.1, c.requires)

overflow_add-result-2 : tie.Need-overflow_add-result-2
overflow_add-result-2 c = omega (arith, c.kept_at-shift.ensures.1, c.requires)

returns : tie.Need-returns
unfolding fitting
returns c =
    let b = c.args in
    ap₂ (λ (p q : ℕ). eqb (q + b.up) (p + b.down)) c.kept_at-shift.ensures.0 c.kept_at-other.ensures.0
    ∙ sym (if_false _ _ _ (ne_eqb _ 0 (λ e. c.if-shift-eq0.false (c.kept_at-shift.ensures.0 ∙ e))))

pub shifts_fit_spec : {M : Type 1} → statement M
shifts_fit_spec =
    tie.close
    (tie.spec
    overflow_mul-f
    overflow_add-f
    kept_at-shift-requires
    overflow_mul-g
    overflow_add-g
    kept_at-other-requires
    returns-then-shift-eq0
    overflow_add-result
    overflow_add-result-2
    returns)
