use Prim.Native.Nat.{ℕ, min}
use native.Mathlib.Omega.{arith}
use mathlib.Core.Path.{◌≡◌, sym, ◌∙◌}
use borrow.Author.Rules.{rules}
use borrow.Author.Tests.{eq-eqb, ne_eqb}
use Rattle.stab.proofs.Bools.{if_true, if_false}
use Rattle.assigned.specs.Assignments.{looked_at}
use Rattle.assigned.proofs.looked_at.Statement.{statement}
use Rattle.assigned.proofs.looked_at.Tie as tie

overflow_mul-body : tie.Need-overflow_mul-body
overflow_mul-body c = search rules

overflow_add-body : tie.Need-overflow_add-body
overflow_add-body c = search rules

kept_at-requires : tie.Need-kept_at-requires
kept_at-requires c κs = search rules

-- at most one is looked at
one : (loose left r : ℕ) → loose ≡ 0 → r ≡ min 1 left → r ≡ looked_at loose left
unfolding looked_at
one loose left r e h = h ∙ sym (if_true _ _ _ (eq-eqb loose 0 e))

returns-then-left-eq0 : tie.Need-returns-then-left-eq0
returns-then-left-eq0 c = one _ _ 0 (sym c.kept_at.ensures.0 ∙ c.if-kept_at-eq0.true) (omega arith)

returns-else-left-eq0 : tie.Need-returns-else-left-eq0
returns-else-left-eq0 c = one _ _ 1 (sym c.kept_at.ensures.0 ∙ c.if-kept_at-eq0.true) (omega arith)

returns : tie.Need-returns
unfolding looked_at
returns c = sym (if_false _ _ _ (ne_eqb _ 0 (λ e. c.if-kept_at-eq0.false (c.kept_at.ensures.0 ∙ e))))

pub looked_at_spec : {M : Type 1} → statement M
looked_at_spec =
    tie.close (tie.spec overflow_mul-body overflow_add-body kept_at-requires returns-then-left-eq0 returns-else-left-eq0 returns)
