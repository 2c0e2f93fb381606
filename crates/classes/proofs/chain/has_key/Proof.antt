use native.Mathlib.Omega.{arith}
use mathlib.Core.Path.{◌≡◌, sym, ◌∙◌, ap}
use borrow.Author.Rules.{rules}
use Prim.Native.Nat.{ℕ}
use lib.Dec.{eqb}
use Rattle.stab.specs.Basic.{nat}
use Rattle.stab.specs.Formula.{formula_rows}
use borrow.Author.Tests.{eq-eqb, ne_eqb}
use Rattle.stab.proofs.Bools.{and_first_false, and_first_true}
use Rattle.formula.specs.Column.{column}
use Rattle.classes.proofs.chain.has_key.Statement.{statement}
use Rattle.classes.proofs.chain.has_key.Tie as tie

abbrev kind_in : tie.Start → ℕ
kind_in b = nat (formula_rows b.args.schema.now b.args.s b.args.proof.now b.args.q).kind

-- past the first test the kinds are the same
kinds_same : (c : tie.Else-natural_in-kind) → kind_in c.before.before.before ≡ c.args.kind
unfolding column
kinds_same c = omega (arith, c.natural_in.ensures, c.if-natural_in-kind.false)

natural_in-requires : tie.Need-natural_in-requires
natural_in-requires c κs = search rules

returns-then-natural_in-kind : tie.Need-returns-then-natural_in-kind
unfolding column
returns-then-natural_in-kind c =
    sym (and_first_false _ _ (ne_eqb (kind_in c.before.before.before) c.args.kind (λ e. omega (arith, c.natural_in.ensures, c.if-natural_in-kind.true))))

overflow_mul-q : tie.Need-overflow_mul-q
overflow_mul-q c = search rules

held_at-requires : tie.Need-held_at-requires
held_at-requires c κs = search rules

returns-then-held_at-low : tie.Need-returns-then-held_at-low
unfolding column
returns-then-held_at-low c =
    sym
    (and_first_true _ _ (eq-eqb _ _ (kinds_same c.before.before))
    ∙ and_first_false _ _ (ne_eqb _ _ (λ e. c.if-held_at-low.true (c.held_at.ensures.0 ∙ e))))

overflow_mul-q-2 : tie.Need-overflow_mul-q-2
overflow_mul-q-2 c = search rules

overflow_add-q : tie.Need-overflow_add-q
overflow_add-q c = search rules

held_at-requires-2 : tie.Need-held_at-requires-2
held_at-requires-2 c κs = search rules

returns : tie.Need-returns
unfolding column
returns c =
    ap (λ (n : ℕ). eqb n c.args.high) c.held_at-2.ensures.0
    ∙ sym
    (and_first_true _ _ (eq-eqb _ _ (kinds_same c.before.before.before))
    ∙ and_first_true _ _ (eq-eqb _ _ (sym c.held_at.ensures.0 ∙ c.if-held_at-low.false)))

pub has_key_spec : {M : Type 1} → statement M
has_key_spec =
    tie.close
    (tie.spec
    natural_in-requires
    returns-then-natural_in-kind
    overflow_mul-q
    held_at-requires
    returns-then-held_at-low
    overflow_mul-q-2
    overflow_add-q
    held_at-requires-2
    returns)
