use borrow.Author.Rules.{rules}
use native.Mathlib.Omega.{arith}
use mathlib.Core.Path.{◌≡◌, sym, ◌∙◌, ap}
use Rattle.stab.specs.Basic.{nat}
use Rattle.stab.specs.Formula.{Row, row_at}
use Rattle.tidied.specs.Tidied.{through, new_number}
use Rattle.signed.proofs.Signs.{read_back}
use Rattle.folds.proofs.Parts.{plain_low, right_part, right_plain}
use Rattle.folds.proofs.row.right.Statement.{statement}
use Rattle.folds.proofs.row.right.Tie as tie

overflow_mul-k : tie.Need-overflow_mul-k
overflow_mul-k c = search rules

natural_at-kind-requires : tie.Need-natural_at-kind-requires
natural_at-kind-requires c κs = search rules

overflow_mul-k-2 : tie.Need-overflow_mul-k-2
overflow_mul-k-2 c = search rules

overflow_add-k : tie.Need-overflow_add-k
overflow_add-k c = search rules

at-b-requires : tie.Need-at-b-requires
at-b-requires c κs = search rules

abbrev row : tie.After-at-b → Row
row c = row_at c.args.proof.now c.args.k

-- what was read
kind : (c : tie.After-at-b) → c.natural_at-kind.result ≡ nat (row c).kind
unfolding row_at
kind c = c.natural_at-kind.ensures.0

column : (c : tie.After-at-b) → mir.Val.to_z mir.Syntax.w32 (mir.Val.of_z mir.Syntax.w32 c.at-b.result) ≡ (row c).b
unfolding row_at
column c = read_back _ c.at-b.type_inv ∙ c.at-b.ensures

returns-then-kind-lt4 : tie.Need-returns-then-kind-lt4
returns-then-kind-lt4 c = column c.before ∙ sym (ap (λ (v : Row). v.b) (plain_low _ (row c.before) (omega (arith, kind c.before, c.if-kind-lt4.true))))

through-requires : tie.Need-through-requires
through-requires c κs = search rules

returns-then-kind-lt6 : tie.Need-returns-then-kind-lt6
returns-then-kind-lt6 c =
    let a = c.args in
    read_back _ c.through.type_inv
    ∙ c.through.ensures
    ∙ ap (through (new_number a.s a.numbers.now)) (column c.before.before.before)
    ∙ sym (right_part _ (row c.before.before.before) (omega (arith, kind c.before.before.before, c.if-kind-lt4.false)) (omega (arith, kind c.before.before.before, c.if-kind-lt6.true)))

returns : tie.Need-returns
returns c =
    column c.before.before ∙ sym (right_plain _ (row c.before.before) (omega (arith, kind c.before.before, c.if-kind-lt6.false)))

pub right_spec : {M : Type 1} → statement M
right_spec =
    tie.close
    (tie.spec
    overflow_mul-k
    natural_at-kind-requires
    overflow_mul-k-2
    overflow_add-k
    at-b-requires
    returns-then-kind-lt4
    through-requires
    returns-then-kind-lt6
    returns)
