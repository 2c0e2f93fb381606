use Prim.Native.Nat.{ℕ, ◌+◌, ◌-◌}
use native.Mathlib.Omega.{arith}
use mathlib.Core.Path.{◌≡◌, refl, sym, ◌∙◌}
use mathlib.Core.Bool.{Bool, true, not}
use borrow.Author.Rules.{rules}
use borrow.Author.Tests.{eq-eqb, ne_eqb}
use Rattle.stab.specs.Basic.{nat}
use Rattle.stab.specs.Formula.{Row, row_at, tree, well_formed}
use Rattle.stab.specs.Meaning.{Assignment, value}
use Rattle.stab.specs.Model.{listed}
use Rattle.pairs.specs.Index.{unbiased}
use Rattle.pairs.specs.Reading.{symbol_value}
use Rattle.pairs.specs.Word.{word, word_at}
use Rattle.value.proofs.Values.{value_literal, signed_true, signed_false}
use Rattle.pairs.proofs.Words.{word_less, word_same, word_not}
use Rattle.value.proofs.literal_value.Statement.{statement}
use Rattle.value.proofs.literal_value.Tie as tie

abbrev row : tie.Start → Row
row c = row_at c.args.schema.now c.args.f

abbrev σ : tie.Start → Assignment
σ c = listed c.args.pairs.now c.args.count

-- the value of the symbol, and of the row, j further on
abbrev symbol_at : tie.Start → ℕ → Bool
symbol_at c j = symbol_value (σ c) c.args.n (row c) (unbiased (c.args.i + j))

abbrev value_at_lem : tie.Start → ℕ → Bool
value_at_lem c j = value (σ c) c.args.n (tree (row_at c.args.schema.now) c.args.f) (unbiased (c.args.i + j))

formed : (c : tie.Start) → well_formed (row_at c.args.schema.now) c.args.f ≡ true
formed c = c.requires.0.formed _ (omega arith)

symbol_word-w-requires : tie.Need-symbol_word-w-requires
symbol_word-w-requires c κs = search rules

overflow_mul-f : tie.Need-overflow_mul-f
overflow_mul-f c = search rules

natural_at-requires : tie.Need-natural_at-requires
natural_at-requires c κs = search rules

returns-then-natural_at-eq2 : tie.Need-returns-then-natural_at-eq2
unfolding row_at word_at
returns-then-natural_at-eq2 c =
    c.symbol_word-w.ensures
    ∙ word_same (symbol_at c.before.before.before) (value_at_lem c.before.before.before) c.args.width
    (λ j l.
    sym (signed_true _ _ (eq-eqb (nat (row c.before.before.before).kind) 2 (sym c.natural_at.ensures.0 ∙ c.if-natural_at-eq2.true)))
    ∙ sym (value_literal _ _ (formed c.before.before.before) _ refl c.requires.2.low c.requires.2.high _ _ _))

ones-requires : tie.Need-ones-requires
ones-requires c κs = search rules

overflow_sub-result : tie.Need-overflow_sub-result
unfolding word_at
overflow_sub-result c =
    omega (arith, c.ones.ensures, c.symbol_word-w.ensures, word_less (symbol_at c.before.before.before.before) c.args.width)

returns : tie.Need-returns
unfolding row_at word_at
returns c =
    let w = c.symbol_word-w in
    let turned : c.ones.result - w.result ≡ word (λ j. not (symbol_at c.before.before.before.before j)) c.args.width =
    omega (arith, c.ones.ensures, w.ensures, word_not (symbol_at c.before.before.before.before) c.args.width)
    in
    turned
    ∙ word_same (λ j. not (symbol_at c.before.before.before.before j)) (value_at_lem c.before.before.before.before) c.args.width
    (λ j l.
    sym (signed_false _ _ (ne_eqb (nat (row c.before.before.before.before).kind) 2 (λ e. c.if-natural_at-eq2.false (c.natural_at.ensures.0 ∙ e))))
    ∙ sym (value_literal _ _ (formed c.before.before.before.before) _ refl c.requires.2.low c.requires.2.high _ _ _))

pub literal_value_spec : {M : Type 1} → statement M
literal_value_spec =
    tie.close
    (tie.spec
    symbol_word-w-requires
    overflow_mul-f
    natural_at-requires
    returns-then-natural_at-eq2
    ones-requires
    overflow_sub-result
    returns)
