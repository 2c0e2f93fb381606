use Prim.Native.Nat.{ℕ, ◌+◌, ◌≤◌}
use native.Mathlib.Omega.{arith}
use mathlib.Core.Path.{◌≡◌, refl, sym, ◌∙◌, ap, ap₂}
use mathlib.Core.Bool.{true}
use lib.Dec.{eqb}
use lib.IntN.{ℤ, pos, ◌+ℤ◌}
use borrow.Author.Rules.{rules}
use Rattle.stab.specs.Basic.{within}
use Rattle.stab.specs.Formula.{Row, row_at, offset, base_of, well_formed}
use Rattle.stab.specs.Meaning.{Assignment, base}
use Rattle.stab.specs.Model.{listed}
use Rattle.stab.proofs.Bools.{and_left}
use Rattle.stab.proofs.Whole.{nat_pos}
use Rattle.pairs.specs.Index.{unbiased}
use Rattle.pairs.specs.Reading.{symbol_value}
use Rattle.pairs.specs.Word.{word_at}
use Rattle.pairs.proofs.Parts.{within_under, within_nat, moved_high, moved_more}
use Rattle.value.proofs.Values.{literal_symbol, literal_base, literal_offset, base_fixed, base_moves}
use Rattle.pairs.proofs.Words.{word_same, word_one}
use Rattle.value.proofs.symbol_word.Statement.{statement}
use Rattle.value.proofs.symbol_word.Tie as tie

abbrev row : tie.Start → Row
row c = row_at c.args.schema.now c.args.f

abbrev σ : tie.Start → Assignment
σ c = listed c.args.pairs.now c.args.count

formed : (c : tie.Start) → well_formed (row_at c.args.schema.now) c.args.f ≡ true
formed c = c.requires.0.formed _ (omega arith)

symbol : (c : tie.Start) → within (pos 0) (pos 255) (row c).a ≡ true
symbol c = literal_symbol _ _ (formed c) _ refl c.requires.2.low c.requires.2.high

based : (c : tie.Start) → within (pos 0) (pos 2) (row c).b ≡ true
based c = literal_base _ _ (formed c) _ refl c.requires.2.low c.requires.2.high

added : (c : tie.Start) → offset (row c).c ≡ true
added c = literal_offset _ _ (formed c) _ refl c.requires.2.low c.requires.2.high

base_of-requires : tie.Need-base_of-requires
base_of-requires c κs = search rules

overflow_mul-f : tie.Need-overflow_mul-f
overflow_mul-f c = search rules

overflow_add-f : tie.Need-overflow_add-f
overflow_add-f c = search rules

moved-x-requires : tie.Need-moved-x-requires
unfolding row_at offset
moved-x-requires c κs =
    record {
      start = omega arith;
      up = omega (arith, within_nat 9999 9999 _ (added c.before));
      down = omega (arith, within_under 9999 9999 _ (added c.before));
    }

overflow_mul-f-2 : tie.Need-overflow_mul-f-2
overflow_mul-f-2 c = search rules

overflow_add-f-2 : tie.Need-overflow_add-f-2
overflow_add-f-2 c = search rules

natural_at-symbol-requires : tie.Need-natural_at-symbol-requires
natural_at-symbol-requires c κs = search rules

overflow_mul-f-3 : tie.Need-overflow_mul-f-3
overflow_mul-f-3 c = search rules

overflow_add-f-3 : tie.Need-overflow_add-f-3
overflow_add-f-3 c = search rules

natural_at-requires : tie.Need-natural_at-requires
natural_at-requires c κs = search rules

-- the symbol, and how far its index lies from the end of what stands for one
module _ (c : tie.After-natural_at-symbol) where
  symbol_is : pos c.natural_at-symbol.result ≡ (row c.before.before.before).a
  unfolding row_at within
  symbol_is = ap pos c.natural_at-symbol.ensures.0 ∙ nat_pos _ (and_left _ _ (symbol c.before.before.before))

  symbol_few : c.natural_at-symbol.result ≤ 255
  unfolding row_at
  symbol_few = omega (arith, c.natural_at-symbol.ensures.0, within_nat 0 255 _ (symbol c.before.before.before))

  index_few : c.moved-x.result ≤ 95533
  unfolding row_at offset
  index_few = omega (arith, moved_high _ _ _ c.moved-x.ensures, within_nat 9999 9999 _ (added c.before.before.before))

  index_is : unbiased c.moved-x.result ≡ (base c.before.before.before.args.n (unbiased c.before.before.before.args.i) (base_of (row c.before.before.before).b) +ℤ (row c.before.before.before).c)
  unfolding row_at
  index_is = c.moved-x.ensures ∙ ap (λ (z : ℤ). z +ℤ (row c.before.before.before).c) c.base_of.ensures.1

listed_word-requires : tie.Need-listed_word-requires
listed_word-requires c κs =
    (c.requires.0.few, symbol_few c.before.before, omega arith, omega arith, omega (arith, index_few c.before.before), c.requires.0.sorted)

same-requires : tie.Need-same-requires
same-requires c κs = search rules

returns-then-natural_at-lt2 : tie.Need-returns-then-natural_at-lt2
unfolding row_at word_at symbol_value
returns-then-natural_at-lt2 c =
    let found = c.listed_word.result in
    c.same.ensures
    ∙ word_same (λ j. eqb found 1) (λ j. symbol_value (σ c.before.before.before.before.before.before.before) c.args.n (row c.before.before.before.before.before.before.before) (unbiased (c.args.i + j))) c.args.width
    (λ j l.
    ap (λ (m : ℕ). eqb m 1) c.listed_word.ensures
    ∙ word_one (σ c.before.before.before.before.before.before.before (pos c.natural_at-symbol.result)) c.moved-x.result
    ∙ ap₂ (σ c.before.before.before.before.before.before.before) (symbol_is c.before.before.before.before) (index_is c.before.before.before.before)
    ∙ ap (λ (z : ℤ). σ c.before.before.before.before.before.before.before (row c.before.before.before.before.before.before.before).a (z +ℤ (row c.before.before.before.before.before.before.before).c)) (base_fixed c.args.n _ _ (row c.before.before.before.before.before.before.before).b (based c.before.before.before.before.before.before.before) (omega (arith, c.natural_at.ensures.0, c.if-natural_at-lt2.true))))

listed_word-requires-2 : tie.Need-listed_word-requires-2
listed_word-requires-2 c κs =
    (c.requires.0.few, symbol_few c.before.before, omega arith, omega arith, omega (arith, index_few c.before.before), c.requires.0.sorted)

returns : tie.Need-returns
unfolding row_at word_at symbol_value
returns c =
    let moves : (i : ℤ) → (base c.args.n i (base_of (row c.before.before.before.before.before.before).b) +ℤ (row c.before.before.before.before.before.before).c) ≡ (i +ℤ (row c.before.before.before.before.before.before).c) =
    λ i. ap (λ (z : ℤ). z +ℤ (row c.before.before.before.before.before.before).c) (base_moves c.args.n i (row c.before.before.before.before.before.before).b (omega (arith, c.natural_at.ensures.0, c.if-natural_at-lt2.false)))
    in
    c.listed_word-2.ensures
    ∙ word_same _ (λ j. symbol_value (σ c.before.before.before.before.before.before) c.args.n (row c.before.before.before.before.before.before) (unbiased (c.args.i + j))) c.args.width
    (λ j l.
    ap₂ (σ c.before.before.before.before.before.before) (symbol_is c.before.before.before)
    (moved_more c.moved-x.result c.args.i j (row c.before.before.before.before.before.before).c (index_is c.before.before.before ∙ moves (unbiased c.args.i))
    ∙ sym (moves (unbiased (c.args.i + j)))))

pub symbol_word_spec : {M : Type 1} → statement M
symbol_word_spec =
    tie.close
    (tie.spec
    base_of-requires
    overflow_mul-f
    overflow_add-f
    moved-x-requires
    overflow_mul-f-2
    overflow_add-f-2
    natural_at-symbol-requires
    overflow_mul-f-3
    overflow_add-f-3
    natural_at-requires
    listed_word-requires
    same-requires
    returns-then-natural_at-lt2
    listed_word-requires-2
    returns)
