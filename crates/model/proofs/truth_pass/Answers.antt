-- The value that is looked up is that of the root at n.
use Rattle.std.proofs.Common.{ℕ, List, ℤ, pos, ◌≡◌, not, Err, sym, ◌∙◌, ap, ap₂, arith, rules, to_z-of_z}
use lib.Dec.{eqb}
use lib.Signed.{le_z}
use borrow.Author.Tests.{eq-eqb, ne_eqb}
use Rattle.stab.specs.Basic.{◌and◌, nat}
use Rattle.stab.specs.Formula.{row_at, tree}
use Rattle.stab.specs.Meaning.{value, truth}
use Rattle.stab.specs.Model.{listed}
use Rattle.stab.proofs.Bools.{false_of_not, true_of_not}
use Rattle.pairs.specs.Index.{unbiased}
use Rattle.pairs.specs.Word.{word_at}
use Rattle.pairs.proofs.Parts.{unbiased_zero}
use Rattle.pairs.proofs.Words.{word_one}
use Rattle.model.specs.Passes.{truth_refusal}
use Rattle.model.proofs.Passes.{n_small, whole_none, found_last, found_here, found_later}
use Rattle.model.proofs.truth_pass.Goals as goal

-- what the value says of the root at n
truth_is : (schema pairs : List ℤ) (k : ℕ) (root n : ℤ) {m f w : ℕ} → f ≡ nat root → m ≡ nat n → w ≡ word_at (value (listed pairs k) m (tree (row_at schema) f)) 65536 1
    → truth (listed pairs k) (nat n) (tree (row_at schema) (nat root)) ≡ eqb w 1
unfolding truth
truth_is schema pairs k root n {m} {f} {w} p q e =
    sym
    (ap (λ (v : ℕ). eqb v 1) e
    ∙ word_one (value (listed pairs k) m (tree (row_at schema) f)) 65536
    ∙ ap₂ (λ (m f : ℕ). value (listed pairs k) m (tree (row_at schema) f) (unbiased 65536)) q p
    ∙ ap (value (listed pairs k) (nat n) (tree (row_at schema) (nat root))) unbiased_zero)

pub returns-then-not-width_fits : goal.returns-then-not-width_fits
unfolding truth_refusal
returns-then-not-width_fits c =
    let a = c.args in
    let said : c.width_fits.result ≡ (le_z a.h.least a.n and le_z a.n (pos 9999)) =
    c.width_fits.ensures ∙ ap₂ (λ (l m : ℤ). le_z l m and le_z m (pos 9999)) (search rules) (to_z-of_z c.ranges.n) in
    found_here _ _ _ _ (ap Err c.whole.ensures) (sym said ∙ false_of_not _ (ap not c.if-not-width_fits.true))

pub formula_value-requires : goal.formula_value-requires
formula_value-requires c =
    let a = c.args in
    let said : c.width_fits.result ≡ (le_z a.h.least a.n and le_z a.n (pos 9999)) =
    c.width_fits.ensures ∙ ap₂ (λ (l m : ℤ). le_z l m and le_z m (pos 9999)) (search rules) (to_z-of_z c.ranges.n) in
    let fits = sym said ∙ true_of_not _ (ap not c.if-not-width_fits.false) in
    let root : c.natural-f.result ≡ nat a.h.root = c.natural-f.ensures ∙ ap nat (search rules) in
    let n : c.natural-m.result ≡ nat a.n = c.natural-m.ensures ∙ ap nat (to_z-of_z c.ranges.n) in (
      record {
        row = omega (arith, root, c.requires.row);
        formed = λ r p. c.requires.formed r (omega (arith, root));
        width = omega (arith, n, n_small a.h.least a.n fits);
        few = c.requires.few;
        sorted = c.requires.sorted;
      },
      omega arith,
    )

pub returns-then-formula_value-ne1 : goal.returns-then-formula_value-ne1
unfolding truth_refusal
returns-then-formula_value-ne1 c =
    let a = c.args in
    let said : c.width_fits.result ≡ (le_z a.h.least a.n and le_z a.n (pos 9999)) =
    c.width_fits.ensures ∙ ap₂ (λ (l m : ℤ). le_z l m and le_z m (pos 9999)) (search rules) (to_z-of_z c.ranges.n) in
    let fits = sym said ∙ true_of_not _ (ap not c.if-not-width_fits.false) in
    let root : c.natural-f.result ≡ nat a.h.root = c.natural-f.ensures ∙ ap nat (search rules) in
    let n : c.natural-m.result ≡ nat a.n = c.natural-m.ensures ∙ ap nat (to_z-of_z c.ranges.n) in
    let true_there = truth_is a.schema.now a.pairs.now a.pair_rows a.h.root a.n root n c.formula_value.ensures in
    found_later _ _ _ _ fits
    (found_last _ _ _ (ap Err c.whole-then-formula_value-ne1.ensures) (true_there ∙ ne_eqb _ _ c.if-formula_value-ne1.true))

pub returns : goal.returns
unfolding truth_refusal
returns c =
    let a = c.args in
    let said : c.width_fits.result ≡ (le_z a.h.least a.n and le_z a.n (pos 9999)) =
    c.width_fits.ensures ∙ ap₂ (λ (l m : ℤ). le_z l m and le_z m (pos 9999)) (search rules) (to_z-of_z c.ranges.n) in
    let fits = sym said ∙ true_of_not _ (ap not c.if-not-width_fits.false) in
    let root : c.natural-f.result ≡ nat a.h.root = c.natural-f.ensures ∙ ap nat (search rules) in
    let n : c.natural-m.result ≡ nat a.n = c.natural-m.ensures ∙ ap nat (to_z-of_z c.ranges.n) in
    let true_there = truth_is a.schema.now a.pairs.now a.pair_rows a.h.root a.n root n c.formula_value.ensures in
    found_later _ _ _ _ fits (sym (whole_none _ _ (true_there ∙ eq-eqb _ _ c.if-formula_value-ne1.false)))
