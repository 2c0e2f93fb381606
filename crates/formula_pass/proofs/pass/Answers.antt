-- The root and the least value, each row, and the root again.
use Rattle.std.proofs.Common.{◌≡◌, ◌<◌, sym, ◌∙◌, ap, not, true, Bool, arith, to_z-of_z, Err}
use mathlib.Core.Path.{ap₂}
use Rattle.std.proofs.lemmas.Result.{err_from_is_err_and}
use Rattle.stab.specs.Basic.{nat}
use Rattle.stab.specs.Check.{root_fits, formulas_refusal}
use Rattle.stab.specs.Formula.{formula_rows, tree, loose, is_outer}
use Rattle.stab.proofs.Bools.{and_left, if_true, if_false}
use Rattle.stab.proofs.Trees.{below_nat}
use Rattle.formula.specs.Rows.{facts_of, facts_at, formulas_table}
use Rattle.formula.proofs.RowLaws.{fails, passes, kept_facts_lem, loose_none, loose_some, formulas_root, formulas_row, formulas_loose, formulas_none, never}
use Rattle.formula_pass.proofs.pass.Goals as goal

pub returns-then-not-root_fits : goal.returns-then-not-root_fits
unfolding formulas_table formulas_refusal is_outer
returns-then-not-root_fits c =
    let a = c.args in
    let rows = formula_rows a.schema.now a.s a.proof.now in
    let loosely : Bool = loose (tree rows (nat a.root)) in
    let said : c.root_fits.result ≡ root_fits a.s a.root a.least =
    c.root_fits.ensures ∙ ap₂ (root_fits a.s) (to_z-of_z c.ranges.root) (to_z-of_z c.ranges.least) in
    let unfit = fails _ said (ap not c.if-not-root_fits.true) in
    let h = formulas_root _ _ _ _ _ loosely unfit in
    record { value = ap Err c.whole.ensures ∙ h; passed = never h; facts_after = sym (if_false _ _ _ unfit) }

pub returns-in_err-all : goal.returns-in_err-all
unfolding formulas_table formulas_refusal is_outer
returns-in_err-all c =
    let a = c.args in
    let rows = formula_rows a.schema.now a.s a.proof.now in
    let loosely : Bool = loose (tree rows (nat a.root)) in
    let said : c.root_fits.result ≡ root_fits a.s a.root a.least =
    c.root_fits.ensures ∙ ap₂ (root_fits a.s) (to_z-of_z c.ranges.root) (to_z-of_z c.ranges.least) in
    let fit : root_fits a.s a.root a.least ≡ true = passes _ said (ap not c.if-not-root_fits.false) in
    let p = err_from_is_err_and c.from_residual.result c.from_residual.ensures.1 in
    let h = formulas_row _ _ _ _ _ loosely fit c.in_err-all.ensures.value in
    record { value = rw (p.1, p.2) h; passed = never h; facts_after = c.in_err-all.ensures.facts_after ∙ sym (if_true _ _ _ fit) }

pub known-f-requires : goal.known-f-requires
unfolding root_fits
known-f-requires c =
    let a = c.args in
    let rows = formula_rows a.schema.now a.s a.proof.now in
    let loosely : Bool = loose (tree rows (nat a.root)) in
    let said : c.root_fits.result ≡ root_fits a.s a.root a.least =
    c.root_fits.ensures ∙ ap₂ (root_fits a.s) (to_z-of_z c.ranges.root) (to_z-of_z c.ranges.least) in
    let fit : root_fits a.s a.root a.least ≡ true = passes _ said (ap not c.if-not-root_fits.false) in
    let root_less : nat a.root < a.n = omega (arith, below_nat _ _ (and_left _ _ fit), c.requires) in
    let root_is : c.natural.result ≡ nat a.root = c.natural.ensures ∙ ap nat (to_z-of_z c.ranges.root) in
    omega (arith, root_is, root_less, (c.in_ok-all.ensures.passed (sym c.in_ok-all.ensures.value)).room)

pub returns-then-f-eq0 : goal.returns-then-f-eq0
unfolding root_fits formulas_table formulas_refusal is_outer
returns-then-f-eq0 c =
    let a = c.args in
    let rows = formula_rows a.schema.now a.s a.proof.now in
    let loosely : Bool = loose (tree rows (nat a.root)) in
    let said : c.root_fits.result ≡ root_fits a.s a.root a.least =
    c.root_fits.ensures ∙ ap₂ (root_fits a.s) (to_z-of_z c.ranges.root) (to_z-of_z c.ranges.least) in
    let fit : root_fits a.s a.root a.least ≡ true = passes _ said (ap not c.if-not-root_fits.false) in
    let root_less : nat a.root < a.n = omega (arith, below_nat _ _ (and_left _ _ fit), c.requires) in
    let root_is : c.natural.result ≡ nat a.root = c.natural.ensures ∙ ap nat (to_z-of_z c.ranges.root) in
    let found = sym c.in_ok-all.ensures.value in
    let passed = c.in_ok-all.ensures.passed found in
    let known : c.known-f.result ≡ facts_of (tree rows (nat a.root)) =
    c.known-f.ensures ∙ ap (facts_at _) root_is ∙ kept_facts_lem passed _ root_less in
    record {
      value = formulas_none _ _ _ _ _ _ fit found (loose_none _ known c.if-f-eq0.true);
      passed = λ _. passed;
      facts_after = c.in_ok-all.ensures.facts_after ∙ sym (if_true _ _ _ fit);
    }

pub returns : goal.returns
unfolding root_fits formulas_table formulas_refusal is_outer
returns c =
    let a = c.args in
    let rows = formula_rows a.schema.now a.s a.proof.now in
    let loosely : Bool = loose (tree rows (nat a.root)) in
    let said : c.root_fits.result ≡ root_fits a.s a.root a.least =
    c.root_fits.ensures ∙ ap₂ (root_fits a.s) (to_z-of_z c.ranges.root) (to_z-of_z c.ranges.least) in
    let fit : root_fits a.s a.root a.least ≡ true = passes _ said (ap not c.if-not-root_fits.false) in
    let root_less : nat a.root < a.n = omega (arith, below_nat _ _ (and_left _ _ fit), c.requires) in
    let root_is : c.natural.result ≡ nat a.root = c.natural.ensures ∙ ap nat (to_z-of_z c.ranges.root) in
    let found = sym c.in_ok-all.ensures.value in
    let passed = c.in_ok-all.ensures.passed found in
    let known : c.known-f.result ≡ facts_of (tree rows (nat a.root)) =
    c.known-f.ensures ∙ ap (facts_at _) root_is ∙ kept_facts_lem passed _ root_less in
    let h = formulas_loose _ _ _ _ _ _ fit found (loose_some _ known c.if-f-eq0.false) in
    record { value = ap Err c.whole-2.ensures ∙ h; passed = never h; facts_after = c.in_ok-all.ensures.facts_after ∙ sym (if_true _ _ _ fit) }
