-- The root and the least value are looked at first, then the rows, then the root's numbers.
use Rattle.std.proofs.Common.{ℕ, ◌≡◌, ◌<◌, Bool, true, not, ℤ, Err, w32, to_z, of_z, sym, ◌∙◌, ap, ap₂, subst, arith, rules}
use Rattle.std.proofs.lemmas.Result.{err_from_is_err_and}
use Rattle.stab.specs.Basic.{nat, scan}
use Rattle.stab.specs.Check.{root_fits}
use Rattle.stab.specs.Formula.{Row, row_at}
use Rattle.stab.proofs.Bools.{and_left, if_true, if_false}
use Rattle.stab.proofs.Trees.{below_nat}
use Rattle.wide.specs.WideFormula.{wide_tree, wide_loose, is_wide_outer}
use Rattle.wide.specs.Convert.{wide_row_refusal, wide_refusal}
use Rattle.formula.specs.Rows.{facts_at}
use Rattle.formula.specs.declared.rows.Facts.{Facts}
use Rattle.formula.proofs.Columns.{formula_rows_part}
use Rattle.formula.proofs.RowLaws.{fails, passes, bit_zero, bit_one, formulas_root, formulas_row, formulas_loose, formulas_none}
use Rattle.widerows.specs.WideRows.{wide_facts_of, wide_table, wide_rows_table, WidePassed}
use Rattle.widerows.proofs.wide_rows.Goals as goal

-- what was said of the root and the least value
said : (n : ℕ) (root least : ℤ) {t : Bool} → t ≡ root_fits n (to_z w32 (of_z w32 root)) (to_z w32 (of_z w32 least)) → to_z w32 (of_z w32 root) ≡ root → to_z w32 (of_z w32 least) ≡ least → t ≡ root_fits n root least
said n root least h p q = h ∙ ap₂ (root_fits n) p q

pub returns-then-not-root_fits : goal.returns-then-not-root_fits
unfolding wide_refusal is_wide_outer wide_rows_table
returns-then-not-root_fits c =
    let h = c.args.h in
    let unfit = fails _ (said h.rows h.root h.least c.root_fits.ensures (search rules) (search rules)) (ap not c.if-not-root_fits.true) in
    record {
      value = ap Err c.whole.ensures ∙ formulas_root _ _ _ _ _ (wide_loose (wide_tree (row_at c.args.wide.now) (nat h.root))) unfit;
      facts_after = sym (if_false _ _ _ unfit);
    }

pub returns-in_err-each : goal.returns-in_err-each
unfolding wide_refusal is_wide_outer wide_rows_table
returns-in_err-each c =
    let a = c.args in
    let h = a.h in
    let fits = passes _ (said h.rows h.root h.least c.root_fits.ensures (search rules) (search rules)) (ap not c.if-not-root_fits.false) in
    let e = c.each.ensures in
    let part = formula_rows_part a.wide.now h.rows in
    let found = sym c.in_err-each.was ∙ e.value ∙ ap (λ (w : ℕ → Row). scan (wide_row_refusal w) h.rows) part in
    let p = err_from_is_err_and c.from_residual.result c.from_residual.ensures.1 in
    record {
      value = rw (p.1, p.2) (formulas_row _ _ _ _ _ (wide_loose (wide_tree (row_at a.wide.now) (nat h.root))) fits found);
      facts_after = e.facts_after ∙ ap (λ (w : ℕ → Row). wide_table w a.facts.now h.rows) part ∙ sym (if_true _ _ _ fits);
    }

-- the root is a row
root_less : (n : ℕ) (root least : ℤ) → root_fits n root least ≡ true → nat root < n
unfolding root_fits
root_less n root least h = below_nat _ _ (and_left _ _ h)

pub known-f-requires : goal.known-f-requires
known-f-requires c =
    let a = c.args in
    let h = a.h in
    let fits = passes _ (said h.rows h.root h.least c.root_fits.ensures (search rules) (search rules)) (ap not c.if-not-root_fits.false) in
    let e = c.each.ensures in
    let passed = e.wide_passed (sym e.value ∙ c.in_ok-each.was) in
    let natural : c.natural.result ≡ nat h.root = c.natural.ensures ∙ ap nat (search rules) in
    omega (arith, root_less h.rows h.root h.least fits, passed.room)

pub returns-then-f-eq0 : goal.returns-then-f-eq0
unfolding wide_refusal is_wide_outer wide_facts_of wide_rows_table
returns-then-f-eq0 c =
    let a = c.args in
    let h = a.h in
    let rows = row_at a.wide.now in
    let fits = passes _ (said h.rows h.root h.least c.root_fits.ensures (search rules) (search rules)) (ap not c.if-not-root_fits.false) in
    let e = c.each.ensures in
    let part = formula_rows_part a.wide.now h.rows in
    let found = sym c.in_ok-each.was ∙ e.value ∙ ap (λ (w : ℕ → Row). scan (wide_row_refusal w) h.rows) part in
    let passed = subst (λ (w : ℕ → Row). WidePassed w c.each.new.facts h.rows) part (e.wide_passed (sym e.value ∙ c.in_ok-each.was)) in
    let natural : c.natural.result ≡ nat h.root = c.natural.ensures ∙ ap nat (search rules) in
    let known = c.known-f.ensures ∙ ap (facts_at _) natural ∙ passed.known _ (root_less h.rows h.root h.least fits) in
    let tight = bit_zero (wide_loose (wide_tree rows (nat h.root))) (sym (ap (λ (f : Facts). f.loose) known) ∙ c.if-f-eq0.true) in
    record {
      value = formulas_none _ _ _ _ _ _ fits (sym found) tight;
      facts_after = e.facts_after ∙ ap (λ (w : ℕ → Row). wide_table w a.facts.now h.rows) part ∙ sym (if_true _ _ _ fits);
    }

pub returns : goal.returns
unfolding wide_refusal is_wide_outer wide_facts_of wide_rows_table
returns c =
    let a = c.args in
    let h = a.h in
    let rows = row_at a.wide.now in
    let fits = passes _ (said h.rows h.root h.least c.root_fits.ensures (search rules) (search rules)) (ap not c.if-not-root_fits.false) in
    let e = c.each.ensures in
    let part = formula_rows_part a.wide.now h.rows in
    let found = sym c.in_ok-each.was ∙ e.value ∙ ap (λ (w : ℕ → Row). scan (wide_row_refusal w) h.rows) part in
    let passed = subst (λ (w : ℕ → Row). WidePassed w c.each.new.facts h.rows) part (e.wide_passed (sym e.value ∙ c.in_ok-each.was)) in
    let natural : c.natural.result ≡ nat h.root = c.natural.ensures ∙ ap nat (search rules) in
    let known = c.known-f.ensures ∙ ap (facts_at _) natural ∙ passed.known _ (root_less h.rows h.root h.least fits) in
    let loose = bit_one (wide_loose (wide_tree rows (nat h.root))) (λ q. c.if-f-eq0.false (ap (λ (f : Facts). f.loose) known ∙ q)) in
    record {
      value = ap Err c.whole-2.ensures ∙ formulas_loose _ _ _ _ _ _ fits (sym found) loose;
      facts_after = e.facts_after ∙ ap (λ (w : ℕ → Row). wide_table w a.facts.now h.rows) part ∙ sym (if_true _ _ _ fits);
    }
