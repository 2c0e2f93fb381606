-- A row that is refused stops the pass; one that is not gives its numbers to the table.
use Rattle.std.proofs.Common.{ℕ, ◌+◌, ◌<◌, List, sym, ◌∙◌, subst, arith}
use Rattle.std.proofs.lemmas.Result.{err_from_is_err_and}
use Rattle.stab.specs.Formula.{formula_rows}
use Rattle.stab.proofs.Scans.{scan_nothing, scan_more, scan_found}
use Rattle.formula.proofs.RowLaws.{never, table_none, table_more, table_stays}
use Rattle.widerows.specs.WideRows.{wide_table, WidePassed}
use Rattle.widerows.proofs.WideLaws.{passed_none, passed_more}
use Rattle.widerows.proofs.each.Goals as goal

pub loop-r-init : goal.loop-r-init
unfolding wide_table
loop-r-init c =
    record { found = scan_nothing _ 0 (λ k l. absurd (omega arith)); passed = passed_none _ _; table = table_none _ _ _ _ }

pub returns-in_err-step : goal.returns-in_err-step
unfolding wide_table
returns-in_err-step c =
    let l = c.loop-r in
    let r_in : l.r < c.args.n = omega arith in
    let r_near : l.r < l.r + 1 = omega arith in
    let refused = sym c.step.ensures.value ∙ c.in_err-step.was in
    let first = scan_found _ _ _ r_in l.invariant.found refused in
    record {
      value = let p = err_from_is_err_and c.from_residual.result c.from_residual.ensures.1 in rw (p.1, p.2) (sym first);
      wide_passed = never (sym first);
      facts_after = table_more _ _ _ _ _ l.invariant.found l.invariant.table c.step.ensures.facts_after
          ∙ sym (table_stays _ _ _ _ (l.r + 1) c.args.n (scan_found _ _ _ r_near l.invariant.found refused) (omega arith));
    }

pub loop-r-preserved : goal.loop-r-preserved
unfolding wide_table
loop-r-preserved c =
    let l = c.loop-r in
    let a = c.args in
    let passes = sym c.step.ensures.value ∙ c.in_ok-step.was in
    record {
      found = scan_more _ _ l.invariant.found passes;
      passed = subst
          (λ (t : List ℕ). WidePassed (formula_rows a.schema.now a.s a.proof.now) t (l.r + 1))
          (sym c.step.ensures.facts_after)
          (passed_more _ _ _ l.invariant.passed (omega arith) passes);
      table = table_more _ _ _ _ _ l.invariant.found l.invariant.table c.step.ensures.facts_after;
    }
