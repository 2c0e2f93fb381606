use Rattle.std.proofs.Common.{refl, sym, ◌∙◌, arith}
use Rattle.std.proofs.lemmas.Result.{err_from_is_err_and}
use Rattle.stab.proofs.Scans.{scan_nothing, scan_more, scan_found}
use Rattle.formula.specs.Rows.{facts_table}
use Rattle.formula.proofs.RowLaws.{passed_none, never, table_none, table_more, table_stays}
use Rattle.repeats.proofs.Links.{linked_none}
use Rattle.formula_pass.proofs.each.Goals as goal

pub loop-r-init : goal.loop-r-init
unfolding facts_table
loop-r-init c = record {
  facts_long = refl;
  next_long = refl;
  heads_long = refl;
  found = scan_nothing _ 0 (λ k l. absurd (omega arith));
  passed = passed_none _ _;
  linked = λ f. linked_none _ _ _ (c.requires.h_value f);
  table = table_none _ _ _ _;
}

pub row-requires : goal.row-requires
row-requires c =
    let l = c.loop-r in
    record {
      r_bound = (omega (arith, c.requires.n_bound), omega (arith, c.requires.n_bound), λ f. (omega (arith, c.requires.n_bound.2 f), omega (arith, c.requires.n_bound.2 f)));
      passed = l.invariant.passed;
      linked = l.invariant.linked;
    }

pub returns-in_err-row : goal.returns-in_err-row
unfolding facts_table
returns-in_err-row c =
    let l = c.loop-r in
    let p = err_from_is_err_and c.from_residual.result c.from_residual.ensures.1 in
    let found = sym c.in_err-row.ensures.value in
    let h = scan_found _ _ _ (omega arith) l.invariant.found found in
    record {
      value = rw (p.1, p.2) (sym h);
      passed = never (sym h);
      facts_after =
          table_more _ _ _ _ _ l.invariant.found l.invariant.table c.in_err-row.ensures.facts_after
          ∙ sym (table_stays _ _ _ _ _ _ (scan_found _ _ _ (omega arith) l.invariant.found found) (omega arith));
    }

pub loop-r-preserved : goal.loop-r-preserved
unfolding facts_table
loop-r-preserved c =
    let l = c.loop-r in
    let w = c.in_ok-row.ensures in
    record {
      facts_long = c.row.auto.facts ∙ l.invariant.facts_long;
      next_long = c.row.auto.next ∙ l.invariant.next_long;
      heads_long = c.row.auto.heads ∙ l.invariant.heads_long;
      found = scan_more _ _ l.invariant.found (sym w.value);
      passed = w.passed_2 refl;
      linked = λ f. w.linked_2 refl f;
      table = table_more _ _ _ _ _ l.invariant.found l.invariant.table w.facts_after;
    }
