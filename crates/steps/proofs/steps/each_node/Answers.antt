use Rattle.std.proofs.Common.{refl, sym, ◌∙◌, arith}
use Rattle.std.proofs.lemmas.Result.{err_from_is_err_and}
use Rattle.stab.proofs.Scans.{scan_nothing, scan_more, scan_found}
use Rattle.steps.proofs.steps.each_node.Goals as goal

pub loop-j-init : goal.loop-j-init
loop-j-init c = record { found = scan_nothing _ 0 (λ k l. absurd (omega arith)); remembers = c.requires.remembers.0; as_long = refl }

pub returns-in_err-judge-clause-value : goal.returns-in_err-judge-clause-value
returns-in_err-judge-clause-value c =
    let p = err_from_is_err_and c.from_residual.result c.from_residual.ensures.1 in
    rw (p.1, p.2) (sym (scan_found _ _ _ (omega arith) c.loop-j.invariant.found (sym c.in_err-judge.ensures.value)))

pub loop-j-preserved : goal.loop-j-preserved
loop-j-preserved c = record {
  found = scan_more _ _ c.loop-j.invariant.found (sym c.in_ok-judge.ensures.value);
  remembers = c.judge.ensures.remembers_2;
  as_long = c.judge.auto.agreed ∙ c.loop-j.invariant.as_long;
}
