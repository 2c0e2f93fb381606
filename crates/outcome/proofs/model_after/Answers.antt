use Rattle.std.proofs.Common.{ℤ, ◌∙◌, ap}
use Rattle.stab.specs.Read.{read_model}
use Rattle.stab.specs.Finding.{Verdict}
use Rattle.outcome.specs.declared.Outcome.TheVariants.{Judged}
use Rattle.outcome.proofs.Digits.{model_back}
use Rattle.outcome.proofs.Afters.{judged_model, model_read_lem, model_refused}
use Rattle.outcome.proofs.model_after.Goals as goal

pub returns-in-Ok : goal.returns-in-Ok
returns-in-Ok c =
    let a = c.args in
    let m = c.in-Ok.m in
    let e = c.in-Ok.ensures in
    let pairs = c.read_model.new.table in
    ap (λ (v : Verdict). Judged v a.h.rows 0) c.check_model.ensures.value
    ∙ ap (λ (x : ℤ). judged_model a.table.now a.h x pairs m.pairs) (model_back a.model.now m e.answer)
    ∙ model_read_lem (read_model 8192 a.model.now) a.table.now a.h m pairs e.answer e.pairs

pub returns-in-Err : goal.returns-in-Err
returns-in-Err c =
    let a = c.args in
    model_refused (read_model 8192 a.model.now) a.table.now a.h _ _ c.in-Err.ensures.answer
