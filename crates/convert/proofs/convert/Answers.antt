-- What is found of the wide rows is what the converter finds.
use Rattle.std.proofs.Common.{sym, ◌∙◌, length}
use Rattle.wide.specs.Convert.{lent_wide}
use Rattle.convert.proofs.AnswerLaws.{input_found, answer_some}
use Rattle.convert.proofs.convert.Goals as goal

pub returns-in-Err : goal.returns-in-Err
returns-in-Err c =
    let a = c.args in
    let w = lent_wide a.wide.now a.h (length a.plain.now) in
    let h = answer_some w _ _ (input_found w (sym c.in-Err.ensures)) in
    record { answer = c.turn_away.ensures.0 ∙ h.0; table = c.turn_away.ensures.1 ∙ h.1 }
