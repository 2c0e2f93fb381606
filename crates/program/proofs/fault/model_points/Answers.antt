use mathlib.Core.Path.{sym, ◌∙◌, ap}
use Rattle.stab.specs.Program.{in_first, in_second, model_points}
use Rattle.stab.proofs.Bools.{if_true, if_false}
use Rattle.program.proofs.fault.model_points.Goals as goal

pub returns-then-among : goal.returns-then-among
unfolding model_points
returns-then-among c =
    c.in_first.ensures
    ∙ ap in_first c.schema_row_line.ensures
    ∙ sym (if_true _ _ _ (sym c.among.ensures ∙ c.if-among.true))

pub returns-then-among-2 : goal.returns-then-among-2
unfolding model_points
returns-then-among-2 c =
    c.in_second.ensures
    ∙ ap in_second c.pair_line.ensures
    ∙ sym (if_false _ _ _ (sym c.among.ensures ∙ c.if-among.false)
    ∙ if_true _ _ _ (sym c.among-2.ensures ∙ c.if-among-2.true))

pub returns : goal.returns
unfolding model_points
returns c =
    c.none.ensures
    ∙ sym (if_false _ _ _ (sym c.among.ensures ∙ c.if-among.false)
    ∙ if_false _ _ _ (sym c.among-2.ensures ∙ c.if-among-2.false))
