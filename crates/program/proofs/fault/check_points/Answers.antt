use mathlib.Core.Path.{sym, ◌∙◌, ap}
use Rattle.stab.specs.Program.{in_second, check_points}
use Rattle.stab.proofs.Bools.{if_true, if_false}
use Rattle.program.proofs.fault.check_points.Goals as goal

pub returns-then-among : goal.returns-then-among
unfolding check_points
returns-then-among c =
    c.row_fault.ensures
    ∙ sym (if_true _ _ _ (sym c.among.ensures ∙ c.if-among.true))

pub returns-then-among-2 : goal.returns-then-among-2
unfolding check_points
returns-then-among-2 c =
    c.in_second.ensures
    ∙ ap in_second c.node_line.ensures
    ∙ sym (if_false _ _ _ (sym c.among.ensures ∙ c.if-among.false)
    ∙ if_true _ _ _ (sym c.among-2.ensures ∙ c.if-among-2.true))

pub returns-then-among-3 : goal.returns-then-among-3
unfolding check_points
returns-then-among-3 c =
    c.row_fault-then-among-3.ensures
    ∙ sym (if_false _ _ _ (sym c.among.ensures ∙ c.if-among.false)
    ∙ if_false _ _ _ (sym c.among-2.ensures ∙ c.if-among-2.false)
    ∙ if_true _ _ _ (sym c.among-3.ensures ∙ c.if-among-3.true))

pub returns : goal.returns
unfolding check_points
returns c =
    c.none.ensures
    ∙ sym (if_false _ _ _ (sym c.among.ensures ∙ c.if-among.false)
    ∙ if_false _ _ _ (sym c.among-2.ensures ∙ c.if-among-2.false)
    ∙ if_false _ _ _ (sym c.among-3.ensures ∙ c.if-among-3.false))
