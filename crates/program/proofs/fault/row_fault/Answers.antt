use mathlib.Core.Path.{sym, ◌∙◌, ap}
use Rattle.std.proofs.lemmas.Bool.{lt-ltb, le-ltb}
use Rattle.stab.specs.Program.{in_first, in_second, row_fault}
use Rattle.stab.proofs.Bools.{if_true, if_false}
use Rattle.program.proofs.fault.row_fault.Goals as goal

pub returns-then-r-s : goal.returns-then-r-s
unfolding row_fault
returns-then-r-s c =
    c.in_first.ensures
    ∙ ap in_first c.schema_row_line.ensures
    ∙ sym (if_true _ _ _ (lt-ltb _ _ c.if-r-s.true))

pub returns : goal.returns
unfolding row_fault
returns c =
    c.in_second.ensures
    ∙ ap in_second c.proof_row_line.ensures
    ∙ sym (if_false _ _ _ (le-ltb _ _ c.if-r-s.false))
