use mathlib.Core.Path.{◌≡◌}
use Rattle.text.specs.Awaiting.{left}
use Rattle.text.proofs.Reached.{Reached}
use Rattle.text.proofs.reader.read_lines.Given as goal

abbrev pub invariant-loop-r : goal.invariant-loop-r
invariant-loop-r l = record { same_text : l.r.text.now ≡ l.text; reached : Reached l.text l.fn.start l.initial.table l.initial.nodes l.initial.members l.r.at l.p l.table l.nodes l.members }

abbrev pub decreases-loop-r : goal.decreases-loop-r
decreases-loop-r l = left l.text l.r.at l.p
