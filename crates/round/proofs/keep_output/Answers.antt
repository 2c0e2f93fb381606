use mathlib.Core.Path.{◌∙◌}
use Rattle.round.proofs.Kept.{refused_kept, read_kept}
use Rattle.round.proofs.keep_output.Goals as goal

pub returns-then-is_err : goal.returns-then-is_err
returns-then-is_err g c = c.clear.ensures ∙ refused_kept 0 c.args.read.now _ c.if-is_err.ensures.value

pub returns-else-is_err : goal.returns-else-is_err
returns-else-is_err g c = read_kept 0 c.args.read.now _ c.if-is_err.ensures.value
