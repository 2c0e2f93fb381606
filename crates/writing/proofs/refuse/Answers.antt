use mathlib.Core.Path.{◌∙◌, ap}
use Rattle.std.specs.Prelude.{Err}
use Rattle.stab.specs.Write.{written, output}
use Rattle.digits.proofs.Overs.{padded_none}
use Rattle.writing.proofs.refuse.Goals as goal

pub returns : goal.returns
unfolding written output
returns c = (ap Err c.whole.ensures, c.clear.ensures ∙ padded_none _)
