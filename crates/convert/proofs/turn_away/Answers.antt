use Rattle.std.proofs.Common.{refl, ◌∙◌}
use Rattle.convert.proofs.WriteLaws.{emptied_is}
use Rattle.convert.proofs.turn_away.Goals as goal

pub returns : goal.returns
returns c = (refl, c.clear.ensures ∙ emptied_is _)
