-- The one number, by the definition of each part.
use Rattle.std.proofs.Common.{sym, ap, ◌∙◌}
use Rattle.stab.specs.Answer.{packed}
use Rattle.stab.proofs.Packed.{packed_acceptance, packed_refusal}
use Rattle.answer.proofs.pack.Goals as goal

pub returns-in-Ok : goal.returns-in-Ok
returns-in-Ok c = sym (ap packed c.in-Ok.is ∙ packed_acceptance c.in-Ok.field-0.nodes c.in-Ok.field-0.links)

pub returns-in-Err : goal.returns-in-Err
returns-in-Err c =
    rw (c.number.ensures, c.coded.ensures)
    (sym (ap packed c.in-Err.is ∙ packed_refusal c.in-Err.refused.why c.in-Err.refused.place))
