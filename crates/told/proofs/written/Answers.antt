use Rattle.std.proofs.Common.{sym, ◌∙◌, ap}
use Rattle.stab.specs.Basic.{nat}
use Rattle.stab.specs.Answer.{written_numbers, one_number}
use Rattle.stab.specs.Entry.{without_counts, written_packed}
use Rattle.stab.proofs.Entries.{written_refused}
use Rattle.told.proofs.written.Goals as goal

pub returns-in-Ok : goal.returns-in-Ok
unfolding written_packed written_numbers without_counts one_number nat
returns-in-Ok c = ap written_packed (sym c.in-Ok.is)

pub returns-in-Err : goal.returns-in-Err
returns-in-Err c = c.pack.ensures ∙ written_refused c.in-Err.refused.why c.in-Err.refused.place ∙ ap written_packed (sym c.in-Err.is)
