use borrow.Author.Rules.{rules}
use native.Mathlib.Omega.{arith}
use mathlib.Core.Path.{◌∙◌}
use Rattle.signed.proofs.Tables.{cleared_padded}
use Rattle.growing.specs.Enquiry.{nothing_waits}
use Rattle.enquire.proofs.memory.empty.Statement.{statement}
use Rattle.enquire.proofs.memory.empty.Tie as tie

clear-requires : tie.Need-clear-requires
clear-requires c κs = search rules

shape_of-waiting : tie.Need-shape_of-waiting
shape_of-waiting c = search rules

returns : tie.Need-returns
unfolding nothing_waits
returns c =
    c.clear.ensures ∙ cleared_padded c.args.waiting.now 0 1033 (omega arith) c.requires

pub empty_spec : {M : Type 1} → statement M
empty_spec =
    tie.close
    (tie.spec
    clear-requires
    shape_of-waiting
    returns)
