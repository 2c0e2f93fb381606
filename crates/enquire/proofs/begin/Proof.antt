use borrow.Author.Rules.{rules}
use native.Mathlib.Omega.{arith}
use mathlib.Core.Path.{◌≡◌, ◌∙◌}
use lib.ListN.{length}
use Rattle.signed.proofs.Tables.{cleared_padded}
use Rattle.growing.specs.Enquiry.{nothing_waits, opened}
use Rattle.enquire.proofs.begin.Statement.{statement}
use Rattle.enquire.proofs.begin.Tie as tie

clear-requires : tie.Need-clear-requires
clear-requires c κs = search rules

begin-requires : tie.Need-begin-requires
begin-requires c κs = search rules

shape_of-nodes : tie.Need-shape_of-nodes
shape_of-nodes c = search rules

shape_of-members : tie.Need-shape_of-members
shape_of-members c = search rules

returns : tie.Need-returns
unfolding opened nothing_waits
returns c =
    let a = c.args in
    let l : length a.waiting.now ≡ 1033 = search rules in (
      c.begin.ensures.0,
      λ i. record { held = c.begin.ensures.1 i; waiting = (c.clear.ensures ∙ cleared_padded a.waiting.now 0 1033 (omega arith) l) i },
    )

pub begin_spec : {M : Type 1} → statement M
begin_spec = tie.close (tie.spec clear-requires begin-requires shape_of-nodes shape_of-members returns)
