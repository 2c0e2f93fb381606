use borrow.Author.Rules.{rules}
use mathlib.Core.Path.{◌∙◌, refl}
use lib.IntN.{pos}
use Rattle.signed.proofs.Tables.{cleared_all}
use Rattle.folds.proofs.Numbers.{padded_empty}
use Rattle.tidy.proofs.refuse.Statement.{statement}
use Rattle.tidy.proofs.refuse.Tie as tie

clear-requires : tie.Need-clear-requires
clear-requires c κs = search rules

clear-requires-2 : tie.Need-clear-requires-2
clear-requires-2 c κs = search rules

clear-requires-3 : tie.Need-clear-requires-3
clear-requires-3 c κs = search rules

shape_of-out_proof : tie.Need-shape_of-out_proof
shape_of-out_proof c = search rules

shape_of-out_nodes : tie.Need-shape_of-out_nodes
shape_of-out_nodes c = search rules

shape_of-out_members : tie.Need-shape_of-out_members
shape_of-out_members c = search rules

returns : tie.Need-returns
returns c = (
  refl,
  (
    c.clear.ensures ∙ cleared_all _ ∙ padded_empty (pos 0) _,
    (c.clear-2.ensures ∙ cleared_all _ ∙ padded_empty (pos 0) _, c.clear-3.ensures ∙ cleared_all _ ∙ padded_empty (pos 0) _),
  ),
)

pub refuse_spec : {M : Type 1} → statement M
refuse_spec =
    tie.close
    (tie.spec
    clear-requires
    clear-requires-2
    clear-requires-3
    shape_of-out_proof
    shape_of-out_nodes
    shape_of-out_members
    returns)
