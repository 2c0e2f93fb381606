use borrow.Author.Rules.{rules}
use mathlib.Core.Path.{◌∙◌, ap}
use Rattle.growing.specs.Lent.{reply_of}
use Rattle.grow.proofs.settle.Statement.{statement}
use Rattle.grow.proofs.settle.Tie as tie

hold-requires : tie.Need-hold-requires
hold-requires c κs = let p = c.requires in (p.2.few, p.0, p.1)

show-requires : tie.Need-show-requires
show-requires c κs = rw c.hold.ensures.0 c.requires.2

reply-requires : tie.Need-reply-requires
reply-requires c κs = search rules

shape_of-nodes : tie.Need-shape_of-nodes
shape_of-nodes c = search rules

shape_of-members : tie.Need-shape_of-members
shape_of-members c = search rules

returns : tie.Need-returns
returns c =
    (c.reply.ensures ∙ ap (reply_of c.args.h) c.show.ensures, (c.hold.ensures.0, c.hold.ensures.1))

pub settle_spec : {M : Type 1} → statement M
settle_spec = tie.close (tie.spec hold-requires show-requires reply-requires shape_of-nodes shape_of-members returns)
