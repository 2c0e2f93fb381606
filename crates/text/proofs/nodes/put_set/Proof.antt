use Prim.Native.Nat.{◌+◌, ◌-◌}
use mathlib.Core.Path.{◌∙◌, ap}
use mathlib.Core.List.{List}
use lib.IntN.{ℤ, pos}
use lib.ListN.{set}
use borrow.Author.Rules.{rules}
use Rattle.text.proofs.nodes.put_set.Statement.{statement}
use Rattle.text.proofs.nodes.put_set.Tie as tie

put_natural-requires : tie.Need-put_natural-requires
put_natural-requires c κs = search rules

overflow_add-k : tie.Need-overflow_add-k
overflow_add-k c = search rules

overflow_sub-last : tie.Need-overflow_sub-last
overflow_sub-last c = search rules

put_natural-requires-2 : tie.Need-put_natural-requires-2
put_natural-requires-2 c κs = search rules

shape_of-nodes : tie.Need-shape_of-nodes
shape_of-nodes c = search rules

returns : tie.Need-returns
returns c =
    let a = c.args in
    c.put_natural-2.ensures ∙ ap (λ (u : List ℤ). set u (a.k + 1) (pos (a.last - a.start))) c.put_natural.ensures

pub put_set_spec : {M : Type 1} → statement M
put_set_spec =
    tie.close
    (tie.spec
    put_natural-requires
    overflow_add-k
    overflow_sub-last
    put_natural-requires-2
    shape_of-nodes
    returns)
