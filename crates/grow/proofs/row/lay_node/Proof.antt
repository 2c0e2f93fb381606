use borrow.Author.Rules.{rules}
use Prim.Native.Nat.{◌*◌}
use mathlib.Core.Path.{◌∙◌, ap}
use mathlib.Core.List.{◌∷◌, []}
use lib.Seq.{sets}
use Rattle.signed.proofs.Signs.{read_back}
use Rattle.growing.specs.Growing.{node_numbers}
use Rattle.grow.specs.State.{row_from}
use Rattle.grow.proofs.row.lay_node.Statement.{statement}
use Rattle.grow.proofs.row.lay_node.Tie as tie

at-requires : tie.Need-at-requires
at-requires c κs = search rules

at-requires-2 : tie.Need-at-requires-2
at-requires-2 c κs = search rules

at-requires-3 : tie.Need-at-requires-3
at-requires-3 c κs = search rules

at-requires-4 : tie.Need-at-requires-4
at-requires-4 c κs = search rules

at-requires-5 : tie.Need-at-requires-5
at-requires-5 c κs = search rules

at-requires-6 : tie.Need-at-requires-6
at-requires-6 c κs = search rules

at-requires-7 : tie.Need-at-requires-7
at-requires-7 c κs = search rules

of-requires : tie.Need-of-requires
of-requires c κs = search rules

of-requires-2 : tie.Need-of-requires-2
of-requires-2 c κs = search rules

overflow_mul-n : tie.Need-overflow_mul-n
overflow_mul-n c = search rules

slice_bounds-lay_numbers-end : tie.Need-slice_bounds-lay_numbers-end
slice_bounds-lay_numbers-end c = search rules

lay_numbers-requires : tie.Need-lay_numbers-requires
lay_numbers-requires c κs = search rules

shape_of-nodes : tie.Need-shape_of-nodes
shape_of-nodes c = search rules

shape_of-saved : tie.Need-shape_of-saved
shape_of-saved c = search rules

returns : tie.Need-returns
unfolding node_numbers row_from
returns c =
    let a = c.args in (
      c.lay_numbers.ensures.0
          ∙ ap (sets a.nodes.now (9 * a.n))
          (λ x.
          (read_back _ c.at.type_inv ∙ c.at.ensures) x
          ∷ (read_back _ c.at-2.type_inv ∙ c.at-2.ensures) x
          ∷ (read_back _ c.at-3.type_inv ∙ c.at-3.ensures) x
          ∷ (read_back _ c.at-4.type_inv ∙ c.at-4.ensures) x
          ∷ (read_back _ c.at-5.type_inv ∙ c.at-5.ensures) x
          ∷ (read_back _ c.at-6.type_inv ∙ c.at-6.ensures) x
          ∷ (read_back _ c.at-7.type_inv ∙ c.at-7.ensures) x
          ∷ (read_back _ c.of.type_inv ∙ c.of.ensures) x
          ∷ (read_back _ c.of-2.type_inv ∙ c.of-2.ensures) x
          ∷ []),
      c.lay_numbers.ensures.1,
    )

pub lay_node_spec : {M : Type 1} → statement M
lay_node_spec =
    tie.close
    (tie.spec
    at-requires
    at-requires-2
    at-requires-3
    at-requires-4
    at-requires-5
    at-requires-6
    at-requires-7
    of-requires
    of-requires-2
    overflow_mul-n
    slice_bounds-lay_numbers-end
    lay_numbers-requires
    shape_of-nodes
    shape_of-saved
    returns)
