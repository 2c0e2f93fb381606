use Rattle.jointnodes.specs.Kept.{or_node}
use Rattle.folds.proofs.Fronts.{sets_more}
use Rattle.signed.proofs.Signs.{read_back}
use lib.Seq.{sets, take-suc-set}
use lib.ListN.{take}
use lib.IntN.{ℤ, pos, neg_ℤ}
use mathlib.Core.List.{◌∷◌, []}
use mathlib.Core.Path.{◌∙◌, ap}
use native.Mathlib.Omega.{arith}
use borrow.Author.Rules.{rules}
use Rattle.jointnodes.proofs.node.put_first.Statement.{statement}
use Rattle.jointnodes.proofs.node.put_first.Tie as tie

of-root-requires : tie.Need-of-root-requires
of-root-requires c κs = search rules

slice_bounds-copy-end : tie.Need-slice_bounds-copy-end
slice_bounds-copy-end c = search rules

copy-requires : tie.Need-copy-requires
copy-requires c κs = search rules

bounds-out_members-0 : tie.Need-bounds-out_members-0
bounds-out_members-0 c = search rules

shape_of-out_nodes : tie.Need-shape_of-out_nodes
shape_of-out_nodes c = search rules

shape_of-out_members : tie.Need-shape_of-out_members
shape_of-out_members c = search rules

returns : tie.Need-returns
unfolding or_node
returns c =
    let a = c.args in
    let e = read_back _ c.of-root.type_inv ∙ c.of-root.ensures in (
      ap (take 9) (c.copy.ensures ∙ ap (sets a.out_nodes.now 0) (λ x. neg_ℤ (pos 1) ∷ pos 1 ∷ e x ∷ neg_ℤ (pos 1) ∷ neg_ℤ (pos 1) ∷ neg_ℤ (pos 1) ∷ pos 0 ∷ pos 0 ∷ pos 1 ∷ []))
          ∙ sets_more a.out_nodes.now (or_node a.or_row) 0 (omega (arith, c.requires.1)),
      take-suc-set a.out_members.now 0 _ (omega (arith, c.requires.2)) ∙ ap (λ (z : ℤ). z ∷ []) e,
    )

pub put_first_spec : {M : Type 1} → statement M
put_first_spec =
    tie.close
    (tie.spec
    of-root-requires
    slice_bounds-copy-end
    copy-requires
    bounds-out_members-0
    shape_of-out_nodes
    shape_of-out_members
    returns)
