use Prim.Native.Nat.{◌+◌, ◌*◌, ◌-◌}
use native.Mathlib.Omega.{arith}
use mathlib.Core.Path.{sym, ◌∙◌, ap, subst}
use mathlib.Core.Logic.{inl, inr}
use mathlib.Core.List.{List}
use lib.IntN.{ℤ, pos}
use lib.ListN.{set}
use Rattle.text.specs.Rows.{row_into}
use Rattle.text.specs.Nodes.{set_into}
use Rattle.text.specs.OneLine.{nodes_by}
use Rattle.text.proofs.NodeLaws.{NodeOf, node_of}
use Rattle.text.proofs.StepLaws.{nodes_end, set_end_lem, nine, node_end, node_line_lem, node_none, node_full, node_more}
use borrow.Author.Rules.{rules}
use Rattle.text.proofs.awaited.node.Statement.{statement}
use Rattle.text.proofs.awaited.node.Tie as tie

returns-then-text-at : tie.Need-returns-then-text-at
returns-then-text-at c =
    let a = c.args in (
      node_end a.text.now a.at a.j a.start a.n c.if-text-at.true,
      nodes_end a.text.now a.at a.j a.start a.nodes.now c.if-text-at.true,
      set_end_lem a.text.now a.at a.j a.start a.members.now c.if-text-at.true,
    )

overflow_add-k : tie.Need-overflow_add-k
overflow_add-k c = search rules

overflow_add-k-2 : tie.Need-overflow_add-k-2
overflow_add-k-2 c = search rules

overflow_mul-j : tie.Need-overflow_mul-j
overflow_mul-j c = search rules

node_at-requires : tie.Need-node_at-requires
node_at-requires c κs = search rules

enum_told-1 : tie.Need-enum_told-1
enum_told-1 c = search rules

enum_known-next : tie.Need-enum_known-next
enum_known-next c = search rules

shape_of-nodes-then-j-eq1024 : tie.Need-shape_of-nodes-then-j-eq1024
shape_of-nodes-then-j-eq1024 c = search rules

shape_of-members-then-j-eq1024 : tie.Need-shape_of-members-then-j-eq1024
shape_of-members-then-j-eq1024 c = search rules

returns-then-j-eq1024 : tie.Need-returns-then-j-eq1024
returns-then-j-eq1024 c =
    let a = c.args in
    let x = sym c.in-At.is ∙ c.node_at.ensures.0 in
    let g = node_full a.text.now a.at a.j a.start a.n a.nodes.now _ _ (inl c.if-j-eq1024.true) in (
      g.0 ∙ node_line_lem a.text.now a.at a.j a.start a.n c.if-text-at.false _ x,
      c.node_at.ensures.1 ∙ g.1 ∙ ap (nodes_by a.text.now a.at a.j a.start a.nodes.now) x,
      c.node_at.ensures.2,
    )

shape_of-nodes-then-last-gt8192 : tie.Need-shape_of-nodes-then-last-gt8192
shape_of-nodes-then-last-gt8192 c = search rules

shape_of-members-then-last-gt8192 : tie.Need-shape_of-members-then-last-gt8192
shape_of-members-then-last-gt8192 c = search rules

returns-then-last-gt8192 : tie.Need-returns-then-last-gt8192
returns-then-last-gt8192 c =
    let a = c.args in
    let x = sym c.in-At.is ∙ c.node_at.ensures.0 in
    let g = node_full a.text.now a.at a.j a.start a.n a.nodes.now _ _ (inr c.if-last-gt8192.true) in (
      g.0 ∙ node_line_lem a.text.now a.at a.j a.start a.n c.if-text-at.false _ x,
      c.node_at.ensures.1 ∙ g.1 ∙ ap (nodes_by a.text.now a.at a.j a.start a.nodes.now) x,
      c.node_at.ensures.2,
    )

overflow_mul-j-in-At : tie.Need-overflow_mul-j-in-At
overflow_mul-j-in-At c = search rules

overflow_add-j : tie.Need-overflow_add-j
overflow_add-j c = search rules

put_set-requires : tie.Need-put_set-requires
put_set-requires c κs =
    let a = c.args in
    let x = subst (NodeOf a.text.now a.at a.nodes.now (9 * a.j) a.members.now a.start (row_into a.text.now a.at 7 (9 * a.j) a.nodes.now) (set_into a.text.now a.at a.start a.members.now)) (sym c.node_at.ensures.0 ∙ c.in-At.is)
    (node_of a.text.now a.at a.nodes.now (9 * a.j) a.members.now a.start) in
    let p = c.requires in
    (omega (arith, p.3), omega (arith, x.count), c.if-last-gt8192.false)

overflow_add-result : tie.Need-overflow_add-result
overflow_add-result c = search rules

shape_of-nodes-in-Nothing : tie.Need-shape_of-nodes-in-Nothing
shape_of-nodes-in-Nothing c = search rules

shape_of-members-in-Nothing : tie.Need-shape_of-members-in-Nothing
shape_of-members-in-Nothing c = search rules

returns-in-Nothing : tie.Need-returns-in-Nothing
returns-in-Nothing c =
    let a = c.args in
    let x = sym c.in-Nothing.is ∙ c.node_at.ensures.0 in
    let g = node_none a.text.now a.at a.j a.start a.n a.nodes.now in (
      g.0 ∙ node_line_lem a.text.now a.at a.j a.start a.n c.if-text-at.false _ x,
      c.node_at.ensures.1 ∙ g.1 ∙ ap (nodes_by a.text.now a.at a.j a.start a.nodes.now) x,
      c.node_at.ensures.2,
    )

shape_of-nodes-else-last-gt8192 : tie.Need-shape_of-nodes-else-last-gt8192
shape_of-nodes-else-last-gt8192 c = search rules

shape_of-members-else-last-gt8192 : tie.Need-shape_of-members-else-last-gt8192
shape_of-members-else-last-gt8192 c = search rules

returns-else-last-gt8192 : tie.Need-returns-else-last-gt8192
returns-else-last-gt8192 c =
    let a = c.args in
    let q = sym c.in-At.is ∙ c.node_at.ensures.0 in
    let x = subst (NodeOf a.text.now a.at a.nodes.now (9 * a.j) a.members.now a.start (row_into a.text.now a.at 7 (9 * a.j) a.nodes.now) (set_into a.text.now a.at a.start a.members.now)) (sym c.node_at.ensures.0 ∙ c.in-At.is)
    (node_of a.text.now a.at a.nodes.now (9 * a.j) a.members.now a.start) in
    let g = node_more a.text.now a.at a.j a.start a.n a.nodes.now _ _ c.if-j-eq1024.false c.if-last-gt8192.false in (
      g.0 ∙ node_line_lem a.text.now a.at a.j a.start a.n c.if-text-at.false _ q,
      c.put_set.ensures
          ∙ ap (λ (u : List ℤ). set (set u (9 * a.j + 7) (pos a.start)) (9 * a.j + 7 + 1) (pos (c.in-At.last - a.start))) c.node_at.ensures.1
          ∙ nine a.text.now a.at a.j a.start a.nodes.now a.members.now _ _ _ _ x
          ∙ g.1
          ∙ ap (nodes_by a.text.now a.at a.j a.start a.nodes.now) q,
      c.node_at.ensures.2,
    )

pub node_spec : {M : Type 1} → statement M
node_spec =
    tie.close
    (tie.spec
    returns-then-text-at
    overflow_add-k
    overflow_add-k-2
    overflow_mul-j
    node_at-requires
    enum_told-1
    enum_known-next
    shape_of-nodes-then-j-eq1024
    shape_of-members-then-j-eq1024
    returns-then-j-eq1024
    shape_of-nodes-then-last-gt8192
    shape_of-members-then-last-gt8192
    returns-then-last-gt8192
    overflow_mul-j-in-At
    overflow_add-j
    put_set-requires
    overflow_add-result
    shape_of-nodes-in-Nothing
    shape_of-members-in-Nothing
    returns-in-Nothing
    shape_of-nodes-else-last-gt8192
    shape_of-members-else-last-gt8192
    returns-else-last-gt8192)
