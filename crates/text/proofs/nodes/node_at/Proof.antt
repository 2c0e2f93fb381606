use Prim.Native.Nat.{ℕ}
use mathlib.Core.Path.{◌∙◌, subst}
use Rattle.text.specs.Rows.{PartOf, RowEnded}
use Rattle.text.proofs.NodeLaws.{node_is, few_set, open_set, ended_few, node_bad, node_short, node_seven, node_by_set}
use Rattle.text.specs.declared.nodes.NodeFound.TheVariants.{At, Nothing}
use borrow.Author.Rules.{rules}
use Rattle.text.proofs.nodes.node_at.Statement.{statement}
use Rattle.text.proofs.nodes.node_at.Tie as tie

numbers-requires : tie.Need-numbers-requires
numbers-requires c κs = search rules

enum_told-1 : tie.Need-enum_told-1
enum_told-1 c = search rules

enum_known-end : tie.Need-enum_known-end
enum_known-end c = search rules

overflow_add-to : tie.Need-overflow_add-to
overflow_add-to c = search rules

enum_known-next : tie.Need-enum_known-next
enum_known-next c = search rules

set_at-requires : tie.Need-set_at-requires
set_at-requires c κs =
    let a = c.args in
    let p = c.requires in
    ((subst (PartOf a.text.now a.at a.nodes.now a.to 7 c.numbers.new.table) c.in-Open.is c.numbers.ensures.0).within, p.1, p.3)

shape_of-nodes-in-Bad : tie.Need-shape_of-nodes-in-Bad
shape_of-nodes-in-Bad c = search rules

returns-in-Bad : tie.Need-returns-in-Bad
returns-in-Bad c =
    let a = c.args in
    let r = subst (PartOf a.text.now a.at a.nodes.now a.to 7 c.numbers.new.table) c.in-Bad.is c.numbers.ensures.0 in (
      node_is a.text.now a.at a.nodes.now a.to a.members.now a.start c.numbers.new.table a.members.now Nothing (node_bad a.text.now a.at a.nodes.now a.to c.numbers.new.table r.0),
      c.numbers.ensures.1,
      few_set a.text.now a.at a.start a.members.now r.1,
    )

shape_of-nodes-then-end-to : tie.Need-shape_of-nodes-then-end-to
shape_of-nodes-then-end-to c = search rules

returns-then-end-to : tie.Need-returns-then-end-to
returns-then-end-to c =
    let a = c.args in
    let r = subst (PartOf a.text.now a.at a.nodes.now a.to 7 c.numbers.new.table) c.in-Ended.is c.numbers.ensures.0 in
    let n = c.in-Ended.next in (
      node_is a.text.now a.at a.nodes.now a.to a.members.now a.start c.numbers.new.table a.members.now (At n a.start)
          (node_seven a.text.now a.at a.nodes.now a.to c.numbers.new.table a.members.now a.start n
          (subst (λ (k : ℕ). RowEnded a.text.now a.at a.nodes.now a.to c.numbers.new.table k n) c.if-end-to.true r.0)),
      c.numbers.ensures.1,
      few_set a.text.now a.at a.start a.members.now (ended_few a.text.now a.at a.nodes.now a.to c.numbers.new.table _ _ r.1 r.0),
    )

shape_of-nodes-else-end-to : tie.Need-shape_of-nodes-else-end-to
shape_of-nodes-else-end-to c = search rules

returns-else-end-to : tie.Need-returns-else-end-to
returns-else-end-to c =
    let a = c.args in
    let r = subst (PartOf a.text.now a.at a.nodes.now a.to 7 c.numbers.new.table) c.in-Ended.is c.numbers.ensures.0 in (
      node_is a.text.now a.at a.nodes.now a.to a.members.now a.start c.numbers.new.table a.members.now Nothing
          (node_short a.text.now a.at a.nodes.now a.to c.numbers.new.table _ _ r.1 c.if-end-to.false r.0),
      c.numbers.ensures.1,
      few_set a.text.now a.at a.start a.members.now (ended_few a.text.now a.at a.nodes.now a.to c.numbers.new.table _ _ r.1 r.0),
    )

shape_of-nodes-in-Open : tie.Need-shape_of-nodes-in-Open
shape_of-nodes-in-Open c = search rules

shape_of-members : tie.Need-shape_of-members
shape_of-members c = search rules

returns-in-Open : tie.Need-returns-in-Open
returns-in-Open c =
    let a = c.args in
    let s = c.set_at in
    let n = c.in-Open.next in
    let r = subst (PartOf a.text.now a.at a.nodes.now a.to 7 c.numbers.new.table) c.in-Open.is c.numbers.ensures.0 in (
      node_is a.text.now a.at a.nodes.now a.to a.members.now a.start c.numbers.new.table s.new.members s.result
          (node_by_set a.text.now a.at a.nodes.now a.to c.numbers.new.table n r a.members.now a.start s.new.members s.result s.ensures.0),
      c.numbers.ensures.1,
      s.ensures.1 ∙ open_set a.text.now a.at a.nodes.now a.to c.numbers.new.table n r a.members.now a.start,
    )

pub node_at_spec : {M : Type 1} → statement M
node_at_spec =
    tie.close
    (tie.spec
    numbers-requires
    enum_told-1
    enum_known-end
    overflow_add-to
    enum_known-next
    set_at-requires
    shape_of-nodes-in-Bad
    returns-in-Bad
    shape_of-nodes-then-end-to
    returns-then-end-to
    shape_of-nodes-else-end-to
    returns-else-end-to
    shape_of-nodes-in-Open
    shape_of-members
    returns-in-Open)
