use borrow.Author.Rules.{rules}
use native.Mathlib.Omega.{arith}
use Prim.Native.Nat.{ℕ, ◌+◌}
use mathlib.Core.Path.{sym, ◌∙◌, ap, subst}
use mathlib.Core.List.{List}
use lib.IntN.{pos}
use lib.ListN.{get_or}
use Rattle.stab.specs.Basic.{nat}
use Rattle.formula.proofs.KeptLaws.{kept_other}
use Rattle.branch.specs.Work.{AllWorked}
use Rattle.bounds.proofs.WorkLaws.{work_first}
use Rattle.bounds.proofs.work_node.Statement.{statement}
use Rattle.bounds.proofs.work_node.Tie as tie

overflow_cast-least : tie.Need-overflow_cast-least
overflow_cast-least c = search rules

keep-requires : tie.Need-keep-requires
keep-requires c κs = search rules

natural_of-requires : tie.Need-natural_of-requires
natural_of-requires c κs = search rules

work_child-requires : tie.Need-work_child-requires
work_child-requires c κs =
    (c.requires.0, c.requires.1, record { fits = c.requires.3; later = omega arith; parent = c.natural_of.ensures.0; room = c.requires.2; done = c.requires.4 })

shape_of-work-then-j-eq0 : tie.Need-shape_of-work-then-j-eq0
shape_of-work-then-j-eq0 c = search rules

returns-then-j-eq0 : tie.Need-returns-then-j-eq0
unfolding nat
returns-then-j-eq0 c =
    let a = c.args in
    let e = c.if-j-eq0.true in
    let k = c.keep in (
      subst (λ (n : ℕ). AllWorked a.nodes.now (pos a.least) (n + 1) k.new.t (n + 1)) (sym e)
          (subst (λ (w : List ℕ). AllWorked a.nodes.now (pos a.least) 1 w 1) (sym k.ensures)
          (work_first a.nodes.now (pos a.least) a.work.now c.requires.0 (omega (arith, c.requires.2, e)) (λ i p. c.requires.3 i (omega arith)))),
      λ x p. ap (λ (w : List ℕ). get_or w x 0) k.ensures ∙ kept_other a.work.now 0 0 _ 0 0 x (λ i k' q. omega arith),
    )

shape_of-work-else-j-eq0 : tie.Need-shape_of-work-else-j-eq0
shape_of-work-else-j-eq0 c = search rules

returns-else-j-eq0 : tie.Need-returns-else-j-eq0
returns-else-j-eq0 c = search rules

pub work_node_spec : {M : Type 1} → statement M
work_node_spec =
    tie.close
    (tie.spec
    overflow_cast-least
    keep-requires
    natural_of-requires
    work_child-requires
    shape_of-work-then-j-eq0
    returns-then-j-eq0
    shape_of-work-else-j-eq0
    returns-else-j-eq0)
