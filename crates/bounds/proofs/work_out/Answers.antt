use Rattle.std.proofs.Common.{◌≡◌, ℕ, arith, ap, subst, ◌∙◌}
use Rattle.std.proofs.lemmas.Int.{to_z-of_z}
use lib.IntN.{ℤ, pos}
use Rattle.stab.specs.Basic.{nat}
use Rattle.branch.specs.Work.{AllWorked}
use Rattle.branch.proofs.Parts.{within_natural, within_most}
use Rattle.bounds.proofs.WorkLaws.{table_worked}
use Rattle.bounds.proofs.work_out.Goals as goal

pub work_node-requires : goal.work_node-requires
work_node-requires c =
    let least = ap nat (to_z-of_z _ _ c.ranges.least) in (
      omega (arith, c.natural-l.ensures, least, within_most 9999 c.args.least c.requires.2),
      omega arith,
      omega arith,
      λ i p. c.requires.3 i (omega arith),
      c.loop-j.invariant.worked,
    )

pub returns : goal.returns
returns c =
    let a = c.args in
    let l = c.loop-j in
    let e : l.j ≡ a.k = omega arith in
    let least = ap pos (c.natural-l.ensures ∙ ap nat (to_z-of_z _ _ c.ranges.least)) ∙ within_natural 9999 a.least c.requires.2 in
    let worked : AllWorked a.nodes.now a.least a.k l.work a.k =
    subst (λ (n : ℕ). AllWorked a.nodes.now a.least n l.work n) e (subst (λ (x : ℤ). AllWorked a.nodes.now x l.j l.work l.j) least l.invariant.worked)
    in
    record {
      all_worked = worked;
      work_after = table_worked a.nodes.now a.least a.k a.work.now l.work l.auto.work (omega (arith, c.requires.1)) worked (λ x p. l.invariant.stays x (omega (arith, e)));
    }
