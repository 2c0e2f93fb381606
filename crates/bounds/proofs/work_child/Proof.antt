use borrow.Author.Rules.{rules}
use native.Mathlib.Omega.{arith}
use Prim.Native.Nat.{ℕ, ◌+◌, ◌*◌}
use mathlib.Core.Path.{sym, ◌∙◌, ap, subst}
use mathlib.Core.List.{List}
use lib.IntN.{pos}
use lib.ListN.{length, set}
use Rattle.stab.specs.Node.{Bound, bound_of}
use Rattle.formula.proofs.KeptLaws.{kept_length}
use Rattle.branch.specs.Work.{top_of, AllWorked}
use Rattle.bounds.specs.Bounds.{Stays}
use Rattle.bounds.proofs.WorkLaws.{parent_before, l_small, rank_small, bound_at, work_more, work_stays}
use Rattle.bounds.proofs.work_child.Statement.{statement}
use Rattle.bounds.proofs.work_child.Tie as tie

number_of-rank-requires : tie.Need-number_of-rank-requires
number_of-rank-requires c κs = omega (arith, parent_before c.requires.2, c.requires.2.room)

number_of-above-requires : tie.Need-number_of-above-requires
number_of-above-requires c κs = omega (arith, parent_before c.requires.2, c.requires.2.room)

child_l-l-requires : tie.Need-child_l-l-requires
child_l-l-requires c κs =
    (omega (arith, parent_before c.requires.2), omega (arith, c.number_of-above.ensures, l_small c.requires.2))

number_of-requires : tie.Need-number_of-requires
number_of-requires c κs = omega (arith, parent_before c.requires.2, c.requires.2.room)

child_h-h-requires : tie.Need-child_h-h-requires
child_h-h-requires c κs =
    (omega (arith, parent_before c.requires.2), omega (arith, c.number_of-above.ensures, l_small c.requires.2))

keep-requires : tie.Need-keep-requires
keep-requires c κs = search rules

overflow_add-work : tie.Need-overflow_add-work
overflow_add-work c =
    omega (arith, c.number_of-rank.ensures, rank_small c.requires.2)

overflow_mul-work : tie.Need-overflow_mul-work
overflow_mul-work c =
    omega (arith, parent_before c.requires.2, c.requires.2.room)

overflow_add-work-2 : tie.Need-overflow_add-work-2
overflow_add-work-2 c =
    omega (arith, parent_before c.requires.2, c.requires.2.room)

offset_bounds-work-u : tie.Need-offset_bounds-work-u
offset_bounds-work-u c =
    omega (arith, parent_before c.requires.2, c.requires.2.room)

bounds-work-u : tie.Need-bounds-work-u
bounds-work-u c =
    let a = c.args in
    omega (arith, parent_before c.requires.2, ap length c.keep.ensures, kept_length a.work.now a.j c.number_of-rank.result c.child_l-l.result c.child_h-h.result 0)

shape_of-work : tie.Need-shape_of-work
shape_of-work c = search rules

returns : tie.Need-returns
returns c =
    let a = c.args in
    let r = c.number_of-rank in
    let l = c.child_l-l in
    let e = c.child_h-h in
    let parent = bound_of a.nodes.now (pos a.least) a.u in
    let done = c.requires.2.done a.u (parent_before c.requires.2) in
    let bound = bound_at c.requires.2 r.result r.ensures in
    let above = sym done.L ∙ sym c.number_of-above.ensures in
    let l-is = ap (λ (B : Bound). B.L) bound ∙ l.ensures.0 parent above in
    let e-is = ap (λ (B : Bound). top_of B.H) bound ∙ e.ensures parent above (sym done.H ∙ sym c.number_of.ensures) in (
      subst
          (λ (w : List ℕ). AllWorked a.nodes.now (pos a.least) (a.j + 1) (set w (4 * a.u + 3) (r.result + 1)) (a.j + 1))
          (sym c.keep.ensures)
          (work_more c.requires.2 r.result l.result e.result r.ensures l-is e-is l.ensures.1),
      subst
          (λ (w : List ℕ). Stays (4 * (a.j + 1)) a.work.now (set w (4 * a.u + 3) (r.result + 1)))
          (sym c.keep.ensures)
          (work_stays c.requires.2 r.result l.result e.result r.ensures l-is e-is l.ensures.1),
    )

pub work_child_spec : {M : Type 1} → statement M
work_child_spec =
    tie.close
    (tie.spec
    number_of-rank-requires
    number_of-above-requires
    child_l-l-requires
    number_of-requires
    child_h-h-requires
    keep-requires
    overflow_add-work
    overflow_mul-work
    overflow_add-work-2
    offset_bounds-work-u
    bounds-work-u
    shape_of-work
    returns)
