use Rattle.std.proofs.Common.{ap, ◌∙◌, arith}
use Rattle.stab.specs.Formula.{formula_rows}
use Rattle.repeats.specs.Places.{place_of}
use Rattle.repeats.proofs.Links.{place_small, linked_none, linked_more}
use Rattle.folds.proofs.links.schema_rows.Goals as goal

pub loop-r-init : goal.loop-r-init
loop-r-init c = linked_none _ _ _ c.requires.by_index

pub keep-requires : goal.keep-requires
keep-requires c =
    let a = c.args in
    let e = c.place-h.ensures ∙ ap place_of c.of_row.ensures in
    let small = place_small (formula_rows a.schema.now a.s a.table.now c.loop-r.r) in
    grind (arith, c.requires.s_bound, e, small)

pub loop-r-preserved : goal.loop-r-preserved
loop-r-preserved c =
    let a = c.args in
    let l = c.loop-r in
    let e = c.place-h.ensures ∙ ap place_of c.of_row.ensures in
    let small = place_small (formula_rows a.schema.now a.s a.table.now l.r) in
    linked_more _ _ _ l.r _ l.invariant (omega (arith, c.requires.s_bound)) (omega (arith, c.requires.s_bound, e, small)) e c.keep.ensures.next_after c.keep.ensures.heads_after
