use Prim.Native.Nat.{◌+◌, ◌*◌}
use mathlib.Core.Path.{◌≡◌, sym, ◌∙◌}
use mathlib.Core.Bool.{true}
use borrow.Author.Rules.{rules}
use lib.IntN.{pos}
use lib.ListN.{get_or}
use Rattle.stab.specs.Basic.{eq_z}
use Rattle.output.proofs.NodeRows.{start_other, under_none, under_some, negative_not, start_same, start_fails, size_fails, node_is}
use Rattle.writing.proofs.node_follows.Statement.{statement}
use Rattle.writing.proofs.node_follows.Tie as tie

overflow_mul-from : tie.Need-overflow_mul-from
overflow_mul-from c = search rules

overflow_add-to : tie.Need-overflow_add-to
overflow_add-to c = search rules

under_at-requires : tie.Need-under_at-requires
under_at-requires c κs = search rules

returns-then-under_at-ne0 : tie.Need-returns-then-under_at-ne0
returns-then-under_at-ne0 c =
    sym
    (start_fails c.args.nodes.now c.args.j c.args.start c.requires.1
    (negative_not _ c.args.start (λ e. c.if-under_at-ne0.true (c.under_at.ensures ∙ e))))

natural_at-requires : tie.Need-natural_at-requires
natural_at-requires c κs = search rules

returns-then-natural_at-start : tie.Need-returns-then-natural_at-start
returns-then-natural_at-start c =
    sym
    (start_fails c.args.nodes.now c.args.j c.args.start c.requires.1
    (start_other _ c.args.start (λ e. c.if-natural_at-start.true (c.natural_at.ensures.0 ∙ e))))

-- the set starts where it has to
starts : (c : tie.Else-natural_at-start) →
    eq_z (get_or c.args.nodes.now (9 * c.args.j + 7) (pos 0)) (pos c.args.start) ≡ true
starts c =
    start_same _ c.args.start
    (sym c.under_at.ensures ∙ c.if-under_at-ne0.false)
    (sym c.natural_at.ensures.0 ∙ c.if-natural_at-start.false)

overflow_add-to-2 : tie.Need-overflow_add-to-2
overflow_add-to-2 c = search rules

under_at-requires-2 : tie.Need-under_at-requires-2
under_at-requires-2 c κs = search rules

returns-then-under_at-ne0-2 : tie.Need-returns-then-under_at-ne0-2
returns-then-under_at-ne0-2 c =
    sym
    (size_fails c.args.nodes.now c.args.j c.args.start c.requires.1
    (under_some (get_or c.args.nodes.now (9 * c.args.j + 7 + 1) (pos 0)) (λ e. c.if-under_at-ne0-2.true (c.under_at-2.ensures ∙ e))))

offset_bounds-nodes-from : tie.Need-offset_bounds-nodes-from
offset_bounds-nodes-from c = search rules

slice_bounds-writable-count : tie.Need-slice_bounds-writable-count
slice_bounds-writable-count c = search rules

slice_bounds-writable-start : tie.Need-slice_bounds-writable-start
slice_bounds-writable-start c = search rules

slice_bounds-writable-end : tie.Need-slice_bounds-writable-end
slice_bounds-writable-end c = search rules

writable-requires : tie.Need-writable-requires
writable-requires c κs = search rules

returns : tie.Need-returns
returns c =
    c.writable.ensures
    ∙ node_is c.args.nodes.now c.args.j c.args.start c.requires.1
    (starts c.before.before.before.before)
    (under_none (get_or c.args.nodes.now (9 * c.args.j + 7 + 1) (pos 0)) (sym c.under_at-2.ensures ∙ c.if-under_at-ne0-2.false))

pub node_follows_spec : {M : Type 1} → statement M
node_follows_spec =
    tie.close
    (tie.spec
    overflow_mul-from
    overflow_add-to
    under_at-requires
    returns-then-under_at-ne0
    natural_at-requires
    returns-then-natural_at-start
    overflow_add-to-2
    under_at-requires-2
    returns-then-under_at-ne0-2
    offset_bounds-nodes-from
    slice_bounds-writable-count
    slice_bounds-writable-start
    slice_bounds-writable-end
    writable-requires
    returns)
