use borrow.Author.Rules.{rules}
use native.Mathlib.Omega.{arith}
use mathlib.Core.Path.{◌≡◌, ◌∙◌, ap}
use lib.IntN.{pos}
use Rattle.stab.specs.Node.{Tableau}
use Prim.Native.Nat.{ℕ, ◌+◌, ◌-◌, ◌≤◌}
use lib.ListN.{get_or, take, drop}
use Rattle.stab.specs.Basic.{eq_z, nat}
use Rattle.stab.proofs.Bools.{and_right}
use Rattle.stab.proofs.Trees.{below_nat}
use Rattle.formula.proofs.RowLaws.{within_below}
use Rattle.growing.specs.Growing.{add, answered, after}
use Rattle.growing.specs.Enquiry.{waits, waiting_row}
use Rattle.stab.specs.Lent.{lent}
use Rattle.grow.specs.State.{row_from}
use Rattle.enquire.proofs.Edits.{parts}
use Rattle.enquire.proofs.add_waiting.Statement.{statement}
use Rattle.enquire.proofs.add_waiting.Tie as tie

-- the state at entry
abbrev here : tie.Start → Tableau
here c = let a = c.args in lent a.schema.now a.proof.now a.nodes.now a.members.now a.h

-- the set's length is within its memory
few : (c : tie.After-natural_at-size) → c.natural_at-size.result ≤ 1024
unfolding waits
few c =
    let W = c.args.waiting.now in
    omega (arith, c.natural_at-size.ensures.0, below_nat 1025 (get_or W 1 (pos 0)) (within_below 1024 (get_or W 1 (pos 0)) ∙ and_right (eq_z (get_or W 0 (pos 0)) (pos 1)) _ c.requires.1))

-- the row that waits, by its parts
row_is : (c : tie.After-natural_at-size) →
    let W = c.args.waiting.now in
    let n = c.natural_at-size.result in
    row_from (take 7 (drop 2 W)) (take (9 + n - 9) (drop 9 W)) ≡ waiting_row W
row_is c =
    let W = c.args.waiting.now in
    let e : 9 + c.natural_at-size.result - 9 ≡ nat (get_or W 1 (pos 0)) = omega (arith, c.natural_at-size.ensures.0) in
    ap (λ (k : ℕ). row_from (take 7 (drop 2 W)) (take k (drop 9 W))) e ∙ parts W

natural_at-size-requires : tie.Need-natural_at-size-requires
natural_at-size-requires c κs = search rules

slice_bounds-add-count : tie.Need-slice_bounds-add-count
slice_bounds-add-count c = search rules

slice_bounds-add-start : tie.Need-slice_bounds-add-start
slice_bounds-add-start c = search rules

slice_bounds-add-end : tie.Need-slice_bounds-add-end
slice_bounds-add-end c = search rules

overflow_add-size : tie.Need-overflow_add-size
overflow_add-size c = omega (arith, few c.before.before.before)

slice_bounds-add-count-2 : tie.Need-slice_bounds-add-count-2
slice_bounds-add-count-2 c = omega arith

slice_bounds-add-start-2 : tie.Need-slice_bounds-add-start-2
slice_bounds-add-start-2 c = omega arith

slice_bounds-add-end-2 : tie.Need-slice_bounds-add-end-2
slice_bounds-add-end-2 c = omega (arith, few c.before.before.before, c.requires.0)

add-requires : tie.Need-add-requires
add-requires c κs = search rules

shape_of-nodes : tie.Need-shape_of-nodes
shape_of-nodes c = search rules

shape_of-members : tie.Need-shape_of-members
shape_of-members c = search rules

returns : tie.Need-returns
returns d =
    let T = here d.before.before.before.before.before.before.before.before in
    (d.add.ensures.0 ∙ (λ i. answered T (add (row_is d.before.before.before.before.before.before.before i))), d.add.ensures.1 ∙ (λ i. after T (add (row_is d.before.before.before.before.before.before.before i))))

pub add_waiting_spec : {M : Type 1} → statement M
add_waiting_spec =
    tie.close
    (tie.spec
    natural_at-size-requires
    slice_bounds-add-count
    slice_bounds-add-start
    slice_bounds-add-end
    overflow_add-size
    slice_bounds-add-count-2
    slice_bounds-add-start-2
    slice_bounds-add-end-2
    add-requires
    shape_of-nodes
    shape_of-members
    returns)
