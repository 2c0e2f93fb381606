use borrow.Author.Rules.{rules}
use native.Mathlib.Omega.{arith}
use Prim.Native.Nat.{ℕ, ◌+◌, ◌≤◌}
use mathlib.Core.Path.{◌≡◌, ◌∙◌, ap, ap₂}
use mathlib.Core.List.{List}
use lib.IntN.{ℤ}
use lib.ListN.{length, take, drop, length-take}
use Rattle.stab.specs.Basic.{nat}
use Rattle.stab.specs.Node.{node_at}
use Rattle.tidied.specs.Tidied.{new_number, tidy_set}
use Rattle.tidied.proofs.Sets.{tidy_length}
use Rattle.tidy.proofs.Fronts.{front_set}
use Rattle.tidy.proofs.Nodes.{lent_back, tidies_more}
use Rattle.tidy.proofs.one_node.Statement.{statement}
use Rattle.tidy.proofs.one_node.Tie as tie

-- where the set is put: the set, and the new numbers
abbrev start : tie.After-put-n → tie.Start
start c = c.before.before.before.before.before

abbrev new : tie.Start → ℕ → ℕ
new b = let a = b.args in new_number a.s a.numbers.now

abbrev xs : tie.Start → List ℤ
xs b = let a = b.args in take (nat (node_at a.nodes.now a.j).size) (drop (nat (node_at a.nodes.now a.j).start) a.members.now)

same_set : (c : tie.After-put-n) →
    let b = start c in
    tidy_set (new b) (take c.natural_of-size.result (drop c.natural_of-start.result b.args.members.now)) ≡ tidy_set (new b) (xs b)
same_set c =
    let b = start c in
    ap₂ (λ (n k : ℕ). tidy_set (new b) (take n (drop k b.args.members.now))) c.natural_of-size.ensures.0 c.natural_of-start.ensures.0

size : (c : tie.After-put-n) → c.put-n.result ≡ length (tidy_set (new (start c)) (xs (start c)))
size c = c.put-n.ensures.0 ∙ ap length (same_set c)

few : (c : tie.After-put-n) → let b = start c in b.args.m + c.put-n.result ≤ 8192
few c =
    let b = start c in
    let a = b.args in
    let n = nat (node_at a.nodes.now a.j).size in
    omega (
      arith,
      size c,
      tidy_length (new b) (xs b),
      length-take n (drop (nat (node_at a.nodes.now a.j).start) a.members.now),
      b.requires.1.0.room,
      b.requires.1.1.counted,
    )

natural_of-start-requires : tie.Need-natural_of-start-requires
natural_of-start-requires c κs = search rules

natural_of-size-requires : tie.Need-natural_of-size-requires
natural_of-size-requires c κs = search rules

offset_bounds-out_members-m : tie.Need-offset_bounds-out_members-m
offset_bounds-out_members-m c = search rules

slice_bounds-put-count : tie.Need-slice_bounds-put-count
slice_bounds-put-count c = search rules

slice_bounds-put-start : tie.Need-slice_bounds-put-start
slice_bounds-put-start c = search rules

slice_bounds-put-end : tie.Need-slice_bounds-put-end
slice_bounds-put-end c = search rules

put-n-requires : tie.Need-put-n-requires
put-n-requires c κs = search rules

put-requires : tie.Need-put-requires
put-requires c κs =
    let b = start c.before.before in
    (b.requires.0.0, b.requires.0.1, omega (arith, few c.before.before), omega (arith, few c.before.before), b.requires.0.3)

shape_of-out_nodes : tie.Need-shape_of-out_nodes
shape_of-out_nodes c = search rules

shape_of-out_members : tie.Need-shape_of-out_members
shape_of-out_members c = search rules

returns : tie.Need-returns
returns c =
    let b = start c.before.before.before.before in
    let a = b.args in (
      tidies_more a.nodes.now a.members.now (new b) a.j a.m a.out_nodes.now a.out_members.now b.requires.1.1 (omega (arith, few c.before.before.before.before, b.requires.0.2)) b.requires.0.1
          c.put-n.result _ (size c.before.before.before.before) (front_set _ _ _ c.put-n.result c.put-n.ensures.0 c.put-n.ensures.1 ∙ same_set c.before.before.before.before) c.put.ensures (lent_back a.m a.out_members.now _),
      few c.before.before.before.before,
    )

pub one_node_spec : {M : Type 1} → statement M
one_node_spec =
    tie.close
    (tie.spec
    natural_of-start-requires
    natural_of-size-requires
    offset_bounds-out_members-m
    slice_bounds-put-count
    slice_bounds-put-start
    slice_bounds-put-end
    put-n-requires
    put-requires
    shape_of-out_nodes
    shape_of-out_members
    returns)
