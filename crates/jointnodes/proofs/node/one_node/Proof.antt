use Rattle.jointnodes.proofs.Nodes.{node_put, set_put}
use Rattle.jointnodes.specs.Kept.{set_at}
use Rattle.tidy.proofs.Fronts.{front_set}
use Rattle.tidied.proofs.Sets.{tidy_length}
use Rattle.tidied.specs.Tidied.{new_number, tidy_set}
use Rattle.stab.specs.Node.{node_at}
use Rattle.stab.specs.Basic.{nat}
use lib.Seq.{length-take-le}
use lib.ListN.{length, take, drop, length-take}
use lib.IntN.{ℤ}
use mathlib.Core.List.{List}
use mathlib.Core.Path.{◌≡◌, sym, ◌∙◌, ap, ap₂}
use Prim.Native.Nat.{ℕ, ◌+◌, ◌≤◌}
use native.Mathlib.Omega.{arith}
use borrow.Author.Rules.{rules}
use Rattle.jointnodes.proofs.node.one_node.Statement.{statement}
use Rattle.jointnodes.proofs.node.one_node.Tie as tie

-- where the set is put
abbrev start : tie.After-put-k → tie.Start
start c = c.before.before.before.before.before

abbrev new : tie.Start → ℕ → ℕ
new b = new_number 0 b.args.numbers.now

abbrev list : tie.After-put-k → List ℤ
list c = c.put-k.new.list

same_set : (c : tie.After-put-k) →
    let b = start c in
    tidy_set (new b) (take c.natural_of-size.result (drop c.natural_of-start.result b.args.members.now)) ≡ tidy_set (new b) (set_at b.args.nodes.now b.args.members.now b.args.j)
unfolding set_at
same_set c =
    let b = start c in
    ap₂ (λ (n k : ℕ). tidy_set (new b) (take n (drop k b.args.members.now))) c.natural_of-size.ensures.0 c.natural_of-start.ensures.0

size : (c : tie.After-put-k) →
    let b = start c in
    c.put-k.result ≡ length (tidy_set (new b) (set_at b.args.nodes.now b.args.members.now b.args.j))
size c = c.put-k.ensures.0 ∙ ap length (same_set c)

small : (c : tie.After-put-k) → c.put-k.result ≤ 1024
unfolding set_at
small c =
    let b = start c in
    let a = b.args in
    omega (
      arith,
      size c,
      tidy_length (new b) (set_at a.nodes.now a.members.now a.j),
      length-take (nat (node_at a.nodes.now a.j).size) (drop (nat (node_at a.nodes.now a.j).start) a.members.now),
      b.requires.1.few,
    )

held : (c : tie.After-put-k) → c.put-k.result ≤ length (list c)
held c = omega (arith, small c, c.put-k.auto.list)

natural_of-start-requires : tie.Need-natural_of-start-requires
natural_of-start-requires c κs = search rules

natural_of-size-requires : tie.Need-natural_of-size-requires
natural_of-size-requires c κs = search rules

slice_bounds-put-end : tie.Need-slice_bounds-put-end
slice_bounds-put-end c = search rules

put-k-requires : tie.Need-put-k-requires
put-k-requires c κs = search rules

overflow_add-r : tie.Need-overflow_add-r
overflow_add-r c = omega (arith, small c.before, (start c.before).requires.0.1)

slice_bounds-list-end : tie.Need-slice_bounds-list-end
slice_bounds-list-end c = held c.before.before.before

slice_bounds-copy-end : tie.Need-slice_bounds-copy-end
slice_bounds-copy-end c = sym (length-take-le c.put-k.result (list c.before.before.before.before) (held c.before.before.before.before))

copy-requires : tie.Need-copy-requires
copy-requires c κs =
    omega (arith, length-take-le c.put-k.result (list c.before.before.before.before) (held c.before.before.before.before), c.if-r-le8192.true, (start c.before.before.before.before).requires.0.3)

put-requires : tie.Need-put-requires
put-requires c κs = search rules

shape_of-out_nodes : tie.Need-shape_of-out_nodes
shape_of-out_nodes c = search rules

shape_of-out_members : tie.Need-shape_of-out_members
shape_of-out_members c = search rules

returns-then-r-le8192 : tie.Need-returns-then-r-le8192
returns-then-r-le8192 c =
    let b = start c.before.before.before.before.before.before.before.before.before in
    let a = b.args in (
      record {
        counted = ap (λ (k : ℕ). a.n + k) (size c.before.before.before.before.before.before.before.before.before);
        row = λ h. node_put a.out_nodes.now _ (new b) (node_at a.nodes.now a.j) a.d a.j a.n c.put-k.result _ c.put.ensures (omega (arith, b.requires.0.0, b.requires.0.2)) (size c.before.before.before.before.before.before.before.before.before);
        set = λ h. set_put a.out_members.now _ (list c.before.before.before.before.before.before.before.before.before) _ a.n c.put-k.result c.copy.ensures (front_set _ _ _ c.put-k.result c.put-k.ensures.0 c.put-k.ensures.1 ∙ same_set c.before.before.before.before.before.before.before.before.before) (size c.before.before.before.before.before.before.before.before.before) (omega (arith, h, b.requires.0.3));
      },
      omega (arith, small c.before.before.before.before.before.before.before.before.before),
    )

returns-else-r-le8192 : tie.Need-returns-else-r-le8192
returns-else-r-le8192 c =
    let b = start c.before.before in
    let a = b.args in (
      record {
        counted = ap (λ (k : ℕ). a.n + k) (size c.before.before);
        row = λ h. absurd (omega (arith, h, c.if-r-le8192.false));
        set = λ h. absurd (omega (arith, h, c.if-r-le8192.false));
      },
      omega (arith, small c.before.before),
    )

pub one_node_spec : {M : Type 1} → statement M
one_node_spec =
    tie.close
    (tie.spec
    natural_of-start-requires
    natural_of-size-requires
    slice_bounds-put-end
    put-k-requires
    overflow_add-r
    slice_bounds-list-end
    slice_bounds-copy-end
    copy-requires
    put-requires
    shape_of-out_nodes
    shape_of-out_members
    returns-then-r-le8192
    returns-else-r-le8192)
