use borrow.Author.Rules.{rules}
use Prim.Native.Nat.{◌-◌, ◌≤◌}
use native.Mathlib.Omega.{arith}
use mathlib.Core.Path.{◌≡◌, sym, ◌∙◌, ap}
use lib.IntN.{ℤ, pos}
use lib.ListN.{length, get_or, take, drop}
use mir.Syntax.{w32}
use mir.Val.{to_z, of_z}
use Rattle.signed.proofs.Signs.{read_back}
use Rattle.stab.specs.Basic.{has}
use Rattle.stab.specs.Node.{node_at, node, set, set_of, row, rows}
use Rattle.stab.specs.Search.{stands_at}
use Rattle.stab.specs.Rule.{given, drawn_from}
use Rattle.stab.proofs.Bools.{or_left, or_first_false}
use Rattle.stab.proofs.Searches.{place_within}
use Rattle.branch.proofs.HeldLaws.{set_length}
use Rattle.drawn.proofs.DrawnLaws.{read_as}
use Rattle.drawn.proofs.Rests.{member_there}
use Rattle.drawn.proofs.may_stand.Statement.{statement}
use Rattle.drawn.proofs.may_stand.Tie as tie

at-z-requires : tie.Need-at-z-requires
at-z-requires c κs = search rules

-- the place lies within the parent's set, and that within the members
within : (s : tie.Start) → (s.args.at ≤ s.args.end) × (s.args.end ≤ length s.args.members.now)
within s =
    let a = s.args in
    let p = place_within (get_or a.members.now a.of (pos 0)) (set_of a.members.now (node_at a.nodes.now a.p)) in
    let l = set_length a.nodes.now a.members.now a.p s.requires.0.1 in
    (omega (arith, p, l, s.requires.1.0, s.requires.1.1), omega (arith, s.requires.1.1, s.requires.0.1.within))

offset_bounds-members-at : tie.Need-offset_bounds-members-at
offset_bounds-members-at c = omega (arith, (within c.before).0, (within c.before).1, c.well_formed)

slice_bounds-stands_at-count : tie.Need-slice_bounds-stands_at-count
slice_bounds-stands_at-count c = (within c.before).0

slice_bounds-stands_at-start : tie.Need-slice_bounds-stands_at-start
slice_bounds-stands_at-start c = (within c.before).0

slice_bounds-stands_at-end : tie.Need-slice_bounds-stands_at-end
slice_bounds-stands_at-end c = (within c.before).1

stands_at-requires : tie.Need-stands_at-requires
stands_at-requires c κs = search rules

-- the number that was read
read : (s : tie.After-at-z) → to_z w32 (of_z w32 s.at-z.result) ≡ get_or s.args.members.now s.args.of (pos 0)
read s = read_back _ s.at-z.type_inv ∙ s.at-z.ensures

there : (c : tie.After-stands_at) → c.stands_at.result ≡ has (get_or c.args.members.now c.args.of (pos 0)) (set_of c.args.members.now (node_at c.args.nodes.now c.args.p))
there c =
    let a = c.args in
    c.stands_at.ensures
    ∙ ap (λ (z : ℤ). stands_at z (take (a.end - a.at) (drop a.at a.members.now)) 0) (read c.before.before)
    ∙ member_there a.members.now (node_at a.nodes.now a.p) _ a.at a.end c.requires.0.1.up c.requires.1.0 c.requires.1.1

returns-then-stands_at : tie.Need-returns-then-stands_at
unfolding drawn_from node set
returns-then-stands_at c = sym (or_left _ _ (sym (there c.before) ∙ c.if-stands_at.true))

is_given-requires : tie.Need-is_given-requires
is_given-requires c κs = search rules

returns : tie.Need-returns
unfolding drawn_from given node set row rows
returns c =
    c.is_given.ensures
    ∙ read_as _ (read c.before.before.before.before)
    ∙ sym (or_first_false _ _ (sym (there c.before.before) ∙ c.if-stands_at.false))

pub may_stand_spec : {M : Type 1} → statement M
may_stand_spec =
    tie.close
    (tie.spec
    at-z-requires
    offset_bounds-members-at
    slice_bounds-stands_at-count
    slice_bounds-stands_at-start
    slice_bounds-stands_at-end
    stands_at-requires
    returns-then-stands_at
    is_given-requires
    returns)
