use native.Mathlib.Omega.{arith}
use lib.ListN.{length}
use mathlib.Core.Path.{◌≡◌, ◌∙◌}
use mir.Facts.{to_z-of_z}
use Rattle.stab.specs.Basic.{nat}
use Rattle.stab.specs.Node.{Tableau, node, node_at, set, set_of}
use Rattle.stab.specs.Lent.{lent}
use Rattle.branch.proofs.HeldLaws.{set_length}
use Rattle.alike.proofs.LoweredLaws.{all_round, lowered_at, lowered_nowhere}
use Rattle.alike.proofs.lowered.partner.Statement.{statement}
use Rattle.alike.proofs.lowered.partner.Tie as tie

abbrev Lent : tie.Start → Tableau
Lent s = lent s.args.schema.now s.args.proof.now s.args.nodes.now s.args.members.now s.args.h

long : (s : tie.Start) → length (set_of s.args.members.now (node_at s.args.nodes.now s.args.j)) ≡ nat (node_at s.args.nodes.now s.args.j).size
long s = set_length s.args.nodes.now s.args.members.now s.args.j s.requires.1.1.1.0.held

natural_of-size-requires : tie.Need-natural_of-size-requires
natural_of-size-requires c κs = omega arith

abbrev begin : tie.After-natural_of-size → tie.Start
begin c = c.before.before.before

place-after-requires : tie.Need-place-after-requires
place-after-requires c κs =
    let s = begin c.before in
    ((s.requires.0.0, s.requires.0.1, omega (arith, c.natural_of-size.ensures.0, s.requires.0), omega (arith, c.natural_of-size.ensures.0)), s.requires.1)

-- ---- from the place on

abbrev start : tie.After-place-after → tie.Start
start a = begin a.before.before

shape_of-agreed-then-after-size : tie.Need-shape_of-agreed-then-after-size
shape_of-agreed-then-after-size c = c.place-after.auto.agreed

returns-then-after-size : tie.Need-returns-then-after-size
unfolding set node
returns-then-after-size c =
    let s = start c.before.before.before in (
      (λ l. lowered_at (Lent s) _ _ _ c.place-after.result (omega (arith, long s)) (rw (to_z-of_z s.ranges.k) at (c.place-after.ensures.0 c.if-after-size.true))),
      ((λ l. absurd (omega (arith, c.natural_of-size.ensures.0, c.if-after-size.true))), c.place-after.ensures.1.1),
    )

-- ---- before it

place-before-requires : tie.Need-place-before-requires
place-before-requires c κs =
    let s = start c.before.before.before.before in
    ((s.requires.0.0, s.requires.0.1, omega arith, s.requires.0.2), (s.requires.1.0, (s.requires.1.1.0, (s.requires.1.1.1.0, (c.place-after.ensures.1.1, omega (arith, c.place-after.auto.agreed, s.requires.1.1.1.1.1))))))

abbrev after : tie.After-place-before → tie.After-place-after
after b = b.before.before.before.before.before

as_long : (b : tie.After-place-before) → length b.place-before.new.agreed ≡ length (start (after b)).args.agreed.now
as_long b = b.place-before.auto.agreed ∙ (after b).place-after.auto.agreed

shape_of-agreed-then-before-from : tie.Need-shape_of-agreed-then-before-from
shape_of-agreed-then-before-from c = as_long c.before.before.before

returns-then-before-from : tie.Need-returns-then-before-from
unfolding set node
returns-then-before-from c =
    let s = start (after c.before.before.before) in (
      (λ l. lowered_at (Lent s) _ _ _ c.place-before.result (omega (arith, long s)) (rw (to_z-of_z s.ranges.k) at (c.place-before.ensures.0 c.if-before-from.true))),
      ((λ l. absurd (omega (arith, c.if-before-from.true, s.requires.0))), c.place-before.ensures.1.1),
    )

shape_of-agreed : tie.Need-shape_of-agreed
shape_of-agreed c = as_long c.before.before.before

returns : tie.Need-returns
unfolding set node
returns c =
    let a = after c.before.before.before in
    let s = start a in (
      (λ l. absurd (omega (arith, a.natural_of-size.ensures.0))),
      (
        (λ l. lowered_nowhere (Lent s) _ _ _
            (λ i q. rw (to_z-of_z s.ranges.k) at (all_round _ _ (a.place-after.ensures.1.0 c.if-after-size.false) (c.place-before.ensures.1.0 c.if-before-from.false) i (omega (arith, long s, a.natural_of-size.ensures.0))))),
        c.place-before.ensures.1.1,
      ),
    )

pub partner_spec : {M : Type 1} → statement M
partner_spec =
    tie.close
    (tie.spec
    natural_of-size-requires
    place-after-requires
    shape_of-agreed-then-after-size
    returns-then-after-size
    place-before-requires
    shape_of-agreed-then-before-from
    returns-then-before-from
    shape_of-agreed
    returns)
