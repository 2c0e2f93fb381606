use mathlib.Core.Bool.{not}
use borrow.Author.Rules.{rules}
use Prim.Native.Nat.{ℕ, ◌<◌, ◌≤◌}
use native.Mathlib.Omega.{arith}
use mathlib.Core.Path.{◌≡◌, ◌∙◌, ap}
use mathlib.Core.List.{[]}
use lib.IntN.{pos}
use Rattle.stab.specs.Node.{Tableau, node, row, rows, row_count, formula}
use Rattle.stab.specs.Rule.{is_instance}
use Rattle.stab.specs.Lent.{lent}
use Rattle.limits.proofs.BoundSteps.{unfold_on, unfold_with, unfold_kind, unfold_other}
use Rattle.steps.proofs.PartnerLaws.{unfolding_number, no_partners, not_shortened, instance_decides}
use Rattle.steps.proofs.partners.partners_fit.Statement.{statement}
use Rattle.steps.proofs.partners.partners_fit.Tie as tie
use Rattle.stab.proofs.Bools.{asked_false, asked_true}

abbrev Lent : tie.Start → Tableau
Lent s = lent s.args.schema.now s.args.proof.now s.args.nodes.now [] s.args.h

abbrev begin : tie.Else-not-unfolds → tie.Start
begin c = c.before.before.before.before.before

-- the rule is 3 or 4
numbered : (c : tie.Else-not-unfolds) → (n : ℕ) × ((node (Lent (begin c)) (begin c).args.j).rule ≡ pos n) × (3 ≤ n) × (n < 5)
unfolding node
numbered c = unfolding_number _ (asked_true c.unfolds.ensures (ap not c.if-not-unfolds.false))

unfolds-requires : tie.Need-unfolds-requires
unfolds-requires c κs = search rules

returns-then-not-unfolds : tie.Need-returns-then-not-unfolds
unfolding node
returns-then-not-unfolds c =
    (no_partners (Lent c.before.before.before.before.before) _ (asked_false c.unfolds.ensures (ap not c.if-not-unfolds.true)), c.requires.1.1.1.1.0)

natural_of-on-requires : tie.Need-natural_of-on-requires
natural_of-on-requires c κs = search rules

natural_of-with-requires : tie.Need-natural_of-with-requires
natural_of-with-requires c κs = search rules

is_shortened-requires : tie.Need-is_shortened-requires
unfolding node row rows row_count
is_shortened-requires c κs =
    let s = begin c.before.before in
    let k = numbered c.before.before in
    let p = unfold_on (Lent s) _ _ k.1 s.requires.1.0 s.requires.1.1.1.0.formed k.2 k.3 in
    let q = unfold_with (Lent s) _ _ k.1 s.requires.1.0 s.requires.1.1.1.0.formed k.2 k.3 in
    rw (c.natural_of-on.ensures.0, c.natural_of-with.ensures.0) ((omega (arith, p.0, s.requires.1.1.1.0.few), omega (arith, q.0, s.requires.1.1.1.0.few)), (p.2, q.2))

returns-then-not-is_shortened : tie.Need-returns-then-not-is_shortened
unfolding node row rows
returns-then-not-is_shortened c =
    let s = begin c.before.before.before.before in (
      not_shortened (Lent s) _
          (asked_true c.unfolds.ensures (ap not c.if-not-unfolds.false))
          (rw (c.natural_of-on.ensures.0, c.natural_of-with.ensures.0) at (asked_false c.is_shortened.ensures (ap not c.if-not-is_shortened.true))),
      s.requires.1.1.1.1.0,
    )

natural_of-other-requires : tie.Need-natural_of-other-requires
natural_of-other-requires c κs = search rules

is_instance-requires : tie.Need-is_instance-requires
unfolding node row rows row_count
is_instance-requires c κs =
    let s = begin c.before.before.before.before.before.before in
    let k = numbered c.before.before.before.before.before.before in
    let p = unfold_on (Lent s) _ _ k.1 s.requires.1.0 s.requires.1.1.1.0.formed k.2 k.3 in
    let q = unfold_kind (Lent s) _ _ k.1 s.requires.1.0 s.requires.1.1.1.0.formed k.2 k.3 in
    let r = unfold_other (Lent s) _ _ k.1 s.requires.1.0 s.requires.1.1.1.0.formed k.2 k.3 in
    rw (c.natural_of-on.ensures.0, c.natural_of-other.ensures.0)
    ((_, p.0, r, s.requires.1.1.1.0, s.requires.1.1.0, s.requires.1.1.1.1.1), (q, s.requires.1.1.1.1.0))

shape_of-agreed : tie.Need-shape_of-agreed
shape_of-agreed c = c.is_instance.auto.agreed

returns : tie.Need-returns
unfolding node row rows is_instance formula
returns c =
    let s = begin c.before.before.before.before.before.before.before.before.before in (
      c.is_instance.ensures.0
          ∙ rw (c.natural_of-on.ensures.0, c.natural_of-other.ensures.0)
          (instance_decides (Lent s) _
          (asked_true c.unfolds.ensures (ap not c.if-not-unfolds.false))
          (rw (c.natural_of-on.ensures.0, c.natural_of-with.ensures.0) at (asked_true c.is_shortened.ensures (ap not c.if-not-is_shortened.false)))),
      c.is_instance.ensures.1,
    )

pub partners_fit_spec : {M : Type 1} → statement M
partners_fit_spec =
    tie.close
    (tie.spec
    unfolds-requires
    returns-then-not-unfolds
    natural_of-on-requires
    natural_of-with-requires
    is_shortened-requires
    returns-then-not-is_shortened
    natural_of-other-requires
    is_instance-requires
    shape_of-agreed
    returns)
