use borrow.Author.Rules.{rules}
use native.Mathlib.Omega.{arith}
use mathlib.Core.Path.{◌≡◌, sym, ◌∙◌}
use mir.Facts.{to_z-of_z}
use Rattle.stab.specs.Basic.{eq_z}
use Rattle.stab.specs.Rule.{unused}
use Rattle.stab.proofs.Bools.{or_left, or_first_false}
use Rattle.fields.proofs.on_stands.Statement.{statement}
use Rattle.fields.proofs.on_stands.Tie as tie

equal-requires : tie.Need-equal-requires
equal-requires c κs = search rules

returns-then-equal : tie.Need-returns-then-equal
unfolding unused
returns-then-equal c =
    sym (or_left _ _ (rw (to_z-of_z c.ranges.need) at (sym c.equal.ensures ∙ c.if-equal.true)))

-- a kind is needed
needed : (c : tie.Else-equal) → eq_z c.args.need unused ≡ mathlib.Core.Bool.false
unfolding unused
needed c = rw (to_z-of_z c.ranges.need) at (sym c.equal.ensures ∙ c.if-equal.false)

in_set-requires : tie.Need-in_set-requires
in_set-requires c κs = ((c.requires.0, omega arith), c.requires.1)

returns : tie.Need-returns
returns c = c.in_set.ensures ∙ sym (or_first_false _ _ (needed c.before))

pub on_stands_spec : {M : Type 1} → statement M
on_stands_spec = tie.close (tie.spec equal-requires returns-then-equal in_set-requires returns)
