use mathlib.Core.Path.{refl, sym, ◌∙◌}
use mir.Facts.{to_z-of_z}
use borrow.Author.Rules.{rules}
use Rattle.stab.specs.Formula.{on_index}
use Rattle.formula.specs.Facts.{bit}
use Rattle.formula.proofs.RowLaws.{on_index_is}
use Rattle.formula.proofs.rows.on_index.Statement.{statement}
use Rattle.formula.proofs.rows.on_index.Tie as tie

equal-requires : tie.Need-equal-requires
equal-requires c κs = search rules

returns-then-equal : tie.Need-returns-then-equal
unfolding on_index bit
returns-then-equal c =
    sym (on_index_is c.args.b _ _ (rw (to_z-of_z c.ranges.b) at (sym c.equal.ensures ∙ c.if-equal.true)) refl)

equal-requires-2 : tie.Need-equal-requires-2
equal-requires-2 c κs = search rules

returns-then-equal-2 : tie.Need-returns-then-equal-2
unfolding on_index bit
returns-then-equal-2 c =
    sym
    (on_index_is c.args.b _ _
    (rw (to_z-of_z c.ranges.b) at (sym c.equal.ensures ∙ c.if-equal.false))
    (rw (to_z-of_z c.ranges.b) at (sym c.equal-2.ensures ∙ c.if-equal-2.true)))

returns : tie.Need-returns
unfolding on_index bit
returns c =
    sym
    (on_index_is c.args.b _ _
    (rw (to_z-of_z c.ranges.b) at (sym c.equal.ensures ∙ c.if-equal.false))
    (rw (to_z-of_z c.ranges.b) at (sym c.equal-2.ensures ∙ c.if-equal-2.false)))

pub on_index_spec : {M : Type 1} → statement M
on_index_spec =
    tie.close (tie.spec equal-requires returns-then-equal equal-requires-2 returns-then-equal-2 returns)
