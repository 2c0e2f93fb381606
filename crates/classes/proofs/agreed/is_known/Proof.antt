use borrow.Author.Rules.{rules}
use mathlib.Core.Path.{sym, ◌∙◌}
use borrow.Author.Tests.{eq-eqb, ne_eqb}
use Rattle.stab.proofs.Bools.{and_first_true, and_first_false}
use Rattle.classes.proofs.agreed.is_known.Statement.{statement}
use Rattle.classes.proofs.agreed.is_known.Tie as tie

stand_in-requires : tie.Need-stand_in-requires
stand_in-requires c κs = search rules

stand_in-requires-2 : tie.Need-stand_in-requires-2
stand_in-requires-2 c κs = search rules

returns-then-stand_in : tie.Need-returns-then-stand_in
returns-then-stand_in c =
    sym (and_first_false _ _ (ne_eqb _ _ (λ e. c.if-stand_in.true (c.stand_in.ensures.0 ∙ e ∙ sym c.stand_in-2.ensures.0))))

shifts_fit-requires : tie.Need-shifts_fit-requires
shifts_fit-requires c κs = search rules

returns : tie.Need-returns
returns c =
    c.shifts_fit.ensures
    ∙ sym (and_first_true _ _ (eq-eqb _ _ (sym c.stand_in.ensures.0 ∙ c.if-stand_in.false ∙ c.stand_in-2.ensures.0)))

pub is_known_spec : {M : Type 1} → statement M
is_known_spec =
    tie.close
    (tie.spec
    stand_in-requires
    stand_in-requires-2
    returns-then-stand_in
    shifts_fit-requires
    returns)
