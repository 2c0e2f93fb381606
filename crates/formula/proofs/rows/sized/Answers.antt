-- Each return is one case of what is found of a row that was judged.
use Rattle.std.proofs.Common.{ap, ◌∙◌, Err}
use borrow.Author.Tests.{lt-leb}
use Rattle.stab.proofs.Bools.{and_first_false, and_second_false}
use Rattle.formula.proofs.RowLaws.{ill_found, large_found, small_found}
use Rattle.formula.proofs.rows.sized.Goals as goal

pub returns-in_default : goal.returns-in_default
returns-in_default c =
    let h = ill_found _ _ c.in_default.is in record { value = ap Err c.at.ensures ∙ h.0; facts_after = h.1 }

pub returns-then-f-gt4096 : goal.returns-then-f-gt4096
returns-then-f-gt4096 c =
    let h = large_found _ _ _ c.in-Some.is (and_first_false _ _ (lt-leb _ 4096 c.if-f-gt4096.true)) in
    record { value = ap Err c.at-then-f-gt4096.ensures ∙ h.0; facts_after = h.1 }

pub returns-then-f-gt64 : goal.returns-then-f-gt64
returns-then-f-gt64 c =
    let h = large_found _ _ _ c.in-Some.is (and_second_false _ _ (lt-leb _ 64 c.if-f-gt64.true)) in
    record { value = ap Err c.at-then-f-gt64.ensures ∙ h.0; facts_after = h.1 }

pub returns : goal.returns
returns c =
    let h = small_found _ _ _ c.in-Some.is c.if-f-gt4096.false c.if-f-gt64.false in
    record { value = h.0; facts_after = c.keep.ensures ∙ h.1 }
