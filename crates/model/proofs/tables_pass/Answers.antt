-- Each test that fails is the first that does.
use Rattle.std.proofs.Common.{◌≡◌, Bool, true, false, not, Err, sym, ◌∙◌, ap}
use borrow.Author.Tests.{le-leb, lt-leb}
use Rattle.stab.specs.Basic.{◌and◌}
use Rattle.stab.proofs.Bools.{false_of_not, true_of_not, and_both, and_first_false, and_second_false}
use Rattle.model.specs.Passes.{tables_refusal}
use Rattle.model.proofs.Passes.{whole_none, found_last, found_here, found_later}
use Rattle.model.proofs.tables_pass.Goals as goal

-- both tables hold their rows
held : (x y : Bool) {t u : Bool} → x ≡ t → y ≡ u → not x ≡ false → not y ≡ false → (t and u) ≡ true
held x y e f p q = and_both _ _ (sym e ∙ true_of_not x p) (sym f ∙ true_of_not y q)

pub returns-then-not-holds : goal.returns-then-not-holds
unfolding tables_refusal
returns-then-not-holds c =
    found_here _ _ _ _ (ap Err c.whole.ensures) (and_first_false _ _ (sym c.holds.ensures ∙ false_of_not _ (ap not c.if-not-holds.true)))

pub returns-then-not-holds-2 : goal.returns-then-not-holds-2
unfolding tables_refusal
returns-then-not-holds-2 c =
    found_here _ _ _ _ (ap Err c.whole-then-not-holds-2.ensures) (and_second_false _ _ (sym c.holds-2.ensures ∙ false_of_not _ (ap not c.if-not-holds-2.true)))

pub returns-then-schema_rows-gt1024 : goal.returns-then-schema_rows-gt1024
unfolding tables_refusal
returns-then-schema_rows-gt1024 c =
    found_later _ _ _ _ (held _ _ c.holds.ensures c.holds-2.ensures (ap not c.if-not-holds.false) (ap not c.if-not-holds-2.false))
    (found_last _ _ _ (ap Err c.whole-then-schema_rows-gt1024.ensures) (and_first_false _ _ (lt-leb _ _ c.if-schema_rows-gt1024.true)))

pub returns-then-pair_rows-gt4096 : goal.returns-then-pair_rows-gt4096
unfolding tables_refusal
returns-then-pair_rows-gt4096 c =
    found_later _ _ _ _ (held _ _ c.holds.ensures c.holds-2.ensures (ap not c.if-not-holds.false) (ap not c.if-not-holds-2.false))
    (found_last _ _ _ (ap Err c.whole-then-pair_rows-gt4096.ensures) (and_second_false _ _ (lt-leb _ _ c.if-pair_rows-gt4096.true)))

pub returns : goal.returns
unfolding tables_refusal
returns c =
    found_later _ _ _ _ (held _ _ c.holds.ensures c.holds-2.ensures (ap not c.if-not-holds.false) (ap not c.if-not-holds-2.false))
    (sym (whole_none _ _ (and_both _ _ (le-leb _ _ c.if-schema_rows-gt1024.false) (le-leb _ _ c.if-pair_rows-gt4096.false))))
