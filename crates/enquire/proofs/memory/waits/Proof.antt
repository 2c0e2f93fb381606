use mathlib.Core.Bool.{not}
use borrow.Author.Rules.{rules}
use Prim.Native.Nat.{ℕ}
use native.Mathlib.Omega.{arith}
use mathlib.Core.Path.{sym, ◌∙◌, ap}
use lib.Dec.{ltb}
use Rattle.stab.proofs.Bools.{and_first_false, and_first_true, asked_false, asked_true}
use Rattle.branch.proofs.ParentLaws.{below_negative, below_natural}
use Rattle.formula.proofs.RowLaws.{within_below}
use Rattle.growing.specs.Enquiry.{waits}
use Rattle.enquire.proofs.memory.waits.Statement.{statement}
use Rattle.enquire.proofs.memory.waits.Tie as tie

is_at-requires : tie.Need-is_at-requires
is_at-requires c κs = search rules

returns-then-not-is_at : tie.Need-returns-then-not-is_at
unfolding waits
returns-then-not-is_at c = sym (and_first_false _ _ (asked_false c.is_at.ensures (ap not c.if-not-is_at.true)))

under_at-requires : tie.Need-under_at-requires
under_at-requires c κs = search rules

returns-then-under_at-gt0 : tie.Need-returns-then-under_at-gt0
unfolding waits
returns-then-under_at-gt0 c =
    below_negative 1025 _ (omega (arith, c.under_at.ensures))
    ∙ within_below 1024 _
    ∙ sym (and_first_true _ _ (asked_true c.is_at.ensures (ap not c.if-not-is_at.false)))

natural_at-requires : tie.Need-natural_at-requires
natural_at-requires c κs = search rules

returns : tie.Need-returns
unfolding waits
returns c =
    ap (λ (n : ℕ). ltb n 1025) c.natural_at.ensures.0
    ∙ below_natural 1025 _ (omega (arith, c.under_at.ensures))
    ∙ within_below 1024 _
    ∙ sym (and_first_true _ _ (asked_true c.is_at.ensures (ap not c.if-not-is_at.false)))

pub waits_spec : {M : Type 1} → statement M
waits_spec =
    tie.close
    (tie.spec
    is_at-requires
    returns-then-not-is_at
    under_at-requires
    returns-then-under_at-gt0
    natural_at-requires
    returns)
