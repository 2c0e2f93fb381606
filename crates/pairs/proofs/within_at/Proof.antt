use Prim.Native.Nat.{ℕ, ◌<◌, ◌≤◌}
use mathlib.Core.Path.{sym, ◌∙◌, ap, subst}
use lib.Dec.{leb}
use lib.IntN.{pos}
use lib.ListN.{get_or}
use borrow.Author.Rules.{rules}
use borrow.Author.Tests.{le-leb, lt-leb}
use Rattle.stab.proofs.Bools.{and_first_false, and_first_true}
use Rattle.pairs.proofs.Parts.{within_is}
use Rattle.pairs.proofs.within_at.Statement.{statement}
use Rattle.pairs.proofs.within_at.Tie as tie

under_at-requires : tie.Need-under_at-requires
under_at-requires c κs = search rules

natural_at-requires : tie.Need-natural_at-requires
natural_at-requires c κs = search rules

returns-then-under_at-low : tie.Need-returns-then-under_at-low
returns-then-under_at-low c = let a = c.args in
    let z = get_or a.t.now a.i (pos 0) in
    ap (λ (n : ℕ). leb n a.high) c.natural_at.ensures.0
    ∙ sym (within_is a.low a.high z ∙ and_first_true _ _ (le-leb _ _ (subst (λ (n : ℕ). n ≤ a.low) c.under_at.ensures c.if-under_at-low.true)))

returns : tie.Need-returns
returns c = let a = c.args in
    let z = get_or a.t.now a.i (pos 0) in
    sym (within_is a.low a.high z ∙ and_first_false _ _ (lt-leb _ _ (subst (λ (n : ℕ). a.low < n) c.under_at.ensures c.if-under_at-low.false)))

pub within_at_spec : {M : Type 1} → statement M
within_at_spec = tie.close (tie.spec under_at-requires natural_at-requires returns-then-under_at-low returns)
