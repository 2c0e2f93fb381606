-- The pairs that passed are sorted, which the next is asked of.
use Rattle.std.proofs.Common.{not, refl, sym, ◌∙◌, ap, Err, arith}
use Rattle.stab.specs.Basic.{scan}
use Rattle.stab.proofs.Bools.{false_of_not, true_of_not}
use Rattle.pairs.proofs.Keys.{scan_sorted, pairs_more, pairs_found}
use Rattle.pairs.proofs.pairs_pass.Goals as goal

pub loop-k-init : goal.loop-k-init
unfolding scan
loop-k-init c = refl

pub pair_fits-requires : goal.pair_fits-requires
pair_fits-requires c = (omega arith, (scan_sorted _ _ c.loop-k.invariant).in_range)

pub returns-then-not-pair_fits : goal.returns-then-not-pair_fits
returns-then-not-pair_fits c =
    ap Err c.at.ensures
    ∙ sym (pairs_found _ _ _ c.loop-k-test.true c.loop-k.invariant (sym c.pair_fits.ensures ∙ false_of_not _ (ap not c.if-not-pair_fits.true)))

pub loop-k-preserved : goal.loop-k-preserved
loop-k-preserved c =
    pairs_more _ _ c.loop-k.invariant (sym c.pair_fits.ensures ∙ true_of_not _ (ap not c.if-not-pair_fits.false))
