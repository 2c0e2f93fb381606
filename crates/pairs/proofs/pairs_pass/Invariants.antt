-- No pair before k is refused.
use Rattle.std.proofs.Common.{◌≡◌}
use Rattle.stab.specs.Basic.{scan}
use Rattle.stab.specs.Model.{pair_refusal}
use Rattle.stab.specs.Finding.{no_refusal}
use Rattle.pairs.proofs.pairs_pass.Given as goal

abbrev pub invariant-loop-k : goal.invariant-loop-k
invariant-loop-k l = scan (pair_refusal l.pairs) l.k ≡ no_refusal
