use Rattle.std.proofs.Common.{◌≡◌, ℕ, ◌%◌, ◌<◌, false, length}
use Rattle.stab.specs.Formula.{row_at, tree}
use Rattle.stab.specs.Meaning.{truth}
use Rattle.stab.specs.Occurs.{occurring}
use Rattle.found.specs.Find.{among}
use Rattle.found.specs.Number.{numbered}
use Rattle.assigned.proofs.first_number.Given as goal

abbrev pub invariant-loop-m : goal.invariant-loop-m
invariant-loop-m l =
    let f = tree (row_at l.schema) l.root in
    record {
      blocks : l.m % 4096 ≡ 0;
      long : length l.out ≡ 64;
      none_before : (i : ℕ) → i < l.m → truth (among (numbered (occurring l.n f) i)) l.n f ≡ false;
    }
