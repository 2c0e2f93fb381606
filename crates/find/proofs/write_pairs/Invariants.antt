use Rattle.std.proofs.Common.{◌≤◌, take}
use Rattle.find.specs.Search.{wires_of}
use Rattle.find.proofs.Pairs.{Given}
use Rattle.find.proofs.write_pairs.Given as goal

abbrev pub invariant-loop-k : goal.invariant-loop-k
invariant-loop-k l = record {
  at_most : l.given ≤ l.k;
  so_far : Given (wires_of (take l.count l.keys)) l.m l.k l.given l.pairs;
}
