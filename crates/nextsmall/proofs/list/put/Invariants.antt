use Rattle.std.proofs.Common.{◌≡◌, ◌*◌, ◌<◌, [], ◌++◌, length, get_or, drop}
use Rattle.small.specs.Small.{tables}
use Rattle.nextsmall.proofs.list.put.Given as goal

abbrev pub invariant-loop-r : goal.invariant-loop-r
invariant-loop-r l = record {
  fits : l.rest < length (tables l.r);
  whole : get_or (tables l.n) l.i [] ++ drop (4 * l.n) l.initial.table ≡ get_or (tables l.r) l.rest [] ++ drop (4 * l.r) l.table;
}
