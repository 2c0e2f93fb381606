use Rattle.std.proofs.Common.{◌*◌}
use lib.IntN.{pos}
use Rattle.branch.specs.Work.{AllWorked}
use Rattle.bounds.specs.Bounds.{Stays}
use Rattle.bounds.proofs.work_out.Given as goal

abbrev pub invariant-loop-j : goal.invariant-loop-j
invariant-loop-j l = record {
  worked : AllWorked l.nodes (pos l.l) l.j l.work l.j;
  stays : Stays (4 * l.j) l.initial.work l.work;
}
