use Rattle.std.proofs.Common.{◌≡◌, length}
use Rattle.stab.specs.Basic.{scan}
use Rattle.stab.specs.Formula.{formula_rows}
use Rattle.stab.specs.Check.{node_refusal}
use Rattle.stab.specs.Finding.{no_refusal}
use Rattle.stab.specs.Lent.{lent}
use Rattle.classes.specs.Agreed.{Remembers}
use Rattle.steps.proofs.steps.each_node.Given as goal

abbrev pub invariant-loop-j : goal.invariant-loop-j
invariant-loop-j l = record {
  found : scan (node_refusal l.whole (lent l.schema l.proof l.nodes l.members l.h)) l.j ≡ no_refusal;
  remembers : Remembers (formula_rows l.schema l.h.schema_rows l.proof) l.agreed;
  as_long : length l.agreed ≡ length l.fn.agreed;
}
