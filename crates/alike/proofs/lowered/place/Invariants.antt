use Rattle.std.proofs.Common.{◌≡◌, ℕ, ◌<◌, ◌≤◌, false, get_or}
use lib.IntN.{pos}
use Rattle.stab.specs.Formula.{formula_rows}
use Rattle.stab.specs.Lent.{lent}
use Rattle.stab.specs.Node.{node_at, set_of}
use Rattle.stab.specs.Rule.{is_lowered}
use Rattle.classes.specs.Agreed.{Remembers}
use Rattle.alike.proofs.lowered.place.Given as goal

abbrev pub invariant-loop-i : goal.invariant-loop-i
invariant-loop-i l = record {
  none : (a : ℕ) → a < l.i → l.fn.lo ≤ a → is_lowered (lent l.schema l.proof l.nodes l.members l.h) l.k (pos l.z) (get_or (set_of l.members (node_at l.nodes l.j)) a (pos 0)) ≡ false;
  remembers : Remembers (formula_rows l.schema l.h.schema_rows l.proof) l.agreed;
}
