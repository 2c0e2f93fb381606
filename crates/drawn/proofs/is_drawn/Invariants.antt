-- The search for each member starts no later than at its place in the parent's set.
use Rattle.std.proofs.Common.{◌≡◌, ℕ, ◌+◌, ◌<◌, ◌≤◌, true, List, get_or}
use lib.IntN.{ℤ, pos}
use Rattle.stab.specs.Basic.{nat}
use Rattle.stab.specs.Lent.{lent}
use Rattle.stab.specs.Node as N
use Rattle.stab.specs.Node.{node_at, set_of}
use Rattle.stab.specs.Rule.{drawn_from}
use Rattle.stab.specs.Search.{place_of}
use Rattle.drawn.proofs.is_drawn.Given as goal

-- the place of member a of the set of node j in the parent's set
abbrev pub placed : List ℤ → List ℤ → ℕ → ℕ → ℕ
placed nodes members j a = place_of (get_or (set_of members (node_at nodes j)) a (pos 0)) (set_of members (node_at nodes (nat (node_at nodes j).up)))

abbrev pub invariant-loop-i : goal.invariant-loop-i
invariant-loop-i l = record {
  drawn : (a : ℕ) → l.start + a < l.i → drawn_from (lent l.schema l.proof l.nodes l.members l.h) (nat (node_at l.nodes l.j).up) (N.rank l.nodes l.j) (get_or (set_of l.members (node_at l.nodes l.j)) a (pos 0)) ≡ true;
  from : l.initial.at ≤ l.at;
  to : l.at ≤ l.end;
  next : (a : ℕ) → l.start + a ≡ l.i → a < nat (node_at l.nodes l.j).size → l.at ≤ l.initial.at + placed l.nodes l.members l.j a;
}
