-- The members of a set by their places.
use Prim.Native.Nat.{ℕ, ◌+◌, ◌-◌, ◌<◌}
use native.Mathlib.Omega.{arith}
use mathlib.Core.Path.{◌≡◌, sym, ◌∙◌, ap, ap₂}
use mathlib.Core.List.{List}
use lib.IntN.{ℤ, pos}
use lib.ListN.{get_or, length, take, drop}
use Rattle.stab.specs.Basic.{nat}
use Rattle.stab.specs.Node.{Node, node_at, set_of}
use Rattle.branch.specs.Lent.{SetHeld}
use Rattle.branch.proofs.Ascending.{part_length, part_at}

-- the part that is lent on from a, n members long, is a node's set
pub part_set : (members : List ℤ) (w : Node) (a n : ℕ) → a ≡ nat w.start → n ≡ nat w.size → take (a + n - a) (drop a members) ≡ set_of members w
unfolding set_of
part_set members w a n d e =
    let l : a + n - a ≡ nat w.size = omega (arith, e) in
    ap₂ (λ (k s : ℕ). take k (drop s members)) l d

module _ (nodes members : List ℤ) (j : ℕ) (held : SetHeld nodes members j) where
  pub set_length : length (set_of members (node_at nodes j)) ≡ nat (node_at nodes j).size
  unfolding set_of
  set_length = part_length members (nat (node_at nodes j).start) (nat (node_at nodes j).size) held.within

  pub set_at : (i : ℕ) → i < nat (node_at nodes j).size → get_or (set_of members (node_at nodes j)) i (pos 0) ≡ get_or members (nat (node_at nodes j).start + i) (pos 0)
  unfolding set_of
  set_at i h = part_at members (nat (node_at nodes j).start) (nat (node_at nodes j).size) held.within i h

  -- the number n that was read at i, from the start a
  module _ (i : ℕ) (h : i < nat (node_at nodes j).size) (n a : ℕ) (e : n ≡ nat (get_or members (a + i) (pos 0))) (d : a ≡ nat (node_at nodes j).start) where
    pub member_nat : n ≡ nat (get_or (set_of members (node_at nodes j)) i (pos 0))
    member_nat = e ∙ ap (λ (x : ℕ). nat (get_or members (x + i) (pos 0))) d ∙ ap nat (sym (set_at i h))
