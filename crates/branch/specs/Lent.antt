-- What a step's code reads of the lent tables.
use Rattle.std.specs.Prelude.{ℕ, zero, suc, ◌+◌, ◌*◌, ◌<◌, ◌≤◌, ◌≡◌, Bool, true, false, List, ℤ, pos, length, get_or, if◌then◌else◌}
use Rattle.std.proofs.Math.Option.{Option, none, some}
use Rattle.std.specs.Int.Signed.{le_z}
use Rattle.stab.specs.Basic.{◌and◌, ◌or◌, eq_z, nat, below, has, ascending}
use Rattle.stab.specs.Formula.{Row, tree, loose}
use Rattle.stab.specs.Node as N
use Rattle.stab.specs.Node.{Tableau, Bound, Node, node, node_at, set, set_of}
use Rattle.stab.specs.Rule as R
use Rattle.stab.specs.Rule.{unused, kind_fits}
use Rattle.stab.specs.declared.Rule.{Rule}

-- the upper bound that a number stands for: 0 for none, else one less than it
unfoldable pub upper : ℕ → Option ℕ
upper zero = none
upper (suc H) = some H

-- a bound by its two numbers
abbrev pub bounded : ℕ → ℕ → Bound
bounded top l = record { L = l; H = upper top }

-- the bound of node j as it is kept
abbrev pub bound_by : List ℕ → ℕ → Bound
bound_by work j = bounded (get_or work (4 * j + 2) 0) (get_or work (4 * j + 1) 0)

-- the set of node j lies within the members, in ascending order
pub record SetHeld (nodes members : List ℤ) (j : ℕ) : Type 0 where
  pub within : nat (node_at nodes j).start + nat (node_at nodes j).size ≤ length members
  pub up : ascending (set_of members (node_at nodes j)) ≡ true

-- and it lists outer rows, of n rows
pub record SetOfRows (rows : ℕ → Row) (nodes members : List ℤ) (n j : ℕ) : Type 0 where
  pub held : SetHeld nodes members j
  pub named : (i : ℕ) → i < nat (node_at nodes j).size → below n (get_or (set_of members (node_at nodes j)) i (pos 0)) ≡ true
  pub outer : (i : ℕ) → i < nat (node_at nodes j).size → loose (tree rows (nat (get_or (set_of members (node_at nodes j)) i (pos 0)))) ≡ false

-- what is known of a child: where its set and its parent's lie, and that its rank is kept
pub record ChildKnown (nodes members : List ℤ) (work : List ℕ) (j : ℕ) : Type 0 where
  pub own : SetHeld nodes members j
  pub above : SetHeld nodes members (nat (node_at nodes j).up)
  pub rank : get_or work (4 * j) 0 ≡ N.rank nodes j

-- a field for which no kind is needed is unused; any other names one of n rows, of that kind
unfoldable pub fits_kind : (ℕ → Row) → ℕ → ℤ → ℤ → Bool
fits_kind rows n need z = if eq_z need unused then eq_z z unused else below n z and eq_z (rows (nat z)).kind need

-- other and the fields of a link, if they are used or not
unfoldable pub other_fits : ℕ → Node → Bool → Bool
other_fits n w used = if used then below n w.other else eq_z w.other unused

-- by of a rule that is no loop: of a split, and of any other
unfoldable pub by_fits : Node → Bool → Bool
by_fits w split = if split then le_z (pos 0) w.by else eq_z w.by (pos 0)

unfoldable pub link_fits : Node → Bool → Bool → Bool
link_fits w link split = if link then le_z (pos 1) w.by else eq_z w.to unused and by_fits w split

-- the fields of node j against an entry R of the rule table: first on and with, then the rest
unfoldable pub rows_fit : Tableau → ℕ → Rule → Bool
rows_fit T j R =
    kind_fits T R.on (node T j).on and
    (eq_z R.on unused or has (node T j).on (set T j)) and
    kind_fits T R.with (node T j).with

unfoldable pub rest_fits : ℕ → Node → Rule → Bool
rest_fits n w R = other_fits n w R.other and link_fits w R.link R.split

-- what the rule table says of node j's fields, but for sets
pub record FieldsKnown (T : Tableau) (j : ℕ) : Type 0 where
  pub rule : below 9 (node T j).rule ≡ true
  pub on : kind_fits T (R.rule T j).on (node T j).on ≡ true
  pub with : kind_fits T (R.rule T j).with (node T j).with ≡ true
  pub other : R.other_fits T j ≡ true
  pub link : R.link_fits T j ≡ true
