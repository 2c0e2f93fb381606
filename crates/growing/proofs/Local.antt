-- What the check finds of a node rests on the nodes up to it and their sets: two states that agree in these find the same.
use Prim.Native.Nat.{ℕ, zero, suc, ◌<◌}
use native.Mathlib.Omega.{arith}
use mathlib.Core.Path.{◌≡◌, refl, ◌∙◌, ap, ap₂}
use mathlib.Core.Bool.{Bool, true, false}
use mathlib.Core.List.{List, [], ◌∷◌}
use lib.IntN.{ℤ}
use Rattle.stab.specs.Basic.{◌and◌, ◌or◌, ◌implies◌, nat, below, has, all_of}
use Rattle.stab.specs.Formula.{tree}
use Rattle.stab.specs.Node.{Tableau, Node, Bound, rows, row_count, is_row, row, formula, node_at, node, set, split_at, bound_of, bound, rank, is_exact}
use Rattle.stab.specs.Rule.{rule, of_rule, given, drawn_from, drawn, kind_fits, on_stands, other_fits, link_fits, symbol_fits, fields_fit, target_fits, split_fits, unfold_fits, clash_fits, void_fits, loop_fits, bound_fits, is_instance, partners_fit, is_lowered, has_lowered, lowered_fits}
use Rattle.stab.specs.Check.{at_unless, step_refusal}
use Rattle.stab.specs.Keeps.{KeepsParent}
use Rattle.stab.proofs.Bools.{implies_use, otherwise_same, unless_nothing}
use Rattle.stab.proofs.Trees.{below_nat}
use Rattle.stab.proofs.Tests.{below_tests}
use Rattle.tidied.proofs.Agreeing.{Agrees, rank_same, bound_same}

-- two states of the same formula rows, with the same first k nodes and sets
pub record Alike (T U : Tableau) (k : ℕ) : Type 0 where
  pub schema : U.schema ≡ T.schema
  pub schema_rows : U.schema_rows ≡ T.schema_rows
  pub proof : U.proof ≡ T.proof
  pub proof_rows : U.proof_rows ≡ T.proof_rows
  pub root : U.root ≡ T.root
  pub least : U.least ≡ T.least
  pub node : (j : ℕ) → j < k → node U j ≡ node T j
  pub set : (j : ℕ) → j < k → set U j ≡ set T j

implies_same : (a b c : Bool) → (a ≡ true → b ≡ c) → (a implies b) ≡ (a implies c)
unfolding ◌implies◌
implies_same true b c h = h refl
implies_same false b c h = refl

module _ {T U : Tableau} {k : ℕ} (A : Alike T U k) where
  rows_same : rows U ≡ rows T
  unfolding rows
  rows_same = rw (A.schema, A.schema_rows, A.proof)

  pub count_same : row_count U ≡ row_count T
  unfolding row_count
  count_same = rw (A.schema_rows, A.proof_rows)

  row_same : row U ≡ row T
  unfolding row
  row_same i z = rows_same i (nat z)

  formula_same : formula U ≡ formula T
  unfolding formula
  formula_same i z = tree (rows_same i) (nat z)

  is_row_same : is_row U ≡ is_row T
  unfolding is_row
  is_row_same = ap below count_same

  agree : (j : ℕ) → j < k → Agrees (node_at U.nodes j) (node_at T.nodes j)
  unfolding node
  agree j h =
      let e = A.node j h in
      record { up = ap (λ (w : Node). w.up) e; rule = ap (λ (w : Node). w.rule) e; by = ap (λ (w : Node). w.by) e }

  pub ranked_same : (j : ℕ) → j < k → rank U.nodes j ≡ rank T.nodes j
  ranked_same j h = rank_same U.nodes T.nodes k agree j h

  bounded_same : (j : ℕ) → j < k → bound U j ≡ bound T j
  unfolding bound
  bounded_same j h = bound_same U.nodes T.nodes k agree U.least j h ∙ ap (λ (l : ℤ). bound_of T.nodes l j) A.least

  -- ---- the tests of a node

  given_same : (w : Node) (m : ℕ) → given U w m ≡ given T w m
  unfolding given
  given_same w m = rw row_same

  from_same : (p m : ℕ) → p < k → drawn_from U p m ≡ drawn_from T p m
  unfolding drawn_from
  from_same p m h i z = has z (A.set p h i) or has z ((ap (λ (w : Node). given U w m) (A.node p h) ∙ given_same (node T p) m) i)

  drawn_same : (j : ℕ) → j < k → KeepsParent T j → drawn U j ≡ drawn T j
  unfolding drawn
  drawn_same zero h p = refl
  drawn_same (suc i) h p =
      let b : nat (node T (suc i)).up < suc i = below_nat (suc i) _ ((below_tests (suc i) _).1 p) in
      rw (A.node (suc i) h, A.set (suc i) h, ranked_same (suc i) h)
      (ap (λ (q : ℤ → Bool). all_of q (set T (suc i))) (from_same (nat (node T (suc i)).up) (rank T.nodes (suc i)) (omega arith)))

  fields_same : (j : ℕ) → j < k → fields_fit U j ≡ fields_fit T j
  unfolding fields_fit kind_fits on_stands other_fits link_fits symbol_fits rule
  fields_same j h = rw (A.node j h, A.set j h, row_same, is_row_same)

  target_same : (j : ℕ) → j < k → target_fits U j ≡ target_fits T j
  unfolding target_fits
  target_same j h = rw (A.node j h)

  -- where a link goes to a node before, its bound is the same
  to_below : (j : ℕ) → target_fits T j ≡ true → of_rule 8 (node T j) ≡ true → nat (node T j).to < j
  unfolding target_fits
  to_below j t r = below_nat j _ (implies_use (of_rule 8 (node T j)) _ t r)

  bound_fits_same : (j : ℕ) → j < k → target_fits T j ≡ true → bound_fits U j ≡ bound_fits T j
  unfolding bound_fits
  bound_fits_same j h t =
      rw (A.node j h, bounded_same j h, row_same)
      (ap (λ (b : Bool).
      (of_rule 2 (node T j) implies split_fits (bound T j) (split_at (bound T j).L (node T j).by)) and
      (of_rule 3 (node T j) or of_rule 4 (node T j) implies unfold_fits (bound T j).L (row T (node T j).on)) and
      (of_rule 6 (node T j) implies clash_fits (is_exact (bound T j)) (bound T j).L (row T (node T j).on) (row T (node T j).with)) and
      (of_rule 7 (node T j) implies void_fits (bound T j).H (row T (node T j).on)) and b)
      (implies_same (of_rule 8 (node T j)) _ _ (λ r. ap (λ (B : Bound). loop_fits (bound T j) B (node T j).by) (bounded_same (nat (node T j).to) (omega (arith, to_below j t r))))))

  partners_same : (j : ℕ) → j < k → partners_fit U j ≡ partners_fit T j
  unfolding partners_fit is_instance
  partners_same j h = rw (A.node j h, row_same, formula_same)

  lowered_has : (by : ℤ) (xs : List ℤ) (z : ℤ) → has_lowered U by xs z ≡ has_lowered T by xs z
  unfolding has_lowered is_lowered
  lowered_has by [] z = refl
  lowered_has by (x ∷ xs) z = ap₂ ◌or◌ (rw formula_same) (lowered_has by xs z)

  all_lowered_lem : (by : ℤ) (xs ys : List ℤ) → all_of (has_lowered U by xs) ys ≡ all_of (has_lowered T by xs) ys
  unfolding all_of
  all_lowered_lem by xs [] = refl
  all_lowered_lem by xs (y ∷ ys) = ap₂ ◌and◌ (lowered_has by xs y) (all_lowered_lem by xs ys)

  lowered_same : (j : ℕ) → j < k → target_fits T j ≡ true → lowered_fits U j ≡ lowered_fits T j
  unfolding lowered_fits
  lowered_same j h t =
      rw (A.node j h, A.set j h)
      (implies_same (of_rule 8 (node T j)) _ _
      (λ r. ap (all_of (has_lowered U (node T j).by (set T j))) (A.set (nat (node T j).to) (omega (arith, to_below j t r))) ∙ all_lowered_lem (node T j).by (set T j) (set T (nat (node T j).to))))

  -- 11 to 16
  pub step_same : (j : ℕ) → j < k → KeepsParent T j → step_refusal U j ≡ step_refusal T j
  unfolding step_refusal at_unless
  step_same j h p =
      rw (drawn_same j h p, fields_same j h, target_same j h)
      (otherwise_same _ _ _ (λ a.
      otherwise_same _ _ _ (λ b.
      otherwise_same _ _ _ (λ c.
      let t = unless_nothing (target_fits T j) _ _ c in
      rw (bound_fits_same j h t, partners_same j h, lowered_same j h t) refl))))
