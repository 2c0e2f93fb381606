-- The pass over the sets against the definition of refusal 9, and what it says of each set that it passed.
use Prim.Native.Nat.{ℕ, zero, suc, ◌+◌, ◌≤◌}
use native.Mathlib.Omega.{arith}
use mathlib.Core.Path.{◌≡◌, refl, sym, ◌∙◌, ap, ap₂}
use mathlib.Core.Bool.{Bool, true, false, not}
use mathlib.Core.Logic.{⊎_elim}
use mathlib.Core.List.{List, [], ◌∷◌}
use lib.Dec.{eqb}
use lib.IntN.{ℤ, pos, ◌+ℤ◌}
use lib.Signed.{le_z}
use lib.ListN.{length}
use Rattle.stab.specs.Basic.{◌and◌, ◌implies◌, eq_z, nat, below, all_of, ascending, scan}
use Rattle.stab.specs.Formula.{formula_rows, tree, loose, is_outer}
use Rattle.stab.specs.Node.{Tableau, rows, row_count, is_row, formula, is_outer_row, node, node_at, set, set_of, set_end, set_start, set_follows, set_fits}
use Rattle.stab.specs.Check.{set_refusal, at_unless}
use Rattle.stab.specs.declared.Refusal.TheVariants.{Set}
use Rattle.stab.specs.Finding.{no_refusal}
use Rattle.stab.proofs.Bools.{and_left, and_right, and_first_false, decide, unless_nothing}
use Rattle.stab.proofs.Scans.{nothing_scan}
use Rattle.stab.proofs.Trees.{below_nat}
use Rattle.stab.proofs.Whole.{atom, num, ◌⊕◌, le_of, of_le, eq_z_true, nat_pos, plus_nat, nonneg_minus}
use Rattle.formula.specs.Facts.{bit, AllKnown}
use Rattle.branch.specs.Sets.{outer_by, list_fits, place_fits, set_right, Within, SetKnown, AllSetsKnown}

and_assoc : (a b c : Bool) → ((a and b) and c) ≡ (a and (b and c))
unfolding ◌and◌
and_assoc true b c = refl
and_assoc false b c = refl

bit_zero : (b : Bool) → eqb (bit b) 0 ≡ not b
unfolding bit
bit_zero true = refl
bit_zero false = refl

all_same : {A : Type 0} (p q : A → Bool) → ((x : A) → p x ≡ q x) → (xs : List A) → all_of p xs ≡ all_of q xs
unfolding all_of
all_same p q h [] = refl
all_same p q h (x ∷ xs) = ap₂ ◌and◌ (h x) (all_same p q h xs)

module _ (T : Tableau) (facts : List ℕ) (n : ℕ) (rows_are : T.schema_rows + T.proof_rows ≡ n) (known : AllKnown (formula_rows T.schema T.schema_rows T.proof) facts n) where
  -- a row is outer exactly if its third fact is 0
  outer_same : (z : ℤ) → outer_by facts n z ≡ is_outer_row T z
  unfolding outer_by is_outer_row is_row row_count formula rows is_outer
  outer_same z =
      ⊎_elim
      (λ h.
      ap (λ (b : Bool). below n z and b) (ap (λ (x : ℕ). eqb x 0) (known (nat z) (below_nat n z h)).loose ∙ bit_zero (loose (tree (formula_rows T.schema T.schema_rows T.proof) (nat z)))))
      (λ h. and_first_false _ _ h ∙ sym (and_first_false _ _ h))
      (decide (below n z))
      ∙ ap (λ (c : ℕ). below c z and not (loose (tree (formula_rows T.schema T.schema_rows T.proof) (nat z)))) (sym rows_are)

  same_fits : (j : ℕ) → (place_fits T.nodes T.member_count j and list_fits facts n (set_of T.members (node_at T.nodes j))) ≡ set_fits T j
  unfolding place_fits list_fits set_fits set node
  same_fits j =
      and_assoc (set_follows T.nodes j) (le_z (set_end T.nodes j) (pos T.member_count)) _
      ∙ ap (λ (b : Bool). set_follows T.nodes j and (le_z (set_end T.nodes j) (pos T.member_count) and (ascending (set_of T.members (node_at T.nodes j)) and b))) (all_same _ _ outer_same (set_of T.members (node_at T.nodes j)))

  pub set_refusal_lem : (j : ℕ) → set_refusal T j ≡ at_unless (set_right facts n T.nodes T.node_rows T.members T.member_count j) Set j
  unfolding set_right set_refusal
  set_refusal_lem j = ap (λ (b : Bool). at_unless (b and (eqb (suc j) T.node_rows implies eq_z (set_end T.nodes j) (pos T.member_count))) Set j) (sym (same_fits j))

-- ---- what a set that was not refused is

module _ (T : Tableau) where
  fits_of : (j : ℕ) → set_refusal T j ≡ no_refusal → set_fits T j ≡ true
  unfolding set_refusal at_unless
  fits_of j h = and_left _ _ (unless_nothing _ _ _ h)

  follows_of : (j : ℕ) → set_fits T j ≡ true → set_follows T.nodes j ≡ true
  unfolding set_fits
  follows_of j h = and_left _ _ h

  -- the size is a natural number, and the start is where it has to be
  size_of : (j : ℕ) → set_fits T j ≡ true → le_z (pos 0) (node T j).size ≡ true
  unfolding set_follows node
  size_of j h = and_right (eq_z (node T j).start (set_start T.nodes j)) _ (follows_of j h)

  start_of : (j : ℕ) → set_fits T j ≡ true → (node T j).start ≡ set_start T.nodes j
  unfolding set_follows node
  start_of j h = eq_z_true (node T j).start (set_start T.nodes j) (and_left _ _ (follows_of j h))

  start_natural : (j : ℕ) → ((i : ℕ) → i ≤ j → set_fits T i ≡ true) → le_z (pos 0) (node T j).start ≡ true
  unfolding set_start node
  start_natural zero h = ap (le_z (pos 0)) (start_of zero (h zero (omega arith)))
  start_natural (suc j) h =
      ap (le_z (pos 0)) (start_of (suc j) (h (suc j) (omega arith)))
      ∙ le_of (num 0) (atom (node T j).start ⊕ atom (node T j).size)
      (omega (
        arith,
        nonneg_minus (node T j).start (start_natural j (λ i q. h i (omega arith))),
        nonneg_minus (node T j).size (size_of j (h j (omega arith))),
      ))

  end_of : (j : ℕ) → set_fits T j ≡ true → le_z ((node T j).start +ℤ (node T j).size) (pos T.member_count) ≡ true
  unfolding set_fits set_end node
  end_of j h = and_left _ _ (and_right (set_follows T.nodes j) _ h)

  list_of : (j : ℕ) → set_fits T j ≡ true → (ascending (set T j) and all_of (is_outer_row T) (set T j)) ≡ true
  unfolding set_fits
  list_of j h = and_right (le_z (set_end T.nodes j) (pos T.member_count)) _ (and_right (set_follows T.nodes j) _ h)

  known_of : (j : ℕ) → ((i : ℕ) → i ≤ j → set_fits T i ≡ true) → SetKnown T j
  known_of j h =
      let f = h j (omega arith) in
      let a = start_natural j h in
      let b = size_of j f in
      record {
        start = nat_pos (node T j).start a;
        size = nat_pos (node T j).size b;
        end =
            omega (
              arith,
              of_le (atom (node T j).start ⊕ atom (node T j).size) (num T.member_count) (end_of j f),
              nonneg_minus (node T j).start a,
              nonneg_minus (node T j).size b,
              plus_nat (node T j).start,
              plus_nat (node T j).size,
            );
        up = and_left _ _ (list_of j f);
        outer = and_right (ascending (set T j)) _ (list_of j f);
      }

  -- what the pass over the sets gives
  pub sets_known : (k : ℕ) → scan (set_refusal T) k ≡ no_refusal → AllSetsKnown T k
  sets_known k h j p = known_of j (λ i q. fits_of i (nothing_scan (set_refusal T) k h i (omega arith)))

-- ---- the members of such a set

-- an outer row is a row
pub outer_below : (T : Tableau) (z : ℤ) → is_outer_row T z ≡ true → below (row_count T) z ≡ true
unfolding is_outer_row is_row
outer_below T z h = and_left _ _ h

module _ (T : Tableau) (j : ℕ) (known : SetKnown T j) (held : T.member_count ≤ length T.members) where
  -- the set lies within the table, as what reads it requires
  pub set_within : Within T.nodes (length T.members) j
  unfolding node
  set_within = omega (arith, known.end)
