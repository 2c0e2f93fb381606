-- 02, No. 12: only the wires that occur matter.
pub mod Values
pub mod Lists
pub mod Tables
pub mod Limits
use Prim.Native.Nat.{ℕ, ◌*◌, ◌≤◌, ◌<◌}
use native.Mathlib.Omega.{arith}
use mathlib.Core.Path.{◌≡◌, refl, ◌∙◌, subst}
use mathlib.Core.Logic.Iff
use mathlib.Core.Logic.{◌↔◌, inl, ⊎_elim}
use mathlib.Core.Bool.{true}
use mathlib.Core.List.Memᴰ
use mathlib.Core.List.{List, [], Memᴰ}
use lib.IntN.{ℤ, pos, negsuc, neg_ℤ}
use lib.Signed.{le_z}
use lib.ListN.{length}
use borrow.Author.Tests.{leb-true}
use Rattle.stab.specs.Basic.{nat}
use Rattle.stab.specs.Formula.{Schema, Formula, schema_formula}
use Rattle.stab.specs.Meaning.{Assignment, truth}
use Rattle.stab.specs.Model.{Model, listed, assignment, satisfied, check_model}
use Rattle.stab.specs.Keeps.{Within, KeepsSchema, KeepsPair}
use Rattle.stab.specs.Occurs.{Occurs, OccursIn, Wire, occurring, Ascends, KeepsList, HasList, HasListOfWires, table, listing, HasModel, HasModelOfWires}
use Rattle.stab.specs.Finding.{accept}
use Rattle.stab.proofs.Bools.{same_test}
use Rattle.stab.proofs.Whole.{le_z_of, of_le_z}
use Rattle.stab.proofs.Trees.{below_nat}
use Rattle.stab.proofs.Tests.{below_tests}
use Rattle.stab.proofs.Exactness.{model_accepts_exactly}
use Values.{same_value}
use Lists.{mem_inserted, inserted_ascends}
use Tables.{listed_tests, table_length, table_at, table_tests, table_keeps, kept, mem_kept, kept_ascends, kept_length}
use Limits.{limited, occurs_within}

-- ---- the list

-- a pair is in the list exactly if it occurs
pub occurring_exactly : (n : ℕ) (f : Formula) (w : Wire) → Memᴰ w (occurring n f) ↔ Occurs n f (pos 0) w.symbol w.index
unfolding occurring
occurring_exactly n f w =
    Iff.trans (mem_inserted n f (pos 0) [] w) (⊎_elim (λ o. o) (λ m. absurd (Memᴰ.not-nil m)), inl)

-- the list ascends, so no pair is in it twice
pub occurring_ascends : (n : ℕ) (f : Formula) → Ascends (occurring n f)
unfolding occurring
occurring_ascends n f = inserted_ascends n f (pos 0) [] tt

-- ---- the same value

-- "at a given n, two assignments that agree on the pairs occurring in the schema at that n give it the same value", for every table of numbers
pub same_wires : (S : Schema) (n : ℕ) (σ τ : Assignment) → ((s z : ℤ) → OccursIn S n s z → σ s z ≡ τ s z) → truth σ n (schema_formula S) ≡ truth τ n (schema_formula S)
unfolding truth
same_wires S n σ τ h = same_value σ τ n (schema_formula S) (pos 0) h

-- the same by the list
pub same_listed : (n : ℕ) (f : Formula) (σ τ : Assignment) → ((w : Wire) → Memᴰ w (occurring n f) → σ w.symbol w.index ≡ τ w.symbol w.index) → truth σ n f ≡ truth τ n f
unfolding truth
same_listed n f σ τ h =
    same_value σ τ n f (pos 0) (λ s z p. let w : Wire = record { symbol = s; index = z } in h w ((occurring_exactly n f w).1 p))

-- ---- models, at every n

-- the pairs of a table that occur, whatever else it lists and in whatever order
module _ (n : ℕ) (f : Formula) (t : List ℤ) (k : ℕ) where
  wires_among : List Wire
  wires_among = kept (λ w. listed (table (occurring n f)) (length (occurring n f)) w.symbol w.index) t k

  among_occur : (w : Wire) → Memᴰ w wires_among → Occurs n f (pos 0) w.symbol w.index
  unfolding wires_among
  among_occur w m = (occurring_exactly n f w).0 ((table_tests (occurring n f) w).0 ((mem_kept _ t k w).0 m).1)

  among_few : length wires_among ≤ k
  unfolding wires_among
  among_few = kept_length _ t k

  among_ascends : Ascends wires_among
  unfolding wires_among
  among_ascends = kept_ascends _ t k

  among_same : (s z : ℤ) → Occurs n f (pos 0) s z → listed (table wires_among) (length wires_among) s z ≡ listed t k s z
  unfolding wires_among
  among_same s z p =
      let w : Wire = record { symbol = s; index = z } in
      same_test _ _
      (λ h. (listed_tests t k w).1 ((mem_kept _ t k w).0 ((table_tests wires_among w).0 h)).0)
      (λ h. (table_tests wires_among w).1 ((mem_kept _ t k w).1 ((listed_tests t k w).0 h, (table_tests (occurring n f) w).1 ((occurring_exactly n f w).1 p))))

  among_truth : truth (listed (table wires_among) (length wires_among)) n f ≡ truth (listed t k) n f
  unfolding truth
  among_truth = same_value _ _ n f (pos 0) among_same

  -- each is a pair of the table, so it is in range if the table's are
  among_keeps : ((j : ℕ) → j < k → KeepsPair t j) → (j : ℕ) → j < length wires_among → KeepsPair (table wires_among) j
  unfolding wires_among
  among_keeps each =
      table_keeps wires_among among_ascends (λ w m.
      let p = ((mem_kept _ t k w).0 m).0 in
      let K = each p.0 p.1 in
      subst (λ (x : Wire). Within (pos 0) (pos 255) x.symbol × Within (neg_ℤ (pos 29997)) (pos 29997) x.index) p.2 (K.symbol, K.index))

-- "So a schema has a model in 01's sense, a list, at n exactly when it has one that lists only pairs which occur", for every natural n and every table of numbers
pub list_wires : (S : Schema) (n : ℕ) → HasList S n ↔ HasListOfWires S n
list_wires S n = (
  λ L.
      let f : Formula = schema_formula S in
      let ws : List Wire = wires_among n f L.0 L.1 in (
        table ws,
        length ws,
        record {
          held = omega (arith, table_length ws);
          limit = omega (arith, among_few n f L.0 L.1, L.2.limit);
          each = among_keeps n f L.0 L.1 L.2.each;
          holds = among_truth n f L.0 L.1 ∙ L.2.holds;
        },
        λ k l. among_occur n f L.0 L.1 _ (table_at ws k l),
      ),
  λ L. (L.0, L.1, L.2),
)

-- ---- models that the model check accepts

nat_most : (z : ℤ) (m : ℕ) → le_z z (pos m) ≡ true → nat z ≤ m
unfolding nat
nat_most (pos k) m h = leb-true k m h
nat_most (negsuc k) m h = omega arith

-- every pair that occurs in a well-formed schema at an n in range can be listed in a model
pub occurs_in_range : (S : Schema) → KeepsSchema S → (n : ℕ) → n ≤ 9999 → (s z : ℤ) → OccursIn S n s z → Within (pos 0) (pos 255) s × Within (neg_ℤ (pos 29997)) (pos 29997) z
occurs_in_range S K n h s z p =
    occurs_within n h (schema_formula S)
    (limited _ S.rows K.each (nat S.root) (below_nat S.rows S.root ((below_tests S.rows S.root).1 K.root_row)))
    (pos 0) s z (of_le_z refl, of_le_z refl) p

-- a list that makes the schema true is accepted at an n in range, if the schema is well formed
list_accepted : (S : Schema) (n : ℤ) → 4 * S.rows ≤ length S.table → S.rows ≤ 1024 → KeepsSchema S → Within S.least (pos 9999) n
    → (pairs : List ℤ) (pair_rows : ℕ) → KeepsList S (nat n) pairs pair_rows → check_model (listing S n pairs pair_rows) ≡ accept 0 0
unfolding satisfied assignment
list_accepted S n held limit K range pairs pair_rows L =
    (model_accepts_exactly (listing S n pairs pair_rows)).1 (record {
      schema_held = held;
      pairs_held = L.held;
      row_limit = limit;
      pair_limit = L.limit;
      formulas = K;
      pairs = L.each;
      in_range = range;
      holds = L.holds;
    })

-- wires that occur, ascending and few enough, are an accepted model if they make the schema true
pub wires_accepted : (S : Schema) (n : ℤ) → 4 * S.rows ≤ length S.table → S.rows ≤ 1024 → KeepsSchema S → Within S.least (pos 9999) n
    → (ws : List Wire) → length ws ≤ 4096 → Ascends ws → ((w : Wire) → Memᴰ w ws → OccursIn S (nat n) w.symbol w.index)
    → truth (listed (table ws) (length ws)) (nat n) (schema_formula S) ≡ true → check_model (listing S n (table ws) (length ws)) ≡ accept 0 0
wires_accepted S n held limit K range ws few a occur t =
    list_accepted S n held limit K range (table ws) (length ws) (record {
      held = omega (arith, table_length ws);
      limit = few;
      each = table_keeps ws a (λ w m. occurs_in_range S K (nat n) (nat_most n 9999 (le_z_of range.1)) w.symbol w.index (occur w m));
      holds = t;
    })

-- where a model is accepted, so is one of the same schema at the same n that lists only pairs which occur
pub only_wires : (M : Model) → check_model M ≡ accept 0 0 → HasModelOfWires M.schema M.n
unfolding satisfied assignment
only_wires M h =
    let K = (model_accepts_exactly M).0 h in
    let L = (list_wires M.schema (nat M.n)).0 (M.pairs, M.pair_rows, record { held = K.pairs_held; limit = K.pair_limit; each = K.pairs; holds = K.holds }) in (
      L.0,
      L.1,
      list_accepted M.schema M.n K.schema_held K.row_limit K.formulas K.in_range L.0 L.1 L.2,
      L.3,
    )

-- the same of models that the model check accepts, so with n from the least value up to 9999
pub model_wires : (S : Schema) (n : ℤ) → HasModel S n ↔ HasModelOfWires S n
model_wires S n = (λ M. only_wires (listing S n M.0 M.1) M.2, λ M. (M.0, M.1, M.2))
