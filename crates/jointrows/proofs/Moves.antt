-- The rows of two records under the numbers that were worked out for them are the rows of the joined record.
use Rattle.std.specs.Prelude.{if◌then◌else◌}
use Prim.Native.Nat.{ℕ, zero, suc, ◌+◌, ◌<◌, ◌≤◌}
use native.Mathlib.Omega.{arith}
use mathlib.Core.Path.{◌≡◌, refl, sym, ◌∙◌, ap, ap₂}
use mathlib.Core.List.{List, ◌++◌}
use lib.Dec.{ltb}
use lib.IntN.{ℤ, pos}
use lib.ListN.{get_or}
use Rattle.stab.specs.Basic.{nat}
use Rattle.stab.specs.Formula.{Row, row_at, formula_rows}
use Rattle.stab.specs.Node.{Tableau}
use Rattle.stab.specs.Text.{padded}
use Rattle.stab.proofs.Trees.{below_nat}
use Rattle.formula.specs.Facts.{AllFormed}
use Rattle.tidied.specs.Tidied.{through, renumbered, columns, Folding, new_number, folding, folding_of, new_of}
use Rattle.tidied.proofs.Moves.{through_below}
use Rattle.tidied.proofs.Foldings as Folds
use Rattle.tidied.proofs.Foldings.{formula_rows_below, formula_rows_above, new_schema, new_proof, renumbered_agrees, folding_agrees}
use Rattle.folds.proofs.Numbers.{new_padded}
use Rattle.joint.specs.Joint.{schema_count, of_first, of_second, moved_rows, the_or, joint_schema, joint_proof, untidied}
use Rattle.joint.proofs.Rows.{schema_length}
use Rattle.jointrows.specs.Kept.{placed, Gives, or_of, both_schemata, both_proofs, Joinable}
use Rattle.jointrows.proofs.Numbers.{gives_at, placed_small}

-- ---- where rows are placed

module _ (A B : Tableau) where
  first_placed : (r : ℕ) → placed A.schema_rows 0 (A.schema_rows + B.schema_rows + 1) r ≡ of_first A B r
  unfolding placed of_first schema_count
  first_placed r = ap₂ (λ (x y : ℕ). if ltb r A.schema_rows then x else y) (omega arith) (omega arith)

  second_placed : (r : ℕ) → placed B.schema_rows A.schema_rows (A.schema_rows + B.schema_rows + 1 + A.proof_rows) r ≡ of_second A B r
  unfolding placed of_second schema_count
  second_placed r = ap (λ (y : ℕ). if ltb r B.schema_rows then A.schema_rows + r else y) (omega arith)

  module _ (few : A.schema_rows + B.schema_rows < 1024) (held : A.schema_rows + A.proof_rows ≤ 1024) (new : List ℕ) (r : ℕ) (h : r < 1024) where
    pub first_number_lem : new_number 4097 new (placed A.schema_rows 0 (A.schema_rows + B.schema_rows + 1) r) ≡ of_first A B r
    first_number_lem =
        new_schema 4097 new (placed A.schema_rows 0 (A.schema_rows + B.schema_rows + 1) r) (omega (arith, placed_small A.schema_rows 0 (A.schema_rows + B.schema_rows + 1) r h (omega arith) (omega arith)))
        ∙ first_placed r

    pub second_number : new_number 4097 new (placed B.schema_rows A.schema_rows (A.schema_rows + B.schema_rows + 1 + A.proof_rows) r) ≡ of_second A B r
    second_number =
        new_schema 4097 new (placed B.schema_rows A.schema_rows (A.schema_rows + B.schema_rows + 1 + A.proof_rows) r) (omega (arith, placed_small B.schema_rows A.schema_rows (A.schema_rows + B.schema_rows + 1 + A.proof_rows) r h (omega arith) (omega arith)))
        ∙ second_placed r

  -- the new numbers of all rows
  module _ (numbers : List ℕ) (k : ℕ) (F : Folding) (kept : numbers ≡ padded 0 k F.numbers) (same : F ≡ folding_of (untidied A B)) where
    numbers_are : new_number (A.schema_rows + B.schema_rows + 1) numbers ≡ new_of (untidied A B)
    unfolding new_of untidied schema_count
    numbers_are =
        let e : A.schema_rows + B.schema_rows + 1 ≡ suc (A.schema_rows + B.schema_rows) = omega arith in
        ap (new_number (A.schema_rows + B.schema_rows + 1)) kept
        ∙ new_padded (A.schema_rows + B.schema_rows + 1) k F.numbers
        ∙ ap₂ new_number e (ap (λ (G : Folding). G.numbers) same)

    pub first_new : (r : ℕ) → new_number (A.schema_rows + B.schema_rows + 1) numbers (placed A.schema_rows 0 (A.schema_rows + B.schema_rows + 1) r) ≡ new_of (untidied A B) (of_first A B r)
    first_new r = ap₂ (λ (f : ℕ → ℕ) (q : ℕ). f q) numbers_are (first_placed r)

    pub second_new : (r : ℕ) → new_number (A.schema_rows + B.schema_rows + 1) numbers (placed B.schema_rows A.schema_rows (A.schema_rows + B.schema_rows + 1 + A.proof_rows) r) ≡ new_of (untidied A B) (of_second A B r)
    second_new r = ap₂ (λ (f : ℕ → ℕ) (q : ℕ). f q) numbers_are (second_placed r)

-- a table's number of row r
pub table_number : (numbers : List ℕ) (r : ℕ) → new_number 0 numbers r ≡ get_or numbers r 0
table_number numbers r = let e : r ≡ 0 + r = omega arith in ap (new_number 0 numbers) e ∙ new_proof 0 numbers r

-- ---- rows whose parts are few

module _ (rows : ℕ → Row) (t : List ℤ) (m : ℕ) (new new' : ℕ → ℕ) (agree : (x : ℕ) → x < 1024 → new x ≡ new' x) where
  moved_agree : (n : ℕ) → m + n ≤ 1024 → ((k : ℕ) → k < n → row_at t k ≡ rows (m + k)) → AllFormed rows (m + n) → moved_rows new t n ≡ moved_rows new' t n
  unfolding moved_rows
  moved_agree zero l e f = refl
  moved_agree (suc n) l e f =
      ap₂ (λ (x y : List ℤ). x ++ y) (moved_agree n (omega arith) (λ k h. e k (omega arith)) (λ r h. f r (omega arith)))
      (ap columns
      (ap (renumbered new) (e n (omega arith))
      ∙ renumbered_agrees rows new new' (m + n) (f (m + n) (omega arith)) (λ x h. agree x (omega arith))
      ∙ ap (renumbered new') (sym (e n (omega arith)))))

module _ (A : Tableau) (J : Joinable A) (N : List ℕ) (f : ℕ → ℕ) (g : Gives N f) where
  agree : (x : ℕ) → x < 1024 → new_number 0 N x ≡ f x
  agree x h = table_number N x ∙ gives_at N f g x h

  schema_agree : moved_rows (new_number 0 N) A.schema A.schema_rows ≡ moved_rows f A.schema A.schema_rows
  schema_agree =
      moved_agree (formula_rows A.schema A.schema_rows A.proof) A.schema 0 (new_number 0 N) f agree A.schema_rows (omega (arith, J.few))
      (λ k h. let e : k ≡ 0 + k = omega arith in sym (formula_rows_below A.schema A.schema_rows A.proof k h) ∙ ap (formula_rows A.schema A.schema_rows A.proof) e)
      (λ r h. J.formed r (omega arith))

  proof_agree : moved_rows (new_number 0 N) A.proof A.proof_rows ≡ moved_rows f A.proof A.proof_rows
  proof_agree =
      moved_agree (formula_rows A.schema A.schema_rows A.proof) A.proof A.schema_rows (new_number 0 N) f agree A.proof_rows J.few
      (λ k h. sym (formula_rows_above A.schema A.schema_rows A.proof k))
      J.formed

  root_agree : through (new_number 0 N) A.root ≡ through f A.root
  root_agree =
      through_below (new_number 0 N) A.schema_rows A.root J.root
      ∙ ap pos (agree (nat A.root) (omega (arith, J.few, below_nat A.schema_rows A.root J.root)))
      ∙ sym (through_below f A.schema_rows A.root J.root)

-- ---- both records

module _ (A B : Tableau) (JA : Joinable A) (JB : Joinable B) (N M : List ℕ) (gN : Gives N (of_first A B)) (gM : Gives M (of_second A B)) where
  abbrev schemata : List ℤ
  schemata = both_schemata (new_number 0 N) A.schema A.schema_rows A.root (new_number 0 M) B.schema B.schema_rows B.root

  abbrev proofs : List ℤ
  proofs = both_proofs (new_number 0 N) A.proof A.proof_rows (new_number 0 M) B.proof B.proof_rows

  pub schemata_are : schemata ≡ joint_schema A B
  unfolding both_schemata joint_schema the_or or_of
  schemata_are =
      ap₂ (λ (x y : List ℤ). x ++ y)
      (ap₂ (λ (x y : List ℤ). x ++ y) (schema_agree A JA N (of_first A B) gN) (schema_agree B JB M (of_second A B) gM))
      (ap₂ (λ (a b : ℤ). columns (or_of a b)) (root_agree A JA N (of_first A B) gN) (root_agree B JB M (of_second A B) gM))

  proofs_are : proofs ≡ joint_proof A B
  unfolding both_proofs joint_proof
  proofs_are =
      ap₂ (λ (x y : List ℤ). x ++ y) (proof_agree A JA N (of_first A B) gN) (proof_agree B JB M (of_second A B) gM)

  pub folding_is : (out : List ℤ) (k : ℕ) → out ≡ padded (pos 0) k schemata → folding out (A.schema_rows + B.schema_rows + 1) proofs (A.proof_rows + B.proof_rows) ≡ folding_of (untidied A B)
  unfolding folding_of untidied schema_count
  folding_is out k o =
      let e : A.schema_rows + B.schema_rows + 1 ≡ suc (A.schema_rows + B.schema_rows) = omega arith in
      ap₂ (λ (s : ℕ) (p : List ℤ). folding out s p (A.proof_rows + B.proof_rows)) e proofs_are
      ∙ folding_agrees out (joint_schema A B) (suc (A.schema_rows + B.schema_rows)) same_rows (joint_proof A B) (joint_proof A B) (A.proof_rows + B.proof_rows) (λ q l. refl)
    where
      same_rows : (r : ℕ) → r < suc (A.schema_rows + B.schema_rows) → row_at out r ≡ row_at (joint_schema A B) r
      same_rows r h = ap (λ (t : List ℤ). row_at t r) (o ∙ ap (padded (pos 0) k) schemata_are) ∙ front r h
        where
          front : (r : ℕ) → r < suc (A.schema_rows + B.schema_rows) → row_at (padded (pos 0) k (joint_schema A B)) r ≡ row_at (joint_schema A B) r
          front r h = unfold padded schema_count in Folds.row_at_front (joint_schema A B) _ r (omega (arith, schema_length A B, h))
