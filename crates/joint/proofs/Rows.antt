-- The formula rows of the joined record: those of either record, under new numbers, and the or.
use Prim.Native.Nat.{ℕ, zero, suc, ◌+◌, ◌*◌, ◌-◌, ◌<◌}
use native.Mathlib.Omega.{arith}
use mathlib.Core.Path.{◌≡◌, sym, ◌∙◌, ap}
use mathlib.Core.Logic.{◌⊎◌, inl, inr, ⊎_elim}
use mathlib.Core.Bool.{true, false}
use mathlib.Core.List.{List, ◌++◌}
use lib.Dec.{ltb}
use lib.IntN.{ℤ}
use lib.ListN.{length, length-append}
use borrow.Author.Tests.{lt-ltb, ltb-true}
use Rattle.stab.specs.Formula.{row_at, formula_rows}
use Rattle.stab.specs.Node.{Tableau, rows, row_count}
use Rattle.stab.proofs.Bools.{decide, if_true, if_false}
use Rattle.tidied.specs.Tidied.{renumbered, columns}
use Rattle.tidied.proofs.Moves.{Moves}
use Rattle.tidied.proofs.Foldings.{formula_rows_below, formula_rows_above, row_at_front, row_at_next, columns_length, schema_or_proof}
use Rattle.joint.specs.Joint.{schema_count, or_row, of_first, of_second, moved_rows, the_or, joint_schema, joint_proof, untidied}
use Rattle.joint.proofs.Lists.{row_at_after, moved_length, moved_row}

not_below : (s k : ℕ) → ltb (s + k) s ≡ false
not_below s k = go (decide (ltb (s + k) s))
  where
    go : (ltb (s + k) s ≡ true) ⊎ (ltb (s + k) s ≡ false) → ltb (s + k) s ≡ false
    go (inl e) = absurd (omega (arith, ltb-true (s + k) s e))
    go (inr e) = e

module _ (A B : Tableau) where
  -- ---- new numbers

  pub first_schema_lem : (r : ℕ) → r < A.schema_rows → of_first A B r ≡ r
  unfolding of_first
  first_schema_lem r h = if_true (ltb r A.schema_rows) _ _ (lt-ltb r A.schema_rows h)

  pub first_proof_lem : (k : ℕ) → of_first A B (A.schema_rows + k) ≡ schema_count A B + k
  unfolding of_first
  first_proof_lem k =
      let e : A.schema_rows + k - A.schema_rows ≡ k = omega arith in
      if_false (ltb (A.schema_rows + k) A.schema_rows) _ _ (not_below A.schema_rows k) ∙ ap (λ (m : ℕ). schema_count A B + m) e

  pub second_schema_lem : (r : ℕ) → r < B.schema_rows → of_second A B r ≡ A.schema_rows + r
  unfolding of_second
  second_schema_lem r h = if_true (ltb r B.schema_rows) _ _ (lt-ltb r B.schema_rows h)

  pub second_proof_lem : (k : ℕ) → of_second A B (B.schema_rows + k) ≡ schema_count A B + A.proof_rows + k
  unfolding of_second
  second_proof_lem k =
      let e : B.schema_rows + k - B.schema_rows ≡ k = omega arith in
      if_false (ltb (B.schema_rows + k) B.schema_rows) _ _ (not_below B.schema_rows k) ∙ ap (λ (m : ℕ). schema_count A B + A.proof_rows + m) e

  pub first_count : A.schema_rows + B.schema_rows < schema_count A B
  unfolding schema_count
  first_count = omega arith

  -- they keep the order
  pub first_order : (q r : ℕ) → q < r → of_first A B q < of_first A B r
  first_order q r h =
      ⊎_elim
      (λ m. let l : q < A.schema_rows = omega arith in omega (arith, first_schema_lem r m, first_schema_lem q l))
      (λ m.
      ⊎_elim
      (λ l. rw m.1 (omega (arith, first_proof_lem m.0, first_schema_lem q l, first_count)))
      (λ l. rw (m.1, l.1) (omega (arith, first_proof_lem m.0, first_proof_lem l.0, m.1, l.1)))
      (schema_or_proof A.schema_rows q))
      (schema_or_proof A.schema_rows r)

  pub second_order : (q r : ℕ) → q < r → of_second A B q < of_second A B r
  second_order q r h =
      ⊎_elim
      (λ m. let l : q < B.schema_rows = omega arith in omega (arith, second_schema_lem r m, second_schema_lem q l))
      (λ m.
      ⊎_elim
      (λ l. rw m.1 (omega (arith, second_proof_lem m.0, second_schema_lem q l, first_count)))
      (λ l. rw (m.1, l.1) (omega (arith, second_proof_lem m.0, second_proof_lem l.0, m.1, l.1)))
      (schema_or_proof B.schema_rows q))
      (schema_or_proof B.schema_rows r)

  -- ---- the tables

  X : List ℤ
  X = moved_rows (of_first A B) A.schema A.schema_rows

  Y : List ℤ
  Y = moved_rows (of_second A B) B.schema B.schema_rows

  both_length : length (X ++ Y) ≡ 4 * (A.schema_rows + B.schema_rows)
  unfolding X Y
  both_length =
      length-append X Y ∙ omega (arith, moved_length (of_first A B) A.schema A.schema_rows, moved_length (of_second A B) B.schema B.schema_rows)

  pub schema_length : length (joint_schema A B) ≡ 4 * schema_count A B
  unfolding joint_schema schema_count X Y
  schema_length = length-append (X ++ Y) (columns (the_or A B)) ∙ omega (arith, both_length, columns_length (the_or A B))

  schema_first : (r : ℕ) → r < A.schema_rows → row_at (joint_schema A B) r ≡ renumbered (of_first A B) (row_at A.schema r)
  unfolding joint_schema X Y
  schema_first r h =
      row_at_front (X ++ Y) (columns (the_or A B)) r (omega (arith, both_length))
      ∙ row_at_front X Y r (omega (arith, moved_length (of_first A B) A.schema A.schema_rows))
      ∙ moved_row (of_first A B) A.schema A.schema_rows r h

  schema_second : (r : ℕ) → r < B.schema_rows → row_at (joint_schema A B) (A.schema_rows + r) ≡ renumbered (of_second A B) (row_at B.schema r)
  unfolding joint_schema X Y
  schema_second r h =
      row_at_front (X ++ Y) (columns (the_or A B)) (A.schema_rows + r) (omega (arith, both_length))
      ∙ row_at_after X Y A.schema_rows r (moved_length (of_first A B) A.schema A.schema_rows)
      ∙ moved_row (of_second A B) B.schema B.schema_rows r h

  -- the or stands last
  pub or_is : rows (untidied A B) (or_row A B) ≡ the_or A B
  unfolding rows untidied or_row schema_count joint_schema X Y
  or_is =
      formula_rows_below (joint_schema A B) (schema_count A B) (joint_proof A B) (A.schema_rows + B.schema_rows) (omega arith)
      ∙ row_at_next (X ++ Y) (A.schema_rows + B.schema_rows) (the_or A B) both_length

  -- ---- the first's rows, and the second's

  first_row : (r : ℕ) → r < row_count A → rows (untidied A B) (of_first A B r) ≡ renumbered (of_first A B) (rows A r)
  unfolding rows row_count untidied joint_proof renumbered
  first_row r h =
      ⊎_elim
      (λ l.
      ap (formula_rows (joint_schema A B) (schema_count A B) (joint_proof A B)) (first_schema_lem r l)
      ∙ formula_rows_below (joint_schema A B) (schema_count A B) (joint_proof A B) r (omega (arith, first_count))
      ∙ schema_first r l
      ∙ ap (renumbered (of_first A B)) (sym (formula_rows_below A.schema A.schema_rows A.proof r l)))
      (λ m.
      let l : m.0 < A.proof_rows = omega (arith, m.1) in
      rw m.1
      (ap (formula_rows (joint_schema A B) (schema_count A B) (joint_proof A B)) (first_proof_lem m.0)
      ∙ formula_rows_above (joint_schema A B) (schema_count A B) (joint_proof A B) m.0
      ∙ row_at_front (moved_rows (of_first A B) A.proof A.proof_rows) _ m.0 (omega (arith, moved_length (of_first A B) A.proof A.proof_rows))
      ∙ moved_row (of_first A B) A.proof A.proof_rows m.0 l
      ∙ ap (renumbered (of_first A B)) (sym (formula_rows_above A.schema A.schema_rows A.proof m.0))))
      (schema_or_proof A.schema_rows r)

  second_row : (r : ℕ) → r < row_count B → rows (untidied A B) (of_second A B r) ≡ renumbered (of_second A B) (rows B r)
  unfolding rows row_count untidied joint_proof renumbered
  second_row r h =
      ⊎_elim
      (λ l.
      ap (formula_rows (joint_schema A B) (schema_count A B) (joint_proof A B)) (second_schema_lem r l)
      ∙ formula_rows_below (joint_schema A B) (schema_count A B) (joint_proof A B) (A.schema_rows + r) (omega (arith, first_count))
      ∙ schema_second r l
      ∙ ap (renumbered (of_second A B)) (sym (formula_rows_below B.schema B.schema_rows B.proof r l)))
      (λ m.
      let l : m.0 < B.proof_rows = omega (arith, m.1) in
      let e : schema_count A B + A.proof_rows + m.0 ≡ schema_count A B + (A.proof_rows + m.0) = omega arith in
      rw m.1
      (ap (formula_rows (joint_schema A B) (schema_count A B) (joint_proof A B)) (second_proof_lem m.0 ∙ e)
      ∙ formula_rows_above (joint_schema A B) (schema_count A B) (joint_proof A B) (A.proof_rows + m.0)
      ∙ row_at_after (moved_rows (of_first A B) A.proof A.proof_rows) (moved_rows (of_second A B) B.proof B.proof_rows) A.proof_rows m.0 (moved_length (of_first A B) A.proof A.proof_rows)
      ∙ moved_row (of_second A B) B.proof B.proof_rows m.0 l
      ∙ ap (renumbered (of_second A B)) (sym (formula_rows_above B.schema B.schema_rows B.proof m.0))))
      (schema_or_proof B.schema_rows r)

  pub first_moves : Moves (rows A) (rows (untidied A B)) (row_count A) (of_first A B)
  first_moves = record { same = first_row; ordered = λ r q h p l. first_order q r l }

  pub second_moves : Moves (rows B) (rows (untidied A B)) (row_count B) (of_second A B)
  second_moves = record { same = second_row; ordered = λ r q h p l. second_order q r l }

  pub first_fits : (r : ℕ) → r < row_count A → of_first A B r < row_count (untidied A B)
  unfolding row_count untidied
  first_fits r h =
      ⊎_elim
      (λ l. omega (arith, first_schema_lem r l, first_count))
      (λ m. rw m.1 (omega (arith, first_proof_lem m.0, m.1)))
      (schema_or_proof A.schema_rows r)

  pub second_fits : (r : ℕ) → r < row_count B → of_second A B r < row_count (untidied A B)
  unfolding row_count untidied
  second_fits r h =
      ⊎_elim
      (λ l. omega (arith, second_schema_lem r l, first_count))
      (λ m. rw m.1 (omega (arith, second_proof_lem m.0, m.1)))
      (schema_or_proof B.schema_rows r)

  -- each row is one of them
  pub data Whose (r : ℕ) : Type 0 where
    first : (q : ℕ) → q < row_count A → of_first A B q ≡ r → Whose r
    second : (q : ℕ) → q < row_count B → of_second A B q ≡ r → Whose r
    theirs : r ≡ or_row A B → Whose r

  pub whose : (r : ℕ) → r < row_count (untidied A B) → Whose r
  unfolding row_count untidied schema_count or_row
  whose r h =
      ⊎_elim
      (λ l. first r (omega arith) (first_schema_lem r l))
      (λ m. ⊎_elim (λ l. second m.0 (omega arith) (second_schema_lem m.0 l ∙ sym m.1)) (λ l. rest m.0 l.0 m.1 l.1) (schema_or_proof B.schema_rows m.0))
      (schema_or_proof A.schema_rows r)
    where
      proof_row : (k : ℕ) → r ≡ schema_count A B + k → Whose r
      proof_row k e =
          ⊎_elim
          (λ l. first (A.schema_rows + k) (omega arith) (first_proof_lem k ∙ sym e))
          (λ m.
          let d : schema_count A B + A.proof_rows + m.0 ≡ r = omega (arith, m.1, e) in
          second (B.schema_rows + m.0) (omega (arith, m.1, e)) (second_proof_lem m.0 ∙ d))
          (schema_or_proof A.proof_rows k)

      rest : (m k : ℕ) → r ≡ A.schema_rows + m → m ≡ B.schema_rows + k → Whose r
      rest m zero e d = theirs (omega arith)
      rest m (suc k) e d = proof_row k (omega arith)
