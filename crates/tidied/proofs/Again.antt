-- 02, No. 10: tidying again changes nothing.
use Prim.Native.Nat.{ℕ, zero, suc, ◌+◌, ◌*◌, ◌<◌, ◌≤◌}
use native.Mathlib.Omega.{arith}
use mathlib.Core.Path.{◌≡◌, refl, sym, ◌∙◌, ap, ap₂}
use mathlib.Core.Logic.{◌⊎◌, inl, inr, ⊎_elim, ◌≢◌}
use mathlib.Core.Bool.{true, false}
use mathlib.Core.List.{List, [], ◌∷◌, ◌++◌, append_assoc}
use mathlib.Core.Option.{none}
use lib.IntN.{ℤ, pos}
use lib.ListN.{length, get_or, take, length-append}
use lib.Seq.{take-suc, take_all}
use Rattle.stab.specs.Basic.{eq_z, nat}
use Rattle.stab.specs.Formula.{Row, row_at, formula_rows, well_formed}
use Rattle.stab.specs.Node.{Tableau, Node, rows, row_count, node, set}
use Rattle.stab.specs.Rule.{unused, rule}
use Rattle.stab.specs.Check.{same_row, check_older}
use Rattle.stab.specs.Keeps.{Below, KeepsKind, KeepsStep, Fresh}
use Rattle.stab.specs.Finding.{accept}
use Rattle.stab.proofs.Bools.{decide, if_false}
use Rattle.stab.proofs.Whole.{eq_z_true, not_eq_z}
use Rattle.stab.proofs.Trees.{below_nat, below_pos}
use Rattle.stab.proofs.Tests.{below_tests, same_row_tests}
use Rattle.stab.proofs.Scans.{below_suc}
use Rattle.stab.proofs.Firsts.{search_none}
use Rattle.stab.proofs.Formed.{formed_tests}
use Rattle.stab.proofs.Exactness.{older_accepts_exactly}
use Rattle.tidied.specs.Tidied.{through, renumbered, columns, Folding, new_number, earliest, folded_into, fold_row, fold_next, folding, folding_of, new_of, tidy_set, tidy_members, tidy_node, tidy_nodes, tidied}
use Rattle.tidied.proofs.Moves.{through_below}
use Rattle.tidied.proofs.Foldings.{formula_rows_below, formula_rows_above, row_at_take, schema_or_proof, new_schema, new_more, new_last, renumbered_agrees, renumbered_itself}
use Rattle.tidied.proofs.Sets.{tidy_same}
use Rattle.tidied.proofs.Tables.{tidy_of}
use Rattle.tidied.proofs.Carried.{through_unused}
use Rattle.tidied.proofs.Tidying.{KeepsRules, rules_of, rules_kept, tidied_fresh, fold, node_is, set_is}

-- nothing is found where no row is equal
none_earliest : (rows : ℕ → Row) (w : Row) (n : ℕ) → ((q : ℕ) → q < n → rows q ≢ w) → earliest rows n w ≡ none
unfolding earliest
none_earliest rows w n h =
    search_none _ n (λ q l. if_false (same_row (rows q) w) _ _ (go q l (decide (same_row (rows q) w))))
  where
    go : (q : ℕ) → q < n → (same_row (rows q) w ≡ true) ⊎ (same_row (rows q) w ≡ false) → same_row (rows q) w ≡ false
    go q l (inl e) = absurd (h q l ((same_row_tests (rows q) w).0 e))
    go q l (inr e) = e

-- s, s + 1, .. s + (k - 1)
pub counting : ℕ → ℕ → List ℕ
counting s zero = []
counting s (suc k) = counting s k ++ (s + k) ∷ []

counting_length : (s k : ℕ) → length (counting s k) ≡ k
unfolding counting
counting_length s zero = refl
counting_length s (suc k) = simp length-append (omega (arith, counting_length s k))

-- under which every row keeps its number
counting_same : (s k r : ℕ) → r < s + k → new_number s (counting s k) r ≡ r
unfolding counting
counting_same s zero r h = new_schema s [] r (omega arith)
counting_same s (suc k) r h =
    ⊎_elim
    (λ l. new_more s (counting s k) (s + k) r (omega (arith, counting_length s k)) ∙ counting_same s k r l)
    (λ e. rw e (new_last s (counting s k) (s + k) k (counting_length s k)))
    (below_suc r (s + k) (omega arith))

-- one number more of a table's first part
take_one : (t : List ℤ) (m n : ℕ) → n ≡ suc m → m < length t → take n t ≡ take m t ++ get_or t m (pos 0) ∷ []
take_one t m n e h = rw e (take-suc t m (pos 0) h)

-- one row more
take_row : (t : List ℤ) (k : ℕ) → 4 * suc k ≤ length t → take (4 * k) t ++ columns (row_at t k) ≡ take (4 * suc k) t
unfolding columns row_at
take_row t k h =
    sym
    (take_one t (4 * k + 3) (4 * suc k) (omega arith) (omega arith)
    ∙ ap (λ (u : List ℤ). u ++ get_or t (4 * k + 3) (pos 0) ∷ []) (take_one t (4 * k + 2) (4 * k + 3) (omega arith) (omega arith))
    ∙ ap (λ (u : List ℤ). u ++ get_or t (4 * k + 2) (pos 0) ∷ [] ++ get_or t (4 * k + 3) (pos 0) ∷ []) (take_one t (4 * k + 1) (4 * k + 2) (omega arith) (omega arith))
    ∙ ap (λ (u : List ℤ). u ++ get_or t (4 * k + 1) (pos 0) ∷ [] ++ get_or t (4 * k + 2) (pos 0) ∷ [] ++ get_or t (4 * k + 3) (pos 0) ∷ []) (take_one t (4 * k) (4 * k + 1) (omega arith) (omega arith))
    ∙ simp append_assoc)

module _ (schema : List ℤ) (s : ℕ) (proof : List ℤ) where
  module _ (n : ℕ) (held : 4 * n ≤ length proof) (formed : (r : ℕ) → r < s + n → well_formed (formula_rows schema s proof) r ≡ true)
      (fresh : (r q : ℕ) → s ≤ r → r < s + n → q < r → formula_rows schema s proof q ≢ formula_rows schema s proof r) where
    -- rows of which none repeats stay as they are
    pub folding_same : (k : ℕ) → k ≤ n → folding schema s proof k ≡ record { table = take (4 * k) proof; count = k; numbers = counting s k }
    unfolding folding fold_next fold_row folded_into counting
    folding_same zero h = refl
    folding_same (suc k) h =
        ap (fold_next schema s (row_at proof k)) (folding_same k (omega arith))
        ∙ ap (λ (w : Row). fold_row schema s w (record { table = take (4 * k) proof; count = k; numbers = counting s k })) same
        ∙ ap (folded_into s (record { table = take (4 * k) proof; count = k; numbers = counting s k }) (row_at proof k)) (none_earliest (formula_rows schema s (take (4 * k) proof)) (row_at proof k) (s + k) differs)
        ∙ ap (λ (t : List ℤ). record { table = t; count = suc k; numbers = counting s k ++ (s + k) ∷ [] }) (take_row proof k (omega arith))
      where
        same : renumbered (new_number s (counting s k)) (row_at proof k) ≡ row_at proof k
        same =
            ap (renumbered (new_number s (counting s k))) (sym (formula_rows_above schema s proof k))
            ∙ renumbered_agrees (formula_rows schema s proof) (new_number s (counting s k)) (λ x. x) (s + k) (formed (s + k) (omega arith)) (λ x m. counting_same s k x m)
            ∙ renumbered_itself (formula_rows schema s proof (s + k))
            ∙ formula_rows_above schema s proof k

        -- the rows before it are those of the whole table
        whole : (q : ℕ) → q < s + k → formula_rows schema s (take (4 * k) proof) q ≡ formula_rows schema s proof q
        whole q l =
            ⊎_elim
            (λ m. formula_rows_below schema s (take (4 * k) proof) q m ∙ sym (formula_rows_below schema s proof q m))
            (λ m. rw m.1 (formula_rows_above schema s (take (4 * k) proof) m.0 ∙ row_at_take proof (4 * k) m.0 (omega (arith, m.1)) ∙ sym (formula_rows_above schema s proof m.0)))
            (schema_or_proof s q)

        differs : (q : ℕ) → q < s + k → formula_rows schema s (take (4 * k) proof) q ≢ row_at proof k
        differs q l e = fresh (s + k) q (omega arith) (omega arith) l (sym (whole q l) ∙ e ∙ sym (formula_rows_above schema s proof k))

-- ---- a record of which no proof row repeats, in tables of just its rows

module _ (T : Tableau) (K : KeepsRules T) (fresh : Fresh T) (held : length T.proof ≡ 4 * T.proof_rows) where
  formed : (r : ℕ) → r < row_count T → well_formed (rows T) r ≡ true
  formed r h = (formed_tests (rows T) r).1 (K.formulas.each r h).formed

  fold_same : folding_of T ≡ record { table = T.proof; count = T.proof_rows; numbers = counting T.schema_rows T.proof_rows }
  unfolding folding_of rows row_count formed
  fold_same =
      folding_same T.schema T.schema_rows T.proof T.proof_rows (omega arith) formed fresh T.proof_rows (omega arith)
      ∙ ap (λ (t : List ℤ). record { table = t; count = T.proof_rows; numbers = counting T.schema_rows T.proof_rows }) (take_all (4 * T.proof_rows) T.proof (omega arith))

  new_same : (r : ℕ) → r < row_count T → new_of T r ≡ r
  unfolding new_of row_count
  new_same r h =
      ap (λ (F : Folding). new_number T.schema_rows F.numbers r) fold_same ∙ counting_same T.schema_rows T.proof_rows r h

  row_same : (z : ℤ) → Below (row_count T) z → through (new_of T) z ≡ z
  row_same z b =
      let t = (below_tests (row_count T) z).1 b in
      through_below (new_of T) (row_count T) z t ∙ ap pos (new_same (nat z) (below_nat (row_count T) z t)) ∙ below_pos (row_count T) z t

  -- a field names a row, or is unused
  field_same : (need z : ℤ) → KeepsKind T need z → through (new_of T) z ≡ z
  field_same need z k =
      ⊎_elim
      (λ e. let u = k.unused_field (eq_z_true need unused e) in ap (through (new_of T)) u ∙ through_unused (new_of T) ∙ sym u)
      (λ e. row_same z (k.is_row (not_eq_z need unused e)))
      (decide (eq_z need unused))

  other_same : (j : ℕ) → KeepsStep T j → through (new_of T) (node T j).other ≡ (node T j).other
  other_same j k =
      ⊎_elim
      (λ e. row_same (node T j).other (k.other_used e))
      (λ e. let u = k.other_unused e in ap (through (new_of T)) u ∙ through_unused (new_of T) ∙ sym u)
      (decide (rule T j).other)

  set_same : (j : ℕ) → j < T.node_rows → tidy_set (new_of T) (set T j) ≡ set T j
  set_same j h =
      tidy_same (new_of T) (set T j) (K.nodes j h).set.order (λ z m. row_same z ((K.nodes j h).set.outer_rows z m).is_row)

-- ---- the tidied record

module _ (T : Tableau) (K : KeepsRules T) where
  U : Tableau
  U = tidied T

  kept : KeepsRules U
  unfolding U
  kept = rules_kept T K

  U-fresh : Fresh U
  unfolding U
  U-fresh = tidied_fresh T K

  U-held : length U.proof ≡ 4 * U.proof_rows
  unfolding U tidied
  U-held = (fold T K).held

  set_again : (j : ℕ) → j < T.node_rows → tidy_set (new_of U) (set U j) ≡ tidy_set (new_of T) (set T j)
  unfolding U tidied
  set_again j h = set_same U kept U-fresh U-held j h ∙ set_is T K j h

  members_again : (j : ℕ) → j ≤ T.node_rows → tidy_members U (new_of U) j ≡ tidy_members T (new_of T) j
  unfolding tidy_members
  members_again zero h = refl
  members_again (suc j) h = ap₂ ◌++◌ (members_again j (omega arith)) (set_again j h)

  node_again : (j a b : ℕ) → j < T.node_rows → tidy_node (new_of U) (node U j) a b ≡ tidy_node (new_of T) (node T j) a b
  unfolding tidy_node tidy_of U tidied
  node_again j a b h i =
      let e = node_is T K j h in
      let k = (kept.nodes j h).step in
      (e i).up ∷ (e i).rule ∷ (field_same U kept U-fresh U-held _ _ k.on ∙ ap (λ (w : Node). w.on) e) i ∷
      (field_same U kept U-fresh U-held _ _ k.with ∙ ap (λ (w : Node). w.with) e) i ∷
      (other_same U kept U-fresh U-held j k ∙ ap (λ (w : Node). w.other) e) i ∷ (e i).to ∷ (e i).by ∷ pos a ∷ pos b ∷ []

  nodes_again : (j : ℕ) → j ≤ T.node_rows → tidy_nodes U (new_of U) j ≡ tidy_nodes T (new_of T) j
  unfolding tidy_nodes
  nodes_again zero h = refl
  nodes_again (suc j) h =
      ap₂ ◌++◌ (nodes_again j (omega arith))
      (ap₂ (λ (ms xs : List ℤ). tidy_node (new_of U) (node U j) (length ms) (length xs)) (members_again j (omega arith)) (set_again j h)
      ∙ node_again j _ _ h)

  again : tidied U ≡ U
  unfolding U tidied
  again i =
      let f = fold_same U kept U-fresh U-held in
      let m = members_again T.node_rows (omega arith) in
      record {
        schema = T.schema;
        schema_rows = T.schema_rows;
        proof = (f i).table;
        proof_rows = (f i).count;
        root = T.root;
        least = T.least;
        nodes = nodes_again T.node_rows (omega arith) i;
        node_rows = T.node_rows;
        members = m i;
        member_count = length (m i);
      }

-- "tidying again changes nothing"
pub tidy_again : (T : Tableau) (n l : ℕ) → check_older T ≡ accept n l → tidied (tidied T) ≡ tidied T
unfolding U
tidy_again T n l h = again T (rules_of T ((older_accepts_exactly T n l).0 h).0)
