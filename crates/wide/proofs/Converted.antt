-- 02, No. 1: the table that the converter fills means what the wide schema means, and a tableau of it refutes the wide schema.
use Prim.Native.Nat.{ℕ, zero, suc, ◌+◌, ◌*◌, ◌-◌, ◌≤◌}
use native.Mathlib.Omega.{arith}
use mathlib.Core.Path.{◌≡◌, refl, sym, ◌∙◌, ap, subst}
use mathlib.Core.Bool.{true, false, true≢false}
use mathlib.Core.List.{List, []}
use lib.IntN.{ℤ, pos}
use lib.Signed.{◌≤ℤ◌}
use lib.ListN.{length, get_or, replicate, length-append, length-replicate}
use Rattle.stab.specs.Basic.{nat}
use Rattle.stab.specs.Formula.{row_at, Formula, tree}
use Rattle.stab.specs.Meaning.{Assignment, truth, value}
use Rattle.stab.specs.Node.{Tableau, schema_of}
use Rattle.stab.specs.Check.{schema_refusal, check, check_older}
use Rattle.stab.specs.Text.{padded}
use Rattle.stab.specs.Refuted.{Refuted}
use Rattle.std.specs.Prelude.{Ok, Err}
use Rattle.stab.specs.Finding.{accept, no_refusal, refuse, Place, Finding}
use Rattle.stab.specs.declared.Refusal.{Refusal}
use Rattle.stab.proofs.Trees.{tree_agrees}
use Rattle.stab.proofs.Soundness.{sound, sound_older}
use Rattle.stab.proofs.Texts.Outcomes.{padded_none}
use Rattle.wide.specs.WideFormula.{wide_formula}
use Rattle.wide.specs.WideMeaning.{wide_truth}
use Rattle.wide.specs.Plain.{constant_row, row}
use Rattle.wide.specs.Converted.{WideRefuted}
use Rattle.wide.specs.Convert.{WideSchema, plain_table, plain_count, plain_root, convert_refusal, converted_table_by, converted_table, plain_schema}
use Rattle.wide.proofs.Tables.{row_is, columns_length, row_padded}
use Rattle.wide.proofs.PlainRows.{constant_tree}
use Rattle.wide.proofs.Conversion.{Converts, convert_clears, HasPlainRows, root_means, judged}

-- ---- the table

padded_length : (n : ℕ) (t : List ℤ) → length t ≤ n → length (padded (pos 0) n t) ≡ n
unfolding padded
padded_length n t h =
    omega (arith, length-append t (replicate (n - length t) (pos 0)), length-replicate (n - length t) (pos 0))

count_length : (W : WideSchema) → length (plain_table W) ≡ 4 * plain_count W
unfolding plain_table plain_count
count_length W = columns_length _

-- "Lent result memory is then all 0": after a refusal
pub refused_zeros : (W : WideSchema) (why : Refusal) (p : Place) → convert_refusal W ≡ refuse why p → converted_table W ≡ replicate W.room (pos 0)
unfolding converted_table converted_table_by
refused_zeros W why p h = ap (λ (x : Finding). converted_table_by x W) h ∙ padded_none (pos 0) W.room

-- the lent table keeps its length
pub converted_length : (W : WideSchema) → length (converted_table W) ≡ W.room
unfolding converted_table converted_table_by
converted_length W = go (convert_refusal W) refl
  where
    go : (x : Finding) → convert_refusal W ≡ x → length (converted_table_by x W) ≡ W.room
    go (Ok u) e =
        let K = (convert_clears W).0 e in
        padded_length W.room (plain_table W) (omega (arith, count_length W, K.room, K.plain_rules.limit))
    go (Err r) e = padded_length W.room [] (omega arith)

zeros : (m i : ℕ) → get_or (replicate m (pos 0)) i (pos 0) ≡ pos 0
zeros zero i = refl
zeros (suc m) zero = refl
zeros (suc m) (suc i) = zeros m i

-- after a refusal every row of it is true
cleared_row : (n p : ℕ) → row_at (padded (pos 0) n []) p ≡ constant_row true
unfolding padded row_at constant_row row
cleared_row n p =
    row_is (zeros (n - 0) (4 * p)) (zeros (n - 0) (4 * p + 1)) (zeros (n - 0) (4 * p + 2)) (zeros (n - 0) (4 * p + 3))

cleared_true : (W : WideSchema) (why : Refusal) (p : Place) → convert_refusal W ≡ refuse why p → (σ : Assignment) (n r : ℕ) → truth σ n (tree (row_at (converted_table W)) r) ≡ true
unfolding converted_table converted_table_by truth value
cleared_true W why p e σ n r =
    ap (λ (f : Formula). value σ n f (pos 0))
    (constant_tree (row_at (converted_table W)) r true (ap (λ (x : Finding). row_at (converted_table_by x W) r) e ∙ cleared_row W.room r))

-- ---- the theorems

module _ (W : WideSchema) (converts : convert_refusal W ≡ no_refusal) where
  kept : Converts W
  kept = (convert_clears W).0 converts

  -- it starts with the plain rows
  pub has_plain_rows : HasPlainRows W (row_at (converted_table W))
  unfolding converted_table converted_table_by
  has_plain_rows p l =
      ap (λ (x : Finding). row_at (converted_table_by x W) p) converts ∙ row_padded W.room (plain_table W) p (omega (arith, count_length W))

  -- "The plain root is true exactly where the wide root is, at every n and assignment"
  pub plain_means : (σ : Assignment) (n : ℕ) → truth σ n (tree (row_at (converted_table W)) (plain_root W)) ≡ wide_truth σ n (wide_formula W.schema)
  plain_means σ n = root_means W (row_at (converted_table W)) has_plain_rows kept.wide_rules.formed kept.wide_rules.root_row σ n

  -- the table holds the plain rows, and the check's pass over formula rows finds nothing of them
  pub plain_passes : (schema_refusal (plain_schema W) ≡ no_refusal) × (plain_count W ≤ 1024) × (4 * plain_count W ≤ length (converted_table W))
  plain_passes = (
    (judged W (converted_table W) has_plain_rows kept.wide_rules).1 kept.plain_rules.small,
    kept.plain_rules.limit,
    omega (arith, converted_length W, kept.room, kept.plain_rules.limit),
  )

refuted_wide : (W : WideSchema) → Refuted (plain_schema W) → WideRefuted W.schema
unfolding nat
refuted_wide W refuted n σ h = go (convert_refusal W) refl
  where
    go : (x : Finding) → convert_refusal W ≡ x → wide_truth σ n (wide_formula W.schema) ≡ false
    go (Ok u) e = sym (plain_means W e σ n) ∙ refuted n σ h
    go (Err r) e = absurd (true≢false (sym (cleared_true W r.why r.place e σ n (plain_root W)) ∙ refuted n σ h))

-- "so a closed tableau for the plain schema refutes the wide one", whichever entry accepts it: a tableau with that root and least value,
-- whose schema table is the one filled or agrees with it up to the root
module _ (W : WideSchema) (T : Tableau) (rows : (r : ℕ) → r ≤ plain_root W → row_at T.schema r ≡ row_at (converted_table W) r) (root : T.root ≡ pos (plain_root W)) (least : T.least ≡ W.schema.least) (nodes links : ℕ) where
  same_refuted : Refuted (schema_of T) → WideRefuted W.schema
  unfolding nat
  same_refuted r =
      refuted_wide W (λ n σ h.
      ap (truth σ n) (sym (tree_agrees (row_at T.schema) (row_at (converted_table W)) (plain_root W) rows))
      ∙ ap (λ (z : ℤ). truth σ n (tree (row_at T.schema) (nat z))) (sym root)
      ∙ r n σ (subst (λ (z : ℤ). z ≤ℤ pos n) (sym least) h))

  pub wide_refuted : check T ≡ accept nodes links → WideRefuted W.schema
  wide_refuted h = same_refuted (sound T nodes links h)

  pub wide_refuted_older : check_older T ≡ accept nodes links → WideRefuted W.schema
  wide_refuted_older h = same_refuted (sound_older T nodes links h)
