-- 02, No. 1: no check refuses the plain rows with 6, 7 or 8, whatever else is wrong with a record or a model of them.
use Prim.Native.Nat.{ℕ, zero, suc, ◌<◌, ◌≤◌}
use native.Mathlib.Omega.{arith}
use mathlib.Core.Path.{◌≡◌, refl, sym, ◌∙◌, ap, ap₂}
use mathlib.Core.Logic.{◌≢◌, ⊎_elim}
use mathlib.Core.Bool.{Bool, true, false}
use lib.Dec.{ltb}
use lib.IntN.{ℤ, pos}
use borrow.Author.Tests.{lt-ltb, ltb-true, ltb-false}
use Rattle.stab.specs.Basic.{nat, below, within, ◌otherwise◌, scan, unless}
use Rattle.stab.specs.Formula.{Row, row_at, formula_rows, tree, is_outer}
use Rattle.stab.specs.Node.{Tableau, rows, row_count}
use Rattle.stab.specs.Check.{whole_unless, at_unless, row_refusal, repeat_refusal, formula_refusal, root_fits, formulas_refusal, schema_refusal, set_refusal, parent_refusal, step_refusal, node_refusal, refusal}
use Rattle.stab.specs.Model.{Model, pair_refusal, model_refusal}
use Rattle.stab.specs.Answer.{refusal_number}
use Rattle.stab.specs.Refuted.{SameSchema}
use Rattle.stab.specs.declared.Mode.{Mode}
use Rattle.std.specs.Prelude.{None, Some, Ok, Err}
use Rattle.stab.specs.Finding.{no_refusal, refuse, Place, Finding}
use Rattle.stab.specs.declared.Refusal.{Refusal}
use Rattle.stab.specs.declared.Refused.{Refused}
use Rattle.stab.specs.declared.Refusal.TheVariants.{IllFormed, TooLarge}
use Rattle.stab.proofs.Bools.{decide, if_true, and_both, nothing_unless, nothing≢found}
use Rattle.stab.proofs.Trees.{below_of}
use Rattle.wide.specs.Converted.{Spares}
use Rattle.wide.specs.Convert.{WideSchema, plain_table, plain_count, plain_root, convert_refusal, converted_table, plain_schema}
use Rattle.wide.proofs.Tables.{small_agrees}
use Rattle.wide.proofs.Conversion.{Converts, convert_clears, HasPlainRows, row_formed, root_below, root_outer_lem}
use Rattle.wide.proofs.Converted.{has_plain_rows}

-- a refusal other than 6, 7 and 8
abbrev Other : Refusal → Type 0
Other why = (refusal_number why ≢ 6) × (refusal_number why ≢ 7) × (refusal_number why ≢ 8)

same_refused : {r r' : Refused} → ◌≡◌ {A = Finding} (Err r) (Err r') → r ≡ r'
same_refused e = cc

same_number : {why why' : Refusal} {p p' : Place} → refuse {A = Unit {0}} why p ≡ refuse why' p' → refusal_number why ≡ refusal_number why'
same_number e = ap (λ (r : Refused). refusal_number r.why) (same_refused e)

same_row : {why why' : Refusal} {k r : ℕ} → refuse {A = Unit {0}} why (Some k) ≡ refuse why' (Some r) → k ≡ r
same_row {k = k} {r = r} e = let q : Some k ≡ Some r = ap (λ (r : Refused). r.place) (same_refused e) in cc

nothing_spares : {s : ℕ} {x : Finding} → x ≡ no_refusal → Spares s x
nothing_spares {x = x} e = record { root = never; formed = λ r l. never; small = λ r l. never }
  where
    never : {why : Refusal} {p : Place} → x ≢ refuse why p
    never h = nothing≢found (sym e ∙ h)

other_unless : {s : ℕ} (t : Bool) (why : Refusal) (p : Place) → Other why → Spares s (unless t why p)
unfolding unless
other_unless true why p o = nothing_spares refl
other_unless false why p o = record { root = λ e. o.0 (same_number e); formed = λ r l e. o.1 (same_number e); small = λ r l e. o.2 (same_number e) }

other_whole : {s : ℕ} (t : Bool) (why : Refusal) → Other why → Spares s (whole_unless t why)
unfolding whole_unless
other_whole t why o = other_unless t why None o

other_at : {s : ℕ} (t : Bool) (why : Refusal) (k : ℕ) → Other why → Spares s (at_unless t why k)
unfolding at_unless
other_at t why k o = other_unless t why (Some k) o

-- a row that is none of the first s
later_at : {s : ℕ} (t : Bool) (why : Refusal) (k : ℕ) → s ≤ k → refusal_number why ≢ 6 → Spares s (at_unless t why k)
unfolding at_unless unless
later_at true why k l o = nothing_spares refl
later_at false why k l o =
    record { root = λ e. o (same_number e); formed = λ r m e. omega (arith, same_row e); small = λ r m e. omega (arith, same_row e) }

infixr 25 ◌and_then_lem◌
◌and_then_lem◌ : {s : ℕ} {x y : Finding} → Spares s x → Spares s y → Spares s (x otherwise y)
unfolding ◌otherwise◌
◌and_then_lem◌ {x = (Ok u)} f g = g
◌and_then_lem◌ {x = (Err r)} f g = f

scan_spares : {s : ℕ} (f : ℕ → Finding) (n : ℕ) → ((k : ℕ) → Spares s (f k)) → Spares s (scan f n)
unfolding scan
scan_spares f zero h = nothing_spares refl
scan_spares f (suc n) h = scan_spares f n h and_then_lem h n

-- ---- the plain rows in any table that starts with them

module _ (W : WideSchema) (converts : convert_refusal W ≡ no_refusal) (plains : ℕ → Row) (has : HasPlainRows W plains) where
  rules : Converts W
  rules = (convert_clears W).0 converts

  row_spares : (r : ℕ) → Spares (plain_count W) (row_refusal plains r)
  unfolding row_refusal at_unless
  row_spares r =
      ⊎_elim
      (λ e.
      let l = ltb-true r (plain_count W) e in
      nothing_spares (nothing_unless _ _ _ (row_formed W plains has rules.wide_rules.formed r l)) and_then_lem
      nothing_spares (nothing_unless _ _ _ (small_agrees plains (row_at (plain_table W)) r (λ a m. has a (omega arith)) ∙ rules.plain_rules.small r l)))
      (λ e.
      let l = ltb-false r (plain_count W) e in
      later_at _ IllFormed r l (omega arith) and_then_lem later_at _ TooLarge r l (omega arith))
      (decide (ltb r (plain_count W)))

  formula_spares : (older : Bool) (s r : ℕ) → Spares (plain_count W) (formula_refusal older plains s r)
  unfolding formula_refusal repeat_refusal
  formula_spares true s r = row_spares r
  formula_spares false s r = row_spares r and_then_lem other_at _ _ r (omega arith)

  formulas_spare : (older : Bool) (n s : ℕ) (root least : ℤ) → s ≡ plain_count W → root ≡ pos (plain_root W) → least ≡ W.schema.least → Spares (plain_count W) (formulas_refusal older plains n s root least)
  unfolding formulas_refusal root_fits whole_unless nat
  formulas_spare older n s root least p q r =
      let K = rules.wide_rules in
      nothing_spares
      (nothing_unless _ _ _
      (and_both _ _
      (ap₂ below p q ∙ below_of (plain_count W) (plain_root W) (root_below W plains has K.formed K.root_row))
      (ap (within (pos 0) (pos 9999)) r ∙ K.least_range))) and_then_lem
      scan_spares _ n (formula_spares older s) and_then_lem
      nothing_spares
      (nothing_unless _ _ _ (ap (λ (z : ℤ). is_outer (tree plains (nat z))) q ∙ root_outer_lem W plains has K.formed K.root_row ∙ K.root_outer))

-- ---- the theorems

module _ (W : WideSchema) (converts : convert_refusal W ≡ no_refusal) where
  -- no check gives 6, or 7 or 8 at a plain row, whatever the proof rows and nodes are
  pub plain_spared : (T : Tableau) → SameSchema T (plain_schema W) → (m : Mode) → Spares (plain_count W) (refusal m T)
  unfolding refusal rows formula_rows set_refusal parent_refusal node_refusal step_refusal
  plain_spared T same m =
      let has : HasPlainRows W (rows T) =
      λ p l.
      if_true (ltb p T.schema_rows) _ _ (lt-ltb p T.schema_rows (omega (arith, same.count)))
      ∙ same.rows p l
      ∙ has_plain_rows W converts p l in
      other_whole _ _ (omega arith) and_then_lem
      other_whole _ _ (omega arith) and_then_lem
      formulas_spare W converts (rows T) has m.older (row_count T) T.schema_rows T.root T.least same.count same.same_root same.same_least and_then_lem
      scan_spares _ T.node_rows (λ j. other_at _ _ j (omega arith)) and_then_lem
      other_whole _ _ (omega arith) and_then_lem
      scan_spares _ T.node_rows (λ j. other_at _ _ j (omega arith)) and_then_lem
      scan_spares _ T.node_rows (λ j.
      (other_at _ _ j (omega arith) and_then_lem
      other_at _ _ j (omega arith) and_then_lem
      other_at _ _ j (omega arith) and_then_lem
      other_at _ _ j (omega arith) and_then_lem
      other_at _ _ j (omega arith) and_then_lem
      other_at _ _ j (omega arith)) and_then_lem
      other_at _ _ j (omega arith))

  -- nor does the model check, whatever the pairs are
  pub plain_spared_model : (M : Model) → M.schema.rows ≡ plain_count W → ((r : ℕ) → r < plain_count W → row_at M.schema.table r ≡ row_at (converted_table W) r) → M.schema.root ≡ pos (plain_root W) → M.schema.least ≡ W.schema.least → Spares (plain_count W) (model_refusal M)
  unfolding model_refusal schema_refusal pair_refusal
  plain_spared_model M count same root least =
      let S = M.schema in
      let has : HasPlainRows W (row_at S.table) = λ p l. same p l ∙ has_plain_rows W converts p l in
      other_whole _ _ (omega arith) and_then_lem
      other_whole _ _ (omega arith) and_then_lem
      formulas_spare W converts (row_at S.table) has true S.rows S.rows S.root S.least count root least and_then_lem
      scan_spares _ M.pair_rows (λ k. other_at _ _ k (omega arith)) and_then_lem
      other_whole _ _ (omega arith) and_then_lem
      other_whole _ _ (omega arith)
