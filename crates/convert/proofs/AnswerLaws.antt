-- The converter's answer, by what is found.
use Prim.Native.Nat.{ℕ, ◌*◌, ◌<◌, ◌≤◌}
use native.Mathlib.Omega.{arith}
use mathlib.Core.Path.{◌≡◌, sym, ◌∙◌, ap}
use mathlib.Core.Logic.{⊎_elim}
use mathlib.Core.Bool.{false}
use mathlib.Core.List.{[]}
use lib.Dec.{leb}
use lib.IntN.{pos}
use lib.ListN.{length}
use borrow.Author.Tests.{leb-true}
use Rattle.stab.specs.Basic.{◌otherwise◌}
use Rattle.stab.specs.Formula.{row_at}
use Rattle.stab.specs.Check.{at_unless, whole_unless, holds, schema_refusal}
use Rattle.stab.specs.Text.{padded}
use Rattle.std.specs.Prelude.{None, Ok}
use Rattle.stab.specs.Finding.{refuse, no_refusal, Place, Finding}
use Rattle.stab.specs.declared.Refusal.TheVariants.{TableTooShort, TooMany, Plain}
use Rattle.stab.specs.declared.Refusal.{Refusal}
use Rattle.stab.proofs.Bools.{unless_nothing, found_unless, otherwise_first, otherwise_second, otherwise_nothing, otherwise_found, found≢nothing}
use Rattle.stab.proofs.Findings.{otherwise_assoc}
use Rattle.wide.specs.Plain.{start_of, plain_rows}
use Rattle.wide.specs.Convert.{WideSchema, plain_table, plain_count, plain_root, wide_refusal, plain_refusal, convert_refusal, converted_by, converted, converted_table_by, converted_table, plain_in}
use Rattle.wide.proofs.Tables.{columns_length, row_padded}
use Rattle.wide.proofs.Places.{plain_length}
use Rattle.wide.proofs.Conversion.{KeepsWide, wide_clears, plain_judged, plain_refused}
use Rattle.convert.specs.Emission.{input_refusal}

-- ---- before 23

pub record Inputs (W : WideSchema) : Type 0 where
  pub room : 4096 ≤ W.room
  pub held : 4 * W.schema.rows ≤ length W.schema.table
  pub limit : W.schema.rows ≤ 1024
  pub found : wide_refusal W.schema ≡ no_refusal

pub inputs : (W : WideSchema) → input_refusal W ≡ no_refusal → Inputs W
unfolding input_refusal at_unless whole_unless holds
inputs W h =
    let p = otherwise_second (at_unless (leb 4096 W.room) TableTooShort 0) _ h in
    let q = otherwise_second (whole_unless (holds W.schema.table 4 W.schema.rows) TableTooShort) _ p in
    record {
      room = leb-true 4096 W.room (unless_nothing _ _ _ (otherwise_first _ _ h));
      held = leb-true (4 * W.schema.rows) (length W.schema.table) (unless_nothing _ _ _ (otherwise_first _ _ p));
      limit = leb-true W.schema.rows 1024 (unless_nothing _ _ _ (otherwise_first _ _ q));
      found = otherwise_second (whole_unless (leb W.schema.rows 1024) TooMany) _ q;
    }

pub keeps : (W : WideSchema) → input_refusal W ≡ no_refusal → KeepsWide W.schema
keeps W h = (wide_clears W.schema).0 (inputs W h).found

-- 23 comes last
in_two : (W : WideSchema) → convert_refusal W ≡ (input_refusal W otherwise plain_refusal W)
unfolding convert_refusal input_refusal
in_two W =
    sym
    (otherwise_assoc _ _ _
    ∙ ap (λ (x : Finding). at_unless (leb 4096 W.room) TableTooShort 0 otherwise x)
    (otherwise_assoc _ _ _
    ∙ ap (λ (x : Finding). whole_unless (holds W.schema.table 4 W.schema.rows) TableTooShort otherwise x) (otherwise_assoc _ _ _)))

module _ (W : WideSchema) where
  pub input_found : {why : Refusal} {p : Place} → input_refusal W ≡ refuse why p → convert_refusal W ≡ refuse why p
  input_found e = in_two W ∙ otherwise_found _ _ e

  pub count_is : plain_count W ≡ start_of (row_at W.schema.table) W.schema.rows
  unfolding plain_count
  count_is = plain_length (row_at W.schema.table) W.schema.rows

  -- what is found of the plain rows
  module _ (h : input_refusal W ≡ no_refusal) where
    only_23 : convert_refusal W ≡ plain_refusal W
    only_23 = in_two W ∙ otherwise_nothing _ _ h

    pub too_many : leb (plain_count W) 1024 ≡ false → convert_refusal W ≡ refuse Plain None
    unfolding plain_refusal whole_unless
    too_many e = only_23 ∙ otherwise_found _ _ (found_unless _ _ _ e)

    -- by what the pass over formula rows finds of the table filled
    module _ (few : plain_count W ≤ 1024) where
      filled_rows : (p : ℕ) → p < plain_count W → row_at (padded (pos 0) W.room (plain_table W)) p ≡ row_at (plain_table W) p
      unfolding plain_table plain_count
      filled_rows p l = row_padded W.room (plain_table W) p (omega (arith, columns_length (plain_rows (row_at W.schema.table) W.schema.rows)))

      abbrev pass : Finding
      pass = schema_refusal (plain_in W (padded (pos 0) W.room (plain_table W)))

      pub pass_none : pass ≡ no_refusal → convert_refusal W ≡ no_refusal
      pass_none e = only_23 ∙ (plain_judged W _ filled_rows (inputs W h).found few).0 e

      pub pass_some : {why : Refusal} {p : Place} → pass ≡ refuse why p → convert_refusal W ≡ refuse Plain None
      pass_some e =
          only_23
          ∙ ⊎_elim
          (λ n. absurd (found≢nothing (sym e ∙ (plain_judged W _ filled_rows (inputs W h).found few).1 n)))
          (λ s. s)
          (plain_refused W)

  -- the answer and the table by what is found
  pub answer_none : convert_refusal W ≡ no_refusal → (Ok (record { root = pos (plain_root W); least = W.schema.least; rows = plain_count W }) ≡ converted W) × (padded (pos 0) W.room (plain_table W) ≡ converted_table W)
  unfolding converted converted_by converted_table converted_table_by
  answer_none e = (ap (λ (x : Finding). converted_by x W) (sym e), ap (λ (x : Finding). converted_table_by x W) (sym e))

  pub answer_some : (why : Refusal) (p : Place) → convert_refusal W ≡ refuse why p → (refuse why p ≡ converted W) × (padded (pos 0) W.room [] ≡ converted_table W)
  unfolding converted converted_by converted_table converted_table_by
  answer_some why p e = (ap (λ (x : Finding). converted_by x W) (sym e), ap (λ (x : Finding). converted_table_by x W) (sym e))
