-- Schema and model texts: what their readers answer.
use Prim.Native.Nat.{ℕ, ◌*◌, ◌/◌, ◌<◌, ◌≤◌}
use native.Mathlib.Omega.{arith}
use mathlib.Core.Path.{◌≡◌, sym, ◌∙◌, ap}
use mathlib.Core.List.{List}
use lib.IntN.{ℤ}
use lib.ListN.{length, take}
use lib.Seq.{length-take-le}
use Rattle.stab.specs.Text.{lines, text_limit}
use Rattle.stab.specs.Read.{Reading, stopped}
use Rattle.stab.specs.Read.{SchemaText, read_schema_lines, read_schema, schema_answer, schema_table, ModelText, read_model_lines, read_model, model_answer, pair_table, table_of}
use borrow.Author.Tests.{le-leb, lt-leb}
use Rattle.stab.specs.declared.Refusal.TheVariants.{TextTooLong, TableTooShort}
use Rattle.std.specs.Prelude.{Ok, Err, Result}
use Rattle.stab.specs.Finding.{refuse}
use Rattle.stab.specs.declared.Refused.{Refused}
use Rattle.stab.specs.declared.ModelHeader.{ModelHeader}
use Rattle.stab.specs.declared.SchemaHeader.{SchemaHeader}
use Rattle.signed.specs.Numbers.{cleared}
use Rattle.text.specs.Texts.{SchemaOf, ModelOf}
use Rattle.text.proofs.Openings.{text_long, text_short, text_on, stop}
use Rattle.signed.proofs.Tables.{cleared_padded}

-- ---- schema: what the reader answers

module _ (r : Reading SchemaText) (t : List ℤ) where
  pub schema_answer_lem : (s : Result SchemaHeader Refused) → SchemaOf r t s → s ≡ schema_answer r
  unfolding schema_answer
  schema_answer_lem (Ok h) p =
      let e : h.rows ≡ length (take (4 * h.rows) t) / 4 = omega (arith, length-take-le (4 * h.rows) t p.1) in
      ap (λ (n : ℕ). Ok (record { rows = n; root = h.root; least = h.least })) e ∙ sym (ap schema_answer p.0)
  schema_answer_lem (Err e) p = let s = stop r e.why e.place p in ap (refuse e.why) s.place_is ∙ sym (ap schema_answer s.stops)

  module _ (len : ℕ) (l : length t ≡ len) where
    pub schema_rows_kept : (h : SchemaHeader) → SchemaOf r t (Ok h) → cleared t (4 * h.rows) ≡ schema_table len r
    unfolding schema_table table_of
    schema_rows_kept h p = cleared_padded t (4 * h.rows) len p.1 l ∙ sym (ap (schema_table len) p.0)

    pub schema_none_kept : (e : Refused) → SchemaOf r t (Err e) → cleared t 0 ≡ schema_table len r
    unfolding schema_table table_of
    schema_none_kept e p = cleared_padded t 0 len (omega arith) l ∙ sym (ap (schema_table len) (stop r e.why e.place p).stops)

-- ---- model: what the reader answers

module _ (r : Reading ModelText) (t : List ℤ) where
  pub model_answer_lem : (s : Result ModelHeader Refused) → ModelOf r t s → s ≡ model_answer r
  unfolding model_answer
  model_answer_lem (Ok h) p =
      let e : h.pairs ≡ length (take (2 * h.pairs) t) / 2 = omega (arith, length-take-le (2 * h.pairs) t p.1) in
      ap (λ (k : ℕ). Ok (record { n = h.n; pairs = k })) e ∙ sym (ap model_answer p.0)
  model_answer_lem (Err e) p = let s = stop r e.why e.place p in ap (refuse e.why) s.place_is ∙ sym (ap model_answer s.stops)

  module _ (len : ℕ) (l : length t ≡ len) where
    pub model_rows_kept : (h : ModelHeader) → ModelOf r t (Ok h) → cleared t (2 * h.pairs) ≡ pair_table len r
    unfolding pair_table table_of
    model_rows_kept h p = cleared_padded t (2 * h.pairs) len p.1 l ∙ sym (ap (pair_table len) p.0)

    pub model_none_kept : (e : Refused) → ModelOf r t (Err e) → cleared t 0 ≡ pair_table len r
    unfolding pair_table table_of
    model_none_kept e p = cleared_padded t 0 len (omega arith) l ∙ sym (ap (pair_table len) (stop r e.why e.place p).stops)

-- ---- what is judged before the first line

module _ (n : ℕ) (text : List ℕ) where
  pub schema_long : text_limit < length text → read_schema n text ≡ stopped TextTooLong 0
  unfolding read_schema
  schema_long h = text_long _ read_schema_lines text h

  pub schema_short : length text ≤ text_limit → n < 4096 → read_schema n text ≡ stopped TableTooShort 0
  unfolding read_schema
  schema_short h l = text_short _ read_schema_lines text h (lt-leb 4096 n l)

  pub schema_on : length text ≤ text_limit → 4096 ≤ n → read_schema n text ≡ read_schema_lines (lines text)
  unfolding read_schema
  schema_on h l = text_on _ read_schema_lines text h (le-leb 4096 n l)

  pub model_long : text_limit < length text → read_model n text ≡ stopped TextTooLong 0
  unfolding read_model
  model_long h = text_long _ read_model_lines text h

  pub model_short : length text ≤ text_limit → n < 8192 → read_model n text ≡ stopped TableTooShort 0
  unfolding read_model
  model_short h l = text_short _ read_model_lines text h (lt-leb 8192 n l)

  pub model_on : length text ≤ text_limit → 8192 ≤ n → read_model n text ≡ read_model_lines (lines text)
  unfolding read_model
  model_on h l = text_on _ read_model_lines text h (le-leb 8192 n l)
