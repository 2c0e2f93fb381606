-- A heading, one line, a heading, rows: the parts of such a text.
use Prim.Native.Nat.{ℕ, ◌+◌, ◌*◌, ◌≤◌}
use native.Mathlib.Omega.{arith}
use mathlib.Core.Path.{◌≡◌, refl, sym, ◌∙◌, ap}
use mathlib.Core.Bool.{Bool, true, false}
use mathlib.Core.List.{List, [], ◌∷◌, ◌++◌}
use lib.Dec.{leb}
use lib.IntN.{ℤ}
use lib.ListN.{length, take, length-append}
use Rattle.stab.specs.Basic.{◌and◌, all_of}
use Rattle.stab.specs.Text.{five_digits, row_line, heading_line, newline, schema_heading, row_heading, model_heading, pair_heading}
use Rattle.stab.specs.Check.{holds}
use Rattle.stab.specs.Write.{row_lines, rows_writable, schema_text, model_text, write_refusal, writing, write_schema, write_model}
use Rattle.digits.specs.Over.{spread}
use Rattle.output.specs.Headed.{headed_text, write_headed}
use Rattle.output.proofs.Spreads.{row_length}
use Rattle.output.proofs.RowTexts.{rows_length}

pub heading_length : (h : List ℕ) → length (heading_line h) ≡ length h + 1
unfolding heading_line newline
heading_length h = length-append h (10 ∷ [])

-- four texts, one after the other
pub four_length : (a b c d : List ℕ) → length (a ++ b ++ c ++ d) ≡ length a + length b + length c + length d
four_length a b c d = omega (arith, length-append a b, length-append (a ++ b) c, length-append (a ++ b ++ c) d)

module _ (first : List ℕ) (line : List ℤ) (second : List ℕ) (w : ℕ) (t : List ℤ) (r : ℕ) where
  pub headed_parts : headed_text first line second w t r ≡ heading_line first ++ row_line line ++ heading_line second ++ row_lines w r t
  unfolding headed_text
  headed_parts = refl

  pub headed_length : 1 ≤ length line → 1 ≤ w → w * r ≤ length t
      → length (headed_text first line second w t r) ≡ length first + length second + 2 + length (spread line) + length (spread (take (w * r) t))
  headed_length a b c =
      omega (
        arith,
        ap length headed_parts,
        four_length (heading_line first) (row_line line) (heading_line second) (row_lines w r t),
        heading_length first,
        heading_length second,
        row_length line a,
        rows_length w r t b c,
      )

-- ---- a schema's text and a model's

two_and : (a b x : Bool) → (a and b and x) ≡ ((a and b and true) and x)
unfolding ◌and◌
two_and true true x = refl
two_and true false x = refl
two_and false b x = refl

one_and : (a x : Bool) → (a and x) ≡ ((a and true) and x)
unfolding ◌and◌
one_and true x = refl
one_and false x = refl

pub schema_headed : (t : List ℤ) (r : ℕ) (root least : ℤ) (n : ℕ) (line : List ℤ) → line ≡ root ∷ least ∷ []
    → write_schema t r root least n ≡ write_headed schema_heading line row_heading 4 1024 t r n
schema_headed t r root least n line e = unfold write_schema write_headed schema_text headed_text all_of in
    ap (λ (ok : Bool). writing (write_refusal (holds t 4 r) (leb r 1024) ok) n (schema_text t r root least)) (two_and (five_digits root) (five_digits least) (rows_writable 4 r t))
    ∙ ap (λ (l : List ℤ). write_headed schema_heading l row_heading 4 1024 t r n) (sym e)

pub model_headed : (v : ℤ) (t : List ℤ) (r : ℕ) (n : ℕ) (line : List ℤ) → line ≡ v ∷ []
    → write_model v t r n ≡ write_headed model_heading line pair_heading 2 4096 t r n
model_headed v t r n line e = unfold write_model write_headed model_text headed_text all_of in
    ap (λ (ok : Bool). writing (write_refusal (holds t 2 r) (leb r 4096) ok) n (model_text v t r)) (one_and (five_digits v) (rows_writable 2 r t))
    ∙ ap (λ (l : List ℤ). write_headed model_heading l pair_heading 2 4096 t r n) (sym e)
