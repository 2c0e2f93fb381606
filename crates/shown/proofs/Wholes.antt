-- A line that a program points to is told whole: a room of 65,600 bytes is long enough.
use Prim.Native.Nat.{ℕ, ◌<◌, ◌≤◌}
use native.Mathlib.Omega.{arith}
use mathlib.Core.Path.{◌≡◌, ap}
use mathlib.Core.Logic.{⊎_elim}
use mathlib.Core.Bool.{Bool, true, false}
use mathlib.Core.List.{List}
use lib.Dec.{leb}
use lib.IntN.{pos}
use lib.ListN.{length, take, drop, length-append, length-drop, take-append-drop}
use borrow.Author.Tests.{leb-true, leb-false, lt-leb}
use Rattle.stab.specs.Text.{Line, lines, text_limit}
use Rattle.stab.specs.Read.{Reading, read, stopped, require, read_text, read_schema, read_proof, read_model}
use Rattle.stab.specs.LineNumber.{line_span, spanned, line_of}
use Rattle.stab.specs.Program.{in_first, in_second, fault_after_reading, check_fault, model_fault}
use Rattle.stab.specs.declared.Fault.{Fault}
use Rattle.stab.specs.declared.Refusal.TheVariants.{TextTooLong, TableTooShort}
use Rattle.stab.proofs.Bools.{decide}
use Rattle.stab.proofs.Entries.{check_fault_fits, model_fault_fits}
use Rattle.line.specs.LineParts.{named}
use Rattle.output.proofs.Spreads.{decimal_most}
use Rattle.shown.specs.Told.{told, told_in, told_at}
use Rattle.shown.proofs.Tellings.{told_length, whole_told}

-- ---- a text with a line at fault has at most 65,536 bytes

-- a longer one is refused at no line
Limited : {A : Type 0} → Reading A → List ℕ → Type 0
Limited r text = 65536 < length text → r ≡ stopped TextTooLong 0

limited : {A : Type 0} (full : Bool) (reader : List Line → Reading A) (text : List ℕ) → Limited (read_text full reader text) text
unfolding Limited read_text text_limit require
limited full reader text h = ap (λ (b : Bool). require b TextTooLong 0 (require full TableTooShort 0 (reader (lines text)))) (lt-leb (length text) 65536 h)

short : {A : Type 0} (r : Reading A) (text : List ℕ) → Limited r text → (r ≡ stopped TextTooLong 0 → ⊥) → length text ≤ 65536
unfolding Limited
short r text l h =
    ⊎_elim
    (λ e. leb-true (length text) 65536 e)
    (λ e. absurd (h (l (leb-false (length text) 65536 e))))
    (decide (leb (length text) 65536))

either : (b : Bool) (schema proof : List ℕ) → length schema ≤ 65536 → length proof ≤ 65536 → length (named b schema proof) ≤ 65536
either true schema proof h k = k
either false schema proof h k = h

read_on : {A : Type 0} (a : A) → ◌≡◌ {A = Reading A} (read a) (stopped TextTooLong 0) → ⊥
read_on a e = let z : ◌≡◌ {A = ℕ} 0 1 = cc in omega arith

fault_short : {A B : Type 0} (judge : A → B → Fault) (r : Reading A) (s : Reading B) (schema proof : List ℕ) → Limited r schema → Limited s proof
    → 1 ≤ (fault_after_reading judge r s).line → length (named (fault_after_reading judge r s).second schema proof) ≤ 65536
unfolding fault_after_reading in_first in_second
fault_short judge (read a) (read b) schema proof h g l = either (judge a b).second schema proof (short (read a) schema h (read_on a)) (short (read b) proof g (read_on b))
fault_short judge (read a) (stopped why k) schema proof h g l = short (stopped why k) proof g (λ e. let z : k ≡ 0 = cc in omega arith)
fault_short judge (stopped why k) s schema proof h g l = short (stopped why k) schema h (λ e. let z : k ≡ 0 = cc in omega arith)

-- ---- a line of it, with a name of at most 10 bytes and its number

line_most : (text : List ℕ) (k : ℕ) → length (line_of text k) ≤ length text
unfolding line_of spanned
line_most text k =
    let n = (line_span text k).len in
    let rest = drop (line_span text k).start text in
    omega (arith, ap length (take-append-drop n rest), length-append (take n rest) (drop n rest), length-drop (line_span text k).start text)

module _ (name : List ℕ) (named-short : length name ≤ 10) where
  line_whole : (text : List ℕ) (k : ℕ) → length text ≤ 65536 → 1 ≤ k → k < 16384 → told_in 65600 name k (line_of text k) ≡ told name k (line_of text k)
  line_whole text k h a b =
      whole_told name k (line_of text k) 65600 a (omega arith)
      (omega (arith, told_length name k (line_of text k), line_most text k, decimal_most (pos k)))

  pub check_whole : (older : Bool) (schema proof : List ℕ) →
      let f = check_fault older schema proof in
      1 ≤ f.line → told_at 65600 name schema proof f ≡ told name f.line (line_of (named f.second schema proof) f.line)
  unfolding told_at
  check_whole older schema proof l = line_whole _ _ (unfold check_fault read_schema read_proof in fault_short _ _ _ schema proof (limited _ _ schema) (limited _ _ proof) l) l (check_fault_fits older schema proof)

  pub model_whole : (schema model : List ℕ) →
      let f = model_fault schema model in
      1 ≤ f.line → told_at 65600 name schema model f ≡ told name f.line (line_of (named f.second schema model) f.line)
  unfolding told_at
  model_whole schema model l = line_whole _ _ (unfold model_fault read_schema read_model in fault_short _ _ _ schema model (limited _ _ schema) (limited _ _ model) l) l (model_fault_fits schema model)
