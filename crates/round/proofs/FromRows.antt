-- Rows that are written and read again, from what the writer and the reader give.
use Prim.Native.Nat.{ℕ, ◌*◌, ◌-◌, ◌/◌, ◌≤◌, ◌<◌}
use native.Mathlib.Omega.{arith}
use native.Mathlib.Nat.{mul-div_cancel_left}
use mathlib.Core.Path.{◌≡◌, refl, sym, ◌∙◌, ap, subst}
use mathlib.Core.Bool.{Bool, true, false}
use mathlib.Core.List.{List}
use lib.Dec.{leb}
use lib.IntN.{ℤ, pos}
use lib.ListN.{length, take, replicate, length-append}
use lib.Seq.{take_at, length-take-le}
use borrow.Author.Tests.{leb-true, le-leb}
use Rattle.stab.specs.Basic.{◌and◌}
use Rattle.stab.specs.Text.{Line, lines, five_digits, text_limit, padded}
use Rattle.stab.specs.Read.{Reading, stopped, require, read_text, read_schema_lines, read_proof_lines, read_model_lines, read_schema, read_proof, read_model, schema_answer, proof_answer, model_answer, schema_table, proof_table, node_table, member_table, pair_table, table_of}
use Rattle.stab.specs.Check.{holds}
use Rattle.stab.specs.Write.{Writing, wrote, refused, rows_writable, sets_writable, schema_text, proof_text, model_text, write_schema, write_proof, write_model, written, output}
use Rattle.std.specs.Prelude.{Ok, Err}
use Rattle.stab.specs.Finding.{Place}
use Rattle.stab.specs.declared.Refused.{Refused}
use Rattle.stab.specs.declared.Refusal.{Refusal}
use Rattle.stab.specs.declared.Refusal.TheVariants.{TextTooLong, TableTooShort}
use Rattle.stab.proofs.Bools.{and_left, and_right}
use Rattle.stab.proofs.Texts.{schema_back, proof_back, model_back}
use Rattle.stab.proofs.Texts.Rows.{require_true}
use Rattle.stab.proofs.Texts.Outcomes.{written as passes, padded_none}
use Rattle.round.specs.Again.{schema_again, proof_again, model_again, table_again, kept}
use Rattle.round.proofs.Kept.{none_kept}

-- ---- rows that were written, read from the front of the output

-- what was written, and where it stands
came : (n : ℕ) (w : Writing) (bytes : ℕ) → written w ≡ Ok bytes → (text : List ℕ) × (w ≡ wrote text) × (take bytes (output n w) ≡ text)
unfolding written output padded
came n (wrote text) bytes e =
    let f : Ok (length text) ≡ Ok bytes = e in
    let size : length text ≡ bytes = cc in
    (text, refl, take_at text _ bytes size)
came n (refused why place) bytes e = let z : ◌≡◌ {A = ℕ} 0 1 = cc in absurd (omega arith)

bytes_within : (n : ℕ) (w : Writing) (bytes : ℕ) → written w ≡ Ok bytes → bytes ≤ length (output n w)
unfolding written output padded
bytes_within n (wrote text) bytes e =
    let f : Ok (length text) ≡ Ok bytes = e in
    let size : length text ≡ bytes = cc in
    omega (arith, length-append text (replicate (n - length text) 0))
bytes_within n (refused why place) bytes e = let z : ◌≡◌ {A = ℕ} 0 1 = cc in absurd (omega arith)

-- as the output holds it
pub text_within : (n : ℕ) (w : Writing) (out : List ℕ) (bytes : ℕ) → out ≡ output n w → written w ≡ Ok bytes → bytes ≤ length out
text_within n w out bytes e h = subst (λ (l : List ℕ). bytes ≤ length l) (sym e) (bytes_within n w bytes h)

-- a table under its full size
not_full : {A : Type 0} (full : Bool) (reader : List Line → Reading A) (text : List ℕ) → length text ≤ 65536 → full ≡ false → read_text full reader text ≡ stopped TableTooShort 0
unfolding read_text text_limit require
not_full full reader text short e =
    require_true (leb (length text) 65536) TextTooLong 0 _ (le-leb (length text) 65536 short) ∙ ap (λ (f : Bool). require f TableTooShort 0 (reader (lines text))) e

-- rows of w numbers that a table holds
counted : (w r : ℕ) (t : List ℤ) → 0 < w → holds t w r ≡ true → length (take (w * r) t) / w ≡ r
unfolding holds
counted w r t h e = ap (λ (k : ℕ). k / w) (length-take-le (w * r) t (leb-true (w * r) (length t) e)) ∙ mul-div_cancel_left r h

module _ (t : List ℤ) (rows : ℕ) (root least : ℤ) (n m : ℕ) where
  schema_read_lem : (text : List ℕ) (full : Bool) → write_schema t rows root least n ≡ wrote text → leb 4096 m ≡ full
      → (schema_answer (read_schema m text) ≡ schema_again (wrote text) full root least rows) × (schema_table m (read_schema m text) ≡ table_again (wrote text) full m (take (4 * rows) t))
  unfolding write_schema read_schema schema_answer schema_table table_of schema_again table_again
  schema_read_lem text true e f =
      let w = passes (holds t 4 rows) (leb rows 1024) (five_digits root and five_digits least and rows_writable 4 rows t) n (schema_text t rows root least) text e in
      let b = schema_back t rows root least n m text e f in
      (ap schema_answer b ∙ ap (λ (n : ℕ). Ok (record { root = root; least = least; rows = n })) (counted 4 rows t (omega arith) w.holding), ap (schema_table m) b)
  schema_read_lem text false e f =
      let w = passes (holds t 4 rows) (leb rows 1024) (five_digits root and five_digits least and rows_writable 4 rows t) n (schema_text t rows root least) text e in
      let b = not_full (leb 4096 m) read_schema_lines text (subst (λ (x : List ℕ). length x ≤ 65536) w.same w.short) f in
      (ap schema_answer b, ap (schema_table m) b)

  pub schema_rows_again_lem : (bytes : ℕ) →
      let w = write_schema t rows root least n in
      written w ≡ Ok bytes →
      let back = read_schema m (take bytes (output n w)) in
      (schema_answer back ≡ schema_again w (leb 4096 m) root least rows) × (schema_table m back ≡ table_again w (leb 4096 m) m (take (4 * rows) t))
  schema_rows_again_lem bytes h =
      let c = came n (write_schema t rows root least n) bytes h in
      let r = schema_read_lem c.0 (leb 4096 m) c.1 refl in (
        ap (λ (x : List ℕ). schema_answer (read_schema m x)) c.2 ∙ r.0 ∙ ap (λ (w : Writing). schema_again w (leb 4096 m) root least rows) (sym c.1),
        ap (λ (x : List ℕ). schema_table m (read_schema m x)) c.2 ∙ r.1 ∙ ap (λ (w : Writing). table_again w (leb 4096 m) m (take (4 * rows) t)) (sym c.1),
      )

module _ (t : List ℤ) (rows : ℕ) (nodes : List ℤ) (k : ℕ) (members : List ℤ) (c n a b d : ℕ) where
  proof_read_lem : (text : List ℕ) (full : Bool) → write_proof t rows nodes k members c n ≡ wrote text → (leb 4096 a and leb 9216 b and leb 8192 d) ≡ full
      → (proof_answer (read_proof a b d text) ≡ proof_again (wrote text) full rows k c)
      × (proof_table a (read_proof a b d text) ≡ table_again (wrote text) full a (take (4 * rows) t))
      × (node_table b (read_proof a b d text) ≡ table_again (wrote text) full b (take (9 * k) nodes))
      × (member_table d (read_proof a b d text) ≡ table_again (wrote text) full d (take c members))
  unfolding write_proof read_proof proof_answer proof_table node_table member_table table_of proof_again table_again holds
  proof_read_lem text true e f =
      let w = passes (holds t 4 rows and holds nodes 9 k and holds members 1 c) (leb rows 1024 and leb k 1024 and leb c 8192)
      (rows_writable 4 rows t and sets_writable nodes k members c) n (proof_text t rows nodes k members) text e in
      let held = and_right (holds t 4 rows) _ w.holding in
      let last = leb-true (1 * c) (length members) (and_right (holds nodes 9 k) _ held) in
      let x = counted 4 rows t (omega arith) (and_left _ _ w.holding) in
      let y = counted 9 k nodes (omega arith) (and_left _ _ held) in
      let z = length-take-le c members (omega arith) in
      let g = proof_back t rows nodes k members c n a b d text e f in
      (ap proof_answer g ∙ (λ i. Ok (record { rows = x i; nodes = y i; members = z i })), ap (proof_table a) g, ap (node_table b) g, ap (member_table d) g)
  proof_read_lem text false e f =
      let w = passes (holds t 4 rows and holds nodes 9 k and holds members 1 c) (leb rows 1024 and leb k 1024 and leb c 8192)
      (rows_writable 4 rows t and sets_writable nodes k members c) n (proof_text t rows nodes k members) text e in
      let g = not_full (leb 4096 a and leb 9216 b and leb 8192 d) read_proof_lines text (subst (λ (x : List ℕ). length x ≤ 65536) w.same w.short) f in
      (ap proof_answer g, ap (proof_table a) g, ap (node_table b) g, ap (member_table d) g)

  pub proof_rows_again_lem : (bytes : ℕ) →
      let w = write_proof t rows nodes k members c n in
      written w ≡ Ok bytes →
      let back = read_proof a b d (take bytes (output n w)) in
      let full = leb 4096 a and leb 9216 b and leb 8192 d in
      (proof_answer back ≡ proof_again w full rows k c)
      × (proof_table a back ≡ table_again w full a (take (4 * rows) t))
      × (node_table b back ≡ table_again w full b (take (9 * k) nodes))
      × (member_table d back ≡ table_again w full d (take c members))
  proof_rows_again_lem bytes h =
      let full = leb 4096 a and leb 9216 b and leb 8192 d in
      let g = came n (write_proof t rows nodes k members c n) bytes h in
      let r = proof_read_lem g.0 full g.1 refl in (
        ap (λ (x : List ℕ). proof_answer (read_proof a b d x)) g.2 ∙ r.0 ∙ ap (λ (w : Writing). proof_again w full rows k c) (sym g.1),
        ap (λ (x : List ℕ). proof_table a (read_proof a b d x)) g.2 ∙ r.1 ∙ ap (λ (w : Writing). table_again w full a (take (4 * rows) t)) (sym g.1),
        ap (λ (x : List ℕ). node_table b (read_proof a b d x)) g.2 ∙ r.2 ∙ ap (λ (w : Writing). table_again w full b (take (9 * k) nodes)) (sym g.1),
        ap (λ (x : List ℕ). member_table d (read_proof a b d x)) g.2 ∙ r.3 ∙ ap (λ (w : Writing). table_again w full d (take c members)) (sym g.1),
      )

module _ (v : ℤ) (t : List ℤ) (rows n m : ℕ) where
  model_read_lem : (text : List ℕ) (full : Bool) → write_model v t rows n ≡ wrote text → leb 8192 m ≡ full
      → (model_answer (read_model m text) ≡ model_again (wrote text) full v rows) × (pair_table m (read_model m text) ≡ table_again (wrote text) full m (take (2 * rows) t))
  unfolding write_model read_model model_answer pair_table table_of model_again table_again
  model_read_lem text true e f =
      let w = passes (holds t 2 rows) (leb rows 4096) (five_digits v and rows_writable 2 rows t) n (model_text v t rows) text e in
      let b = model_back v t rows n m text e f in
      (ap model_answer b ∙ ap (λ (k : ℕ). Ok (record { n = v; pairs = k })) (counted 2 rows t (omega arith) w.holding), ap (pair_table m) b)
  model_read_lem text false e f =
      let w = passes (holds t 2 rows) (leb rows 4096) (five_digits v and rows_writable 2 rows t) n (model_text v t rows) text e in
      let b = not_full (leb 8192 m) read_model_lines text (subst (λ (x : List ℕ). length x ≤ 65536) w.same w.short) f in
      (ap model_answer b, ap (pair_table m) b)

  pub model_rows_again_lem : (bytes : ℕ) →
      let w = write_model v t rows n in
      written w ≡ Ok bytes →
      let back = read_model m (take bytes (output n w)) in
      (model_answer back ≡ model_again w (leb 8192 m) v rows) × (pair_table m back ≡ table_again w (leb 8192 m) m (take (2 * rows) t))
  model_rows_again_lem bytes h =
      let c = came n (write_model v t rows n) bytes h in
      let r = model_read_lem c.0 (leb 8192 m) c.1 refl in (
        ap (λ (x : List ℕ). model_answer (read_model m x)) c.2 ∙ r.0 ∙ ap (λ (w : Writing). model_again w (leb 8192 m) v rows) (sym c.1),
        ap (λ (x : List ℕ). pair_table m (read_model m x)) c.2 ∙ r.1 ∙ ap (λ (w : Writing). table_again w (leb 8192 m) m (take (2 * rows) t)) (sym c.1),
      )

-- ---- rows that were not written

pub output_unwritten : (w : Writing) (n : ℕ) (e : Refused) → written w ≡ Err e → (a : ℕ) → output n w ≡ kept 0 a (output n w)
unfolding written output
output_unwritten (wrote text) n e h a = cc
output_unwritten (refused why place) n e h a = none_kept 0 a n

pub table_unwritten : (w : Writing) (full : Bool) (m : ℕ) (numbers : List ℤ) (e : Refused) → written w ≡ Err e
    → replicate m (pos 0) ≡ table_again w full m numbers
unfolding written table_again
table_unwritten (wrote text) full m numbers e h = cc
table_unwritten (refused why place) full m numbers e h = sym (padded_none (pos 0) m)

-- the refusal that is answered
refusal_is : (why : Refusal) (place : Place) (e : Refused) → written (refused why place) ≡ Err e → e ≡ record { why = why; place = place }
unfolding written
refusal_is why place e h = cc

pub schema_unwritten : (w : Writing) (full : Bool) (root least : ℤ) (rows : ℕ) (e : Refused) → written w ≡ Err e
    → Err e ≡ schema_again w full root least rows
unfolding written schema_again
schema_unwritten (wrote text) full root least rows e h = cc
schema_unwritten (refused why place) full root least rows e h = ap Err (refusal_is why place e h)

pub proof_unwritten : (w : Writing) (full : Bool) (rows nodes members : ℕ) (e : Refused) → written w ≡ Err e
    → Err e ≡ proof_again w full rows nodes members
unfolding written proof_again
proof_unwritten (wrote text) full rows nodes members e h = cc
proof_unwritten (refused why place) full rows nodes members e h = ap Err (refusal_is why place e h)

pub model_unwritten : (w : Writing) (full : Bool) (n : ℤ) (pairs : ℕ) (e : Refused) → written w ≡ Err e
    → Err e ≡ model_again w full n pairs
unfolding written model_again
model_unwritten (wrote text) full n pairs e h = cc
model_unwritten (refused why place) full n pairs e h = ap Err (refusal_is why place e h)
