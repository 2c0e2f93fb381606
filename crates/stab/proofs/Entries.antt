-- What the text entries give fits into the numbers that they give: the counts of what is read, the places of refusals, the bytes of a text,
-- the line at fault.
use Rattle.std.specs.Prelude.{if◌then◌else◌, ltb, Ok, Err, Result, None, Some}
use Prim.Native.Nat.{ℕ, suc, ◌+◌, ◌-◌, ◌*◌, ◌/◌, ◌%◌, ◌≤◌, ◌<◌}
use native.Mathlib.Omega.{arith}
use mathlib.Core.Path.{◌≡◌, refl, sym, ◌∙◌, ap}
use mathlib.Core.Bool.{Bool, true, false}
use mathlib.Core.List.{List, [], ◌∷◌}
use mathlib.Core.Option.{Option, none, some}
use lib.Dec.{leb, eqb}
use lib.IntN.{ℤ, pos, ◌-ℤ◌}
use lib.ListN.{length}
use borrow.Author.Tests.{leb-true}
use Rattle.stab.specs.Basic.{◌and◌, ◌otherwise◌, nat}
use Rattle.stab.specs.Text.{Line, lines, numbers, text_limit}
use Rattle.stab.specs.Read.{Reading, read, stopped, ◌and_then◌, require, heading_at, values_of, values, values_at, rows_from, nodes_from, proof_rows_from, read_schema_lines, read_proof_lines, read_model_lines, read_text, read_schema, read_proof, read_model, schema_answer, proof_answer, model_answer}
use Rattle.stab.specs.Write.{writing_of, writing, output_refusal, written, write_refusal}
use Rattle.stab.specs.Answer.{Numbers, WrittenNumbers, refused_numbers, verdict_numbers, schema_numbers, proof_numbers, model_numbers, written_numbers, one_number, packed, answer_in, place_in, numbers_in, Packs, PlacePacks}
use Rattle.stab.specs.Check.{check_as, whole_unless}
use Rattle.stab.specs.Model.{check_model}
use Rattle.stab.specs.LineNumber.{schema_row_line, proof_row_line, node_line, pair_line}
use Rattle.stab.specs.Program.{place_fault, tableau_of, model_of, no_fault, in_first, in_second, row_fault, among, check_points, model_points, verdict_fault, fault_after_reading, after_reading, check_texts, model_texts, check_fault, model_fault}
use Rattle.stab.specs.Entry.{without_counts, schema_packed, proof_packed, model_packed, written_packed, written_in, SchemaFits, ProofFits, ModelFits, WrittenFits, fault_number, fault_in, texts_packed, number_part, fault_part}
use Rattle.stab.specs.declared.ModelHeader.{ModelHeader}
use Rattle.stab.specs.declared.ProofCounts.{ProofCounts}
use Rattle.stab.specs.declared.SchemaHeader.{SchemaHeader}
use Rattle.stab.specs.declared.Refused.{Refused}
use Rattle.stab.specs.Finding.{Place, Finding, refuse, Verdict, accept}
use Rattle.stab.specs.declared.Refusal.{Refusal}
use Rattle.stab.specs.declared.Refusal.TheVariants.{Output}
use Rattle.stab.specs.declared.Fault.{Fault}
use Rattle.stab.proofs.Bools.{and_left, and_right, unless_nothing, otherwise_second}
use Rattle.stab.proofs.Texts.{schema_counts, proof_counts, model_counts}
use Rattle.stab.proofs.Packed.{number_range, checked_packs, model_packs, near_packs, packed_acceptance, packed_refusal, code_below, read_back}
use Rattle.stab.proofs.Exactness.Refusals.{FindsNear, of_whole, ◌or_else◌}

-- ---- a refusal in reading is at line b or above it

abbrev pub Stops : {A : Type 0} → ℕ → Reading A → Type 0
Stops b (read a) = Unit {0}
Stops b (stopped why k) = k ≤ b

stops_then : {A B : Type 0} (b : ℕ) (r : Reading A) (f : A → Reading B) → Stops b r → ((a : A) → Stops b (f a)) → Stops b (r and_then f)
unfolding ◌and_then◌
stops_then b (read a) f h g = g a
stops_then b (stopped why k) f h g = h

stops_require : {A : Type 0} (b : ℕ) (t : Bool) (why : Refusal) (k : ℕ) (r : Reading A) → k ≤ b → (t ≡ true → Stops b r) → Stops b (require t why k r)
unfolding require
stops_require b true why k r h g = g refl
stops_require b false why k r h g = h

stops_heading : (b : ℕ) (h : List ℕ) (k : ℕ) (ls : List Line) → k ≤ b → Stops b (heading_at h k ls)
unfolding heading_at
stops_heading b h k [] near = near
stops_heading b h k (l ∷ ls) near = stops_require b _ _ k (read ls) near (λ e. tt)

stops_values_of : (b : ℕ) (fits : ℕ → Bool) (k : ℕ) (o : Option (List ℤ)) → k ≤ b → Stops b (values_of fits k o)
unfolding values_of
stops_values_of b fits k none near = near
stops_values_of b fits k (some vs) near = stops_require b _ _ k (read vs) near (λ e. tt)

stops_values : (b : ℕ) (fits : ℕ → Bool) (k : ℕ) (l : Line) → k ≤ b → Stops b (values fits k l)
unfolding values
stops_values b fits k l near = stops_require b l.ended _ k _ near (λ e. stops_values_of b fits k (numbers l.content) near)

stops_values_at : (b : ℕ) (fits : ℕ → Bool) (k : ℕ) (ls : List Line) → k ≤ b → Stops b (values_at fits k ls)
unfolding values_at
stops_values_at b fits k [] near = near
stops_values_at b fits k (l ∷ ls) near = stops_then b (values fits k l) _ (stops_values b fits k l near) (λ vs. tt)

stops_rows : (b w m k : ℕ) (ls : List Line) → k + m ≤ b → Stops b (rows_from w m k ls)
unfolding rows_from
stops_rows b w m k [] near = tt
stops_rows b w m k (l ∷ ls) near =
    stops_then b (values (eqb w) k l) _ (stops_values b (eqb w) k l (omega arith))
    (λ vs. stops_require b (leb 1 m) _ k _ (omega arith)
    (λ e. stops_then b (rows_from w (m - 1) (suc k) ls) _ (stops_rows b w (m - 1) (suc k) ls (omega (arith, leb-true 1 m e))) (λ rest. tt)))

stops_nodes : (b m start k : ℕ) (ls : List Line) → k + m ≤ b → Stops b (nodes_from m start k ls)
unfolding nodes_from
stops_nodes b m start k [] near = tt
stops_nodes b m start k (l ∷ ls) near =
    stops_then b (values (leb 7) k l) _ (stops_values b (leb 7) k l (omega arith))
    (λ vs. stops_require b (leb 1 m and leb (start + (length vs - 7)) 8192) _ k _ (omega arith)
    (λ e. stops_then b (nodes_from (m - 1) (start + (length vs - 7)) (suc k) ls) _
    (stops_nodes b (m - 1) (start + (length vs - 7)) (suc k) ls (omega (arith, leb-true 1 m (and_left _ _ e))))
    (λ rest. tt)))

stops_if : {A : Type 0} (b : ℕ) (t : Bool) (x y : Reading A) → Stops b x → Stops b y → Stops b (if t then x else y)
stops_if b true x y h g = h
stops_if b false x y h g = g

stops_proof_rows : (b m k : ℕ) (ls : List Line) → k + m + 1025 ≤ b → Stops b (proof_rows_from m k ls)
unfolding proof_rows_from
stops_proof_rows b m k [] near = omega arith
stops_proof_rows b m k (l ∷ ls) near =
    stops_if b _ _ _
    (stops_require b _ _ k _ (omega arith) (λ e. stops_then b (nodes_from 1024 0 (suc k) ls) _ (stops_nodes b 1024 0 (suc k) ls (omega arith)) (λ r. tt)))
    (stops_then b (values (eqb 4) k l) _ (stops_values b (eqb 4) k l (omega arith))
    (λ vs. stops_require b (leb 1 m) _ k _ (omega arith)
    (λ e. stops_then b (proof_rows_from (m - 1) (suc k) ls) _ (stops_proof_rows b (m - 1) (suc k) ls (omega (arith, leb-true 1 m e))) (λ r. tt))))

stops_text : {A : Type 0} (b : ℕ) (full : Bool) (reader : List Line → Reading A) (text : List ℕ) → Stops b (reader (lines text)) → Stops b (read_text full reader text)
unfolding read_text
stops_text b full reader text h = stops_require b _ _ 0 _ (omega arith) (λ e. stops_require b full _ 0 _ (omega arith) (λ g. h))

pub stops_schema : (n : ℕ) (text : List ℕ) → Stops 4100 (read_schema n text)
unfolding read_schema read_schema_lines
stops_schema n text =
    stops_text 4100 _ read_schema_lines text
    (stops_then 4100 _ _ (stops_heading 4100 _ 1 (lines text) (omega arith))
    (λ a. stops_then 4100 _ _ (stops_values_at 4100 _ 2 a (omega arith))
    (λ v. stops_then 4100 _ _ (stops_heading 4100 _ 3 v.1 (omega arith))
    (λ c. stops_then 4100 _ _ (stops_rows 4100 4 1024 4 c (omega arith)) (λ t. tt)))))

pub stops_proof : (a b d : ℕ) (text : List ℕ) → Stops 4100 (read_proof a b d text)
unfolding read_proof read_proof_lines
stops_proof a b d text =
    stops_text 4100 _ read_proof_lines text
    (stops_then 4100 _ _ (stops_heading 4100 _ 1 (lines text) (omega arith)) (λ c. stops_proof_rows 4100 1024 2 c (omega arith)))

pub stops_model : (n : ℕ) (text : List ℕ) → Stops 4100 (read_model n text)
unfolding read_model read_model_lines
stops_model n text =
    stops_text 4100 _ read_model_lines text
    (stops_then 4100 _ _ (stops_heading 4100 _ 1 (lines text) (omega arith))
    (λ a. stops_then 4100 _ _ (stops_values_at 4100 _ 2 a (omega arith))
    (λ v. stops_then 4100 _ _ (stops_heading 4100 _ 3 v.1 (omega arith))
    (λ c. stops_then 4100 _ _ (stops_rows 4100 2 4096 4 c (omega arith)) (λ t. tt)))))

-- ---- what a reader answers: counts of five digits, a refusal that packs

pub schema_fits : (n : ℕ) (text : List ℕ) → SchemaFits (schema_answer (read_schema n text))
unfolding schema_answer
schema_fits n text = go (read_schema n text) refl (stops_schema n text)
  where
    go : (r : Reading _) → read_schema n text ≡ r → Stops 4100 r → SchemaFits (schema_answer r)
    go (read s) e h = omega (arith, (schema_counts n text s e).0, (schema_counts n text s e).1)
    go (stopped why k) e h = omega arith

pub proof_fits : (a b d : ℕ) (text : List ℕ) → ProofFits (proof_answer (read_proof a b d text))
unfolding proof_answer
proof_fits a b d text = go (read_proof a b d text) refl (stops_proof a b d text)
  where
    go : (r : Reading _) → read_proof a b d text ≡ r → Stops 4100 r → ProofFits (proof_answer r)
    go (read p) e h =
        let c = proof_counts a b d text p e in
        (omega (arith, c.0, c.1), omega (arith, c.2, c.3), c.4)
    go (stopped why k) e h = omega arith

pub model_fits : (n : ℕ) (text : List ℕ) → ModelFits (model_answer (read_model n text))
unfolding model_answer
model_fits n text = go (read_model n text) refl (stops_model n text)
  where
    go : (r : Reading _) → read_model n text ≡ r → Stops 4100 r → ModelFits (model_answer r)
    go (read s) e h = omega (arith, (model_counts n text s e).0, (model_counts n text s e).1)
    go (stopped why k) e h = omega arith

-- ---- what a writer answers: at most 65,536 bytes, a refusal that packs

pub write_near : (held few writable : Bool) → FindsNear (write_refusal held few writable)
unfolding write_refusal
write_near held few writable = of_whole held _ or_else of_whole few _ or_else of_whole writable _

pub written_fits : (x : Finding) (n : ℕ) (text : List ℕ) → FindsNear x → WrittenFits (written (writing x n text))
unfolding writing written writing_of output_refusal whole_unless text_limit
written_fits x n text near = go (x otherwise output_refusal n text) refl
  where
    fits : Bool
    fits = leb (length text) n and leb (length text) 65536

    go : (y : Finding) → (x otherwise output_refusal n text) ≡ y → WrittenFits (written (writing_of y text))
    go (Ok u) e = leb-true (length text) 65536 (and_right (leb (length text) n) _ (unless_nothing fits _ _ (otherwise_second x _ e)))
    go (Err r) e = near_packs r.why r.place (◌or_else◌ near (of_whole fits Output) r.why r.place e)

-- a refusal in writing is packed as a check's
pub written_refused : (why : Refusal) (p : Place) → packed (refuse why p) ≡ written_packed (refuse why p)
unfolding packed verdict_numbers refused_numbers written_packed written_numbers without_counts
written_refused why p = omega arith

-- ---- answer, place and bytes are read back from the number

answer_back : (v : Verdict) → Packs v → (answer_in (packed v) ≡ (verdict_numbers v).answer) × (place_in (packed v) ≡ (verdict_numbers v).place)
unfolding numbers_in
answer_back v h = (ap (λ (a : Numbers). a.answer) (read_back v h), ap (λ (a : Numbers). a.place) (read_back v h))

success : Packs (accept 0 0)
success = (omega arith, omega arith)

pub schema_read_back : (r : Result SchemaHeader Refused) → SchemaFits r → (answer_in (schema_packed r) ≡ (schema_numbers r).answer) × (place_in (schema_packed r) ≡ (schema_numbers r).place)
unfolding schema_packed schema_numbers without_counts packed verdict_numbers refused_numbers
schema_read_back (Ok c) h = answer_back (accept 0 0) success
schema_read_back (Err r) h = answer_back (Err r) h

pub proof_read_back : (r : Result ProofCounts Refused) → ProofFits r → (answer_in (proof_packed r) ≡ (proof_numbers r).answer) × (place_in (proof_packed r) ≡ (proof_numbers r).place)
unfolding proof_packed proof_numbers without_counts packed verdict_numbers refused_numbers
proof_read_back (Ok c) h = answer_back (accept 0 0) success
proof_read_back (Err r) h = answer_back (Err r) h

pub model_read_back : (r : Result ModelHeader Refused) → ModelFits r → (answer_in (model_packed r) ≡ (model_numbers r).answer) × (place_in (model_packed r) ≡ (model_numbers r).place)
unfolding model_packed model_numbers without_counts packed verdict_numbers refused_numbers
model_read_back (Ok c) h = answer_back (accept 0 0) success
model_read_back (Err r) h = answer_back (Err r) h

written_are : {a b : WrittenNumbers} → a.answer ≡ b.answer → a.place ≡ b.place → a.bytes ≡ b.bytes → a ≡ b
written_are p q r i = record { answer = p i; place = q i; bytes = r i }

packed_text : (n : ℕ) → written_packed (Ok n) ≡ 67108864 + n
unfolding written_packed written_numbers without_counts one_number nat
packed_text n = refl

pub written_read_back : (w : Result ℕ Refused) → WrittenFits w → written_in (written_packed w) ≡ written_numbers w
unfolding written_in written_numbers verdict_numbers refused_numbers
written_read_back (Ok n) h =
    let e = packed_text n in
    let place : written_packed (Ok n) / 67108864 % 8192 ≡ 1 = omega arith in
    written_are (omega arith) (ap (λ (c : ℕ). pos c -ℤ pos 1) place) (omega arith)
written_read_back (Err r) h =
    let e = written_refused r.why r.place in
    let b = answer_back (Err r) h in
    written_are (ap (λ (x : ℕ). answer_in x) (sym e) ∙ b.0) (ap (λ (x : ℕ). place_in x) (sym e) ∙ b.1) (omega (arith, packed_refusal r.why r.place))

-- ---- where a refusal points: on a line below 16384, and read back from its number

if_fits : (b : ℕ) (t : Bool) (f g : Fault) → f.line < b → g.line < b → (if t then f else g).line < b
if_fits b true f g h k = h
if_fits b false f g h k = k

check_points_fit : (S P : ℕ) → P ≤ 1024 → (why : Refusal) (k : ℕ) → k + 1 < 8192 → (check_points S P why k).line < 16384
unfolding check_points row_fault no_fault in_first in_second schema_row_line proof_row_line node_line
check_points_fit S P few why k h =
    if_fits 16384 (among 7 8 why) _ _
    (if_fits 16384 (ltb k S) _ _ (omega arith) (omega arith))
    (if_fits 16384 (among 9 17 why) _ _ (omega arith)
    (if_fits 16384 (among 27 27 why) _ _ (if_fits 16384 (ltb k S) _ _ (omega arith) (omega arith)) (omega arith)))

model_points_fit : (why : Refusal) (k : ℕ) → k + 1 < 8192 → (model_points why k).line < 16384
unfolding model_points no_fault in_first in_second schema_row_line pair_line
model_points_fit why k h =
    if_fits 16384 (among 7 8 why) _ _ (omega arith) (if_fits 16384 (among 18 18 why) _ _ (omega arith) (omega arith))

place_fits : (points : ℕ → Fault) → ((k : ℕ) → k + 1 < 8192 → (points k).line < 16384) → (p : Place) → PlacePacks p → (place_fault points p).line < 16384
unfolding place_fault no_fault
place_fits points h None p = omega arith
place_fits points h (Some k) p = h k p

verdict_fits : (points : Refusal → ℕ → Fault) → ((why : Refusal) (k : ℕ) → k + 1 < 8192 → (points why k).line < 16384) → (v : Verdict) → Packs v → (verdict_fault points v).line < 16384
unfolding verdict_fault no_fault
verdict_fits points h (Ok c) p = omega arith
verdict_fits points h (Err r) p = place_fits (points r.why) (h r.why) r.place p

after_fits : {A B : Type 0} (judge : A → B → Fault) (r : Reading A) (s : Reading B) → Stops 4100 r → Stops 4100 s
    → ((a : A) (b : B) → s ≡ read b → (judge a b).line < 16384) → (fault_after_reading judge r s).line < 16384
unfolding fault_after_reading in_first in_second
after_fits judge (read a) (read b) h g j = j a b refl
after_fits judge (read a) (stopped why k) h g j = omega arith
after_fits judge (stopped why k) s h g j = omega arith

pub check_fault_fits : (older : Bool) (schema proof : List ℕ) → (check_fault older schema proof).line < 16384
unfolding check_fault
check_fault_fits older schema proof =
    after_fits _ (read_schema 4096 schema) (read_proof 4096 9216 8192 proof) (stops_schema 4096 schema) (stops_proof 4096 9216 8192 proof)
    (λ a b e.
    let c = proof_counts 4096 9216 8192 proof b e in
    verdict_fits _ (check_points_fit (length a.table / 4) (length b.table / 4) (omega (arith, c.0, c.1))) (check_as older (tableau_of a b)) (checked_packs older _))

pub model_fault_fits : (schema model : List ℕ) → (model_fault schema model).line < 16384
unfolding model_fault
model_fault_fits schema model =
    after_fits _ (read_schema 4096 schema) (read_model 8192 model) (stops_schema 4096 schema) (stops_model 8192 model)
    (λ a b e. verdict_fits model_points model_points_fit (check_model (model_of a b)) (model_packs _))

fault_parts : (second : Bool) (n : ℕ) → (eqb ((2 * n + (if second then 1 else 0)) % 2) 1 ≡ second) × ((2 * n + (if second then 1 else 0)) / 2 ≡ n)
fault_parts true n = let e : (2 * n + 1) % 2 ≡ 1 = omega arith in (ap (λ (x : ℕ). eqb x 1) e, omega arith)
fault_parts false n = let e : (2 * n + 0) % 2 ≡ 0 = omega arith in (ap (λ (x : ℕ). eqb x 1) e, omega arith)

-- ---- two texts: the verdict fits into the one number; it and the line at fault are read back

after_packs : {A B : Type 0} (judge : A → B → Verdict) (r : Reading A) (s : Reading B) → Stops 4100 r → Stops 4100 s
    → ((a : A) (b : B) → Packs (judge a b)) → Packs (after_reading judge r s)
unfolding after_reading
after_packs judge (read a) (read b) h g j = j a b
after_packs judge (read a) (stopped why k) h g j = omega arith
after_packs judge (stopped why k) s h g j = omega arith

pub check_texts_pack : (older : Bool) (schema proof : List ℕ) → Packs (check_texts older schema proof)
unfolding check_texts
check_texts_pack older schema proof =
    after_packs _ (read_schema 4096 schema) (read_proof 4096 9216 8192 proof) (stops_schema 4096 schema) (stops_proof 4096 9216 8192 proof)
    (λ a b. checked_packs older (tableau_of a b))

pub model_texts_pack : (schema model : List ℕ) → Packs (model_texts schema model)
unfolding model_texts
model_texts_pack schema model =
    after_packs _ (read_schema 4096 schema) (read_model 8192 model) (stops_schema 4096 schema) (stops_model 8192 model)
    (λ a b. model_packs (model_of a b))

-- the one number is below what stands above it
pub packed_below : (v : Verdict) → Packs v → packed v < 17592186044416
packed_below (Ok c) h = omega (arith, packed_acceptance c.nodes c.links, h.0, h.1)
packed_below (Err r) h = omega (arith, packed_refusal r.why r.place, code_below r.why r.place h, (number_range r.why).1)

if_one : (t : Bool) → (if t then 1 else 0) ≤ 1
if_one true = omega arith
if_one false = omega arith

pub fault_below : (f : Fault) → f.line < 16384 → fault_number f < 32768
unfolding fault_number
fault_below f h = omega (arith, if_one f.second)

pub fault_back : (f : Fault) → fault_in (fault_number f) ≡ f
unfolding fault_in fault_number
fault_back f i = record { second = (fault_parts f.second f.line).0 i; line = (fault_parts f.second f.line).1 i }

pub number_part_lem : (v : Verdict) (f : Fault) → Packs v → number_part (texts_packed v f) ≡ packed v
unfolding texts_packed
number_part_lem v f h = omega (arith, packed_below v h)

pub fault_part_lem : (v : Verdict) (f : Fault) → Packs v → fault_part (texts_packed v f) ≡ f
unfolding texts_packed
fault_part_lem v f h =
    let e : (fault_number f * 17592186044416 + packed v) / 17592186044416 ≡ fault_number f = omega (arith, packed_below v h) in
    ap (λ (x : ℕ). fault_in x) e ∙ fault_back f
