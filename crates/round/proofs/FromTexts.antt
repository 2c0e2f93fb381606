-- A text that is read and written again, from what the reader and the writer give.
use Prim.Native.Nat.{ℕ, ◌/◌}
use native.Mathlib.Omega.{arith}
use mathlib.Core.Path.{◌≡◌, refl, sym, ◌∙◌, ap, ap₂}
use mathlib.Core.Bool.{Bool}
use mathlib.Core.List.{List}
use lib.IntN.{pos}
use lib.ListN.{length, replicate}
use Rattle.stab.specs.Check.{whole_unless}
use Rattle.stab.specs.Text.{padded}
use Rattle.stab.specs.Read.{Reading, read, stopped, SchemaText, ProofText, ModelText, read_schema, read_proof, read_model, schema_answer, proof_answer, model_answer, schema_table, proof_table, node_table, member_table, pair_table, table_of}
use Rattle.stab.specs.Write.{Writing, wrote, writing, write_refusal, write_schema, write_proof, write_model, written, output}
use Rattle.std.specs.Prelude.{Ok, Err, Result}
use Rattle.stab.specs.Finding.{no_refusal, Finding}
use Rattle.stab.specs.declared.Refused.{Refused}
use Rattle.stab.specs.declared.ModelHeader.{ModelHeader}
use Rattle.stab.specs.declared.ProofCounts.{ProofCounts}
use Rattle.stab.specs.declared.SchemaHeader.{SchemaHeader}
use Rattle.stab.proofs.Bools.{nothing_unless, otherwise_nothing}
use Rattle.stab.proofs.Texts.{schema_same, proof_same, model_same}
use Rattle.stab.proofs.Texts.Outcomes.{Written as Passes, written as passes, padded_none}
use Rattle.round.specs.Again.{text_again, bytes_again, kept}
use Rattle.round.proofs.Kept.{none_kept}

-- ---- what an answer holds

ok_inj : {A : Type 0} {a b : A} → ◌≡◌ {A = Result A Refused} (Ok a) (Ok b) → a ≡ b
ok_inj e = cc

err_inj : {A : Type 0} {a b : Refused} → ◌≡◌ {A = Result A Refused} (Err a) (Err b) → a ≡ b
err_inj e = cc

-- ---- rows whose text fits into one output: into another it is that text, or 22

nothing_left : (held few writable : Bool) (n : ℕ) (text out : List ℕ) → Passes held few writable n text out → write_refusal held few writable ≡ no_refusal
unfolding write_refusal whole_unless
nothing_left held few writable n text out w =
    otherwise_nothing _ _ (nothing_unless held _ _ w.holding) ∙ otherwise_nothing _ _ (nothing_unless few _ _ w.counted) ∙ nothing_unless writable _ _ w.digits

any_output : (held few writable : Bool) (m n : ℕ) (text out : List ℕ)
    → writing (write_refusal held few writable) m text ≡ wrote out → writing (write_refusal held few writable) n text ≡ writing no_refusal n out
any_output held few writable m n text out e =
    let w = passes held few writable m text out e in
    ap₂ (λ (f : Finding) (x : List ℕ). writing f n x) (nothing_left held few writable m text out w) w.same

schema_whole : (text : List ℕ) (m : ℕ) (s : SchemaText) (n : ℕ) → read_schema m text ≡ read s
    → write_schema (padded (pos 0) m s.table) (length s.table / 4) s.root s.least n ≡ writing no_refusal n text
unfolding write_schema
schema_whole text m s n h = any_output _ _ _ (length text) n _ text (schema_same text m s (length text) h (omega arith))

proof_whole : (text : List ℕ) (a b d : ℕ) (p : ProofText) (n : ℕ) → read_proof a b d text ≡ read p
    → write_proof (padded (pos 0) a p.table) (length p.table / 4) (padded (pos 0) b p.nodes) (length p.nodes / 9) (padded (pos 0) d p.members) (length p.members) n
    ≡ writing no_refusal n text
unfolding write_proof
proof_whole text a b d p n h = any_output _ _ _ (length text) n _ text (proof_same text a b d p (length text) h (omega arith))

model_whole : (text : List ℕ) (m : ℕ) (s : ModelText) (n : ℕ) → read_model m text ≡ read s
    → write_model s.n (padded (pos 0) m s.table) (length s.table / 2) n ≡ writing no_refusal n text
unfolding write_model
model_whole text m s n h = any_output _ _ _ (length text) n _ text (model_same text m s (length text) h (omega arith))

-- ---- a text that was read, written from the tables as reading left them

pub schema_again_lem : (text : List ℕ) (m n : ℕ) (h : SchemaHeader) → schema_answer (read_schema m text) ≡ Ok h
    → (w : Writing) → w ≡ write_schema (schema_table m (read_schema m text)) h.rows h.root h.least n
    → (written w ≡ text_again (read_schema m text) n text) × (output n w ≡ bytes_again (read_schema m text) n text)
unfolding schema_answer schema_table table_of text_again bytes_again
schema_again_lem text m n h = go (read_schema m text) refl
  where
    go : (r : Reading SchemaText) → read_schema m text ≡ r → schema_answer r ≡ Ok h
        → (w : Writing) → w ≡ write_schema (schema_table m r) h.rows h.root h.least n
        → (written w ≡ text_again r n text) × (output n w ≡ bytes_again r n text)
    go (read s) e a w i =
        let same = i ∙ ap (λ (h : SchemaHeader). write_schema (padded (pos 0) m s.table) h.rows h.root h.least n) (sym (ok_inj a)) ∙ schema_whole text m s n e in
        (ap written same, ap (output n) same)
    go (stopped why k) e a w i = (cc, cc)

pub proof_again_lem : (text : List ℕ) (a b d n : ℕ) (h : ProofCounts) → proof_answer (read_proof a b d text) ≡ Ok h
    → (w : Writing) → w ≡ write_proof (proof_table a (read_proof a b d text)) h.rows (node_table b (read_proof a b d text)) h.nodes (member_table d (read_proof a b d text)) h.members n
    → (written w ≡ text_again (read_proof a b d text) n text) × (output n w ≡ bytes_again (read_proof a b d text) n text)
unfolding proof_answer proof_table node_table member_table table_of text_again bytes_again
proof_again_lem text a b d n h = go (read_proof a b d text) refl
  where
    go : (r : Reading ProofText) → read_proof a b d text ≡ r → proof_answer r ≡ Ok h
        → (w : Writing) → w ≡ write_proof (proof_table a r) h.rows (node_table b r) h.nodes (member_table d r) h.members n
        → (written w ≡ text_again r n text) × (output n w ≡ bytes_again r n text)
    go (read p) e f w i =
        let same = i ∙ ap (λ (h : ProofCounts). write_proof (padded (pos 0) a p.table) h.rows (padded (pos 0) b p.nodes) h.nodes (padded (pos 0) d p.members) h.members n) (sym (ok_inj f)) ∙ proof_whole text a b d p n e in
        (ap written same, ap (output n) same)
    go (stopped why k) e f w i = (cc, cc)

pub model_again_lem : (text : List ℕ) (m n : ℕ) (h : ModelHeader) → model_answer (read_model m text) ≡ Ok h
    → (w : Writing) → w ≡ write_model h.n (pair_table m (read_model m text)) h.pairs n
    → (written w ≡ text_again (read_model m text) n text) × (output n w ≡ bytes_again (read_model m text) n text)
unfolding model_answer pair_table table_of text_again bytes_again
model_again_lem text m n h = go (read_model m text) refl
  where
    go : (r : Reading ModelText) → read_model m text ≡ r → model_answer r ≡ Ok h
        → (w : Writing) → w ≡ write_model h.n (pair_table m r) h.pairs n
        → (written w ≡ text_again r n text) × (output n w ≡ bytes_again r n text)
    go (read s) e a w i =
        let same = i ∙ ap (λ (h : ModelHeader). write_model h.n (padded (pos 0) m s.table) h.pairs n) (sym (ok_inj a)) ∙ model_whole text m s n e in
        (ap written same, ap (output n) same)
    go (stopped why k) e a w i = (cc, cc)

-- ---- a text that was not read

pub schema_unread : (r : Reading SchemaText) (e : Refused) (n : ℕ) (text : List ℕ) → schema_answer r ≡ Err e
    → (Err e ≡ text_again r n text) × (replicate n 0 ≡ bytes_again r n text) × ((m a : ℕ) → schema_table m r ≡ kept (pos 0) a (schema_table m r))
unfolding schema_answer text_again bytes_again schema_table table_of
schema_unread (read s) e n text h = (cc, cc, λ m a. cc)
schema_unread (stopped why k) e n text h = (ap Err (sym (err_inj h)), sym (padded_none 0 n), λ m a. none_kept (pos 0) a m)

pub proof_unread : (r : Reading ProofText) (e : Refused) (n : ℕ) (text : List ℕ) → proof_answer r ≡ Err e
    → (Err e ≡ text_again r n text) × (replicate n 0 ≡ bytes_again r n text)
    × ((m a : ℕ) → proof_table m r ≡ kept (pos 0) a (proof_table m r))
    × ((m a : ℕ) → node_table m r ≡ kept (pos 0) a (node_table m r))
    × ((m a : ℕ) → member_table m r ≡ kept (pos 0) a (member_table m r))
unfolding proof_answer text_again bytes_again proof_table node_table member_table table_of
proof_unread (read s) e n text h = (cc, cc, λ m a. cc, λ m a. cc, λ m a. cc)
proof_unread (stopped why k) e n text h =
    (ap Err (sym (err_inj h)), sym (padded_none 0 n), λ m a. none_kept (pos 0) a m, λ m a. none_kept (pos 0) a m, λ m a. none_kept (pos 0) a m)

pub model_unread : (r : Reading ModelText) (e : Refused) (n : ℕ) (text : List ℕ) → model_answer r ≡ Err e
    → (Err e ≡ text_again r n text) × (replicate n 0 ≡ bytes_again r n text) × ((m a : ℕ) → pair_table m r ≡ kept (pos 0) a (pair_table m r))
unfolding model_answer text_again bytes_again pair_table table_of
model_unread (read s) e n text h = (cc, cc, λ m a. cc)
model_unread (stopped why k) e n text h = (ap Err (sym (err_inj h)), sym (padded_none 0 n), λ m a. none_kept (pos 0) a m)
