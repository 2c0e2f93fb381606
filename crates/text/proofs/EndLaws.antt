-- What the lines of a text came to, as the reader of the text says it.
use Prim.Native.Nat.{ℕ, ◌*◌}
use mathlib.Core.Path.{◌≡◌, refl, sym, ◌∙◌, ap, ap₂}
use mathlib.Core.Bool.{true≢false}
use mathlib.Core.List.{List, []}
use lib.IntN.{ℤ, pos}
use lib.ListN.{take, get_or}
use Rattle.stab.specs.Text.{Line, lines}
use Rattle.stab.specs.Read.{Reading, read, stopped, ◌and_then◌, SchemaText, read_schema_lines, ModelText, read_model_lines, ProofText, read_proof_lines}
use Rattle.stab.specs.declared.Refusal.{Refusal}
use Rattle.stab.specs.declared.Refusal.TheVariants.{Line as LineRefused}
use Rattle.text.specs.Awaiting.{Whole, schema, model, proof, schema_with, model_with, as_proof, rest, ReadAll}
use Rattle.text.specs.Texts.{Came}
use Rattle.text.specs.declared.awaited.Awaited.{Awaited}
use Rattle.text.specs.declared.awaited.Awaited.TheVariants.{Row, Pair, Formula, Node, SchemaHeading, SchemaValues, RowHeading, ModelHeading, ModelValue, PairHeading, ProofHeading, Schema, Model, Proof, NoHeading, BadLine, TooMany}

-- what was read of each kind of text; no text of that kind comes to anything else
unfoldable schema_part : Reading Whole → Reading SchemaText
schema_part (read (schema s)) = read s
schema_part (read (model s)) = stopped LineRefused 0
schema_part (read (proof s)) = stopped LineRefused 0
schema_part (stopped why k) = stopped why k

unfoldable model_part : Reading Whole → Reading ModelText
model_part (read (schema s)) = stopped LineRefused 0
model_part (read (model s)) = read s
model_part (read (proof s)) = stopped LineRefused 0
model_part (stopped why k) = stopped why k

unfoldable proof_part : Reading Whole → Reading ProofText
proof_part (read (schema s)) = stopped LineRefused 0
proof_part (read (model s)) = stopped LineRefused 0
proof_part (read (proof s)) = read s
proof_part (stopped why k) = stopped why k

schema_part_lem : (r : Reading SchemaText) → schema_part (r and_then λ s. read (schema s)) ≡ r
unfolding schema_part ◌and_then◌
schema_part_lem (read s) = refl
schema_part_lem (stopped why k) = refl

model_part_lem : (r : Reading ModelText) → model_part (r and_then λ s. read (model s)) ≡ r
unfolding model_part ◌and_then◌
model_part_lem (read s) = refl
model_part_lem (stopped why k) = refl

proof_part_lem : (r : Reading ProofText) → proof_part (as_proof r) ≡ r
unfolding proof_part as_proof ◌and_then◌
proof_part_lem (read s) = refl
proof_part_lem (stopped why k) = refl

-- the first lines do not look at the tables
pub came : (text : List ℕ) (start : Awaited) (t u m : List ℤ) (p : Awaited) (t' u' m' : List ℤ) → ReadAll text start t u m p t' u' m'
    → rest start t' u' m' (lines text) ≡ rest start t u m (lines text) → Came start (lines text) p t' u' m'
came text start t u m p t' u' m' r e = record { over = r.over; same = e ∙ r.same; room = r.room }

module _ (ls : List Line) (t u m : List ℤ) where
  -- ---- schema

  schema_came : (p : Awaited) → Came SchemaHeading ls p t u m → read_schema_lines ls ≡ schema_part (rest p t u m [])
  unfolding rest
  schema_came p c = sym (schema_part_lem (read_schema_lines ls)) ∙ ap schema_part c.same

  pub schema_all : (n : ℕ) (root least : ℤ) → Came SchemaHeading ls (Schema n) t u m → root ≡ get_or u 0 (pos 0) → least ≡ get_or u 1 (pos 0)
      → read_schema_lines ls ≡ read (record { root = root; least = least; table = take (4 * n) t })
  unfolding rest schema_with schema_part ◌and_then◌
  schema_all n root least c p q = schema_came (Schema n) c ∙ ap₂ (λ (a b : ℤ). read (record { root = a; least = b; table = take (4 * n) t })) (sym p) (sym q)

  pub schema_refused : (p : Awaited) (why : Refusal) (k : ℕ) → Came SchemaHeading ls p t u m → rest p t u m [] ≡ stopped why k → read_schema_lines ls ≡ stopped why k
  unfolding schema_part
  schema_refused p why k c e = schema_came p c ∙ ap schema_part e

  pub schema_other : (p : Awaited) → ((n : ℕ) → p ≡ Schema n → ⊥) → ((k : ℕ) → p ≡ NoHeading k → ⊥) → ((k : ℕ) → p ≡ BadLine k → ⊥) → ((k : ℕ) → p ≡ TooMany k → ⊥)
      → Came SchemaHeading ls p t u m → read_schema_lines ls ≡ stopped LineRefused 0
  unfolding rest model_with schema_part ◌and_then◌
  schema_other (Row n) o h b m c = absurd (true≢false c.over)
  schema_other (Pair k) o h b m c = absurd (true≢false c.over)
  schema_other (Formula n) o h b m c = absurd (true≢false c.over)
  schema_other (Node n j k) o h b m c = absurd (true≢false c.over)
  schema_other SchemaHeading o h b m c = absurd (true≢false c.over)
  schema_other SchemaValues o h b m c = absurd (true≢false c.over)
  schema_other RowHeading o h b m c = absurd (true≢false c.over)
  schema_other ModelHeading o h b m c = absurd (true≢false c.over)
  schema_other ModelValue o h b m c = absurd (true≢false c.over)
  schema_other PairHeading o h b m c = absurd (true≢false c.over)
  schema_other ProofHeading o h b m c = absurd (true≢false c.over)
  schema_other (Schema n) o h b m c = absurd (o n refl)
  schema_other (Model k) o h b m c = schema_came _ c
  schema_other (Proof n j k) o h b m c = schema_came _ c
  schema_other (NoHeading k) o h b m c = absurd (h k refl)
  schema_other (BadLine k) o h b m c = absurd (b k refl)
  schema_other (TooMany k) o h b m c = absurd (m k refl)

  -- ---- model

  model_came : (p : Awaited) → Came ModelHeading ls p t u m → read_model_lines ls ≡ model_part (rest p t u m [])
  unfolding rest
  model_came p c = sym (model_part_lem (read_model_lines ls)) ∙ ap model_part c.same

  pub model_all : (k : ℕ) (n : ℤ) → Came ModelHeading ls (Model k) t u m → n ≡ get_or u 0 (pos 0) → read_model_lines ls ≡ read (record { n = n; table = take (2 * k) t })
  unfolding rest model_with model_part ◌and_then◌
  model_all k n c p = model_came (Model k) c ∙ ap (λ (a : ℤ). read (record { n = a; table = take (2 * k) t })) (sym p)

  pub model_refused : (p : Awaited) (why : Refusal) (k : ℕ) → Came ModelHeading ls p t u m → rest p t u m [] ≡ stopped why k → read_model_lines ls ≡ stopped why k
  unfolding model_part
  model_refused p why k c e = model_came p c ∙ ap model_part e

  pub model_other : (p : Awaited) → ((k : ℕ) → p ≡ Model k → ⊥) → ((k : ℕ) → p ≡ NoHeading k → ⊥) → ((k : ℕ) → p ≡ BadLine k → ⊥) → ((k : ℕ) → p ≡ TooMany k → ⊥)
      → Came ModelHeading ls p t u m → read_model_lines ls ≡ stopped LineRefused 0
  unfolding rest schema_with model_part ◌and_then◌
  model_other (Row n) o h b m c = absurd (true≢false c.over)
  model_other (Pair k) o h b m c = absurd (true≢false c.over)
  model_other (Formula n) o h b m c = absurd (true≢false c.over)
  model_other (Node n j k) o h b m c = absurd (true≢false c.over)
  model_other SchemaHeading o h b m c = absurd (true≢false c.over)
  model_other SchemaValues o h b m c = absurd (true≢false c.over)
  model_other RowHeading o h b m c = absurd (true≢false c.over)
  model_other ModelHeading o h b m c = absurd (true≢false c.over)
  model_other ModelValue o h b m c = absurd (true≢false c.over)
  model_other PairHeading o h b m c = absurd (true≢false c.over)
  model_other ProofHeading o h b m c = absurd (true≢false c.over)
  model_other (Schema n) o h b m c = model_came _ c
  model_other (Model k) o h b m c = absurd (o k refl)
  model_other (Proof n j k) o h b m c = model_came _ c
  model_other (NoHeading k) o h b m c = absurd (h k refl)
  model_other (BadLine k) o h b m c = absurd (b k refl)
  model_other (TooMany k) o h b m c = absurd (m k refl)

  -- ---- proof

  proof_came : (p : Awaited) → Came ProofHeading ls p t u m → read_proof_lines ls ≡ proof_part (rest p t u m [])
  unfolding rest
  proof_came p c = sym (proof_part_lem (read_proof_lines ls)) ∙ ap proof_part c.same

  pub proof_all : (n j k : ℕ) → Came ProofHeading ls (Proof n j k) t u m → read_proof_lines ls ≡ read (record { table = take (4 * n) t; nodes = take (9 * j) u; members = take k m })
  unfolding rest proof_part
  proof_all n j k c = proof_came (Proof n j k) c

  pub proof_refused : (p : Awaited) (why : Refusal) (k : ℕ) → Came ProofHeading ls p t u m → rest p t u m [] ≡ stopped why k → read_proof_lines ls ≡ stopped why k
  unfolding proof_part
  proof_refused p why k c e = proof_came p c ∙ ap proof_part e

  pub proof_other : (p : Awaited) → ((n j k : ℕ) → p ≡ Proof n j k → ⊥) → ((k : ℕ) → p ≡ NoHeading k → ⊥) → ((k : ℕ) → p ≡ BadLine k → ⊥) → ((k : ℕ) → p ≡ TooMany k → ⊥)
      → Came ProofHeading ls p t u m → read_proof_lines ls ≡ stopped LineRefused 0
  unfolding rest schema_with model_with proof_part ◌and_then◌
  proof_other (Row n) o h b m c = absurd (true≢false c.over)
  proof_other (Pair k) o h b m c = absurd (true≢false c.over)
  proof_other (Formula n) o h b m c = absurd (true≢false c.over)
  proof_other (Node n j k) o h b m c = absurd (true≢false c.over)
  proof_other SchemaHeading o h b m c = absurd (true≢false c.over)
  proof_other SchemaValues o h b m c = absurd (true≢false c.over)
  proof_other RowHeading o h b m c = absurd (true≢false c.over)
  proof_other ModelHeading o h b m c = absurd (true≢false c.over)
  proof_other ModelValue o h b m c = absurd (true≢false c.over)
  proof_other PairHeading o h b m c = absurd (true≢false c.over)
  proof_other ProofHeading o h b m c = absurd (true≢false c.over)
  proof_other (Schema n) o h b m c = proof_came _ c
  proof_other (Model k) o h b m c = proof_came _ c
  proof_other (Proof n j k) o h b m c = absurd (o n j k refl)
  proof_other (NoHeading k) o h b m c = absurd (h k refl)
  proof_other (BadLine k) o h b m c = absurd (b k refl)
  proof_other (TooMany k) o h b m c = absurd (m k refl)
