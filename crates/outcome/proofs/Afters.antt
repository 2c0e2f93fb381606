-- What a reader answers and leaves in its tables, as the outcome of two texts.
use Prim.Native.Nat.{ℕ, ◌/◌}
use mathlib.Core.Path.{◌≡◌}
use mathlib.Core.Bool.{Bool}
use mathlib.Core.List.{List}
use lib.IntN.{ℤ}
use lib.ListN.{length}
use Rattle.stab.specs.Lent.{lent, lent_schema, header, schema_header}
use Rattle.stab.specs.Check.{check_as}
use Rattle.stab.specs.Model.{check_model}
use Rattle.stab.specs.Read.{Reading, read, stopped, SchemaText, ProofText, ModelText, table_of, schema_answer, schema_table, proof_answer, proof_table, node_table, member_table, model_answer, pair_table}
use Rattle.std.specs.Prelude.{Ok}
use Rattle.stab.specs.Finding.{refuse, Place}
use Rattle.stab.specs.declared.Refusal.{Refusal}
use Rattle.stab.specs.declared.ModelHeader.{ModelHeader}
use Rattle.stab.specs.declared.ProofCounts.{ProofCounts}
use Rattle.stab.specs.declared.SchemaHeader.{SchemaHeader}
use Rattle.outcome.specs.Outcomes.{after_schema, check_after, model_after}
use Rattle.outcome.specs.declared.Outcome.{Outcome}
use Rattle.outcome.specs.declared.Outcome.TheVariants.{First, Second, Judged}

-- ---- the second text is a proof

-- the check on tables and counts, as the code calls it
abbrev pub judged_tableau : Bool → List ℤ → SchemaHeader → ℤ → ℤ → List ℤ → List ℤ → List ℤ → ℕ → ℕ → ℕ → Outcome
judged_tableau older t h root least rows nodes members p k m = Judged (check_as older (lent t rows nodes members (header h.rows p root least k m))) h.rows p

pub proof_read_lem : (older : Bool) (r : Reading ProofText) (t : List ℤ) (h : SchemaHeader) (rows nodes members : List ℤ) (n : ProofCounts)
    → Ok n ≡ proof_answer r → rows ≡ proof_table 4096 r → nodes ≡ node_table 9216 r → members ≡ member_table 8192 r
    → judged_tableau older t h h.root h.least rows nodes members n.rows n.nodes n.members ≡ check_after older r t h
unfolding proof_answer proof_table node_table member_table table_of check_after
proof_read_lem older (read a) t h rows nodes members n e x y z =
    let c : n ≡ record { rows = length a.table / 4; nodes = length a.nodes / 9; members = length a.members } = cc in
    λ i. judged_tableau older t h h.root h.least (x i) (y i) (z i) (c i).rows (c i).nodes (c i).members
proof_read_lem older (stopped why l) t h rows nodes members n e x y z = cc

pub proof_refused : (older : Bool) (r : Reading ProofText) (t : List ℤ) (h : SchemaHeader) (why : Refusal) (place : Place)
    → refuse why place ≡ proof_answer r → Second (record { why = why; place = place }) ≡ check_after older r t h
unfolding proof_answer check_after
proof_refused older (read a) t h why place e = cc
proof_refused older (stopped w l) t h why place e = cc

-- ---- it is a model

abbrev pub judged_model : List ℤ → SchemaHeader → ℤ → List ℤ → ℕ → Outcome
judged_model t h v pairs k = Judged (check_model (record { schema = lent_schema t h; n = v; pairs = pairs; pair_rows = k })) h.rows 0

pub model_read_lem : (r : Reading ModelText) (t : List ℤ) (h : SchemaHeader) (m : ModelHeader) (pairs : List ℤ)
    → Ok m ≡ model_answer r → pairs ≡ pair_table 8192 r → judged_model t h m.n pairs m.pairs ≡ model_after r t h
unfolding model_answer pair_table table_of model_after
model_read_lem (read a) t h m pairs e x =
    let c : m ≡ record { n = a.n; pairs = length a.table / 2 } = cc in
    λ i. judged_model t h (c i).n (x i) (c i).pairs
model_read_lem (stopped why l) t h m pairs e x = cc

pub model_refused : (r : Reading ModelText) (t : List ℤ) (h : SchemaHeader) (why : Refusal) (place : Place)
    → refuse why place ≡ model_answer r → Second (record { why = why; place = place }) ≡ model_after r t h
unfolding model_answer model_after
model_refused (read a) t h why place e = cc
model_refused (stopped w l) t h why place e = cc

-- ---- the schema

module _ (next : List ℤ → SchemaHeader → Outcome) where
  pub schema_read_lem : (r : Reading SchemaText) (t : List ℤ) (h : SchemaHeader)
      → Ok h ≡ schema_answer r → t ≡ schema_table 4096 r → next t h ≡ after_schema next r
  unfolding schema_answer schema_table table_of after_schema
  schema_read_lem (read a) t h e x =
      let c : h ≡ schema_header (length a.table / 4) a.root a.least = cc in
      λ i. next (x i) (c i)
  schema_read_lem (stopped why l) t h e x = cc

  pub schema_refused : (r : Reading SchemaText) (why : Refusal) (place : Place) → refuse why place ≡ schema_answer r → First (record { why = why; place = place }) ≡ after_schema next r
  unfolding schema_answer after_schema
  schema_refused (read a) why place e = cc
  schema_refused (stopped w l) why place e = cc
