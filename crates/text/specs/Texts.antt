-- What the readers of texts give.
use Rattle.std.specs.Prelude.{◌*◌, ◌≤◌, ◌≡◌, false, List, [], ℤ, pos, length, take, get_or, None, Some, Ok, Err, Result}
use Rattle.stab.specs.Text.{Line}
use Rattle.stab.specs.Read.{Reading, read, stopped, SchemaText, read_schema_lines, ProofText, read_proof_lines, ModelText, read_model_lines}
use Rattle.stab.specs.Finding.{Place}
use Rattle.stab.specs.declared.Refusal.{Refusal}
use Rattle.stab.specs.declared.Refused.{Refused}
use Rattle.stab.specs.declared.ModelHeader.{ModelHeader}
use Rattle.stab.specs.declared.ProofCounts.{ProofCounts}
use Rattle.stab.specs.declared.SchemaHeader.{SchemaHeader}
use Rattle.text.specs.Awaiting.{rest, goes_on, Room}
use Rattle.text.specs.declared.awaited.Awaited.{Awaited}
use Rattle.text.specs.declared.awaited.Awaited.TheVariants.{SchemaHeading, ModelHeading, ProofHeading}

-- The lines of a text came to p, where its first line was awaited as `start`.
pub record Came (start : Awaited) (ls : List Line) (p : Awaited) (t u m : List ℤ) : Type 0 where
  pub over : goes_on p ≡ false
  pub same : rest start t u m ls ≡ rest p t u m []
  pub room : Room p (length t) (length u) (length m)

-- a refusal of a text is at a line
abbrev pub StoppedAt : {A : Type 0} → Reading A → Refusal → Place → Type 0
StoppedAt r why None = ⊥
StoppedAt r why (Some k) = r ≡ stopped why k

-- ---- schema

-- what was read, its rows in front of the table
abbrev pub SchemaOf : Reading SchemaText → List ℤ → Result SchemaHeader Refused → Type 0
SchemaOf r t (Ok c) = (r ≡ read (record { root = c.root; least = c.least; table = take (4 * c.rows) t })) × (4 * c.rows ≤ length t)
SchemaOf r t (Err e) = StoppedAt r e.why e.place

abbrev pub SchemaFrom : Awaited → ℤ → ℤ → Result SchemaHeader Refused → Type 0
SchemaFrom p root least r =
    (ls : List Line) (t u m : List ℤ) → Came SchemaHeading ls p t u m → root ≡ get_or u 0 (pos 0) → least ≡ get_or u 1 (pos 0) → SchemaOf (read_schema_lines ls) t r

-- ---- model

abbrev pub ModelOf : Reading ModelText → List ℤ → Result ModelHeader Refused → Type 0
ModelOf r t (Ok c) = (r ≡ read (record { n = c.n; table = take (2 * c.pairs) t })) × (2 * c.pairs ≤ length t)
ModelOf r t (Err e) = StoppedAt r e.why e.place

abbrev pub ModelFrom : Awaited → ℤ → Result ModelHeader Refused → Type 0
ModelFrom p n r = (ls : List Line) (t u m : List ℤ) → Came ModelHeading ls p t u m → n ≡ get_or u 0 (pos 0) → ModelOf (read_model_lines ls) t r

-- ---- proof

abbrev pub ProofOf : Reading ProofText → List ℤ → List ℤ → List ℤ → Result ProofCounts Refused → Type 0
ProofOf r t u m (Ok c) =
    (r ≡ read (record { table = take (4 * c.rows) t; nodes = take (9 * c.nodes) u; members = take c.members m })) × (4 * c.rows ≤ length t) × (9 * c.nodes ≤ length u) × (c.members ≤ length m)
ProofOf r t u m (Err e) = StoppedAt r e.why e.place

abbrev pub ProofFrom : Awaited → Result ProofCounts Refused → Type 0
ProofFrom p r = (ls : List Line) (t u m : List ℤ) → Came ProofHeading ls p t u m → ProofOf (read_proof_lines ls) t u m r
