-- The outcome of two texts gives the verdict on them.
use Prim.Native.Nat.{ℕ}
use mathlib.Core.Path.{◌≡◌, refl}
use mathlib.Core.Bool.{Bool}
use mathlib.Core.List.{List}
use Rattle.stab.specs.Check.{check_as}
use Rattle.stab.specs.Model.{check_model}
use Rattle.stab.specs.Read.{Reading, read, stopped, SchemaText, ProofText, ModelText, read_schema, read_proof, read_model}
use Rattle.stab.specs.Program.{tableau_of, model_of, after_reading, check_texts, model_texts}
use Rattle.outcome.specs.Outcomes.{verdict_of, after_schema, check_after, check_outcome, model_after, model_outcome}

check_verdict_at : (older : Bool) (s : Reading SchemaText) (p : Reading ProofText)
    → verdict_of (after_schema (check_after older p) s) ≡ after_reading (λ a b. check_as older (tableau_of a b)) s p
unfolding after_reading after_schema check_after tableau_of
check_verdict_at older (read a) (read b) = refl
check_verdict_at older (read a) (stopped why k) = refl
check_verdict_at older (stopped why k) p = refl

pub check_verdict_is : (older : Bool) (schema proof : List ℕ) → verdict_of (check_outcome older schema proof) ≡ check_texts older schema proof
unfolding check_texts check_outcome
check_verdict_is older schema proof = check_verdict_at older (read_schema 4096 schema) (read_proof 4096 9216 8192 proof)

model_verdict_at : (s : Reading SchemaText) (m : Reading ModelText)
    → verdict_of (after_schema (model_after m) s) ≡ after_reading (λ a b. check_model (model_of a b)) s m
unfolding after_reading after_schema model_after model_of
model_verdict_at (read a) (read b) = refl
model_verdict_at (read a) (stopped why k) = refl
model_verdict_at (stopped why k) m = refl

pub model_verdict_is : (schema model : List ℕ) → verdict_of (model_outcome schema model) ≡ model_texts schema model
unfolding model_texts model_outcome
model_verdict_is schema model = model_verdict_at (read_schema 4096 schema) (read_model 8192 model)
