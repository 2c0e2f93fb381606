-- The outcome of two texts gives where a refusal points.
use Prim.Native.Nat.{ℕ, ◌/◌, ◌≤◌}
use native.Mathlib.Omega.{arith}
use mathlib.Core.Path.{◌≡◌, refl}
use mathlib.Core.Bool.{Bool}
use mathlib.Core.List.{List}
use lib.Dec.{leb}
use lib.ListN.{length}
use Rattle.stab.specs.Basic.{◌and◌}
use Rattle.stab.specs.Check.{check_as}
use Rattle.stab.specs.Model.{check_model}
use Rattle.stab.specs.Text.{lines}
use Rattle.stab.specs.Read.{Reading, read, stopped, SchemaText, ProofText, ModelText, read_schema, read_proof, read_proof_lines, read_model}
use Rattle.stab.specs.Program.{tableau_of, model_of, check_points, model_points, verdict_fault, fault_after_reading, check_fault, model_fault}
use Rattle.stab.proofs.Packed.{checked_packs, model_packs}
use Rattle.stab.proofs.Texts.Kinds.{proof_lines_are}
use Rattle.stab.proofs.Texts.Outcomes.{passed}
use Rattle.outcome.specs.Outcomes.{after_schema, check_after, check_outcome, model_after, model_outcome}
use Rattle.program.specs.Faults.{checked_fault, modelled_fault, Few}

check_points_at : (older : Bool) (s : Reading SchemaText) (p : Reading ProofText)
    → checked_fault (after_schema (check_after older p) s)
    ≡ fault_after_reading (λ a b. verdict_fault (check_points (length a.table / 4) (length b.table / 4)) (check_as older (tableau_of a b))) s p
unfolding fault_after_reading after_schema check_after tableau_of
check_points_at older (read a) (read b) = refl
check_points_at older (read a) (stopped why k) = refl
check_points_at older (stopped why k) p = refl

pub check_fault_is : (older : Bool) (schema proof : List ℕ) → checked_fault (check_outcome older schema proof) ≡ check_fault older schema proof
unfolding check_fault check_outcome
check_fault_is older schema proof = check_points_at older (read_schema 4096 schema) (read_proof 4096 9216 8192 proof)

model_points_at : (s : Reading SchemaText) (m : Reading ModelText)
    → modelled_fault (after_schema (model_after m) s) ≡ fault_after_reading (λ a b. verdict_fault model_points (check_model (model_of a b))) s m
unfolding fault_after_reading after_schema model_after model_of
model_points_at (read a) (read b) = refl
model_points_at (read a) (stopped why k) = refl
model_points_at (stopped why k) m = refl

pub model_fault_is : (schema model : List ℕ) → modelled_fault (model_outcome schema model) ≡ model_fault schema model
unfolding model_fault model_outcome
model_fault_is schema model = model_points_at (read_schema 4096 schema) (read_model 8192 model)

-- ---- counts and places are small

-- a proof that was read has few rows
few_rows : (text : List ℕ) (p : ProofText) → read_proof 4096 9216 8192 text ≡ read p → length p.table / 4 ≤ 1024
unfolding read_proof
few_rows text p h =
    let l = proof_lines_are (lines text) p (passed (leb 4096 4096 and leb 9216 9216 and leb 8192 8192) read_proof_lines text p h).gives in
    omega (arith, l.count, l.few)

check_few_of : (older : Bool) (s : Reading SchemaText) (p : Reading ProofText) → ((b : ProofText) → p ≡ read b → length b.table / 4 ≤ 1024) → Few (after_schema (check_after older p) s)
unfolding after_schema check_after
check_few_of older (read a) (read b) h = (h b refl, checked_packs older _)
check_few_of older (read a) (stopped why k) h = tt
check_few_of older (stopped why k) p h = tt

pub check_few : (older : Bool) (schema proof : List ℕ) → Few (check_outcome older schema proof)
unfolding check_outcome
check_few older schema proof = check_few_of older (read_schema 4096 schema) (read_proof 4096 9216 8192 proof) (few_rows proof)

model_few_of : (s : Reading SchemaText) (m : Reading ModelText) → Few (after_schema (model_after m) s)
unfolding after_schema model_after
model_few_of (read a) (read b) = (omega arith, model_packs _)
model_few_of (read a) (stopped why k) = tt
model_few_of (stopped why k) m = tt

pub model_few : (schema model : List ℕ) → Few (model_outcome schema model)
unfolding model_outcome
model_few schema model = model_few_of (read_schema 4096 schema) (read_model 8192 model)
