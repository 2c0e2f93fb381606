-- What stays of lent memory: all of it, or nothing after a refusal.
use Prim.Native.Nat.{ℕ, zero, suc, ◌≤◌}
use native.Mathlib.Omega.{arith}
use mathlib.Core.Path.{◌≡◌, refl, sym, ◌∙◌, ap}
use mathlib.Core.Bool.{true, false}
use mathlib.Core.List.{List, []}
use lib.ListN.{length, replicate, length-replicate}
use Rattle.std.specs.Prelude.{Result, Ok, Err}
use Rattle.std.specs.Result.{is_err}
use Rattle.stab.specs.Text.{padded}
use Rattle.stab.specs.Answer.{refusal_number, schema_numbers, proof_numbers, model_numbers, written_numbers}
use Rattle.stab.specs.declared.Refused.{Refused}
use Rattle.stab.specs.declared.ModelHeader.{ModelHeader}
use Rattle.stab.specs.declared.ProofCounts.{ProofCounts}
use Rattle.stab.specs.declared.SchemaHeader.{SchemaHeader}
use Rattle.stab.proofs.Packed.{number_range}
use Rattle.stab.proofs.Texts.Outcomes.{padded_none}
use Rattle.round.specs.Again.{kept, answer_number}

module _ {A : Type 0} (z : A) where
  -- after a refusal
  cleared : (k : ℕ) (memory : List A) → 1 ≤ k → replicate (length memory) z ≡ kept z k memory
  unfolding kept
  cleared zero memory h = absurd (omega arith)
  cleared (suc k) memory h = sym (padded_none z (length memory))

  pub refused_kept : {B : Type 0} (r : Result B Refused) (memory : List A) → true ≡ is_err r → replicate (length memory) z ≡ kept z (answer_number r) memory
  unfolding answer_number
  refused_kept (Ok b) memory h = absurd (cc)
  refused_kept (Err e) memory h = cleared (refusal_number e.why) memory (number_range e.why).0

  -- after a success
  pub read_kept : {B : Type 0} (r : Result B Refused) (memory : List A) → false ≡ is_err r → memory ≡ kept z (answer_number r) memory
  unfolding answer_number kept
  read_kept (Ok b) memory h = refl
  read_kept (Err e) memory h = absurd (cc)

  -- memory that is all 0 stays so
  pub none_kept : (k n : ℕ) → padded z n [] ≡ kept z k (padded z n [])
  unfolding kept
  none_kept zero n = refl
  none_kept (suc k) n = ap (λ (i : ℕ). padded z i []) (sym (ap length (padded_none z n) ∙ length-replicate n z))

-- ---- the number of an answer is that of each of the paper's answers

pub schema_number : (r : Result SchemaHeader Refused) → answer_number r ≡ (schema_numbers r).answer
unfolding answer_number schema_numbers
schema_number (Ok h) = refl
schema_number (Err e) = refl

pub proof_number : (r : Result ProofCounts Refused) → answer_number r ≡ (proof_numbers r).answer
unfolding answer_number proof_numbers
proof_number (Ok h) = refl
proof_number (Err e) = refl

pub model_number : (r : Result ModelHeader Refused) → answer_number r ≡ (model_numbers r).answer
unfolding answer_number model_numbers
model_number (Ok h) = refl
model_number (Err e) = refl

pub written_number : (r : Result ℕ Refused) → answer_number r ≡ (written_numbers r).answer
unfolding answer_number written_numbers
written_number (Ok n) = refl
written_number (Err e) = refl
