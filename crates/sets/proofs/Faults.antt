-- What the two passes find, against the definitions of refusals 9 and 10.
use Prim.Native.Nat.{ℕ, ◌+◌}
use mathlib.Core.Path.{◌≡◌, refl, sym, ◌∙◌}
use mathlib.Core.Logic.{⊎_elim}
use mathlib.Core.List.{List}
use Rattle.stab.specs.Node.{Tableau}
use Rattle.stab.specs.Basic.{scan}
use Rattle.stab.specs.Formula.{formula_rows}
use Rattle.stab.specs.Check.{at_unless, set_refusal, parent_refusal}
use Rattle.stab.proofs.Bools.{decide, nothing_unless, found_unless}
use Rattle.formula.specs.Facts.{AllKnown}
use Rattle.branch.specs.Parents.{parent_right}
use Rattle.stab.proofs.Scans.{scan_same}
use Rattle.branch.proofs.ParentLaws.{parent_passes, parent_refused}
use Rattle.sets.specs.Faults.{set_fault, parent_fault}
use Rattle.sets.proofs.SetRefusals.{set_refusal_lem}

module _ (T : Tableau) where
  -- where the facts are those of the rows
  pub sets_refusal : (facts : List ℕ) → AllKnown (formula_rows T.schema T.schema_rows T.proof) facts (T.schema_rows + T.proof_rows) → (i : ℕ)
      → scan (set_fault facts (T.schema_rows + T.proof_rows) T.nodes T.node_rows T.members T.member_count) i ≡ scan (set_refusal T) i
  unfolding set_fault
  sets_refusal facts known i = scan_same _ _ i (λ j l n. sym (set_refusal_lem T facts (T.schema_rows + T.proof_rows) refl known j))

  parent_refusal_lem : (j : ℕ) → parent_fault T.nodes T.members T.root j ≡ parent_refusal T j
  unfolding parent_fault at_unless
  parent_refusal_lem j =
      ⊎_elim
      (λ h. nothing_unless _ _ _ h ∙ sym (parent_passes T j h))
      (λ h. found_unless _ _ _ h ∙ sym (parent_refused T j h))
      (decide (parent_right T.nodes T.members T.root j))

  pub parents_refusal : (i : ℕ) → scan (parent_fault T.nodes T.members T.root) i ≡ scan (parent_refusal T) i
  parents_refusal i = scan_same _ _ i (λ j l n. parent_refusal_lem j)
