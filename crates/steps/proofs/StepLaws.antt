-- A node's tests in the paper's order: what is found where one fails, and where none does.
use Rattle.std.specs.Prelude.{if◌then◌else◌, Some}
use Prim.Native.Nat.{ℕ, zero, suc}
use native.Mathlib.Omega.{arith}
use mathlib.Core.Path.{◌≡◌, refl, sym, ◌∙◌, ap}
use mathlib.Core.Bool.{Bool, true, false}
use lib.Dec.{eqb, leb}
use Rattle.stab.specs.Basic.{◌otherwise◌, all_of, nat}
use Rattle.stab.specs.Node.{Tableau, node, set, rank, child_count}
use Rattle.stab.specs.Rule.{drawn, drawn_from, fields_fit, target_fits, bound_fits, partners_fit, lowered_fits, rule, children_fit, children_held, children_as}
use Rattle.stab.specs.Check.{at_unless, step_refusal, node_refusal}
use Rattle.stab.specs.Finding.{no_refusal, refuse, Place, Finding}
use Rattle.stab.specs.declared.Refusal.{Refusal}
use Rattle.stab.specs.declared.Refusal.TheVariants.{Drawn, Fields, Target, Bound, Partner, Lowered, Children}
use Rattle.stab.proofs.Bools.{unless_nothing, nothing_unless, found_unless, otherwise_first, otherwise_second, otherwise_nothing, otherwise_found}

-- ---- one test

module _ (ok : Bool) (why : Refusal) (j : ℕ) where
  pub last_found : ok ≡ false → (refuse why (Some j)) ≡ at_unless ok why j
  unfolding at_unless
  last_found h = sym (found_unless ok _ _ h)

  pub last_passes : ok ≡ true → no_refusal ≡ at_unless ok why j
  unfolding at_unless
  last_passes h = sym (nothing_unless ok _ _ h)

  module _ (rest : Finding) where
    found : ok ≡ false → (refuse why (Some j)) ≡ (at_unless ok why j otherwise rest)
    unfolding at_unless
    found h = sym (otherwise_found (at_unless ok why j) rest (found_unless ok _ _ h))

    passes : ok ≡ true → rest ≡ (at_unless ok why j otherwise rest)
    unfolding at_unless
    passes h = sym (otherwise_nothing (at_unless ok why j) rest (nothing_unless ok _ _ h))

-- ---- a node's tests

module _ (T : Tableau) (j : ℕ) where
  pub drawn_found : drawn T j ≡ false → (refuse Drawn (Some j)) ≡ step_refusal T j
  unfolding step_refusal
  drawn_found h = found _ _ _ _ h

  module _ (h₁ : drawn T j ≡ true) where
    pub fields_found : fields_fit T j ≡ false → (refuse Fields (Some j)) ≡ step_refusal T j
    unfolding step_refusal
    fields_found h = found _ _ _ _ h ∙ passes _ _ _ _ h₁

    module _ (h₂ : fields_fit T j ≡ true) where
      pub target_found : target_fits T j ≡ false → (refuse Target (Some j)) ≡ step_refusal T j
      unfolding step_refusal
      target_found h = found _ _ _ _ h ∙ passes _ _ _ _ h₂ ∙ passes _ _ _ _ h₁

      module _ (h₃ : target_fits T j ≡ true) where
        pub bound_found : bound_fits T j ≡ false → (refuse Bound (Some j)) ≡ step_refusal T j
        unfolding step_refusal
        bound_found h = found _ _ _ _ h ∙ passes _ _ _ _ h₃ ∙ passes _ _ _ _ h₂ ∙ passes _ _ _ _ h₁

        module _ (h₄ : bound_fits T j ≡ true) where
          pub partner_found : partners_fit T j ≡ false → (refuse Partner (Some j)) ≡ step_refusal T j
          unfolding step_refusal
          partner_found h =
              found _ _ _ _ h ∙ passes _ _ _ _ h₄ ∙ passes _ _ _ _ h₃ ∙ passes _ _ _ _ h₂ ∙ passes _ _ _ _ h₁

          module _ (h₅ : partners_fit T j ≡ true) where
            pub lowered_found : lowered_fits T j ≡ false → (refuse Lowered (Some j)) ≡ step_refusal T j
            unfolding step_refusal
            lowered_found h =
                last_found _ _ _ h
                ∙ passes _ _ _ _ h₅
                ∙ passes _ _ _ _ h₄
                ∙ passes _ _ _ _ h₃
                ∙ passes _ _ _ _ h₂
                ∙ passes _ _ _ _ h₁

            pub nothing_found : lowered_fits T j ≡ true → no_refusal ≡ step_refusal T j
            unfolding step_refusal
            nothing_found h =
                last_passes _ _ _ h
                ∙ passes _ _ _ _ h₅
                ∙ passes _ _ _ _ h₄
                ∙ passes _ _ _ _ h₃
                ∙ passes _ _ _ _ h₂
                ∙ passes _ _ _ _ h₁

  -- where nothing is found the fields fit
  pub fields_passed : step_refusal T j ≡ no_refusal → fields_fit T j ≡ true
  unfolding step_refusal at_unless
  fields_passed h = unless_nothing _ _ _ (otherwise_first _ _ (otherwise_second _ _ h))

  -- ---- and 17

  pub step_found : (whole : Bool) (why : Refusal) (p : Place) → step_refusal T j ≡ refuse why p → refuse why p ≡ node_refusal whole T j
  unfolding node_refusal
  step_found whole why p h = sym (otherwise_found (step_refusal T j) _ h)

  module _ (whole : Bool) (h : step_refusal T j ≡ no_refusal) where
    pub children_found : children_as whole T j ≡ false → (refuse Children (Some j)) ≡ node_refusal whole T j
    unfolding node_refusal
    children_found c = last_found _ _ _ c ∙ sym (otherwise_nothing (step_refusal T j) _ h)

    pub node_passes : children_as whole T j ≡ true → no_refusal ≡ node_refusal whole T j
    unfolding node_refusal
    node_passes c = last_passes _ _ _ c ∙ sym (otherwise_nothing (step_refusal T j) _ h)

-- a number of children that is the node's
pub children_are : (whole : Bool) (T : Tableau) (j : ℕ) {n : ℕ} → n ≡ child_count T j → (if whole then eqb n (rule T j).children else leb n (rule T j).children) ≡ children_as whole T j
unfolding children_as children_fit children_held
children_are true T j e = ap (λ (m : ℕ). eqb m (rule T j).children) e
children_are false T j e = ap (λ (m : ℕ). leb m (rule T j).children) e

-- ---- the set of node 0 is drawn from nothing

pub drawn_first : (T : Tableau) (j : ℕ) → j ≡ 0 → true ≡ drawn T j
unfolding drawn
drawn_first T zero e = refl
drawn_first T (suc i) e = absurd (omega arith)

pub drawn_later : (T : Tableau) (j : ℕ) → (j ≡ 0 → ⊥) → all_of (drawn_from T (nat (node T j).up) (rank T.nodes j)) (set T j) ≡ drawn T j
unfolding drawn
drawn_later T zero e = absurd (e refl)
drawn_later T (suc i) e = refl
