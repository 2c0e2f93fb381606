-- 02, No. 11: in which order a join is turned away, and what stands in lent memory then.
use Prim.Native.Nat.{ℕ}
use mathlib.Core.Path.{◌≡◌, ◌∙◌, ap}
use mathlib.Core.Bool.{Bool, true, false}
use mathlib.Core.List.{[]}
use lib.Dec.{leb}
use lib.IntN.{pos}
use Rattle.stab.specs.Basic.{◌and◌, eq_z, ◌otherwise◌}
use Rattle.stab.specs.Node.{Tableau}
use Rattle.stab.specs.Check.{whole_unless, at_unless, check, refusal, present_mode}
use Rattle.stab.specs.Text.{padded}
use Rattle.std.specs.Prelude.{None, Some}
use Rattle.stab.specs.Finding.{accept, refuse, Place}
use Rattle.stab.specs.declared.Refusal.{Refusal}
use Rattle.stab.specs.declared.Refusal.TheVariants.{TableTooShort, Leasts, Joint}
use Rattle.stab.proofs.Bools.{nothing_unless, found_unless, otherwise_nothing, otherwise_found}
use Rattle.stab.proofs.Exactness.Refusals.{accepted_finds, refused_finds}
use Rattle.joint.specs.Joint.{joint, joint_fits, Rooms, join_refusal, joined_by, join, joined_table, joined_schema, joined_proof, joined_nodes, joined_members}

-- the result tables have their full sizes
abbrev full : Rooms → Bool
full R = leb 4096 R.schema and leb 4096 R.proof and leb 9216 R.nodes and leb 8192 R.members

module _ (R : Rooms) (A B : Tableau) where
  pub short_first : full R ≡ false → join R A B ≡ refuse TableTooShort (Some 0)
  unfolding join joined_by join_refusal at_unless
  short_first h = ap (λ x. joined_by x (joint A B)) (otherwise_found _ _ (found_unless (full R) _ _ h))

  module _ (roomy : full R ≡ true) where
    -- "A faulty input is refused with its own number and place, the first's before the second's"
    pub first_refused : (why : Refusal) (p : Place) → check A ≡ refuse why p → join R A B ≡ refuse why p
    unfolding join joined_by join_refusal at_unless
    first_refused why p e =
        ap (λ x. joined_by x (joint A B)) (otherwise_nothing _ _ (nothing_unless (full R) _ _ roomy) ∙ otherwise_found (refusal present_mode A) _ (refused_finds A why p e))

    module _ (n l : ℕ) (first : check A ≡ accept n l) where
      after_first : join_refusal R A B ≡ (refusal present_mode B otherwise (whole_unless (eq_z A.least B.least) Leasts otherwise whole_unless (joint_fits (joint A B)) Joint))
      unfolding join_refusal at_unless
      after_first = otherwise_nothing _ _ (nothing_unless (full R) _ _ roomy) ∙ otherwise_nothing (refusal present_mode A) _ (accepted_finds A n l first)

      pub second_refused : (why : Refusal) (p : Place) → check B ≡ refuse why p → join R A B ≡ refuse why p
      unfolding join joined_by
      second_refused why p e = ap (λ x. joined_by x (joint A B)) (after_first ∙ otherwise_found (refusal present_mode B) _ (refused_finds B why p e))

      -- "28 if the least values differ"
      pub leasts_differ : (m k : ℕ) → check B ≡ accept m k → eq_z A.least B.least ≡ false → join R A B ≡ refuse Leasts None
      unfolding join joined_by whole_unless
      leasts_differ m k e d =
          ap (λ x. joined_by x (joint A B)) (after_first ∙ otherwise_nothing (refusal present_mode B) _ (accepted_finds B m k e) ∙ otherwise_found _ _ (found_unless (eq_z A.least B.least) _ _ d))

      -- "29 if the tidied join's rows, nodes, members, size or depth pass 01's limits"
      pub too_large : (m k : ℕ) → check B ≡ accept m k → eq_z A.least B.least ≡ true → joint_fits (joint A B) ≡ false → join R A B ≡ refuse Joint None
      unfolding join joined_by whole_unless
      too_large m k e s d =
          ap (λ x. joined_by x (joint A B)) (after_first ∙ otherwise_nothing (refusal present_mode B) _ (accepted_finds B m k e) ∙ otherwise_nothing _ _ (nothing_unless (eq_z A.least B.least) _ _ s) ∙ found_unless (joint_fits (joint A B)) _ _ d)

-- after a refusal all that was lent is 0
pub refused_zeros : (R : Rooms) (A B : Tableau) (why : Refusal) (p : Place) → join_refusal R A B ≡ refuse why p → (joined_schema R A B ≡ padded (pos 0) R.schema []) × (joined_proof R A B ≡ padded (pos 0) R.proof []) × (joined_nodes R A B ≡ padded (pos 0) R.nodes []) × (joined_members R A B ≡ padded (pos 0) R.members [])
unfolding joined_schema joined_proof joined_nodes joined_members joined_table
refused_zeros R A B why p e = (
  ap (λ x. joined_table x R.schema (joint A B).schema) e,
  ap (λ x. joined_table x R.proof (joint A B).proof) e,
  ap (λ x. joined_table x R.nodes (joint A B).nodes) e,
  ap (λ x. joined_table x R.members (joint A B).members) e,
)
