-- The laws of the passes that the model check is made of.
use Prim.Native.Nat.{ℕ, ◌+◌, ◌*◌, ◌≤◌, ◌<◌}
use native.Mathlib.Omega.{arith}
use mathlib.Core.Path.{◌≡◌, sym, ◌∙◌, ap}
use mathlib.Core.Bool.{Bool, true, false}
use mathlib.Core.List.{List}
use lib.Dec.{leb}
use lib.IntN.{ℤ, pos, neg_ℤ}
use lib.ListN.{length}
use lib.Signed.{le_z}
use borrow.Author.Tests.{leb-true, le-leb}
use Rattle.stab.specs.Basic.{◌and◌, nat, below, ◌otherwise◌, scan}
use Rattle.stab.specs.Formula.{Schema}
use Rattle.stab.specs.Model.{Model, pair_refusal, model_refusal, satisfied, assignment}
use Rattle.stab.specs.Check.{whole_unless, holds, root_fits, formulas_refusal, schema_refusal, verdict}
use Rattle.std.specs.Prelude.{None}
use Rattle.stab.specs.Finding.{no_refusal, refuse, accept, Place, Finding}
use Rattle.stab.specs.declared.Refusal.{Refusal}
use Rattle.stab.specs.declared.Refusal.TheVariants.{TableTooShort}
use Rattle.stab.proofs.Bools.{and_left, and_right, same_test, nothing_unless, unless_nothing, found_unless, otherwise_first, otherwise_second, otherwise_nothing, otherwise_found}
use Rattle.stab.proofs.Findings.{otherwise_assoc}
use Rattle.stab.proofs.Trees.{below_nat}
use Rattle.stab.proofs.Whole.{atom, le_of, of_le, plus_nat, minus_nat}
use Rattle.model.specs.Passes.{tables_refusal, truth_refusal}
use Rattle.pairs.proofs.Parts.{high_is}

-- ---- tests

-- an order of whole numbers by their parts
pub order_is : (a b : ℤ) → le_z a b ≡ leb (nat a + nat (neg_ℤ b)) (nat b + nat (neg_ℤ a))
order_is a b =
    same_test _ _
    (λ e. le-leb (nat a + nat (neg_ℤ b)) (nat b + nat (neg_ℤ a)) (omega (arith, of_le (atom a) (atom b) e, plus_nat a, plus_nat b, minus_nat a, minus_nat b)))
    (λ e. le_of (atom a) (atom b) (omega (arith, leb-true (nat a + nat (neg_ℤ b)) (nat b + nat (neg_ℤ a)) e, plus_nat a, plus_nat b, minus_nat a, minus_nat b)))

-- n is not over 9999
pub n_small : (least n : ℤ) → (le_z least n and le_z n (pos 9999)) ≡ true → nat n ≤ 9999
n_small least n h = leb-true (nat n) 9999 (sym (high_is 9999 n) ∙ and_right (le_z least n) _ h)

-- ---- refusals of the whole record

module _ (ok : Bool) (why : Refusal) where
  pub whole_none : ok ≡ true → whole_unless ok why ≡ no_refusal
  unfolding whole_unless
  whole_none h = nothing_unless ok _ _ h

  whole_some : ok ≡ false → whole_unless ok why ≡ refuse why None
  unfolding whole_unless
  whole_some h = found_unless ok _ _ h

  -- the test fails, and its refusal is what is found
  pub found_last : (r : Finding) → r ≡ refuse why None → ok ≡ false → r ≡ whole_unless ok why
  found_last r e h = e ∙ sym (whole_some h)

  pub found_here : (rest : Finding) (r : Finding) → r ≡ refuse why None → ok ≡ false → r ≡ (whole_unless ok why otherwise rest)
  found_here rest r e h = e ∙ sym (otherwise_found (whole_unless ok why) rest (whole_some h))

  -- the test passes, and what is found is found later
  pub found_later : (rest x : Finding) → ok ≡ true → x ≡ rest → x ≡ (whole_unless ok why otherwise rest)
  found_later rest x h e = e ∙ sym (otherwise_nothing (whole_unless ok why) rest (whole_none h))

-- ---- what passed

pub passed_root : (S : Schema) → schema_refusal S ≡ no_refusal → nat S.root < S.rows
unfolding schema_refusal formulas_refusal whole_unless root_fits
passed_root S h =
    below_nat S.rows S.root (and_left (below S.rows S.root) _ (unless_nothing (root_fits S.rows S.root S.least) _ _ (otherwise_first _ _ h)))

-- ---- the whole check

pub model_is : (M : Model) → model_refusal M ≡ (tables_refusal M.schema.table M.schema.rows M.pairs M.pair_rows otherwise (schema_refusal M.schema otherwise (scan (pair_refusal M.pairs) M.pair_rows otherwise truth_refusal M.schema M.n M.pairs M.pair_rows)))
unfolding model_refusal tables_refusal truth_refusal satisfied assignment
model_is M = sym (otherwise_assoc _ _ _)

module _ (s k : ℕ) (schema pairs : List ℤ) (h : tables_refusal schema s pairs k ≡ no_refusal) where
  tables_held : (holds schema 4 s and holds pairs 2 k) ≡ true
  unfolding tables_refusal whole_unless
  tables_held = unless_nothing _ _ _ (otherwise_first _ _ h)

  tables_few : (leb s 1024 and leb k 4096) ≡ true
  unfolding tables_refusal whole_unless
  tables_few = unless_nothing _ _ _ (otherwise_second (whole_unless (holds schema 4 s and holds pairs 2 k) TableTooShort) _ h)

  pub schema_held_lem : 4 * s ≤ length schema
  unfolding holds
  schema_held_lem = leb-true (4 * s) (length schema) (and_left _ (holds pairs 2 k) tables_held)

  pub rows_few : s ≤ 1024
  rows_few = leb-true s 1024 (and_left _ (leb k 4096) tables_few)

  pub pairs_few : k ≤ 4096
  pairs_few = leb-true k 4096 (and_right (leb s 1024) _ tables_few)

-- the verdict of what was found
pub accepted_is : (x : Finding) (f : Finding) → f ≡ x → f ≡ no_refusal → accept 0 0 ≡ verdict x (accept 0 0)
unfolding verdict
accepted_is x f e h = ap (λ (y : Finding). verdict y (accept 0 0)) (sym (h) ∙ e)

pub refused_is : (x : Finding) (f : Finding) (why : Refusal) (p : Place) → f ≡ x → f ≡ refuse why p → refuse why p ≡ verdict x (accept 0 0)
unfolding verdict
refused_is x f why p e h = ap (λ (y : Finding). verdict y (accept 0 0)) (sym (h) ∙ e)
