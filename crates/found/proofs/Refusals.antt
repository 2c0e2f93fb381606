-- Nothing is turned away exactly if the query keeps the limits, and what is found otherwise is a refusal.
use Prim.Native.Nat.{ℕ, ◌*◌, ◌≤◌}
use native.Mathlib.Omega.{arith}
use mathlib.Core.Path.{◌≡◌, refl, sym, ap}
use mathlib.Core.Logic.Iff
use mathlib.Core.Logic.{◌↔◌}
use mathlib.Core.Bool.{true}
use mathlib.Core.List.{List, []}
use mathlib.Core.Option.{Option, none, some}
use lib.IntN.{ℤ, pos}
use lib.ListN.{length}
use Rattle.stab.specs.Check.{holds, schema_refusal}
use Rattle.stab.specs.Keeps.{Within, KeepsSchema}
use Rattle.stab.specs.Occurs.{Wire}
use Rattle.std.specs.Prelude.{Err, Ok, Some, None}
use Rattle.stab.specs.declared.ModelHeader.{ModelHeader}
use Rattle.stab.specs.Finding.{refuse, no_refusal, Place, Finding}
use Rattle.stab.specs.declared.Refusal.{Refusal}
use Rattle.stab.specs.declared.Refusal.TheVariants.{TableTooShort, TooMany, Width, Wires}
use Rattle.stab.proofs.Tests.{◌&◌, le_tests, le_z_tests, ◌clears◌, whole_clears, at_clears, ◌then◌}
use Rattle.stab.proofs.Exactness.Formulas.{formulas_clears}
use Rattle.stab.proofs.Exactness.Refusals.{FindsNear, of_whole, of_at, ◌or_else◌, once, of_formulas}
use Rattle.found.specs.Find.{Query, wires, first_model, find_refusal, model_or, found_by, find, model_pairs, given_by, given}
use Rattle.found.proofs.Numbers.{first_found, numbered_length}

-- the limits
pub record Keeps (Q : Query) : Type 0 where
  pub table_held : 8192 ≤ Q.room
  pub schema_held : 4 * Q.schema.rows ≤ length Q.schema.table
  pub row_limit : Q.schema.rows ≤ 1024
  pub formulas : KeepsSchema Q.schema
  pub in_range : Within Q.schema.least (pos 9999) Q.n
  pub wire_limit : length (wires Q) ≤ 16

pub find_clears : (Q : Query) → find_refusal Q clears Keeps Q
unfolding find_refusal schema_refusal holds
find_clears Q =
    Iff.trans
    (at_clears TableTooShort 0 (le_tests 8192 Q.room) then
    whole_clears TableTooShort (le_tests (4 * Q.schema.rows) (length Q.schema.table)) then
    whole_clears TooMany (le_tests Q.schema.rows 1024) then
    formulas_clears _ Q.schema.rows Q.schema.rows Q.schema.root Q.schema.least then
    whole_clears Width (le_z_tests Q.schema.least Q.n & le_z_tests Q.n (pos 9999)) then
    whole_clears Wires (le_tests (length (wires Q)) 16)) (
      λ p. record {
        table_held = p.0;
        schema_held = p.1.0;
        row_limit = p.1.1.0;
        formulas = p.1.1.1.0;
        in_range = p.1.1.1.1.0;
        wire_limit = p.1.1.1.1.1;
      },
      λ k. (k.table_held, (k.schema_held, (k.row_limit, (k.formulas, (k.in_range, k.wire_limit))))),
    )

-- the place of a refusal is within the limits
pub find_near : (Q : Query) → FindsNear (find_refusal Q)
unfolding find_refusal schema_refusal
find_near Q =
    of_at _ _ 0 (omega arith) or_else
    of_whole _ _ or_else
    once (of_whole _ TooMany)
    (λ h.
    let few = (whole_clears TooMany (le_tests Q.schema.rows 1024)).0 h in
    of_formulas true _ Q.schema.rows Q.schema.rows Q.schema.root Q.schema.least (omega arith) or_else
    of_whole _ _ or_else
    of_whole _ _)

-- ---- what the answer says of the search

by_search : (Q : Query) (n : ℤ) (k : ℕ) (x : Option (List Wire)) → model_or Q.n x ≡ Ok (Some (record { n = n; pairs = k })) → (x ≡ some (model_pairs x)) × (n ≡ Q.n) × (k ≡ length (model_pairs x))
unfolding model_or model_pairs
by_search Q n k none h = let z : ◌≡◌ {A = ℕ} 0 1 = cc in absurd (omega arith)
by_search Q n k (some ws) h =
    let e : ◌≡◌ {A = ModelHeader} (record { n = Q.n; pairs = length ws }) (record { n = n; pairs = k }) = cc in
    (refl, sym (ap (λ (m : ModelHeader). m.n) e), sym (ap (λ (m : ModelHeader). m.pairs) e))

-- where a model is given, nothing was turned away and the search ended with the pairs that are given
pub found_model : (Q : Query) (n : ℤ) (k : ℕ) → find Q ≡ Ok (Some (record { n = n; pairs = k })) → (find_refusal Q ≡ no_refusal) × (first_model Q ≡ some (given Q)) × (n ≡ Q.n) × (k ≡ length (given Q))
unfolding find found_by given given_by
found_model Q n k h = go (find_refusal Q) h
  where
    go : (x : Finding) → found_by x Q ≡ Ok (Some (record { n = n; pairs = k })) → (x ≡ no_refusal) × (first_model Q ≡ some (given_by x Q)) × (n ≡ Q.n) × (k ≡ length (given_by x Q))
    go (Ok u) f = let s = by_search Q n k (first_model Q) f in (refl, s.0, s.1, s.2)
    go (Err r) f = let z : ◌≡◌ {A = ℕ} 0 1 = cc in absurd (omega arith)

-- a refusal is answered exactly if it is found
pub found_refused : (Q : Query) (why : Refusal) (p : Place) → (find Q ≡ refuse why p) ↔ (find_refusal Q ≡ refuse why p)
unfolding find found_by model_or
found_refused Q why p = (go (find_refusal Q), λ h. ap (λ (x : Finding). found_by x Q) h)
  where
    searched : (x : Option (List Wire)) → model_or Q.n x ≡ refuse why p → ⊥
    searched none e = let z : ◌≡◌ {A = ℕ} 0 1 = cc in omega arith
    searched (some ws) e = let z : ◌≡◌ {A = ℕ} 0 1 = cc in omega arith

    go : (x : Finding) → found_by x Q ≡ refuse why p → x ≡ refuse why p
    go (Ok u) e = absurd (searched (first_model Q) e)
    go (Err r) e = cc

-- "none" is answered only after a search
pub none_searched : (Q : Query) → find Q ≡ (Ok None) → find_refusal Q ≡ no_refusal
unfolding find found_by
none_searched Q h = go (find_refusal Q) h
  where
    go : (x : Finding) → found_by x Q ≡ (Ok None) → x ≡ no_refusal
    go (Ok u) e = refl
    go (Err r) e = let z : ◌≡◌ {A = ℕ} 0 1 = cc in absurd (omega arith)

-- no pair is given after a refusal
pub none_given : (Q : Query) (why : Refusal) (p : Place) → given_by (refuse why p) Q ≡ []
unfolding given_by
none_given Q why p = refl

-- at most 16 pairs are given, whatever is asked
pub given_few : (Q : Query) → length (given Q) ≤ 16
unfolding given given_by model_pairs
given_few Q = go (find_refusal Q) (find_clears Q).0
  where
    searched : Keeps Q → (x : Option (List Wire)) → first_model Q ≡ x → length (model_pairs x) ≤ 16
    searched keeps none e = omega arith
    searched keeps (some ws) e =
        let r = first_found Q ws e in
        omega (arith, keeps.wire_limit, numbered_length (wires Q) r.0, ap length r.2)

    go : (x : Finding) → (x ≡ no_refusal → Keeps Q) → length (given_by x Q) ≤ 16
    go (Ok u) keeps = searched (keeps refl) (first_model Q) refl
    go (Err r) keeps = omega (arith, ap length (none_given Q r.why r.place))
