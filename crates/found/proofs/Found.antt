-- 02, No. 13: "none" says that there is no model, a given model passes the model check, and no earlier assignment makes the schema true.
use Prim.Native.Nat.{ℕ, ◌≤◌}
use native.Mathlib.Omega.{arith}
use mathlib.Core.Path.{◌≡◌, refl, sym, ◌∙◌, ap, subst}
use mathlib.Core.Logic.Iff
use mathlib.Core.Logic.{◌↔◌}
use mathlib.Core.Bool.{true, false, true≢false}
use mathlib.Core.List.{List, [], Memᴰ}
use mathlib.Core.Option.{Option, none, some}
use lib.IntN.{ℤ, pos}
use lib.ListN.{length, replicate}
use Rattle.stab.specs.Basic.{nat}
use Rattle.stab.specs.Meaning.{Assignment, truth}
use Rattle.stab.specs.Model.{listed, check_model}
use Rattle.stab.specs.Occurs.{Wire, OccursIn, Ascends, table, listing}
use Rattle.stab.specs.Text.{padded}
use Rattle.std.specs.Prelude.{Ok, Err, Some, None}
use Rattle.stab.specs.Finding.{accept, refuse, no_refusal, Place, Finding}
use Rattle.stab.specs.declared.Refusal.{Refusal}
use Rattle.stab.proofs.Bools.{same_test}
use Rattle.stab.proofs.Texts.Outcomes.{padded_none}
use Rattle.stab.proofs.Wires.{occurring_exactly, occurring_ascends, same_listed, wires_accepted}
use Rattle.stab.proofs.Wires.Tables.{table_tests}
use Rattle.found.specs.Find.{Query, formula, wires, among, holds_with, first_model, find_refusal, model_or, found_by, find, model_pairs, given_by, given, found_table, Earlier}
use Rattle.found.specs.Number.{numbered}
use Rattle.found.proofs.Numbers.{first_found, first_none, numbered_length, numbered_mem, numbered_ascends, among_tests}
use Rattle.found.proofs.Assignments.{number_of, number_below, number_agrees, number_back, number_earlier}
use Rattle.found.proofs.Tables.{model_front}
use Rattle.found.proofs.Refusals.{find_clears, found_model, none_searched, none_given}

-- ---- every assignment is one of those that are tried

pub wires_ascend : (Q : Query) → Ascends (wires Q)
unfolding wires
wires_ascend Q = occurring_ascends (nat Q.n) (formula Q)

tried : (Q : Query) (σ : Assignment) → holds_with Q (numbered (wires Q) (number_of (wires Q) σ)) ≡ truth σ (nat Q.n) (formula Q)
unfolding holds_with wires
tried Q σ =
    same_listed (nat Q.n) (formula Q) _ σ (number_agrees (wires Q) (wires_ascend Q) σ)

-- the pairs chosen make the schema true, and no earlier assignment does
pub first_earliest : (Q : Query) (ws : List Wire) → first_model Q ≡ some ws → (truth (among ws) (nat Q.n) (formula Q) ≡ true) × ((τ : Assignment) → Earlier (wires Q) τ (among ws) → truth τ (nat Q.n) (formula Q) ≡ false)
unfolding holds_with
first_earliest Q ws h =
    let r = first_found Q ws h in
    let same : number_of (wires Q) (among ws) ≡ r.0 = ap (λ (vs : List Wire). number_of (wires Q) (among vs)) (sym r.2) ∙ number_back (wires Q) (wires_ascend Q) r.0 r.1 in (
      r.3,
      λ τ e. sym (tried Q τ) ∙ r.4 (number_of (wires Q) τ) (omega (arith, number_earlier (wires Q) τ (among ws) e, same)),
    )

-- ---- the answer

-- where nothing is turned away
searched_none : (Q : Query) → find_refusal Q ≡ no_refusal → (find Q ≡ (Ok None)) ↔ ((σ : Assignment) → truth σ (nat Q.n) (formula Q) ≡ false)
unfolding find found_by model_or
searched_none Q clear =
    let searched : find Q ≡ model_or Q.n (first_model Q) = ap (λ (x : Finding). found_by x Q) clear in
    Iff.trans (λ h. sym searched ∙ h, λ h. searched ∙ h) (go (first_model Q) refl)
  where
    go : (x : Option (List Wire)) → first_model Q ≡ x → (model_or Q.n x ≡ (Ok None)) ↔ ((σ : Assignment) → truth σ (nat Q.n) (formula Q) ≡ false)
    go none e = (λ h σ. sym (tried Q σ) ∙ first_none Q e (number_of (wires Q) σ) (number_below (wires Q) σ), λ h. refl)
    go (some ws) e = (
      λ h. let z : ◌≡◌ {A = ℕ} 0 1 = cc in absurd (omega arith),
      λ h. absurd (true≢false (sym (first_earliest Q ws e).0 ∙ h (among ws))),
    )

-- "'None' is given exactly when no assignment to all pairs at all indices makes it true at that n": and nothing is turned away
pub none_exactly : (Q : Query) → (find Q ≡ (Ok None)) ↔ ((find_refusal Q ≡ no_refusal) × ((σ : Assignment) → truth σ (nat Q.n) (formula Q) ≡ false))
none_exactly Q = (
  λ h. let clear = none_searched Q h in (clear, (searched_none Q clear).0 h),
  λ k. (searched_none Q k.0).1 k.1,
)

-- "give the first assignment in that order that makes the schema true": the given pairs make it true, and no earlier assignment does
pub nothing_earlier : (Q : Query) (n : ℤ) (k : ℕ) → find Q ≡ Ok (Some (record { n = n; pairs = k })) → (truth (among (given Q)) (nat Q.n) (formula Q) ≡ true) × ((τ : Assignment) → Earlier (wires Q) τ (among (given Q)) → truth τ (nat Q.n) (formula Q) ≡ false)
nothing_earlier Q n k h = first_earliest Q (given Q) (found_model Q n k h).1

-- ---- the lent table

zeros : (Q : Query) → given Q ≡ [] → found_table Q ≡ replicate Q.room (pos 0)
unfolding found_table table
zeros Q h = ap (λ (ws : List Wire). padded (pos 0) Q.room (table ws)) h ∙ padded_none (pos 0) Q.room

-- "Lent result memory is then all 0": after a refusal
pub refused_zeros : (Q : Query) (why : Refusal) (p : Place) → find_refusal Q ≡ refuse why p → found_table Q ≡ replicate Q.room (pos 0)
unfolding given
refused_zeros Q why p h = zeros Q (ap (λ (x : Finding). given_by x Q) h ∙ none_given Q why p)

-- and with "none"
pub none_zeros : (Q : Query) → find Q ≡ (Ok None) → found_table Q ≡ replicate Q.room (pos 0)
unfolding find found_by model_or given given_by model_pairs
none_zeros Q h = zeros Q (go (find_refusal Q) h)
  where
    searched : (x : Option (List Wire)) → model_or Q.n x ≡ (Ok None) → model_pairs x ≡ []
    searched none e = refl
    searched (some ws) e = let z : ◌≡◌ {A = ℕ} 0 1 = cc in absurd (omega arith)

    go : (x : Finding) → found_by x Q ≡ (Ok None) → given_by x Q ≡ []
    go (Ok u) e = searched (first_model Q) e
    go (Err r) e = none_given Q r.why r.place

-- ---- the model check

-- the given pairs are some of those that occur, ascending
given_wires : (Q : Query) (ws : List Wire) → first_model Q ≡ some ws → Ascends ws × (length ws ≤ length (wires Q)) × ((w : Wire) → Memᴰ w ws → OccursIn Q.schema (nat Q.n) w.symbol w.index)
unfolding wires formula
given_wires Q ws h =
    let r = first_found Q ws h in
    subst (λ (vs : List Wire). Ascends vs × (length vs ≤ length (wires Q)) × ((w : Wire) → Memᴰ w vs → OccursIn Q.schema (nat Q.n) w.symbol w.index)) r.2 (
      numbered_ascends (wires Q) r.0 (wires_ascend Q),
      numbered_length (wires Q) r.0,
      λ w m. (occurring_exactly (nat Q.n) (formula Q) w).0 (numbered_mem (wires Q) r.0 w m),
    )

-- what the table lists is what is true
listed_among : (ws : List Wire) (w : Wire) → listed (table ws) (length ws) w.symbol w.index ≡ among ws w.symbol w.index
listed_among ws w =
    same_test _ _ (λ h. (among_tests ws w).1 ((table_tests ws w).0 h)) (λ h. (table_tests ws w).1 ((among_tests ws w).0 h))

-- "A given model passes the model check": at the n that was asked for, with the table lent and the number of pairs given
pub model_passes : (Q : Query) (n : ℤ) (k : ℕ) → find Q ≡ Ok (Some (record { n = n; pairs = k })) → (n ≡ Q.n) × (check_model (listing Q.schema Q.n (found_table Q) k) ≡ accept 0 0)
unfolding found_table padded formula
model_passes Q n k h =
    let f = found_model Q n k h in
    let K = (find_clears Q).0 f.0 in
    let g = given_wires Q (given Q) f.1 in
    let true_there : truth (listed (table (given Q)) (length (given Q))) (nat Q.n) (formula Q) ≡ true = same_listed (nat Q.n) (formula Q) _ _ (λ w m. listed_among (given Q) w) ∙ (first_earliest Q (given Q) f.1).0 in
    let accepted = wires_accepted Q.schema Q.n K.schema_held K.row_limit K.formulas K.in_range (given Q) (omega (arith, g.1, K.wire_limit)) g.0 g.2 true_there in (
      f.2,
      model_front Q.schema Q.n (table (given Q)) _ k
          (subst (λ (j : ℕ). check_model (listing Q.schema Q.n (table (given Q)) j) ≡ accept 0 0) (sym f.3) accepted),
    )
