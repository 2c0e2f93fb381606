-- What the search answers, by the pairs that occur and by the first number that passes.
use Prim.Native.Nat.{ℕ, ◌^◌, ◌≤◌, ◌<◌}
use native.Mathlib.Omega.{arith}
use native.Mathlib.Nat.{min-eq_left, min-eq_right}
use native.Mathlib.Decide.{dec_lt}
use mathlib.Core.Path.{◌≡◌, sym, ◌∙◌, ap}
use mathlib.Core.Bool.{Bool}
use mathlib.Core.List.{List, []}
use mathlib.Core.Option.{Option, none, some, map}
use lib.Dec.{leb}
use lib.IntN.{ℤ, pos}
use lib.ListN.{length, take}
use lib.Seq.{take_at}
use borrow.Author.Tests.{le-leb, lt-leb}
use Rattle.stab.specs.Formula.{row_at, tree}
use Rattle.stab.specs.Meaning.{truth}
use Rattle.stab.specs.Check.{whole_unless}
use Rattle.stab.specs.Occurs.{Wire, occurring, table}
use Rattle.stab.specs.Text.{padded}
use Rattle.std.specs.Prelude.{None}
use Rattle.stab.specs.Finding.{no_refusal, refuse, Place, Finding}
use Rattle.stab.specs.declared.Refusal.{Refusal}
use Rattle.stab.specs.declared.Refusal.TheVariants.{Wires}
use Rattle.stab.proofs.Bools.{if_true, nothing_unless, found_unless, otherwise_nothing, otherwise_found}
use Rattle.found.specs.Find.{Query, wires, among, first_model, find_refusal, model_or, found_by, find, model_pairs, given_by, given, found_table}
use Rattle.found.specs.Number.{numbered, least_below, least_or}
use Rattle.found.specs.Keys.{keys_of}
use Rattle.found.proofs.Numbers.{least_none, least_is, first_by_number}
use Rattle.occurring.specs.Held.{held_count, key_table}
use Rattle.occurring.proofs.Keys.{keys_length}
use Rattle.assigned.proofs.Searches.{Least, least_at}
use Rattle.find.specs.Search.{query_refusal, wires_refusal, search_answer, search_table, first_at}
use Rattle.find.proofs.Searches.{find_is}

-- ---- the pairs that are held

module _ (ws : List Wire) (count : ℕ) (e : count ≡ held_count ws) where
  pub held_few : count ≤ 16 → count ≡ length ws
  unfolding held_count
  held_few h = go (dec_lt 17 (length ws))
    where
      go : Dec (17 < length ws) → count ≡ length ws
      go (yes l) = absurd (omega (arith, e ∙ min-eq_left {n = 17} {m = length ws} (omega arith)))
      go (no l) = e ∙ min-eq_right {n = length ws} {m = 17} (omega arith)

  pub held_many : 16 < count → 16 < length ws
  unfolding held_count
  held_many h = go (dec_lt 16 (length ws))
    where
      go : Dec (16 < length ws) → 16 < length ws
      go (yes l) = l
      go (no l) = absurd (omega (arith, e ∙ min-eq_right {n = length ws} {m = 17} (omega arith)))

  pub held_keys : (keys : List ℕ) (room : ℕ) → keys ≡ key_table room ws → count ≤ 16 → take count keys ≡ keys_of ws
  unfolding key_table padded
  held_keys keys room k h =
      let long = held_few h in
      ap (take count) (k ∙ ap (padded 0 room) (if_true (leb (length ws) 16) _ _ (le-leb (length ws) 16 (omega arith))))
      ∙ take_at (keys_of ws) _ count (keys_length ws ∙ sym long)

-- ---- the first number

module _ (schema : List ℤ) (root n count r : ℕ) (long : count ≡ length (occurring n (tree (row_at schema) root)))
    (e : r ≡ least_or (least_below (λ m. truth (among (numbered (occurring n (tree (row_at schema) root)) m)) n (tree (row_at schema) root)) (2 ^ count)) (2 ^ count)) where
  ws : List Wire
  ws = occurring n (tree (row_at schema) root)

  passes : ℕ → Bool
  passes m = truth (among (numbered ws m)) n (tree (row_at schema) root)

  least : Least passes (2 ^ count) r
  unfolding passes ws
  least = least_at _ (2 ^ count) r e

  first_is : (x : Option ℕ) → least_below passes (2 ^ count) ≡ x → first_at schema root n ≡ map (numbered ws) x
  unfolding passes ws first_at
  first_is x h =
      first_by_number _ [] ws
      ∙ ap (λ (k : ℕ). map (numbered ws) (least_below passes (2 ^ k))) (sym long)
      ∙ ap (map (numbered ws)) h

  pub no_model_lem : r ≡ 2 ^ count → first_at schema root n ≡ none
  no_model_lem h = first_is none (least_none passes (2 ^ count) (λ m l. least.before m (omega arith)))

  pub some_model : (r ≡ 2 ^ count → ⊥) → first_at schema root n ≡ some (numbered (occurring n (tree (row_at schema) root)) r)
  unfolding ws
  some_model h =
      let l : r < 2 ^ count = omega (arith, least.end) in
      first_is (some r) (least_is passes (2 ^ count) r l (least.passes l) least.before)

-- ---- the answer

module _ (Q : Query) where
  over_refusal : 16 < length (wires Q) → wires_refusal Q ≡ refuse Wires None
  unfolding wires_refusal whole_unless
  over_refusal h = found_unless (leb (length (wires Q)) 16) _ _ (lt-leb (length (wires Q)) 16 h)

  few_refusal : length (wires Q) ≤ 16 → wires_refusal Q ≡ no_refusal
  unfolding wires_refusal whole_unless
  few_refusal h = nothing_unless (leb (length (wires Q)) 16) _ _ (le-leb (length (wires Q)) 16 h)

  pub answer_over : 16 < length (wires Q) → refuse Wires None ≡ search_answer Q
  unfolding found_by
  answer_over h = sym (ap (λ (x : Finding). found_by x Q) (over_refusal h))

  pub given_over : 16 < length (wires Q) → given_by (wires_refusal Q) Q ≡ []
  unfolding given_by
  given_over h = ap (λ (x : Finding). given_by x Q) (over_refusal h)

  module _ (h : length (wires Q) ≤ 16) (x : Option (List Wire)) (e : first_model Q ≡ x) where
    pub answer_few : model_or Q.n x ≡ search_answer Q
    unfolding found_by
    answer_few = sym (ap (λ (y : Finding). found_by y Q) (few_refusal h) ∙ ap (model_or Q.n) e)

    pub given_few : given_by (wires_refusal Q) Q ≡ model_pairs x
    unfolding given_by
    given_few = ap (λ (y : Finding). given_by y Q) (few_refusal h) ∙ ap model_pairs e

-- ---- the whole search

module _ (Q : Query) (f : Finding) (e : f ≡ query_refusal Q) where
  -- something is found before the pairs are counted
  module _ (why : Refusal) (p : Place) (h : f ≡ refuse why p) where
    refusal_is : find_refusal Q ≡ refuse why p
    refusal_is = find_is Q ∙ otherwise_found (query_refusal Q) (wires_refusal Q) (sym e ∙ h)

    pub refused_is : refuse why p ≡ find Q
    unfolding find found_by
    refused_is = sym (ap (λ (x : Finding). found_by x Q) refusal_is)

    pub refused_table : padded (pos 0) Q.room [] ≡ found_table Q
    unfolding found_table given given_by table
    refused_table = sym (ap (λ (x : Finding). padded (pos 0) Q.room (table (given_by x Q))) refusal_is)

  -- nothing is
  module _ (h : f ≡ no_refusal) where
    query_none : query_refusal Q ≡ no_refusal
    query_none = sym e ∙ h

    later_is : find_refusal Q ≡ wires_refusal Q
    later_is = find_is Q ∙ otherwise_nothing (query_refusal Q) (wires_refusal Q) query_none

    pub searched_is : search_answer Q ≡ find Q
    unfolding find
    searched_is = ap (λ (x : Finding). found_by x Q) (sym later_is)

    pub searched_table : search_table Q ≡ found_table Q
    unfolding found_table given
    searched_table = ap (λ (x : Finding). padded (pos 0) Q.room (table (given_by x Q))) (sym later_is)
