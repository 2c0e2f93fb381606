-- The least number that passes, and the assignment of a number by the keys of the pairs that occur.
use Prim.Native.Nat.{ℕ, zero, suc, ◌+◌, ◌-◌, ◌<◌, ◌≤◌}
use native.Mathlib.Omega.{arith}
use native.Mathlib.Decide.{dec_lt}
use mathlib.Core.Path.{◌≡◌, refl, sym, ◌∙◌, ap, subst}
use mathlib.Core.Logic.{⊎_elim}
use mathlib.Core.Bool.{Bool, true, false, true≢false}
use mathlib.Core.List.Memᴰ
use mathlib.Core.List.{List, [], ◌∷◌, Memᴰ}
use mathlib.Core.Option.{Option}
use lib.IntN.{pos}
use lib.ListN.{length, get_or}
use borrow.Author.Tests.{ltb-true, eq-eqb, ne_eqb}
use Rattle.stab.specs.Formula.{Row, tree, size, depth, small_enough}
use Rattle.stab.specs.Meaning.{truth}
use Rattle.stab.specs.Model.{pair_before}
use Rattle.stab.specs.Keeps.{KeepsRow}
use Rattle.stab.specs.Occurs.{Wire, wire_before, occurring, Before, Ascends}
use Rattle.stab.proofs.Bools.{decide, if_true, if_false}
use Rattle.stab.proofs.Whole.{of_le_z}
use Rattle.stab.proofs.Scans.{below_suc}
use Rattle.stab.proofs.Tests.{◌&◌, or_tests, lt_z_tests, eq_z_tests, le_tests, within_tests}
use Rattle.stab.proofs.Formed.{formed_tests}
use Rattle.stab.proofs.Wires.{occurring_exactly, occurring_ascends, same_listed}
use Rattle.stab.proofs.Wires.Limits.{limited, occurs_within}
use Rattle.formula.specs.Rows.{Passed}
use Rattle.found.specs.Find.{among}
use Rattle.found.specs.Keys.{key_of, keys_of}
use Rattle.found.specs.Number.{numbered, least_below, least_or}
use Rattle.found.proofs.Numbers.{least_none, least_is, mem_get_d, numbered_among}
use Rattle.occurring.proofs.Keys.{AllNear, before_keys, keys_length}
use Rattle.assigned.specs.Words.{digit}
use Rattle.assigned.specs.Assignments.{keyed}

-- ---- the least number below k that passes, or k

pub record Least (p : ℕ → Bool) (k r : ℕ) : Type 0 where
  pub end : r ≤ k
  pub passes : r < k → p r ≡ true
  pub before : (j : ℕ) → j < r → p j ≡ false

pub least_of : (p : ℕ → Bool) (k r : ℕ) → Least p k r → r ≡ least_or (least_below p k) k
unfolding least_or
least_of p k r h = go (dec_lt r k)
  where
    go : Dec (r < k) → r ≡ least_or (least_below p k) k
    go (yes l) = sym (ap (λ (x : Option ℕ). least_or x k) (least_is p k r l (h.passes l) h.before))
    go (no l) =
        let e : r ≡ k = omega (arith, h.end) in
        e ∙ sym (ap (λ (x : Option ℕ). least_or x k) (least_none p k (λ j q. h.before j (omega arith))))

-- where the least number below k, or k, does not pass, it is k
is_end : (p : ℕ → Bool) (k r : ℕ) → Least p k r → p r ≡ false → r ≡ k
is_end p k r h f = go (dec_lt r k)
  where
    go : Dec (r < k) → r ≡ k
    go (yes l) = absurd (true≢false (sym (h.passes l) ∙ f))
    go (no l) = omega (arith, h.end)

-- there is one
least : (p : ℕ → Bool) (k : ℕ) → (r : ℕ) × Least p k r
least p zero = (0, record { end = omega arith; passes = λ l. absurd (omega arith); before = λ j l. absurd (omega arith) })
least p (suc k) = go (least p k)
  where
    go : (r : ℕ) × Least p k r → (r : ℕ) × Least p (suc k) r
    go (r, h) =
        ⊎_elim
        (λ (t : p r ≡ true). (r, record { end = omega (arith, h.end); passes = λ l. t; before = h.before }))
        (λ (f : p r ≡ false). (
          suc k,
          record {
            end = omega arith;
            passes = λ l. absurd (omega arith);
            before = λ j l. ⊎_elim (λ (q : j < k). h.before j (omega (arith, is_end p k r h f))) (λ (q : j ≡ k). ap p (q ∙ sym (is_end p k r h f)) ∙ f) (below_suc j k l);
          },
        ))
        (decide (p r))

pub least_at : (p : ℕ → Bool) (k r : ℕ) → r ≡ least_or (least_below p k) k → Least p k r
least_at p k r e = subst (Least p k) (least_of p k (least p k).0 (least p k).1 ∙ sym e) (least p k).1

-- ---- pairs that occur

-- one pair stands before another
before_true : (w x : Wire) → Before w x → wire_before w x ≡ true
unfolding wire_before pair_before
before_true w x h = (or_tests (lt_z_tests w.symbol x.symbol) (eq_z_tests w.symbol x.symbol & lt_z_tests w.index x.index)).1 h

module _ (rows : ℕ → Row) (facts : List ℕ) (r n : ℕ) (passed : Passed rows facts (r + 1)) (h : n ≤ 9999) where
  keeps : (a : ℕ) → a < r + 1 → KeepsRow rows a
  unfolding small_enough
  keeps a l =
      let small = (le_tests (size (tree rows a)) 4096 & le_tests (depth (tree rows a)) 64).0 (passed.small a l) in
      record { formed = (formed_tests rows a).0 (passed.formed a l); small = small.0; flat = small.1 }

  pub near : AllNear (occurring n (tree rows r))
  near w m =
      let range = occurs_within n h (tree rows r) (limited rows (r + 1) keeps r (omega arith)) (pos 0) _ _ (of_le_z refl, of_le_z refl) ((occurring_exactly n (tree rows r) w).0 m) in
      record { symbol = (within_tests _ _ _).1 range.0; index = (within_tests _ _ _).1 range.1 }

-- ---- their values by keys

-- the value of the k-th pair is the number's digit
key_digit : (ws : List Wire) → Ascends ws → AllNear ws → (m k : ℕ) (d : Wire) → k < length ws → keyed (keys_of ws) m (get_or ws k d).symbol (get_or ws k d).index ≡ digit m (length ws - 1 - k)
unfolding keyed keys_of key_of
key_digit [] up all m k d l = absurd (omega arith)
key_digit (w ∷ ws) up all m zero d l =
    if_true _ _ _ (eq-eqb (key_of w) (key_of w) refl) ∙ ap (digit m) (omega (arith, keys_length ws))
key_digit (w ∷ ws) up all m (suc k) d l =
    let x = get_or ws k d in
    let there = mem_get_d ws k d (omega arith) in
    let less : key_of w < key_of x = ltb-true _ _ (sym (before_keys w x (all w (Memᴰ.head refl)) (all x (Memᴰ.tail there))) ∙ before_true w x (up.0 x there)) in
    if_false _ _ _ (ne_eqb (key_of w) (key_of x) (λ e. omega arith))
    ∙ key_digit ws up.1 (λ y q. all y (Memᴰ.tail q)) m k d (omega arith)
    ∙ ap (digit m) (omega arith)

place_of_lem : (ws : List Wire) (w : Wire) → Memᴰ w ws → (k : ℕ) × (k < length ws) × (get_or ws k w ≡ w)
place_of_lem [] w m = absurd (Memᴰ.not-nil m)
place_of_lem (x ∷ ws) w m =
    ⊎_elim
    (λ e. (0, omega arith, sym e))
    (λ q. let there = place_of_lem ws w q in (suc there.0, omega (arith, there.1), there.2))
    (Memᴰ.cases_cons m)

-- the value at a number, by keys and by pairs
module _ (rows : ℕ → Row) (facts : List ℕ) (r n : ℕ) (passed : Passed rows facts (r + 1)) (h : n ≤ 9999) where
  pub keyed_truth : (m : ℕ) → truth (keyed (keys_of (occurring n (tree rows r))) m) n (tree rows r) ≡ truth (among (numbered (occurring n (tree rows r)) m)) n (tree rows r)
  unfolding digit
  keyed_truth m =
      let ws = occurring n (tree rows r) in
      let up = occurring_ascends n (tree rows r) in
      same_listed n (tree rows r) _ _
      (λ w q.
      let there = place_of_lem ws w q in
      subst (λ (x : Wire). keyed (keys_of ws) m x.symbol x.index ≡ among (numbered ws m) x.symbol x.index) there.2
      (key_digit ws up (near rows facts r n passed h) m there.0 w there.1 ∙ sym (numbered_among ws up m there.0 w there.1)))

-- ---- block after block

-- nothing below m passes, and the least of the next `size` numbers that passes, or the end of the block, is m + r
module _ (p block : ℕ → Bool) (m size r : ℕ) (none_before : (i : ℕ) → i < m → p i ≡ false) (same : (j : ℕ) → j < size → block j ≡ p (m + j)) (h : Least block size r) where
  pub block_before : (i : ℕ) → i < m + r → p i ≡ false
  block_before i l = go (dec_lt i m)
    where
      go : Dec (i < m) → p i ≡ false
      go (yes q) = none_before i q
      go (no q) =
          let e : i ≡ m + (i - m) = omega arith in
          ap p e ∙ sym (same (i - m) (omega (arith, h.end))) ∙ h.before (i - m) (omega arith)

  pub block_found : (total : ℕ) → r < size → m + r < total → m + r ≡ least_or (least_below p total) total
  block_found total l q =
      least_of p total (m + r)
      (record { end = omega arith; passes = λ _. sym (same r l) ∙ h.passes l; before = block_before })

pub none_below : (p : ℕ → Bool) (m total : ℕ) → ((i : ℕ) → i < m → p i ≡ false) → total ≤ m → total ≡ least_or (least_below p total) total
none_below p m total h l =
    least_of p total total
    (record { end = omega arith; passes = λ q. absurd (omega arith); before = λ i q. h i (omega arith) })
