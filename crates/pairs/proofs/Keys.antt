-- The order of pairs in range is the order of their keys.
use Rattle.std.specs.Prelude.{if◌then◌else◌, Some}
use Prim.Native.Nat.{ℕ, zero, suc, ◌+◌, ◌-◌, ◌*◌, ◌^◌, ◌<◌, ◌≤◌}
use native.Mathlib.Omega.{arith}
use native.Mathlib.Numerals.{add-one, sub-one}
use mathlib.Core.Path.{◌≡◌, refl, sym, ◌∙◌, ap, ap₂, subst}
use mathlib.Core.Logic.{⊎_elim}
use mathlib.Core.Bool.{Bool, true, false}
use mathlib.Core.List.{List}
use lib.Dec.{ltb, eqb}
use lib.IntN.{ℤ, pos, neg_ℤ, ◌+ℤ◌}
use lib.Signed.{le_z, lt_z}
use borrow.Author.Tests.{ltb-true, ltb-false, lt-ltb, le-ltb, eqb-true, eq-eqb, ne_eqb}
use Rattle.stab.specs.Basic.{◌and◌, eq_z, nat, within, count, scan}
use Rattle.stab.specs.Model.{pair_symbol, pair_index, pair_in_range, pair_before, pair_follows, pair_refusal, is_pair, listed}
use Rattle.stab.specs.Check.{at_unless}
use Rattle.stab.specs.Finding.{no_refusal, refuse}
use Rattle.stab.specs.declared.Refusal.TheVariants.{Pair}
use Rattle.stab.proofs.Bools.{and_left, and_right, and_both, or_cases, or_left, or_right, or_false, if_true, if_false, decide, same_test, nothing_unless, unless_nothing, found_unless, or_first_false}
use Rattle.stab.proofs.Whole.{atom, num, ◌⊕◌, ◌⊖◌, lt_of, of_lt, of_not_lt, of_eq, plus_nat, nat_pos, eq_z_true, eq_z_of, minus_nat}
use Rattle.stab.proofs.Scans.{below_suc, nothing_scan, scan_more, scan_found}
use Rattle.pairs.specs.Index.{unbiased}
use Rattle.pairs.specs.Pairs.{AllInRange, Sorted, key_at, keys_below}
use Rattle.pairs.specs.Word.{word_at}
use Rattle.pairs.proofs.Words.{word_same, word_none, word_set}
use Rattle.pairs.proofs.Parts.{within_under, within_nat, biased_parts, unbiased_of}

-- ---- two pairs, by numbers

unbiased_same : (x y : ℕ) → unbiased x ≡ unbiased y → x ≡ y
unfolding unbiased
unbiased_same x y e = omega (arith, of_eq (num x ⊖ num 65536) (num y ⊖ num 65536) e)

unbiased_less : (x y : ℕ) → lt_z (unbiased x) (unbiased y) ≡ true → x < y
unfolding unbiased
unbiased_less x y h = omega (arith, of_lt (num x ⊖ num 65536) (num y ⊖ num 65536) h)

less_unbiased : (x y : ℕ) → x < y → lt_z (unbiased x) (unbiased y) ≡ true
unfolding unbiased
less_unbiased x y h = lt_of (num x ⊖ num 65536) (num y ⊖ num 65536) (omega arith)

module _ (a x b y : ℕ) (p : x < 131072) (q : y < 131072) where
  before_less : pair_before (pos a) (unbiased x) (pos b) (unbiased y) ≡ true → a * 131072 + x < b * 131072 + y
  unfolding pair_before
  before_less h =
      ⊎_elim
      (λ l. omega (arith, ltb-true a b l))
      (λ e. omega (arith, of_eq (num a) (num b) (eq_z_true (pos a) (pos b) (and_left (eq_z (pos a) (pos b)) (lt_z (unbiased x) (unbiased y)) e)), unbiased_less x y (and_right (eq_z (pos a) (pos b)) _ e)))
      (or_cases (lt_z (pos a) (pos b)) (eq_z (pos a) (pos b) and lt_z (unbiased x) (unbiased y)) h)

  less_before : a * 131072 + x < b * 131072 + y → pair_before (pos a) (unbiased x) (pos b) (unbiased y) ≡ true
  unfolding pair_before
  less_before h =
      ⊎_elim
      (λ l. or_left (lt_z (pos a) (pos b)) _ l)
      (λ l.
      let m = of_not_lt (num a) (num b) l in
      or_right (lt_z (pos a) (pos b)) _
      (and_both (eq_z (pos a) (pos b)) _ (eq_z_of (pos a) (pos b) (ap pos (omega arith))) (less_unbiased x y (omega arith))))
      (decide (lt_z (pos a) (pos b)))

  -- one pair stands before another
  pub before_is : pair_before (pos a) (unbiased x) (pos b) (unbiased y) ≡ ltb (a * 131072 + x) (b * 131072 + y)
  before_is =
      same_test _ _
      (λ h. lt-ltb (a * 131072 + x) (b * 131072 + y) (before_less h))
      (λ h. less_before (ltb-true (a * 131072 + x) (b * 131072 + y) h))

  -- two pairs are one
  pub same_is : (eq_z (pos a) (pos b) and eq_z (unbiased x) (unbiased y)) ≡ eqb (a * 131072 + x) (b * 131072 + y)
  same_is =
      same_test _ _
      (λ h. eq-eqb (a * 131072 + x) (b * 131072 + y) (omega (arith, of_eq (num a) (num b) (eq_z_true (pos a) (pos b) (and_left _ (eq_z (unbiased x) (unbiased y)) h)), unbiased_same x y (eq_z_true _ _ (and_right (eq_z (pos a) (pos b)) _ h)))))
      (λ h.
      let e = eqb-true (a * 131072 + x) (b * 131072 + y) h in
      and_both (eq_z (pos a) (pos b)) _ (eq_z_of (pos a) (pos b) (ap pos (omega arith))) (eq_z_of _ _ (ap unbiased (omega arith))))

-- ---- the pairs of a table

module _ (t : List ℤ) (k : ℕ) (h : pair_in_range t k ≡ true) where
  symbol_within : within (pos 0) (pos 255) (pair_symbol t k) ≡ true
  unfolding pair_in_range
  symbol_within = and_left (within (pos 0) (pos 255) (pair_symbol t k)) _ h

  index_within : within (neg_ℤ (pos 29997)) (pos 29997) (pair_index t k) ≡ true
  unfolding pair_in_range
  index_within = and_right (within (pos 0) (pos 255) (pair_symbol t k)) _ h

  pub symbol_small : nat (pair_symbol t k) ≤ 255
  symbol_small = within_nat 0 255 (pair_symbol t k) symbol_within

  pub index_near : nat (neg_ℤ (pair_index t k)) ≤ 29997
  index_near = within_under 29997 29997 (pair_index t k) index_within

  pub index_high : nat (pair_index t k) ≤ 29997
  index_high = within_nat 29997 29997 (pair_index t k) index_within

  symbol_is : pair_symbol t k ≡ pos (nat (pair_symbol t k))
  unfolding within
  symbol_is = sym (nat_pos (pair_symbol t k) (and_left (le_z (pos 0) (pair_symbol t k)) _ symbol_within))

  index_is : pair_index t k ≡ unbiased (nat (pair_index t k +ℤ pos 65536))
  index_is = unbiased_of (pair_index t k) (omega (arith, index_near))

  index_small : nat (pair_index t k +ℤ pos 65536) < 131072
  index_small = omega (arith, index_near, index_high, biased_parts (pair_index t k) (omega (arith, index_near)))

  -- what the code reads of pair k
  pub key_from : (a x : ℕ) → a ≡ nat (pair_symbol t k) → unbiased x ≡ (unbiased 65536 +ℤ pair_index t k) → a * 131072 + x ≡ key_at t k
  unfolding key_at unbiased
  key_from a x p q =
      omega (arith, of_eq (num x ⊖ num 65536) (num 65536 ⊖ num 65536 ⊕ atom (pair_index t k)) q, biased_parts (pair_index t k) (omega (arith, index_near)), plus_nat (pair_index t k), minus_nat (pair_index t k))

  pub key_small : key_at t k < 256 * 131072
  unfolding key_at
  key_small = omega (arith, symbol_small, index_small)

-- pair k is the pair of s and i
pub pair_is : (t : List ℤ) (k a x : ℕ) → pair_in_range t k ≡ true → x < 131072 → is_pair t (pos a) (unbiased x) k ≡ eqb (key_at t k) (a * 131072 + x)
unfolding is_pair key_at
pair_is t k a x h p =
    ap₂ (λ (s i : ℤ). eq_z s (pos a) and eq_z i (unbiased x)) (symbol_is t k h) (index_is t k h)
    ∙ same_is (nat (pair_symbol t k)) (nat (pair_index t k +ℤ pos 65536)) a x (index_small t k h) p

-- pair k + 1 follows pair k
pub follows_is : (t : List ℤ) (k : ℕ) → pair_in_range t k ≡ true → pair_in_range t (suc k) ≡ true → pair_follows t (suc k) ≡ ltb (key_at t k) (key_at t (suc k))
unfolding pair_follows key_at
follows_is t k h p =
    ap₂ (λ (s i : ℤ). pair_before s i (pair_symbol t (suc k)) (pair_index t (suc k))) (symbol_is t k h) (index_is t k h)
    ∙ ap₂ (pair_before _ _) (symbol_is t (suc k) p) (index_is t (suc k) p)
    ∙ before_is _ _ _ _ (index_small t k h) (index_small t (suc k) p)

-- keys ascend
pub key_less : (t : List ℤ) (n : ℕ) → Sorted t n → (k l : ℕ) → k < l → l < n → key_at t k < key_at t l
key_less t n s k zero p q = absurd (omega arith)
key_less t n s k (suc l) p q =
    let step = ltb-true (key_at t l) (key_at t (suc l)) (sym (follows_is t l (s.in_range l (omega arith)) (s.in_range (suc l) q)) ∙ s.follows (suc l) q) in
    ⊎_elim
    (λ b. omega (arith, step, key_less t n s k l b (omega arith)))
    (λ e. subst (λ (m : ℕ). key_at t m < key_at t (suc l)) (sym e) step)
    (below_suc k l p)

pub key_rises : (t : List ℤ) (n : ℕ) → Sorted t n → (k l : ℕ) → k ≤ l → l < n → key_at t k ≤ key_at t l
key_rises t n s k l p q =
    ⊎_elim (λ b. omega (arith, key_less t n s k l b q)) (λ e. omega (arith, ap (key_at t) e)) (below_suc k l (omega arith))

-- ---- the list

pub listed_at : (t : List ℤ) (n : ℕ) (s i : ℤ) (k : ℕ) → k < n → is_pair t s i k ≡ true → listed t n s i ≡ true
unfolding listed
listed_at t zero s i k p h = absurd (omega arith)
listed_at t (suc n) s i k p h =
    ⊎_elim
    (λ q. or_right (is_pair t s i n) _ (listed_at t n s i k q h))
    (λ e. or_left (is_pair t s i n) _ (subst (λ (m : ℕ). is_pair t s i m ≡ true) e h))
    (below_suc k n p)

pub listed_none : (t : List ℤ) (n : ℕ) (s i : ℤ) → ((k : ℕ) → k < n → is_pair t s i k ≡ false) → listed t n s i ≡ false
unfolding listed
listed_none t zero s i h = refl
listed_none t (suc n) s i h = or_false (is_pair t s i n) _ (h n (omega arith)) (listed_none t n s i (λ k p. h k (omega arith)))

-- no pair from k on is the pair of s and i
pub listed_stop : (t : List ℤ) (k n : ℕ) (s i : ℤ) → k ≤ n → ((l : ℕ) → k ≤ l → l < n → is_pair t s i l ≡ false) → listed t k s i ≡ listed t n s i
unfolding listed
listed_stop t k zero s i p h =
    let e : k ≡ 0 = omega arith in
    ap (λ (m : ℕ). listed t m s i) e
listed_stop t k (suc n) s i p h =
    ⊎_elim
    (λ q. listed_stop t k n s i (omega arith) (λ l u v. h l u (omega arith)) ∙ sym (or_first_false (is_pair t s i n) _ (h n (omega arith) (omega arith))))
    (λ e. ap (λ (m : ℕ). listed t m s i) e)
    (below_suc k (suc n) (omega arith))

-- ---- the search

-- where the keys reach `key`, of lo .. hi
pub record Bracket (t : List ℤ) (n key lo hi : ℕ) : Type 0 where
  pub order : lo ≤ hi
  pub end : hi ≤ n
  pub below : (k : ℕ) → k < lo → key_at t k < key
  pub above : (k : ℕ) → hi ≤ k → k < n → key ≤ key_at t k

pub bracket_start : (t : List ℤ) (n key : ℕ) → Bracket t n key 0 n
bracket_start t n key =
    record { order = omega arith; end = omega arith; below = λ k p. absurd (omega arith); above = λ k p q. absurd (omega arith) }

module _ (t : List ℤ) (n key lo hi : ℕ) (s : Sorted t n) (b : Bracket t n key lo hi) (m : ℕ) (p : m < hi) where
  pub bracket_up : lo ≤ m → key_at t m < key → Bracket t n key (m + 1) hi
  bracket_up l h =
      record {
        order = omega arith;
        end = b.end;
        below = λ k q. ⊎_elim (λ r. omega (arith, key_less t n s k m r (omega (arith, b.end)))) (λ e. subst (λ (j : ℕ). key_at t j < key) (sym e) h) (below_suc k m (omega arith));
        above = b.above;
      }

  pub bracket_down : lo ≤ m → key ≤ key_at t m → Bracket t n key lo m
  bracket_down l h =
      record {
        order = l;
        end = omega (arith, b.end);
        below = b.below;
        above = λ k q r. ⊎_elim (λ u. omega (arith, key_less t n s m k u r)) (λ e. subst (λ (j : ℕ). key ≤ key_at t j) e h) (below_suc m k (omega arith));
      }

-- what passes stands first
count_first : (p : ℕ → Bool) (r n : ℕ) → r ≤ n → ((k : ℕ) → k < r → p k ≡ true) → ((k : ℕ) → r ≤ k → k < n → p k ≡ false) → r ≡ count p n
unfolding count
count_first p r zero l f g = omega arith
count_first p r (suc n) l f g =
    ⊎_elim
    (λ (m : r < suc n). count_first p r n (omega arith) f (λ k u v. g k u (omega arith)) ∙ sym (if_false (p n) _ _ (g n (omega arith) (omega arith))))
    (λ (e : r ≡ suc n).
    e
    ∙ ap suc (count_first p n n (omega arith) (λ k u. f k (omega arith)) (λ k u v. absurd (omega arith)))
    ∙ sym (if_true (p n) _ _ (f n (omega arith))))
    (below_suc r (suc n) (omega arith))

pub bracket_end : (t : List ℤ) (n key lo hi : ℕ) → Bracket t n key lo hi → hi ≤ lo → lo ≡ keys_below t n key
unfolding keys_below
bracket_end t n key lo hi b l =
    count_first (λ k. ltb (key_at t k) key) lo n (omega (arith, b.order, b.end))
    (λ k p. lt-ltb (key_at t k) key (b.below k p))
    (λ k p q. le-ltb (key_at t k) key (b.above k (omega arith) q))

-- of the first n pairs, those before pair r have a smaller key, the others do not
pub record Parted (t : List ℤ) (n key r : ℕ) : Type 0 where
  pub end : r ≤ n
  pub below : (k : ℕ) → k < r → key_at t k < key
  pub above : (k : ℕ) → r ≤ k → k < n → key ≤ key_at t k

sorted_less : (t : List ℤ) (n : ℕ) → Sorted t (suc n) → Sorted t n
sorted_less t n s = record { in_range = λ k p. s.in_range k (omega arith); follows = λ k p. s.follows k (omega arith) }

parted_more : (t : List ℤ) (n key r : ℕ) (v : Bool) → Sorted t (suc n) → Parted t n key r → ltb (key_at t n) key ≡ v → Parted t (suc n) key (if v then suc r else r)
parted_more t n key r true s b e =
    let here : key_at t n < key = ltb-true (key_at t n) key e in
    let all : r ≡ n =
    ⊎_elim
    (λ (l : r < n). absurd (omega (arith, b.above r (omega arith) l, key_less t (suc n) s r n l (omega arith))))
    (λ (l : r ≡ n). l)
    (below_suc r n (omega (arith, b.end)))
    in
    record {
      end = omega arith;
      below = λ k p. omega (arith, key_rises t (suc n) s k n (omega arith) (omega arith));
      above = λ k p q. absurd (omega arith);
    }
parted_more t n key r false s b e =
    record {
      end = omega (arith, b.end);
      below = b.below;
      above = λ k p q. ⊎_elim (λ l. b.above k p l) (λ l. omega (arith, ltb-false (key_at t n) key e, ap (key_at t) l)) (below_suc k n q);
    }

pub keys_parted : (t : List ℤ) (n key : ℕ) → Sorted t n → Parted t n key (keys_below t n key)
unfolding keys_below count
keys_parted t zero key s =
    record { end = omega arith; below = λ k p. absurd (omega arith); above = λ k p q. absurd (omega arith) }
keys_parted t (suc n) key s = parted_more t n key _ _ s (keys_parted t n key (sorted_less t n s)) refl

-- ---- the walk from there on

module _ (t : List ℤ) (n a x w : ℕ) (s : Sorted t n) (q : x + w ≤ 131072) where
  -- pair k is that of the symbol a and what x + j stands for
  pair_at_lem : (k j : ℕ) → k < n → j < w → is_pair t (pos a) (unbiased (x + j)) k ≡ eqb (key_at t k) (a * 131072 + (x + j))
  pair_at_lem k j p l = pair_is t k a (x + j) (s.in_range k p) (omega arith)

  not_at : (k j : ℕ) → k < n → j < w → (key_at t k ≡ a * 131072 + (x + j) → ⊥) → is_pair t (pos a) (unbiased (x + j)) k ≡ false
  not_at k j p l f = pair_at_lem k j p l ∙ ne_eqb (key_at t k) (a * 131072 + (x + j)) f

  pub walk_start : (k : ℕ) → Parted t n (a * 131072 + x) k → 0 ≡ word_at (listed t k (pos a)) x w
  unfolding word_at
  walk_start k b =
      sym
      (word_same _ (λ j. false) w
      (λ j l. listed_none t k (pos a) (unbiased (x + j)) (λ m p. not_at m j (omega (arith, b.end)) l (λ e. omega (arith, b.below m p))))
      ∙ word_none w)

  pub walk_more : (k : ℕ) → k < n → a * 131072 + x ≤ key_at t k → key_at t k < a * 131072 + x + w → word_at (listed t (k + 1) (pos a)) x w ≡ word_at (listed t k (pos a)) x w + 2 ^ (key_at t k - (a * 131072 + x))
  unfolding word_at listed
  walk_more k p l h =
      let d = key_at t k - (a * 131072 + x) in
      let here : key_at t k ≡ a * 131072 + (x + d) = omega arith in
      ap (λ (m : ℕ). word_at (listed t m (pos a)) x w) (add-one k)
      ∙ word_set (λ j. listed t k (pos a) (unbiased (x + j))) (λ j. listed t (suc k) (pos a) (unbiased (x + j))) w d (omega arith)
      (listed_none t k (pos a) (unbiased (x + d)) (λ m u. not_at m d (omega arith) (omega arith) (λ e. omega (arith, key_less t n s m k u p))))
      (listed_at t (suc k) (pos a) (unbiased (x + d)) k (omega arith) (pair_at_lem k d p (omega arith) ∙ eq-eqb (key_at t k) (a * 131072 + (x + d)) here))
      (λ j u f. sym (or_first_false (is_pair t (pos a) (unbiased (x + j)) k) _ (not_at k j p u (λ e. f (omega arith)))))

  pub walk_end : (k : ℕ) → k ≤ n → ((l : ℕ) → k ≤ l → l < n → a * 131072 + x + w ≤ key_at t l) → word_at (listed t k (pos a)) x w ≡ word_at (listed t n (pos a)) x w
  unfolding word_at
  walk_end k p h =
      word_same _ _ w
      (λ j l. listed_stop t k n (pos a) (unbiased (x + j)) p (λ m u v. not_at m j v l (λ e. omega (arith, h m u v))))

-- ---- the pass over the pairs

pair_none : (t : List ℤ) (k : ℕ) → (pair_in_range t k and pair_follows t k) ≡ true → pair_refusal t k ≡ no_refusal
unfolding pair_refusal at_unless
pair_none t k h = nothing_unless _ _ _ h

none_pair : (t : List ℤ) (k : ℕ) → pair_refusal t k ≡ no_refusal → (pair_in_range t k and pair_follows t k) ≡ true
unfolding pair_refusal at_unless
none_pair t k h = unless_nothing _ _ _ h

pair_some : (t : List ℤ) (k : ℕ) → (pair_in_range t k and pair_follows t k) ≡ false → pair_refusal t k ≡ refuse Pair (Some k)
unfolding pair_refusal at_unless
pair_some t k h = found_unless _ _ _ h

-- pairs that are not turned away are sorted
pub scan_sorted : (t : List ℤ) (n : ℕ) → scan (pair_refusal t) n ≡ no_refusal → Sorted t n
scan_sorted t n h =
    record {
      in_range = λ k p. and_left (pair_in_range t k) _ (none_pair t k (nothing_scan (pair_refusal t) n h k p));
      follows = λ k p. and_right (pair_in_range t k) _ (none_pair t k (nothing_scan (pair_refusal t) n h k p));
    }

pub pairs_more : (t : List ℤ) (k : ℕ) → scan (pair_refusal t) k ≡ no_refusal → (pair_in_range t k and pair_follows t k) ≡ true → scan (pair_refusal t) (k + 1) ≡ no_refusal
pairs_more t k h p = scan_more (pair_refusal t) k h (pair_none t k p)

pub pairs_found : (t : List ℤ) (n k : ℕ) → k < n → scan (pair_refusal t) k ≡ no_refusal → (pair_in_range t k and pair_follows t k) ≡ false → scan (pair_refusal t) n ≡ refuse Pair (Some k)
pairs_found t n k l h p = scan_found (pair_refusal t) n k l h (pair_some t k p)

-- one more pair in range
pub in_range_more : (t : List ℤ) (k : ℕ) → AllInRange t k → pair_in_range t k ≡ true → AllInRange t (k + 1)
in_range_more t k h p l q = ⊎_elim (λ r. h l r) (λ e. subst (λ (m : ℕ). pair_in_range t m ≡ true) (sym e) p) (below_suc l k (omega arith))

-- pair k follows, by keys
pub follows_first : (t : List ℤ) (k : ℕ) → k ≡ 0 → pair_follows t k ≡ true
unfolding pair_follows
follows_first t zero h = refl
follows_first t (suc k) h = absurd (omega arith)

pub follows_key : (t : List ℤ) (k : ℕ) → (k ≡ 0 → ⊥) → AllInRange t (k + 1) → pair_follows t k ≡ ltb (key_at t (k - 1)) (key_at t k)
follows_key t zero h a = absurd (h refl)
follows_key t (suc k) h a = follows_is t k (a k (omega arith)) (a (suc k) (omega arith)) ∙ ap (λ (j : ℕ). ltb (key_at t j) (key_at t (suc k))) (sym (sub-one (suc k)))
