-- Laws of a hash chain: the last row of a bucket, and the tables after one row more.
use Prim.Native.Nat.{ℕ, zero, suc, ◌+◌, ◌*◌, ◌≤◌, ◌<◌, ◌^◌}
use native.Mathlib.Omega.{arith}
use native.Mathlib.Numerals.{add-one}
use native.Mathlib.Nat.{div-lt_iff_lt-mul, mul-lt-mul_of_pos_right}
use mathlib.Core.Path.{◌≡◌, refl, sym, ◌∙◌, ap, ap₂, subst}
use mathlib.Core.Logic.{⊎_elim}
use mathlib.Core.List.{List}
use lib.Dec.{eqb}
use lib.ListN.{length, get_or, set, length-set}
use lib.Seq.{get_or-set_same, get_or-set_other}
use borrow.Author.Tests.{eqb-true, eqb-false, eq-eqb, ne_eqb}
use Rattle.stab.proofs.Bools.{decide, if_true, if_false}
use Rattle.stab.proofs.Scans.{below_suc}
use Rattle.tables.specs.Chain.{bucket_of, latest, Chained, next_with, heads_with}

pub bucket_small : (m hash : ℕ) → hash < 2 ^ 30 → 0 < m → bucket_of m hash < m
unfolding bucket_of
bucket_small m hash s p =
    let less : hash * m < 1073741824 * m = mul-lt-mul_of_pos_right s p in
    (div-lt_iff_lt-mul {k = 1073741824} {x = hash * m} {y = m} (omega arith)).1 (omega arith)

-- ---- the last row of a bucket

module _ (bucket : ℕ → ℕ) (h : ℕ) where
  pub latest_here : (n : ℕ) → bucket n ≡ h → latest bucket h (suc n) ≡ suc n
  unfolding latest
  latest_here n e = if_true _ _ _ (eq-eqb (bucket n) h e)

  pub latest_other : (n : ℕ) → (bucket n ≡ h → ⊥) → latest bucket h (suc n) ≡ latest bucket h n
  unfolding latest
  latest_other n f = if_false _ _ _ (ne_eqb (bucket n) h f)

  pub latest_none : (n : ℕ) → latest bucket h n ≡ 0 → (q : ℕ) → q < n → bucket q ≡ h → ⊥
  latest_none zero e q l p = omega arith
  latest_none (suc n) e q l p =
      let f : bucket n ≡ h → ⊥ = λ k. omega (arith, latest_here n k) in
      ⊎_elim
      (λ m. latest_none n (sym (latest_other n f) ∙ e) q m p)
      (λ m. f (ap bucket (sym m) ∙ p))
      (below_suc q n l)

  pub latest_small : (n : ℕ) → latest bucket h n ≤ n
  unfolding latest
  latest_small zero = omega arith
  latest_small (suc n) =
      ⊎_elim
      (λ t. omega (arith, latest_here n (eqb-true _ h t)))
      (λ t. omega (arith, latest_other n (eqb-false _ h t), latest_small n))
      (decide (eqb (bucket n) h))

  -- row q is the last one below n
  abbrev pub Last : ℕ → ℕ → Type 0
  Last n q = (q < n) × (bucket q ≡ h) × ((p : ℕ) → q < p → p < n → bucket p ≡ h → ⊥)

  pub latest_some : (n q : ℕ) → latest bucket h n ≡ suc q → Last n q
  unfolding latest
  latest_some zero q e = absurd (omega arith)
  latest_some (suc n) q e =
      ⊎_elim
      (λ t. let k : q ≡ n = omega (arith, latest_here n (eqb-true _ h t)) in (omega arith, ap bucket k ∙ eqb-true _ h t, λ p a b _. omega arith))
      (λ t.
      let f = eqb-false (bucket n) h t in
      let i = latest_some n q (sym (latest_other n f) ∙ e) in
      (omega (arith, i.0), i.1, λ p a b g. ⊎_elim (λ m. i.2 p a m g) (λ m. f (ap bucket (sym m) ∙ g)) (below_suc p n b)))
      (decide (eqb (bucket n) h))

-- ---- the tables

pub chained_none : (bucket next : ℕ → ℕ) (heads : List ℕ) → ((h : ℕ) → h < length heads → get_or heads h 0 ≡ 0) → Chained bucket next heads 0
unfolding latest
chained_none bucket next heads z = record { first = z; onward = λ q l. absurd (omega arith) }

-- with row r, which is in bucket h
module _ (bucket next : ℕ → ℕ) (heads : List ℕ) (r h : ℕ) (done : Chained bucket next heads r) (within : h < length heads) (eh : h ≡ bucket r) where
  first_more : (x : ℕ) → x < length heads → get_or (set heads h (r + 1)) x 0 ≡ latest bucket x (suc r)
  first_more x l =
      ⊎_elim
      (λ t.
      let e = eqb-true x h t in
      ap (λ (y : ℕ). get_or (set heads h (r + 1)) y 0) e
      ∙ get_or-set_same heads h (r + 1) 0 within
      ∙ add-one r
      ∙ sym (latest_here bucket x r (sym eh ∙ sym e)))
      (λ t.
      let f = eqb-false x h t in
      get_or-set_other heads h x (r + 1) 0 f ∙ done.first x l ∙ sym (latest_other bucket x r (λ e. f (sym e ∙ sym eh))))
      (decide (eqb x h))

  module _ (next' : ℕ → ℕ) (here : next' r ≡ get_or heads h 0) (before : (q : ℕ) → q < r → next' q ≡ next q) where
    onward_here : (q : ℕ) → q ≡ r → next' q ≡ latest bucket (bucket q) q
    onward_here q e =
        subst (λ (x : ℕ). next' x ≡ latest bucket (bucket x) x) (sym e)
        (here ∙ done.first h within ∙ ap (λ (x : ℕ). latest bucket x r) eh)

    pub chained_more : Chained bucket next' (set heads h (r + 1)) (r + 1)
    chained_more =
        record {
          first = λ x l. first_more x (let e : length (set heads h (r + 1)) ≡ length heads = simp length-set in omega arith) ∙ ap (latest bucket x) (sym (add-one r));
          onward = λ q l. ⊎_elim (λ t. before q t ∙ done.onward q t) (λ t. onward_here q t) (below_suc q r (omega arith));
        }

-- the tables as a whole, with row r
module _ (bucket : ℕ → ℕ) (t : List ℕ) (r : ℕ) {u w : List ℕ} where
  pub next_more : {x : ℕ} → u ≡ next_with bucket t r → x ≡ latest bucket (bucket r) r → w ≡ set u r x → w ≡ next_with bucket t (r + 1)
  unfolding next_with
  next_more p e q = q ∙ ap₂ (λ (l : List ℕ) (x : ℕ). set l r x) p e ∙ ap (next_with bucket t) (sym (add-one r))

  pub heads_more : {h : ℕ} → u ≡ heads_with bucket t r → h ≡ bucket r → w ≡ set u h (r + 1) → w ≡ heads_with bucket t (r + 1)
  unfolding heads_with
  heads_more p e q = q ∙ ap₂ (λ (l : List ℕ) (h : ℕ). set l h (r + 1)) p e ∙ ap (heads_with bucket t) (sym (add-one r))

-- ---- rows that have the same buckets below n

module _ (bucket bucket' : ℕ → ℕ) (n : ℕ) (agree : (q : ℕ) → q < n → bucket q ≡ bucket' q) where
  latest_agree : (h m : ℕ) → m ≤ n → latest bucket h m ≡ latest bucket' h m
  unfolding latest
  latest_agree h zero l = refl
  latest_agree h (suc m) l =
      ⊎_elim
      (λ t. let e = eqb-true _ h t in latest_here bucket h m e ∙ sym (latest_here bucket' h m (sym (agree m l) ∙ e)))
      (λ t.
      let f = eqb-false (bucket m) h t in
      latest_other bucket h m f ∙ latest_agree h m (omega arith) ∙ sym (latest_other bucket' h m (λ e. f (agree m l ∙ e))))
      (decide (eqb (bucket m) h))

  pub chained_agree : {next : ℕ → ℕ} {heads : List ℕ} → Chained bucket next heads n → Chained bucket' next heads n
  chained_agree c =
      record {
        first = λ h l. c.first h l ∙ latest_agree h n (omega arith);
        onward = λ q l. c.onward q l ∙ ap (λ (x : ℕ). latest bucket x q) (agree q l) ∙ latest_agree (bucket' q) q (omega arith);
      }
