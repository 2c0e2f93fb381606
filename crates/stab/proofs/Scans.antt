-- The laws of an ascending scan: what holds of each number passed, and what the first finding is.
use Rattle.std.specs.Prelude.{if◌then◌else◌, Ok, Err, Some}
use Prim.Native.Nat.{ℕ, zero, suc, ◌+◌, ◌<◌, ◌≤◌}
use native.Mathlib.Omega.{arith}
use native.Mathlib.Numerals.{add-one}
use mathlib.Core.Path.{◌≡◌, refl, sym, ◌∙◌, ap, subst}
use mathlib.Core.Logic.{◌⊎◌, inl, inr, ⊎_elim}
use mathlib.Core.Bool.{Bool, true, false, false≢true}
use mathlib.Core.List.Memᴰ
use mathlib.Core.List.{List, [], ◌∷◌, Memᴰ}
use lib.IntN.{ℤ}
use Rattle.stab.specs.Basic.{◌otherwise◌, scan, count, has, all_of, eq_z}
use Rattle.stab.specs.Check.{at_unless}
use Rattle.stab.specs.Finding.{Place, Finding, no_refusal, refuse}
use Rattle.stab.specs.declared.Refusal.{Refusal}
use Rattle.stab.proofs.Bools.{nothing_unless, found_unless, otherwise_same, otherwise_first, otherwise_second, otherwise_nothing, otherwise_found, nothing≢found, and_left, and_right, and_both, or_cases, or_left, or_right}
use Rattle.stab.proofs.Whole.{eq_z_true, eq_z_of}

pub below_suc : (k n : ℕ) → k < suc n → (k < n) ⊎ (k ≡ n)
below_suc zero zero h = inr refl
below_suc zero (suc n) h = inl (omega arith)
below_suc (suc k) zero h = absurd (omega arith)
below_suc (suc k) (suc n) h = go (below_suc k n (omega arith))
  where
    go : (k < n) ⊎ (k ≡ n) → (suc k < suc n) ⊎ (suc k ≡ suc n)
    go (inl p) = inl (omega arith)
    go (inr p) = inr (ap suc p)

-- nothing is found where nothing is found at any number passed, and the other way
pub scan_nothing : (f : ℕ → Finding) (n : ℕ) → ((k : ℕ) → k < n → f k ≡ no_refusal) → scan f n ≡ no_refusal
unfolding scan
scan_nothing f zero h = refl
scan_nothing f (suc n) h = otherwise_nothing (scan f n) (f n) (scan_nothing f n (λ k p. h k (omega arith))) ∙ h n (omega arith)

pub nothing_scan : (f : ℕ → Finding) (n : ℕ) → scan f n ≡ no_refusal → (k : ℕ) → k < n → f k ≡ no_refusal
unfolding scan
nothing_scan f zero h k p = absurd (omega arith)
nothing_scan f (suc n) h k p =
    ⊎_elim
    (λ q. nothing_scan f n (otherwise_first (scan f n) (f n) h) k q)
    (λ q. subst (λ (m : ℕ). f m ≡ no_refusal) (sym q) (otherwise_second (scan f n) (f n) h))
    (below_suc k n p)

-- two scans find the same if they find the same at each number before which nothing is found
pub scan_same : (f g : ℕ → Finding) (n : ℕ) → ((k : ℕ) → k < n → scan g k ≡ no_refusal → f k ≡ g k) → scan f n ≡ scan g n
unfolding scan
scan_same f g zero h = refl
scan_same f g (suc n) h =
    ap (λ (x : Finding). x otherwise f n) (scan_same f g n (λ k p. h k (omega arith)))
    ∙ otherwise_same (scan g n) (f n) (g n) (h n (omega arith))

-- the loop's step: nothing was found below i, nor at i
pub scan_more : (f : ℕ → Finding) (i : ℕ) → scan f i ≡ no_refusal → f i ≡ no_refusal → scan f (i + 1) ≡ no_refusal
unfolding scan
scan_more f i h k = subst (λ (m : ℕ). scan f m ≡ no_refusal) (sym (add-one i)) (otherwise_nothing (scan f i) (f i) h ∙ k)

-- the loop's exit: nothing was found below i, and a refusal at i
pub scan_found : (f : ℕ → Finding) (n i : ℕ) {why : Refusal} {p : Place} → i < n → scan f i ≡ no_refusal → f i ≡ refuse why p → scan f n ≡ refuse why p
unfolding scan
scan_found f zero i l h k = absurd (omega arith)
scan_found f (suc n) i {why} {p} l h k =
    ⊎_elim
    (λ q. otherwise_found (scan f n) (f n) (scan_found f n i q h k))
    (λ q. otherwise_nothing (scan f n) (f n) (subst (λ (m : ℕ). scan f m ≡ no_refusal) q h) ∙ subst (λ (m : ℕ). f m ≡ refuse why p) q k)
    (below_suc i n l)

-- the first number at which something is found
pub scan_first : (f : ℕ → Finding) (n : ℕ) {why : Refusal} {p : Place} → scan f n ≡ refuse why p → (r : ℕ) × (r < n) × (scan f r ≡ no_refusal) × (f r ≡ refuse why p)
unfolding scan ◌otherwise◌
scan_first f zero h = absurd (nothing≢found h)
scan_first f (suc n) {why} {p} h = go (scan f n) refl h (scan_first f n)
  where
    go : (x : Finding) → scan f n ≡ x → (x otherwise f n) ≡ refuse why p → (scan f n ≡ refuse why p → (r : ℕ) × (r < n) × (scan f r ≡ no_refusal) × (f r ≡ refuse why p)) → (r : ℕ) × (r < suc n) × (scan f r ≡ no_refusal) × (f r ≡ refuse why p)
    go (Ok u) e d ih = (n, omega arith, e, d)
    go (Err r) e d ih = let k = ih (e ∙ d) in (k.0, omega (arith, k.1), k.2, k.3)

-- what is found among the first numbers is found among more
pub scan_longer : (f : ℕ → Finding) (m n : ℕ) {why : Refusal} {p : Place} → m ≤ n → scan f m ≡ refuse why p → scan f n ≡ refuse why p
scan_longer f m n l h = let k = scan_first f m h in scan_found f n k.0 (omega (arith, k.1)) k.2 k.3

-- ---- counting

pub count_true : (p : ℕ → Bool) (i : ℕ) → p i ≡ true → count p (i + 1) ≡ count p i + 1
unfolding count
count_true p i h =
    ap (count p) (add-one i) ∙ ap (λ (b : Bool). if b then suc (count p i) else count p i) h ∙ sym (add-one (count p i))

pub count_false : (p : ℕ → Bool) (i : ℕ) → p i ≡ false → count p (i + 1) ≡ count p i
unfolding count
count_false p i h = ap (count p) (add-one i) ∙ ap (λ (b : Bool). if b then suc (count p i) else count p i) h

pub count_le : (p : ℕ → Bool) (n : ℕ) → count p n ≤ n
unfolding count
count_le p zero = omega arith
count_le p (suc n) = go (p n) (count p n) (count_le p n)
  where
    go : (b : Bool) (c : ℕ) → c ≤ n → (if b then suc c else c) ≤ suc n
    go true c h = omega arith
    go false c h = omega arith

-- ---- membership

pub has_mem : (z : ℤ) (xs : List ℤ) → has z xs ≡ true → Memᴰ z xs
unfolding has
has_mem z [] h = absurd (false≢true h)
has_mem z (x ∷ xs) h =
    ⊎_elim
    (λ e. Memᴰ.head (eq_z_true z x e))
    (λ e. Memᴰ.tail (has_mem z xs e))
    (or_cases (eq_z z x) (has z xs) h)

pub mem_has : (z : ℤ) (xs : List ℤ) → Memᴰ z xs → has z xs ≡ true
unfolding has
mem_has z [] m = absurd (Memᴰ.not-nil m)
mem_has z (x ∷ xs) m =
    ⊎_elim
    (λ e. or_left (eq_z z x) (has z xs) (eq_z_of z x e))
    (λ e. or_right (eq_z z x) (has z xs) (mem_has z xs e))
    (Memᴰ.cases_cons m)

-- ---- every element

pub all_use : {A : Type 0} (p : A → Bool) (z : A) (xs : List A) → all_of p xs ≡ true → Memᴰ z xs → p z ≡ true
unfolding all_of
all_use p z [] h m = absurd (Memᴰ.not-nil m)
all_use p z (x ∷ xs) h m =
    ⊎_elim
    (λ e. ap p e ∙ and_left (p x) (all_of p xs) h)
    (λ e. all_use p z xs (and_right (p x) (all_of p xs) h) e)
    (Memᴰ.cases_cons m)

pub all_make : {A : Type 0} (p : A → Bool) (xs : List A) → ((z : A) → Memᴰ z xs → p z ≡ true) → all_of p xs ≡ true
unfolding all_of
all_make p [] h = refl
all_make p (x ∷ xs) h =
    and_both (p x) (all_of p xs) (h x (Memᴰ.head refl)) (all_make p xs (λ z m. h z (Memᴰ.tail m)))

-- ---- tests one after another, each with the same refusal

module _ (why : Refusal) (p : ℕ → Bool) where
  pub scan_passes : (n : ℕ) → ((a : ℕ) → a < n → p a ≡ true) → scan (λ j. at_unless (p j) why j) n ≡ no_refusal
  unfolding at_unless
  scan_passes n h = scan_nothing _ n (λ i q. nothing_unless (p i) why (Some i) (h i q))

  pub scan_fails : (n i : ℕ) → i < n → ((a : ℕ) → a < i → p a ≡ true) → p i ≡ false → scan (λ j. at_unless (p j) why j) n ≡ refuse why (Some i)
  unfolding at_unless
  scan_fails n i q h k = scan_found _ n i q (scan_passes i h) (found_unless (p i) why (Some i) k)
