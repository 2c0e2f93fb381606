-- The laws of a search: what is not there below a number, and the first that is.
use Prim.Native.Nat.{ℕ, zero, suc, ◌<◌}
use native.Mathlib.Omega.{arith}
use mathlib.Core.Path.{◌≡◌, refl, sym, ◌∙◌, ap₂, subst}
use mathlib.Core.Logic.{⊎_elim}
use mathlib.Core.Option.{Option, none, some, or_else, none-ne-some, some-ne-none}
use Rattle.stab.specs.Basic.{first}
use Rattle.stab.proofs.Scans.{below_suc}

pub else_none : {A : Type 0} (x y : Option A) → x ≡ none → or_else x y ≡ y
unfolding or_else
else_none none y h = refl
else_none (some a) y h = absurd (some-ne-none a h)

pub else_some : {A : Type 0} (x y : Option A) (a : A) → x ≡ some a → or_else x y ≡ some a
unfolding or_else
else_some none y a h = absurd (none-ne-some a h)
else_some (some b) y a h = h

pub else_assoc : {A : Type 0} (x y z : Option A) → or_else (or_else x y) z ≡ or_else x (or_else y z)
unfolding or_else
else_assoc none y z = refl
else_assoc (some a) y z = refl

pub search_none : {A : Type 0} (f : ℕ → Option A) (n : ℕ) → ((k : ℕ) → k < n → f k ≡ none) → first f n ≡ none
unfolding first
search_none f zero h = refl
search_none f (suc n) h = else_none (first f n) (f n) (search_none f n (λ k p. h k (omega arith))) ∙ h n (omega arith)

pub search_same : {A : Type 0} (f g : ℕ → Option A) (n : ℕ) → ((k : ℕ) → k < n → f k ≡ g k) → first f n ≡ first g n
unfolding first
search_same f g zero h = refl
search_same f g (suc n) h = ap₂ or_else (search_same f g n (λ k p. h k (omega arith))) (h n (omega arith))

pub search_found : {A : Type 0} (f : ℕ → Option A) (n i : ℕ) (a : A) → i < n → first f i ≡ none → f i ≡ some a → first f n ≡ some a
unfolding first
search_found f zero i a p h k = absurd (omega arith)
search_found f (suc n) i a p h k =
    ⊎_elim
    (λ q. else_some (first f n) (f n) a (search_found f n i a q h k))
    (λ q. else_none (first f n) (f n) (subst (λ (m : ℕ). first f m ≡ none) q h) ∙ subst (λ (m : ℕ). f m ≡ some a) q k)
    (below_suc i n p)

-- where the first is, and that there is none before it
pub search_at : {A : Type 0} (f : ℕ → Option A) (n : ℕ) (a : A) → first f n ≡ some a → (r : ℕ) × (r < n) × (first f r ≡ none) × (f r ≡ some a)
unfolding first or_else
search_at f zero a h = absurd (none-ne-some a h)
search_at {A} f (suc n) a h = go (first f n) refl h (search_at f n a)
  where
    go : (x : Option A) → first f n ≡ x → or_else x (f n) ≡ some a → (first f n ≡ some a → (r : ℕ) × (r < n) × (first f r ≡ none) × (f r ≡ some a)) → (r : ℕ) × (r < suc n) × (first f r ≡ none) × (f r ≡ some a)
    go none e d ih = (n, omega arith, e, d)
    go (some w) e d ih = let k = ih (e ∙ d) in (k.0, omega (arith, k.1), k.2, k.3)

pub none_search : {A : Type 0} (f : ℕ → Option A) (n : ℕ) → first f n ≡ none → (k : ℕ) → k < n → f k ≡ none
unfolding first or_else
none_search f zero h k p = absurd (omega arith)
none_search {A} f (suc n) h k p =
    ⊎_elim
    (λ q. none_search f n (before (first f n) h) k q)
    (λ q. subst (λ (m : ℕ). f m ≡ none) (sym q) (sym (else_none (first f n) (f n) (before (first f n) h)) ∙ h))
    (below_suc k n p)
  where
    before : (x : Option A) → or_else x (f n) ≡ none → x ≡ none
    before none e = refl
    before (some a) e = e
