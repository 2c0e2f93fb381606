-- Laws of the lists that the list of small schemata is made of.
use Rattle.std.specs.Prelude.{if◌then◌else◌}
use Prim.Native.Nat.{ℕ, zero, suc, ◌<◌}
use native.Mathlib.Omega.{arith}
use mathlib.Core.Path.{◌≡◌, refl, sym, ◌∙◌, ap, subst}
use mathlib.Core.Logic.{◌⊎◌, inl, inr, ⊎_elim}
use mathlib.Core.Bool.{Bool, true, false, true≢false}
use mathlib.Core.List.Memᴰ
use mathlib.Core.List.{List, [], ◌∷◌, ◌++◌, Memᴰ}
use lib.IntN.{ℤ}
use Rattle.stab.proofs.Scans.{below_suc}
use Rattle.small.specs.Small.{over_each, extended, extended_all, filtered}

-- ---- what passes a test

module _ (p : List ℤ → Bool) where
  pub filtered_in : (t : List ℤ) (ts : List (List ℤ)) → Memᴰ t ts → p t ≡ true → Memᴰ t (filtered p ts)
  unfolding filtered
  filtered_in t [] m h = absurd (Memᴰ.not-nil m)
  filtered_in t (u ∷ us) m h = go (p u) refl (λ k. filtered_in t us k h) (Memᴰ.cases_cons m)
    where
      go : (b : Bool) → p u ≡ b → (Memᴰ t us → Memᴰ t (filtered p us)) → (t ≡ u) ⊎ Memᴰ t us → Memᴰ t (if b then u ∷ filtered p us else filtered p us)
      go true e f (inl q) = Memᴰ.head q
      go true e f (inr q) = Memᴰ.tail (f q)
      go false e f (inl q) = absurd (true≢false (sym h ∙ ap p q ∙ e))
      go false e f (inr q) = f q

  pub filtered_out : (t : List ℤ) (ts : List (List ℤ)) → Memᴰ t (filtered p ts) → Memᴰ t ts × (p t ≡ true)
  unfolding filtered
  filtered_out t [] m = absurd (Memᴰ.not-nil m)
  filtered_out t (u ∷ us) m = go (p u) refl (filtered_out t us) m
    where
      go : (b : Bool) → p u ≡ b → (Memᴰ t (filtered p us) → Memᴰ t us × (p t ≡ true)) → Memᴰ t (if b then u ∷ filtered p us else filtered p us) → Memᴰ t (u ∷ us) × (p t ≡ true)
      go true e f k =
          ⊎_elim
          (λ q. (Memᴰ.head q, ap p q ∙ e))
          (λ q. (Memᴰ.tail (f q).0, (f q).1))
          (Memᴰ.cases_cons k)
      go false e f k = (Memᴰ.tail (f k).0, (f k).1)

  pub filtered_none : (ts : List (List ℤ)) → ((t : List ℤ) → p t ≡ false) → filtered p ts ≡ []
  unfolding filtered
  filtered_none [] h = refl
  filtered_none (t ∷ ts) h =
      ap (λ (b : Bool). if b then t ∷ filtered p ts else filtered p ts) (h t) ∙ filtered_none ts h

-- ---- a table with rows after it

pub extended_in : (t w : List ℤ) (ws : List (List ℤ)) → Memᴰ w ws → Memᴰ (t ++ w) (extended t ws)
unfolding extended
extended_in t w [] m = absurd (Memᴰ.not-nil m)
extended_in t w (v ∷ vs) m =
    ⊎_elim
    (λ e. Memᴰ.head (ap (λ (x : List ℤ). t ++ x) e))
    (λ k. Memᴰ.tail (extended_in t w vs k))
    (Memᴰ.cases_cons m)

pub extended_out : (u t : List ℤ) (ws : List (List ℤ)) → Memᴰ u (extended t ws) → (w : List ℤ) × Memᴰ w ws × (u ≡ t ++ w)
unfolding extended
extended_out u t [] m = absurd (Memᴰ.not-nil m)
extended_out u t (v ∷ vs) m =
    ⊎_elim
    (λ e. (v, Memᴰ.head refl, e))
    (λ k. let r = extended_out u t vs k in (r.0, Memᴰ.tail r.1, r.2))
    (Memᴰ.cases_cons m)

pub extended_all_in : (t w : List ℤ) (ts ws : List (List ℤ)) → Memᴰ t ts → Memᴰ w ws → Memᴰ (t ++ w) (extended_all ts ws)
unfolding extended_all
extended_all_in t w [] ws m k = absurd (Memᴰ.not-nil m)
extended_all_in t w (u ∷ us) ws m k =
    ⊎_elim
    (λ e. Memᴰ.append_left _ (subst (λ (x : List ℤ). Memᴰ (t ++ w) (extended x ws)) e (extended_in t w ws k)))
    (λ l. Memᴰ.append_right (extended u ws) (extended_all_in t w us ws l k))
    (Memᴰ.cases_cons m)

pub extended_all_out : (u : List ℤ) (ts ws : List (List ℤ)) → Memᴰ u (extended_all ts ws)
    → (t : List ℤ) × Memᴰ t ts × (w : List ℤ) × Memᴰ w ws × (u ≡ t ++ w)
unfolding extended_all
extended_all_out u [] ws m = absurd (Memᴰ.not-nil m)
extended_all_out u (t ∷ ts) ws m =
    ⊎_elim
    (λ k. let r = extended_out u t ws k in (t, Memᴰ.head refl, r.0, r.1, r.2))
    (λ k. let r = extended_all_out u ts ws k in (r.0, Memᴰ.tail r.1, r.2, r.3, r.4))
    (Memᴰ.append_cases (extended t ws) m)

-- ---- one list for each number

pub over_each_in : {A : Type 0} (f : ℕ → List A) (n k : ℕ) (x : A) → k < n → Memᴰ x (f k) → Memᴰ x (over_each f n)
unfolding over_each
over_each_in f zero k x l m = absurd (omega arith)
over_each_in f (suc n) k x l m =
    ⊎_elim
    (λ p. Memᴰ.append_left (f n) (over_each_in f n k x p m))
    (λ e. Memᴰ.append_right (over_each f n) (subst (λ (j : ℕ). Memᴰ x (f j)) e m))
    (below_suc k n l)
