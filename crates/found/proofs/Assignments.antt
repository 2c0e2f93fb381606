-- The number of any assignment, by its values at some pairs: an earlier assignment has a smaller number.
use Rattle.std.specs.Prelude.{if◌then◌else◌}
use Prim.Native.Nat.{ℕ, suc, ◌+◌, ◌-◌, ◌^◌, ◌<◌}
use native.Mathlib.Omega.{arith}
use native.Mathlib.Nat.{two-pow-succ}
use native.Mathlib.Decide.{dec_lt}
use mathlib.Core.Path.{◌≡◌, refl, sym, ◌∙◌, ap, ap₂, subst}
use mathlib.Core.Logic.{inl, inr, ⊎_elim}
use mathlib.Core.Bool.{Bool, true, false}
use mathlib.Core.List.Memᴰ
use mathlib.Core.List.{List, [], ◌∷◌, Memᴰ}
use lib.ListN.{length}
use Rattle.stab.specs.Meaning.{Assignment}
use Rattle.stab.specs.Occurs.{Wire, Ascends}
use Rattle.stab.proofs.Bools.{if_true, if_false}
use Rattle.found.specs.Find.{among, Earlier}
use Rattle.found.specs.Number.{numbered}
use Rattle.found.proofs.Numbers.{lower_half, upper_half, numbered_mem, its_value, others_value, ascends_away}

-- the value of a pair
abbrev value_at : Assignment → Wire → Bool
value_at σ w = σ w.symbol w.index

pub number_of : List Wire → Assignment → ℕ
number_of [] σ = 0
number_of (w ∷ ws) σ = (if value_at σ w then 2 ^ length ws else 0) + number_of ws σ

pub number_below : (ws : List Wire) (σ : Assignment) → number_of ws σ < 2 ^ length ws
unfolding number_of
number_below [] σ = omega arith
number_below (w ∷ ws) σ = go (value_at σ w) (number_below ws σ)
  where
    go : (b : Bool) → number_of ws σ < 2 ^ length ws → (if b then 2 ^ length ws else 0) + number_of ws σ < 2 ^ suc (length ws)
    go true h = omega (arith, two-pow-succ (length ws))
    go false h = omega (arith, two-pow-succ (length ws))

number_true : (w : Wire) (ws : List Wire) (σ : Assignment) → value_at σ w ≡ true → number_of (w ∷ ws) σ ≡ 2 ^ length ws + number_of ws σ
unfolding number_of
number_true w ws σ h = ap (λ (k : ℕ). k + number_of ws σ) (if_true (value_at σ w) _ _ h)

number_false : (w : Wire) (ws : List Wire) (σ : Assignment) → value_at σ w ≡ false → number_of (w ∷ ws) σ ≡ number_of ws σ
unfolding number_of
number_false w ws σ h = let e : 0 + number_of ws σ ≡ number_of ws σ = omega arith in ap (λ (k : ℕ). k + number_of ws σ) (if_false (value_at σ w) _ _ h) ∙ e

-- the first pair by its value, and the others
number_first : (w : Wire) (ws : List Wire) (σ : Assignment) → numbered (w ∷ ws) (number_of (w ∷ ws) σ) ≡ (if value_at σ w then w ∷ numbered ws (number_of ws σ) else numbered ws (number_of ws σ))
unfolding number_of
number_first w ws σ = go (value_at σ w) (number_below ws σ)
  where
    go : (b : Bool) → number_of ws σ < 2 ^ length ws → numbered (w ∷ ws) ((if b then 2 ^ length ws else 0) + number_of ws σ) ≡ (if b then w ∷ numbered ws (number_of ws σ) else numbered ws (number_of ws σ))
    go true h = upper_half w ws (number_of ws σ) h
    go false h = let e : 0 + number_of ws σ ≡ number_of ws σ = omega arith in ap (numbered (w ∷ ws)) e ∙ lower_half w ws (number_of ws σ) h

-- the assignment of an assignment's number is the same at these pairs
pub number_agrees : (ws : List Wire) → Ascends ws → (σ : Assignment) (x : Wire) → Memᴰ x ws → value_at (among (numbered ws (number_of ws σ))) x ≡ value_at σ x
number_agrees [] a σ x m = absurd (Memᴰ.not-nil m)
number_agrees (w ∷ ws) a σ x m =
    let vs = numbered ws (number_of ws σ) in
    ap (λ (us : List Wire). value_at (among us) x) (number_first w ws σ)
    ∙ ⊎_elim
    (λ e. subst (λ (y : Wire). value_at (among (if value_at σ w then w ∷ vs else vs)) y ≡ value_at σ y) (sym e) (its_value w vs (λ h. ascends_away w ws a (numbered_mem ws _ w h)) (value_at σ w)))
    (λ t. others_value w vs x (λ e. ascends_away w ws a (Memᴰ.cast (sym e) t)) (value_at σ w) ∙ number_agrees ws a.1 σ x t)
    (Memᴰ.cases_cons m)

-- the number rests on the values at these pairs alone
number_same : (ws : List Wire) (σ τ : Assignment) → ((x : Wire) → Memᴰ x ws → value_at σ x ≡ value_at τ x) → number_of ws σ ≡ number_of ws τ
unfolding number_of
number_same [] σ τ h = refl
number_same (w ∷ ws) σ τ h =
    ap₂ (λ (b : Bool) (k : ℕ). (if b then 2 ^ length ws else 0) + k) (h w (Memᴰ.head refl)) (number_same ws σ τ (λ x m. h x (Memᴰ.tail m)))

-- the number of a number's assignment is that number
pub number_back : (ws : List Wire) → Ascends ws → (m : ℕ) → m < 2 ^ length ws → number_of ws (among (numbered ws m)) ≡ m
unfolding number_of
number_back [] a m l = omega arith
number_back (w ∷ ws) a m l = go (number_back ws a.1) (dec_lt m (2 ^ length ws))
  where
    away : (k : ℕ) → Memᴰ w (numbered ws k) → ⊥
    away k h = ascends_away w ws a (numbered_mem ws k w h)

    go : ((k : ℕ) → k < 2 ^ length ws → number_of ws (among (numbered ws k)) ≡ k) → Dec (m < 2 ^ length ws) → number_of (w ∷ ws) (among (numbered (w ∷ ws) m)) ≡ m
    go back (yes h) =
        ap (λ (vs : List Wire). number_of (w ∷ ws) (among vs)) (lower_half w ws m h)
        ∙ number_false w ws _ (its_value w (numbered ws m) (away m) false)
        ∙ back m h
    go back (no h) =
        let k = m - 2 ^ length ws in
        let l : k < 2 ^ length ws = omega (arith, two-pow-succ (length ws)) in
        let e : m ≡ 2 ^ length ws + k = omega arith in
        let f : number_of ws (among (w ∷ numbered ws k)) ≡ k = number_same ws _ _ (λ x t. others_value w (numbered ws k) x (λ p. ascends_away w ws a (Memᴰ.cast (sym p) t)) true) ∙ back k l in
        ap (λ (i : ℕ). number_of (w ∷ ws) (among (numbered (w ∷ ws) i))) e
        ∙ ap (λ (vs : List Wire). number_of (w ∷ ws) (among vs)) (upper_half w ws k l)
        ∙ number_true w ws _ (its_value w (numbered ws k) (away k) true)
        ∙ ap (λ (i : ℕ). 2 ^ length ws + i) f
        ∙ sym e

-- an earlier assignment has a smaller number
pub number_earlier : (ws : List Wire) (τ σ : Assignment) → Earlier ws τ σ → number_of ws τ < number_of ws σ
number_earlier [] τ σ e = absurd e
number_earlier (w ∷ ws) τ σ (inl e) = omega (arith, number_false w ws τ e.0, number_true w ws σ e.1, number_below ws τ)
number_earlier (w ∷ ws) τ σ (inr e) = go (value_at σ w) refl (number_earlier ws τ σ e.1)
  where
    go : (b : Bool) → value_at σ w ≡ b → number_of ws τ < number_of ws σ → number_of (w ∷ ws) τ < number_of (w ∷ ws) σ
    go true h l = omega (arith, number_true w ws τ (e.0 ∙ h), number_true w ws σ h)
    go false h l = omega (arith, number_false w ws τ (e.0 ∙ h), number_false w ws σ h)
