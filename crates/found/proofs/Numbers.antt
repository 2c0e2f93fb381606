-- Assignments by number: the first one that passes is that of the least number that does, and its digits are the pairs' values.
use Rattle.std.specs.Prelude.{if◌then◌else◌}
use Prim.Native.Nat.{ℕ, zero, suc, ◌+◌, ◌-◌, ◌*◌, ◌/◌, ◌%◌, ◌^◌, ◌<◌, ◌≤◌}
use native.Mathlib.Omega.{arith}
use native.Mathlib.Nat.{add-zero, add-suc, pow-suc, two-pow-succ, add-mul-div_left, add-div_left, div-eq_of_lt, mul_assoc}
use mathlib.Core.Path.{◌≡◌, refl, sym, ◌∙◌, ap, ap₂, subst}
use mathlib.Core.Logic.Iff
use mathlib.Core.Logic.{inl, inr, ⊎_elim}
use mathlib.Core.Bool.{Bool, true, false, false≢true}
use mathlib.Core.List.Memᴰ
use mathlib.Core.List.{List, [], ◌∷◌, ◌++◌, append-nil, append_assoc, Memᴰ}
use mathlib.Core.Option.{Option, none, some, or_else, map, none-ne-some, some-ne-none, some-injective, map-eq-none_iff, map-eq-some_iff}
use lib.Dec.{eqb}
use lib.Signed.{<ℤ_irrefl}
use lib.ListN.{length, length-drop, get_or, drop}
use lib.Seq.{drop-cons}
use lib.Pow.{pow_pos}
use Rattle.stab.specs.Basic.{first}
use Rattle.stab.specs.Occurs.{Wire, Before, Ascends}
use Rattle.stab.proofs.Bools.{if_true, if_false, decide, same_test}
use Rattle.stab.proofs.Firsts.{else_assoc, search_none, none_search, search_found, search_at, search_same}
use Rattle.stab.proofs.Tests.{◌tests◌, ◌&◌, or_tests, eq_z_tests}
use Rattle.stab.proofs.Wires.Lists.{same_wire}
use Rattle.found.specs.Find.{Query, wires, among, first_from, holds_with, first_model}
use Rattle.found.specs.Number.{numbered, least_below}

-- ---- digits

-- the first pair by its digit, and the others
first_digit_lem : (w : Wire) (ws : List Wire) (m d : ℕ) → m / 2 ^ length ws % 2 ≡ d → numbered (w ∷ ws) m ≡ (if eqb d 1 then w ∷ numbered ws m else numbered ws m)
unfolding numbered
first_digit_lem w ws m d e = ap (λ (x : ℕ). if eqb x 1 then w ∷ numbered ws m else numbered ws m) e

-- a multiple of 2 ^ length ws changes no digit that is asked for
numbered_low : (ws : List Wire) (m c : ℕ) → numbered ws (m + 2 ^ length ws * c) ≡ numbered ws m
unfolding numbered
numbered_low [] m c = refl
numbered_low (w ∷ ws) m c =
    let more : m + 2 ^ suc (length ws) * c ≡ m + 2 ^ length ws * (2 * c) = ap (λ (x : ℕ). m + x * c) (pow-suc 2 (length ws)) ∙ ap (λ (x : ℕ). m + x) (mul_assoc (2 ^ length ws) 2 c) in
    let digit : (m + 2 ^ length ws * (2 * c)) / 2 ^ length ws % 2 ≡ m / 2 ^ length ws % 2 = omega (arith, add-mul-div_left m (2 * c) (pow_pos (length ws))) in
    ap (numbered (w ∷ ws)) more
    ∙ ap₂ (λ (x : ℕ) (vs : List Wire). if eqb x 1 then w ∷ vs else vs) digit (numbered_low ws m (2 * c))

-- the lower half of the numbers has the first pair false, the upper half true
pub lower_half : (w : Wire) (ws : List Wire) (m : ℕ) → m < 2 ^ length ws → numbered (w ∷ ws) m ≡ numbered ws m
lower_half w ws m h = first_digit_lem w ws m 0 (omega (arith, div-eq_of_lt h))

pub upper_half : (w : Wire) (ws : List Wire) (m : ℕ) → m < 2 ^ length ws → numbered (w ∷ ws) (2 ^ length ws + m) ≡ w ∷ numbered ws m
upper_half w ws m h =
    let e : 2 ^ length ws + m ≡ m + 2 ^ length ws * 1 = omega arith in
    first_digit_lem w ws (2 ^ length ws + m) 1 (omega (arith, div-eq_of_lt h, add-div_left m (pow_pos (length ws))))
    ∙ ap (λ (x : ℕ). w ∷ numbered ws x) e
    ∙ ap (λ (vs : List Wire). w ∷ vs) (numbered_low ws m 1)

-- ---- the least number

-- nothing below k passes
pub least_none : (p : ℕ → Bool) (k : ℕ) → ((m : ℕ) → m < k → p m ≡ false) → least_below p k ≡ none
unfolding least_below
least_none p k h = search_none _ k (λ m l. if_false (p m) _ _ (h m l))

-- m passes, and nothing below it
pub least_is : (p : ℕ → Bool) (k m : ℕ) → m < k → p m ≡ true → ((j : ℕ) → j < m → p j ≡ false) → least_below p k ≡ some m
unfolding least_below
least_is p k m l t h = search_found _ k m m l (search_none _ m (λ j i. if_false (p j) _ _ (h j i))) (if_true (p m) _ _ t)

-- and the other way
unpassed : (b : Bool) (m : ℕ) → ◌≡◌ {A = Option ℕ} (if b then some m else none) none → b ≡ false
unpassed true m e = absurd (some-ne-none m e)
unpassed false m e = refl

passed : (b : Bool) (i m : ℕ) → ◌≡◌ {A = Option ℕ} (if b then some i else none) (some m) → (b ≡ true) × (i ≡ m)
passed true i m e = (refl, some-injective i m e)
passed false i m e = absurd (none-ne-some m e)

pub none_least : (p : ℕ → Bool) (k : ℕ) → least_below p k ≡ none → (m : ℕ) → m < k → p m ≡ false
unfolding least_below
none_least p k h m l = unpassed (p m) m (none_search _ k h m l)

pub is_least : (p : ℕ → Bool) (k m : ℕ) → least_below p k ≡ some m → (m < k) × (p m ≡ true) × ((j : ℕ) → j < m → p j ≡ false)
unfolding least_below
is_least p k m h =
    let r = search_at _ k m h in
    let here = passed (p r.0) r.0 m r.3 in (
      omega (arith, r.1, here.1),
      subst (λ (i : ℕ). p i ≡ true) here.1 here.0,
      λ j l. unpassed (p j) j (none_search _ r.0 r.2 j (omega (arith, here.1))),
    )

-- what the least number gives
least_gives : {A : Type 0} (p : ℕ → Bool) (g : ℕ → A) (k : ℕ) → first (λ m. if p m then some (g m) else none) k ≡ map g (least_below p k)
unfolding least_below first or_else
least_gives p g zero = refl
least_gives {A} p g (suc k) =
    ap₂ or_else (least_gives p g k) (gives_if (p k))
    ∙ gives_else (least_below p k) (if p k then some k else none)
  where
    gives_if : (b : Bool) → ◌≡◌ {A = Option A} (if b then some (g k) else none) (map g (if b then some k else none))
    gives_if true = refl
    gives_if false = refl

    gives_else : (x y : Option ℕ) → or_else (map g x) (map g y) ≡ map g (or_else x y)
    gives_else none y = refl
    gives_else (some m) y = refl

-- ---- the first assignment

none_after : {A : Type 0} (x : Option A) → or_else x none ≡ x
unfolding or_else
none_after none = refl
none_after (some a) = refl

first_split : {A : Type 0} (f : ℕ → Option A) (a b : ℕ) → first f (a + b) ≡ or_else (first f a) (first (λ k. f (a + k)) b)
unfolding first
first_split f a zero = ap (first f) (add-zero a) ∙ sym (none_after (first f a))
first_split f a (suc b) =
    ap (first f) (add-suc a b)
    ∙ ap (λ (x : Option _). or_else x (f (a + b))) (first_split f a b)
    ∙ else_assoc (first f a) (first (λ k. f (a + k)) b) (f (a + b))

-- some pairs, where they pass
passing : (List Wire → Bool) → List Wire → Option (List Wire)
passing holds vs = if holds vs then some vs else none

first_scanned : (holds : List Wire → Bool) (chosen ws : List Wire) → first_from holds chosen ws ≡ first (λ m. passing holds (chosen ++ numbered ws m)) (2 ^ length ws)
unfolding first_from first or_else numbered passing
first_scanned holds chosen [] = ap (passing holds) (sym (append-nil chosen))
first_scanned holds chosen (w ∷ ws) =
    ap₂ or_else (first_scanned holds chosen ws) (first_scanned holds (chosen ++ w ∷ []) ws)
    ∙ ap₂ or_else
    (search_same _ _ (2 ^ length ws) (λ m l. ap (λ (vs : List Wire). passing holds (chosen ++ vs)) (sym (lower_half w ws m l))))
    (search_same _ _ (2 ^ length ws) (λ m l. ap (passing holds) (append_assoc chosen (w ∷ []) (numbered ws m) ∙ ap (λ (vs : List Wire). chosen ++ vs) (sym (upper_half w ws m l)))))
    ∙ sym (first_split _ (2 ^ length ws) (2 ^ length ws))
    ∙ ap (first _) (sym (two-pow-succ (length ws)))

-- "the first assignment in that order" is that of the least number
pub first_by_number : (holds : List Wire → Bool) (chosen ws : List Wire) → first_from holds chosen ws ≡ map (λ m. chosen ++ numbered ws m) (least_below (λ m. holds (chosen ++ numbered ws m)) (2 ^ length ws))
unfolding passing
first_by_number holds chosen ws = first_scanned holds chosen ws ∙ least_gives _ _ (2 ^ length ws)

pub first_model_number : (Q : Query) → first_model Q ≡ map (numbered (wires Q)) (least_below (λ m. holds_with Q (numbered (wires Q) m)) (2 ^ length (wires Q)))
unfolding first_model
first_model_number Q = first_by_number (holds_with Q) [] (wires Q)

-- what is found and what is not, by number
pub first_found : (Q : Query) (ws : List Wire) → first_model Q ≡ some ws → (m : ℕ) × (m < 2 ^ length (wires Q)) × (numbered (wires Q) m ≡ ws) × (holds_with Q ws ≡ true) × ((j : ℕ) → j < m → holds_with Q (numbered (wires Q) j) ≡ false)
first_found Q ws h =
    let g = (map-eq-some_iff (numbered (wires Q)) _).0 (sym (first_model_number Q) ∙ h) in
    let r = is_least _ _ g.0 g.1 in (
      g.0,
      r.0,
      g.2,
      subst (λ (vs : List Wire). holds_with Q vs ≡ true) g.2 r.1,
      r.2,
    )

pub first_none : (Q : Query) → first_model Q ≡ none → (m : ℕ) → m < 2 ^ length (wires Q) → holds_with Q (numbered (wires Q) m) ≡ false
first_none Q h = none_least _ _ ((map-eq-none_iff (numbered (wires Q)) _).0 (sym (first_model_number Q) ∙ h))

-- ---- the pairs of a number

-- the k-th pair by its digit, and those after it
pub numbered_step : (ws : List Wire) (m k : ℕ) (d : Wire) → k < length ws → numbered (drop k ws) m ≡ (if eqb (m / 2 ^ (length ws - 1 - k) % 2) 1 then get_or ws k d ∷ numbered (drop (suc k) ws) m else numbered (drop (suc k) ws) m)
unfolding numbered
numbered_step ws m k d l =
    let e : length (drop (suc k) ws) ≡ length ws - 1 - k = omega (arith, length-drop (suc k) ws) in
    ap (λ (vs : List Wire). numbered vs m) (drop-cons ws k d l)
    ∙ ap (λ (x : ℕ). if eqb (m / 2 ^ x % 2) 1 then get_or ws k d ∷ numbered (drop (suc k) ws) m else numbered (drop (suc k) ws) m) e

pub numbered_length : (ws : List Wire) (m : ℕ) → length (numbered ws m) ≤ length ws
unfolding numbered
numbered_length [] m = omega arith
numbered_length (w ∷ ws) m = go (eqb (m / 2 ^ length ws % 2) 1) (numbered_length ws m)
  where
    go : (b : Bool) → length (numbered ws m) ≤ length ws → length (if b then w ∷ numbered ws m else numbered ws m) ≤ suc (length ws)
    go true h = omega arith
    go false h = omega arith

pub numbered_mem : (ws : List Wire) (m : ℕ) (x : Wire) → Memᴰ x (numbered ws m) → Memᴰ x ws
unfolding numbered
numbered_mem [] m x h = h
numbered_mem (w ∷ ws) m x h = go (eqb (m / 2 ^ length ws % 2) 1) (numbered_mem ws m x) h
  where
    go : (b : Bool) → (Memᴰ x (numbered ws m) → Memᴰ x ws) → Memᴰ x (if b then w ∷ numbered ws m else numbered ws m) → Memᴰ x (w ∷ ws)
    go true f t = ⊎_elim Memᴰ.head (λ u. Memᴰ.tail (f u)) (Memᴰ.cases_cons t)
    go false f t = Memᴰ.tail (f t)

pub numbered_ascends : (ws : List Wire) (m : ℕ) → Ascends ws → Ascends (numbered ws m)
unfolding numbered
numbered_ascends [] m a = tt
numbered_ascends (w ∷ ws) m a = go (eqb (m / 2 ^ length ws % 2) 1) (numbered_ascends ws m a.1)
  where
    go : (b : Bool) → Ascends (numbered ws m) → Ascends (if b then w ∷ numbered ws m else numbered ws m)
    go true ih = (λ x h. a.0 x (numbered_mem ws m x h), ih)
    go false ih = ih

-- ---- their values

-- a pair is given the value true exactly if it is listed
pub among_tests : (ws : List Wire) (w : Wire) → among ws w.symbol w.index tests Memᴰ w ws
unfolding among
among_tests [] w = (λ h. absurd (false≢true h), λ m. absurd (Memᴰ.not-nil m))
among_tests (x ∷ ws) w =
    Iff.trans
    (or_tests (eq_z_tests x.symbol w.symbol & eq_z_tests x.index w.index) (among_tests ws w)) (
      ⊎_elim (λ p. Memᴰ.head (sym (same_wire p.0 p.1))) Memᴰ.tail,
      λ m. ⊎_elim (λ e. inl (ap (λ (v : Wire). v.symbol) (sym e), ap (λ (v : Wire). v.index) (sym e))) inr (Memᴰ.cases_cons m),
    )

-- a pair that is not listed is false
pub among_elsewhere : (ws : List Wire) (w : Wire) → (Memᴰ w ws → ⊥) → among ws w.symbol w.index ≡ false
among_elsewhere ws w h = ⊎_elim (λ t. absurd (h ((among_tests ws w).0 t))) (λ f. f) (decide (among ws w.symbol w.index))

-- with one pair more, or not: its value is which, and no other's changes
pub its_value : (w : Wire) (vs : List Wire) → (Memᴰ w vs → ⊥) → (b : Bool) → among (if b then w ∷ vs else vs) w.symbol w.index ≡ b
its_value w vs away true = (among_tests (w ∷ vs) w).1 (Memᴰ.head refl)
its_value w vs away false = among_elsewhere vs w away

pub others_value : (w : Wire) (vs : List Wire) (x : Wire) → (x ≡ w → ⊥) → (b : Bool) → among (if b then w ∷ vs else vs) x.symbol x.index ≡ among vs x.symbol x.index
others_value w vs x other true =
    same_test _ _
    (λ h. (among_tests vs x).1 (⊎_elim (λ e. absurd (other e)) (λ m. m) (Memᴰ.cases_cons ((among_tests (w ∷ vs) x).0 h))))
    (λ h. (among_tests (w ∷ vs) x).1 (Memᴰ.tail ((among_tests vs x).0 h)))
others_value w vs x other false = refl

-- a pair of a list that ascends stands there once
pub ascends_away : (w : Wire) (ws : List Wire) → Ascends (w ∷ ws) → Memᴰ w ws → ⊥
ascends_away w ws a m = go (a.0 w m)
  where
    go : Before w w → ⊥
    go (inl p) = <ℤ_irrefl p
    go (inr p) = <ℤ_irrefl p.1

pub mem_get_d : (ws : List Wire) (k : ℕ) (d : Wire) → k < length ws → Memᴰ (get_or ws k d) ws
mem_get_d [] k d l = absurd (omega arith)
mem_get_d (w ∷ ws) zero d l = Memᴰ.head refl
mem_get_d (w ∷ ws) (suc k) d l = Memᴰ.tail (mem_get_d ws k d (omega arith))

-- the value of the k-th pair is the number's digit
pub numbered_among : (ws : List Wire) → Ascends ws → (m k : ℕ) (d : Wire) → k < length ws → among (numbered ws m) (get_or ws k d).symbol (get_or ws k d).index ≡ eqb (m / 2 ^ (length ws - 1 - k) % 2) 1
unfolding numbered
numbered_among [] a m k d l = absurd (omega arith)
numbered_among (w ∷ ws) a m zero d l =
    let e : length ws ≡ suc (length ws) - 1 - 0 = omega arith in
    its_value w (numbered ws m) (λ h. ascends_away w ws a (numbered_mem ws m w h)) (eqb (m / 2 ^ length ws % 2) 1)
    ∙ ap (λ (x : ℕ). eqb (m / 2 ^ x % 2) 1) e
numbered_among (w ∷ ws) a m (suc k) d l =
    let e : length ws - 1 - k ≡ suc (length ws) - 1 - suc k = omega arith in
    let x = get_or ws k d in
    let mem = mem_get_d ws k d (omega arith) in
    others_value w (numbered ws m) x (λ p. ascends_away w ws a (Memᴰ.cast (sym p) mem)) (eqb (m / 2 ^ length ws % 2) 1)
    ∙ numbered_among ws a.1 m k d (omega arith)
    ∙ ap (λ (y : ℕ). eqb (m / 2 ^ y % 2) 1) e
