-- Rows have the same class exactly if they are akin.
use Rattle.std.specs.Prelude.{if◌then◌else◌}
use Prim.Native.Nat.{ℕ, zero, suc, ◌≤◌, ◌<◌}
use native.Mathlib.Omega.{arith}
use mathlib.Core.Path.{◌≡◌, refl, sym, ◌∙◌, subst}
use mathlib.Core.Bool.{Bool, true, false, false≢true}
use Rattle.stab.specs.Formula.{Row, Formula, tree}
use Rattle.stab.proofs.Alikes.{alike_refl, alike_sym, alike_trans}
use Rattle.classes.specs.Class.{level, akin, least, class_of}

-- ---- the least number that passes

-- the numbers after 0
abbrev later : (ℕ → Bool) → ℕ → Bool
later p m = p (suc m)

least_small : (p : ℕ → Bool) (n : ℕ) → least p n ≤ n
unfolding least
least_small p zero = omega arith
least_small p (suc n) = go (p zero) (least_small (later p) n)
  where
    go : (t : Bool) → least (later p) n ≤ n → (if t then zero else suc (least (later p) n)) ≤ suc n
    go true l = omega arith
    go false l = omega arith

least_before : (p : ℕ → Bool) (n q : ℕ) → q < least p n → p q ≡ false
unfolding least
least_before p zero q l = absurd (omega arith)
least_before p (suc n) q l = go (p zero) q refl l (least_before (later p) n)
  where
    go : (t : Bool) (m : ℕ) → p zero ≡ t → m < (if t then zero else suc (least (later p) n)) → ((j : ℕ) → j < least (later p) n → p (suc j) ≡ false) → p m ≡ false
    go true m e k f = absurd (omega arith)
    go false zero e k f = e
    go false (suc m) e k f = f m (omega arith)

least_passes : (p : ℕ → Bool) (n : ℕ) → p n ≡ true → p (least p n) ≡ true
unfolding least
least_passes p zero h = h
least_passes p (suc n) h = go (p zero) refl (least_passes (later p) n h)
  where
    go : (t : Bool) → p zero ≡ t → p (suc (least (later p) n)) ≡ true → p (if t then zero else suc (least (later p) n)) ≡ true
    go true e k = e
    go false e k = k

-- ---- being akin

pub akin_refl : (f : Formula) → akin f f ≡ true
unfolding akin
akin_refl f = alike_refl (level f)

pub akin_sym : (f g : Formula) → akin f g ≡ true → akin g f ≡ true
unfolding akin
akin_sym f g h = alike_sym (level f) (level g) h

pub akin_trans : (f g h : Formula) → akin f g ≡ true → akin g h ≡ true → akin f h ≡ true
unfolding akin
akin_trans f g h p q = alike_trans (level f) (level g) (level h) p q

-- ---- classes

module _ (rows : ℕ → Row) where
  pub class_small : (r : ℕ) → class_of rows r ≤ r
  unfolding class_of
  class_small r = least_small _ r

  class_passes : (r : ℕ) → akin (tree rows (class_of rows r)) (tree rows r) ≡ true
  unfolding class_of
  class_passes r = least_passes (λ (q : ℕ). akin (tree rows q) (tree rows r)) r (akin_refl (tree rows r))

  -- no class is smaller than another's of akin rows
  class_not_less : (q r : ℕ) → akin (tree rows q) (tree rows r) ≡ true → class_of rows q < class_of rows r → ⊥
  unfolding class_of
  class_not_less q r h l =
      false≢true (sym (least_before (λ (m : ℕ). akin (tree rows m) (tree rows r)) r (class_of rows q) l) ∙ akin_trans _ _ _ (class_passes q) h)

  pub class_same : (q r : ℕ) → akin (tree rows q) (tree rows r) ≡ true → class_of rows q ≡ class_of rows r
  class_same q r h =
      let a : class_of rows q < class_of rows r → ⊥ = class_not_less q r h in
      let b : class_of rows r < class_of rows q → ⊥ = class_not_less r q (akin_sym _ _ h) in
      trichotomy (class_of rows q) (class_of rows r) a b
    where
      trichotomy : (m n : ℕ) → (m < n → ⊥) → (n < m → ⊥) → m ≡ n
      trichotomy m n a b = omega (arith, a, b)

  pub class_akin : (q r : ℕ) → class_of rows q ≡ class_of rows r → akin (tree rows q) (tree rows r) ≡ true
  class_akin q r e =
      akin_trans _ _ _ (akin_sym _ _ (class_passes q)) (subst (λ (m : ℕ). akin (tree rows m) (tree rows r) ≡ true) (sym e) (class_passes r))

  -- a row that is akin to none before it is a class of its own
  pub class_new : (r : ℕ) → ((q : ℕ) → q < r → akin (tree rows q) (tree rows r) ≡ true → ⊥) → class_of rows r ≡ r
  class_new r h = at_most (class_of rows r) r (class_small r) (λ l. h _ l (class_passes r))
    where
      at_most : (m n : ℕ) → m ≤ n → (m < n → ⊥) → m ≡ n
      at_most m n l f = omega (arith, f)
