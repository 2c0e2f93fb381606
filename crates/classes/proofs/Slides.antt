-- Two formulas, lowered, are alike exactly if they are akin and their shifts fit.
use Rattle.std.specs.Prelude.{if◌then◌else◌}
use native.Mathlib.Omega.{arith}
use mathlib.Core.Path.{◌≡◌, refl, sym, ◌∙◌, ap, ap₂, subst}
use mathlib.Core.Logic.{⊎_elim}
use mathlib.Core.Bool.{Bool, true, false, false≢true}
use mathlib.Core.Option.{Option, none, some}
use lib.IntN.{ℤ, pos, ◌+ℤ◌, ◌-ℤ◌}
use lib.Signed.{le_z}
use Rattle.stab.specs.Basic.{◌or◌}
use Rattle.stab.specs.Formula.{nothing, parameter, index, Formula, const, lit, join, iter, loose, fixed, on_index}
use Rattle.stab.specs.Alike.{lower_base, lower, instance_lit, instance, alike}
use Rattle.stab.specs.Keeps.{Alike, itself, sides, left, right, inside, next}
use Rattle.stab.proofs.Bools.{decide, if_true, if_false, or_false_left, or_false_right}
use Rattle.stab.proofs.Whole.{atom, num, ◌⊕◌, ◌⊖◌, less, eq_of, of_eq, le_of, of_le, of_not_le, not_le_of}
use Rattle.stab.proofs.Alikes.{alike_tests, alike_lower, lower_lower}
use Rattle.classes.specs.Class.{ground, lesser, off_lit, off, or_zero, level, akin}

-- ---- literals on i

-- an outer formula has none
pub outer_ground : (f : Formula) → loose f ≡ false → ground f ≡ f
unfolding loose on_index instance instance_lit
outer_ground (const v) h = refl
outer_ground (lit v s nothing c) h = refl
outer_ground (lit v s parameter c) h = refl
outer_ground (lit v s index c) h = absurd (false≢true (sym h))
outer_ground (join o f g) h = ap₂ (join o) (outer_ground f (or_false_left _ _ h)) (outer_ground g (or_false_right (loose f) _ h))
outer_ground (iter o f b c) h = refl

-- nor has an instance
pub instance_outer : (c : ℤ) (f : Formula) → loose (instance c f) ≡ false
unfolding loose on_index instance instance_lit ◌or◌
instance_outer c (const v) = refl
instance_outer c (lit v s nothing d) = refl
instance_outer c (lit v s parameter d) = refl
instance_outer c (lit v s index d) = refl
instance_outer c (join o f g) = ap₂ ◌or◌ (instance_outer c f) (instance_outer c g)
instance_outer c (iter o f b d) = refl

-- a body has no other
pub body_ground : (c : ℤ) (f : Formula) → fixed f ≡ false → instance c f ≡ lower c (ground f)
unfolding fixed on_index instance instance_lit lower lower_base
body_ground k (const v) h = refl
body_ground k (lit v s nothing c) h = absurd (false≢true (sym h))
body_ground k (lit v s parameter c) h = absurd (false≢true (sym h))
body_ground k (lit v s index c) h = ap (lit v s parameter) (eq_of (atom c ⊖ atom k) ((atom c ⊖ num 0) ⊖ atom k) (omega arith))
body_ground k (join o f g) h = ap₂ (join o) (body_ground k f (or_false_left _ _ h)) (body_ground k g (or_false_right (fixed f) _ h))
body_ground k (iter o f b c) h = absurd (false≢true (sym h))

-- each literal on i again
onto : Formula → Formula
onto (const v) = const v
onto (lit v s x c) = lit v s index c
onto (join o f g) = join o (onto f) (onto g)
onto (iter o f b c) = iter o f b c

onto_ground : (f : Formula) → fixed f ≡ false → onto (ground f) ≡ f
unfolding onto fixed on_index instance instance_lit
onto_ground (const v) h = refl
onto_ground (lit v s nothing c) h = absurd (false≢true (sym h))
onto_ground (lit v s parameter c) h = absurd (false≢true (sym h))
onto_ground (lit v s index c) h = ap (lit v s index) (eq_of (atom c ⊖ num 0) (atom c) (omega arith))
onto_ground (join o f g) h = ap₂ (join o) (onto_ground f (or_false_left _ _ h)) (onto_ground g (or_false_right (fixed f) _ h))
onto_ground (iter o f b c) h = absurd (false≢true (sym h))

onto_kept : {f g : Formula} → Alike f g → Alike (onto f) (onto g)
unfolding onto
onto_kept itself = itself
onto_kept sides = sides
onto_kept (left p) = left (onto_kept p)
onto_kept (right p) = right (onto_kept p)
onto_kept (inside p) = inside p
onto_kept (next p q) = next (onto_kept p) (onto_kept q)

ground_kept : {f g : Formula} → Alike f g → Alike (ground f) (ground g)
unfolding instance
ground_kept itself = itself
ground_kept sides = sides
ground_kept (left p) = left (ground_kept p)
ground_kept (right p) = right (ground_kept p)
ground_kept (inside p) = inside p
ground_kept (next p q) = next (ground_kept p) (ground_kept q)

pub alike_ground : (f g : Formula) → alike f g ≡ true → alike (ground f) (ground g) ≡ true
alike_ground f g h = (alike_tests _ _).1 (ground_kept ((alike_tests f g).0 h))

-- bodies are alike where they are on n
pub bodies_back : (f g : Formula) → fixed f ≡ false → fixed g ≡ false → alike (ground f) (ground g) ≡ true → alike f g ≡ true
bodies_back f g p q h =
    (alike_tests f g).1 (subst (λ (x : Formula). Alike x g) (onto_ground f p) (subst (Alike (onto (ground f))) (onto_ground g q) (onto_kept ((alike_tests _ _).0 h))))

-- ---- shifts

-- a shift less k
unfoldable pub down : ℤ → Option ℤ → Option ℤ
down k none = none
down k (some z) = some (z -ℤ k)

pub lesser_comm : (x y : Option ℤ) → lesser x y ≡ lesser y x
unfolding lesser
lesser_comm none none = refl
lesser_comm none (some b) = refl
lesser_comm (some a) none = refl
lesser_comm (some a) (some b) = go (le_z a b) (le_z b a) refl refl
  where
    go : (t u : Bool) → le_z a b ≡ t → le_z b a ≡ u → (if le_z a b then some a else some b) ≡ (if le_z b a then some b else some a)
    go true true p q =
        let e : a ≡ b = eq_of (atom a) (atom b) (omega (arith, of_le (atom a) (atom b) p, of_le (atom b) (atom a) q)) in
        if_true _ _ _ p ∙ ap some e ∙ sym (if_true _ _ _ q)
    go true false p q = if_true _ _ _ p ∙ sym (if_false _ _ _ q)
    go false true p q = if_false _ _ _ p ∙ sym (if_true _ _ _ q)
    go false false p q = absurd (omega (arith, of_not_le (atom a) (atom b) p, of_not_le (atom b) (atom a) q))

off_kept : {f g : Formula} → Alike f g → off f ≡ off g
unfolding off
off_kept itself = refl
off_kept (sides {f = f} {g = g}) = lesser_comm (off f) (off g)
off_kept (left {g = g} p) = ap (λ (x : Option ℤ). lesser x (off g)) (off_kept p)
off_kept (right {f = f} p) = ap (lesser (off f)) (off_kept p)
off_kept (inside p) = refl
off_kept (next p q) = off_kept p ∙ off_kept q

pub alike_off : (f g : Formula) → alike f g ≡ true → off f ≡ off g
alike_off f g h = off_kept ((alike_tests f g).0 h)

lesser_down : (k : ℤ) (x y : Option ℤ) → lesser (down k x) (down k y) ≡ down k (lesser x y)
unfolding lesser down
lesser_down k none y = refl
lesser_down k (some a) none = refl
lesser_down k (some a) (some b) = go (le_z a b) refl
  where
    go : (t : Bool) → le_z a b ≡ t → (if le_z (a -ℤ k) (b -ℤ k) then some (a -ℤ k) else some (b -ℤ k)) ≡ down k (if le_z a b then some a else some b)
    go true p = if_true _ _ _ (le_of (atom a ⊖ atom k) (atom b ⊖ atom k) (omega (arith, of_le (atom a) (atom b) p))) ∙ sym (ap (down k) (if_true _ (some a) (some b) p))
    go false p = if_false _ _ _ (not_le_of (atom a ⊖ atom k) (atom b ⊖ atom k) (omega (arith, of_not_le (atom a) (atom b) p))) ∙ sym (ap (down k) (if_false _ (some a) (some b) p))

off_lower : (k : ℤ) (f : Formula) → off (lower k (ground f)) ≡ down k (off f)
unfolding off off_lit lower lower_base instance instance_lit down
off_lower k (const v) = refl
off_lower k (lit v s nothing c) = refl
off_lower k (lit v s parameter c) = refl
off_lower k (lit v s index c) = ap some (eq_of ((atom c ⊖ num 0) ⊖ atom k) (atom c ⊖ atom k) (omega arith))
off_lower k (join o f g) = ap₂ lesser (off_lower k f) (off_lower k g) ∙ lesser_down k (off f) (off g)
off_lower k (iter o f b c) = ap some (eq_of (less (atom c ⊕ atom k)) (less (atom c) ⊖ atom k) (omega arith))

pub lesser_none : (x y : Option ℤ) → lesser x y ≡ none → (x ≡ none) × (y ≡ none)
unfolding lesser
lesser_none none y h = (refl, h)
lesser_none (some a) none h = (cc, refl)
lesser_none (some a) (some b) h =
    ⊎_elim
    (λ t. let e = sym (if_true _ (some a) (some b) t) ∙ h in (cc, cc))
    (λ t. let e = sym (if_false _ (some a) (some b) t) ∙ h in (cc, cc))
    (decide (le_z a b))

-- a formula without a shift stays as it is
pub none_lower : (k : ℤ) (f : Formula) → off f ≡ none → lower k (ground f) ≡ ground f
unfolding off off_lit lower lower_base instance instance_lit
none_lower k (const v) h = refl
none_lower k (lit v s nothing c) h = refl
none_lower k (lit v s parameter c) h = cc
none_lower k (lit v s index c) h = cc
none_lower k (join o f g) h =
    let e = lesser_none (off f) (off g) h in
    ap₂ (join o) (none_lower k f e.0) (none_lower k g e.1)
none_lower k (iter o f b c) h = cc

-- ---- the law

-- lowered by a, and further to y
further : (f : Formula) (a x y : ℤ) → (a +ℤ x) ≡ y → lower x (lower a (ground f)) ≡ lower y (ground f)
further f a x y e = lower_lower x a (ground f) ∙ ap (λ (z : ℤ). lower z (ground f)) e

module _ (f g : Formula) (a b : ℤ) where
  -- both lowered by x more
  pub both_further : (x y z : ℤ) → (a +ℤ x) ≡ y → (b +ℤ x) ≡ z → alike (lower a (ground f)) (lower b (ground g)) ≡ true → alike (lower y (ground f)) (lower z (ground g)) ≡ true
  both_further x y z p q h =
      ap₂ alike (sym (further f a x y p)) (sym (further g b x z q)) ∙ alike_lower x _ _ h

  pub shifts_fit : alike (lower a (ground f)) (lower b (ground g)) ≡ true → down a (off f) ≡ down b (off g)
  shifts_fit h = sym (off_lower a f) ∙ alike_off _ _ h ∙ off_lower b g

some_same : {x y : ℤ} → some x ≡ some y → x ≡ y
some_same e = cc

module _ (f g : Formula) (a b : ℤ) where
  akin_go : (x y : Option ℤ) → off f ≡ x → off g ≡ y → down a x ≡ down b y → alike (lower a (ground f)) (lower b (ground g)) ≡ true → alike (lower (or_zero x) (ground f)) (lower (or_zero y) (ground g)) ≡ true
  unfolding down or_zero
  akin_go none none p q e h =
      ap₂ alike (none_lower (pos 0) f p ∙ sym (none_lower a f p)) (none_lower (pos 0) g q ∙ sym (none_lower b g q)) ∙ h
  akin_go none (some y) p q e h = cc
  akin_go (some x) none p q e h = cc
  akin_go (some x) (some y) p q e h =
      both_further f g a b (x -ℤ a) x y
      (eq_of (atom a ⊕ (atom x ⊖ atom a)) (atom x) (omega arith))
      (eq_of (atom b ⊕ (atom x ⊖ atom a)) (atom y) (omega (arith, of_eq (atom x ⊖ atom a) (atom y ⊖ atom b) (some_same e))))
      h

  alike_go : (x y : Option ℤ) → off f ≡ x → off g ≡ y → down a x ≡ down b y → alike (lower (or_zero x) (ground f)) (lower (or_zero y) (ground g)) ≡ true → alike (lower a (ground f)) (lower b (ground g)) ≡ true
  unfolding down or_zero
  alike_go none none p q e h =
      ap₂ alike (none_lower a f p ∙ sym (none_lower (pos 0) f p)) (none_lower b g q ∙ sym (none_lower (pos 0) g q)) ∙ h
  alike_go none (some y) p q e h = cc
  alike_go (some x) none p q e h = cc
  alike_go (some x) (some y) p q e h =
      both_further f g x y (a -ℤ x) a b
      (eq_of (atom x ⊕ (atom a ⊖ atom x)) (atom a) (omega arith))
      (eq_of (atom y ⊕ (atom a ⊖ atom x)) (atom b) (omega (arith, of_eq (atom x ⊖ atom a) (atom y ⊖ atom b) (some_same e))))
      h

  -- lowered by a and by b they are alike exactly if they are akin and their shifts fit
  pub alike_akin : alike (lower a (ground f)) (lower b (ground g)) ≡ true → akin f g ≡ true
  unfolding akin level
  alike_akin h = akin_go (off f) (off g) refl refl (shifts_fit f g a b h) h

  pub akin_alike : akin f g ≡ true → down a (off f) ≡ down b (off g) → alike (lower a (ground f)) (lower b (ground g)) ≡ true
  unfolding akin level
  akin_alike h e = alike_go (off f) (off g) refl refl e h
