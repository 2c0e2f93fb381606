-- Shifts as numbers.
use Rattle.std.specs.Prelude.{if◌then◌else◌}
use Prim.Native.Nat.{ℕ, zero, suc, ◌+◌, ◌-◌, ◌≤◌, ◌<◌, ◌^◌}
use native.Mathlib.Omega.{arith}
use mathlib.Core.Path.{◌≡◌, refl, sym, ◌∙◌, ap}
use mathlib.Core.Logic.{⊎_elim}
use mathlib.Core.Bool.{Bool, true, false}
use mathlib.Core.Option.{Option, none, some}
use lib.Dec.{leb}
use lib.IntN.{ℤ, pos, neg_ℤ, ◌+ℤ◌, ◌-ℤ◌}
use lib.Signed.{mag, le_z}
use mir.Syntax.{w32}
use mir.Val.{of_z, to_z, hbits}
use borrow.Author.Tests.{eq-eqb, ne_eqb, le-leb, lt-leb, leb-true, leb-false}
use Rattle.stab.specs.Basic.{nat}
use Rattle.stab.specs.Formula.{offset}
use Rattle.stab.proofs.Bools.{decide, if_true, if_false}
use Rattle.stab.proofs.Whole.{plus, minus, atom, num, ◌⊕◌, ◌⊖◌, less, parts, eq_of, of_eq, le_of, of_le, of_not_le, plus_nat, minus_nat, nonneg_minus}
use Rattle.signed.proofs.Signs.{read_back}
use Rattle.formula.proofs.RowLaws.{offset_small}
use Rattle.classes.specs.Class.{lesser, or_zero, shift_code, above}
use Rattle.classes.specs.Key.{smaller}
use Rattle.classes.proofs.Slides.{down}

-- p stands for the shift z: it lies in 1..19999 and is 10000 more
pub record Stands (z : ℤ) (p : ℕ) : Type 0 where
  pub more : p + minus z ≡ plus z + 10000
  pub some_where : 1 ≤ p
  pub small : p ≤ 19999

abbrev pub Coded : Option ℤ → ℕ → Type 0
Coded none p = p ≡ 0
Coded (some z) p = Stands z p

-- ---- offsets

stands_of : (z : ℤ) → plus z ≤ 9999 + minus z → minus z ≤ 9999 + plus z → Stands z (nat (z +ℤ pos 10000))
stands_of z l u =
    let e = plus_nat (z +ℤ pos 10000) in
    let s = parts (atom z ⊕ num 10000) in
    let m = nonneg_minus (z +ℤ pos 10000) (le_of (num 0) (atom z ⊕ num 10000) (omega arith)) in
    record { more = omega arith; some_where = omega arith; small = omega arith }

pub offset_stands : (z : ℤ) → offset z ≡ true → Stands z (shift_code (some z))
unfolding shift_code
offset_stands z h = let o = offset_small z h in stands_of z (omega (arith, plus_nat z)) (omega (arith, minus_nat z))

pub limit_stands : (z : ℤ) → offset z ≡ true → Stands (neg_ℤ z) (shift_code (some (neg_ℤ z)))
unfolding shift_code
limit_stands z h =
    let o = offset_small z h in
    let s = parts (less (atom z)) in
    stands_of (neg_ℤ z) (omega (arith, minus_nat z)) (omega (arith, plus_nat z))

-- the same number, read back
pub offset_read : (z : ℤ) → mag z < 2 ^ hbits w32 → offset z ≡ true → offset (to_z w32 (of_z w32 z)) ≡ true
offset_read z l h = ap offset (read_back z l) ∙ h

-- as the code works them out
pub raised_is : (z : ℤ) → offset z ≡ true → nat z + 10000 - nat (neg_ℤ z) ≡ shift_code (some z)
raised_is z h = omega (arith, plus_nat z, minus_nat z, (offset_stands z h).more)

pub mirrored_is : (z : ℤ) → offset z ≡ true → nat (neg_ℤ z) + 10000 - nat z ≡ shift_code (some (neg_ℤ z))
mirrored_is z h = omega (arith, plus_nat z, minus_nat z, (limit_stands z h).more, parts (less (atom z)))

-- the same shift has the same number
pub stands_same : {y z : ℤ} {p q : ℕ} → Stands y p → Stands z q → p ≡ q → y ≡ z
stands_same {y} {z} s t e = eq_of (atom y) (atom z) (omega (arith, s.more, t.more))

-- ---- the smaller of two shifts

module _ (p q : ℕ) where
  pub smaller_left : p ≡ 0 → smaller p q ≡ q
  unfolding smaller
  smaller_left e = if_true _ _ _ (eq-eqb p 0 e)

  pub smaller_right : 1 ≤ p → q ≡ 0 → smaller p q ≡ p
  unfolding smaller
  smaller_right l e = if_false _ _ _ (ne_eqb p 0 (λ z. omega arith)) ∙ if_true _ _ _ (eq-eqb q 0 e)

  pub smaller_le : 1 ≤ p → 1 ≤ q → p ≤ q → smaller p q ≡ p
  unfolding smaller
  smaller_le l k h = if_false _ _ _ (ne_eqb p 0 (λ z. omega arith)) ∙ if_false _ _ _ (ne_eqb q 0 (λ z. omega arith)) ∙ if_true _ _ _ (le-leb p q h)

  pub smaller_lt : 1 ≤ p → 1 ≤ q → q < p → smaller p q ≡ q
  unfolding smaller
  smaller_lt l k h = if_false _ _ _ (ne_eqb p 0 (λ z. omega arith)) ∙ if_false _ _ _ (ne_eqb q 0 (λ z. omega arith)) ∙ if_false _ _ _ (lt-leb p q h)

-- the shift of an and or an or by its parts'
pub lesser_code : (x y : Option ℤ) → Coded x (shift_code x) → Coded y (shift_code y) → shift_code (lesser x y) ≡ smaller (shift_code x) (shift_code y)
unfolding lesser
lesser_code none y h k = sym (smaller_left _ _ h)
lesser_code (some a) none h k = sym (smaller_right _ _ h.some_where k)
lesser_code (some a) (some b) h k = go (le_z a b) refl
  where
    go : (t : Bool) → le_z a b ≡ t → shift_code (if le_z a b then some a else some b) ≡ smaller (shift_code (some a)) (shift_code (some b))
    go true e = ap shift_code (if_true _ (some a) (some b) e) ∙ sym (smaller_le _ _ h.some_where k.some_where (omega (arith, h.more, k.more, of_le (atom a) (atom b) e)))
    go false e = ap shift_code (if_false _ (some a) (some b) e) ∙ sym (smaller_lt _ _ h.some_where k.some_where (omega (arith, h.more, k.more, of_not_le (atom a) (atom b) e)))

pub lesser_coded : (x y : Option ℤ) → Coded x (shift_code x) → Coded y (shift_code y) → Coded (lesser x y) (shift_code (lesser x y))
unfolding lesser
lesser_coded none y h k = k
lesser_coded (some a) none h k = h
lesser_coded (some a) (some b) h k = go (le_z a b)
  where
    go : (t : Bool) → Coded (if t then some a else some b) (shift_code (if t then some a else some b))
    go true = h
    go false = k

-- the smaller lies below each that is not missing
pub smaller_below : (p q : ℕ) → ((1 ≤ p → (1 ≤ smaller p q) × (smaller p q ≤ p))) × ((1 ≤ q → (1 ≤ smaller p q) × (smaller p q ≤ q)))
smaller_below zero q = (λ l. absurd (omega arith), λ l. let e = smaller_left zero q refl in (omega arith, omega arith))
smaller_below (suc p) zero = let e = smaller_right (suc p) zero (omega arith) refl in (λ l. (omega arith, omega arith), λ l. absurd (omega arith))
smaller_below (suc p) (suc q) =
    ⊎_elim
    (λ t. let e = smaller_le (suc p) (suc q) (omega arith) (omega arith) (leb-true _ _ t) in (λ l. (omega arith, omega arith), λ l. (omega arith, omega (arith, leb-true (suc p) (suc q) t))))
    (λ t. let e = smaller_lt (suc p) (suc q) (omega arith) (omega arith) (leb-false _ _ t) in (λ l. (omega arith, omega (arith, leb-false (suc p) (suc q) t)), λ l. (omega arith, omega arith)))
    (decide (leb (suc p) (suc q)))

-- ---- how far a part's shift lies above the row's

pub above_none : (m p : ℕ) → p ≡ 0 → above m p ≡ 32767
unfolding above
above_none m p e = if_true _ _ _ (eq-eqb p 0 e)

pub above_some : (m p : ℕ) → 1 ≤ p → above m p ≡ p - m
unfolding above
above_some m p l = if_false _ _ _ (ne_eqb p 0 (λ z. omega arith))

-- a part's shift x in a row with the shift w
pub record Part (w x : Option ℤ) : Type 0 where
  pub row : Coded w (shift_code w)
  pub own : Coded x (shift_code x)
  pub under : 1 ≤ shift_code x → (1 ≤ shift_code w) × (shift_code w ≤ shift_code x)

abbrev pub over : Option ℤ → Option ℤ → ℕ
over w x = above (shift_code w) (shift_code x)

over_small : (w : Option ℤ) (z : ℤ) → Part w (some z) → over w (some z) < 32767
over_small w z h = omega (arith, above_some (shift_code w) (shift_code (some z)) h.own.some_where, h.own.small)

module _ (w w' : ℤ) (z z' : ℤ) (h : Part (some w) (some z)) (h' : Part (some w') (some z')) where
  over_same : (z -ℤ w) ≡ (z' -ℤ w') → over (some w) (some z) ≡ over (some w') (some z')
  over_same e =
      omega
      (arith, of_eq (atom z ⊖ atom w) (atom z' ⊖ atom w') e, h.row.more, h'.row.more, h.own.more, h'.own.more, above_some (shift_code (some w)) (shift_code (some z)) h.own.some_where, above_some (shift_code (some w')) (shift_code (some z')) h'.own.some_where)

  same_over : over (some w) (some z) ≡ over (some w') (some z') → (z -ℤ w) ≡ (z' -ℤ w')
  same_over e =
      eq_of (atom z ⊖ atom w) (atom z' ⊖ atom w')
      (omega
      (arith, e, h.under h.own.some_where, h'.under h'.own.some_where, h.row.more, h'.row.more, h.own.more, h'.own.more, above_some (shift_code (some w)) (shift_code (some z)) h.own.some_where, above_some (shift_code (some w')) (shift_code (some z')) h'.own.some_where))

-- as far above exactly if what is left without the row's shift is the same
pub overs_fit : (w x w' x' : Option ℤ) → Part w x → Part w' x' → over w x ≡ over w' x' → down (or_zero w) x ≡ down (or_zero w') x'
unfolding down or_zero
overs_fit w none w' none h h' e = refl
overs_fit w none w' (some z') h h' e = absurd (omega (arith, over_small w' z' h', above_none (shift_code w) (shift_code none) h.own))
overs_fit w (some z) w' none h h' e = absurd (omega (arith, over_small w z h, above_none (shift_code w') (shift_code none) h'.own))
overs_fit none (some z) w' (some z') h h' e = absurd (omega (arith, h.row, h.under h.own.some_where))
overs_fit (some w) (some z) none (some z') h h' e = absurd (omega (arith, h'.row, h'.under h'.own.some_where))
overs_fit (some w) (some z) (some w') (some z') h h' e = ap some (same_over w w' z z' h h' e)

pub fit_overs : (w x w' x' : Option ℤ) → Part w x → Part w' x' → down (or_zero w) x ≡ down (or_zero w') x' → over w x ≡ over w' x'
unfolding down or_zero
fit_overs w none w' none h h' e = above_none (shift_code w) (shift_code none) h.own ∙ sym (above_none (shift_code w') (shift_code none) h'.own)
fit_overs w none w' (some z') h h' e = cc
fit_overs w (some z) w' none h h' e = cc
fit_overs none (some z) w' (some z') h h' e = absurd (omega (arith, h.row, h.under h.own.some_where))
fit_overs (some w) (some z) none (some z') h h' e = absurd (omega (arith, h'.row, h'.under h'.own.some_where))
fit_overs (some w) (some z) (some w') (some z') h h' e = over_same w w' z z' h h' (let k : z -ℤ w ≡ z' -ℤ w' = cc in k)

-- shifts with the same number are the same
pub coded_same : (x y : Option ℤ) → Coded x (shift_code x) → Coded y (shift_code y) → shift_code x ≡ shift_code y → x ≡ y
coded_same none none h k e = refl
coded_same none (some b) h k e = absurd (omega (arith, h, e, k.some_where))
coded_same (some a) none h k e = absurd (omega (arith, k, e, h.some_where))
coded_same (some a) (some b) h k e = ap some (stands_same h k e)
