-- Whole numbers by linear arithmetic. A whole number is the difference of two naturals, `plus z` and `minus z`; an expression
-- over whole numbers has such a pair too, made of its atoms' by sums alone. So an order or an equation of expressions is one
-- line of `omega` on naturals: `le_of e f (omega arith)`, and a fact goes into omega's list as `of_le e f h`.
use Prim.Native.Nat.{ℕ, zero, suc, ◌+◌, ◌≤◌, ◌<◌}
use native.Mathlib.Omega.{arith}
use mathlib.Core.Path.{◌≡◌, refl, sym, ◌∙◌, ap, subst}
use mathlib.Core.Bool.{Bool, true, false, not, false≢true, true≢false}
use lib.Dec.{T, ltb}
use lib.IntN.{ℤ, pos, negsuc, neg_ℤ, sub_ℕ, ◌+ℤ◌, ◌-ℤ◌}
use lib.Signed.{le_z, lt_z, ◌≤ℤ◌, ◌<ℤ◌}
use borrow.Author.Tests.{le-leb, lt-leb, leb-true, leb-false, lt-ltb, le-ltb, ltb-true, ltb-false, eq-eqb, eqb-true}
use Rattle.stab.specs.Basic.{eq_z, nat}

pub plus : ℤ → ℕ
plus (pos n) = n
plus (negsuc n) = 0

pub minus : ℤ → ℕ
minus (pos n) = 0
minus (negsuc n) = suc n

-- ---- the two parts of sums and negations

part_neg : (z : ℤ) → plus (neg_ℤ z) + plus z ≡ minus (neg_ℤ z) + minus z
unfolding plus minus
part_neg (pos zero) = refl
part_neg (pos (suc n)) = omega arith
part_neg (negsuc n) = omega arith

part_cond : (t : Bool) (a b : ℕ) → ltb a b ≡ t → plus (sub_ℕ a b) + b ≡ minus (sub_ℕ a b) + a
unfolding plus minus
part_cond true a b e = rw e (omega (arith, ltb-true a b e))
part_cond false a b e = rw e (omega (arith, ltb-false a b e))

part_sub : (a b : ℕ) → plus (sub_ℕ a b) + b ≡ minus (sub_ℕ a b) + a
part_sub a b = part_cond (ltb a b) a b refl

part_add : (x y : ℤ) → plus (x +ℤ y) + (minus x + minus y) ≡ minus (x +ℤ y) + (plus x + plus y)
unfolding plus minus
part_add (pos a) (pos b) = omega arith
part_add (pos a) (negsuc b) = omega (arith, part_sub a (suc b))
part_add (negsuc a) (pos b) = omega (arith, part_sub b (suc a))
part_add (negsuc a) (negsuc b) = omega arith

-- ---- expressions

infixl 60 ◌⊕◌
infixl 60 ◌⊖◌
pub data Exp : Type 0 where
  -- a whole number, a natural number, and their sums and differences
  atom : ℤ → Exp
  num : ℕ → Exp
  ◌⊕◌ : Exp → Exp → Exp
  ◌⊖◌ : Exp → Exp → Exp
  less : Exp → Exp

abbrev pub eval : Exp → ℤ
eval (atom z) = z
eval (num n) = pos n
eval (e ⊕ f) = eval e +ℤ eval f
eval (e ⊖ f) = eval e -ℤ eval f
eval (less e) = neg_ℤ (eval e)

-- the two naturals whose difference an expression is
abbrev pub side : Exp → Bool → ℕ
side (atom z) true = plus z
side (atom z) false = minus z
side (num n) true = n
side (num n) false = 0
side (e ⊕ f) v = side e v + side f v
side (e ⊖ f) v = side e v + side f (not v)
side (less e) v = side e (not v)

abbrev pub P : Exp → ℕ
P e = side e true

abbrev pub N : Exp → ℕ
N e = side e false

pub parts : (e : Exp) → P e + minus (eval e) ≡ N e + plus (eval e)
unfolding plus minus
parts (atom z) = omega arith
parts (num n) = omega arith
parts (e ⊕ f) = omega (arith, parts e, parts f, part_add (eval e) (eval f))
parts (e ⊖ f) = omega (arith, parts e, parts f, part_add (eval e) (neg_ℤ (eval f)), part_neg (eval f))
parts (less e) = omega (arith, parts e, part_neg (eval e))

-- ---- orders and equations of whole numbers, by their parts

le_parts : (a b : ℤ) → le_z a b ≡ true → plus a + minus b ≤ plus b + minus a
unfolding plus minus
le_parts (pos a) (pos b) h = omega (arith, leb-true a b h)
le_parts (pos a) (negsuc b) h = absurd (false≢true h)
le_parts (negsuc a) (pos b) h = omega arith
le_parts (negsuc a) (negsuc b) h = omega (arith, leb-true b a h)

parts_le : (a b : ℤ) → plus a + minus b ≤ plus b + minus a → le_z a b ≡ true
unfolding plus minus
parts_le (pos a) (pos b) h = le-leb a b (omega arith)
parts_le (pos a) (negsuc b) h = absurd (omega arith)
parts_le (negsuc a) (pos b) h = refl
parts_le (negsuc a) (negsuc b) h = le-leb b a (omega arith)

lt_parts : (a b : ℤ) → lt_z a b ≡ true → plus a + minus b < plus b + minus a
unfolding plus minus
lt_parts (pos a) (pos b) h = omega (arith, ltb-true a b h)
lt_parts (pos a) (negsuc b) h = absurd (false≢true h)
lt_parts (negsuc a) (pos b) h = omega arith
lt_parts (negsuc a) (negsuc b) h = omega (arith, ltb-true b a h)

parts_lt : (a b : ℤ) → plus a + minus b < plus b + minus a → lt_z a b ≡ true
unfolding plus minus
parts_lt (pos a) (pos b) h = lt-ltb a b (omega arith)
parts_lt (pos a) (negsuc b) h = absurd (omega arith)
parts_lt (negsuc a) (pos b) h = refl
parts_lt (negsuc a) (negsuc b) h = lt-ltb b a (omega arith)

not_le_parts : (a b : ℤ) → le_z a b ≡ false → plus b + minus a < plus a + minus b
unfolding plus minus
not_le_parts (pos a) (pos b) h = omega (arith, leb-false a b h)
not_le_parts (pos a) (negsuc b) h = omega arith
not_le_parts (negsuc a) (pos b) h = absurd (true≢false h)
not_le_parts (negsuc a) (negsuc b) h = omega (arith, leb-false b a h)

parts_not_le : (a b : ℤ) → plus b + minus a < plus a + minus b → le_z a b ≡ false
unfolding plus minus
parts_not_le (pos a) (pos b) h = lt-leb a b (omega arith)
parts_not_le (pos a) (negsuc b) h = refl
parts_not_le (negsuc a) (pos b) h = absurd (omega arith)
parts_not_le (negsuc a) (negsuc b) h = lt-leb b a (omega arith)

not_lt_parts : (a b : ℤ) → lt_z a b ≡ false → plus b + minus a ≤ plus a + minus b
unfolding plus minus
not_lt_parts (pos a) (pos b) h = omega (arith, ltb-false a b h)
not_lt_parts (pos a) (negsuc b) h = omega arith
not_lt_parts (negsuc a) (pos b) h = absurd (true≢false h)
not_lt_parts (negsuc a) (negsuc b) h = omega (arith, ltb-false b a h)

parts_not_lt : (a b : ℤ) → plus b + minus a ≤ plus a + minus b → lt_z a b ≡ false
unfolding plus minus
parts_not_lt (pos a) (pos b) h = le-ltb a b (omega arith)
parts_not_lt (pos a) (negsuc b) h = refl
parts_not_lt (negsuc a) (pos b) h = absurd (omega arith)
parts_not_lt (negsuc a) (negsuc b) h = le-ltb b a (omega arith)

parts_eq : (a b : ℤ) → plus a + minus b ≡ plus b + minus a → a ≡ b
unfolding plus minus
parts_eq (pos a) (pos b) h = ap pos (omega arith)
parts_eq (pos a) (negsuc b) h = absurd (omega arith)
parts_eq (negsuc a) (pos b) h = absurd (omega arith)
parts_eq (negsuc a) (negsuc b) h = ap negsuc (omega arith)

eq_parts : (a b : ℤ) → a ≡ b → plus a + minus b ≡ plus b + minus a
eq_parts a b e = ap (λ (x : ℤ). plus a + minus x) (sym e) ∙ ap (λ (x : ℤ). plus x + minus a) e

-- ---- the same of expressions: a fact about whole numbers from naturals, and the other way

pub le_of : (e f : Exp) → P e + N f ≤ P f + N e → le_z (eval e) (eval f) ≡ true
le_of e f h = parts_le (eval e) (eval f) (omega (arith, parts e, parts f))

pub of_le : (e f : Exp) → le_z (eval e) (eval f) ≡ true → P e + N f ≤ P f + N e
of_le e f h = omega (arith, parts e, parts f, le_parts (eval e) (eval f) h)

pub not_le_of : (e f : Exp) → P f + N e < P e + N f → le_z (eval e) (eval f) ≡ false
not_le_of e f h = parts_not_le (eval e) (eval f) (omega (arith, parts e, parts f))

pub of_not_le : (e f : Exp) → le_z (eval e) (eval f) ≡ false → P f + N e < P e + N f
of_not_le e f h = omega (arith, parts e, parts f, not_le_parts (eval e) (eval f) h)

pub lt_of : (e f : Exp) → P e + N f < P f + N e → lt_z (eval e) (eval f) ≡ true
lt_of e f h = parts_lt (eval e) (eval f) (omega (arith, parts e, parts f))

pub of_lt : (e f : Exp) → lt_z (eval e) (eval f) ≡ true → P e + N f < P f + N e
of_lt e f h = omega (arith, parts e, parts f, lt_parts (eval e) (eval f) h)

pub not_lt_of : (e f : Exp) → P f + N e ≤ P e + N f → lt_z (eval e) (eval f) ≡ false
not_lt_of e f h = parts_not_lt (eval e) (eval f) (omega (arith, parts e, parts f))

pub of_not_lt : (e f : Exp) → lt_z (eval e) (eval f) ≡ false → P f + N e ≤ P e + N f
of_not_lt e f h = omega (arith, parts e, parts f, not_lt_parts (eval e) (eval f) h)

pub eq_of : (e f : Exp) → P e + N f ≡ P f + N e → eval e ≡ eval f
eq_of e f h = parts_eq (eval e) (eval f) (omega (arith, parts e, parts f))

pub of_eq : (e f : Exp) → eval e ≡ eval f → P e + N f ≡ P f + N e
of_eq e f h = omega (arith, parts e, parts f, eq_parts (eval e) (eval f) h)

-- ---- the records of `lib.Signed`

is_true : (b : Bool) → T b → b ≡ true
is_true true t = refl
is_true false t = absurd t

true_is : (b : Bool) → b ≡ true → T b
true_is b h = subst T (sym h) tt

pub le_z_of : {a b : ℤ} → a ≤ℤ b → le_z a b ≡ true
le_z_of {a} {b} h = is_true (le_z a b) h.le

pub of_le_z : {a b : ℤ} → le_z a b ≡ true → a ≤ℤ b
of_le_z {a} {b} h = record { le = true_is (le_z a b) h }

pub lt_z_of : {a b : ℤ} → a <ℤ b → lt_z a b ≡ true
lt_z_of {a} {b} h = is_true (lt_z a b) h.lt

pub of_lt_z : {a b : ℤ} → lt_z a b ≡ true → a <ℤ b
of_lt_z {a} {b} h = record { lt = true_is (lt_z a b) h }

-- ---- the test of equality

pub eq_z_true : (a b : ℤ) → eq_z a b ≡ true → a ≡ b
unfolding eq_z
eq_z_true (pos a) (pos b) h = ap pos (eqb-true a b h)
eq_z_true (pos a) (negsuc b) h = absurd (false≢true h)
eq_z_true (negsuc a) (pos b) h = absurd (false≢true h)
eq_z_true (negsuc a) (negsuc b) h = ap negsuc (eqb-true a b h)

pub eq_z_refl : (a : ℤ) → eq_z a a ≡ true
unfolding eq_z
eq_z_refl (pos a) = eq-eqb a a refl
eq_z_refl (negsuc a) = eq-eqb a a refl

pub eq_z_of : (a b : ℤ) → a ≡ b → eq_z a b ≡ true
eq_z_of a b e = subst (λ (x : ℤ). eq_z a x ≡ true) e (eq_z_refl a)

pub eq_z_not : (a b : ℤ) → (a ≡ b → ⊥) → eq_z a b ≡ false
eq_z_not a b f = go (eq_z a b) refl
  where
    go : (t : Bool) → eq_z a b ≡ t → eq_z a b ≡ false
    go true e = absurd (f (eq_z_true a b e))
    go false e = e

pub not_eq_z : (a b : ℤ) → eq_z a b ≡ false → a ≡ b → ⊥
not_eq_z a b h e = true≢false (sym (eq_z_of a b e) ∙ h)

-- ---- natural parts

pub plus_nat : (z : ℤ) → nat z ≡ plus z
unfolding plus nat
plus_nat (pos n) = refl
plus_nat (negsuc n) = refl

pub nat_pos : (z : ℤ) → le_z (pos 0) z ≡ true → pos (nat z) ≡ z
unfolding nat
nat_pos (pos n) h = refl
nat_pos (negsuc n) h = absurd (false≢true h)

pub nonneg_minus : (z : ℤ) → le_z (pos 0) z ≡ true → minus z ≡ 0
unfolding minus
nonneg_minus (pos n) h = refl
nonneg_minus (negsuc n) h = absurd (false≢true h)

-- a natural number below a natural part is below the number
pub nat_le : (z : ℤ) (n : ℕ) → n ≤ nat z → 1 ≤ n → le_z (pos n) z ≡ true
unfolding nat
nat_le (pos m) n h l = le-leb n m h
nat_le (negsuc m) n h l = absurd (omega arith)

-- ---- the natural parts of a number
pub nat_of : (z : ℤ) (n : ℕ) → z ≡ pos n → nat z ≡ n
unfolding nat
nat_of z n e = ap nat e

pub pos_injective : (a b : ℕ) → pos a ≡ pos b → a ≡ b
pos_injective a b e = cc

pub minus_nat : (z : ℤ) → nat (neg_ℤ z) ≡ minus z
unfolding nat
minus_nat (pos zero) = sym (nonneg_minus (pos 0) refl)
minus_nat (pos (suc n)) = sym (nonneg_minus (pos (suc n)) (le_of (num 0) (num (suc n)) (omega arith)))
minus_nat (negsuc n) =
    omega (arith, parts (less (atom (negsuc n))), nonneg_minus (pos (suc n)) (le_of (num 0) (num (suc n)) (omega arith)), plus_nat (negsuc n), plus_nat (pos (suc n)))

pub at_least_0 : (z : ℤ) → nat (neg_ℤ z) ≤ 0 → le_z (pos 0) z ≡ true
unfolding nat
at_least_0 (pos n) h = le-leb 0 n (omega arith)
at_least_0 (negsuc n) h = absurd (omega arith)

pub below_0 : (z : ℤ) → 0 < nat (neg_ℤ z) → le_z (pos 0) z ≡ false
unfolding nat
below_0 (pos zero) h = absurd (omega arith)
below_0 (pos (suc n)) h = absurd (omega arith)
below_0 (negsuc n) h = refl
