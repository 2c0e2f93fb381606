-- The meaning of formulas is what the paper says: iterations, lowering, instances.
use Prim.Native.Nat.{ℕ, zero, suc}
use native.Mathlib.Omega.{arith}
use mathlib.Core.Path.{◌≡◌, refl, ◌∙◌, ap, ap₂}
use mathlib.Core.Bool.{Bool, true, not, false≢true}
use borrow.Author.Tests.{leb-true}
use lib.IntN.{ℤ, pos, negsuc, ◌+ℤ◌, ◌-ℤ◌}
use lib.Signed.{le_z, lt_z}
use Rattle.stab.specs.Basic.{◌or◌, nat}
use Rattle.stab.specs.Formula.{Op, nothing, parameter, index, Formula, const, lit, join, iter, on_index, fixed, is_body}
use Rattle.stab.specs.Meaning.{Assignment, base, signed, op, empty, over, range_size, value}
use Rattle.stab.specs.Alike.{lower_base, lower, instance_lit, instance}
use Rattle.stab.proofs.Bools.{or_false_left, or_false_right, false_of_not}
use Rattle.stab.proofs.Whole.{atom, num, ◌⊕◌, ◌⊖◌, le_of, of_le, of_lt, eq_of, of_eq, nat_pos, nat_of}

-- ---- ranges

nat_none : (z : ℤ) → le_z z (pos 0) ≡ true → nat z ≡ 0
unfolding nat
nat_none (pos n) h = omega (arith, leb-true n 0 h)
nat_none (negsuc n) h = refl

-- where b + c ≤ n, the range from b to n - c has one more number than that to n - (c + 1)
range_longer : (b c : ℤ) (n : ℕ) → le_z (b +ℤ c) (pos n) ≡ true → range_size b (pos n -ℤ c) ≡ suc (range_size b (pos n -ℤ (c +ℤ pos 1)))
unfolding range_size
range_longer b c n h =
    let z : ℤ = pos n -ℤ (c +ℤ pos 1) in
    let d : ℕ = nat ((z -ℤ b) +ℤ pos 1) in
    let nonneg : le_z (pos 0) ((z -ℤ b) +ℤ pos 1) ≡ true =
    le_of (num 0) (((num n ⊖ (atom c ⊕ num 1)) ⊖ atom b) ⊕ num 1) (omega (arith, of_le (atom b ⊕ atom c) (num n) h)) in
    let e : pos d ≡ ((z -ℤ b) +ℤ pos 1) = nat_pos ((z -ℤ b) +ℤ pos 1) nonneg in
    nat_of (((pos n -ℤ c) -ℤ b) +ℤ pos 1) (suc d)
    (eq_of (((num n ⊖ atom c) ⊖ atom b) ⊕ num 1) (num (suc d)) (omega (arith, of_eq (num d) (((num n ⊖ (atom c ⊕ num 1)) ⊖ atom b) ⊕ num 1) e)))

-- its last number is n - c
range_last : (b c : ℤ) (n : ℕ) → le_z (b +ℤ c) (pos n) ≡ true → (b +ℤ pos (range_size b (pos n -ℤ (c +ℤ pos 1)))) ≡ (pos n -ℤ c)
unfolding range_size
range_last b c n h =
    let z : ℤ = (pos n -ℤ (c +ℤ pos 1) -ℤ b) +ℤ pos 1 in
    let nonneg : le_z (pos 0) z ≡ true =
    le_of (num 0) (((num n ⊖ (atom c ⊕ num 1)) ⊖ atom b) ⊕ num 1) (omega (arith, of_le (atom b ⊕ atom c) (num n) h)) in
    let e : pos (nat z) ≡ z = nat_pos z nonneg in
    eq_of (atom b ⊕ num (nat z)) (num n ⊖ atom c) (omega (arith, of_eq (num (nat z)) (((num n ⊖ (atom c ⊕ num 1)) ⊖ atom b) ⊕ num 1) e))

-- where n < b + c, it is empty
range_empty : (b c : ℤ) (n : ℕ) → lt_z (pos n) (b +ℤ c) ≡ true → range_size b (pos n -ℤ c) ≡ 0
unfolding range_size
range_empty b c n h =
    nat_none (((pos n -ℤ c) -ℤ b) +ℤ pos 1)
    (le_of (((num n ⊖ atom c) ⊖ atom b) ⊕ num 1) (num 0) (omega (arith, of_lt (num n) (atom b ⊕ atom c) h)))

-- ---- iterations, one step

-- the value of an iteration whose range is not empty, by a shorter one and the body's value at n - c
pub unfolds : (σ : Assignment) (n : ℕ) (o : Op) (f : Formula) (b c i : ℤ) → le_z (b +ℤ c) (pos n) ≡ true → value σ n (iter o f b c) i ≡ op o (value σ n (iter o f b (c +ℤ pos 1)) i) (value σ n f (pos n -ℤ c))
unfolding value over
unfolds σ n o f b c i h =
    ap (over o (value σ n f) b) (range_longer b c n h)
    ∙ ap (λ (j : ℤ). op o (over o (value σ n f) b (range_size b (pos n -ℤ (c +ℤ pos 1)))) (value σ n f j)) (range_last b c n h)

-- an iteration whose range is empty
pub void_value : (σ : Assignment) (n : ℕ) (o : Op) (f : Formula) (b c i : ℤ) → lt_z (pos n) (b +ℤ c) ≡ true → value σ n (iter o f b c) i ≡ empty o
unfolding value over
void_value σ n o f b c i h = ap (over o (value σ n f) b) (range_empty b c n h)

-- ---- bodies, instances, lowering

-- a body's value does not depend on n
pub body_value : (σ : Assignment) (n m : ℕ) (f : Formula) (i : ℤ) → is_body f ≡ true → value σ n f i ≡ value σ m f i
unfolding value is_body fixed base on_index
body_value σ n m (const v) i h = refl
body_value σ n m (lit v s nothing c) i h = refl
body_value σ n m (lit v s parameter c) i h = absurd (false≢true h)
body_value σ n m (lit v s index c) i h = refl
body_value σ n m (join o f g) i h =
    let e = false_of_not (fixed f or fixed g) h in
    ap₂ (op o)
    (body_value σ n m f i (ap not (or_false_left (fixed f) (fixed g) e)))
    (body_value σ n m g i (ap not (or_false_right (fixed f) (fixed g) e)))
body_value σ n m (iter o f b c) i h = absurd (false≢true h)

-- a body's instance at n - c has the value that the body has at i = n - c
pub instance_value : (σ : Assignment) (n : ℕ) (c : ℤ) (f : Formula) (i : ℤ) → is_body f ≡ true → value σ n (instance c f) i ≡ value σ n f (pos n -ℤ c)
unfolding value instance instance_lit is_body fixed base on_index
instance_value σ n c (const v) i h = refl
instance_value σ n c (lit v s nothing d) i h = absurd (false≢true h)
instance_value σ n c (lit v s parameter d) i h = absurd (false≢true h)
instance_value σ n c (lit v s index d) i h =
    ap (λ (j : ℤ). signed v (σ s j)) (eq_of (num n ⊕ (atom d ⊖ atom c)) ((num n ⊖ atom c) ⊕ atom d) (omega arith))
instance_value σ n c (join o f g) i h =
    let e = false_of_not (fixed f or fixed g) h in
    ap₂ (op o)
    (instance_value σ n c f i (ap not (or_false_left (fixed f) (fixed g) e)))
    (instance_value σ n c g i (ap not (or_false_right (fixed f) (fixed g) e)))
instance_value σ n c (iter o f b e) i h = absurd (false≢true h)

-- every iteration in the formula has a body under it
abbrev pub Proper : Formula → Type 0
Proper (const v) = Unit {0}
Proper (lit v s x c) = Unit {0}
Proper (join o f g) = Proper f × Proper g
Proper (iter o f b c) = is_body f ≡ true

lower_limit : (n m : ℕ) (k b c : ℤ) → pos m ≡ (pos n -ℤ k) → range_size b (pos n -ℤ (c +ℤ k)) ≡ range_size b (pos m -ℤ c)
lower_limit n m k b c e =
    ap (range_size b) (eq_of (num n ⊖ (atom c ⊕ atom k)) (num m ⊖ atom c) (omega (arith, of_eq (num m) (num n ⊖ atom k) e)))

pub over_same : (o : Op) (p q : ℤ → Bool) (b : ℤ) (k : ℕ) → ((i : ℤ) → p i ≡ q i) → over o p b k ≡ over o q b k
unfolding over
over_same o p q b zero h = refl
over_same o p q b (suc k) h = ap₂ (op o) (over_same o p q b k h) (h (b +ℤ pos k))

-- a formula lowered by k has at n the value that it has at n - k
pub lower_value : (σ : Assignment) (n m : ℕ) (k : ℤ) (f : Formula) (i : ℤ) → pos m ≡ (pos n -ℤ k) → Proper f → value σ n (lower k f) i ≡ value σ m f i
unfolding value lower lower_base base
lower_value σ n m k (const v) i e p = refl
lower_value σ n m k (lit v s nothing c) i e p = refl
lower_value σ n m k (lit v s parameter c) i e p =
    ap (λ (j : ℤ). signed v (σ s j)) (eq_of (num n ⊕ (atom c ⊖ atom k)) (num m ⊕ atom c) (omega (arith, of_eq (num m) (num n ⊖ atom k) e)))
lower_value σ n m k (lit v s index c) i e p = refl
lower_value σ n m k (join o f g) i e p = ap₂ (op o) (lower_value σ n m k f i e p.0) (lower_value σ n m k g i e p.1)
lower_value σ n m k (iter o f b c) i e p =
    ap (over o (value σ n f) b) (lower_limit n m k b c e)
    ∙ over_same o (value σ n f) (value σ m f) b (range_size b (pos m -ℤ c)) (λ j. body_value σ n m f j p)
