-- Two formulas are alike exactly if swaps of sides, one after another, lead from one to the other; so alike is reflexive,
-- symmetric and transitive, its formulas have one value, and lowering keeps it.
use Prim.Native.Nat.{ℕ}
use native.Mathlib.Omega.{arith}
use mathlib.Core.Path.{◌≡◌, refl, ◌∙◌, ap, ap₂}
use mathlib.Core.Logic.{⊎_elim}
use mathlib.Core.Bool.{Bool, true, false, false≢true}
use lib.IntN.{ℤ, pos, ◌+ℤ◌, ◌-ℤ◌}
use Rattle.stab.specs.Basic.{◌and◌, ◌or◌, eq_z}
use Rattle.stab.specs.Formula.{Op, conj, disj, Base, nothing, parameter, index, Formula, const, lit, join, iter, loose}
use Rattle.stab.specs.Meaning.{Assignment, op, range_size, value}
use Rattle.stab.specs.Alike.{lower_base, lower, eq_bool, eq_op, eq_base, alike}
use Rattle.stab.specs.Keeps.{Alike, itself, sides, left, right, inside, next}
use Rattle.stab.proofs.Bools.{and_left, and_right, and_both, or_cases, or_left, or_right, or_comm}
use Rattle.stab.proofs.Whole.{atom, num, ◌⊕◌, ◌⊖◌, eq_of, eq_z_true, eq_z_refl}
use Rattle.stab.proofs.Tests.{◌tests◌}
use Rattle.stab.proofs.Meanings.{over_same}

-- ---- signs, operations, bases

pub eq_bool_true : (v w : Bool) → eq_bool v w ≡ true → v ≡ w
unfolding eq_bool
eq_bool_true true true h = refl
eq_bool_true true false h = absurd (false≢true h)
eq_bool_true false true h = absurd (false≢true h)
eq_bool_true false false h = refl

pub eq_bool_refl : (v : Bool) → eq_bool v v ≡ true
unfolding eq_bool
eq_bool_refl true = refl
eq_bool_refl false = refl

pub eq_op_true : (o p : Op) → eq_op o p ≡ true → o ≡ p
unfolding eq_op
eq_op_true conj conj h = refl
eq_op_true conj disj h = absurd (false≢true h)
eq_op_true disj conj h = absurd (false≢true h)
eq_op_true disj disj h = refl

pub eq_op_refl : (o : Op) → eq_op o o ≡ true
unfolding eq_op
eq_op_refl conj = refl
eq_op_refl disj = refl

eq_base_true : (x y : Base) → eq_base x y ≡ true → x ≡ y
unfolding eq_base
eq_base_true nothing nothing h = refl
eq_base_true nothing parameter h = absurd (false≢true h)
eq_base_true nothing index h = absurd (false≢true h)
eq_base_true parameter nothing h = absurd (false≢true h)
eq_base_true parameter parameter h = refl
eq_base_true parameter index h = absurd (false≢true h)
eq_base_true index nothing h = absurd (false≢true h)
eq_base_true index parameter h = absurd (false≢true h)
eq_base_true index index h = refl

pub eq_base_refl : (x : Base) → eq_base x x ≡ true
unfolding eq_base
eq_base_refl nothing = refl
eq_base_refl parameter = refl
eq_base_refl index = refl

-- ---- going down two formulas together

-- what `alike` finds: the sides of an and, of an or, are met in order or crosswise
data Paired : Formula → Formula → Type 0 where
  same : {f : Formula} → Paired f f
  straight : {o : Op} {f g h k : Formula} → Paired f h → Paired g k → Paired (join o f g) (join o h k)
  crossed : {o : Op} {f g h k : Formula} → Paired f k → Paired g h → Paired (join o f g) (join o h k)
  body : {o : Op} {f h : Formula} {b c : ℤ} → Paired f h → Paired (iter o f b c) (iter o h b c)

paired_trans : {f g h : Formula} → Paired f g → Paired g h → Paired f h
paired_trans same r = r
paired_trans (straight p q) same = straight p q
paired_trans (straight p q) (straight r s) = straight (paired_trans p r) (paired_trans q s)
paired_trans (straight p q) (crossed r s) = crossed (paired_trans p r) (paired_trans q s)
paired_trans (crossed p q) same = crossed p q
paired_trans (crossed p q) (straight r s) = crossed (paired_trans p s) (paired_trans q r)
paired_trans (crossed p q) (crossed r s) = straight (paired_trans p s) (paired_trans q r)
paired_trans (body p) same = body p
paired_trans (body p) (body q) = body (paired_trans p q)

paired_of : (f g : Formula) → alike f g ≡ true → Paired f g
unfolding alike
paired_of (const v) (const w) h = rw (eq_bool_true v w h) same
paired_of (const v) (lit w t y d) h = absurd (false≢true h)
paired_of (const v) (join p i k) h = absurd (false≢true h)
paired_of (const v) (iter p i b d) h = absurd (false≢true h)
paired_of (lit v s x c) (const w) h = absurd (false≢true h)
paired_of (lit v s x c) (lit w t y d) h =
    let k : (eq_z s t and eq_base x y and eq_z c d) ≡ true = and_right (eq_bool v w) _ h in
    let l : (eq_base x y and eq_z c d) ≡ true = and_right (eq_z s t) _ k in
    let e : lit v s x c ≡ lit w t y d =
    cc
    (eq_bool_true v w (and_left _ _ h), eq_z_true s t (and_left _ _ k), eq_base_true x y (and_left _ _ l), eq_z_true c d (and_right (eq_base x y) _ l)) in
    rw e same
paired_of (lit v s x c) (join p i k) h = absurd (false≢true h)
paired_of (lit v s x c) (iter p i b d) h = absurd (false≢true h)
paired_of (join o f g) (const w) h = absurd (false≢true h)
paired_of (join o f g) (lit w t y d) h = absurd (false≢true h)
paired_of (join o f g) (join p i k) h =
    rw (eq_op_true o p (and_left _ (alike f i and alike g k or alike f k and alike g i) h))
    (⊎_elim
    (λ s. straight (paired_of f i (and_left _ _ s)) (paired_of g k (and_right (alike f i) _ s)))
    (λ s. crossed (paired_of f k (and_left _ _ s)) (paired_of g i (and_right (alike f k) _ s)))
    (or_cases (alike f i and alike g k) _ (and_right (eq_op o p) _ h)))
paired_of (join o f g) (iter p i b d) h = absurd (false≢true h)
paired_of (iter o f b c) (const w) h = absurd (false≢true h)
paired_of (iter o f b c) (lit w t y d) h = absurd (false≢true h)
paired_of (iter o f b c) (join p i k) h = absurd (false≢true h)
paired_of (iter o f b c) (iter p i d e) h =
    let k : (alike f i and eq_z b d and eq_z c e) ≡ true = and_right (eq_op o p) _ h in
    let l : (eq_z b d and eq_z c e) ≡ true = and_right (alike f i) _ k in
    rw (eq_op_true o p (and_left _ _ h), eq_z_true b d (and_left _ _ l), eq_z_true c e (and_right (eq_z b d) _ l))
    (body (paired_of f i (and_left _ _ k)))

pub alike_refl : (f : Formula) → alike f f ≡ true
unfolding alike
alike_refl (const v) = eq_bool_refl v
alike_refl (lit v s x c) =
    and_both _ _ (eq_bool_refl v) (and_both _ _ (eq_z_refl s) (and_both _ _ (eq_base_refl x) (eq_z_refl c)))
alike_refl (join o f g) =
    and_both _ _ (eq_op_refl o) (or_left _ _ (and_both _ _ (alike_refl f) (alike_refl g)))
alike_refl (iter o f b c) =
    and_both _ _ (eq_op_refl o) (and_both _ _ (alike_refl f) (and_both _ _ (eq_z_refl b) (eq_z_refl c)))

of_paired : {f g : Formula} → Paired f g → alike f g ≡ true
unfolding alike
of_paired {f} same = alike_refl f
of_paired (straight {o = o} p q) =
    and_both _ _ (eq_op_refl o) (or_left _ _ (and_both _ _ (of_paired p) (of_paired q)))
of_paired (crossed {o = o} {f = f} {g = g} {h = h} {k = k} p q) =
    and_both _ _ (eq_op_refl o) (or_right (alike f h and alike g k) _ (and_both _ _ (of_paired p) (of_paired q)))
of_paired (body {o = o} {b = b} {c = c} p) =
    and_both _ _ (eq_op_refl o) (and_both _ _ (of_paired p) (and_both _ _ (eq_z_refl b) (eq_z_refl c)))

-- ---- the computed test and the plain relation

swapped : {f g : Formula} → Paired f g → Alike f g
swapped same = itself
swapped (straight p q) = next (left (swapped p)) (right (swapped q))
swapped (crossed p q) = next (next (left (swapped p)) (right (swapped q))) sides
swapped (body p) = inside (swapped p)

paired : {f g : Formula} → Alike f g → Paired f g
paired itself = same
paired sides = crossed same same
paired (left p) = straight (paired p) same
paired (right p) = straight same (paired p)
paired (inside p) = body (paired p)
paired (next p q) = paired_trans (paired p) (paired q)

-- the test passes exactly if swaps lead from one formula to the other
pub alike_tests : (f g : Formula) → alike f g tests Alike f g
alike_tests f g = (λ h. swapped (paired_of f g h), λ p. of_paired (paired p))

-- the plain relation is reflexive by `itself`, transitive by `next`, and symmetric
pub alike_turned : {f g : Formula} → Alike f g → Alike g f
alike_turned itself = itself
alike_turned sides = sides
alike_turned (left p) = left (alike_turned p)
alike_turned (right p) = right (alike_turned p)
alike_turned (inside p) = inside (alike_turned p)
alike_turned (next p q) = next (alike_turned q) (alike_turned p)

pub alike_sym : (f g : Formula) → alike f g ≡ true → alike g f ≡ true
alike_sym f g h = (alike_tests g f).1 (alike_turned ((alike_tests f g).0 h))

pub alike_trans : (f g h : Formula) → alike f g ≡ true → alike g h ≡ true → alike f h ≡ true
alike_trans f g h p q = (alike_tests f h).1 (next ((alike_tests f g).0 p) ((alike_tests g h).0 q))

-- ---- what swaps keep

loose_kept : {f g : Formula} → Alike f g → loose f ≡ loose g
unfolding loose
loose_kept itself = refl
loose_kept (sides {f = f} {g = g}) = or_comm (loose f) (loose g)
loose_kept (left {g = g} p) = ap (λ (v : Bool). v or loose g) (loose_kept p)
loose_kept (right {f = f} p) = ap (λ (v : Bool). loose f or v) (loose_kept p)
loose_kept (inside p) = refl
loose_kept (next p q) = loose_kept p ∙ loose_kept q

pub alike_loose : (f g : Formula) → alike f g ≡ true → loose f ≡ loose g
alike_loose f g h = loose_kept ((alike_tests f g).0 h)

-- ---- meaning

op_comm : (o : Op) (v w : Bool) → op o v w ≡ op o w v
unfolding op ◌and◌ ◌or◌
op_comm conj true true = refl
op_comm conj true false = refl
op_comm conj false true = refl
op_comm conj false false = refl
op_comm disj true true = refl
op_comm disj true false = refl
op_comm disj false true = refl
op_comm disj false false = refl

-- formulas that are alike have one value, at every n and i
pub alike_value : (σ : Assignment) (n : ℕ) {f g : Formula} → Alike f g → (i : ℤ) → value σ n f i ≡ value σ n g i
unfolding value
alike_value σ n itself i = refl
alike_value σ n (sides {o = o} {f = f} {g = g}) i = op_comm o (value σ n f i) (value σ n g i)
alike_value σ n (left {o = o} {g = g} p) i = ap (λ (v : Bool). op o v (value σ n g i)) (alike_value σ n p i)
alike_value σ n (right {o = o} {f = f} p) i = ap (op o (value σ n f i)) (alike_value σ n p i)
alike_value σ n (inside {o = o} {f = f} {h = h} {b = b} {c = c} p) i =
    over_same o (value σ n f) (value σ n h) b (range_size b (pos n -ℤ c)) (alike_value σ n p)
alike_value σ n (next p q) i = alike_value σ n p i ∙ alike_value σ n q i

-- ---- lowering

lower_kept : (k : ℤ) {f g : Formula} → Alike f g → Alike (lower k f) (lower k g)
unfolding lower
lower_kept k itself = itself
lower_kept k sides = sides
lower_kept k (left p) = left (lower_kept k p)
lower_kept k (right p) = right (lower_kept k p)
lower_kept k (inside p) = inside p
lower_kept k (next p q) = next (lower_kept k p) (lower_kept k q)

pub alike_lower : (k : ℤ) (f g : Formula) → alike f g ≡ true → alike (lower k f) (lower k g) ≡ true
alike_lower k f g h = (alike_tests (lower k f) (lower k g)).1 (lower_kept k ((alike_tests f g).0 h))

pub lower_lower : (a b : ℤ) (f : Formula) → lower a (lower b f) ≡ lower (b +ℤ a) f
unfolding lower lower_base
lower_lower a b (const v) = refl
lower_lower a b (lit v s nothing c) = refl
lower_lower a b (lit v s parameter c) =
    ap (lit v s parameter) (eq_of ((atom c ⊖ atom b) ⊖ atom a) (atom c ⊖ (atom b ⊕ atom a)) (omega arith))
lower_lower a b (lit v s index c) = refl
lower_lower a b (join o f g) = ap₂ (join o) (lower_lower a b f) (lower_lower a b g)
lower_lower a b (iter o f i c) =
    ap (iter o f i) (eq_of ((atom c ⊕ atom b) ⊕ atom a) (atom c ⊕ (atom b ⊕ atom a)) (omega arith))

pub lower_zero : (f : Formula) → lower (pos 0) f ≡ f
unfolding lower lower_base
lower_zero (const v) = refl
lower_zero (lit v s nothing c) = refl
lower_zero (lit v s parameter c) = ap (lit v s parameter) (eq_of (atom c ⊖ num 0) (atom c) (omega arith))
lower_zero (lit v s index c) = refl
lower_zero (join o f g) = ap₂ (join o) (lower_zero f) (lower_zero g)
lower_zero (iter o f i c) = ap (iter o f i) (eq_of (atom c ⊕ num 0) (atom c) (omega arith))
