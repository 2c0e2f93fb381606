-- The plain formula that stands for a wide formula, and the one that stands for its negation.
use Prim.Native.Nat.{ℕ, zero, suc}
use mathlib.Core.Path.{◌≡◌, refl, ◌∙◌, ap, ap₂}
use mathlib.Core.Bool.{Bool, true, false, not}
use lib.IntN.{ℤ, pos, ◌+ℤ◌, ◌-ℤ◌}
use Rattle.stab.specs.Basic.{◌and◌, ◌or◌, ◌implies◌}
use Rattle.stab.specs.Formula.{Op, conj, disj, Formula, loose, fixed}
use Rattle.stab.specs.Formula.{const as const_f, lit as lit_f, join as join_f, iter as iter_f}
use Rattle.stab.specs.Meaning.{Assignment, base, signed, op, empty, over, range_size, value}
use Rattle.stab.proofs.Meanings.{over_same}
use Rattle.wide.specs.WideFormula.{Wide, const, lit, join, iter, neg, imp, equiv, wide_loose, wide_fixed}
use Rattle.wide.specs.WideMeaning.{same, same_as, wide_value}
use Rattle.wide.specs.Plain.{other}

-- the operation, or the one of the negation
unfoldable pub turned : Bool → Op → Op
turned true o = o
turned false o = other o

-- equivalent (true), exclusive or (false), by the plain formulas of the left side and of both sides
unfoldable pub three_forms : Bool → (Bool → Formula) → (Bool → Formula) → Formula
three_forms u f g = join_f disj (join_f conj (f true) (g u)) (join_f conj (f false) (g (not u)))

-- of f (true), of its negation (false)
unfoldable pub plain_form : Bool → Wide → Formula
plain_form v (const w) = const_f (signed v w)
plain_form v (lit w s x c) = lit_f (signed v w) s x c
plain_form v (join o f g) = join_f (turned v o) (plain_form v f) (plain_form v g)
plain_form v (iter o f b c) = iter_f (turned v o) (plain_form v f) b c
plain_form v (neg f) = plain_form (not v) f
plain_form v (imp f g) = join_f (turned v disj) (plain_form (not v) f) (plain_form v g)
plain_form v (equiv w f g) = three_forms (signed v w) (λ u. plain_form u f) (λ u. plain_form u g)

-- ---- what it means

signed_twice : (v w x : Bool) → signed (signed v w) x ≡ signed v (signed w x)
unfolding signed
signed_twice true w x = refl
signed_twice false true x = refl
signed_twice false false true = refl
signed_twice false false false = refl

signed_not : (v x : Bool) → signed (not v) x ≡ signed v (not x)
unfolding signed
signed_not true x = refl
signed_not false true = refl
signed_not false false = refl

-- de Morgan
op_turned : (v : Bool) (o : Op) (x y : Bool) → op (turned v o) (signed v x) (signed v y) ≡ signed v (op o x y)
unfolding turned other op signed ◌and◌ ◌or◌
op_turned true o x y = refl
op_turned false conj true y = refl
op_turned false conj false y = refl
op_turned false disj true y = refl
op_turned false disj false y = refl

empty_turned : (v : Bool) (o : Op) → empty (turned v o) ≡ signed v (empty o)
unfolding empty turned other signed
empty_turned true o = refl
empty_turned false conj = refl
empty_turned false disj = refl

over_turned : (v : Bool) (o : Op) (p : ℤ → Bool) (b : ℤ) (k : ℕ) → over (turned v o) (λ i. signed v (p i)) b k ≡ signed v (over o p b k)
unfolding over
over_turned v o p b zero = empty_turned v o
over_turned v o p b (suc k) =
    ap (λ (x : Bool). op (turned v o) x (signed v (p (b +ℤ pos k)))) (over_turned v o p b k) ∙ op_turned v o (over o p b k) (p (b +ℤ pos k))

implies_turned : (v x y : Bool) → op (turned v disj) (signed (not v) x) (signed v y) ≡ signed v (x implies y)
unfolding turned other op signed ◌and◌ ◌or◌ ◌implies◌
implies_turned true true y = refl
implies_turned true false y = refl
implies_turned false true y = refl
implies_turned false false y = refl

three_turned : (u x y : Bool) → op disj (op conj (signed true x) (signed u y)) (op conj (signed false x) (signed (not u) y)) ≡ same_as u x y
unfolding op signed ◌and◌ ◌or◌ same_as same
three_turned true true true = refl
three_turned true true false = refl
three_turned true false y = refl
three_turned false true true = refl
three_turned false true false = refl
three_turned false false true = refl
three_turned false false false = refl

same_signed : (v w x y : Bool) → same_as (signed v w) x y ≡ signed v (same_as w x y)
unfolding signed same_as
same_signed true w x y = refl
same_signed false true x y = refl
same_signed false false x y = go (same x y)
  where
    go : (z : Bool) → z ≡ not (not z)
    go true = refl
    go false = refl

-- it is true exactly where the wide formula is, and the other exactly where it is false
pub plain_value : (v : Bool) (σ : Assignment) (n : ℕ) (f : Wide) (i : ℤ) → value σ n (plain_form v f) i ≡ signed v (wide_value σ n f i)
unfolding value wide_value plain_form three_forms
plain_value v σ n (const w) i = refl
plain_value v σ n (lit w s x c) i = signed_twice v w (σ s (base n i x +ℤ c))
plain_value v σ n (join o f g) i =
    ap₂ (op (turned v o)) (plain_value v σ n f i) (plain_value v σ n g i) ∙ op_turned v o (wide_value σ n f i) (wide_value σ n g i)
plain_value v σ n (iter o f b c) i =
    over_same (turned v o) _ _ b (range_size b (pos n -ℤ c)) (λ j. plain_value v σ n f j) ∙ over_turned v o (wide_value σ n f) b (range_size b (pos n -ℤ c))
plain_value v σ n (neg f) i = plain_value (not v) σ n f i ∙ signed_not v (wide_value σ n f i)
plain_value v σ n (imp f g) i =
    ap₂ (op (turned v disj)) (plain_value (not v) σ n f i) (plain_value v σ n g i) ∙ implies_turned v (wide_value σ n f i) (wide_value σ n g i)
plain_value v σ n (equiv w f g) i =
    let u : Bool = signed v w in
    ap₂ (op disj)
    (ap₂ (op conj) (plain_value true σ n f i) (plain_value u σ n g i))
    (ap₂ (op conj) (plain_value false σ n f i) (plain_value (not u) σ n g i))
    ∙ three_turned u (wide_value σ n f i) (wide_value σ n g i)
    ∙ same_signed v w (wide_value σ n f i) (wide_value σ n g i)

-- ---- literals on i, literals not on i and iterations stand in it as in the wide formula

or_same : (a : Bool) → (a or a) ≡ a
unfolding ◌or◌
or_same true = refl
or_same false = refl

pub plain_loose : (v : Bool) (f : Wide) → loose (plain_form v f) ≡ wide_loose f
unfolding loose wide_loose plain_form three_forms
plain_loose v (const w) = refl
plain_loose v (lit w s x c) = refl
plain_loose v (join o f g) = ap₂ ◌or◌ (plain_loose v f) (plain_loose v g)
plain_loose v (iter o f b c) = refl
plain_loose v (neg f) = plain_loose (not v) f
plain_loose v (imp f g) = ap₂ ◌or◌ (plain_loose (not v) f) (plain_loose v g)
plain_loose v (equiv w f g) =
    let u : Bool = signed v w in
    ap₂ ◌or◌ (ap₂ ◌or◌ (plain_loose true f) (plain_loose u g)) (ap₂ ◌or◌ (plain_loose false f) (plain_loose (not u) g))
    ∙ or_same (wide_loose f or wide_loose g)

pub plain_fixed : (v : Bool) (f : Wide) → fixed (plain_form v f) ≡ wide_fixed f
unfolding fixed wide_fixed plain_form three_forms
plain_fixed v (const w) = refl
plain_fixed v (lit w s x c) = refl
plain_fixed v (join o f g) = ap₂ ◌or◌ (plain_fixed v f) (plain_fixed v g)
plain_fixed v (iter o f b c) = refl
plain_fixed v (neg f) = plain_fixed (not v) f
plain_fixed v (imp f g) = ap₂ ◌or◌ (plain_fixed (not v) f) (plain_fixed v g)
plain_fixed v (equiv w f g) =
    let u : Bool = signed v w in
    ap₂ ◌or◌ (ap₂ ◌or◌ (plain_fixed true f) (plain_fixed u g)) (ap₂ ◌or◌ (plain_fixed false f) (plain_fixed (not u) g))
    ∙ or_same (wide_fixed f or wide_fixed g)
