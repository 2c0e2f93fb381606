-- Laws of the tests that the definitions are made of.
use Rattle.std.specs.Prelude.{if◌then◌else◌, Ok, Err}
use mathlib.Core.Path.{◌≡◌, refl, sym, ◌∙◌, ap}
use mathlib.Core.Logic.{◌⊎◌, inl, inr}
use mathlib.Core.Bool.{Bool, true, false, not, true≢false, false≢true}
use Rattle.stab.specs.Basic.{◌and◌, ◌or◌, ◌implies◌, ◌otherwise◌, unless}
use Rattle.stab.specs.Finding.{Place, Finding, no_refusal, refuse}
use Rattle.stab.specs.declared.Refusal.{Refusal}

pub and_left : (a b : Bool) → (a and b) ≡ true → a ≡ true
unfolding ◌and◌
and_left true b h = refl
and_left false b h = h

pub and_right : (a b : Bool) → (a and b) ≡ true → b ≡ true
unfolding ◌and◌
and_right true b h = h
and_right false b h = absurd (false≢true h)

pub and_both : (a b : Bool) → a ≡ true → b ≡ true → (a and b) ≡ true
unfolding ◌and◌
and_both true b h k = k
and_both false b h k = h

pub and_first_false : (a b : Bool) → a ≡ false → (a and b) ≡ false
unfolding ◌and◌
and_first_false true b h = absurd (true≢false h)
and_first_false false b h = refl

pub and_second_false : (a b : Bool) → b ≡ false → (a and b) ≡ false
unfolding ◌and◌
and_second_false true b h = h
and_second_false false b h = refl

pub or_cases : (a b : Bool) → (a or b) ≡ true → (a ≡ true) ⊎ (b ≡ true)
unfolding ◌or◌
or_cases true b h = inl refl
or_cases false b h = inr h

pub or_left : (a b : Bool) → a ≡ true → (a or b) ≡ true
unfolding ◌or◌
or_left true b h = refl
or_left false b h = absurd (false≢true h)

pub or_right : (a b : Bool) → b ≡ true → (a or b) ≡ true
unfolding ◌or◌
or_right true b h = refl
or_right false b h = h

pub or_comm : (a b : Bool) → (a or b) ≡ (b or a)
unfolding ◌or◌
or_comm true true = refl
or_comm true false = refl
or_comm false true = refl
or_comm false false = refl

pub or_false : (a b : Bool) → a ≡ false → b ≡ false → (a or b) ≡ false
unfolding ◌or◌
or_false true b h k = h
or_false false b h k = k

pub or_false_left : (a b : Bool) → (a or b) ≡ false → a ≡ false
unfolding ◌or◌
or_false_left true b h = h
or_false_left false b h = refl

pub or_false_right : (a b : Bool) → (a or b) ≡ false → b ≡ false
unfolding ◌or◌
or_false_right true b h = absurd (true≢false h)
or_false_right false b h = h

pub implies_use : (a b : Bool) → (a implies b) ≡ true → a ≡ true → b ≡ true
unfolding ◌implies◌
implies_use true b h k = h
implies_use false b h k = absurd (false≢true k)

pub implies_make : (a b : Bool) → (a ≡ true → b ≡ true) → (a implies b) ≡ true
unfolding ◌implies◌
implies_make true b f = f refl
implies_make false b f = refl

pub not_of_false : (a : Bool) → a ≡ false → not a ≡ true
not_of_false true h = sym h
not_of_false false h = refl

pub false_of_not : (a : Bool) → not a ≡ true → a ≡ false
false_of_not true h = sym h
false_of_not false h = refl

pub not_of_true : (a : Bool) → a ≡ true → not a ≡ false
not_of_true true h = refl
not_of_true false h = sym h

pub true_of_not : (a : Bool) → not a ≡ false → a ≡ true
true_of_not true h = refl
true_of_not false h = sym h

-- a test passes or fails, and which it is is known
pub decide : (a : Bool) → (a ≡ true) ⊎ (a ≡ false)
decide true = inl refl
decide false = inr refl

pub if_true : {A : Type 0} (a : Bool) (x y : A) → a ≡ true → (if a then x else y) ≡ x
if_true true x y h = refl
if_true false x y h = absurd (false≢true h)

pub if_false : {A : Type 0} (a : Bool) (x y : A) → a ≡ false → (if a then x else y) ≡ y
if_false true x y h = absurd (true≢false h)
if_false false x y h = refl

-- two tests that pass on the same are the same
pub same_test : (a b : Bool) → (a ≡ true → b ≡ true) → (b ≡ true → a ≡ true) → a ≡ b
same_test true true f g = refl
same_test true false f g = sym (f refl)
same_test false true f g = g refl
same_test false false f g = refl

-- ---- findings

abbrev is_found : Finding → Bool
is_found (Ok u) = false
is_found (Err r) = true

pub found≢nothing : {why : Refusal} {p : Place} → ¬ (refuse why p ≡ no_refusal)
found≢nothing h = true≢false (ap is_found h)

pub nothing≢found : {why : Refusal} {p : Place} → ¬ (no_refusal ≡ refuse why p)
nothing≢found h = false≢true (ap is_found h)

pub unless_nothing : (a : Bool) (why : Refusal) (p : Place) → unless a why p ≡ no_refusal → a ≡ true
unfolding unless
unless_nothing true why p h = refl
unless_nothing false why p h = absurd (found≢nothing h)

pub nothing_unless : (a : Bool) (why : Refusal) (p : Place) → a ≡ true → unless a why p ≡ no_refusal
unfolding unless
nothing_unless true why p h = refl
nothing_unless false why p h = absurd (false≢true h)

pub found_unless : (a : Bool) (why : Refusal) (p : Place) → a ≡ false → unless a why p ≡ refuse why p
unfolding unless
found_unless true why p h = absurd (true≢false h)
found_unless false why p h = refl

pub otherwise_first : (x y : Finding) → (x otherwise y) ≡ no_refusal → x ≡ no_refusal
unfolding ◌otherwise◌
otherwise_first (Ok u) y h = refl
otherwise_first (Err r) y h = h

pub otherwise_second : (x y : Finding) → (x otherwise y) ≡ no_refusal → y ≡ no_refusal
unfolding ◌otherwise◌
otherwise_second (Ok u) y h = h
otherwise_second (Err r) y h = absurd (found≢nothing h)

pub otherwise_nothing : (x y : Finding) → x ≡ no_refusal → (x otherwise y) ≡ y
unfolding ◌otherwise◌
otherwise_nothing (Ok u) y h = refl
otherwise_nothing (Err r) y h = absurd (found≢nothing h)

pub otherwise_found : (x y : Finding) {why : Refusal} {p : Place} → x ≡ refuse why p → (x otherwise y) ≡ refuse why p
unfolding ◌otherwise◌
otherwise_found (Ok u) y h = absurd (nothing≢found h)
otherwise_found (Err r) y h = h

-- the second finding counts only where the first finds nothing
pub otherwise_same : (x y z : Finding) → (x ≡ no_refusal → y ≡ z) → (x otherwise y) ≡ (x otherwise z)
unfolding ◌otherwise◌
otherwise_same (Ok u) y z h = h refl
otherwise_same (Err r) y z h = refl

pub otherwise_first_same : {x y : Finding} (z : Finding) → x ≡ y → (x otherwise z) ≡ (y otherwise z)
otherwise_first_same z e = ap (λ (w : Finding). w otherwise z) e

-- ---- a test of which one part is known

pub and_first_true : (a b : Bool) → a ≡ true → (a and b) ≡ b
unfolding ◌and◌
and_first_true true b h = refl
and_first_true false b h = absurd (false≢true h)

pub or_first_false : (a b : Bool) → a ≡ false → (a or b) ≡ b
unfolding ◌or◌
or_first_false true b h = absurd (true≢false h)
or_first_false false b h = refl

-- ---- what a function answered, where the code asks whether it said no
pub asked_false : {r t : Bool} → r ≡ t → not r ≡ true → t ≡ false
asked_false {r} {t} e h = sym e ∙ false_of_not r h

pub asked_true : {r t : Bool} → r ≡ t → not r ≡ false → t ≡ true
asked_true {r} {t} e h = sym e ∙ true_of_not r h
