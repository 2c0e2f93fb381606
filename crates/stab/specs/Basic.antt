-- What the paper takes for granted: conjunction and choice, tests on whole numbers, counting and searching below a number.
use Rattle.std.specs.Prelude.{ℕ, zero, suc, Bool, true, false, List, [], ◌∷◌, eqb, ℤ, pos, negsuc, if◌then◌else◌, Ok, Err}
use Rattle.std.proofs.Math.Option.{Option, none, or_else}
use Rattle.std.specs.Int.Signed.{le_z, lt_z}
use Rattle.stab.specs.Finding.{Place, Finding, no_refusal, refuse}
use Rattle.stab.specs.declared.Refusal.{Refusal}

infixr 35 ◌and◌
unfoldable pub ◌and◌ : Bool → Bool → Bool
true and b = b
false and b = false

infixr 30 ◌or◌
unfoldable pub ◌or◌ : Bool → Bool → Bool
true or b = true
false or b = b

-- where the first holds, so does the second
infixr 28 ◌implies◌
unfoldable pub ◌implies◌ : Bool → Bool → Bool
true implies b = b
false implies b = true

unfoldable pub eq_z : ℤ → ℤ → Bool
eq_z (pos a) (pos b) = eqb a b
eq_z (pos a) (negsuc b) = false
eq_z (negsuc a) (pos b) = false
eq_z (negsuc a) (negsuc b) = eqb a b

-- z lies in lo..hi
unfoldable pub within : ℤ → ℤ → ℤ → Bool
within lo hi z = le_z lo z and le_z z hi

-- a whole number as a natural number, 0 where it is negative
unfoldable pub nat : ℤ → ℕ
nat (pos n) = n
nat (negsuc n) = 0

-- z is one of 0, 1, .. n - 1
unfoldable pub below : ℕ → ℤ → Bool
below n z = le_z (pos 0) z and lt_z z (pos n)

-- z stands in the list
unfoldable pub has : ℤ → List ℤ → Bool
has z [] = false
has z (x ∷ xs) = eq_z z x or has z xs

-- every element passes
unfoldable pub all_of : {A : Type 0} → (A → Bool) → List A → Bool
all_of p [] = true
all_of p (x ∷ xs) = p x and all_of p xs

-- each element is smaller than the next
unfoldable pub ascending : List ℤ → Bool
ascending [] = true
ascending (x ∷ []) = true
ascending (x ∷ (y ∷ ys)) = lt_z x y and ascending (y ∷ ys)

unfoldable pub same_list : List ℤ → List ℤ → Bool
same_list [] [] = true
same_list [] (y ∷ ys) = false
same_list (x ∷ xs) [] = false
same_list (x ∷ xs) (y ∷ ys) = eq_z x y and same_list xs ys

-- how many of 0 .. n - 1 pass
unfoldable pub count : (ℕ → Bool) → ℕ → ℕ
count p zero = 0
count p (suc n) = if p n then suc (count p n) else count p n

-- the first finding, if there is one
infixr 25 ◌otherwise◌
unfoldable pub ◌otherwise◌ : Finding → Finding → Finding
Ok u otherwise y = y
Err r otherwise y = Err r

-- the first finding among f 0, f 1, .. f (n - 1)
unfoldable pub scan : (ℕ → Finding) → ℕ → Finding
scan f zero = no_refusal
scan f (suc n) = scan f n otherwise f n

-- a refusal where the test fails
unfoldable pub unless : Bool → Refusal → Place → Finding
unless true why place = no_refusal
unless false why place = refuse why place

-- the first that is there among f 0, f 1, .. f (n - 1)
unfoldable pub first : {A : Type 0} → (ℕ → Option A) → ℕ → Option A
first f zero = none
first f (suc n) = or_else (first f n) (f n)
