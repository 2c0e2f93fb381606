-- Each test of the definitions passes exactly if the statement that it stands for holds.
use Rattle.std.specs.Prelude.{if◌then◌else◌, None, Some}
use Prim.Native.Nat.{ℕ, ◌≤◌, ◌<◌}
use mathlib.Core.Path.{◌≡◌, refl, ◌∙◌, ap, ap₂}
use mathlib.Core.Logic.Iff
use mathlib.Core.Logic.{◌↔◌, ◌⊎◌, inl, inr, ⊎_elim}
use mathlib.Core.Bool.{Bool, true, false, not, true≢false, false≢true}
use mathlib.Core.List.{List, [], ◌∷◌, Memᴰ}
use lib.Dec.{leb, ltb, eqb}
use lib.IntN.{ℤ, pos}
use lib.Signed.{le_z, lt_z, ◌≤ℤ◌, ◌<ℤ◌}
use borrow.Author.Tests.{le-leb, leb-true, lt-ltb, ltb-true, eq-eqb, eqb-true}
use Rattle.stab.specs.Basic.{◌and◌, ◌or◌, ◌implies◌, eq_z, within, below, has, all_of, ascending, same_list, ◌otherwise◌, scan, unless}
use Rattle.stab.specs.Formula.{Row}
use Rattle.stab.specs.Check.{same_row, whole_unless, at_unless}
use Rattle.stab.specs.Finding.{Place, Finding, no_refusal}
use Rattle.stab.specs.declared.Refusal.{Refusal}
use Rattle.stab.specs.Keeps.{Within, Below, Ascending}
use Rattle.stab.proofs.Bools.{and_left, and_right, and_both, or_cases, or_left, or_right, implies_use, implies_make, false_of_not, not_of_false, unless_nothing, nothing_unless, otherwise_first, otherwise_second, otherwise_nothing}
use Rattle.stab.proofs.Whole.{of_le_z, le_z_of, of_lt_z, lt_z_of, eq_z_true, eq_z_of}
use Rattle.stab.proofs.Scans.{scan_nothing, nothing_scan, has_mem, mem_has, all_use, all_make}

infix 3 ◌tests◌
abbrev pub ◌tests◌ : Bool → Type 0 → Type 0
t tests P = (t ≡ true) ↔ P

pub itself : (t : Bool) → t tests (t ≡ true)
itself t = (λ h. h, λ h. h)

-- ---- conjunction and choice

infixr 35 ◌&◌
pub ◌&◌ : {a b : Bool} {A B : Type 0} → a tests A → b tests B → (a and b) tests (A × B)
◌&◌ {a} {b} e f =
    (λ h. (e.0 (and_left a b h), f.0 (and_right a b h)), λ p. and_both a b (e.1 p.0) (f.1 p.1))

pub or_tests : {a b : Bool} {A B : Type 0} → a tests A → b tests B → (a or b) tests (A ⊎ B)
or_tests {a} {b} e f =
    (λ h. ⊎_elim (λ p. inl (e.0 p)) (λ q. inr (f.0 q)) (or_cases a b h), ⊎_elim (λ p. or_left a b (e.1 p)) (λ q. or_right a b (f.1 q)))

infixr 28 ◌⇒◌
pub ◌⇒◌ : {a b : Bool} {A B : Type 0} → a tests A → b tests B → (a implies b) tests (A → B)
◌⇒◌ {a} {b} e f =
    (λ h p. f.0 (implies_use a b h (e.1 p)), λ g. implies_make a b (λ h. f.1 (g (e.0 h))))

pub not_tests : (a : Bool) → not a tests (a ≡ false)
not_tests a = (false_of_not a, not_of_false a)

pub if_tests : {a b : Bool} {A B : Type 0} (c : Bool) → a tests A → b tests B → (if c then a else b) tests ((c ≡ true → A) × (c ≡ false → B))
if_tests true e f = (λ h. (λ c. e.0 h, λ c. absurd (true≢false c)), λ p. e.1 (p.0 refl))
if_tests false e f = (λ h. (λ c. absurd (false≢true c), λ c. f.0 h), λ p. f.1 (p.1 refl))

-- ---- numbers

pub le_tests : (a b : ℕ) → leb a b tests (a ≤ b)
le_tests a b = (leb-true a b, le-leb a b)

pub lt_tests : (a b : ℕ) → ltb a b tests (a < b)
lt_tests a b = (ltb-true a b, lt-ltb a b)

pub eq_tests : (a b : ℕ) → eqb a b tests (a ≡ b)
eq_tests a b = (eqb-true a b, eq-eqb a b)

pub le_z_tests : (a b : ℤ) → le_z a b tests (a ≤ℤ b)
le_z_tests a b = (of_le_z, le_z_of)

pub lt_z_tests : (a b : ℤ) → lt_z a b tests (a <ℤ b)
lt_z_tests a b = (of_lt_z, lt_z_of)

pub eq_z_tests : (a b : ℤ) → eq_z a b tests (a ≡ b)
eq_z_tests a b = (eq_z_true a b, eq_z_of a b)

pub within_tests : (lo hi z : ℤ) → within lo hi z tests Within lo hi z
unfolding within
within_tests lo hi z = le_z_tests lo z & le_z_tests z hi

pub below_tests : (n : ℕ) (z : ℤ) → below n z tests Below n z
unfolding below
below_tests n z = le_z_tests (pos 0) z & lt_z_tests z (pos n)

-- ---- lists

pub has_tests : (z : ℤ) (xs : List ℤ) → has z xs tests Memᴰ z xs
has_tests z xs = (has_mem z xs, mem_has z xs)

pub all_tests : {A : Type 0} {p : A → Bool} {P : A → Type 0} (xs : List A) → ((z : A) → p z tests P z) → all_of p xs tests ((z : A) → Memᴰ z xs → P z)
all_tests {A} {p} xs e =
    (λ h z m. (e z).0 (all_use p z xs h m), λ f. all_make p xs (λ z m. (e z).1 (f z m)))

pub ascending_tests : (xs : List ℤ) → ascending xs tests Ascending xs
unfolding ascending
ascending_tests [] = (λ h. tt, λ u. refl)
ascending_tests (x ∷ []) = (λ h. tt, λ u. refl)
ascending_tests (x ∷ (y ∷ ys)) = lt_z_tests x y & ascending_tests (y ∷ ys)

pub same_list_tests : (xs ys : List ℤ) → same_list xs ys tests (xs ≡ ys)
unfolding same_list
same_list_tests [] [] = (λ h. refl, λ e. refl)
same_list_tests [] (y ∷ ys) = (λ h. absurd (false≢true h), λ e. cc)
same_list_tests (x ∷ xs) [] = (λ h. absurd (false≢true h), λ e. cc)
same_list_tests (x ∷ xs) (y ∷ ys) =
    Iff.trans (eq_z_tests x y & same_list_tests xs ys) (λ p. ap₂ ◌∷◌ p.0 p.1, λ e. (cc, cc))

pub same_row_tests : (v w : Row) → same_row v w tests (v ≡ w)
unfolding same_row
same_row_tests v w =
    Iff.trans
    (eq_z_tests v.kind w.kind & eq_z_tests v.a w.a & eq_z_tests v.b w.b & eq_z_tests v.c w.c)
    (λ p i. record { kind = p.0 i; a = p.1.0 i; b = p.1.1.0 i; c = p.1.1.1 i }, λ e. (ap (λ (r : Row). r.kind) e, (ap (λ (r : Row). r.a) e, (ap (λ (r : Row). r.b) e, ap (λ (r : Row). r.c) e))))

-- ---- findings

-- nothing is found exactly if the statement holds
infix 3 ◌clears◌
abbrev pub ◌clears◌ : Finding → Type 0 → Type 0
x clears P = (x ≡ no_refusal) ↔ P

unless_clears : {t : Bool} {P : Type 0} (why : Refusal) (p : Place) → t tests P → unless t why p clears P
unless_clears {t} why p e = (λ h. e.0 (unless_nothing t why p h), λ q. nothing_unless t why p (e.1 q))

pub whole_clears : {t : Bool} {P : Type 0} (why : Refusal) → t tests P → whole_unless t why clears P
unfolding whole_unless
whole_clears why e = unless_clears why None e

pub at_clears : {t : Bool} {P : Type 0} (why : Refusal) (k : ℕ) → t tests P → at_unless t why k clears P
unfolding at_unless
at_clears why k e = unless_clears why (Some k) e

-- the second finding is asked for only where the first statement holds
pub once_clears : {x y : Finding} {P Q : Type 0} → x clears P → (P → y clears Q) → (x otherwise y) clears (P × Q)
once_clears {x} {y} e f =
    (λ h. let p = e.0 (otherwise_first x y h) in (p, (f p).0 (otherwise_second x y h)), λ p. otherwise_nothing x y (e.1 p.0) ∙ (f p.0).1 p.1)

infixr 25 ◌then◌
pub ◌then◌ : {x y : Finding} {P Q : Type 0} → x clears P → y clears Q → (x otherwise y) clears (P × Q)
e then f = once_clears e (λ p. f)

pub scan_clears : (f : ℕ → Finding) (n : ℕ) {P : ℕ → Type 0} → ((k : ℕ) → k < n → f k clears P k) → scan f n clears ((k : ℕ) → k < n → P k)
scan_clears f n e =
    (λ h k l. (e k l).0 (nothing_scan f n h k l), λ p. scan_nothing f n (λ k l. (e k l).1 (p k l)))
