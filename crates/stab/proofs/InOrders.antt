-- What the check with sides in order accepts, the check with sides in either order accepts too, with the same counts.
use Prim.Native.Nat.{ℕ}
use mathlib.Core.Path.{◌≡◌, ◌∙◌}
use mathlib.Core.Logic.{⊎_elim}
use mathlib.Core.Bool.{Bool, true, false≢true}
use mathlib.Core.List.{List, [], ◌∷◌}
use lib.IntN.{ℤ}
use Rattle.stab.specs.Basic.{◌and◌, ◌or◌, eq_z, nat, ◌otherwise◌}
use Rattle.stab.specs.Formula.{Formula, const, lit, join, iter}
use Rattle.stab.specs.Alike.{lower, eq_op, alike}
use Rattle.stab.specs.Node.{Tableau, row, formula, node, set}
use Rattle.stab.specs.Rule.{shortened, is_instance, partners_fit, is_lowered, has_lowered, lowered_fits, children_as}
use Rattle.stab.specs.Check.{at_unless, step_refusal, node_refusal, refusal, older_mode, verdict, verdict_on, check_older, link_count}
use Rattle.stab.specs.Before.{step_by, node_by, refusal_by, check_by, agree, partners_in_order, has_lowered_in_order, lowered_in_order, tests_in_order}
use Rattle.stab.specs.declared.Refusal.{Refusal}
use Rattle.stab.specs.Finding.{accept, Finding, no_refusal}
use Rattle.stab.proofs.Bools.{and_left, and_right, and_both, or_cases, or_left, or_right, implies_use, implies_make, otherwise_first, otherwise_second, otherwise_nothing}
use Rattle.stab.proofs.Scans.{all_use, all_make}
use Rattle.stab.proofs.Tests.{itself, at_clears}
use Rattle.stab.proofs.Exactness.Checked.{refusal_by_kept}
use Rattle.stab.proofs.Exactness.Refusals.{accepted}

-- formulas that agree with sides in order are alike
pub agree_alike : (f g : Formula) → agree f g ≡ true → alike f g ≡ true
unfolding agree alike
agree_alike (const v) (const w) h = h
agree_alike (const v) (lit w t y d) h = absurd (false≢true h)
agree_alike (const v) (join p i k) h = absurd (false≢true h)
agree_alike (const v) (iter p i b d) h = absurd (false≢true h)
agree_alike (lit v s x c) (const w) h = absurd (false≢true h)
agree_alike (lit v s x c) (lit w t y d) h = h
agree_alike (lit v s x c) (join p i k) h = absurd (false≢true h)
agree_alike (lit v s x c) (iter p i b d) h = absurd (false≢true h)
agree_alike (join o f g) (const w) h = absurd (false≢true h)
agree_alike (join o f g) (lit w t y d) h = absurd (false≢true h)
agree_alike (join o f g) (join p i k) h =
    let l : (agree f i and agree g k) ≡ true = and_right (eq_op o p) _ h in
    and_both (eq_op o p) (alike f i and alike g k or alike f k and alike g i) (and_left _ (agree f i and agree g k) h)
    (or_left (alike f i and alike g k) _ (and_both _ _ (agree_alike f i (and_left _ _ l)) (agree_alike g k (and_right (agree f i) _ l))))
agree_alike (join o f g) (iter p i b d) h = absurd (false≢true h)
agree_alike (iter o f b c) (const w) h = absurd (false≢true h)
agree_alike (iter o f b c) (lit w t y d) h = absurd (false≢true h)
agree_alike (iter o f b c) (join p i k) h = absurd (false≢true h)
agree_alike (iter o f b c) (iter p i d e) h =
    let l : (agree f i and eq_z b d and eq_z c e) ≡ true = and_right (eq_op o p) _ h in
    and_both _ _ (and_left _ (agree f i and eq_z b d and eq_z c e) h)
    (and_both _ _ (agree_alike f i (and_left _ _ l)) (and_right (agree f i) _ l))

-- ---- refusals 15 and 16

partners_kept : (T : Tableau) (j : ℕ) → partners_in_order T j ≡ true → partners_fit T j ≡ true
unfolding partners_in_order partners_fit is_instance
partners_kept T j h =
    implies_make _ _ (λ r.
    let p = implies_use _ _ h r in
    and_both _ _ (and_left _ _ p) (agree_alike _ _ (and_right (shortened (row T (node T j).on) (row T (node T j).with)) _ p)))

has_kept : (T : Tableau) (k : ℤ) (xs : List ℤ) (z : ℤ) → has_lowered_in_order T k xs z ≡ true → has_lowered T k xs z ≡ true
unfolding has_lowered_in_order has_lowered is_lowered
has_kept T k [] z h = h
has_kept T k (x ∷ xs) z h =
    ⊎_elim
    (λ e. or_left _ _ (agree_alike _ _ e))
    (λ e. or_right (alike (lower k (formula T z)) (formula T x)) _ (has_kept T k xs z e))
    (or_cases (agree (lower k (formula T z)) (formula T x)) _ h)

lowered_kept : (T : Tableau) (j : ℕ) → lowered_in_order T j ≡ true → lowered_fits T j ≡ true
unfolding lowered_in_order lowered_fits
lowered_kept T j h =
    implies_make _ _ (λ r.
    all_make _ (set T (nat (node T j).to)) (λ z m.
    has_kept T (node T j).by (set T j) z
    (all_use (has_lowered_in_order T (node T j).by (set T j)) z (set T (nat (node T j).to)) (implies_use _ _ h r) m)))

-- ---- where nothing is found with sides in order, nothing is found

-- nothing is found by the second where nothing is found by the first
infix 3 ◌clears_too◌
abbrev ◌clears_too◌ : Finding → Finding → Type 0
x clears_too y = x ≡ no_refusal → y ≡ no_refusal

infixr 25 ◌both◌
◌both◌ : {w x y z : Finding} → w clears_too x → y clears_too z → (w otherwise y) clears_too (x otherwise z)
◌both◌ {w} {x} {y} {z} f g h = otherwise_nothing x z (f (otherwise_first w y h)) ∙ g (otherwise_second w y h)

at_kept : {a b : Bool} (why : Refusal) (j : ℕ) → (a ≡ true → b ≡ true) → at_unless a why j clears_too at_unless b why j
at_kept {a} {b} why j f h = (at_clears why j (itself b)).1 (f ((at_clears why j (itself a)).0 h))

step_kept : (T : Tableau) (j : ℕ) → step_by tests_in_order T j clears_too step_refusal T j
unfolding step_by tests_in_order step_refusal
step_kept T j =
    (λ h. h) both (λ h. h) both (λ h. h) both (λ h. h) both at_kept _ j (partners_kept T j) both at_kept _ j (lowered_kept T j)

node_kept : (T : Tableau) (j : ℕ) → node_by tests_in_order T j clears_too node_refusal true T j
unfolding node_by node_refusal children_as
node_kept T j = step_kept T j both (λ h. h)

refusal_kept : (T : Tableau) → refusal_by tests_in_order T clears_too refusal older_mode T
refusal_kept T = refusal_by_kept tests_in_order T (λ parents found j l. node_kept T j (found j l))

-- ---- the theorem

-- 02, No. 4: links and unfoldings that were accepted are accepted, for every tableau, whatever its numbers
pub in_order_accepted : (T : Tableau) (n l : ℕ) → check_by tests_in_order T ≡ accept n l → check_older T ≡ accept n l
unfolding check_by check_older verdict_on verdict
in_order_accepted T n l h =
    let a =
    accepted (refusal_by tests_in_order T) T.node_rows (link_count T) n l h in
    rw (refusal_kept T a.0, a.1, a.2)
