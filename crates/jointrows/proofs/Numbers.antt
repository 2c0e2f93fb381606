-- The new number of each row of one record.
use Prim.Native.Nat.{ℕ, zero, suc, ◌+◌, ◌-◌, ◌<◌, ◌≤◌}
use native.Mathlib.Omega.{arith}
use mathlib.Core.Path.{◌≡◌, refl, sym, ◌∙◌, ap, ap₂}
use mathlib.Core.Logic.{⊎_elim}
use mathlib.Core.List.{List, [], ◌∷◌, ◌++◌}
use lib.Dec.{ltb}
use lib.ListN.{length, get_or, length-append, get_or-append}
use lib.Seq.{get_or_at, ext_get_or}
use borrow.Author.Tests.{ltb-true, ltb-false}
use Rattle.stab.proofs.Bools.{decide, if_true, if_false}
use Rattle.stab.proofs.Scans.{below_suc}
use Rattle.tidied.specs.Tidied.{new_number}
use Rattle.folds.specs.Folds.{AllSmall}
use Rattle.jointrows.specs.Kept.{placed, numbered, Gives}

-- ---- a table of numbers by its places

numbered_length : (new : ℕ → ℕ) (n : ℕ) → length (numbered new n) ≡ n
unfolding numbered
numbered_length new zero = refl
numbered_length new (suc n) = omega (arith, length-append (numbered new n) (new n ∷ []), numbered_length new n)

numbered_at : (new : ℕ → ℕ) (n r : ℕ) → r < n → get_or (numbered new n) r 0 ≡ new r
unfolding numbered
numbered_at new zero r h = absurd (omega arith)
numbered_at new (suc n) r h =
    ⊎_elim
    (λ l. get_or-append (numbered new n) (new n ∷ []) 0 r (omega (arith, numbered_length new n)) ∙ numbered_at new n r l)
    (λ e. ap (λ (k : ℕ). get_or (numbered new n ++ new n ∷ []) k 0) e ∙ get_or_at (numbered new n) (new n) [] 0 n (numbered_length new n) ∙ ap new (sym e))
    (below_suc r n h)

pub numbered_by : (numbers : List ℕ) (new : ℕ → ℕ) (n : ℕ) → length numbers ≡ n → ((r : ℕ) → r < n → get_or numbers r 0 ≡ new r) → numbers ≡ numbered new n
numbered_by numbers new n l h =
    ext_get_or 0 numbers (numbered new n) (l ∙ sym (numbered_length new n)) (λ r k. let q : r < n = omega arith in h r q ∙ sym (numbered_at new n r q))

pub numbered_same : (new new' : ℕ → ℕ) (n : ℕ) → ((r : ℕ) → r < n → new r ≡ new' r) → numbered new n ≡ numbered new' n
unfolding numbered
numbered_same new new' zero h = refl
numbered_same new new' (suc n) h =
    ap₂ (λ (l : List ℕ) (x : ℕ). l ++ x ∷ []) (numbered_same new new' n (λ r k. h r (omega arith))) (h n (omega arith))

pub gives_at : (numbers : List ℕ) (new : ℕ → ℕ) → Gives numbers new → (r : ℕ) → r < 1024 → get_or numbers r 0 ≡ new r
gives_at numbers new g r h = ap (λ (l : List ℕ). get_or l r 0) g ∙ numbered_at new 1024 r h

-- ---- they are small

new_small : (s : ℕ) (new : List ℕ) (q : ℕ) → q ≤ 4096 → AllSmall new → new_number s new q ≤ 4096
unfolding new_number
new_small s new q h a =
    ⊎_elim
    (λ t. omega (arith, if_true (ltb q s) q (get_or new (q - s) 0) t, h))
    (λ t. omega (arith, if_false (ltb q s) q (get_or new (q - s) 0) t, a (q - s)))
    (decide (ltb q s))

pub placed_small : (t base after r : ℕ) → r < 1024 → base ≤ 1024 → after ≤ 2049 → placed t base after r ≤ 4096
unfolding placed
placed_small t base after r h b d =
    ⊎_elim
    (λ e. omega (arith, if_true (ltb r t) (base + r) (after + (r - t)) e))
    (λ e. omega (arith, if_false (ltb r t) (base + r) (after + (r - t)) e))
    (decide (ltb r t))

past : (xs : List ℕ) (i : ℕ) → length xs ≤ i → get_or xs i 0 ≡ 0
past [] i h = refl
past (x ∷ xs) zero h = absurd (omega arith)
past (x ∷ xs) (suc i) h = past xs i (omega arith)

pub gives_small : (numbers : List ℕ) (t base after s : ℕ) (new : List ℕ) → length numbers ≡ 1024 → base ≤ 1024 → after ≤ 2049 → AllSmall new → ((r : ℕ) → r < 1024 → get_or numbers r 0 ≡ new_number s new (placed t base after r)) → AllSmall numbers
gives_small numbers t base after s new l b d a g i =
    ⊎_elim
    (λ e.
    let h = ltb-true i 1024 e in
    omega (arith, g i h, new_small s new (placed t base after i) (placed_small t base after i h b d) a))
    (λ e. omega (arith, past numbers i (omega (arith, ltb-false i 1024 e, l))))
    (decide (ltb i 1024))
