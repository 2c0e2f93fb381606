-- The rows that a row can be, at their places.
use Prim.Native.Nat.{ℕ, zero, suc, ◌+◌, ◌-◌, ◌/◌, ◌%◌, ◌<◌, ◌≤◌}
use native.Mathlib.Omega.{arith}
use native.Mathlib.Nat.{zero-add, add-sub_of_le}
use mathlib.Core.Path.{◌≡◌, refl, sym, ◌∙◌, ap, subst}
use mathlib.Core.Logic.{⊎_elim}
use mathlib.Core.Bool.{true, false, false≢true}
use mathlib.Core.List.Memᴰ
use mathlib.Core.List.{List, [], ◌∷◌, Memᴰ}
use lib.IntN.{ℤ, pos, ◌-ℤ◌}
use lib.ListN.{length, get_or, take, drop, length-append, get_or-append}
use lib.Seq.{get_or_at, get_or-take, get_or-drop, drop-cons}
use Rattle.stab.specs.Basic.{eq_z}
use Rattle.stab.specs.Formula.{Row, row_at}
use Rattle.stab.specs.Check.{same_row}
use Rattle.stab.proofs.Bools.{and_left, and_right, and_both}
use Rattle.stab.proofs.Scans.{below_suc}
use Rattle.stab.proofs.Whole.{eq_z_true, eq_z_of}
use Rattle.small.specs.Small.{over_each, row_of, literal_rows, junction_rows, iteration_rows, rows_for}
use Rattle.small.specs.Fits.{columns}
use Rattle.nextsmall.specs.Places.{RowPlace}

-- ---- how many

pub count_0 : 20 ≡ length (rows_for 0)
unfolding over_each row_of literal_rows junction_rows iteration_rows rows_for
count_0 = refl

pub count_1 : 26 ≡ length (rows_for 1)
unfolding over_each row_of literal_rows junction_rows iteration_rows rows_for
count_1 = refl

pub count_2 : 36 ≡ length (rows_for 2)
unfolding over_each row_of literal_rows junction_rows iteration_rows rows_for
count_2 = refl

pub count_at : (r n k : ℕ) → r ≡ k → n ≡ length (rows_for k) → n ≡ length (rows_for r)
count_at r n k e h = h ∙ ap (λ (j : ℕ). length (rows_for j)) (sym e)

-- ---- which

pub one_less : (v : ℕ) → v ≤ 2 → (v ≡ 0 → ⊥) → pos (v - 1) ≡ pos v -ℤ pos 1
one_less zero l f = absurd (f refl)
one_less (suc zero) l f = refl
one_less (suc (suc zero)) l f = refl
one_less (suc (suc (suc v))) l f = absurd (omega arith)

module _ (f : ℕ → List ℤ) where
  each_length : (n : ℕ) → length (over_each (λ j. f j ∷ []) n) ≡ n
  unfolding over_each
  each_length zero = refl
  each_length (suc n) = omega (arith, length-append (over_each (λ j. f j ∷ []) n) (f n ∷ []), each_length n)

  each_at : (n k : ℕ) → k < n → get_or (over_each (λ j. f j ∷ []) n) k [] ≡ f k
  unfolding over_each
  each_at zero k l = absurd (omega arith)
  each_at (suc n) k l =
      ⊎_elim
      (λ p. get_or-append (over_each (λ j. f j ∷ []) n) (f n ∷ []) [] k (omega (arith, each_length n)) ∙ each_at n k p)
      (λ e. get_or_at (over_each (λ j. f j ∷ []) n) (f n) [] [] k (each_length n ∙ sym e) ∙ ap f (sym e))
      (below_suc k n l)

  -- n rows from a place on, by a rule
  ruled : (xs : List (List ℤ)) (from n : ℕ) → over_each (λ j. f j ∷ []) n ≡ take n (drop from xs) → (k : ℕ) → k < n → f k ≡ get_or xs (from + k) []
  ruled xs from n e k l =
      sym (each_at n k l) ∙ ap (λ (x : List (List ℤ)). get_or x k []) e ∙ get_or-take n (drop from xs) k [] l ∙ get_or-drop from xs k []

pub constant_at : (d : ℕ) → d < 2 → row_of d (pos 0) (pos 0) (pos 1 -ℤ pos 1) ≡ get_or (rows_for 0) d []
unfolding over_each row_of literal_rows junction_rows iteration_rows rows_for
constant_at d l = ruled (λ j. row_of j (pos 0) (pos 0) (pos 1 -ℤ pos 1)) (rows_for 0) 0 2 refl d l ∙ ap (λ (j : ℕ). get_or (rows_for 0) j []) (zero-add d)

pub literal_at : (d : ℕ) → 2 ≤ d → d < 20
    → row_of (2 + (d - 2) / 9) (pos 0) (pos ((d - 2) % 9 / 3)) (pos ((d - 2) % 3) -ℤ pos 1) ≡ get_or (rows_for 0) d []
unfolding over_each row_of literal_rows junction_rows iteration_rows rows_for
literal_at d h l =
    ruled (λ j. row_of (2 + j / 9) (pos 0) (pos (j % 9 / 3)) (pos (j % 3) -ℤ pos 1)) (rows_for 0) 2 18 refl (d - 2) (omega arith)
    ∙ ap (λ (j : ℕ). get_or (rows_for 0) j []) (add-sub_of_le h)

pub junction_1 : (e : ℕ) → e < 2 → row_of (4 + e) (pos 0) (pos 0) (pos 1 -ℤ pos 1) ≡ get_or (rows_for 1) (20 + e) []
unfolding over_each row_of literal_rows junction_rows iteration_rows rows_for
junction_1 e l = ruled (λ j. row_of (4 + j) (pos 0) (pos 0) (pos 1 -ℤ pos 1)) (rows_for 1) 20 2 refl e l

further : (k m e : ℕ) → k ≤ e → m + k + (e - k) ≡ m + e
further k m e h = omega arith

pub iteration_1 : (e : ℕ) → 2 ≤ e → e < 6
    → row_of (6 + (e - 2) / 2) (pos 0) (pos 0) (pos (1 + (e - 2) % 2) -ℤ pos 1) ≡ get_or (rows_for 1) (20 + e) []
unfolding over_each row_of literal_rows junction_rows iteration_rows rows_for
iteration_1 e h l =
    ruled (λ j. row_of (6 + j / 2) (pos 0) (pos 0) (pos (1 + j % 2) -ℤ pos 1)) (rows_for 1) 22 4 refl (e - 2) (omega arith)
    ∙ ap (λ (j : ℕ). get_or (rows_for 1) j []) (further 2 20 e h)

pub junction_2 : (e : ℕ) → e < 8 → row_of (4 + e / 4) (pos (e % 4 / 2)) (pos (e % 2)) (pos 1 -ℤ pos 1) ≡ get_or (rows_for 2) (20 + e) []
unfolding over_each row_of literal_rows junction_rows iteration_rows rows_for
junction_2 e l = ruled (λ j. row_of (4 + j / 4) (pos (j % 4 / 2)) (pos (j % 2)) (pos 1 -ℤ pos 1)) (rows_for 2) 20 8 refl e l

pub iteration_2 : (e : ℕ) → 8 ≤ e → e < 16
    → row_of (6 + (e - 8) / 4) (pos ((e - 8) % 4 / 2)) (pos 0) (pos (1 + (e - 8) % 2) -ℤ pos 1) ≡ get_or (rows_for 2) (20 + e) []
unfolding over_each row_of literal_rows junction_rows iteration_rows rows_for
iteration_2 e h l =
    ruled (λ j. row_of (6 + j / 4) (pos (j % 4 / 2)) (pos 0) (pos (1 + j % 2) -ℤ pos 1)) (rows_for 2) 28 8 refl (e - 8) (omega arith)
    ∙ ap (λ (j : ℕ). get_or (rows_for 2) j []) (further 8 20 e h)

-- the rows without parts stand first
plain_first : (r : ℕ) → r < 3 → take 20 (rows_for 0) ≡ take 20 (rows_for r)
unfolding over_each row_of literal_rows junction_rows iteration_rows rows_for
plain_first zero l = refl
plain_first (suc zero) l = refl
plain_first (suc (suc zero)) l = refl
plain_first (suc (suc (suc r))) l = absurd (omega arith)

pub plain_at : (r d : ℕ) → r < 3 → d < 20 → get_or (rows_for 0) d [] ≡ get_or (rows_for r) d []
plain_at r d l h =
    sym (get_or-take 20 (rows_for 0) d [] h) ∙ ap (λ (x : List (List ℤ)). get_or x d []) (plain_first r l) ∙ get_or-take 20 (rows_for r) d [] h

-- those with parts, by the number of the row
pub over_1 : (r d : ℕ) → r ≡ 1 → d < length (rows_for r) → d - 20 < 6
over_1 r d e l = omega (arith, count_at r 26 1 e count_1)

pub over_2 : (r d : ℕ) → r < 3 → 20 ≤ d → d < length (rows_for r) → (r ≡ 1 → ⊥) → (r ≡ 2) × (d - 20 < 16)
over_2 zero d l h k f = absurd (omega (arith, count_0))
over_2 (suc zero) d l h k f = absurd (f refl)
over_2 (suc (suc zero)) d l h k f = (refl, omega (arith, count_2))
over_2 (suc (suc (suc r))) d l h k f = absurd (omega arith)

pub over_at : (r k d : ℕ) → r ≡ k → 20 ≤ d → get_or (rows_for k) (20 + (d - 20)) [] ≡ get_or (rows_for r) d []
over_at r k d e h = (λ i. get_or (rows_for (sym e i)) (add-sub_of_le h i) [])

-- ---- a row looked for

module _ (v w : Row) where
  pub same_columns : same_row v w ≡ true → columns w ≡ columns v
  unfolding same_row
  same_columns h =
      let p = eq_z_true v.kind w.kind (and_left _ _ h) in
      let h1 = and_right (eq_z v.kind w.kind) _ h in
      let q = eq_z_true v.a w.a (and_left _ _ h1) in
      let h2 = and_right (eq_z v.a w.a) _ h1 in
      let s = eq_z_true v.b w.b (and_left _ _ h2) in
      let t = eq_z_true v.c w.c (and_right (eq_z v.b w.b) _ h2) in
      sym (λ i. p i ∷ q i ∷ s i ∷ t i ∷ [])

  other_columns : same_row v w ≡ false → columns v ≡ columns w → ⊥
  unfolding same_row
  other_columns h e =
      let p : v.kind ≡ w.kind = cc in
      let q : v.a ≡ w.a = cc in
      let s : v.b ≡ w.b = cc in
      let t : v.c ≡ w.c = cc in
      false≢true
      (sym h
      ∙ and_both _ _ (eq_z_of v.kind w.kind p)
      (and_both _ _ (eq_z_of v.a w.a q) (and_both _ _ (eq_z_of v.b w.b s) (eq_z_of v.c w.c t))))

-- row r of t stands at place d or later, if it stands anywhere
abbrev pub Later : List ℤ → ℕ → ℕ → Type 0
Later t r d = Memᴰ (columns (row_at t r)) (rows_for r) → Memᴰ (columns (row_at t r)) (drop d (rows_for r))

module _ (t : List ℤ) (r : ℕ) where
  pub later_more : (d : ℕ) (w : Row) → d < length (rows_for r) → columns w ≡ get_or (rows_for r) d [] → same_row (row_at t r) w ≡ false → Later t r d → Later t r (d + 1)
  later_more d w l e h f m =
      let s : suc d ≡ d + 1 = omega arith in
      subst (λ (j : ℕ). Memᴰ (columns (row_at t r)) (drop j (rows_for r))) s
      (⊎_elim
      (λ p. absurd (other_columns (row_at t r) w h (p ∙ sym e)))
      (λ k. k)
      (Memᴰ.cases_cons (subst (Memᴰ (columns (row_at t r))) (drop-cons (rows_for r) d [] l) (f m))))

  pub row_here : (d n : ℕ) (w : Row) → n ≡ length (rows_for r) → d < n → columns w ≡ get_or (rows_for r) d [] → same_row (row_at t r) w ≡ true → RowPlace t r d
  row_here d n w c l e h =
      record { here = λ _. sym e ∙ same_columns (row_at t r) w h; nowhere = λ k. absurd (omega arith) }
