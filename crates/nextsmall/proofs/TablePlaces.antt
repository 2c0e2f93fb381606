-- Tables of such rows at their places, and the first on the list from a place on.
use Prim.Native.Nat.{ℕ, zero, suc, ◌+◌, ◌*◌, ◌-◌, ◌/◌, ◌%◌, ◌<◌, ◌≤◌}
use native.Mathlib.Omega.{arith}
use native.Mathlib.Nat.{suc-mul, zero-mul, mul-le-mul_right, mod-lt, div-add-mod', div-lt_iff_lt-mul}
use native.Mathlib.Numerals.{add-one}
use mathlib.Core.Path.{◌≡◌, refl, sym, ◌∙◌, ap, ap₂, subst}
use mathlib.Core.Logic.{⊎_elim}
use mathlib.Core.Bool.{Bool, true, false}
use mathlib.Core.List.Memᴰ
use mathlib.Core.List.{List, [], ◌∷◌, ◌++◌, append_assoc, Memᴰ}
use mathlib.Core.Option.{none, some}
use lib.IntN.{ℤ}
use lib.ListN.{length, get_or, take, drop, set, length-append, take-append-drop, drop_of_length-le, get_or-append}
use lib.Seq.{get_or-append-add, drop-cons, split_at, take_at, drop_at, take-take, length-take-le, sets-eq}
use Rattle.stab.specs.Formula.{row_at}
use Rattle.stab.proofs.Bools.{decide, if_true, if_false}
use Rattle.stab.proofs.Scans.{below_suc}
use Rattle.small.specs.Small.{on_list, rows_for, extended, extended_all, tables, filtered, small_tables, first_after, next_table}
use Rattle.small.specs.Calls.{Ascends, first_of}
use Rattle.small.specs.Fits.{columns, RowsFit}
use Rattle.small.proofs.Lists.{filtered_out}
use Rattle.small.proofs.Order.{table_length, tables_ascend}
use Rattle.small.proofs.Listed.{last_row, row_of_start, table_fits}
use Rattle.small.proofs.NextTable.{skips, skips_itself, takes_first, after_front, before_behind}
use Rattle.nextsmall.specs.Places.{RowPlace, first_from}
use Rattle.nextsmall.proofs.RowPlaces.{count_0, count_1, count_2}

-- ---- a table with rows after it

extended_length : (t : List ℤ) (ws : List (List ℤ)) → length (extended t ws) ≡ length ws
unfolding extended
extended_length t [] = refl
extended_length t (w ∷ ws) = ap suc (extended_length t ws)

extended_at : (t : List ℤ) (ws : List (List ℤ)) (d : ℕ) → d < length ws → get_or (extended t ws) d [] ≡ t ++ get_or ws d []
unfolding extended
extended_at t [] d l = absurd (omega arith)
extended_at t (w ∷ ws) zero l = refl
extended_at t (w ∷ ws) (suc d) l = extended_at t ws d (omega arith)

all_length : (ts ws : List (List ℤ)) → length (extended_all ts ws) ≡ length ts * length ws
unfolding extended_all
all_length [] ws = sym (zero-mul (length ws))
all_length (t ∷ ts) ws =
    omega (arith, length-append (extended t ws) (extended_all ts ws), extended_length t ws, all_length ts ws, suc-mul (length ts) (length ws))

all_at : (ts ws : List (List ℤ)) (q d : ℕ) → q < length ts → d < length ws → get_or (extended_all ts ws) (q * length ws + d) [] ≡ get_or ts q [] ++ get_or ws d []
unfolding extended_all
all_at [] ws q d l h = absurd (omega arith)
all_at (t ∷ ts) ws zero d l h =
    let e : zero * length ws + d ≡ d = omega (arith, zero-mul (length ws)) in
    ap (λ (j : ℕ). get_or (extended t ws ++ extended_all ts ws) j []) e
    ∙ get_or-append (extended t ws) (extended_all ts ws) [] d (omega (arith, extended_length t ws))
    ∙ extended_at t ws d h
all_at (t ∷ ts) ws (suc q) d l h =
    let e : suc q * length ws + d ≡ length (extended t ws) + (q * length ws + d) = omega (arith, suc-mul q (length ws), extended_length t ws) in
    ap (λ (j : ℕ). get_or (extended t ws ++ extended_all ts ws) j []) e
    ∙ get_or-append-add (extended t ws) (extended_all ts ws) (q * length ws + d) []
    ∙ all_at ts ws q d (omega arith) h

-- ---- how many tables

tables_length : (r : ℕ) → length (tables (suc r)) ≡ length (tables r) * length (rows_for r)
unfolding tables
tables_length r = all_length (tables r) (rows_for r)

pub total_0 : 1 ≡ length (tables 0)
unfolding tables
total_0 = refl

pub total_1 : 20 ≡ length (tables 1)
total_1 = sym (tables_length 0 ∙ ap₂ ◌*◌ (sym total_0) (sym count_0))

pub total_2 : 520 ≡ length (tables 2)
total_2 = sym (tables_length 1 ∙ ap₂ ◌*◌ (sym total_1) (sym count_1))

pub total_3 : 18720 ≡ length (tables 3)
total_3 = sym (tables_length 2 ∙ ap₂ ◌*◌ (sym total_2) (sym count_2))

pub total_at : (n m k : ℕ) → n ≡ k → m ≡ length (tables k) → m ≡ length (tables n)
total_at n m k e h = h ∙ ap (λ (j : ℕ). length (tables j)) (sym e)

pub total_most : (n : ℕ) → n ≤ 3 → length (tables n) ≤ 18720
total_most zero l = omega (arith, total_0)
total_most (suc zero) l = omega (arith, total_1)
total_most (suc (suc zero)) l = omega (arith, total_2)
total_most (suc (suc (suc zero))) l = omega (arith, total_3)
total_most (suc (suc (suc (suc n)))) l = absurd (omega arith)

-- ---- a table of one row more

module _ (r k : ℕ) (c : k ≡ length (rows_for r)) where
  module _ (i d : ℕ) (l : i < length (tables r)) (h : d < k) where
    pub more_below : i * k + d < length (tables (suc r))
    more_below =
        let e : length (tables (suc r)) ≡ length (tables r) * k = tables_length r ∙ ap (λ (j : ℕ). length (tables r) * j) (sym c) in
        omega (arith, mul-le-mul_right k l, suc-mul i k)

    pub more_at : get_or (tables (suc r)) (i * k + d) [] ≡ get_or (tables r) i [] ++ get_or (rows_for r) d []
    unfolding tables
    more_at =
        ap (λ (j : ℕ). get_or (extended_all (tables r) (rows_for r)) (i * j + d) []) c ∙ all_at (tables r) (rows_for r) i d l (omega arith)

  module _ (z : 0 < k) (i : ℕ) (l : i < length (tables (suc r))) where
    pub rest_below : i / k < length (tables r)
    rest_below = (div-lt_iff_lt-mul z).1 (subst (λ (j : ℕ). i < j) (tables_length r ∙ ap (λ (j : ℕ). length (tables r) * j) (sym c)) l)

    pub rest_at : get_or (tables (suc r)) i [] ≡ get_or (tables r) (i / k) [] ++ get_or (rows_for r) (i % k) []
    rest_at = ap (λ (j : ℕ). get_or (tables (suc r)) j []) (sym (div-add-mod' i k)) ∙ more_at (i / k) (i % k) rest_below (mod-lt i z)

-- what stands at a place is one of them
at_in : (ts : List (List ℤ)) (i : ℕ) → i < length ts → Memᴰ (get_or ts i []) ts
at_in ts i l = subst (Memᴰ (get_or ts i [])) (sym (split_at ts i [] l)) (Memᴰ.append_right (take i ts) (Memᴰ.head refl))

module _ (n i : ℕ) (b : n ≤ 3) (l : i < length (tables n)) where
  at_length : length (get_or (tables n) i []) ≡ 4 * n
  at_length = table_length n (get_or (tables n) i []) b (at_in (tables n) i l)

  -- it stands in front of a table
  pub front_is : (t u : List ℤ) → t ≡ get_or (tables n) i [] ++ u → take (4 * n) t ≡ get_or (tables n) i []
  front_is t u e = ap (take (4 * n)) e ∙ take_at (get_or (tables n) i []) u (4 * n) at_length

  pub front_fits : (t u : List ℤ) → t ≡ get_or (tables n) i [] ++ u → RowsFit n (take (4 * n) t)
  front_fits t u e = subst (RowsFit n) (sym (front_is t u e)) (table_fits n (get_or (tables n) i []) b (at_in (tables n) i l))

-- ---- the place of a table

-- the first rows of a table, and one more
take_row : (t : List ℤ) (r : ℕ) → 4 * suc r ≤ length t → take (4 * r) t ++ columns (row_at t r) ≡ take (4 * suc r) t
take_row t r h =
    let u = take (4 * suc r) t in
    let n : length u ≡ 4 * r + 4 = length-take-le (4 * suc r) t h ∙ omega arith in
    ap₂ ◌++◌ (sym (take-take (4 * r) (4 * suc r) t (omega arith))) (ap columns (sym (row_of_start (suc r) r t (omega arith))) ∙ sym (last_row u r n))
    ∙ take-append-drop (4 * r) u

-- i is the place of the first r rows of t
abbrev pub Placed : List ℤ → ℕ → ℕ → Type 0
Placed t r i = (i < length (tables r)) × (get_or (tables r) i [] ≡ take (4 * r) t) × RowsFit r t

pub placed_none : (t : List ℤ) → Placed t 0 0
unfolding tables
placed_none t = (omega arith, refl, λ r l. absurd (omega arith))

module _ (t : List ℤ) (r i k d : ℕ) (h : 4 * (r + 1) ≤ length t) (c : k ≡ length (rows_for r)) (l : d < k) (f : RowPlace t r d) (p : Placed t r i) where
  placed_suc : Placed t (suc r) (i * k + d)
  placed_suc =
      let m : d < length (rows_for r) = omega arith in
      let e = f.here m in (
        more_below r k c i d p.0 l,
        more_at r k c i d p.0 l ∙ ap₂ ◌++◌ p.1 e ∙ take_row t r (omega arith),
        λ j q.
            ⊎_elim
            (λ s. p.2 j s)
            (λ s. subst (λ (x : ℕ). Memᴰ (columns (row_at t x)) (rows_for x)) (sym s) (subst (λ (x : List ℤ). Memᴰ x (rows_for r)) e (at_in (rows_for r) d m)))
            (below_suc j r q),
      )

  pub placed_more : Placed t (r + 1) (i * k + d)
  placed_more = subst (λ (x : ℕ). Placed t x (i * k + d)) (sym (add-one r)) placed_suc

-- ---- the table at a place, row by row

-- four stores
pub row_put : (t : List ℤ) (at : ℕ) (x y z w : ℤ) → at + 4 ≤ length t
    → set (set (set (set t at x) (at + 1) y) (at + 2) z) (at + 3) w ≡ take at t ++ (x ∷ y ∷ z ∷ w ∷ []) ++ drop (at + 4) t
row_put t at x y z w h =
    let p : at + 1 ≡ suc at = omega arith in
    let q : at + 2 ≡ suc (suc at) = omega arith in
    let s : at + 3 ≡ suc (suc (suc at)) = omega arith in
    (λ i. set (set (set (set t at x) (p i) y) (q i) z) (s i) w) ∙ sets-eq (x ∷ y ∷ z ∷ w ∷ []) t at h

pub put_step : (r k i : ℕ) (t u w : List ℤ) → 0 < r → k ≡ length (rows_for (r - 1)) → 0 < k → i < length (tables r) → 4 * (r - 1) + 4 ≤ length t
    → w ≡ get_or (rows_for (r - 1)) (i % k) [] → u ≡ take (4 * (r - 1)) t ++ w ++ drop (4 * (r - 1) + 4) t
    → (i / k < length (tables (r - 1))) × (get_or (tables r) i [] ++ drop (4 * r) t ≡ get_or (tables (r - 1)) (i / k) [] ++ drop (4 * (r - 1)) u)
put_step r k i t u w s c z l h e g =
    let m = r - 1 in
    let n : r ≡ suc m = omega arith in
    let l' : i < length (tables (suc m)) = subst (λ (j : ℕ). i < length (tables j)) n l in
    let q : 4 * r ≡ 4 * m + 4 = omega arith in
    let head = get_or (tables m) (i / k) [] in
    let row = get_or (rows_for m) (i % k) [] in
    let rest : u ≡ take (4 * m) t ++ (w ++ drop (4 * m + 4) t) = g ∙ append_assoc (take (4 * m) t) w (drop (4 * m + 4) t) in (
      rest_below m k c z i l',
      ap₂ (λ (x y : List ℤ). x ++ y) (ap (λ (j : ℕ). get_or (tables j) i []) n ∙ rest_at m k c z i l') (ap (λ (j : ℕ). drop j t) q)
          ∙ append_assoc head row (drop (4 * m + 4) t)
          ∙ ap (λ (x : List ℤ). head ++ (x ++ drop (4 * m + 4) t)) (sym e)
          ∙ ap (λ (x : List ℤ). head ++ x) (sym (ap (drop (4 * m)) rest ∙ drop_at (take (4 * m) t) (w ++ drop (4 * m + 4) t) (4 * m) (length-take-le (4 * m) t (omega arith)))),
    )

pub put_end : (r i : ℕ) (t : List ℤ) → r ≤ 0 → i < length (tables r) → get_or (tables r) i [] ++ drop (4 * r) t ≡ t
unfolding tables
put_end zero zero t h l = refl
put_end zero (suc i) t h l = absurd (omega arith)
put_end (suc r) i t h l = absurd (omega arith)

-- ---- the first on the list from a place on

module _ (p : List ℤ → Bool) where
  filtered_true : (t : List ℤ) (ts : List (List ℤ)) → p t ≡ true → filtered p (t ∷ ts) ≡ t ∷ filtered p ts
  unfolding filtered
  filtered_true t ts h = if_true (p t) _ _ h

  filtered_false : (t : List ℤ) (ts : List (List ℤ)) → p t ≡ false → filtered p (t ∷ ts) ≡ filtered p ts
  unfolding filtered
  filtered_false t ts h = if_false (p t) _ _ h

  filtered_append : (us vs : List (List ℤ)) → filtered p (us ++ vs) ≡ filtered p us ++ filtered p vs
  unfolding filtered
  filtered_append [] vs = refl
  filtered_append (u ∷ us) vs =
      ⊎_elim
      (λ h. filtered_true u (us ++ vs) h ∙ ap (λ (x : List (List ℤ)). u ∷ x) (filtered_append us vs) ∙ ap (λ (x : List (List ℤ)). x ++ filtered p vs) (sym (filtered_true u us h)))
      (λ h. filtered_false u (us ++ vs) h ∙ filtered_append us vs ∙ ap (λ (x : List (List ℤ)). x ++ filtered p vs) (sym (filtered_false u us h)))
      (decide (p u))

  own : (t : List ℤ) (vs : List (List ℤ)) → first_after t (filtered p (t ∷ vs)) ≡ first_after t (filtered p vs)
  own t vs =
      ⊎_elim
      (λ h. ap (first_after t) (filtered_true t vs h) ∙ skips_itself t (filtered p vs))
      (λ h. ap (first_after t) (filtered_false t vs h))
      (decide (p t))

  -- of an ascending list, the first that passes after the one at a place
  after_at : (ts : List (List ℤ)) (i : ℕ) → Ascends ts → i < length ts → first_after (get_or ts i []) (filtered p ts) ≡ first_of (filtered p (drop (suc i) ts))
  after_at ts i a l =
      let t = get_or ts i [] in
      let us = take i ts in
      let vs = drop (suc i) ts in
      let e : ts ≡ us ++ t ∷ vs = split_at ts i [] l in
      let b : Ascends (us ++ t ∷ vs) = subst Ascends e a in
      ap (λ (x : List (List ℤ)). first_after t (filtered p x)) e
      ∙ ap (first_after t) (filtered_append us (t ∷ vs))
      ∙ skips t (filtered p us) (filtered p (t ∷ vs)) (λ u m. after_front us vs t b u (filtered_out p u us m).0)
      ∙ own t vs
      ∙ takes_first t (filtered p vs) (λ v m. before_behind us vs t b v (filtered_out p v vs m).0)

module _ (n i : ℕ) where
  module _ (l : i < length (tables n)) where
    here_first : drop i (tables n) ≡ get_or (tables n) i [] ∷ drop (suc i) (tables n)
    here_first = drop-cons (tables n) i [] l

    pub from_found : on_list n (get_or (tables n) i []) ≡ true → first_from n i ≡ some (get_or (tables n) i [])
    unfolding first_from
    from_found h =
        ap (λ (x : List (List ℤ)). first_of (filtered (on_list n) x)) here_first ∙ ap first_of (filtered_true (on_list n) (get_or (tables n) i []) (drop (suc i) (tables n)) h)

    pub from_on : on_list n (get_or (tables n) i []) ≡ false → first_from n i ≡ first_from n (i + 1)
    unfolding first_from
    from_on h =
        ap (λ (x : List (List ℤ)). first_of (filtered (on_list n) x)) here_first
        ∙ ap first_of (filtered_false (on_list n) (get_or (tables n) i []) (drop (suc i) (tables n)) h)
        ∙ ap (λ (j : ℕ). first_of (filtered (on_list n) (drop j (tables n)))) (sym (add-one i))

    -- the table after the one at a place
    pub next_from : (t : List ℤ) → n ≤ 3 → get_or (tables n) i [] ≡ take (4 * n) t → next_table n t ≡ first_from n (i + 1)
    unfolding first_from next_table small_tables
    next_from t m e =
        ap (λ (x : List ℤ). first_after x (filtered (on_list n) (tables n))) (sym e)
        ∙ after_at (on_list n) (tables n) i (tables_ascend n m) l
        ∙ ap (λ (j : ℕ). first_of (filtered (on_list n) (drop j (tables n)))) (sym (add-one i))

  pub from_end : length (tables n) ≤ i → first_from n i ≡ none
  unfolding first_from filtered
  from_end h = ap (λ (x : List (List ℤ)). first_of (filtered (on_list n) x)) (drop_of_length-le (tables n) {i = i} h)
