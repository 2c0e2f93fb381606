-- The order of tables, and that the list is ascending by it.
use Rattle.std.specs.Prelude.{if◌then◌else◌}
use Prim.Native.Nat.{ℕ, zero, suc, ◌*◌, ◌<◌, ◌≤◌}
use native.Mathlib.Omega.{arith}
use native.Mathlib.Decide.{dec_le}
use mathlib.Core.Path.{◌≡◌, refl, sym, ◌∙◌, ap, subst}
use mathlib.Core.Logic.{⊎_elim}
use mathlib.Core.Bool.{Bool, true, false, true≢false, false≢true}
use mathlib.Core.List.Memᴰ
use mathlib.Core.List.{List, [], ◌∷◌, ◌++◌, Memᴰ}
use lib.Dec.{leb, eqb}
use lib.IntN.{ℤ}
use lib.ListN.{length, length-append}
use lib.Signed.{lt_z}
use borrow.Author.Tests.{eqb-true, lt-leb}
use Rattle.stab.specs.Basic.{◌and◌, ◌or◌, eq_z, all_of}
use Rattle.stab.proofs.Bools.{and_left, and_right, and_both, and_first_false, and_second_false, or_cases, or_left, or_right, or_false, or_first_false, and_first_true}
use Rattle.stab.proofs.Whole.{atom, of_lt, not_lt_of, eq_z_true, eq_z_refl}
use Rattle.stab.proofs.Scans.{all_use}
use Rattle.small.specs.Small.{on_list, table_before, over_each, row_of, literal_rows, junction_rows, iteration_rows, rows_for, extended, extended_all, tables, filtered, small_tables}
use Rattle.small.specs.Calls.{Ascends}
use Rattle.small.proofs.Lists.{filtered_out, filtered_none, extended_out, extended_all_out}

-- ---- one table before another

same_not_less : (x : ℤ) → lt_z x x ≡ false
same_not_less x = not_lt_of (atom x) (atom x) (omega arith)

pub not_before_itself : (t : List ℤ) → table_before t t ≡ false
unfolding table_before
not_before_itself [] = refl
not_before_itself (x ∷ xs) = or_false _ _ (same_not_less x) (and_second_false (eq_z x x) _ (not_before_itself xs))

less_and_not : (x y : ℤ) → lt_z x y ≡ true → (lt_z y x or eq_z y x) ≡ true → ⊥
less_and_not x y h k =
    ⊎_elim
    (λ l. omega (arith, of_lt (atom x) (atom y) h, of_lt (atom y) (atom x) l))
    (λ e. true≢false (sym h ∙ ap (lt_z x) (eq_z_true y x e) ∙ same_not_less x))
    (or_cases (lt_z y x) (eq_z y x) k)

or_and : (a b c : Bool) → (a or b and c) ≡ true → (a or b) ≡ true
unfolding ◌or◌ ◌and◌
or_and true b c h = refl
or_and false b c h = and_left b c h

pub not_both_before : (t u : List ℤ) → table_before t u ≡ true → table_before u t ≡ true → ⊥
unfolding table_before
not_both_before [] [] h k = false≢true h
not_both_before [] (y ∷ ys) h k = false≢true k
not_both_before (x ∷ xs) [] h k = false≢true h
not_both_before (x ∷ xs) (y ∷ ys) h k =
    ⊎_elim
    (λ l. less_and_not x y l (or_and (lt_z y x) _ _ k))
    (λ p.
    ⊎_elim
    (λ l. less_and_not y x l (or_right (lt_z x y) _ (and_left (eq_z x y) _ p)))
    (λ q. not_both_before xs ys (and_right (eq_z x y) _ p) (and_right (eq_z y x) _ q))
    (or_cases (lt_z y x) _ k))
    (or_cases (lt_z x y) _ h)

-- with the same numbers in front
before_prefix : (t u v : List ℤ) → table_before (t ++ u) (t ++ v) ≡ table_before u v
unfolding table_before
before_prefix [] u v = refl
before_prefix (x ∷ xs) u v =
    or_first_false (lt_z x x) _ (same_not_less x) ∙ and_first_true (eq_z x x) _ (eq_z_refl x) ∙ before_prefix xs u v

-- with any numbers after two tables of one length
before_append : (t u v w : List ℤ) → length t ≡ length u → table_before t u ≡ true → table_before (t ++ v) (u ++ w) ≡ true
unfolding table_before
before_append [] [] v w e h = absurd (false≢true h)
before_append [] (y ∷ ys) v w e h = absurd (omega arith)
before_append (x ∷ xs) [] v w e h = absurd (false≢true h)
before_append (x ∷ xs) (y ∷ ys) v w e h =
    ⊎_elim
    (λ l. or_left (lt_z x y) _ l)
    (λ p. or_right (lt_z x y) _ (and_both (eq_z x y) _ (and_left (eq_z x y) _ p) (before_append xs ys v w (omega arith) (and_right (eq_z x y) _ p))))
    (or_cases (lt_z x y) _ h)

-- ---- ascending lists

-- as a test
ascending : List (List ℤ) → Bool
ascending [] = true
ascending (t ∷ ts) = all_of (table_before t) ts and ascending ts

ascending_ascends : (ts : List (List ℤ)) → ascending ts ≡ true → Ascends ts
unfolding ascending
ascending_ascends [] h = tt
ascending_ascends (t ∷ ts) h =
    (λ u m. all_use (table_before t) u ts (and_left _ (ascending ts) h) m, ascending_ascends ts (and_right (all_of (table_before t) ts) _ h))

append_ascends : (ts us : List (List ℤ)) → Ascends ts → Ascends us → ((t u : List ℤ) → Memᴰ t ts → Memᴰ u us → table_before t u ≡ true) → Ascends (ts ++ us)
append_ascends [] us a b f = b
append_ascends (t ∷ ts) us a b f = (
  λ u m. ⊎_elim (λ k. a.0 u k) (λ k. f t u (Memᴰ.head refl) k) (Memᴰ.append_cases ts m),
  append_ascends ts us a.1 b (λ s u m k. f s u (Memᴰ.tail m) k),
)

extended_ascends : (t : List ℤ) (ws : List (List ℤ)) → Ascends ws → Ascends (extended t ws)
unfolding extended
extended_ascends t [] a = tt
extended_ascends t (w ∷ ws) a = (
  λ u m.
      let k = extended_out u t ws m in
      ap (table_before (t ++ w)) k.2 ∙ before_prefix t w k.0 ∙ a.0 k.0 k.1,
  extended_ascends t ws a.1,
)

extended_all_ascends : (k : ℕ) (ts ws : List (List ℤ)) → ((t : List ℤ) → Memᴰ t ts → length t ≡ k) → Ascends ts → Ascends ws → Ascends (extended_all ts ws)
unfolding extended_all
extended_all_ascends k [] ws same a b = tt
extended_all_ascends k (t ∷ ts) ws same a b =
    append_ascends (extended t ws) (extended_all ts ws) (extended_ascends t ws b) (extended_all_ascends k ts ws (λ u m. same u (Memᴰ.tail m)) a.1 b)
    (λ u v m l.
    let p = extended_out u t ws m in
    let q = extended_all_out v ts ws l in
    ap (λ (x : List ℤ). table_before x v) p.2
    ∙ ap (table_before (t ++ p.0)) q.4
    ∙ before_append t q.0 p.0 q.2 (same t (Memᴰ.head refl) ∙ sym (same q.0 (Memᴰ.tail q.1))) (a.0 q.0 q.1))

filtered_ascends : (p : List ℤ → Bool) (ts : List (List ℤ)) → Ascends ts → Ascends (filtered p ts)
unfolding filtered
filtered_ascends p [] a = tt
filtered_ascends p (t ∷ ts) a = go (p t) (filtered_ascends p ts a.1)
  where
    go : (b : Bool) → Ascends (filtered p ts) → Ascends (if b then t ∷ filtered p ts else filtered p ts)
    go true h = (λ u m. a.0 u (filtered_out p u ts m).0, h)
    go false h = h

-- ---- the rows that a row can be

-- ascending, each of four numbers
rows_ascend : (r : ℕ) → r < 3 → ascending (rows_for r) ≡ true
unfolding ascending all_of table_before ◌and◌ ◌or◌ eq_z over_each row_of literal_rows junction_rows iteration_rows rows_for
rows_ascend zero l = refl
rows_ascend (suc zero) l = refl
rows_ascend (suc (suc zero)) l = refl
rows_ascend (suc (suc (suc r))) l = absurd (omega arith)

fours : (r : ℕ) → r < 3 → all_of (λ (w : List ℤ). eqb (length w) 4) (rows_for r) ≡ true
unfolding all_of ◌and◌ over_each row_of literal_rows junction_rows iteration_rows rows_for
fours zero l = refl
fours (suc zero) l = refl
fours (suc (suc zero)) l = refl
fours (suc (suc (suc r))) l = absurd (omega arith)

pub row_length : (r : ℕ) (w : List ℤ) → r < 3 → Memᴰ w (rows_for r) → length w ≡ 4
row_length r w l m = eqb-true (length w) 4 (all_use (λ (v : List ℤ). eqb (length v) 4) w (rows_for r) (fours r l) m)

-- ---- every table of such rows

pub table_length : (n : ℕ) (t : List ℤ) → n ≤ 3 → Memᴰ t (tables n) → length t ≡ 4 * n
unfolding tables
table_length zero t l m = ⊎_elim (λ e. ap length e) (λ k. absurd (Memᴰ.not-nil k)) (Memᴰ.cases_cons m)
table_length (suc n) t l m =
    let k = extended_all_out t (tables n) (rows_for n) m in
    ap length k.4 ∙ length-append k.0 k.2 ∙ omega (arith, table_length n k.0 (omega arith) k.1, row_length n k.2 (omega arith) k.3)

pub tables_ascend : (n : ℕ) → n ≤ 3 → Ascends (tables n)
unfolding tables
tables_ascend zero l = (λ u m. absurd (Memᴰ.not-nil m), tt)
tables_ascend (suc n) l =
    extended_all_ascends (4 * n) (tables n) (rows_for n) (λ t m. table_length n t (omega arith) m) (tables_ascend n (omega arith)) (ascending_ascends (rows_for n) (rows_ascend n (omega arith)))

-- ---- the list

pub too_many : (n : ℕ) (t : List ℤ) → 3 < n → on_list n t ≡ false
unfolding on_list
too_many n t h = and_second_false (leb 1 n) _ (and_first_false (leb n 3) _ (lt-leb n 3 h))

-- "in ascending order of their numbers, read row after row": each table on the list comes before every later one, so none stands on it twice
pub small_ascends : (n : ℕ) → Ascends (small_tables n)
unfolding small_tables
small_ascends n = go (dec_le n 3)
  where
    go : Dec (n ≤ 3) → Ascends (filtered (on_list n) (tables n))
    go (yes h) = filtered_ascends (on_list n) (tables n) (tables_ascend n h)
    go (no h) = subst Ascends (sym (filtered_none (on_list n) (tables n) (λ t. too_many n t (omega arith)))) tt
