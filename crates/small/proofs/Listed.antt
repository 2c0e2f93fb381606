-- Which tables are on the list.
use Prim.Native.Nat.{ℕ, zero, suc, ◌+◌, ◌*◌, ◌-◌, ◌<◌, ◌≤◌}
use native.Mathlib.Omega.{arith}
use mathlib.Core.Path.{◌≡◌, refl, sym, ◌∙◌, ap, subst}
use mathlib.Core.Logic.{◌↔◌, ◌⊎◌, inl, inr, ⊎_elim}
use mathlib.Core.Bool.{Bool, true, not, false≢true}
use mathlib.Core.List.Memᴰ
use mathlib.Core.List.{List, [], ◌∷◌, ◌++◌, Memᴰ}
use lib.Dec.{leb}
use lib.IntN.{ℤ, pos, negsuc, neg_ℤ}
use lib.ListN.{length, get_or, take, drop, length-append, take-append-drop, drop_of_length-le, get_or-append}
use lib.Seq.{drop-cons, drop_at, get_or-take, length-take-le}
use borrow.Author.Tests.{leb-true, le-leb}
use Rattle.stab.specs.Basic.{◌and◌, eq_z, within, nat, below}
use Rattle.stab.specs.Formula.{Row, row_at, Kind, constant, literal, junction, iteration, unknown, kind_of, Formula, tree, is_body, mixes, is_outer, offset, well_formed_as, well_formed}
use Rattle.stab.proofs.Bools.{and_left, and_right, and_both}
use Rattle.stab.proofs.Scans.{below_suc}
use Rattle.stab.proofs.Trees.{below_nat, below_pos, tree_agrees}
use Rattle.stab.proofs.Whole.{atom, num, of_le, eq_z_true, plus_nat, nat_pos, nonneg_minus}
use Rattle.formula.proofs.RowLaws.{unknown_kind}
use Rattle.small.specs.Small.{small_as, is_small, all_small, on_list, row_of, literal_rows, junction_rows, iteration_rows, rows_for, tables, small_tables}
use Rattle.small.specs.Fits.{columns, RowsFit}
use Rattle.small.proofs.Lists.{filtered_in, filtered_out, extended_all_in, extended_all_out, over_each_in}
use Rattle.small.proofs.Order.{row_length, table_length}

-- ---- a small row is one of those that a row of its number can be

row_same : {k a a' b b' c c' : ℤ} → a ≡ a' → b ≡ b' → c ≡ c' → (k ∷ a ∷ b ∷ c ∷ []) ≡ (k ∷ a' ∷ b' ∷ c' ∷ [])
row_same {k} p q r i = k ∷ p i ∷ q i ∷ r i ∷ []

minus_one_to_one : (z : ℤ) → within (neg_ℤ (pos 1)) (pos 1) z ≡ true → (z ≡ neg_ℤ (pos 1)) ⊎ ((z ≡ pos 0) ⊎ (z ≡ pos 1))
unfolding within ◌and◌
minus_one_to_one (pos zero) h = inr (inl refl)
minus_one_to_one (pos (suc zero)) h = inr (inr refl)
minus_one_to_one (pos (suc (suc n))) h = absurd (omega (arith, leb-true (suc (suc n)) 1 h))
minus_one_to_one (negsuc zero) h = inl refl
minus_one_to_one (negsuc (suc n)) h = absurd (omega (arith, leb-true (suc n) 0 (and_left _ _ h)))

zero_or_one : (z : ℤ) → within (pos 0) (pos 1) z ≡ true → (z ≡ pos 0) ⊎ (z ≡ pos 1)
unfolding within ◌and◌
zero_or_one (pos zero) h = inl refl
zero_or_one (pos (suc zero)) h = inr refl
zero_or_one (pos (suc (suc n))) h = absurd (omega (arith, leb-true (suc (suc n)) 1 (and_right (leb 0 (suc (suc n))) _ h)))
zero_or_one (negsuc n) h = absurd (false≢true h)

module _ (n : ℕ) (z : ℤ) (h : within (pos 0) (pos n) z ≡ true) where
  range_nat : nat z ≤ n
  unfolding within
  range_nat = omega (arith, plus_nat z, nonneg_minus z (and_left _ _ h), of_le (atom z) (num n) (and_right (lib.Signed.le_z (pos 0) z) _ h))

  range_pos : pos (nat z) ≡ z
  unfolding within
  range_pos = nat_pos z (and_left _ _ h)

constant_row_lem : (k : ℕ) (a b c : ℤ) → (eq_z a (pos 0) and eq_z b (pos 0) and eq_z c (pos 0)) ≡ true → (pos k ∷ a ∷ b ∷ c ∷ []) ≡ row_of k (pos 0) (pos 0) (pos 0)
unfolding row_of
constant_row_lem k a b c h =
    row_same
    (eq_z_true a (pos 0) (and_left _ _ h))
    (eq_z_true b (pos 0) (and_left _ _ (and_right (eq_z a (pos 0)) _ h)))
    (eq_z_true c (pos 0) (and_right (eq_z b (pos 0)) _ (and_right (eq_z a (pos 0)) _ h)))

literal_row_lem : (k : ℕ) (a b c : ℤ) → ((within (pos 0) (pos 255) a and within (pos 0) (pos 2) b and offset c) and (eq_z a (pos 0) and within (neg_ℤ (pos 1)) (pos 1) c)) ≡ true
    → Memᴰ (pos k ∷ a ∷ b ∷ c ∷ []) (literal_rows k)
unfolding literal_rows row_of
literal_row_lem k a b c f =
    let h = and_left (within (pos 0) (pos 255) a and within (pos 0) (pos 2) b and offset c) (eq_z a (pos 0) and within (neg_ℤ (pos 1)) (pos 1) c) f in
    let g = and_right (within (pos 0) (pos 255) a and within (pos 0) (pos 2) b and offset c) (eq_z a (pos 0) and within (neg_ℤ (pos 1)) (pos 1) c) f in
    let w = and_left (within (pos 0) (pos 2) b) (offset c) (and_right (within (pos 0) (pos 255) a) _ h) in
    let p = eq_z_true a (pos 0) (and_left _ _ g) in
    let q = sym (range_pos 2 b w) in
    over_each_in _ 3 (nat b) _ (omega (arith, range_nat 2 b w))
    (⊎_elim
    (λ e. Memᴰ.head (row_same p q e))
    (⊎_elim
    (λ e. Memᴰ.tail (Memᴰ.head (row_same p q e)))
    (λ e. Memᴰ.tail (Memᴰ.tail (Memᴰ.head (row_same p q e)))))
    (minus_one_to_one c (and_right (eq_z a (pos 0)) _ g)))

junction_row : (k r : ℕ) (a b c : ℤ) (v : Bool) → (below r a and below r b and eq_z c (pos 0) and v) ≡ true → Memᴰ (pos k ∷ a ∷ b ∷ c ∷ []) (junction_rows k r)
unfolding junction_rows row_of
junction_row k r a b c v h =
    let ha = and_left (below r a) _ h in
    let hb = and_left (below r b) _ (and_right (below r a) _ h) in
    let hc = and_left (eq_z c (pos 0)) v (and_right (below r b) _ (and_right (below r a) _ h)) in
    over_each_in _ r (nat a) _ (below_nat r a ha)
    (over_each_in _ r (nat b) _ (below_nat r b hb)
    (Memᴰ.head (row_same (sym (below_pos r a ha)) (sym (below_pos r b hb)) (eq_z_true c (pos 0) hc))))

iteration_row : (k r : ℕ) (a b c : ℤ) (v : Bool) → ((below r a and v) and (eq_z b (pos 0) and within (pos 0) (pos 1) c)) ≡ true
    → Memᴰ (pos k ∷ a ∷ b ∷ c ∷ []) (iteration_rows k r)
unfolding iteration_rows row_of
iteration_row k r a b c v f =
    let g = and_right (below r a and v) (eq_z b (pos 0) and within (pos 0) (pos 1) c) f in
    let ha = and_left (below r a) v (and_left (below r a and v) (eq_z b (pos 0) and within (pos 0) (pos 1) c) f) in
    let p = sym (below_pos r a ha) in
    let q = eq_z_true b (pos 0) (and_left _ _ g) in
    over_each_in _ r (nat a) _ (below_nat r a ha)
    (⊎_elim
    (λ e. Memᴰ.head (row_same p q e))
    (λ e. Memᴰ.tail (Memᴰ.head (row_same p q e)))
    (zero_or_one c (and_right (eq_z b (pos 0)) _ g)))

-- a row of one of the seven parts that the rows for r are made of
module _ (r : ℕ) (x : List ℤ) where
  abbrev constants : List (List ℤ)
  constants = row_of 0 (pos 0) (pos 0) (pos 0) ∷ row_of 1 (pos 0) (pos 0) (pos 0) ∷ []

  abbrev literals : List (List ℤ)
  literals = constants ++ literal_rows 2 ++ literal_rows 3

  abbrev junctions : List (List ℤ)
  junctions = literals ++ junction_rows 4 r ++ junction_rows 5 r

  of_junctions : Memᴰ x junctions → Memᴰ x (rows_for r)
  unfolding rows_for
  of_junctions m = Memᴰ.append_left {s = junctions ++ iteration_rows 6 r} (iteration_rows 7 r) (Memᴰ.append_left {s = junctions} (iteration_rows 6 r) m)

  of_literals : Memᴰ x literals → Memᴰ x (rows_for r)
  of_literals m = of_junctions (Memᴰ.append_left {s = literals ++ junction_rows 4 r} (junction_rows 5 r) (Memᴰ.append_left {s = literals} (junction_rows 4 r) m))

  of_constants : Memᴰ x constants → Memᴰ x (rows_for r)
  of_constants m = of_literals (Memᴰ.append_left {s = constants ++ literal_rows 2} (literal_rows 3) (Memᴰ.append_left {s = constants} (literal_rows 2) m))

  of_literals_2 : Memᴰ x (literal_rows 2) → Memᴰ x (rows_for r)
  of_literals_2 m = of_literals (Memᴰ.append_left {s = constants ++ literal_rows 2} (literal_rows 3) (Memᴰ.append_right constants m))

  of_literals_3 : Memᴰ x (literal_rows 3) → Memᴰ x (rows_for r)
  of_literals_3 m = of_literals (Memᴰ.append_right (constants ++ literal_rows 2) m)

  of_junctions_4 : Memᴰ x (junction_rows 4 r) → Memᴰ x (rows_for r)
  of_junctions_4 m = of_junctions (Memᴰ.append_left {s = literals ++ junction_rows 4 r} (junction_rows 5 r) (Memᴰ.append_right literals m))

  of_junctions_5 : Memᴰ x (junction_rows 5 r) → Memᴰ x (rows_for r)
  of_junctions_5 m = of_junctions (Memᴰ.append_right (literals ++ junction_rows 4 r) m)

  of_iterations_6 : Memᴰ x (iteration_rows 6 r) → Memᴰ x (rows_for r)
  unfolding rows_for
  of_iterations_6 m = Memᴰ.append_left {s = junctions ++ iteration_rows 6 r} (iteration_rows 7 r) (Memᴰ.append_right junctions m)

  of_iterations_7 : Memᴰ x (iteration_rows 7 r) → Memᴰ x (rows_for r)
  unfolding rows_for
  of_iterations_7 m = Memᴰ.append_right (junctions ++ iteration_rows 6 r) m

-- by its kind
small_columns : (rows : ℕ → Row) (r : ℕ) (k a b c : ℤ)
    → (well_formed_as rows r (record { kind = k; a = a; b = b; c = c }) (kind_of k) and small_as (record { kind = k; a = a; b = b; c = c }) (kind_of k)) ≡ true
    → Memᴰ (k ∷ a ∷ b ∷ c ∷ []) (rows_for r)
unfolding well_formed_as small_as kind_of eq_z ◌and◌
small_columns rows r (pos zero) a b c h = of_constants r _ (Memᴰ.head (constant_row_lem 0 a b c (and_left _ true h)))
small_columns rows r (pos (suc zero)) a b c h = of_constants r _ (Memᴰ.tail (Memᴰ.head (constant_row_lem 1 a b c (and_left _ true h))))
small_columns rows r (pos (suc (suc zero))) a b c h = of_literals_2 r _ (literal_row_lem 2 a b c h)
small_columns rows r (pos (suc (suc (suc zero)))) a b c h = of_literals_3 r _ (literal_row_lem 3 a b c h)
small_columns rows r (pos (suc (suc (suc (suc zero))))) a b c h = of_junctions_4 r _ (junction_row 4 r a b c (not (mixes (tree rows r))) (and_left _ true h))
small_columns rows r (pos (suc (suc (suc (suc (suc zero)))))) a b c h = of_junctions_5 r _ (junction_row 5 r a b c (not (mixes (tree rows r))) (and_left _ true h))
small_columns rows r (pos (suc (suc (suc (suc (suc (suc zero))))))) a b c h = of_iterations_6 r _ (iteration_row 6 r a b c (offset b and offset c and is_body (tree rows (nat a))) h)
small_columns rows r (pos (suc (suc (suc (suc (suc (suc (suc zero)))))))) a b c h = of_iterations_7 r _ (iteration_row 7 r a b c (offset b and offset c and is_body (tree rows (nat a))) h)
small_columns rows r (pos (suc (suc (suc (suc (suc (suc (suc (suc k))))))))) a b c h =
    let n = suc (suc (suc (suc (suc (suc (suc (suc k))))))) in
    let w : Row = record { kind = pos n; a = a; b = b; c = c } in
    absurd (false≢true (subst (λ (x : Kind). (well_formed_as rows r w x and small_as w x) ≡ true) (unknown_kind n (omega arith)) h))
small_columns rows r (negsuc k) a b c h = absurd (false≢true h)

pub small_row : (rows : ℕ → Row) (r : ℕ) → is_small rows r ≡ true → Memᴰ (columns (rows r)) (rows_for r)
unfolding is_small well_formed
small_row rows r h = small_columns rows r (rows r).kind (rows r).a (rows r).b (rows r).c h

-- ---- tables, row by row

drop_next : (t : List ℤ) (j k : ℕ) → k ≡ suc j → j < length t → drop j t ≡ get_or t j (pos 0) ∷ drop k t
drop_next t j k e l = drop-cons t j (pos 0) l ∙ ap (λ (m : ℕ). get_or t j (pos 0) ∷ drop m t) (sym e)

-- the last row of a table
pub last_row : (t : List ℤ) (r : ℕ) → length t ≡ 4 * r + 4 → drop (4 * r) t ≡ columns (row_at t r)
unfolding row_at
last_row t r h =
    let e : drop (4 * r + 4) t ≡ [] = drop_of_length-le t {i = 4 * r + 4} (omega arith) in
    drop_next t (4 * r) (4 * r + 1) (omega arith) (omega arith)
    ∙ ap (λ (x : List ℤ). get_or t (4 * r) (pos 0) ∷ x)
    (drop_next t (4 * r + 1) (4 * r + 2) (omega arith) (omega arith)
    ∙ ap (λ (x : List ℤ). get_or t (4 * r + 1) (pos 0) ∷ x)
    (drop_next t (4 * r + 2) (4 * r + 3) (omega arith) (omega arith)
    ∙ ap (λ (x : List ℤ). get_or t (4 * r + 2) (pos 0) ∷ x)
    (drop_next t (4 * r + 3) (4 * r + 4) (omega arith) (omega arith) ∙ ap (λ (x : List ℤ). get_or t (4 * r + 3) (pos 0) ∷ x) e)))

-- the rows of a table's start are the table's
pub row_of_start : (n r : ℕ) (t : List ℤ) → r < n → row_at (take (4 * n) t) r ≡ row_at t r
unfolding row_at
row_of_start n r t l i =
    record {
      kind = get_or-take (4 * n) t (4 * r) (pos 0) (omega arith) i;
      a = get_or-take (4 * n) t (4 * r + 1) (pos 0) (omega arith) i;
      b = get_or-take (4 * n) t (4 * r + 2) (pos 0) (omega arith) i;
      c = get_or-take (4 * n) t (4 * r + 3) (pos 0) (omega arith) i;
    }

-- a table of n rows with a row behind it
row_before : (n r : ℕ) (t w : List ℤ) → length t ≡ 4 * n → r < n → row_at (t ++ w) r ≡ row_at t r
unfolding row_at
row_before n r t w e l i =
    record {
      kind = get_or-append t w (pos 0) (4 * r) (omega arith) i;
      a = get_or-append t w (pos 0) (4 * r + 1) (omega arith) i;
      b = get_or-append t w (pos 0) (4 * r + 2) (omega arith) i;
      c = get_or-append t w (pos 0) (4 * r + 3) (omega arith) i;
    }

pub row_behind : (n : ℕ) (t w : List ℤ) → length t ≡ 4 * n → length w ≡ 4 → columns (row_at (t ++ w) n) ≡ w
row_behind n t w e f = sym (last_row (t ++ w) n (omega (arith, length-append t w))) ∙ drop_at t w (4 * n) e

pub table_in : (n : ℕ) (t : List ℤ) → length t ≡ 4 * n → RowsFit n t → Memᴰ t (tables n)
unfolding tables
table_in zero [] e f = Memᴰ.head refl
table_in zero (x ∷ xs) e f = absurd (omega arith)
table_in (suc n) t e f =
    let start = table_in n (take (4 * n) t) (length-take-le (4 * n) t (omega arith)) (λ r l. subst (λ (w : Row). Memᴰ (columns w) (rows_for r)) (sym (row_of_start n r t l)) (f r (omega arith))) in
    Memᴰ.cast
    (sym (take-append-drop (4 * n) t) ∙ ap (λ (x : List ℤ). take (4 * n) t ++ x) (last_row t n (omega arith)))
    (extended_all_in (take (4 * n) t) (columns (row_at t n)) (tables n) (rows_for n) start (f n (omega arith)))

-- and the other way
pub table_fits : (n : ℕ) (t : List ℤ) → n ≤ 3 → Memᴰ t (tables n) → RowsFit n t
unfolding tables
table_fits zero t l m r k = absurd (omega arith)
table_fits (suc n) t l m r k =
    let s = extended_all_out t (tables n) (rows_for n) m in
    let p = table_length n s.0 (omega arith) s.1 in
    let q = row_length n s.2 (omega arith) s.3 in
    subst (λ (x : List ℤ). Memᴰ (columns (row_at x r)) (rows_for r)) (sym s.4)
    (⊎_elim
    (λ j. subst (λ (w : Row). Memᴰ (columns w) (rows_for r)) (sym (row_before n r s.0 s.2 p j)) (table_fits n s.0 (omega arith) s.1 r j))
    (λ e. subst (λ (i : ℕ). Memᴰ (columns (row_at (s.0 ++ s.2) i)) (rows_for i)) (sym e) (Memᴰ.cast (row_behind n s.0 s.2 p q) s.3))
    (below_suc r n k))

-- ---- the list

pub small_use : (rows : ℕ → Row) (n r : ℕ) → all_small rows n ≡ true → r < n → is_small rows r ≡ true
unfolding all_small
small_use rows zero r h l = absurd (omega arith)
small_use rows (suc n) r h l =
    ⊎_elim
    (λ p. small_use rows n r (and_left (all_small rows n) _ h) p)
    (λ e. subst (λ (m : ℕ). is_small rows m ≡ true) (sym e) (and_right (all_small rows n) _ h))
    (below_suc r n l)

module _ (n : ℕ) (t : List ℤ) (h : on_list n t ≡ true) where
  pub listed_least : 1 ≤ n
  unfolding on_list
  listed_least = leb-true 1 n (and_left (leb 1 n) _ h)

  pub listed_most : n ≤ 3
  unfolding on_list
  listed_most = leb-true n 3 (and_left (leb n 3) _ (and_right (leb 1 n) _ h))

  pub listed_small : all_small (row_at t) n ≡ true
  unfolding on_list
  listed_small = and_left (all_small (row_at t) n) _ (and_right (leb n 3) _ (and_right (leb 1 n) _ h))

  pub listed_outer : is_outer (tree (row_at t) (n - 1)) ≡ true
  unfolding on_list
  listed_outer = and_right (all_small (row_at t) n) _ (and_right (leb n 3) _ (and_right (leb 1 n) _ h))

  pub listed_rows : RowsFit n t
  listed_rows r l = small_row (row_at t) r (small_use (row_at t) n r listed_small l)

-- "list every well-formed table with" such rows "and an outer last row": the list has a table exactly if it has the numbers of n rows and is
-- as `onList` says. Of any other number of rows than 1 to 3 there is none.
pub listed_exactly : (n : ℕ) (t : List ℤ) → Memᴰ t (small_tables n) ↔ ((length t ≡ 4 * n) × (on_list n t ≡ true))
unfolding small_tables
listed_exactly n t = (
  λ m. let k = filtered_out (on_list n) t (tables n) m in (table_length n t (listed_most n t k.1) k.0, k.1),
  λ p. filtered_in (on_list n) t (tables n) (table_in n t p.0 (listed_rows n t p.1)) p.1,
)

-- ---- a table on the list that is the start of a longer one: its rows are judged the same

module _ (rows rows' : ℕ → Row) where
  formed_carried : (r : ℕ) → ((a : ℕ) → a ≤ r → rows a ≡ rows' a) → (w : Row) (k : Kind) → well_formed_as rows r w k ≡ true → well_formed_as rows' r w k ≡ true
  unfolding well_formed_as
  formed_carried r e w (constant v) h = h
  formed_carried r e w (literal v) h = h
  formed_carried r e w (junction o) h = subst (λ (f : Formula). (below r w.a and below r w.b and eq_z w.c (pos 0) and not (mixes f)) ≡ true) (tree_agrees rows rows' r e) h
  formed_carried r e w (iteration o) h =
      let l = below_nat r w.a (and_left (below r w.a) _ h) in
      subst (λ (f : Formula). (below r w.a and offset w.b and offset w.c and is_body f) ≡ true) (tree_agrees rows rows' (nat w.a) (λ a k. e a (omega arith))) h
  formed_carried r e w unknown h = h

  small_carried : (r : ℕ) → ((a : ℕ) → a ≤ r → rows a ≡ rows' a) → is_small rows r ≡ true → is_small rows' r ≡ true
  unfolding is_small well_formed
  small_carried r e h =
      subst (λ (w : Row). (well_formed_as rows' r w (kind_of w.kind) and small_as w (kind_of w.kind)) ≡ true) (e r (omega arith))
      (and_both _ _
      (formed_carried r e (rows r) (kind_of (rows r).kind) (and_left _ _ h))
      (and_right (well_formed_as rows r (rows r) (kind_of (rows r).kind)) _ h))

  all_carried : (n : ℕ) → ((a : ℕ) → a < n → rows a ≡ rows' a) → all_small rows n ≡ true → all_small rows' n ≡ true
  unfolding all_small
  all_carried zero e h = refl
  all_carried (suc n) e h =
      and_both _ _
      (all_carried n (λ a l. e a (omega arith)) (and_left _ _ h))
      (small_carried n (λ a l. e a (omega arith)) (and_right (all_small rows n) _ h))

pub list_carried : (n : ℕ) (t : List ℤ) → on_list n (take (4 * n) t) ≡ true → on_list n t ≡ true
unfolding on_list
list_carried n t h =
    let u : List ℤ = take (4 * n) t in
    let least = listed_least n u h in
    let outer = subst (λ (f : Formula). is_outer f ≡ true) (tree_agrees (row_at u) (row_at t) (n - 1) (λ a l. row_of_start n a t (omega arith))) (listed_outer n u h) in
    and_both _ _ (le-leb 1 n least)
    (and_both _ _ (le-leb n 3 (listed_most n u h))
    (and_both _ _ (all_carried (row_at u) (row_at t) n (λ a l. row_of_start n a t l) (listed_small n u h)) outer))
