-- Folding: each row stands under its new number with its parts put through, each row that stays is one of them, and none stands twice.
use Rattle.std.specs.Prelude.{if◌then◌else◌}
use Prim.Native.Nat.{ℕ, zero, suc, ◌+◌, ◌*◌, ◌-◌, ◌<◌, ◌≤◌}
use native.Mathlib.Omega.{arith}
use mathlib.Core.Path.{◌≡◌, refl, sym, ◌∙◌, ap, ap₂, subst}
use mathlib.Core.Logic.{◌⊎◌, inl, inr, ⊎_elim, ◌≢◌}
use mathlib.Core.Bool.{Bool, true, false}
use mathlib.Core.List.{List, [], ◌∷◌, ◌++◌}
use mathlib.Core.Option.{Option, none, some, or_else, none-ne-some}
use lib.Dec.{ltb}
use lib.IntN.{ℤ, pos}
use lib.ListN.{length, get_or, take, length-append, get_or-append}
use lib.Seq.{get_or-append-add, get_or_at, get_or-take}
use borrow.Author.Tests.{lt-ltb, ltb-true, ltb-false}
use Rattle.stab.specs.Basic.{nat, below, first}
use Rattle.stab.specs.Formula.{Row, row_at, formula_rows, Kind, constant, literal, junction, iteration, unknown, kind_of, well_formed_as, well_formed}
use Rattle.stab.specs.Check.{same_row}
use Rattle.stab.proofs.Bools.{decide, and_left, and_right, if_true, if_false}
use Rattle.stab.proofs.Trees.{below_nat}
use Rattle.stab.proofs.Scans.{below_suc}
use Rattle.stab.proofs.Firsts.{none_search, search_same}
use Rattle.stab.proofs.Tests.{same_row_tests}
use Rattle.stab.proofs.Whole.{pos_injective}
use Rattle.stab.proofs.Decoded.{formed_as}
use Rattle.tidied.specs.Tidied.{through, renumbered_as, renumbered, columns, Folding, new_number, earliest, folded_into, fold_row, fold_next, folding}
use Rattle.tidied.proofs.Moves.{Moves, PointsAs, Points, through_pos, through_below, through_itself, renumbered_kind, renumbered_as_lem}

-- ---- the earliest equal row

module _ (rows : ℕ → Row) (w : Row) where
  pub earliest_none : (n : ℕ) → earliest rows n w ≡ none → (q : ℕ) → q < n → rows q ≢ w
  unfolding earliest
  earliest_none n h q l e =
      none-ne-some q (sym (none_search (λ r. if same_row (rows r) w then some r else none) n h q l) ∙ if_true (same_row (rows q) w) _ _ ((same_row_tests (rows q) w).1 e))

  pub earliest_some : (n q : ℕ) → earliest rows n w ≡ some q → (q < n) × (rows q ≡ w)
  unfolding earliest first or_else
  earliest_some zero q h = absurd (none-ne-some q h)
  earliest_some (suc n) q h = go (first (λ r. if same_row (rows r) w then some r else none) n) (earliest_some n q) h
    where
      last : (t : Bool) → same_row (rows n) w ≡ t → (if t then some n else none) ≡ some q → (q < suc n) × (rows q ≡ w)
      last true e d =
          let m : n ≡ q = cc in
          (omega arith, subst (λ (x : ℕ). rows x ≡ w) m ((same_row_tests (rows n) w).0 e))
      last false e d = absurd (none-ne-some q d)

      go : (x : Option ℕ) → (x ≡ some q → (q < n) × (rows q ≡ w)) → or_else x (if same_row (rows n) w then some n else none) ≡ some q → (q < suc n) × (rows q ≡ w)
      go none ih d = last (same_row (rows n) w) refl d
      go (some a) ih d = let p = ih d in (omega (arith, p.0), p.1)

-- ---- rows of a table that grows

pub formula_rows_below : (schema : List ℤ) (s : ℕ) (t : List ℤ) (r : ℕ) → r < s → formula_rows schema s t r ≡ row_at schema r
unfolding formula_rows
formula_rows_below schema s t r h = if_true (ltb r s) _ _ (lt-ltb r s h)

pub formula_rows_above : (schema : List ℤ) (s : ℕ) (t : List ℤ) (r : ℕ) → formula_rows schema s t (s + r) ≡ row_at t r
unfolding formula_rows
formula_rows_above schema s t r =
    if_false (ltb (s + r) s) _ _ (go (decide (ltb (s + r) s))) ∙ ap (row_at t) (omega arith)
  where
    go : (ltb (s + r) s ≡ true) ⊎ (ltb (s + r) s ≡ false) → ltb (s + r) s ≡ false
    go (inl e) = absurd (omega (arith, ltb-true (s + r) s e))
    go (inr e) = e

-- a row within the first part of a table
pub row_at_front : (t u : List ℤ) (r : ℕ) → 4 * r + 3 < length t → row_at (t ++ u) r ≡ row_at t r
unfolding row_at
row_at_front t u r h i = record {
  kind = get_or-append t u (pos 0) (4 * r) (omega arith) i;
  a = get_or-append t u (pos 0) (4 * r + 1) (omega arith) i;
  b = get_or-append t u (pos 0) (4 * r + 2) (omega arith) i;
  c = get_or-append t u (pos 0) (4 * r + 3) (omega arith) i;
}

-- the rows of the first part of a table
pub row_at_take : (t : List ℤ) (n r : ℕ) → 4 * r + 3 < n → row_at (take n t) r ≡ row_at t r
unfolding row_at
row_at_take t n r h i = record {
  kind = get_or-take n t (4 * r) (pos 0) (omega arith) i;
  a = get_or-take n t (4 * r + 1) (pos 0) (omega arith) i;
  b = get_or-take n t (4 * r + 2) (pos 0) (omega arith) i;
  c = get_or-take n t (4 * r + 3) (pos 0) (omega arith) i;
}

pub columns_length : (w : Row) → length (columns w) ≡ 4
unfolding columns
columns_length w = refl

-- the row right after it
pub row_at_next : (t : List ℤ) (r : ℕ) (w : Row) → length t ≡ 4 * r → row_at (t ++ columns w) r ≡ w
unfolding row_at columns
row_at_next t r w h i = record {
  kind = at 0 (4 * r) (omega arith) i;
  a = at 1 (4 * r + 1) (omega arith) i;
  b = at 2 (4 * r + 2) (omega arith) i;
  c = at 3 (4 * r + 3) (omega arith) i;
}
  where
    at : (k n : ℕ) → n ≡ length t + k → get_or (t ++ columns w) n (pos 0) ≡ get_or (columns w) k (pos 0)
    at k n e = ap (λ (m : ℕ). get_or (t ++ columns w) m (pos 0)) e ∙ get_or-append-add t (columns w) k (pos 0)

-- ---- new numbers

pub new_schema : (s : ℕ) (numbers : List ℕ) (r : ℕ) → r < s → new_number s numbers r ≡ r
unfolding new_number
new_schema s numbers r h = if_true (ltb r s) _ _ (lt-ltb r s h)

pub new_proof : (s : ℕ) (numbers : List ℕ) (r : ℕ) → new_number s numbers (s + r) ≡ get_or numbers r 0
unfolding new_number
new_proof s numbers r =
    if_false (ltb (s + r) s) _ _ (go (decide (ltb (s + r) s))) ∙ ap (λ (k : ℕ). get_or numbers k 0) (omega arith)
  where
    go : (ltb (s + r) s ≡ true) ⊎ (ltb (s + r) s ≡ false) → ltb (s + r) s ≡ false
    go (inl e) = absurd (omega (arith, ltb-true (s + r) s e))
    go (inr e) = e

-- a row is a schema row, or some row after them
pub schema_or_proof : (s r : ℕ) → (r < s) ⊎ ((k : ℕ) × (r ≡ s + k))
schema_or_proof s r =
    ⊎_elim (λ e. inl (ltb-true r s e)) (λ e. let l : s ≤ r = omega (arith, ltb-false r s e) in inr (r - s, omega arith)) (decide (ltb r s))

-- one number more changes none before it
pub new_more : (s : ℕ) (numbers : List ℕ) (x r : ℕ) → r < s + length numbers → new_number s (numbers ++ x ∷ []) r ≡ new_number s numbers r
new_more s numbers x r h = go (schema_or_proof s r)
  where
    go : (r < s) ⊎ ((k : ℕ) × (r ≡ s + k)) → new_number s (numbers ++ x ∷ []) r ≡ new_number s numbers r
    go (inl l) = new_schema s (numbers ++ x ∷ []) r l ∙ sym (new_schema s numbers r l)
    go (inr (k, e)) =
        rw e (new_proof s (numbers ++ x ∷ []) k ∙ get_or-append numbers (x ∷ []) 0 k (omega arith) ∙ sym (new_proof s numbers k))

pub new_last : (s : ℕ) (numbers : List ℕ) (x k : ℕ) → length numbers ≡ k → new_number s (numbers ++ x ∷ []) (s + k) ≡ x
new_last s numbers x k h = new_proof s (numbers ++ x ∷ []) k ∙ get_or_at numbers x [] 0 k h

-- new numbers that agree on the rows before r renumber it alike
pub renumbered_agrees : (rows : ℕ → Row) (new new' : ℕ → ℕ) (r : ℕ) → well_formed rows r ≡ true → ((x : ℕ) → x < r → new x ≡ new' x) → renumbered new (rows r) ≡ renumbered new' (rows r)
unfolding renumbered renumbered_as well_formed_as
renumbered_agrees rows new new' r f h = go (kind_of (rows r).kind) (formed_as rows r (kind_of (rows r).kind) refl f)
  where
    same : (z : ℤ) → below r z ≡ true → through new z ≡ through new' z
    same z b = through_below new r z b ∙ ap pos (h (nat z) (below_nat r z b)) ∙ sym (through_below new' r z b)

    go : (k : Kind) → well_formed_as rows r (rows r) k ≡ true → renumbered_as new (rows r) k ≡ renumbered_as new' (rows r) k
    go (constant v) f = refl
    go (literal v) f = refl
    go (junction o) f = λ i. record {
      kind = (rows r).kind;
      a = same (rows r).a (and_left (below r (rows r).a) _ f) i;
      b = same (rows r).b (and_left (below r (rows r).b) _ (and_right (below r (rows r).a) _ f)) i;
      c = (rows r).c;
    }
    go (iteration o) f = λ i. record { kind = (rows r).kind; a = same (rows r).a (and_left (below r (rows r).a) _ f) i; b = (rows r).b; c = (rows r).c }
    go unknown f = refl

-- numbers that stay renumber nothing
pub renumbered_itself : (w : Row) → renumbered (λ x. x) w ≡ w
unfolding renumbered renumbered_as
renumbered_itself w = go (kind_of w.kind)
  where
    go : (k : Kind) → renumbered_as (λ x. x) w k ≡ w
    go (constant v) = refl
    go (literal v) = refl
    go (junction o) = λ i. record { kind = w.kind; a = through_itself w.a i; b = through_itself w.b i; c = w.c }
    go (iteration o) = λ i. record { kind = w.kind; a = through_itself w.a i; b = w.b; c = w.c }
    go unknown = refl

-- ---- what holds after k proof rows

module _ (schema : List ℤ) (s : ℕ) (proof : List ℤ) where
  -- the rows as they were
  abbrev before : ℕ → Row
  before = formula_rows schema s proof

  pub record Folded (k : ℕ) (F : Folding) : Type 0 where
    pub counted : length F.numbers ≡ k
    pub held : length F.table ≡ 4 * F.count
    pub few : F.count ≤ k
    -- each row has the number of a row that stays
    pub fits : (r : ℕ) → r < s + k → new_number s F.numbers r < s + F.count
    -- under which it stands with its parts put through
    pub same : (r : ℕ) → r < s + k → formula_rows schema s F.table (new_number s F.numbers r) ≡ renumbered (new_number s F.numbers) (formula_rows schema s proof r)
    -- each row that stays is the first under its number
    pub source : (q : ℕ) → q < s + F.count → (r : ℕ) × (r < s + k) × (new_number s F.numbers r ≡ q) × ((x : ℕ) → x < r → new_number s F.numbers x < q)
    -- and equals none before it, unless it is a schema row
    pub fresh : (r q : ℕ) → s ≤ r → r < s + F.count → q < r → formula_rows schema s F.table q ≢ formula_rows schema s F.table r

  module _ (formed : (r : ℕ) → r < s → well_formed before r ≡ true) where
    folded_zero : Folded 0 (record { table = []; count = 0; numbers = [] })
    folded_zero = record {
      counted = refl;
      held = refl;
      few = omega arith;
      fits = λ r h. let l : r < s = omega arith in omega (arith, new_schema s [] r l);
      same = λ r h. at r (omega arith);
      source = λ q h. let l : q < s = omega arith in (q, omega arith, new_schema s [] q l, λ x m. omega (arith, new_schema s [] x (omega arith)));
      fresh = λ r q a b c. absurd (omega arith);
    }
      where
        -- a schema row keeps its number, and so do its parts
        at : (r : ℕ) → r < s → formula_rows schema s [] (new_number s [] r) ≡ renumbered (new_number s []) (formula_rows schema s proof r)
        at r l =
            ap (formula_rows schema s []) (new_schema s [] r l)
            ∙ formula_rows_below schema s [] r l
            ∙ sym (formula_rows_below schema s proof r l)
            ∙ sym (renumbered_agrees before (new_number s []) (λ x. x) r (formed r l) (λ x m. new_schema s [] x (omega arith)) ∙ renumbered_itself (formula_rows schema s proof r))

  module _ (k : ℕ) (F : Folding) (I : Folded k F) (formed : (r : ℕ) → r ≤ s + k → well_formed before r ≡ true) where
    -- the row with its parts put through
    w : Row
    w = renumbered (new_number s F.numbers) (formula_rows schema s proof (s + k))

    module _ (x : ℕ) where
      agrees : (r : ℕ) → r < s + k → new_number s (F.numbers ++ x ∷ []) r ≡ new_number s F.numbers r
      agrees r h = new_more s F.numbers x r (omega (arith, I.counted))

      is_last : new_number s (F.numbers ++ x ∷ []) (s + k) ≡ x
      is_last = new_last s F.numbers x k I.counted

      -- what a row that was gone through has become does not change
      renumbers : (r : ℕ) → r ≤ s + k → renumbered (new_number s F.numbers) (formula_rows schema s proof r) ≡ renumbered (new_number s (F.numbers ++ x ∷ [])) (formula_rows schema s proof r)
      renumbers r h =
          renumbered_agrees before (new_number s F.numbers) (new_number s (F.numbers ++ x ∷ [])) r (formed r h) (λ y m. sym (agrees y (omega arith)))

      last_or : (r : ℕ) → r < s + suc k → (r < s + k) ⊎ (r ≡ s + k)
      last_or r h = below_suc r (s + k) (omega arith)

    -- a row that has an equal
    folded_away : (q : ℕ) → q < s + F.count → formula_rows schema s F.table q ≡ w → Folded (suc k) (record { table = F.table; count = F.count; numbers = F.numbers ++ q ∷ [] })
    unfolding w
    folded_away q l e = record {
      counted = simp length-append (omega (arith, I.counted));
      held = I.held;
      few = omega (arith, I.few);
      fits = λ r h. ⊎_elim (λ m. omega (arith, agrees q r m, I.fits r m)) (λ m. rw m (omega (arith, is_last q))) (last_or q r h);
      same = λ r h. ⊎_elim (λ m. ap (formula_rows schema s F.table) (agrees q r m) ∙ I.same r m ∙ renumbers q r (omega arith)) (λ m. rw m (ap (formula_rows schema s F.table) (is_last q) ∙ e ∙ renumbers q (s + k) (omega arith))) (last_or q r h);
      source = λ y h. let o = I.source y h in (o.0, omega (arith, o.1), agrees q o.0 o.1 ∙ o.2, λ v m. omega (arith, agrees q v (omega (arith, o.1)), o.3 v m));
      fresh = I.fresh;
    }

    -- a row that stays
    grown : (r : ℕ) → r < s + F.count → formula_rows schema s (F.table ++ columns w) r ≡ formula_rows schema s F.table r
    grown r h = go (schema_or_proof s r)
      where
        go : (r < s) ⊎ ((m : ℕ) × (r ≡ s + m)) → formula_rows schema s (F.table ++ columns w) r ≡ formula_rows schema s F.table r
        go (inl l) = formula_rows_below schema s (F.table ++ columns w) r l ∙ sym (formula_rows_below schema s F.table r l)
        go (inr (m, e)) =
            rw e (formula_rows_above schema s (F.table ++ columns w) m ∙ row_at_front F.table (columns w) m (omega (arith, I.held)) ∙ sym (formula_rows_above schema s F.table m))

    grown_last : formula_rows schema s (F.table ++ columns w) (s + F.count) ≡ w
    grown_last = formula_rows_above schema s (F.table ++ columns w) F.count ∙ row_at_next F.table F.count w I.held

    folded_stays : ((q : ℕ) → q < s + F.count → formula_rows schema s F.table q ≢ w) → Folded (suc k) (record { table = F.table ++ columns w; count = suc F.count; numbers = F.numbers ++ (s + F.count) ∷ [] })
    unfolding w
    folded_stays none_equal =
        let x : ℕ = s + F.count in
        record {
          counted = simp length-append (omega (arith, I.counted));
          held = length-append F.table (columns w) ∙ four;
          few = omega (arith, I.few);
          fits = λ r h. ⊎_elim (λ m. omega (arith, agrees x r m, I.fits r m)) (λ m. rw m (omega (arith, is_last x))) (last_or x r h);
          same = λ r h. ⊎_elim
              (λ m. ap (formula_rows schema s (F.table ++ columns w)) (agrees x r m) ∙ grown (new_number s F.numbers r) (I.fits r m) ∙ I.same r m ∙ renumbers x r (omega arith))
              (λ m. rw m (ap (formula_rows schema s (F.table ++ columns w)) (is_last x) ∙ grown_last ∙ renumbers x (s + k) (omega arith)))
              (last_or x r h);
          source = λ y h. ⊎_elim
              (λ m. let o = I.source y m in (o.0, omega (arith, o.1), agrees x o.0 o.1 ∙ o.2, λ v l. omega (arith, agrees x v (omega (arith, o.1)), o.3 v l)))
              (λ m. (s + k, omega arith, is_last x ∙ sym m, λ v l. omega (arith, agrees x v l, I.fits v l, m)))
              (below_suc y (s + F.count) (omega arith));
          fresh = λ r q a b c. ⊎_elim
              (λ m e. I.fresh r q a m c (sym (grown q (omega arith)) ∙ e ∙ grown r m))
              (λ m e. none_equal q (omega arith) (sym (grown q (omega arith)) ∙ e ∙ ap (formula_rows schema s (F.table ++ columns w)) m ∙ grown_last))
              (below_suc r (s + F.count) (omega arith));
        }
      where
        four : length F.table + length (columns w) ≡ 4 * suc F.count
        four = omega (arith, columns_length w, I.held)

  -- the rows that point only to smaller rows, folded
  pub folded : (k : ℕ) → ((r : ℕ) → r < s + k → well_formed before r ≡ true) → Folded k (folding schema s proof k)
  unfolding folding fold_next fold_row folded_into w
  folded zero formed = folded_zero (λ r h. formed r (omega arith))
  folded (suc k) formed =
      let F : Folding = folding schema s proof k in
      let I : Folded k F = folded k (λ r h. formed r (omega arith)) in
      let v : Row = renumbered (new_number s F.numbers) (row_at proof k) in
      go F I v (ap (renumbered (new_number s F.numbers)) (formula_rows_above schema s proof k)) (earliest (formula_rows schema s F.table) (s + F.count) v) refl
    where
      go : (F : Folding) (I : Folded k F) (v : Row) → renumbered (new_number s F.numbers) (formula_rows schema s proof (s + k)) ≡ v → (x : Option ℕ) → earliest (formula_rows schema s F.table) (s + F.count) v ≡ x → Folded (suc k) (folded_into s F v x)
      go F I v e none h = rw (← e) (folded_stays k F I (λ r l. formed r (omega arith)) (λ q l. rw e (earliest_none (formula_rows schema s F.table) v (s + F.count) h q l)))
      go F I v e (some q) h =
          let found = earliest_some (formula_rows schema s F.table) v (s + F.count) q h in
          folded_away k F I (λ r l. formed r (omega arith)) q found.0 (found.1 ∙ sym e)

  -- they stand under new numbers in the rows that stay
  module _ (k : ℕ) (formed : (r : ℕ) → r < s + k → well_formed before r ≡ true) where
    new : ℕ → ℕ
    new = new_number s (folding schema s proof k).numbers

    -- two rows that become one point to rows that become one
    same_part : (r o x : ℕ) → r < s + k → o < s + k → renumbered new (before r) ≡ renumbered new (before o) → Points (before r) x → (y : ℕ) × (y < o) × (new y ≡ new x)
    unfolding renumbered_as well_formed_as
    same_part r o x h l e p = by_kind (kind_of (before r).kind) refl p
      where
        kinds : (before o).kind ≡ (before r).kind
        kinds = sym (renumbered_kind new (before o)) ∙ ap (λ (v : Row). v.kind) (sym e) ∙ renumbered_kind new (before r)

        alike : (k : Kind) → kind_of (before r).kind ≡ k → renumbered_as new (before r) k ≡ renumbered_as new (before o) k
        alike k i = sym (renumbered_as_lem new (before r) k i) ∙ e ∙ renumbered_as_lem new (before o) k (ap kind_of kinds ∙ i)

        formed_o : (k : Kind) → kind_of (before r).kind ≡ k → well_formed_as before o (before o) k ≡ true
        formed_o k i = formed_as before o k (ap kind_of kinds ∙ i) (formed o l)

        -- a part of the one, and what stands there in the other
        part : (z y : ℤ) → z ≡ pos x → through new z ≡ through new y → below o y ≡ true → (v : ℕ) × (v < o) × (new v ≡ new x)
        part z y i t b =
            (nat y, below_nat o y b, pos_injective _ _ (sym (through_below new o y b) ∙ sym t ∙ ap (through new) i ∙ through_pos new x))

        by_kind : (k : Kind) → kind_of (before r).kind ≡ k → PointsAs (before r) k x → (y : ℕ) × (y < o) × (new y ≡ new x)
        by_kind (constant v) i q = absurd q
        by_kind (literal v) i q = absurd q
        by_kind (junction c) i q =
            let f = formed_o (junction c) i in
            ⊎_elim
            (λ z. part (before r).a (before o).a z (ap (λ (v : Row). v.a) (alike (junction c) i)) (and_left (below o (before o).a) _ f))
            (λ z. part (before r).b (before o).b z (ap (λ (v : Row). v.b) (alike (junction c) i)) (and_left (below o (before o).b) _ (and_right (below o (before o).a) _ f)))
            q
        by_kind (iteration c) i q =
            part (before r).a (before o).a q (ap (λ (v : Row). v.a) (alike (iteration c) i)) (and_left (below o (before o).a) _ (formed_o (iteration c) i))
        by_kind unknown i q = absurd q

    pub folded_moves : Moves (formula_rows schema s proof) (formula_rows schema s (folding schema s proof k).table) (s + k) (new_number s (folding schema s proof k).numbers)
    unfolding new
    folded_moves = record {
      same = (folded k formed).same;
      ordered = λ r q h p l.
          let I = folded k formed in
          let o = I.source (new r) (I.fits r h) in
          let e = sym (I.same o.0 o.1) ∙ ap (formula_rows schema s (folding schema s proof k).table) o.2 ∙ I.same r h in
          let m = same_part r o.0 q h o.1 (sym e) p in
          omega (arith, o.3 m.0 m.1, m.2);
    }

-- ---- folding looks at the rows alone

module _ (schema schema' : List ℤ) (s : ℕ) (same : (r : ℕ) → r < s → row_at schema r ≡ row_at schema' r) where
  formula_rows_same : (t : List ℤ) (q : ℕ) → formula_rows schema s t q ≡ formula_rows schema' s t q
  formula_rows_same t q =
      ⊎_elim
      (λ l. formula_rows_below schema s t q l ∙ same q l ∙ sym (formula_rows_below schema' s t q l))
      (λ m. ap (formula_rows schema s t) m.1 ∙ formula_rows_above schema s t m.0 ∙ sym (formula_rows_above schema' s t m.0) ∙ ap (formula_rows schema' s t) (sym m.1))
      (schema_or_proof s q)

  row_same : (w : Row) (F : Folding) → fold_row schema s w F ≡ fold_row schema' s w F
  unfolding fold_row earliest
  row_same w F =
      ap (folded_into s F w) (search_same _ _ (s + F.count) (λ k l. ap (λ (v : Row). if same_row v w then some k else none) (formula_rows_same F.table k)))

  pub folding_agrees : (proof proof' : List ℤ) (n : ℕ) → ((k : ℕ) → k < n → row_at proof k ≡ row_at proof' k) → folding schema s proof n ≡ folding schema' s proof' n
  unfolding folding fold_next
  folding_agrees proof proof' zero h = refl
  folding_agrees proof proof' (suc n) h =
      ap₂ (λ (w : Row) (F : Folding). fold_row schema s (renumbered (new_number s F.numbers) w) F) (h n (omega arith)) (folding_agrees proof proof' n (λ k l. h k (omega arith)))
      ∙ row_same _ _
