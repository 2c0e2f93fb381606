-- The pairs that occur in a row, by its columns; what a body gives over a range.
use Prim.Native.Nat.{ℕ, zero, suc, ◌+◌, ◌<◌, ◌≤◌}
use native.Mathlib.Omega.{arith}
use native.Mathlib.Numerals.{add-one}
use mathlib.Core.Path.{◌≡◌, refl, sym, ◌∙◌, ap, subst}
use mathlib.Core.Logic.{◌⊎◌, inl, inr, ⊎_elim}
use mathlib.Core.Bool.{true, false, true≢false, false≢true}
use mathlib.Core.List.Memᴰ
use mathlib.Core.List.{List, [], ◌∷◌, Memᴰ}
use lib.IntN.{ℤ, pos, ◌+ℤ◌, ◌-ℤ◌}
use lib.ListN.{length}
use Rattle.stab.specs.Basic.{nat}
use Rattle.stab.specs.Formula.{Row, Op, Formula, const, lit, join, iter, nothing, parameter, index, on_index, loose, fixed, is_body, tree, well_formed}
use Rattle.stab.specs.Meaning.{base, range_size}
use Rattle.stab.specs.Occurs.{Occurs, Wire, insert, gathered, inserted, Before, Ascends}
use Rattle.stab.proofs.Bools.{or_cases, or_false_left, or_false_right, false_of_not}
use Rattle.stab.proofs.Whole.{atom, num, ◌⊕◌, of_lt, of_eq, lt_z_of}
use Rattle.stab.proofs.Decoded.{tree_constant, tree_literal, tree_junction, tree_iteration, body_is}
use Rattle.stab.proofs.Audit.{of_range}
use Rattle.stab.proofs.Wires.Lists.{mem_inserted, inserted_ascends}
use Rattle.pairs.specs.Index.{unbiased}
use Rattle.pairs.proofs.Parts.{unbiased_more}
use Rattle.value.proofs.Values.{is_constant, is_literal, is_junction, is_iteration}
use Rattle.occurring.specs.Held.{wire_at}

-- ---- a well-formed row, m the number of its kind

module _ (rows : ℕ → Row) (r : ℕ) (formed : well_formed rows r ≡ true) (m : ℕ) (e : m ≡ nat (rows r).kind) (n : ℕ) (i : ℤ) (ws : List Wire) where
  pub row_constant : m < 2 → inserted n (tree rows r) i ws ≡ ws
  unfolding inserted
  row_constant h = ap (λ (f : Formula). inserted n f i ws) (tree_constant rows r _ (is_constant rows r formed m e h))

  pub row_literal : 2 ≤ m → m < 4 → inserted n (tree rows r) i ws ≡ insert (wire_at (rows r) n i) ws
  unfolding inserted wire_at
  row_literal l h = ap (λ (f : Formula). inserted n f i ws) (tree_literal rows r _ (is_literal rows r formed m e l h))

  pub row_junction : 4 ≤ m → m < 6 → inserted n (tree rows r) i ws ≡ inserted n (tree rows (nat (rows r).b)) i (inserted n (tree rows (nat (rows r).a)) i ws)
  unfolding inserted
  row_junction l h = ap (λ (f : Formula). inserted n f i ws) (tree_junction rows r _ (is_junction rows r formed m e l h) formed)

  pub row_iteration : 6 ≤ m → inserted n (tree rows r) i ws ≡ gathered (inserted n (tree rows (nat (rows r).a))) (rows r).b (range_size (rows r).b (pos n -ℤ (rows r).c)) ws
  unfolding inserted
  row_iteration l = ap (λ (f : Formula). inserted n f i ws) (tree_iteration rows r _ (is_iteration rows r formed m e l) formed)

pub body_fixed : (rows : ℕ → Row) (r : ℕ) → well_formed rows r ≡ true → (m : ℕ) → m ≡ nat (rows r).kind → 6 ≤ m → fixed (tree rows (nat (rows r).a)) ≡ false
unfolding is_body
body_fixed rows r formed m e l = false_of_not _ (body_is rows r _ (is_iteration rows r formed m e l) formed)

-- ---- a body without a literal

none_inserted : (n : ℕ) (f : Formula) (i : ℤ) (ws : List Wire) → loose f ≡ false → fixed f ≡ false → inserted n f i ws ≡ ws
unfolding inserted loose fixed on_index
none_inserted n (const v) i ws p q = refl
none_inserted n (lit v s nothing c) i ws p q = absurd (true≢false q)
none_inserted n (lit v s parameter c) i ws p q = absurd (true≢false q)
none_inserted n (lit v s index c) i ws p q = absurd (true≢false p)
none_inserted n (join o f g) i ws p q =
    none_inserted n g i _ (or_false_right (loose f) _ p) (or_false_right (fixed f) _ q)
    ∙ none_inserted n f i ws (or_false_left (loose f) (loose g) p) (or_false_left (fixed f) (fixed g) q)
none_inserted n (iter o f b c) i ws p q = absurd (true≢false q)

pub none_gathered : (n : ℕ) (f : Formula) (b : ℤ) (k : ℕ) (ws : List Wire) → loose f ≡ false → fixed f ≡ false → gathered (inserted n f) b k ws ≡ ws
unfolding gathered
none_gathered n f b zero ws p q = refl
none_gathered n f b (suc k) ws p q = none_inserted n f (b +ℤ pos k) _ p q ∙ none_gathered n f b k ws p q

-- ---- a body with a literal

-- a literal on i, which names another pair at each i
pub record OnIndex (n : ℕ) (f : Formula) : Type 0 where
  pub symbol : ℤ
  pub added : ℤ
  pub names : (i : ℤ) → Occurs n f i symbol (i +ℤ added)

on_index_lem : (n : ℕ) (f : Formula) → loose f ≡ true → OnIndex n f
unfolding loose on_index base
on_index_lem n (const v) h = absurd (false≢true h)
on_index_lem n (lit v s nothing c) h = absurd (false≢true h)
on_index_lem n (lit v s parameter c) h = absurd (false≢true h)
on_index_lem n (lit v s index c) h = record { symbol = s; added = c; names = λ i. (refl, refl) }
on_index_lem n (join o f g) h =
    ⊎_elim
    (λ p. let x = on_index_lem n f p in record { symbol = x.symbol; added = x.added; names = λ i. inl (x.names i) })
    (λ p. let x = on_index_lem n g p in record { symbol = x.symbol; added = x.added; names = λ i. inr (x.names i) })
    (or_cases (loose f) (loose g) h)
on_index_lem n (iter o f b c) h = absurd (false≢true h)

-- the pairs of one symbol at a, a + 1, .., of which j, j + 1, .. j + (k - 1) are in an ascending list
module _ (s b a : ℤ) where
  abbrev along : ℕ → Wire
  along p = record { symbol = s; index = (b +ℤ pos p) +ℤ a }

  not_back : (p q : ℕ) → q ≤ p → Before (along p) (along q) → ⊥
  not_back p q h (inl l) = absurd (omega (arith, of_lt (atom s) (atom s) (lt_z_of l)))
  not_back p q h (inr l) = absurd (omega (arith, of_lt (atom b ⊕ num p ⊕ atom a) (atom b ⊕ num q ⊕ atom a) (lt_z_of l.1)))

  not_same : (p q : ℕ) → q < p → along p ≡ along q → ⊥
  not_same p q h e = absurd (omega (arith, of_eq (atom b ⊕ num p ⊕ atom a) (atom b ⊕ num q ⊕ atom a) (ap (λ (w : Wire). w.index) e)))

  run_length : (j k : ℕ) (l : List Wire) → Ascends l → ((p : ℕ) → j ≤ p → p < j + k → Memᴰ (along p) l) → k ≤ length l
  run_length j zero l up h = omega arith
  run_length j (suc k) [] up h = absurd (Memᴰ.not-nil (h j (omega arith) (omega arith)))
  run_length j (suc k) (x ∷ xs) up h =
      let rest = run_length (suc j) k xs up.1 (λ p l m. later p l (Memᴰ.cases_cons (h p (omega arith) (omega arith))) (Memᴰ.cases_cons (h j (omega arith) (omega arith)))) in
      omega arith
    where
      later : (p : ℕ) → suc j ≤ p → (along p ≡ x) ⊎ Memᴰ (along p) xs → (along j ≡ x) ⊎ Memᴰ (along j) xs → Memᴰ (along p) xs
      later p l (inr m) q = m
      later p l (inl e) (inl d) = absurd (not_same p j l (e ∙ sym d))
      later p l (inl e) (inr d) = absurd (not_back p j (omega arith) (subst (λ (w : Wire). Before w (along j)) (sym e) (up.0 (along j) d)))

-- an iteration over k values of a body with a literal gives k pairs
many_inserted : (n : ℕ) (o : Op) (f : Formula) (b c i : ℤ) (ws : List Wire) → loose f ≡ true → Ascends ws → range_size b (pos n -ℤ c) ≤ length (inserted n (iter o f b c) i ws)
many_inserted n o f b c i ws h up =
    let x = on_index_lem n f h in
    run_length x.symbol b x.added 0 _ _ (inserted_ascends n (iter o f b c) i ws up)
    (λ p l m.
    let r = of_range b (pos n -ℤ c) p (omega arith) in
    (mem_inserted n (iter o f b c) i ws (along x.symbol b x.added p)).1 (inl (b +ℤ pos p, r.0, r.1, x.names (b +ℤ pos p))))

pub row_many : (rows : ℕ → Row) (r : ℕ) → well_formed rows r ≡ true → (m : ℕ) → m ≡ nat (rows r).kind → (n : ℕ) (i : ℤ) (ws : List Wire) → 6 ≤ m → loose (tree rows (nat (rows r).a)) ≡ true → Ascends ws
    → range_size (rows r).b (pos n -ℤ (rows r).c) ≤ length (inserted n (tree rows r) i ws)
row_many rows r formed m e n i ws l h up =
    let t = tree_iteration rows r _ (is_iteration rows r formed m e l) formed in
    subst (λ (f : Formula). range_size (rows r).b (pos n -ℤ (rows r).c) ≤ length (inserted n f i ws)) (sym t)
    (many_inserted n _ (tree rows (nat (rows r).a)) (rows r).b (rows r).c i ws h up)

-- ---- over a range, from what x stands for on

pub gathered_more : (n : ℕ) (f : Formula) (x k : ℕ) (ws : List Wire) → inserted n f (unbiased (x + k)) (gathered (inserted n f) (unbiased x) k ws) ≡ gathered (inserted n f) (unbiased x) (k + 1) ws
unfolding gathered
gathered_more n f x k ws =
    ap (λ (z : ℤ). inserted n f z (gathered (inserted n f) (unbiased x) k ws)) (unbiased_more x k)
    ∙ ap (λ (j : ℕ). gathered (inserted n f) (unbiased x) j ws) (sym (add-one k))

pub gathered_same : (n : ℕ) (rows : ℕ → Row) {f g : ℕ} {b c : ℤ} {j k : ℕ} → f ≡ g → b ≡ c → j ≡ k → (ws : List Wire) → gathered (inserted n (tree rows f)) b j ws ≡ gathered (inserted n (tree rows g)) c k ws
gathered_same n rows p q r ws = λ i. gathered (inserted n (tree rows (p i))) (q i) (r i) ws
