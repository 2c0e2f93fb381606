-- Tables made of parts that follow one another; counting over such parts.
use Rattle.std.specs.Prelude.{if◌then◌else◌}
use Prim.Native.Nat.{ℕ, zero, suc, ◌+◌, ◌*◌, ◌-◌, ◌<◌}
use native.Mathlib.Omega.{arith}
use mathlib.Core.Path.{◌≡◌, refl, sym, ◌∙◌, ap, ap₂}
use mathlib.Core.Logic.{⊎_elim}
use mathlib.Core.Bool.{Bool, true, false}
use mathlib.Core.List.Memᴰ
use mathlib.Core.List.{List, [], ◌∷◌, ◌++◌, Memᴰ}
use lib.IntN.{ℤ, pos, ◌+ℤ◌}
use lib.ListN.{length, get_or, take, drop, length-append}
use lib.Seq.{get_or-append-add}
use Rattle.stab.specs.Basic.{count}
use Rattle.stab.specs.Formula.{row_at}
use Rattle.stab.specs.Node.{Tableau, Node, node_at, node}
use Rattle.stab.proofs.Scans.{below_suc, count_true}
use Rattle.tidied.specs.Tidied.{through, renumbered, columns}
use Rattle.tidied.proofs.Foldings.{row_at_front, row_at_next, columns_length}
use Rattle.tidied.proofs.Agreeing.{count_none}
use Rattle.tidied.proofs.Tables.{numbers_of, node_at_front, node_at_next}
use Rattle.joint.specs.Joint.{moved_rows, moved_node, moved_nodes, moved_members, parent_of, further}

-- ---- rows

-- a number of the second part
get_d_after : (t u : List ℤ) (m k : ℕ) → m ≡ length t + k → get_or (t ++ u) m (pos 0) ≡ get_or u k (pos 0)
get_d_after t u m k e = ap (λ (x : ℕ). get_or (t ++ u) x (pos 0)) e ∙ get_or-append-add t u k (pos 0)

-- a row of the second part
pub row_at_after : (t u : List ℤ) (n r : ℕ) → length t ≡ 4 * n → row_at (t ++ u) (n + r) ≡ row_at u r
unfolding row_at
row_at_after t u n r h i = record {
  kind = get_d_after t u (4 * (n + r)) (4 * r) (omega arith) i;
  a = get_d_after t u (4 * (n + r) + 1) (4 * r + 1) (omega arith) i;
  b = get_d_after t u (4 * (n + r) + 2) (4 * r + 2) (omega arith) i;
  c = get_d_after t u (4 * (n + r) + 3) (4 * r + 3) (omega arith) i;
}

module _ (new : ℕ → ℕ) (t : List ℤ) where
  pub moved_length : (n : ℕ) → length (moved_rows new t n) ≡ 4 * n
  unfolding moved_rows
  moved_length zero = refl
  moved_length (suc n) =
      length-append (moved_rows new t n) (columns (renumbered new (row_at t n))) ∙ omega (arith, moved_length n, columns_length (renumbered new (row_at t n)))

  pub moved_row : (n r : ℕ) → r < n → row_at (moved_rows new t n) r ≡ renumbered new (row_at t r)
  unfolding moved_rows
  moved_row zero r h = absurd (omega arith)
  moved_row (suc n) r h =
      ⊎_elim
      (λ l. row_at_front (moved_rows new t n) _ r (omega (arith, moved_length n)) ∙ moved_row n r l)
      (λ e. rw e (row_at_next (moved_rows new t n) n (renumbered new (row_at t n)) (moved_length n)))
      (below_suc r n h)

-- ---- nodes

pub node_at_after : (t u : List ℤ) (n j : ℕ) → length t ≡ 9 * n → node_at (t ++ u) (n + j) ≡ node_at u j
unfolding node_at
node_at_after t u n j h i = record {
  up = get_d_after t u (9 * (n + j)) (9 * j) (omega arith) i;
  rule = get_d_after t u (9 * (n + j) + 1) (9 * j + 1) (omega arith) i;
  on = get_d_after t u (9 * (n + j) + 2) (9 * j + 2) (omega arith) i;
  with = get_d_after t u (9 * (n + j) + 3) (9 * j + 3) (omega arith) i;
  other = get_d_after t u (9 * (n + j) + 4) (9 * j + 4) (omega arith) i;
  to = get_d_after t u (9 * (n + j) + 5) (9 * j + 5) (omega arith) i;
  by = get_d_after t u (9 * (n + j) + 6) (9 * j + 6) (omega arith) i;
  start = get_d_after t u (9 * (n + j) + 7) (9 * j + 7) (omega arith) i;
  size = get_d_after t u (9 * (n + j) + 8) (9 * j + 8) (omega arith) i;
}

module _ (new : ℕ → ℕ) (d m : ℕ) (T : Tableau) where
  -- node j as it is written, d nodes and m members further on
  unfoldable pub moved_of : ℕ → Node
  moved_of j = record {
    up = parent_of d (node T j).up;
    rule = (node T j).rule;
    on = through new (node T j).on;
    with = through new (node T j).with;
    other = through new (node T j).other;
    to = further d (node T j).to;
    by = (node T j).by;
    start = (node T j).start +ℤ pos m;
    size = (node T j).size;
  }

  pub moved_nodes_length : (n : ℕ) → length (moved_nodes new d m T n) ≡ 9 * n
  unfolding moved_nodes moved_node
  moved_nodes_length zero = refl
  moved_nodes_length (suc n) = simp length-append (omega (arith, moved_nodes_length n))

  pub moved_node_lem : (n j : ℕ) → j < n → node_at (moved_nodes new d m T n) j ≡ moved_of j
  unfolding moved_nodes moved_node moved_of numbers_of
  moved_node_lem zero j h = absurd (omega arith)
  moved_node_lem (suc n) j h =
      ⊎_elim
      (λ l. node_at_front (moved_nodes new d m T n) _ j (omega (arith, moved_nodes_length n)) ∙ moved_node_lem n j l)
      (λ e. rw e (node_at_next (moved_nodes new d m T n) n (moved_of n) (moved_nodes_length n)))
      (below_suc j n h)

-- ---- members

module _ (new : ℕ → ℕ) where
  pub moved_members_length : (xs : List ℤ) → length (moved_members new xs) ≡ length xs
  unfolding moved_members
  moved_members_length [] = refl
  moved_members_length (x ∷ xs) = ap suc (moved_members_length xs)

  pub moved_take : (n : ℕ) (xs : List ℤ) → take n (moved_members new xs) ≡ moved_members new (take n xs)
  unfolding moved_members
  moved_take zero [] = refl
  moved_take zero (x ∷ xs) = refl
  moved_take (suc n) [] = refl
  moved_take (suc n) (x ∷ xs) = ap (λ (l : List ℤ). through new x ∷ l) (moved_take n xs)

  pub moved_drop : (n : ℕ) (xs : List ℤ) → drop n (moved_members new xs) ≡ moved_members new (drop n xs)
  unfolding moved_members
  moved_drop zero [] = refl
  moved_drop zero (x ∷ xs) = refl
  moved_drop (suc n) [] = refl
  moved_drop (suc n) (x ∷ xs) = moved_drop n xs

  pub moved_member : (xs : List ℤ) (z : ℤ) → Memᴰ z xs → Memᴰ (through new z) (moved_members new xs)
  unfolding moved_members
  moved_member [] z m = absurd (Memᴰ.not-nil m)
  moved_member (x ∷ xs) z m =
      ⊎_elim (λ e. Memᴰ.head (ap (through new) e)) (λ t. Memᴰ.tail (moved_member xs z t)) (Memᴰ.cases_cons m)

  pub moved_source : (xs : List ℤ) (z : ℤ) → Memᴰ z (moved_members new xs) → (x : ℤ) × Memᴰ x xs × (z ≡ through new x)
  unfolding moved_members
  moved_source [] z m = absurd (Memᴰ.not-nil m)
  moved_source (x ∷ xs) z m =
      ⊎_elim
      (λ e. (x, Memᴰ.head refl, e))
      (λ t. let o = moved_source xs z t in (o.0, Memᴰ.tail o.1, o.2))
      (Memᴰ.cases_cons m)

-- ---- counting

-- over one part and the next
pub count_add : (p : ℕ → Bool) (a b : ℕ) → count p (a + b) ≡ count p a + count (λ i. p (a + i)) b
unfolding count
count_add p a zero = let e : a + 0 ≡ a = omega arith in rw e (omega arith)
count_add p a (suc b) = let e : a + suc b ≡ suc (a + b) = omega arith in rw e (go (p (a + b)) (count_add p a b))
  where
    go : (v : Bool) → count p (a + b) ≡ count p a + count (λ i. p (a + i)) b → (if v then suc (count p (a + b)) else count p (a + b)) ≡ count p a + (if v then suc (count (λ i. p (a + i)) b) else count (λ i. p (a + i)) b)
    go true ih = omega arith
    go false ih = ih

-- where just the first passes
pub count_one : (p : ℕ → Bool) (n : ℕ) → 0 < n → p 0 ≡ true → ((i : ℕ) → suc i < n → p (suc i) ≡ false) → count p n ≡ 1
unfolding count
count_one p n h t f =
    let e : 1 + (n - 1) ≡ n = omega arith in
    ap (count p) (sym e)
    ∙ count_add p 1 (n - 1)
    ∙ ap₂ ◌+◌ first (count_none (λ i. p (1 + i)) (n - 1) (λ i l. ap p (later i) ∙ f i (omega arith)))
  where
    first : count p 1 ≡ 1
    first = count_true p 0 t

    later : (i : ℕ) → 1 + i ≡ suc i
    later i = omega arith
