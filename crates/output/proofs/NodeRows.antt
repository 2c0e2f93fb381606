-- Node rows as lines, one more at a time, and the sets that follow one another.
use Prim.Native.Nat.{ℕ, zero, suc, ◌+◌, ◌-◌, ◌*◌, ◌<◌, ◌≤◌}
use native.Mathlib.Omega.{arith}
use native.Mathlib.Nat.{zero-add}
use native.Mathlib.Numerals.{add-one}
use mathlib.Core.Path.{◌≡◌, refl, sym, ◌∙◌, ap, ap₂}
use mathlib.Core.Logic.{⊎_elim}
use mathlib.Core.Bool.{Bool, true, false, true≢false}
use mathlib.Core.List.{List, ◌++◌, append-nil}
use lib.Dec.{eqb}
use lib.IntN.{ℤ, pos, negsuc, neg_ℤ}
use lib.Signed.{le_z}
use lib.ListN.{length, take, drop, get_or, length-append, length-drop}
use lib.Seq.{take-add, take-take, get_or-take, length-take-le}
use Rattle.std.proofs.lemmas.List.{get_or-drop}
use borrow.Author.Tests.{le-leb}
use Rattle.stab.specs.Basic.{◌and◌, all_of, eq_z, nat}
use Rattle.stab.specs.Node.{node_at, set_start, set_follows}
use Rattle.stab.specs.Text.{five_digits, bytes, row_line, heading_line, row_heading, node_heading}
use Rattle.stab.specs.Write.{row_lines, proof_text, node_values, node_lines, node_writable, nodes_writable}
use Rattle.stab.proofs.Bools.{and_both, and_first_false, and_second_false, decide}
use Rattle.stab.proofs.Whole.{eq_z_of, eq_z_not, nat_pos, pos_injective}
use Rattle.stab.proofs.RowLines.{nodes_split}
use Rattle.stab.proofs.Texts.Nodes.{Follows, follows, writable_at, node_values_lem}
use Rattle.digits.specs.Over.{spread}
use Rattle.output.specs.NodeTexts.{columns_width, NodesWritable}
use Rattle.output.proofs.Chunks.{NextRow}
use Rattle.output.proofs.Spreads.{spread_append, spread_most, row_length}
use Rattle.output.specs.Headed.{Writable}
use Rattle.output.proofs.RowTexts.{all_within, rows_length}
use Rattle.output.proofs.HeadedTexts.{four_length}

-- ---- lines

pub nodes_next : (nodes members : List ℤ) (j : ℕ) → node_lines nodes members 0 (j + 1) ≡ node_lines nodes members 0 j ++ row_line (node_values nodes members j)
unfolding node_lines
nodes_next nodes members j =
    nodes_split nodes members 0 j 1
    ∙ ap (λ (l : List ℕ). node_lines nodes members 0 j ++ l) (append-nil (row_line (node_values nodes members (0 + j))))
    ∙ ap (λ (m : ℕ). node_lines nodes members 0 j ++ row_line (node_values nodes members m)) (zero-add j)

pub nodes_part : (nodes members : List ℤ) (i n : ℕ) → i ≤ n → length (node_lines nodes members 0 i) ≤ length (node_lines nodes members 0 n)
nodes_part nodes members i n h =
    omega (
      arith,
      ap length (nodes_split nodes members 0 i (n - i)),
      length-append (node_lines nodes members 0 i) (node_lines nodes members (0 + i) (n - i)),
      ap (λ (k : ℕ). length (node_lines nodes members 0 k)) sum,
    )
  where
    sum : i + (n - i) ≡ n
    sum = omega arith

-- ---- where sets start

pub pos_nat : (z : ℤ) (n : ℕ) → z ≡ pos n → z ≡ pos (nat z)
unfolding nat
pos_nat z n e = e ∙ ap (λ (x : ℤ). pos (nat x)) (sym e)

module _ (nodes : List ℤ) (k : ℕ) (writable : nodes_writable nodes k ≡ true) where
  -- a set's place and length
  pub follow : (j s : ℕ) → j < k → set_start nodes j ≡ pos s → Follows nodes j s
  follow j s h e = follows nodes j s (writable_at nodes k j writable h).0 e

  pub starts : (j : ℕ) → j ≤ k → set_start nodes j ≡ pos (nat (set_start nodes j))
  starts zero h = unfold set_start nat in refl
  starts (suc j) h =
      let f = follow j (nat (set_start nodes j)) (omega arith) (starts j (omega arith)) in
      pos_nat (set_start nodes (suc j)) _ f.next

  pub last_start : set_start nodes k ≡ pos (nat (set_start nodes k))
  last_start = starts k (omega arith)

  -- no set starts past the end of the last
  rise : (d j s : ℕ) → j + d ≡ k → set_start nodes j ≡ pos s → s ≤ nat (set_start nodes k)
  rise zero j s e h =
      let same : j ≡ k = omega arith in
      let last = pos_injective s (nat (set_start nodes k)) (sym h ∙ ap (set_start nodes) same ∙ last_start) in
      omega arith
  rise (suc d) j s e h =
      let f = follow j s (omega arith) h in
      omega (arith, rise d (suc j) (s + f.size) (omega arith) f.next)

  -- nor does one end there
  pub ends_within : (j s : ℕ) (h : j < k) (e : set_start nodes j ≡ pos s) → s + (follow j s h e).size ≤ nat (set_start nodes k)
  ends_within j s h e = rise (k - suc j) (suc j) _ (omega arith) (follow j s h e).next

-- ---- a node that is written

module _ (nodes members : List ℤ) (k : ℕ) (h : NodesWritable nodes k members) (j s : ℕ) (less : j < k) (e : set_start nodes j ≡ pos s) where
  pub node_held : 9 * j + 9 ≤ length nodes
  node_held = omega (arith, h.held)

  pub node_size : nat (node_at nodes j).size ≡ (follow nodes k h.sets j s less e).size
  unfolding nat
  node_size = ap nat (follow nodes k h.sets j s less e).sized

  pub set_within : s + nat (node_at nodes j).size ≤ nat (set_start nodes k)
  set_within = omega (arith, node_size, ends_within nodes k h.sets j s less e)

  pub set_held_lem : s + nat (node_at nodes j).size ≤ length members
  set_held_lem = omega (arith, set_within, h.inside)

  pub next_start : set_start nodes (j + 1) ≡ pos (s + nat (node_at nodes j).size)
  next_start =
      ap (set_start nodes) (add-one j)
      ∙ (follow nodes k h.sets j s less e).next
      ∙ ap (λ (n : ℕ). pos (s + n)) (sym node_size)

  pub node_row : node_values nodes members j ≡ take 7 (drop (9 * j) nodes) ++ take (nat (node_at nodes j).size) (drop s members)
  node_row =
      node_values_lem nodes members j s (follow nodes k h.sets j s less e)
      ∙ ap (λ (n : ℕ). take 7 (drop (9 * j) nodes) ++ take n (drop s members)) (sym node_size)

  pub node_digits : all_of five_digits (take 7 (drop (9 * j) nodes)) ≡ true
  node_digits = unfold node_writable in (writable_at nodes k j h.sets less).1

  pub set_digits : all_of five_digits (take (nat (node_at nodes j).size) (drop s members)) ≡ true
  set_digits = all_within five_digits s (nat (node_at nodes j).size) (nat (set_start nodes k)) members set_within h.digits

  pub node_seven : length (take 7 (drop (9 * j) nodes)) ≡ 7
  node_seven = length-take-le 7 (drop (9 * j) nodes) (omega (arith, length-drop (9 * j) nodes, node_held))

  -- what its line takes
  pub node_length : length (row_line (node_values nodes members j))
      ≡ length (spread (take 7 (drop (9 * j) nodes))) + length (spread (take (nat (node_at nodes j).size) (drop s members)))
  node_length =
      ap (λ (l : List ℤ). length (row_line l)) node_row
      ∙ row_length (seven ++ set) (omega (arith, length-append seven set, node_seven))
      ∙ ap length (spread_append seven set)
      ∙ length-append (spread seven) (spread set)
    where
      seven : List ℤ
      seven = take 7 (drop (9 * j) nodes)

      set : List ℤ
      set = take (nat (node_at nodes j).size) (drop s members)

-- ---- the next row of a table that holds k nodes

module _ (nodes : List ℤ) (k j : ℕ) (row after : List ℤ) (next : NextRow 9 nodes k j row after) where
  pub seven_is : take 7 row ≡ take 7 (drop (9 * j) nodes)
  seven_is = ap (take 7) next.is ∙ take-take 7 9 (drop (9 * j) nodes) (omega arith)

  pub size_is : get_or row 8 (pos 0) ≡ (node_at nodes j).size
  unfolding node_at
  size_is =
      ap (λ (l : List ℤ). get_or l 8 (pos 0)) next.is
      ∙ get_or-take 9 (drop (9 * j) nodes) 8 (pos 0) (omega arith)
      ∙ get_or-drop (9 * j) nodes 8 (pos 0)

-- its set starts at s and has n members
pub record NextNode (nodes members : List ℤ) (j : ℕ) (row : List ℤ) (s n : ℕ) : Type 0 where
  pub wide : length (take 7 row) ≡ 7
  pub digits : all_of five_digits (take 7 row) ≡ true
  pub inside : s + n ≤ length members
  pub set_digits : all_of five_digits (take (s + n - s) (drop s members)) ≡ true
  pub lines : node_lines nodes members 0 j ++ row_line (take 7 row ++ take (s + n - s) (drop s members)) ≡ node_lines nodes members 0 (j + 1)
  pub starts : set_start nodes (j + 1) ≡ pos (s + n)

module _ (nodes members : List ℤ) (k : ℕ) (h : NodesWritable nodes k members) (j : ℕ) (row after : List ℤ) (next : NextRow 9 nodes k j row after)
    (s : ℕ) (e : set_start nodes j ≡ pos s) (n : ℕ) (sized : n ≡ nat (get_or row 8 (pos 0))) where
  count : n ≡ nat (node_at nodes j).size
  count = sized ∙ ap nat (size_is nodes k j row after next)

  set_is : take (s + n - s) (drop s members) ≡ take (nat (node_at nodes j).size) (drop s members)
  set_is = ap (λ (m : ℕ). take m (drop s members)) (omega (arith, count))

  line_is : take 7 row ++ take (s + n - s) (drop s members) ≡ node_values nodes members j
  line_is = ap₂ (λ (a b : List ℤ). a ++ b) (seven_is nodes k j row after next) set_is ∙ sym (node_row nodes members k h j s next.less e)

  pub next_node : NextNode nodes members j row s n
  next_node = record {
    wide = ap length (seven_is nodes k j row after next) ∙ node_seven nodes members k h j s next.less e;
    digits = ap (all_of five_digits) (seven_is nodes k j row after next) ∙ node_digits nodes members k h j s next.less e;
    inside = omega (arith, count, set_held_lem nodes members k h j s next.less e);
    set_digits = ap (all_of five_digits) set_is ∙ set_digits nodes members k h j s next.less e;
    lines = ap (λ (l : List ℤ). node_lines nodes members 0 j ++ row_line l) line_is ∙ sym (nodes_next nodes members j);
    starts = next_start nodes members k h j s next.less e ∙ ap (λ (m : ℕ). pos (s + m)) (sym count);
  }

-- ---- what all lines take

pub columns_most : (nodes : List ℤ) (k : ℕ) → 9 * k ≤ length nodes → columns_width nodes k ≤ 49 * k
unfolding columns_width
columns_most nodes zero h = omega arith
columns_most nodes (suc k) h =
    omega (
      arith,
      columns_most nodes k (omega arith),
      spread_most (take 7 (drop (9 * k) nodes)),
      length-take-le 7 (drop (9 * k) nodes) (omega (arith, length-drop (9 * k) nodes)),
    )

module _ (nodes members : List ℤ) (k : ℕ) (h : NodesWritable nodes k members) where
  lines_length : (i s : ℕ) → i ≤ k → set_start nodes i ≡ pos s
      → length (node_lines nodes members 0 i) ≡ columns_width nodes i + length (spread (take s members))
  unfolding node_lines columns_width set_start spread
  lines_length zero s l e =
      let none = pos_injective 0 s e in
      omega (arith, ap (λ (n : ℕ). length (spread (take n members))) none)
  lines_length (suc i) s l e =
      let s' = nat (set_start nodes i) in
      let e' = starts nodes k h.sets i (omega arith) in
      let n = nat (node_at nodes i).size in
      let sum = pos_injective s (s' + n) (sym e ∙ ap (set_start nodes) (sym (add-one i)) ∙ next_start nodes members k h i s' (omega arith) e') in
      omega (
        arith,
        ap (λ (m : ℕ). length (node_lines nodes members 0 m)) (add-one i),
        ap length (nodes_next nodes members i),
        length-append (node_lines nodes members 0 i) (row_line (node_values nodes members i)),
        node_length nodes members k h i s' (omega arith) e',
        lines_length i s' (omega arith) e',
        ap (λ (m : ℕ). length (spread (take m members))) sum,
        ap (λ (l : List ℤ). length (spread l)) (take-add s' n members),
        ap length (spread_append (take s' members) (take n (drop s' members))),
        length-append (spread (take s' members)) (spread (take n (drop s' members))),
      )

  pub nodes_length : length (node_lines nodes members 0 k) ≡ columns_width nodes k + length (spread (take (nat (set_start nodes k)) members))
  nodes_length = lines_length k (nat (set_start nodes k)) (omega arith) (last_start nodes k h.sets)

-- ---- the test of a node

pub start_other : (z : ℤ) (s : ℕ) → (nat z ≡ s → ⊥) → eq_z z (pos s) ≡ false
unfolding nat
start_other z s h = eq_z_not z (pos s) (λ e. h (ap nat e))

pub under_none : (z : ℤ) → nat (neg_ℤ z) ≡ 0 → le_z (pos 0) z ≡ true
unfolding nat
under_none (pos n) h = le-leb 0 n (omega arith)
under_none (negsuc n) h = absurd (omega arith)

pub under_some : (z : ℤ) → (nat (neg_ℤ z) ≡ 0 → ⊥) → le_z (pos 0) z ≡ false
unfolding nat
under_some (pos zero) h = absurd (h refl)
under_some (pos (suc n)) h = absurd (h refl)
under_some (negsuc n) h = refl

pub negative_not : (z : ℤ) (s : ℕ) → (nat (neg_ℤ z) ≡ 0 → ⊥) → eq_z z (pos s) ≡ false
unfolding nat eq_z
negative_not (pos zero) s h = absurd (h refl)
negative_not (pos (suc n)) s h = absurd (h refl)
negative_not (negsuc n) s h = refl

pub start_same : (z : ℤ) (s : ℕ) → nat (neg_ℤ z) ≡ 0 → nat z ≡ s → eq_z z (pos s) ≡ true
start_same z s h e = eq_z_of z (pos s) (sym (nat_pos z (under_none z h)) ∙ ap pos e)

-- a node that fails leaves the nodes unwritable
pub nodes_not : (nodes : List ℤ) (k j : ℕ) → j < k → (set_follows nodes j and node_writable nodes j) ≡ false → nodes_writable nodes k ≡ false
nodes_not nodes k j h e =
    ⊎_elim
    (λ w. let b = writable_at nodes k j w h in absurd (true≢false (sym (and_both _ _ b.0 b.1) ∙ e)))
    (λ w. w)
    (decide (nodes_writable nodes k))

pub nodes_more : (nodes : List ℤ) (j : ℕ) → nodes_writable nodes j ≡ true → (set_follows nodes j and node_writable nodes j) ≡ true → nodes_writable nodes (j + 1) ≡ true
nodes_more nodes j h e = ap (nodes_writable nodes) (add-one j) ∙ (unfold nodes_writable in and_both _ _ h e)

module _ (nodes : List ℤ) (j s : ℕ) (e : set_start nodes j ≡ pos s) where
  starts_as : eq_z (node_at nodes j).start (set_start nodes j) ≡ eq_z (get_or nodes (9 * j + 7) (pos 0)) (pos s)
  unfolding node_at
  starts_as = ap (eq_z (get_or nodes (9 * j + 7) (pos 0))) e

  sized_as : le_z (pos 0) (node_at nodes j).size ≡ le_z (pos 0) (get_or nodes (9 * j + 7 + 1) (pos 0))
  unfolding node_at
  sized_as = ap (λ (i : ℕ). le_z (pos 0) (get_or nodes i (pos 0))) next
    where
      next : 9 * j + 8 ≡ 9 * j + 7 + 1
      next = omega arith

  pub start_fails : eq_z (get_or nodes (9 * j + 7) (pos 0)) (pos s) ≡ false → (set_follows nodes j and node_writable nodes j) ≡ false
  unfolding set_follows
  start_fails f = and_first_false _ _ (and_first_false _ _ (starts_as ∙ f))

  pub size_fails : le_z (pos 0) (get_or nodes (9 * j + 7 + 1) (pos 0)) ≡ false → (set_follows nodes j and node_writable nodes j) ≡ false
  unfolding set_follows
  size_fails f = and_first_false _ _ (and_second_false (eq_z (node_at nodes j).start (set_start nodes j)) _ (sized_as ∙ f))

  pub node_is : eq_z (get_or nodes (9 * j + 7) (pos 0)) (pos s) ≡ true → le_z (pos 0) (get_or nodes (9 * j + 7 + 1) (pos 0)) ≡ true
      → all_of five_digits (take (9 * j + 7 - 9 * j) (drop (9 * j) nodes)) ≡ (set_follows nodes j and node_writable nodes j)
  unfolding set_follows node_writable
  node_is f g =
      ap (λ (n : ℕ). all_of five_digits (take n (drop (9 * j) nodes))) seven
      ∙ sym (true_and _ _ (and_both _ _ (starts_as ∙ f) (sized_as ∙ g)))
    where
      seven : 9 * j + 7 - 9 * j ≡ 7
      seven = omega arith

      true_and : (a b : Bool) → a ≡ true → (a and b) ≡ b
      true_and true b q = unfold ◌and◌ in refl
      true_and false b q = absurd (true≢false (sym q))

-- where the next set starts
pub step_start : (nodes : List ℤ) (j s : ℕ) → set_follows nodes j ≡ true → set_start nodes j ≡ pos s
    → set_start nodes (j + 1) ≡ pos (s + nat (get_or nodes (9 * j + 8) (pos 0)))
unfolding node_at nat
step_start nodes j s h e =
    let f = follows nodes j s h e in
    ap (set_start nodes) (add-one j) ∙ f.next ∙ ap (λ (n : ℕ). pos (s + n)) (sym (ap nat f.sized))

pub ends_same : (nodes : List ℤ) (k s m : ℕ) → nodes_writable nodes k ≡ true → set_start nodes k ≡ pos s
    → eqb s m ≡ (nodes_writable nodes k and eq_z (set_start nodes k) (pos m))
unfolding ◌and◌ eq_z
ends_same nodes k s m h e = sym (ap₂ (λ (a : Bool) (z : ℤ). a and eq_z z (pos m)) h e)

-- ---- the whole text

pub proof_length : (t : List ℤ) (r : ℕ) (nodes : List ℤ) (k : ℕ) (members : List ℤ) (m : ℕ)
    → Writable 4 t r → NodesWritable nodes k members → nat (set_start nodes k) ≡ m
    → length (proof_text t r nodes k members) ≡ 43 + length (spread (take (4 * r) t)) + columns_width nodes k + length (spread (take m members))
unfolding proof_text
proof_length t r nodes k members m w h e =
    omega (
      arith,
      four_length (heading_line row_heading) (row_lines 4 r t) (heading_line node_heading) (node_lines nodes members 0 k),
      row_heading_lem,
      node_heading_lem,
      rows_length 4 r t (omega arith) w.held,
      nodes_length nodes members k h,
      ap (λ (n : ℕ). length (spread (take n members))) e,
    )
  where
    row_heading_lem : length (heading_line row_heading) ≡ 11
    row_heading_lem = unfold heading_line row_heading bytes in refl

    node_heading_lem : length (heading_line node_heading) ≡ 32
    node_heading_lem = unfold heading_line node_heading bytes in refl
