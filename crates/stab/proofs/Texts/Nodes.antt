-- Node rows against their lines, with the sets that follow one another.
use Prim.Native.Nat.{ℕ, zero, suc, ◌+◌, ◌*◌, ◌-◌, ◌<◌, ◌≤◌}
use native.Mathlib.Omega.{arith}
use mathlib.Core.Path.{◌≡◌, refl, sym, ◌∙◌, ap, ap₂, subst}
use mathlib.Core.Logic.{⊎_elim}
use mathlib.Core.Bool.{true}
use mathlib.Core.List.{List, [], ◌∷◌, ◌++◌, append_assoc}
use lib.Dec.{leb}
use lib.IntN.{ℤ, pos, ◌+ℤ◌}
use lib.Signed.{le_z}
use lib.ListN.{length, take, drop, get_or, length-append, length-drop, take-append-drop}
use lib.Seq.{take-add, length-take-le, take_at, drop_at, get_or_at, get_or-drop, drop-drop, take-suc, append_snoc}
use borrow.Author.Tests.{leb-true, le-leb}
use Rattle.stab.specs.Basic.{◌and◌, all_of, eq_z, nat}
use Rattle.stab.specs.Node.{node_at, set_of, set_start, set_follows}
use Rattle.stab.specs.Text.{Line, lines, five_digits, row_line}
use Rattle.stab.specs.Read.{read, values, node_numbers, nodes_from}
use Rattle.stab.specs.Write.{node_values, node_lines, node_writable, nodes_writable}
use Rattle.stab.proofs.Bools.{and_left, and_right, and_both}
use Rattle.stab.proofs.Whole.{num, le_of, eq_z_true, eq_z_of, nat_pos, pos_injective}
use Rattle.stab.proofs.Scans.{below_suc}
use Rattle.stab.proofs.Texts.Lines.{full, row_bytes, text_of, lines_row}
use Rattle.stab.proofs.Texts.Rows.{read_injective, then_read, then_is, require_true, require_read, Row, values_row, row_values, all_append, all_front, all_back, take_row}

-- ---- the nine numbers of a node

-- nine numbers in front are the node's first seven, its set's start and its set's length
nine : (l : List ℤ) → 9 ≤ length l → take 9 l ≡ take 7 l ++ get_or l 7 (pos 0) ∷ get_or l 8 (pos 0) ∷ []
nine l h =
    take-suc l 8 (pos 0) (omega arith)
    ∙ ap (λ (a : List ℤ). a ++ get_or l 8 (pos 0) ∷ []) (take-suc l 7 (pos 0) (omega arith))
    ∙ append_assoc (take 7 l) (get_or l 7 (pos 0) ∷ []) (get_or l 8 (pos 0) ∷ [])

start_at : (nodes : List ℤ) (j : ℕ) → (node_at nodes j).start ≡ get_or (drop (9 * j) nodes) 7 (pos 0)
unfolding node_at
start_at nodes j = sym (get_or-drop (9 * j) nodes 7 (pos 0))

size_at : (nodes : List ℤ) (j : ℕ) → (node_at nodes j).size ≡ get_or (drop (9 * j) nodes) 8 (pos 0)
unfolding node_at
size_at nodes j = sym (get_or-drop (9 * j) nodes 8 (pos 0))

-- the numbers of the next node
drop_node : (nodes : List ℤ) (j : ℕ) → drop 9 (drop (9 * j) nodes) ≡ drop (9 * suc j) nodes
drop_node nodes j = drop-drop 9 (9 * j) nodes ∙ let e : 9 * j + 9 ≡ 9 * suc j = omega arith in ap (λ (i : ℕ). drop i nodes) e

nodes_none : (m s l : ℕ) → nodes_from m s l (lines []) ≡ read ([], [])
unfolding nodes_from lines
nodes_none m s l = refl

-- one node more in front
pub nodes_step : (m start k : ℕ) (l : Line) (ls : List Line) (vs : List ℤ) (rest : List ℤ × List ℤ)
    → values (leb 7) k l ≡ read vs → 1 ≤ m → start + (length vs - 7) ≤ 8192
    → nodes_from (m - 1) (start + (length vs - 7)) (suc k) ls ≡ read rest
    → nodes_from m start k (l ∷ ls) ≡ read (node_numbers vs start ++ rest.0, drop 7 vs ++ rest.1)
unfolding nodes_from
nodes_step m start k l ls vs rest h few fits r =
    then_is (values (leb 7) k l) _ vs h
    ∙ require_true (leb 1 m and leb (start + (length vs - 7)) 8192) _ k _ (and_both _ _ (le-leb 1 m few) (le-leb (start + (length vs - 7)) 8192 fits))
    ∙ then_is (nodes_from (m - 1) (start + (length vs - 7)) (suc k) ls) _ rest r

-- ---- nodes that can be written

-- a set that follows: its start is the place after the one before, and the next place is as much further as it is long
pub record Follows (nodes : List ℤ) (j s : ℕ) : Type 0 where
  pub size : ℕ
  pub starts : (node_at nodes j).start ≡ pos s
  pub sized : (node_at nodes j).size ≡ pos size
  pub next : set_start nodes (suc j) ≡ pos (s + size)

pub follows : (nodes : List ℤ) (j s : ℕ) → set_follows nodes j ≡ true → set_start nodes j ≡ pos s → Follows nodes j s
unfolding set_follows set_start
follows nodes j s h e =
    let a = eq_z_true (node_at nodes j).start (set_start nodes j) (and_left _ _ h) ∙ e in
    let b = sym (nat_pos (node_at nodes j).size (and_right (eq_z (node_at nodes j).start (set_start nodes j)) _ h)) in
    record { size = nat (node_at nodes j).size; starts = a; sized = b; next = ap₂ (λ (x y : ℤ). x +ℤ y) a b }

pub writable_at : (nodes : List ℤ) (k i : ℕ) → nodes_writable nodes k ≡ true → i < k → (set_follows nodes i ≡ true) × (node_writable nodes i ≡ true)
unfolding nodes_writable
writable_at nodes zero i h l = absurd (omega arith)
writable_at nodes (suc k) i h l =
    let last = and_right (nodes_writable nodes k) _ h in
    ⊎_elim
    (λ q. writable_at nodes k i (and_left _ _ h) q)
    (λ q. subst (λ (j : ℕ). (set_follows nodes j ≡ true) × (node_writable nodes j ≡ true)) (sym q) (and_left _ _ last, and_right (set_follows nodes k) _ last))
    (below_suc i k l)

-- the numbers of a node's line: seven, then its set
pub node_values_lem : (nodes members : List ℤ) (j s : ℕ) (f : Follows nodes j s) → node_values nodes members j ≡ take 7 (drop (9 * j) nodes) ++ take f.size (drop s members)
unfolding node_values set_of
node_values_lem nodes members j s f =
    ap₂ (λ (x y : ℤ). take 7 (drop (9 * j) nodes) ++ take (nat y) (drop (nat x) members)) f.starts f.sized ∙ (unfold nat in refl)

-- a node's nine numbers, from its line's
node_numbers_lem : (nodes set : List ℤ) (j s : ℕ) (f : Follows nodes j s) → 9 ≤ length (drop (9 * j) nodes) → length set ≡ f.size
    → node_numbers (take 7 (drop (9 * j) nodes) ++ set) s ≡ take 9 (drop (9 * j) nodes)
unfolding node_numbers
node_numbers_lem nodes set j s f h e =
    let l : List ℤ = drop (9 * j) nodes in
    let seven : length (take 7 l) ≡ 7 = length-take-le 7 l (omega arith) in
    let size : length (take 7 l ++ set) - 7 ≡ f.size = omega (arith, length-append (take 7 l) set) in
    ap₂ (λ (a : List ℤ) (i : ℕ). a ++ pos s ∷ pos i ∷ []) (take_at (take 7 l) set 7 seven) size
    ∙ ap₂ (λ (x y : ℤ). take 7 l ++ x ∷ y ∷ []) (sym f.starts ∙ start_at nodes j) (sym f.sized ∙ size_at nodes j)
    ∙ sym (nine l h)

module _ (nodes members : List ℤ) (k c : ℕ) (held : 9 * k ≤ length nodes) (enough : c ≤ length members) (few : c ≤ 8192)
    (writable : nodes_writable nodes k ≡ true) (ends : set_start nodes k ≡ pos c) where
  -- no set starts past the last member
  start_below : (n j s : ℕ) → j + n ≡ k → set_start nodes j ≡ pos s → s ≤ c
  start_below zero j s e h =
      let same : j ≡ k = omega arith in
      let last : s ≡ c = pos_injective s c (sym h ∙ ap (set_start nodes) same ∙ ends) in
      omega arith
  start_below (suc n) j s e h =
      let f = follows nodes j s (writable_at nodes k j writable (omega arith)).0 h in
      omega (arith, start_below n (suc j) (s + f.size) (omega arith) f.next)

  -- node rows, written, read back as they were, and their members
  pub nodes_back : (n j s m l : ℕ) → j + n ≡ k → n ≤ m → set_start nodes j ≡ pos s → all_of five_digits (take (c - s) (drop s members)) ≡ true
      → nodes_from m s l (lines (node_lines nodes members j n)) ≡ read (take (9 * n) (drop (9 * j) nodes), take (c - s) (drop s members))
  unfolding node_lines
  nodes_back zero j s m l e b h d =
      let same : j ≡ k = omega arith in
      let last : s ≡ c = pos_injective s c (sym h ∙ ap (set_start nodes) same ∙ ends) in
      let none : 0 ≡ c - s = omega arith in
      nodes_none m s l ∙ ap (λ (i : ℕ). read ([], take i (drop s members))) none
  nodes_back (suc n) j s m l e b h d =
      let w = writable_at nodes k j writable (omega arith) in
      let f = follows nodes j s w.0 h in
      let z = f.size in
      let fits : s + z ≤ c = start_below n (suc j) (s + z) (omega arith) f.next in
      let head : List ℤ = take 7 (drop (9 * j) nodes) in
      let set : List ℤ = take z (drop s members) in
      let length_head : length head ≡ 7 = length-take-le 7 (drop (9 * j) nodes) (omega (arith, length-drop (9 * j) nodes)) in
      let length_set : length set ≡ z = length-take-le z (drop s members) (omega (arith, length-drop s members)) in
      let split : take (c - s) (drop s members) ≡ set ++ take (c - (s + z)) (drop (s + z) members) =
      (let more : c - s ≡ z + (c - (s + z)) = omega arith in
      ap (λ (i : ℕ). take i (drop s members)) more ∙ take-add z (c - (s + z)) (drop s members)
      ∙ ap (λ (x : List ℤ). set ++ take (c - (s + z)) x) (drop-drop z s members)) in
      let digits = subst (λ (x : List ℤ). all_of five_digits x ≡ true) split d in
      let vs : List ℤ = head ++ set in
      let size : length vs ≡ 7 + z = length-append head set ∙ omega arith in
      let after : s + (length vs - 7) ≡ s + z = omega arith in
      let rest : List Line = lines (node_lines nodes members (suc j) n) in
      ap (nodes_from m s l) (lines_row (node_values nodes members j) (node_lines nodes members (suc j) n))
      ∙ ap (λ (x : List ℤ). nodes_from m s l (full (row_bytes x) ∷ rest)) (node_values_lem nodes members j s f)
      ∙ nodes_step m s l (full (row_bytes vs)) rest vs (take (9 * n) (drop (9 * suc j) nodes), take (c - (s + z)) (drop (s + z) members))
      (values_row (leb 7) l vs (omega arith)
      (all_append five_digits head set (unfold node_writable in w.1) (all_front five_digits set _ digits))
      (le-leb 7 (length vs) (omega arith)))
      (omega arith) (omega arith)
      (ap (λ (i : ℕ). nodes_from (m - 1) i (suc l) rest) after
      ∙ nodes_back n (suc j) (s + z) (m - 1) (suc l) (omega arith) (omega arith) f.next (all_back five_digits set _ digits))
      ∙ ap₂ (λ (a b : List ℤ). read (a, b))
      (ap₂ (λ (a b : List ℤ). a ++ take (9 * n) b) (node_numbers_lem nodes set j s f (omega (arith, length-drop (9 * j) nodes)) length_set) (sym (drop_node nodes j))
      ∙ sym (take_row 9 n (drop (9 * j) nodes)))
      (ap (λ (a : List ℤ). a ++ take (c - (s + z)) (drop (s + z) members)) (drop_at head set 7 length_head) ∙ sym split)

-- ---- nodes that were read

-- what tables give that hold, from node j on, the nodes and members of some lines: the lines' bytes, and sets that follow
pub record Writes (nodes members : List ℤ) (j start : ℕ) (ls : List Line) (r : List ℤ × List ℤ) : Type 0 where
  pub text : text_of ls ≡ node_lines nodes members j (length ls)
  pub writable : nodes_writable nodes (j + length ls) ≡ true
  pub ends : set_start nodes (j + length ls) ≡ pos (start + length r.1)

-- what lines are that give nodes, after some with `start` members between them
pub record Nodes (m start : ℕ) (ls : List Line) (r : List ℤ × List ℤ) : Type 0 where
  pub count : 9 * length ls ≡ length r.0
  pub few : length ls ≤ m
  pub fits : start ≤ 8192 → start + length r.1 ≤ 8192
  pub digits : all_of five_digits r.1 ≡ true
  pub writes : (nodes members : List ℤ) (j : ℕ) (more others : List ℤ)
      → drop (9 * j) nodes ≡ r.0 ++ more → drop start members ≡ r.1 ++ others
      → nodes_writable nodes j ≡ true → set_start nodes j ≡ pos start
      → Writes nodes members j start ls r

-- a node's place in a table whose numbers from there on are its line's
node_follows_lem : (nodes x : List ℤ) (j s : ℕ) (vs : List ℤ) → 7 ≤ length vs → drop (9 * j) nodes ≡ node_numbers vs s ++ x → set_start nodes j ≡ pos s
    → (f : Follows nodes j s) × (f.size ≡ length vs - 7) × (set_follows nodes j ≡ true)
unfolding node_numbers set_follows set_start
node_follows_lem nodes x j s vs h e p =
    let z : ℕ = length vs - 7 in
    let seven : length (take 7 vs) ≡ 7 = length-take-le 7 vs h in
    let starts : (node_at nodes j).start ≡ pos s =
    (start_at nodes j ∙ ap (λ (l : List ℤ). get_or l 7 (pos 0)) (e ∙ append_assoc (take 7 vs) (pos s ∷ pos z ∷ []) x)
    ∙ get_or_at (take 7 vs) (pos s) (pos z ∷ x) (pos 0) 7 seven) in
    let sized : (node_at nodes j).size ≡ pos z =
    (size_at nodes j
    ∙ ap (λ (l : List ℤ). get_or l 8 (pos 0)) (e ∙ append_assoc (take 7 vs) (pos s ∷ pos z ∷ []) x ∙ sym (append_snoc (take 7 vs) (pos s) (pos z ∷ x)))
    ∙ get_or_at (take 7 vs ++ pos s ∷ []) (pos z) x (pos 0) 8 (length-append (take 7 vs) (pos s ∷ []) ∙ omega arith)) in (
      record { size = z; starts = starts; sized = sized; next = ap₂ (λ (a b : ℤ). a +ℤ b) starts sized },
      refl,
      and_both _ _ (eq_z_of _ _ (starts ∙ sym p)) (ap (le_z (pos 0)) sized ∙ le_of (num 0) (num z) (omega arith)),
    )

length_nine : (vs : List ℤ) (s : ℕ) → 7 ≤ length vs → length (node_numbers vs s) ≡ 9
unfolding node_numbers
length_nine vs s h = length-append (take 7 vs) (pos s ∷ pos (length vs - 7) ∷ []) ∙ let e = length-take-le 7 vs h in omega arith

take_nine : (vs x : List ℤ) (s : ℕ) → 7 ≤ length vs → take 7 (node_numbers vs s ++ x) ≡ take 7 vs
unfolding node_numbers
take_nine vs x s h =
    ap (take 7) (append_assoc (take 7 vs) (pos s ∷ pos (length vs - 7) ∷ []) x) ∙ take_at (take 7 vs) _ 7 (length-take-le 7 vs h)

nodes_empty : (m start : ℕ) → Nodes m start [] ([], [])
unfolding all_of
nodes_empty m start =
    record {
      count = omega arith;
      few = omega arith;
      fits = λ h. omega arith;
      digits = refl;
      writes = λ nodes members j more others a b w p.
          let here : j ≡ j + 0 = omega arith in
          let none : start ≡ start + 0 = omega arith in
          record {
            text = unfold text_of node_lines in refl;
            writable = subst (λ (x : ℕ). nodes_writable nodes x ≡ true) here w;
            ends = subst (λ (x : ℕ). set_start nodes x ≡ pos (start + 0)) here (p ∙ ap pos none);
          };
    }

-- one line more in front
writes_step : (m start : ℕ) (l : Line) (ls : List Line) (vs : List ℤ) (rest : List ℤ × List ℤ)
    → Row (leb 7) l vs → Nodes m (start + (length vs - 7)) ls rest
    → (nodes members : List ℤ) (j : ℕ) (more others : List ℤ)
    → drop (9 * j) nodes ≡ (node_numbers vs start ++ rest.0) ++ more → drop start members ≡ (drop 7 vs ++ rest.1) ++ others
    → nodes_writable nodes j ≡ true → set_start nodes j ≡ pos start
    → Writes nodes members j start (l ∷ ls) (node_numbers vs start ++ rest.0, drop 7 vs ++ rest.1)
unfolding node_writable nodes_writable node_lines
writes_step m start l ls vs rest r i nodes members j more others a b w p =
    let h : 7 ≤ length vs = leb-true 7 (length vs) r.count in
    let z : ℕ = length vs - 7 in
    let sevens : length (drop 7 vs) ≡ z = length-drop 7 vs in
    let a' : drop (9 * j) nodes ≡ node_numbers vs start ++ (rest.0 ++ more) = a ∙ append_assoc (node_numbers vs start) rest.0 more in
    let b' : drop start members ≡ drop 7 vs ++ (rest.1 ++ others) = b ∙ append_assoc (drop 7 vs) rest.1 others in
    let f = node_follows_lem nodes (rest.0 ++ more) j start vs h a' p in
    let front : take 7 (drop (9 * j) nodes) ≡ take 7 vs = ap (take 7) a' ∙ take_nine vs (rest.0 ++ more) start h in
    let set : take f.0.size (drop start members) ≡ drop 7 vs =
    (ap₂ take f.1 b' ∙ take_at (drop 7 vs) (rest.1 ++ others) z sevens) in
    let are : node_values nodes members j ≡ vs =
    (node_values_lem nodes members j start f.0 ∙ ap₂ (λ (x y : List ℤ). x ++ y) front set ∙ take-append-drop 7 vs) in
    let can : node_writable nodes j ≡ true =
    (ap (all_of five_digits) front ∙ all_front five_digits (take 7 vs) (drop 7 vs) (ap (all_of five_digits) (take-append-drop 7 vs) ∙ r.digits)) in
    let n = i.writes nodes members (suc j) more others
    (sym (drop_node nodes j) ∙ ap (drop 9) a' ∙ drop_at (node_numbers vs start) (rest.0 ++ more) 9 (length_nine vs start h))
    (sym (drop-drop z start members) ∙ ap (drop z) b' ∙ drop_at (drop 7 vs) (rest.1 ++ others) z sevens)
    (and_both (nodes_writable nodes j) _ w (and_both (set_follows nodes j) _ f.2 can))
    (f.0.next ∙ ap (λ (y : ℕ). pos (start + y)) f.1) in
    let on : suc j + length ls ≡ j + suc (length ls) = omega arith in
    let sum : (start + z) + length rest.1 ≡ start + length (drop 7 vs ++ rest.1) = omega (arith, length-append (drop 7 vs) rest.1) in
    record {
      text =
          r.text ls ∙ ap₂ (λ (x : List ℤ) (y : List ℕ). row_line x ++ y) (sym are) n.text;
      writable = subst (λ (x : ℕ). nodes_writable nodes x ≡ true) on n.writable;
      ends = subst (λ (x : ℕ). set_start nodes x ≡ pos (start + length (drop 7 vs ++ rest.1))) on (n.ends ∙ ap pos sum);
    }

pub nodes_are : (m start k : ℕ) (ls : List Line) (r : List ℤ × List ℤ) → nodes_from m start k ls ≡ read r → Nodes m start ls r
unfolding nodes_from
nodes_are m start k [] r h = subst (Nodes m start []) (read_injective ([], []) r h) (nodes_empty m start)
nodes_are m start k (l ∷ ls) r h =
    let a = then_read (values (leb 7) k l) _ r h in
    let vs = a.0 in
    let row = row_values (leb 7) k l vs a.1 in
    let z : ℕ = length vs - 7 in
    let b = require_read (leb 1 m and leb (start + z) 8192) _ k _ r a.2 in
    let c = then_read (nodes_from (m - 1) (start + z) (suc k) ls) _ r b.1 in
    let rest = c.0 in
    let i = nodes_are (m - 1) (start + z) (suc k) ls rest c.1 in
    subst (Nodes m start (l ∷ ls)) (read_injective (node_numbers vs start ++ rest.0, drop 7 vs ++ rest.1) r c.2)
    (record {
      count = omega (arith, length-append (node_numbers vs start) rest.0, length_nine vs start (leb-true 7 (length vs) row.count), i.count);
      few = omega (arith, leb-true 1 m (and_left _ _ b.0), i.few);
      fits = λ s. let t = i.fits (leb-true (start + z) 8192 (and_right (leb 1 m) _ b.0)) in omega (arith, length-append (drop 7 vs) rest.1, length-drop 7 vs);
      digits = all_append five_digits (drop 7 vs) rest.1 (all_back five_digits (take 7 vs) (drop 7 vs) (ap (all_of five_digits) (take-append-drop 7 vs) ∙ row.digits)) i.digits;
      writes = writes_step (m - 1) start l ls vs rest row i;
    })
