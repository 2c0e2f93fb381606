-- Node rows of a text, as the definitions have them and as they are stored.
use Prim.Native.Nat.{ℕ, suc, ◌+◌, ◌*◌, ◌-◌, ◌<◌, ◌≤◌}
use native.Mathlib.Omega.{arith}
use native.Mathlib.Numerals.{add-one}
use mathlib.Core.Path.{◌≡◌, refl, sym, ◌∙◌, ap, ap₂}
use mathlib.Core.Bool.{Bool, false}
use mathlib.Core.List.{List, [], ◌∷◌, ◌++◌, append_assoc, append-nil}
use mathlib.Core.Option.{Option, none, some}
use lib.Dec.{leb}
use lib.IntN.{ℤ, pos}
use lib.ListN.{length, take, drop, get_or, set, length-append, length-drop, drop_of_length-le}
use lib.Seq.{sets, take_all, take_at, drop_at, drop-cons, length-take-le}
use borrow.Author.Tests.{leb-true, le-leb, lt-leb}
use Rattle.stab.specs.Basic.{◌and◌}
use Rattle.stab.specs.Text.{Line, lines}
use Rattle.stab.specs.Read.{Reading, read, stopped, ◌and_then◌, require, node_numbers, nodes_from}
use Rattle.stab.specs.declared.Refusal.TheVariants.{TooMany}
use Rattle.stab.specs.declared.Refusal.TheVariants.{Line as BadLine}
use Rattle.stab.proofs.Bools.{and_both, and_first_false, and_second_false}
use Rattle.stab.proofs.Texts.Rows.{then_is}
use Rattle.numerals.specs.Here.{after_line, row, first_numbers}
use Rattle.text.specs.Rows.{row_front, wanted, RowEnded, RowOpen, past_line, row_into}
use Rattle.text.specs.Nodes.{SetOf, node_found_by, node_found, set_into, nodes_ahead}
use Rattle.text.specs.declared.nodes.NodeFound.{NodeFound}
use Rattle.text.specs.declared.nodes.NodeFound.TheVariants.{At, Nothing}
use Rattle.numerals.proofs.Lines.{lines_first, lines_nil, row_numbers, first_few}
use Rattle.text.proofs.Parts.{sets_append}
use Rattle.text.proofs.RowLaws.{wanted_if, wanted_not, wanted_some, past_row, past_only, line_read, values_are, take_sets, then_stops}

-- ---- one row

-- A node row was read.
pub record NodeRead (text : List ℕ) (at : ℕ) (t : List ℤ) (to : ℕ) (m : List ℤ) (start : ℕ) (t' m' : List ℤ) (next last : ℕ) : Type 0 where
  pub vs : List ℤ
  pub numbers : row (drop at text) ≡ some vs
  pub many : 7 ≤ length vs
  pub nodes : t' ≡ sets t to (take 7 vs)
  pub members : m' ≡ sets m start (drop 7 vs)
  pub count : last ≡ start + (length vs - 7)
  pub rest : after_line (drop at text) ≡ drop next text
  pub ahead : at < next
  pub within : next ≤ length text

abbrev pub NodeOf : List ℕ → ℕ → List ℤ → ℕ → List ℤ → ℕ → List ℤ → List ℤ → NodeFound → Type 0
NodeOf text at t to m start t' m' Nothing = wanted (leb 7) (row (drop at text)) ≡ none
NodeOf text at t to m start t' m' (At next last) = NodeRead text at t to m start t' m' next last

-- what is found, as a function of the row
pub node_is : (text : List ℕ) (at : ℕ) (t : List ℤ) (to : ℕ) (m : List ℤ) (start : ℕ) (t' m' : List ℤ) (f : NodeFound) → NodeOf text at t to m start t' m' f → f ≡ node_found text at start
unfolding node_found node_found_by
node_is text at t to m start t' m' Nothing h = sym (ap (λ (o : Option (List ℤ)). node_found_by o (past_line text at) start) h)
node_is text at t to m start t' m' (At next last) r =
    ap₂ At (past_only text at r.vs next r.numbers r.rest r.within) r.count
    ∙ sym (ap (λ (o : Option (List ℤ)). node_found_by o (past_line text at) start) (ap (wanted (leb 7)) r.numbers ∙ wanted_if (leb 7) r.vs (le-leb 7 _ r.many)))

pub node_of : (text : List ℕ) (at : ℕ) (t : List ℤ) (to : ℕ) (m : List ℤ) (start : ℕ) → NodeOf text at t to m start (row_into text at 7 to t) (set_into text at start m) (node_found text at start)
unfolding node_found row_into set_into node_found_by
node_of text at t to m start = go (wanted (leb 7) (row (drop at text))) refl
  where
    go : (o : Option (List ℤ)) → wanted (leb 7) (row (drop at text)) ≡ o
        → NodeOf text at t to m start (sets t to (take 7 (first_numbers (drop at text)))) (sets m start (drop 7 (first_numbers (drop at text)))) (node_found_by o (past_line text at) start)
    go none h = h
    go (some vs) h =
        let q = wanted_some (leb 7) (row (drop at text)) vs h in
        let p = past_row text at vs q.0 in
        let e = row_numbers (drop at text) vs q.0 in
        record {
          vs = vs;
          numbers = q.0;
          many = leb-true 7 (length vs) q.1;
          nodes = ap (λ (us : List ℤ). sets t to (take 7 us)) e;
          members = ap (λ (us : List ℤ). sets m start (drop 7 us)) e;
          count = refl;
          rest = p.0;
          ahead = p.1;
          within = p.2;
        }

-- the set of a line: none where no more than seven numbers start it
pub few_set : (text : List ℕ) (at start : ℕ) (m : List ℤ) → length (first_numbers (drop at text)) ≤ 7 → m ≡ set_into text at start m
unfolding set_into
few_set text at start m l = ap (sets m start) (sym (drop_of_length-le (first_numbers (drop at text)) {i = 7} l))

-- and all of them fit a limit by the text's length
pub all_set : (text : List ℕ) (at start : ℕ) (m : List ℤ) → row_into text at (length text + 1) start m ≡ sets m start (first_numbers (drop at text))
unfolding row_into
all_set text at start m = ap (sets m start) (take_all (length text + 1) (first_numbers (drop at text)) (omega (arith, first_few (drop at text), length-drop at text)))

module _ (text : List ℕ) (at : ℕ) (t : List ℤ) (to : ℕ) (t' : List ℤ) where
  abbrev here : Option (List ℤ)
  here = row (drop at text)

  -- a line has no more numbers than bytes
  pub set_ends : (next : ℕ) → RowOpen text at t to t' (to + (length text + 1)) next → ⊥
  set_ends next r = omega (arith, r.count, r.ahead, r.within)

  pub node_bad : here ≡ none → wanted (leb 7) here ≡ none
  unfolding wanted
  node_bad h = ap (wanted (leb 7)) h

  pub ended_few : (to' next : ℕ) → to' ≤ to + 7 → RowEnded text at t to t' to' next → length (first_numbers (drop at text)) ≤ 7
  ended_few to' next l r = omega (arith, r.count, ap length (row_numbers (drop at text) r.vs r.numbers))

  pub node_short : (to' next : ℕ) → to' ≤ to + 7 → (to' ≡ to + 7 → ⊥) → RowEnded text at t to t' to' next → wanted (leb 7) here ≡ none
  node_short to' next l n r =
      ap (wanted (leb 7)) r.numbers ∙ wanted_not (leb 7) r.vs (lt-leb 7 (length r.vs) (omega (arith, r.count)))

  -- no members
  pub node_seven : (m : List ℤ) (start next : ℕ) → RowEnded text at t to t' (to + 7) next → NodeRead text at t to m start t' m next start
  node_seven m start next r =
      let l : length r.vs ≡ 7 = omega (arith, r.count) in
      record {
        vs = r.vs;
        numbers = r.numbers;
        many = omega arith;
        nodes = r.table ∙ ap (sets t to) (sym (take_all 7 r.vs (omega arith)));
        members = ap (sets m start) (sym (drop_of_length-le r.vs {i = 7} (omega arith)));
        count = omega arith;
        rest = r.rest;
        ahead = r.ahead;
        within = r.within;
      }

  module _ (n : ℕ) (r : RowOpen text at t to t' (to + 7) n) where
    node_set_bad : row (drop n text) ≡ none → wanted (leb 7) here ≡ none
    unfolding row_front
    node_set_bad h = node_bad (r.numbers ∙ ap (row_front r.vs) h)

    node_set : (m : List ℤ) (start : ℕ) (m' : List ℤ) (next last : ℕ) → RowEnded text n m start m' last next → NodeRead text at t to m start t' m' next last
    unfolding row_front
    node_set m start m' next last s =
        let l : length r.vs ≡ 7 = omega (arith, r.count) in
        let k = length-append r.vs s.vs in
        record {
          vs = r.vs ++ s.vs;
          numbers = r.numbers ∙ ap (row_front r.vs) s.numbers;
          many = omega arith;
          nodes = r.table ∙ ap (sets t to) (sym (take_at r.vs s.vs 7 l));
          members = s.table ∙ ap (sets m start) (sym (drop_at r.vs s.vs 7 l));
          count = omega (arith, s.count);
          rest = r.rest ∙ s.rest;
          ahead = omega (arith, r.ahead, s.ahead);
          within = s.within;
        }

    pub open_set : (m : List ℤ) (start : ℕ) → sets m start (first_numbers (drop n text)) ≡ set_into text at start m
    unfolding set_into
    open_set m start = ap (sets m start) (sym (ap (drop 7) r.first ∙ drop_at r.vs _ 7 (omega (arith, r.count))))

    -- whatever the set comes to, the row comes to
    pub node_by_set : (m : List ℤ) (start : ℕ) (m' : List ℤ) (f : NodeFound) → SetOf text n m start m' f → NodeOf text at t to m start t' m' f
    node_by_set m start m' Nothing s = node_set_bad s
    node_by_set m start m' (At next last) s = node_set m start m' next last s

-- ---- rows in front of those that are read

pub nodes_ahead_none : (r : Reading (List ℤ × List ℤ)) → nodes_ahead [] [] r ≡ r
unfolding nodes_ahead ◌and_then◌
nodes_ahead_none (read p) = refl
nodes_ahead_none (stopped why k) = refl

nodes_ahead_ahead : (us vs us' vs' : List ℤ) (r : Reading (List ℤ × List ℤ)) → nodes_ahead us vs (nodes_ahead us' vs' r) ≡ nodes_ahead (us ++ us') (vs ++ vs') r
unfolding nodes_ahead ◌and_then◌
nodes_ahead_ahead us vs us' vs' (read p) = ap₂ (λ (a b : List ℤ). read (a, b)) (sym (append_assoc us us' p.0)) (sym (append_assoc vs vs' p.1))
nodes_ahead_ahead us vs us' vs' (stopped why k) = refl

-- ---- a text that is not empty

module _ (m start k x : ℕ) (xs : List ℕ) where
  next_nodes : List ℤ → Reading (List ℤ × List ℤ)
  next_nodes vs =
      require (leb 1 m and leb (start + (length vs - 7)) 8192) TooMany k
      (nodes_ahead (node_numbers vs start) (drop 7 vs) (nodes_from (m - 1) (start + (length vs - 7)) (suc k) (lines (after_line (x ∷ xs)))))

  nodes_line : nodes_from m start k (lines (x ∷ xs)) ≡ (line_read k (wanted (leb 7) (row (x ∷ xs))) and_then next_nodes)
  unfolding nodes_from nodes_ahead next_nodes
  nodes_line =
      ap (nodes_from m start k) (lines_first x xs)
      ∙ ap (λ (r : Reading (List ℤ)). r and_then next_nodes) (values_are (leb 7) k (x ∷ xs))

  nodes_bad : wanted (leb 7) (row (x ∷ xs)) ≡ none → nodes_from m start k (lines (x ∷ xs)) ≡ stopped BadLine k
  unfolding line_read
  nodes_bad h = nodes_line ∙ then_stops _ next_nodes BadLine k (ap (line_read k) h)

  module _ (vs : List ℤ) (h : row (x ∷ xs) ≡ some vs) (l : 7 ≤ length vs) where
    nodes_read_lem : nodes_from m start k (lines (x ∷ xs)) ≡ next_nodes vs
    unfolding line_read
    nodes_read_lem = nodes_line ∙ then_is _ next_nodes vs (ap (line_read k) (ap (wanted (leb 7)) h ∙ wanted_if (leb 7) vs (le-leb 7 _ l)))

    nodes_refused : (leb 1 m and leb (start + (length vs - 7)) 8192) ≡ false → nodes_from m start k (lines (x ∷ xs)) ≡ stopped TooMany k
    unfolding next_nodes require
    nodes_refused e =
        nodes_read_lem
        ∙ ap (λ (b : Bool). require b TooMany k (nodes_ahead (node_numbers vs start) (drop 7 vs) (nodes_from (m - 1) (start + (length vs - 7)) (suc k) (lines (after_line (x ∷ xs)))))) e

    nodes_more : 1 ≤ m → start + (length vs - 7) ≤ 8192
        → nodes_from m start k (lines (x ∷ xs))
        ≡ nodes_ahead (node_numbers vs start) (drop 7 vs) (nodes_from (m - 1) (start + (length vs - 7)) (suc k) (lines (after_line (x ∷ xs))))
    unfolding next_nodes require
    nodes_more p q =
        nodes_read_lem
        ∙ ap (λ (b : Bool). require b TooMany k (nodes_ahead (node_numbers vs start) (drop 7 vs) (nodes_from (m - 1) (start + (length vs - 7)) (suc k) (lines (after_line (x ∷ xs))))))
        (and_both _ _ (le-leb 1 m p) (le-leb _ 8192 q))

-- ---- the loop over node rows: n of them and `start` members are stored, and the rest of the text starts at i

-- the seven numbers and the two after them
pub row_sets : (t : List ℤ) (i start size : ℕ) (vs : List ℤ) → 7 ≤ length vs
    → set (set (sets t i (take 7 vs)) (i + 7) (pos start)) (i + 7 + 1) (pos size) ≡ sets t i (take 7 vs ++ pos start ∷ pos size ∷ [])
row_sets t i start size vs l =
    let u = sets t i (take 7 vs) in
    ap (λ (j : ℕ). set (set u (i + 7) (pos start)) j (pos size)) (add-one (i + 7))
    ∙ ap (λ (j : ℕ). sets u j (pos start ∷ pos size ∷ [])) (ap (λ (j : ℕ). i + j) (sym (length-take-le 7 vs l)))
    ∙ sym (sets_append (take 7 vs) (pos start ∷ pos size ∷ []) t i)

module _ (text : List ℕ) (line : ℕ) where
  -- what the whole comes to
  unfoldable pub nodes_so_far : List ℤ → List ℤ → ℕ → ℕ → ℕ → Reading (List ℤ × List ℤ)
  nodes_so_far t m n start i = nodes_ahead (take (9 * n) t) (take start m) (nodes_from (1024 - n) start (line + n) (lines (drop i text)))

  pub nodes_done : (t m : List ℤ) (n start i : ℕ) → length text ≤ i → nodes_so_far t m n start i ≡ read (take (9 * n) t, take start m)
  unfolding nodes_so_far nodes_from nodes_ahead ◌and_then◌
  nodes_done t m n start i l =
      ap (λ (ls : List Line). nodes_ahead (take (9 * n) t) (take start m) (nodes_from (1024 - n) start (line + n) ls)) (ap lines (drop_of_length-le text l) ∙ lines_nil)
      ∙ ap₂ (λ (a b : List ℤ). read (a, b)) (append-nil (take (9 * n) t)) (append-nil (take start m))

  module _ (t m : List ℤ) (n start i : ℕ) (l : i < length text) where
    first : drop i text ≡ get_or text i 256 ∷ drop (suc i) text
    first = drop-cons text i 256 l

    pub nodes_stop : wanted (leb 7) (row (drop i text)) ≡ none → nodes_so_far t m n start i ≡ stopped BadLine (line + n)
    unfolding nodes_so_far nodes_ahead ◌and_then◌
    nodes_stop h =
        ap (nodes_ahead (take (9 * n) t) (take start m))
        (ap (λ (xs : List ℕ). nodes_from (1024 - n) start (line + n) (lines xs)) first
        ∙ nodes_bad (1024 - n) start (line + n) (get_or text i 256) (drop (suc i) text) (ap (λ (xs : List ℕ). wanted (leb 7) (row xs)) (sym first) ∙ h))

    module _ (t₁ m₁ : List ℤ) (next last : ℕ) (r : NodeRead text i t (9 * n) m start t₁ m₁ next last) where
      is_row : row (get_or text i 256 ∷ drop (suc i) text) ≡ some r.vs
      is_row = ap row (sym first) ∙ r.numbers

      nodes_over : (leb 1 (1024 - n) and leb (start + (length r.vs - 7)) 8192) ≡ false → nodes_so_far t m n start i ≡ stopped TooMany (line + n)
      unfolding nodes_so_far nodes_ahead ◌and_then◌
      nodes_over h =
          ap (nodes_ahead (take (9 * n) t) (take start m))
          (ap (λ (xs : List ℕ). nodes_from (1024 - n) start (line + n) (lines xs)) first
          ∙ nodes_refused (1024 - n) start (line + n) (get_or text i 256) (drop (suc i) text) r.vs is_row r.many h)

      pub nodes_too_many : 1024 ≤ n → nodes_so_far t m n start i ≡ stopped TooMany (line + n)
      nodes_too_many h = nodes_over (and_first_false _ _ (lt-leb 1 (1024 - n) (omega arith)))

      pub members_too_many : 8192 < last → nodes_so_far t m n start i ≡ stopped TooMany (line + n)
      members_too_many h = nodes_over (and_second_false (leb 1 (1024 - n)) _ (lt-leb (start + (length r.vs - 7)) 8192 (omega (arith, r.count))))

      pub nodes_next : (t₂ : List ℤ) → n < 1024 → last ≤ 8192 → 9216 ≤ length t → 8192 ≤ length m
          → t₂ ≡ set (set t₁ (9 * n + 7) (pos start)) (9 * n + 7 + 1) (pos (last - start))
          → nodes_so_far t m n start i ≡ nodes_so_far t₂ m₁ (n + 1) last next
      unfolding nodes_so_far node_numbers
      nodes_next t₂ h q room hold e =
          let seven = length-take-le 7 r.vs r.many in
          let others = length-drop 7 r.vs in
          let row9 = take 7 r.vs ++ pos start ∷ pos (length r.vs - 7) ∷ [] in
          let nine : length row9 ≡ 9 = omega (arith, length-append (take 7 r.vs) (pos start ∷ pos (length r.vs - 7) ∷ [])) in
          let size : last - start ≡ length r.vs - 7 = omega (arith, r.count) in
          let stored : t₂ ≡ sets t (9 * n) row9 =
          e
          ∙ ap₂ (λ (u : List ℤ) (s : ℕ). set (set u (9 * n + 7) (pos start)) (9 * n + 7 + 1) (pos s)) r.nodes size
          ∙ row_sets t (9 * n) start (length r.vs - 7) r.vs r.many in
          let a : 1024 - n - 1 ≡ 1024 - (n + 1) = omega arith in
          let b : suc (line + n) ≡ line + (n + 1) = omega arith in
          let c : 9 * n + length row9 ≡ 9 * (n + 1) = omega arith in
          let d : start + length (drop 7 r.vs) ≡ last = omega (arith, r.count) in
          let rows : take (9 * n) t ++ row9 ≡ take (9 * (n + 1)) t₂ =
          sym (take_sets row9 t (9 * n) (omega arith)) ∙ ap₂ take c (sym stored) in
          let sets : take start m ++ drop 7 r.vs ≡ take last m₁ =
          sym (take_sets (drop 7 r.vs) m start (omega arith)) ∙ ap₂ take d (sym r.members) in
          let after : after_line (get_or text i 256 ∷ drop (suc i) text) ≡ drop next text = ap after_line (sym first) ∙ r.rest in
          ap (λ (xs : List ℕ). nodes_ahead (take (9 * n) t) (take start m) (nodes_from (1024 - n) start (line + n) (lines xs))) first
          ∙ ap (nodes_ahead (take (9 * n) t) (take start m))
          (nodes_more (1024 - n) start (line + n) (get_or text i 256) (drop (suc i) text) r.vs is_row r.many (omega arith) (omega (arith, r.count)))
          ∙ nodes_ahead_ahead (take (9 * n) t) (take start m) row9 (drop 7 r.vs) _
          ∙ ap₂ (λ (us vs : List ℤ). nodes_ahead us vs (nodes_from (1024 - n - 1) (start + (length r.vs - 7)) (suc (line + n)) (lines (after_line (get_or text i 256 ∷ drop (suc i) text))))) rows sets
          ∙ ap (nodes_ahead (take (9 * (n + 1)) t₂) (take last m₁))
          (ap₂ (λ (k j : ℕ). nodes_from k (start + (length r.vs - 7)) j (lines (after_line (get_or text i 256 ∷ drop (suc i) text)))) a b
          ∙ ap₂ (λ (s : ℕ) (xs : List ℕ). nodes_from (1024 - (n + 1)) s (line + (n + 1)) (lines xs)) (sym r.count) after)
