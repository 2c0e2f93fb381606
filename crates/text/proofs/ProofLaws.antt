-- A proof text, part by part.
use Prim.Native.Nat.{ℕ, suc, ◌+◌, ◌*◌, ◌-◌, ◌/◌, ◌<◌, ◌≤◌}
use native.Mathlib.Omega.{arith}
use mathlib.Core.Path.{◌≡◌, refl, sym, ◌∙◌, ap, ap₂}
use mathlib.Core.Logic.{⊎_elim}
use mathlib.Core.Bool.{Bool, true, false}
use mathlib.Core.List.{List, [], ◌∷◌, ◌++◌, append_assoc, append-nil}
use mathlib.Core.Option.{none, some}
use lib.Dec.{eqb, leb}
use lib.IntN.{ℤ}
use lib.ListN.{length, take, drop, get_or, drop_of_length-le}
use lib.Seq.{drop-cons, length-take-le}
use borrow.Author.Tests.{eq-eqb, ne_eqb, le-leb, lt-leb, leb-true}
use Rattle.stab.specs.Basic.{◌and◌}
use Rattle.stab.specs.Text.{Line, lines, same_bytes, node_heading, text_limit}
use Rattle.stab.specs.Read.{Reading, read, stopped, ◌and_then◌, require, heading_at, starts_with_u, nodes_from, ProofText, proof_rows_from, read_proof_lines, read_proof}
use Rattle.stab.specs.Read.{proof_answer, proof_table, node_table, member_table, table_of}
use Rattle.stab.specs.declared.Refusal.TheVariants.{TextTooLong, TableTooShort, TooMany, Heading}
use Rattle.stab.specs.declared.Refusal.TheVariants.{Line as BadLine}
use Rattle.std.specs.Prelude.{Ok, Err, Result}
use Rattle.stab.specs.Finding.{refuse}
use Rattle.stab.specs.declared.Refused.{Refused}
use Rattle.stab.specs.declared.ProofCounts.{ProofCounts}
use Rattle.stab.proofs.Bools.{and_left, and_right, if_true, if_false, decide}
use Rattle.stab.proofs.Texts.Rows.{then_is}
use Rattle.numerals.specs.Here.{first_line, after_line, row}
use Rattle.text.specs.Rows.{wanted, RowEnded, proof_ahead}
use Rattle.signed.specs.Numbers.{cleared}
use Rattle.text.specs.Texts.{ProofOf}
use Rattle.numerals.proofs.Lines.{lines_first, lines_nil, line_end_lem, line_byte}
use Rattle.text.proofs.RowLaws.{wanted_if, line_read, values_are, take_sets, then_stops}
use Rattle.text.proofs.Openings.{text_long, text_short, text_on, stop}
use Rattle.signed.proofs.Tables.{cleared_padded}

-- ---- rows in front of those that are read

pub proof_ahead_none : (r : Reading ProofText) → proof_ahead [] r ≡ r
unfolding proof_ahead ◌and_then◌
proof_ahead_none (read p) = refl
proof_ahead_none (stopped why k) = refl

proof_ahead_ahead : (us vs : List ℤ) (r : Reading ProofText) → proof_ahead us (proof_ahead vs r) ≡ proof_ahead (us ++ vs) r
unfolding proof_ahead ◌and_then◌
proof_ahead_ahead us vs (read p) =
    ap (λ (t : List ℤ). read (record { table = t; nodes = p.nodes; members = p.members })) (sym (append_assoc us vs p.table))
proof_ahead_ahead us vs (stopped why k) = refl

-- ---- a line that starts with `u`

module _ (x : ℕ) (xs : List ℕ) where
  starts_not : (x ≡ 117 → ⊥) → starts_with_u (first_line (x ∷ xs)).content ≡ false
  unfolding starts_with_u
  starts_not n =
      ⊎_elim
      (λ e. ap (λ (l : Line). starts_with_u l.content) (line_end_lem x xs e))
      (λ e. ap (λ (l : Line). starts_with_u l.content) (line_byte x xs e) ∙ ne_eqb x 117 n)
      (decide (eqb x 10))

  starts_so : x ≡ 117 → starts_with_u (first_line (x ∷ xs)).content ≡ true
  unfolding starts_with_u
  starts_so h = ap (λ (l : Line). starts_with_u l.content) (line_byte x xs (ne_eqb x 10 (λ e. omega arith))) ∙ eq-eqb x 117 h

-- what is made of the nodes
abbrev pub with_nodes : List ℤ → List ℤ × List ℤ → Reading ProofText
with_nodes t r = read (record { table = t; nodes = r.0; members = r.1 })

module _ (m k x : ℕ) (xs : List ℕ) where
  abbrev l : Line
  l = first_line (x ∷ xs)

  abbrev ls : List Line
  ls = lines (after_line (x ∷ xs))

  next_row : List ℤ → Reading ProofText
  next_row vs = require (leb 1 m) TooMany k (proof_ahead vs (proof_rows_from (m - 1) (suc k) ls))

  -- a formula row
  proof_row : (x ≡ 117 → ⊥) → proof_rows_from m k (lines (x ∷ xs)) ≡ (line_read k (wanted (eqb 4) (row (x ∷ xs))) and_then next_row)
  unfolding proof_rows_from next_row proof_ahead
  proof_row n =
      ap (proof_rows_from m k) (lines_first x xs)
      ∙ if_false (starts_with_u l.content) _ _ (starts_not x xs n)
      ∙ ap (λ (r : Reading (List ℤ)). r and_then next_row) (values_are (eqb 4) k (x ∷ xs))

  proof_bad : (x ≡ 117 → ⊥) → wanted (eqb 4) (row (x ∷ xs)) ≡ none → proof_rows_from m k (lines (x ∷ xs)) ≡ stopped BadLine k
  unfolding line_read
  proof_bad n h = proof_row n ∙ then_stops _ next_row BadLine k (ap (line_read k) h)

  module _ (n : x ≡ 117 → ⊥) (vs : List ℤ) (h : wanted (eqb 4) (row (x ∷ xs)) ≡ some vs) where
    proof_read_lem : proof_rows_from m k (lines (x ∷ xs)) ≡ next_row vs
    unfolding line_read
    proof_read_lem = proof_row n ∙ then_is _ next_row vs (ap (line_read k) h)

    proof_many : m ≡ 0 → proof_rows_from m k (lines (x ∷ xs)) ≡ stopped TooMany k
    unfolding next_row require
    proof_many e = proof_read_lem ∙ ap (λ (b : Bool). require b TooMany k (proof_ahead vs (proof_rows_from (m - 1) (suc k) ls))) (lt-leb 1 m (omega arith))

    proof_more : 1 ≤ m → proof_rows_from m k (lines (x ∷ xs)) ≡ proof_ahead vs (proof_rows_from (m - 1) (suc k) ls)
    unfolding next_row require
    proof_more e = proof_read_lem ∙ ap (λ (b : Bool). require b TooMany k (proof_ahead vs (proof_rows_from (m - 1) (suc k) ls))) (le-leb 1 m e)

  -- the second heading
  proof_heading : x ≡ 117 → proof_rows_from m k (lines (x ∷ xs)) ≡ (heading_at node_heading k (lines (x ∷ xs)) and_then λ rest. nodes_from 1024 0 (suc k) rest and_then with_nodes [])
  unfolding proof_rows_from heading_at
  proof_heading h =
      ap (proof_rows_from m k) (lines_first x xs)
      ∙ if_true (starts_with_u l.content) _ _ (starts_so x xs h)
      ∙ go (l.ended and same_bytes l.content node_heading)
      ∙ ap (λ (ls : List Line). heading_at node_heading k ls and_then λ rest. nodes_from 1024 0 (suc k) rest and_then with_nodes []) (sym (lines_first x xs))
    where
      go : (t : Bool) → require t Heading k (nodes_from 1024 0 (suc k) ls and_then with_nodes [])
          ≡ (require t Heading k (read ls) and_then λ rest. nodes_from 1024 0 (suc k) rest and_then with_nodes [])
      go true = unfold require ◌and_then◌ in refl
      go false = unfold require ◌and_then◌ in refl

proof_missing : (m k : ℕ) → proof_rows_from m k (lines []) ≡ stopped Heading k
unfolding proof_rows_from
proof_missing m k = ap (proof_rows_from m k) lines_nil

-- ---- the loop over formula rows: n of them are stored, and the rest of the text starts at i

module _ (text : List ℕ) where
  -- what the whole comes to
  unfoldable pub proof_so_far : List ℤ → ℕ → ℕ → Reading ProofText
  proof_so_far t n i = proof_ahead (take (4 * n) t) (proof_rows_from (1024 - n) (2 + n) (lines (drop i text)))

  module _ (t : List ℤ) (n i : ℕ) (l : i < length text) (u : get_or text i 256 ≡ 117 → ⊥) where
    first : drop i text ≡ get_or text i 256 ∷ drop (suc i) text
    first = drop-cons text i 256 l

    pub formulas_stop : wanted (eqb 4) (row (drop i text)) ≡ none → proof_so_far t n i ≡ stopped BadLine (2 + n)
    unfolding proof_so_far proof_ahead ◌and_then◌
    formulas_stop h =
        ap (proof_ahead (take (4 * n) t))
        (ap (λ (xs : List ℕ). proof_rows_from (1024 - n) (2 + n) (lines xs)) first
        ∙ proof_bad (1024 - n) (2 + n) (get_or text i 256) (drop (suc i) text) u (ap (λ (xs : List ℕ). wanted (eqb 4) (row xs)) (sym first) ∙ h))

    module _ (t' : List ℤ) (next : ℕ) (r : RowEnded text i t (4 * n) t' (4 * n + 4) next) where
      count : length r.vs ≡ 4
      count = omega (arith, r.count)

      fits : wanted (eqb 4) (row (get_or text i 256 ∷ drop (suc i) text)) ≡ some r.vs
      fits =
          ap (λ (xs : List ℕ). wanted (eqb 4) (row xs)) (sym first)
          ∙ ap (wanted (eqb 4)) r.numbers
          ∙ wanted_if (eqb 4) r.vs (eq-eqb 4 _ (sym count))

      pub formulas_full : 1024 ≤ n → proof_so_far t n i ≡ stopped TooMany (2 + n)
      unfolding proof_so_far proof_ahead ◌and_then◌
      formulas_full h =
          ap (proof_ahead (take (4 * n) t))
          (ap (λ (xs : List ℕ). proof_rows_from (1024 - n) (2 + n) (lines xs)) first
          ∙ proof_many (1024 - n) (2 + n) (get_or text i 256) (drop (suc i) text) u r.vs fits (omega arith))

      pub formulas_next : n < 1024 → 4096 ≤ length t → proof_so_far t n i ≡ proof_so_far t' (n + 1) next
      unfolding proof_so_far
      formulas_next h room =
          let a : 1024 - n - 1 ≡ 1024 - (n + 1) = omega arith in
          let b : suc (2 + n) ≡ 2 + (n + 1) = omega arith in
          let c : 4 * n + length r.vs ≡ 4 * (n + 1) = omega (arith, count) in
          let d : after_line (get_or text i 256 ∷ drop (suc i) text) ≡ drop next text = ap after_line (sym first) ∙ r.rest in
          let e : take (4 * n) t ++ r.vs ≡ take (4 * (n + 1)) t' =
          sym (take_sets r.vs t (4 * n) (omega (arith, count))) ∙ ap₂ take c (sym r.table) in
          ap (λ (xs : List ℕ). proof_ahead (take (4 * n) t) (proof_rows_from (1024 - n) (2 + n) (lines xs))) first
          ∙ ap (proof_ahead (take (4 * n) t)) (proof_more (1024 - n) (2 + n) (get_or text i 256) (drop (suc i) text) u r.vs fits (omega arith))
          ∙ proof_ahead_ahead _ _ _
          ∙ ap₂ proof_ahead e
          (ap₂ (λ (m k : ℕ). proof_rows_from m k (lines (after_line (get_or text i 256 ∷ drop (suc i) text)))) a b
          ∙ ap (λ (xs : List ℕ). proof_rows_from (1024 - (n + 1)) (2 + (n + 1)) (lines xs)) d)

-- ---- the line after the rows

nodes_behind : (vs : List ℤ) (r : Reading (List ℤ × List ℤ)) → proof_ahead vs (r and_then with_nodes []) ≡ (r and_then with_nodes vs)
unfolding proof_ahead ◌and_then◌
nodes_behind vs (read p) = ap (λ (t : List ℤ). read (record { table = t; nodes = p.0; members = p.1 })) (append-nil vs)
nodes_behind vs (stopped why k) = refl

module _ (text : List ℕ) (t : List ℤ) (n i : ℕ) where
  pub formulas_missing : length text ≤ i → proof_so_far text t n i ≡ stopped Heading (2 + n)
  unfolding proof_so_far proof_ahead ◌and_then◌
  formulas_missing l =
      ap (λ (xs : List ℕ). proof_ahead (take (4 * n) t) (proof_rows_from (1024 - n) (2 + n) (lines xs))) (drop_of_length-le text l)
      ∙ ap (proof_ahead (take (4 * n) t)) (proof_missing (1024 - n) (2 + n))

  pub formulas_heading : i < length text → get_or text i 256 ≡ 117
      → proof_so_far text t n i ≡ (heading_at node_heading (2 + n) (lines (drop i text)) and_then λ rest. nodes_from 1024 0 (3 + n) rest and_then with_nodes (take (4 * n) t))
  unfolding proof_so_far
  formulas_heading l u =
      let first = drop-cons text i 256 l in
      ap (λ (xs : List ℕ). proof_ahead (take (4 * n) t) (proof_rows_from (1024 - n) (2 + n) (lines xs))) first
      ∙ ap (proof_ahead (take (4 * n) t)) (proof_heading (1024 - n) (2 + n) (get_or text i 256) (drop (suc i) text) u)
      ∙ ap₂ (λ (xs : List ℕ) (k : ℕ). proof_ahead (take (4 * n) t) (heading_at node_heading (2 + n) (lines xs) and_then λ rest. nodes_from 1024 0 k rest and_then with_nodes [])) (sym first) (omega arith)
      ∙ behind (heading_at node_heading (2 + n) (lines (drop i text)))
    where
      behind : (r : Reading (List Line)) → proof_ahead (take (4 * n) t) (r and_then λ rest. nodes_from 1024 0 (3 + n) rest and_then with_nodes [])
          ≡ (r and_then λ rest. nodes_from 1024 0 (3 + n) rest and_then with_nodes (take (4 * n) t))
      behind (read rest) = unfold ◌and_then◌ in nodes_behind (take (4 * n) t) (nodes_from 1024 0 (3 + n) rest)
      behind (stopped why k) = unfold ◌and_then◌ proof_ahead in refl

-- ---- the whole

-- the lent tables have their full size
pub full_sizes : (n j k : ℕ) → (leb 4096 n and leb 9216 j and leb 8192 k) ≡ true → (4096 ≤ n) × (9216 ≤ j) × (8192 ≤ k)
full_sizes n j k h =
    let p = and_right (leb 4096 n) _ h in
    (leb-true 4096 n (and_left _ _ h), leb-true 9216 j (and_left _ _ p), leb-true 8192 k (and_right (leb 9216 j) _ p))

module _ (n j k : ℕ) (text : List ℕ) where
  pub proof_long : text_limit < length text → read_proof n j k text ≡ stopped TextTooLong 0
  unfolding read_proof
  proof_long h = text_long _ read_proof_lines text h

  pub proof_short : length text ≤ text_limit → (leb 4096 n and leb 9216 j and leb 8192 k) ≡ false → read_proof n j k text ≡ stopped TableTooShort 0
  unfolding read_proof
  proof_short h e = text_short _ read_proof_lines text h e

  pub proof_on : length text ≤ text_limit → (leb 4096 n and leb 9216 j and leb 8192 k) ≡ true → read_proof n j k text ≡ read_proof_lines (lines text)
  unfolding read_proof
  proof_on h e = text_on _ read_proof_lines text h e

-- ---- what the reader answers

module _ (r : Reading ProofText) (t u m : List ℤ) where
  pub proof_answer_lem : (s : Result ProofCounts Refused) → ProofOf r t u m s → s ≡ proof_answer r
  unfolding proof_answer
  proof_answer_lem (Ok h) p =
      let a : h.rows ≡ length (take (4 * h.rows) t) / 4 = omega (arith, length-take-le (4 * h.rows) t p.1) in
      let b : h.nodes ≡ length (take (9 * h.nodes) u) / 9 = omega (arith, length-take-le (9 * h.nodes) u p.2) in
      ap₂ (λ (x y : ℕ). Ok (record { rows = x; nodes = y; members = h.members })) a b
      ∙ ap (λ (k : ℕ). Ok (record { rows = length (take (4 * h.rows) t) / 4; nodes = length (take (9 * h.nodes) u) / 9; members = k })) (sym (length-take-le h.members m p.3))
      ∙ sym (ap proof_answer p.0)
  proof_answer_lem (Err e) p = let s = stop r e.why e.place p in ap (refuse e.why) s.place_is ∙ sym (ap proof_answer s.stops)

  module _ (a b c : ℕ) (x : length t ≡ a) (y : length u ≡ b) (z : length m ≡ c) where
    -- the three tables: 0 past the last
    pub proof_kept : (h : ProofCounts) → ProofOf r t u m (Ok h)
        → (cleared t (4 * h.rows) ≡ proof_table a r) × (cleared u (9 * h.nodes) ≡ node_table b r) × (cleared m h.members ≡ member_table c r)
    unfolding proof_table node_table member_table table_of
    proof_kept h p = (
      cleared_padded t (4 * h.rows) a p.1 x ∙ sym (ap (proof_table a) p.0),
      cleared_padded u (9 * h.nodes) b p.2 y ∙ sym (ap (node_table b) p.0),
      cleared_padded m h.members c p.3 z ∙ sym (ap (member_table c) p.0),
    )

    -- all 0
    pub proof_none_kept : (e : Refused) → ProofOf r t u m (Err e)
        → (cleared t 0 ≡ proof_table a r) × (cleared u 0 ≡ node_table b r) × (cleared m 0 ≡ member_table c r)
    unfolding proof_table node_table member_table table_of
    proof_none_kept e p =
        let s = (stop r e.why e.place p).stops in (
          cleared_padded t 0 a (omega arith) x ∙ sym (ap (proof_table a) s),
          cleared_padded u 0 b (omega arith) y ∙ sym (ap (node_table b) s),
          cleared_padded m 0 c (omega arith) z ∙ sym (ap (member_table c) s),
        )
