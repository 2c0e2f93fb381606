-- A line is its row: in a text that is read, the line with a row's number is the text of that row as writing gives it.
use Prim.Native.Nat.{ℕ, zero, suc, ◌+◌, ◌-◌, ◌*◌, ◌/◌, ◌<◌}
use native.Mathlib.Omega.{arith}
use native.Mathlib.Nat.{add-zero, zero-add, mul-zero}
use mathlib.Core.Path.{◌≡◌, refl, sym, ◌∙◌, ap, ap₂, subst}
use mathlib.Core.Bool.{true}
use mathlib.Core.List.{List, [], ◌∷◌, ◌++◌, append_assoc, append-nil}
use lib.Dec.{leb}
use lib.IntN.{ℤ}
use lib.ListN.{length, take, drop, length-append}
use lib.Seq.{drop-drop, take_at, drop-append_seam, take-append_seam}
use Rattle.stab.specs.Basic.{◌and◌}
use Rattle.stab.specs.Text.{newline, lines, row_line, heading_line, schema_heading, row_heading, node_heading, model_heading, pair_heading, lacks}
use Rattle.stab.specs.Read.{read, SchemaText, ProofText, ModelText, read_schema_lines, read_proof_lines, read_model_lines, read_schema, read_proof, read_model}
use Rattle.stab.specs.Write.{row_lines, node_values, node_lines, schema_text, proof_text, model_text}
use Rattle.stab.specs.LineNumber.{Span, span_from, line_span, spanned, line_of, schema_row_line, proof_row_line, node_line, pair_line, LineIs}
use Rattle.stab.proofs.Texts.Lines.{full, row_bytes, row_line_lem, row_lacks, lines_full, lines_row, text_lines}
use Rattle.stab.proofs.Texts.Kinds.{schema_heading_lacks, row_heading_lacks, model_heading_lacks, pair_heading_lacks, schema_lines_are, proof_lines_are, model_lines_are}
use Rattle.stab.proofs.Texts.ProofRows.{node_heading_lacks}
use Rattle.stab.proofs.Texts.Outcomes.{passed}

-- ---- rows and more rows

pub rows_split : (w i k : ℕ) (t : List ℤ) → row_lines w (i + k) t ≡ row_lines w i t ++ row_lines w k (drop (w * i) t)
unfolding row_lines
rows_split w zero k t =
    ap (λ (n : ℕ). row_lines w n t) (zero-add k) ∙ ap (λ (n : ℕ). row_lines w k (drop n t)) (sym (mul-zero w))
rows_split w (suc i) k t =
    ap (λ (n : ℕ). row_lines w n t) more
    ∙ ap (λ (l : List ℕ). row_line (take w t) ++ l) (rows_split w i k (drop w t))
    ∙ sym (append_assoc (row_line (take w t)) (row_lines w i (drop w t)) (row_lines w k (drop (w * i) (drop w t))))
    ∙ ap (λ (l : List ℤ). row_lines w (suc i) t ++ row_lines w k l) (drop-drop (w * i) w t ∙ ap (λ (n : ℕ). drop n t) next)
  where
    more : suc i + k ≡ suc (i + k)
    more = omega arith

    next : w + w * i ≡ w * suc i
    next = omega arith

pub nodes_split : (nodes members : List ℤ) (i n k : ℕ) → node_lines nodes members i (n + k) ≡ node_lines nodes members i n ++ node_lines nodes members (i + n) k
unfolding node_lines
nodes_split nodes members i zero k =
    ap₂ (λ (a b : ℕ). node_lines nodes members a b) (sym (add-zero i)) (zero-add k)
nodes_split nodes members i (suc n) k =
    ap (λ (m : ℕ). node_lines nodes members i m) more
    ∙ ap (λ (l : List ℕ). row_line (node_values nodes members i) ++ l) (nodes_split nodes members (suc i) n k)
    ∙ sym (append_assoc (row_line (node_values nodes members i)) (node_lines nodes members (suc i) n) (node_lines nodes members (suc i + n) k))
    ∙ ap (λ (m : ℕ). node_lines nodes members i (suc n) ++ node_lines nodes members m k) next
  where
    more : suc n + k ≡ suc (n + k)
    more = omega arith

    next : suc i + n ≡ i + suc n
    next = omega arith

-- one of n rows: those before it, it, and those after it
row_among : (w n r : ℕ) (t : List ℤ) → r < n → row_lines w n t ≡ row_lines w r t ++ (row_line (take w (drop (w * r) t)) ++ row_lines w (n - suc r) (drop w (drop (w * r) t)))
unfolding row_lines
row_among w n r t h = ap (λ (k : ℕ). row_lines w k t) parts ∙ rows_split w r (suc (n - suc r)) t
  where
    parts : n ≡ r + suc (n - suc r)
    parts = omega arith

node_among : (nodes members : List ℤ) (n j : ℕ) → j < n
    → node_lines nodes members 0 n ≡ node_lines nodes members 0 j ++ (row_line (node_values nodes members j) ++ node_lines nodes members (suc j) (n - suc j))
unfolding node_lines
node_among nodes members n j h =
    ap (node_lines nodes members 0) parts
    ∙ nodes_split nodes members 0 j (suc (n - suc j))
    ∙ ap (λ (i : ℕ). node_lines nodes members 0 j ++ node_lines nodes members i (suc (n - suc j))) (zero-add j)
  where
    parts : n ≡ j + suc (n - suc j)
    parts = omega arith

-- ---- whole lines

-- a is k lines, each with its byte 10: line k + j + 1 of a and what follows is line j + 1 of what follows
Lined : List ℕ → ℕ → Type 0
Lined a k = (at j : ℕ) (b : List ℕ) → span_from at (suc (k + j)) (lines (a ++ b)) ≡ span_from (at + length a) (suc j) (lines b)

none_lined : Lined [] 0
unfolding Lined
none_lined at j b =
    ap₂ (λ (i n : ℕ). span_from i (suc n) (lines b)) (sym (add-zero at)) (zero-add j)

both_lined : (a b : List ℕ) (k l : ℕ) → Lined a k → Lined b l → Lined (a ++ b) (k + l)
unfolding Lined
both_lined a b k l f g at j c =
    ap₂ (λ (n : ℕ) (x : List ℕ). span_from at (suc n) (lines x)) sum (append_assoc a b c)
    ∙ f at (l + j) (b ++ c)
    ∙ g (at + length a) j c
    ∙ ap (λ (n : ℕ). span_from n (suc j) (lines c)) far
  where
    sum : k + l + j ≡ k + (l + j)
    sum = omega arith

    far : at + length a + length b ≡ at + length (a ++ b)
    far = omega (arith, length-append a b)

full_lined : (c : List ℕ) → lacks 10 c ≡ true → Lined (c ++ 10 ∷ []) 1
unfolding Lined
full_lined c h at j b =
    ap₂ (λ (n : ℕ) (x : List ℕ). span_from at (suc n) (lines x)) one (append_assoc c (10 ∷ []) b)
    ∙ ap (span_from at (suc (suc j))) (lines_full c b h)
    ∙ (unfold span_from full in ap (λ (n : ℕ). span_from n (suc j) (lines b)) far)
  where
    one : 1 + j ≡ suc j
    one = omega arith

    far : at + length c + 1 ≡ at + length (c ++ 10 ∷ [])
    far = omega (arith, length-append c (10 ∷ []))

heading_lined : (h : List ℕ) → lacks 10 h ≡ true → Lined (heading_line h) 1
unfolding heading_line newline
heading_lined h e = full_lined h e

row_lined : (vs : List ℤ) → Lined (row_line vs) 1
row_lined vs = subst (λ (x : List ℕ). Lined x 1) (sym (row_line_lem vs)) (full_lined (row_bytes vs) (row_lacks vs))

rows_lined : (w n : ℕ) (t : List ℤ) → Lined (row_lines w n t) n
unfolding row_lines
rows_lined w zero t = none_lined
rows_lined w (suc n) t = subst (Lined (row_lines w (suc n) t)) next (both_lined (row_line (take w t)) (row_lines w n (drop w t)) 1 n (row_lined (take w t)) (rows_lined w n (drop w t)))
  where
    next : 1 + n ≡ suc n
    next = omega arith

nodes_lined : (nodes members : List ℤ) (j n : ℕ) → Lined (node_lines nodes members j n) n
unfolding node_lines
nodes_lined nodes members j zero = none_lined
nodes_lined nodes members j (suc n) =
    subst (Lined (node_lines nodes members j (suc n))) next (both_lined (row_line (node_values nodes members j)) (node_lines nodes members (suc j) n) 1 n (row_lined (node_values nodes members j)) (nodes_lined nodes members (suc j) n))
  where
    next : 1 + n ≡ suc n
    next = omega arith

-- the row after k lines is line k + 1
module _ (a : List ℕ) (k : ℕ) (vs : List ℤ) (rest : List ℕ) (h : Lined a k) (some : 0 < length a) where
  after_is : drop (length a) (a ++ (row_line vs ++ rest)) ≡ row_line vs ++ rest
  after_is = drop-append_seam a (row_line vs ++ rest)

  span_is : line_span (a ++ (row_line vs ++ rest)) (suc k) ≡ record { start = length a; len = length (row_bytes vs) }
  unfolding line_span Lined
  span_is =
      ap (λ (n : ℕ). span_from 0 (suc n) (lines (a ++ (row_line vs ++ rest)))) (sym (add-zero k))
      ∙ h 0 0 (row_line vs ++ rest)
      ∙ ap₂ (λ (n : ℕ) (ls : List _). span_from n 1 ls) (zero-add (length a)) (lines_row vs rest)
      ∙ (unfold span_from full in refl)

  line_after : LineIs (a ++ (row_line vs ++ rest)) (suc k) (row_line vs)
  unfolding line_of spanned newline
  line_after =
      let text : List ℕ = a ++ (row_line vs ++ rest) in
      let front : take (length (row_bytes vs)) (row_line vs ++ rest) ≡ row_bytes vs =
      ap (λ (x : List ℕ). take (length (row_bytes vs)) x) (ap (λ (x : List ℕ). x ++ rest) (row_line_lem vs) ∙ append_assoc (row_bytes vs) (10 ∷ []) rest) ∙ take-append_seam (row_bytes vs) _ in
      let size : length (row_line vs) ≡ suc (length (row_bytes vs)) = omega (arith, ap length (row_line_lem vs), length-append (row_bytes vs) (10 ∷ [])) in
      record {
        bytes = ap (λ (s : Span). take s.len (drop s.start text) ++ 10 ∷ []) span_is
            ∙ ap (λ (x : List ℕ). take (length (row_bytes vs)) x ++ 10 ∷ []) after_is
            ∙ ap (λ (x : List ℕ). x ++ 10 ∷ []) front
            ∙ sym (row_line_lem vs);
        ended = ap (λ (s : Span). take (suc s.len) (drop s.start text)) span_is
            ∙ ap (take (suc (length (row_bytes vs)))) after_is
            ∙ take_at (row_line vs) rest (suc (length (row_bytes vs))) size;
        there = subst (λ (s : Span). 0 < s.start) (sym span_is) some;
      }

-- the same where the text is known by another way, and the line by another number
line_is : (text a : List ℕ) (k l : ℕ) (vs : List ℤ) (rest : List ℕ) → text ≡ a ++ (row_line vs ++ rest) → l ≡ suc k → Lined a k → 0 < length a → LineIs text l (row_line vs)
line_is text a k l vs rest e n h some =
    subst (λ (x : List ℕ). LineIs x l (row_line vs)) (sym e)
    (subst (λ (i : ℕ). LineIs (a ++ (row_line vs ++ rest)) i (row_line vs)) (sym n) (line_after a k vs rest h some))

heading_some : (h : List ℕ) → length (heading_line h) ≡ length h + 1
unfolding heading_line
heading_some h = length-append h (newline ∷ [])

-- ---- a heading, one line, a heading, rows: schemata and models

module _ (h g : List ℕ) (vs : List ℤ) (lacks-h : lacks 10 h ≡ true) (lacks-g : lacks 10 g ≡ true) where
  head_lined : Lined (heading_line h ++ row_line vs ++ heading_line g) 3
  head_lined =
      both_lined (heading_line h ++ row_line vs) (heading_line g) 2 1
      (both_lined (heading_line h) (row_line vs) 1 1 (heading_lined h lacks-h) (row_lined vs))
      (heading_lined g lacks-g)

  headed_row : (w n r : ℕ) (t : List ℤ) → r < n → LineIs (heading_line h ++ row_line vs ++ heading_line g ++ row_lines w n t) (4 + r) (row_line (take w (drop (w * r) t)))
  headed_row w n r t l =
      let a : List ℕ = heading_line h ++ row_line vs ++ heading_line g in
      let number : 4 + r ≡ suc (3 + r) = omega arith in
      line_is _ (a ++ row_lines w r t) (3 + r) (4 + r) (take w (drop (w * r) t)) _
      (ap (λ (x : List ℕ). a ++ x) (row_among w n r t l) ∙ sym (append_assoc a (row_lines w r t) _))
      number
      (both_lined a (row_lines w r t) 3 r head_lined (rows_lined w r t))
      (omega (arith, length-append a (row_lines w r t), length-append (heading_line h ++ row_line vs) (heading_line g), heading_some g))

-- "Schema row r is line 4 + r"
pub schema_row_line_lem : (m : ℕ) (text : List ℕ) (s : SchemaText) → read_schema m text ≡ read s → (r : ℕ) → r < length s.table / 4
    → LineIs text (schema_row_line r) (row_line (take 4 (drop (4 * r) s.table)))
unfolding read_schema schema_text schema_row_line
schema_row_line_lem m text s h r l =
    let i = schema_lines_are (lines text) s (passed (leb 4096 m) read_schema_lines text s h).gives in
    let same : schema_text s.table i.rows s.root s.least ≡ text =
    ap (λ (t : List ℤ). schema_text t i.rows s.root s.least) (sym (append-nil s.table)) ∙ sym (i.text []) ∙ text_lines text in
    subst (λ (x : List ℕ). LineIs x (4 + r) (row_line (take 4 (drop (4 * r) s.table)))) same
    (headed_row schema_heading row_heading (s.root ∷ s.least ∷ []) schema_heading_lacks row_heading_lacks 4 i.rows r s.table (omega (arith, i.count)))

-- pairs start on the fourth line of a model text
pub pair_line_lem : (m : ℕ) (text : List ℕ) (s : ModelText) → read_model m text ≡ read s → (r : ℕ) → r < length s.table / 2
    → LineIs text (pair_line r) (row_line (take 2 (drop (2 * r) s.table)))
unfolding read_model model_text pair_line
pair_line_lem m text s h r l =
    let i = model_lines_are (lines text) s (passed (leb 8192 m) read_model_lines text s h).gives in
    let same : model_text s.n s.table i.rows ≡ text =
    ap (λ (t : List ℤ). model_text s.n t i.rows) (sym (append-nil s.table)) ∙ sym (i.text []) ∙ text_lines text in
    subst (λ (x : List ℕ). LineIs x (4 + r) (row_line (take 2 (drop (2 * r) s.table)))) same
    (headed_row model_heading pair_heading (s.n ∷ []) model_heading_lacks pair_heading_lacks 2 i.rows r s.table (omega (arith, i.count)))

-- ---- proofs

module _ (t : List ℤ) (n : ℕ) (nodes : List ℤ) (k : ℕ) (members : List ℤ) where
  proof_row_is : (q : ℕ) → q < n → LineIs (proof_text t n nodes k members) (2 + q) (row_line (take 4 (drop (4 * q) t)))
  unfolding proof_text
  proof_row_is q l =
      let h : List ℕ = heading_line row_heading in
      let g : List ℕ = heading_line node_heading in
      let end : List ℕ = node_lines nodes members 0 k in
      let row : List ℤ = take 4 (drop (4 * q) t) in
      let after : List ℕ = row_lines 4 (n - suc q) (drop 4 (drop (4 * q) t)) in
      let number : 2 + q ≡ suc (1 + q) = omega arith in
      line_is _ (h ++ row_lines 4 q t) (1 + q) (2 + q) row (after ++ (g ++ end))
      (ap (λ (x : List ℕ). h ++ x ++ g ++ end) (row_among 4 n q t l) ∙ regroup h (row_lines 4 q t) (row_line row) after g end)
      number
      (both_lined h (row_lines 4 q t) 1 q (heading_lined row_heading row_heading_lacks) (rows_lined 4 q t))
      (omega (arith, length-append h (row_lines 4 q t), heading_some row_heading))
    where
      regroup : (a b c d e f : List ℕ) → a ++ (b ++ (c ++ d)) ++ e ++ f ≡ (a ++ b) ++ (c ++ (d ++ (e ++ f)))
      regroup a b c d e f = simp append_assoc

  node_is : (j : ℕ) → j < k → LineIs (proof_text t n nodes k members) (3 + n + j) (row_line (node_values nodes members j))
  unfolding proof_text
  node_is j l =
      let h : List ℕ = heading_line row_heading in
      let g : List ℕ = heading_line node_heading in
      let a : List ℕ = h ++ row_lines 4 n t ++ g in
      let number : 3 + n + j ≡ suc (1 + n + 1 + j) = omega arith in
      line_is _ (a ++ node_lines nodes members 0 j) (1 + n + 1 + j) (3 + n + j) (node_values nodes members j) _
      (ap (λ (x : List ℕ). a ++ x) (node_among nodes members k j l) ∙ sym (append_assoc a (node_lines nodes members 0 j) _))
      number
      (both_lined a (node_lines nodes members 0 j) (1 + n + 1) j
      (both_lined (h ++ row_lines 4 n t) g (1 + n) 1
      (both_lined h (row_lines 4 n t) 1 n (heading_lined row_heading row_heading_lacks) (rows_lined 4 n t))
      (heading_lined node_heading node_heading_lacks))
      (nodes_lined nodes members 0 j))
      (omega (arith, length-append a (node_lines nodes members 0 j), length-append (h ++ row_lines 4 n t) g, heading_some node_heading))

module _ (a b d : ℕ) (text : List ℕ) (p : ProofText) (h : read_proof a b d text ≡ read p) where
  proof_is : proof_text p.table (length p.table / 4) p.nodes (length p.nodes / 9) p.members ≡ text
  unfolding read_proof
  proof_is =
      let i = proof_lines_are (lines text) p (passed (leb 4096 a and leb 9216 b and leb 8192 d) read_proof_lines text p h).gives in
      let rows : length p.table / 4 ≡ i.rows = omega (arith, i.count) in
      let node_rows : length p.nodes / 9 ≡ i.node_rows = omega (arith, i.node_count) in
      cc (rows, node_rows, append-nil p.table, append-nil p.nodes, append-nil p.members, i.text [] [] [], text_lines text)

  -- "with S schema .. rows, proof row r is line 2 + r - S": rows S, S + 1, .. are the text's
  pub proof_row_line_lem : (S q : ℕ) → q < length p.table / 4 → LineIs text (proof_row_line S (S + q)) (row_line (take 4 (drop (4 * q) p.table)))
  unfolding proof_row_line
  proof_row_line_lem S q l =
      let number : 2 + q ≡ 2 + (S + q) - S = omega arith in
      let row : List ℕ = row_line (take 4 (drop (4 * q) p.table)) in
      subst (λ (k : ℕ). LineIs text k row) number
      (subst (λ (x : List ℕ). LineIs x (2 + q) row) proof_is
      (proof_row_is p.table (length p.table / 4) p.nodes (length p.nodes / 9) p.members q l))

  -- "with .. P proof rows, .. node j line 3 + P + j": the seven numbers, then the set
  pub node_line_lem : (j : ℕ) → j < length p.nodes / 9 → LineIs text (node_line (length p.table / 4) j) (row_line (node_values p.nodes p.members j))
  unfolding node_line
  node_line_lem j l =
      subst (λ (x : List ℕ). LineIs x (3 + length p.table / 4 + j) (row_line (node_values p.nodes p.members j))) proof_is
      (node_is p.table (length p.table / 4) p.nodes (length p.nodes / 9) p.members j l)
