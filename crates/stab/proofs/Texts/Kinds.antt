-- The three kinds of text, line by line: what is written reads back, and what lines are that were read.
use Prim.Native.Nat.{ℕ, ◌+◌, ◌*◌, ◌-◌, ◌≤◌}
use native.Mathlib.Omega.{arith}
use mathlib.Core.Path.{◌≡◌, refl, sym, ◌∙◌, ap, ap₂, subst}
use mathlib.Core.Bool.{Bool, true, false≢true}
use mathlib.Core.List.{List, [], ◌∷◌, ◌++◌, append_assoc}
use lib.Dec.{eqb}
use lib.IntN.{ℤ, pos}
use lib.ListN.{length, take, get_or}
use borrow.Author.Tests.{eqb-true}
use Rattle.stab.specs.Basic.{◌and◌, all_of}
use Rattle.stab.specs.Node.{set_start}
use Rattle.stab.specs.Text.{Line, bytes, lines, five_digits, row_line, heading_line, schema_heading, row_heading, node_heading, model_heading, pair_heading, lacks}
use Rattle.stab.specs.Read.{read, heading_at, values_at, rows_from, nodes_from, SchemaText, read_schema_lines, ProofText, read_proof_lines, ModelText, read_model_lines}
use Rattle.stab.specs.Write.{row_lines, node_lines, nodes_writable, schema_text, proof_text, model_text}
use Rattle.stab.proofs.Bools.{and_left, and_both}
use Rattle.stab.proofs.Texts.Lines.{full, row_bytes, text_of, lines_row, lines_heading}
use Rattle.stab.proofs.Texts.Rows.{read_injective, then_read, then_is, heading_full, heading_text, values_at_row, First, first_values, rows_back, rows_are}
use Rattle.stab.proofs.Texts.Nodes.{Nodes, nodes_back}
use Rattle.stab.proofs.Texts.ProofRows.{proof_rows_back, proof_rows_are}

four : (a b c d : List ℕ) → a ++ b ++ c ++ d ≡ a ++ (b ++ (c ++ d))
four a b c d = simp append_assoc

-- ---- headings hold no byte 10

pub schema_heading_lacks : lacks 10 schema_heading ≡ true
unfolding lacks schema_heading bytes ◌and◌
schema_heading_lacks = refl

pub row_heading_lacks : lacks 10 row_heading ≡ true
unfolding lacks row_heading bytes ◌and◌
row_heading_lacks = refl

pub model_heading_lacks : lacks 10 model_heading ≡ true
unfolding lacks model_heading bytes ◌and◌
model_heading_lacks = refl

pub pair_heading_lacks : lacks 10 pair_heading ≡ true
unfolding lacks pair_heading bytes ◌and◌
pair_heading_lacks = refl

-- the lines of a text with a heading, a line of numbers, a heading, and more
lines_of : (h g : List ℕ) (vs : List ℤ) (rest : List ℕ) → lacks 10 h ≡ true → lacks 10 g ≡ true
    → lines (heading_line h ++ row_line vs ++ heading_line g ++ rest) ≡ full h ∷ full (row_bytes vs) ∷ full g ∷ lines rest
lines_of h g vs rest a b =
    ap lines (four (heading_line h) (row_line vs) (heading_line g) rest)
    ∙ lines_heading h (row_line vs ++ (heading_line g ++ rest)) a
    ∙ ap (λ (ls : List Line). full h ∷ ls) (lines_row vs (heading_line g ++ rest))
    ∙ ap (λ (ls : List Line). full h ∷ full (row_bytes vs) ∷ ls) (lines_heading g rest b)

-- the bytes of lines that give a heading, a line of numbers, a heading, and more
text_of_lem : (h g : List ℕ) (fits : ℕ → Bool) (ls ls₁ : List Line) (v : List ℤ × List Line) (ls₃ : List Line) (vs : List ℤ) (rest : List ℕ)
    → heading_at h 1 ls ≡ read ls₁ → First fits ls₁ v → v.0 ≡ vs → heading_at g 3 v.1 ≡ read ls₃ → text_of ls₃ ≡ rest
    → text_of ls ≡ heading_line h ++ row_line vs ++ heading_line g ++ rest
text_of_lem h g fits ls ls₁ v ls₃ vs rest a f e b c =
    heading_text h 1 ls ls₁ a
    ∙ ap (λ (x : List ℕ). heading_line h ++ x)
    (f.text ∙ ap₂ (λ (l : List ℤ) (x : List ℕ). row_line l ++ x) e (heading_text g 3 v.1 ls₃ b ∙ ap (λ (x : List ℕ). heading_line g ++ x) c))
    ∙ sym (four (heading_line h) (row_line vs) (heading_line g) rest)

-- ---- schema

pub schema_lines_back : (t : List ℤ) (r : ℕ) (root least : ℤ)
    → 4 * r ≤ length t → r ≤ 1024 → all_of five_digits (root ∷ least ∷ []) ≡ true → all_of five_digits (take (4 * r) t) ≡ true
    → read_schema_lines (lines (schema_text t r root least)) ≡ read (record { root = root; least = least; table = take (4 * r) t })
unfolding read_schema_lines schema_text
schema_lines_back t r root least held few first digits =
    let vs : List ℤ = root ∷ least ∷ [] in
    let rest : List Line = lines (row_lines 4 r t) in
    ap read_schema_lines (lines_of schema_heading row_heading vs (row_lines 4 r t) schema_heading_lacks row_heading_lacks)
    ∙ then_is (heading_at schema_heading 1 (full schema_heading ∷ full (row_bytes vs) ∷ full row_heading ∷ rest)) _ (full (row_bytes vs) ∷ full row_heading ∷ rest) (heading_full schema_heading 1 _)
    ∙ then_is (values_at (eqb 2) 2 (full (row_bytes vs) ∷ full row_heading ∷ rest)) _ (vs, full row_heading ∷ rest) (values_at_row (eqb 2) 2 vs _ (omega arith) first refl)
    ∙ then_is (heading_at row_heading 3 (full row_heading ∷ rest)) _ rest (heading_full row_heading 3 rest)
    ∙ then_is (rows_from 4 1024 4 rest) _ (take (4 * r) t) (rows_back 4 1024 4 r t (omega arith) held few digits)

-- what lines are that give a schema
pub record SchemaLines (ls : List Line) (s : SchemaText) : Type 0 where
  pub rows : ℕ
  pub count : 4 * rows ≡ length s.table
  pub few : rows ≤ 1024
  pub first : all_of five_digits (s.root ∷ s.least ∷ []) ≡ true
  pub digits : all_of five_digits s.table ≡ true
  pub text : (more : List ℤ) → text_of ls ≡ schema_text (s.table ++ more) rows s.root s.least

two : (l : List ℤ) → eqb 2 (length l) ≡ true → l ≡ get_or l 0 (pos 0) ∷ get_or l 1 (pos 0) ∷ []
two [] e = absurd (false≢true e)
two (x ∷ []) e = absurd (false≢true e)
two (x ∷ (y ∷ [])) e = refl
two (x ∷ (y ∷ (z ∷ zs))) e = let n = eqb-true 2 (length (x ∷ y ∷ z ∷ zs)) e in absurd (omega arith)

pub schema_lines_are : (ls : List Line) (s : SchemaText) → read_schema_lines ls ≡ read s → SchemaLines ls s
unfolding read_schema_lines schema_text
schema_lines_are ls s h =
    let a = then_read (heading_at schema_heading 1 ls) _ s h in
    let b = then_read (values_at (eqb 2) 2 a.0) _ s a.2 in
    let v = b.0 in
    let c = then_read (heading_at row_heading 3 v.1) _ s b.2 in
    let d = then_read (rows_from 4 1024 4 c.0) _ s c.2 in
    let f = first_values (eqb 2) 2 a.0 v b.1 in
    let i = rows_are 4 1024 4 c.0 d.0 d.1 in
    let pair = two v.0 f.count in
    subst (SchemaLines ls) (read_injective (record { root = get_or v.0 0 (pos 0); least = get_or v.0 1 (pos 0); table = d.0 }) s d.2)
    (record {
      rows = length c.0;
      count = i.count;
      few = i.few;
      first = subst (λ (l : List ℤ). all_of five_digits l ≡ true) pair f.digits;
      digits = i.digits;
      text = λ more. text_of_lem schema_heading row_heading (eqb 2) ls a.0 v c.0 _ _ a.1 f pair c.1 (i.text more);
    })

-- ---- model

pub model_lines_back : (v : ℤ) (t : List ℤ) (r : ℕ)
    → 2 * r ≤ length t → r ≤ 4096 → five_digits v ≡ true → all_of five_digits (take (2 * r) t) ≡ true
    → read_model_lines (lines (model_text v t r)) ≡ read (record { n = v; table = take (2 * r) t })
unfolding read_model_lines model_text all_of
model_lines_back v t r held few first digits =
    let vs : List ℤ = v ∷ [] in
    let rest : List Line = lines (row_lines 2 r t) in
    ap read_model_lines (lines_of model_heading pair_heading vs (row_lines 2 r t) model_heading_lacks pair_heading_lacks)
    ∙ then_is (heading_at model_heading 1 (full model_heading ∷ full (row_bytes vs) ∷ full pair_heading ∷ rest)) _ (full (row_bytes vs) ∷ full pair_heading ∷ rest) (heading_full model_heading 1 _)
    ∙ then_is (values_at (eqb 1) 2 (full (row_bytes vs) ∷ full pair_heading ∷ rest)) _ (vs, full pair_heading ∷ rest) (values_at_row (eqb 1) 2 vs _ (omega arith) (and_both _ _ first refl) refl)
    ∙ then_is (heading_at pair_heading 3 (full pair_heading ∷ rest)) _ rest (heading_full pair_heading 3 rest)
    ∙ then_is (rows_from 2 4096 4 rest) _ (take (2 * r) t) (rows_back 2 4096 4 r t (omega arith) held few digits)

-- what lines are that give a model
pub record ModelLines (ls : List Line) (s : ModelText) : Type 0 where
  pub rows : ℕ
  pub count : 2 * rows ≡ length s.table
  pub few : rows ≤ 4096
  pub first : five_digits s.n ≡ true
  pub digits : all_of five_digits s.table ≡ true
  pub text : (more : List ℤ) → text_of ls ≡ model_text s.n (s.table ++ more) rows

one : (l : List ℤ) → eqb 1 (length l) ≡ true → l ≡ get_or l 0 (pos 0) ∷ []
one [] e = absurd (false≢true e)
one (x ∷ []) e = refl
one (x ∷ (y ∷ ys)) e = let n = eqb-true 1 (length (x ∷ y ∷ ys)) e in absurd (omega arith)

pub model_lines_are : (ls : List Line) (s : ModelText) → read_model_lines ls ≡ read s → ModelLines ls s
unfolding read_model_lines model_text all_of
model_lines_are ls s h =
    let a = then_read (heading_at model_heading 1 ls) _ s h in
    let b = then_read (values_at (eqb 1) 2 a.0) _ s a.2 in
    let v = b.0 in
    let c = then_read (heading_at pair_heading 3 v.1) _ s b.2 in
    let d = then_read (rows_from 2 4096 4 c.0) _ s c.2 in
    let f = first_values (eqb 1) 2 a.0 v b.1 in
    let i = rows_are 2 4096 4 c.0 d.0 d.1 in
    let single = one v.0 f.count in
    subst (ModelLines ls) (read_injective (record { n = get_or v.0 0 (pos 0); table = d.0 }) s d.2)
    (record {
      rows = length c.0;
      count = i.count;
      few = i.few;
      first = and_left _ _ (subst (λ (l : List ℤ). all_of five_digits l ≡ true) single f.digits);
      digits = i.digits;
      text = λ more. text_of_lem model_heading pair_heading (eqb 1) ls a.0 v c.0 _ _ a.1 f single c.1 (i.text more);
    })

-- ---- proof

all_nodes_back : (nodes members : List ℤ) (k c : ℕ) → 9 * k ≤ length nodes → c ≤ length members → c ≤ 8192
    → nodes_writable nodes k ≡ true → set_start nodes k ≡ pos c → k ≤ 1024 → all_of five_digits (take c members) ≡ true
    → (i : ℕ) → nodes_from 1024 0 i (lines (node_lines nodes members 0 k)) ≡ read (take (9 * k) nodes, take c members)
unfolding set_start
all_nodes_back nodes members k c held enough few writable ends few_nodes digits i =
    let all : c - 0 ≡ c = omega arith in
    nodes_back nodes members k c held enough few writable ends k 0 0 1024 i (omega arith) few_nodes refl
    (subst (λ (x : ℕ). all_of five_digits (take x members) ≡ true) (sym all) digits)
    ∙ ap (λ (x : ℕ). read (take (9 * k) nodes, take x members)) all

pub proof_lines_back : (t : List ℤ) (r : ℕ) (nodes : List ℤ) (k : ℕ) (members : List ℤ) (c : ℕ)
    → 4 * r ≤ length t → 9 * k ≤ length nodes → c ≤ length members
    → r ≤ 1024 → k ≤ 1024 → c ≤ 8192
    → all_of five_digits (take (4 * r) t) ≡ true → nodes_writable nodes k ≡ true → set_start nodes k ≡ pos c → all_of five_digits (take c members) ≡ true
    → read_proof_lines (lines (proof_text t r nodes k members)) ≡ read (record { table = take (4 * r) t; nodes = take (9 * k) nodes; members = take c members })
unfolding read_proof_lines proof_text
proof_lines_back t r nodes k members c held held_nodes held_members few few_nodes few_members digits writable ends member_digits =
    let after : List ℕ = node_lines nodes members 0 k in
    let rest : List ℕ = row_lines 4 r t ++ (heading_line node_heading ++ after) in
    ap (λ (x : List ℕ). read_proof_lines (lines x)) (four (heading_line row_heading) (row_lines 4 r t) (heading_line node_heading) after)
    ∙ ap read_proof_lines (lines_heading row_heading rest row_heading_lacks)
    ∙ then_is (heading_at row_heading 1 (full row_heading ∷ lines rest)) _ (lines rest) (heading_full row_heading 1 (lines rest))
    ∙ proof_rows_back 1024 2 r t after (take (9 * k) nodes, take c members) held few digits
    (all_nodes_back nodes members k c held_nodes held_members few_members writable ends few_nodes member_digits)

-- what lines are that give a proof
pub record ProofLines (ls : List Line) (p : ProofText) : Type 0 where
  pub rows : ℕ
  pub count : 4 * rows ≡ length p.table
  pub few : rows ≤ 1024
  pub digits : all_of five_digits p.table ≡ true
  pub node_rows : ℕ
  pub node_count : 9 * node_rows ≡ length p.nodes
  pub few_nodes : node_rows ≤ 1024
  pub few_members : length p.members ≤ 8192
  pub member_digits : all_of five_digits p.members ≡ true
  pub writable : (more : List ℤ) → nodes_writable (p.nodes ++ more) node_rows ≡ true
  pub ends : (more : List ℤ) → set_start (p.nodes ++ more) node_rows ≡ pos (length p.members)
  pub text : (more more_nodes more_members : List ℤ)
      → text_of ls ≡ proof_text (p.table ++ more) rows (p.nodes ++ more_nodes) node_rows (p.members ++ more_members)

node_rows_are : (ls : List Line) (r : List ℤ × List ℤ) → Nodes 1024 0 ls r → (more others : List ℤ)
    → (text_of ls ≡ node_lines (r.0 ++ more) (r.1 ++ others) 0 (length ls)) × (nodes_writable (r.0 ++ more) (length ls) ≡ true) × (set_start (r.0 ++ more) (length ls) ≡ pos (length r.1))
unfolding nodes_writable set_start
node_rows_are ls r n more others =
    let w = n.writes (r.0 ++ more) (r.1 ++ others) 0 more others refl refl refl refl in
    let all : 0 + length ls ≡ length ls = omega arith in
    let members : 0 + length r.1 ≡ length r.1 = omega arith in (
      w.text,
      subst (λ (x : ℕ). nodes_writable (r.0 ++ more) x ≡ true) all w.writable,
      subst (λ (x : ℕ). set_start (r.0 ++ more) x ≡ pos (length r.1)) all (w.ends ∙ ap pos members),
    )

pub proof_lines_are : (ls : List Line) (p : ProofText) → read_proof_lines ls ≡ read p → ProofLines ls p
unfolding read_proof_lines proof_text
proof_lines_are ls p h =
    let a = then_read (heading_at row_heading 1 ls) _ p h in
    let q = proof_rows_are 1024 2 a.0 p a.2 in
    let n = q.nodes in
    let are = node_rows_are q.node_ls (p.nodes, p.members) n in
    record {
      rows = q.rows;
      count = q.count;
      few = q.few;
      digits = q.digits;
      node_rows = length q.node_ls;
      node_count = n.count;
      few_nodes = n.few;
      few_members = omega (arith, n.fits (omega arith));
      member_digits = n.digits;
      writable = λ more. (are more []).1;
      ends = λ more. (are more []).2;
      text = λ more more_nodes more_members.
          heading_text row_heading 1 ls a.0 a.1
          ∙ ap (λ (x : List ℕ). heading_line row_heading ++ x)
          (q.text more ∙ ap (λ (x : List ℕ). row_lines 4 q.rows (p.table ++ more) ++ (heading_line node_heading ++ x)) (are more_nodes more_members).0)
          ∙ sym (four (heading_line row_heading) (row_lines 4 q.rows (p.table ++ more)) (heading_line node_heading)
          (node_lines (p.nodes ++ more_nodes) (p.members ++ more_members) 0 (length q.node_ls)));
    }
