-- What is written reads back the same, what is read writes back the same, and what lent memory holds: the theorems on texts.
pub mod Numbers
pub mod Lines
pub mod Rows
pub mod Nodes
pub mod ProofRows
pub mod Kinds
pub mod Outcomes
use Prim.Native.Nat.{ℕ, ◌*◌, ◌-◌, ◌/◌, ◌≤◌}
use native.Mathlib.Omega.{arith}
use mathlib.Core.Path.{◌≡◌, refl, sym, ◌∙◌, ap, ap₂, subst}
use mathlib.Core.Bool.{true}
use mathlib.Core.List.{List, ◌++◌}
use lib.Dec.{leb}
use lib.IntN.{ℤ, pos}
use lib.ListN.{length, take, replicate}
use lib.Seq.{take-append_seam}
use borrow.Author.Tests.{leb-true, le-leb}
use Rattle.stab.specs.Basic.{◌and◌, all_of, eq_z}
use Rattle.stab.specs.Node.{set_start}
use Rattle.stab.specs.Text.{lines, five_digits, padded}
use Rattle.stab.specs.Read.{read, stopped, SchemaText, ProofText, ModelText, read_schema_lines, read_proof_lines, read_model_lines, read_schema, read_proof, read_model, schema_table, proof_table, node_table, member_table, pair_table}
use Rattle.stab.specs.Check.{holds}
use Rattle.stab.specs.Write.{Writing, wrote, refused, schema_text, proof_text, model_text, rows_writable, nodes_writable, sets_writable, write_schema, write_proof, write_model, output}
use Rattle.stab.specs.Finding.{Place}
use Rattle.stab.specs.declared.Refusal.{Refusal}
use Rattle.stab.proofs.Bools.{and_left, and_right, and_both}
use Rattle.stab.proofs.Whole.{eq_z_true, eq_z_of}
use Lines.{text_lines}
use Kinds.{schema_lines_back, schema_lines_are, proof_lines_back, proof_lines_are, model_lines_back, model_lines_are}
use Outcomes.{passed, read_text_lem, written, write_text, rows_held_lem, rows_writable_lem, table_stopped, table_read, padded_none}

fits_as : {x text : List ℕ} {n : ℕ} → x ≡ text → length text ≤ n → length x ≤ n
fits_as e h = rw e h

-- ---- rows written as text read back the same

-- a schema that was written: its root, its least value and its rows
pub schema_back : (t : List ℤ) (r : ℕ) (root least : ℤ) (n m : ℕ) (text : List ℕ)
    → write_schema t r root least n ≡ wrote text → leb 4096 m ≡ true
    → read_schema m text ≡ read (record { root = root; least = least; table = take (4 * r) t })
unfolding write_schema read_schema holds rows_writable all_of
schema_back t r root least n m text h lent =
    let w = written (holds t 4 r) (leb r 1024) (five_digits root and five_digits least and rows_writable 4 r t) n (schema_text t r root least) text h in
    let d = and_right (five_digits root) _ w.digits in
    ap (read_schema m) (sym w.same)
    ∙ read_text_lem (leb 4096 m) read_schema_lines (schema_text t r root least) w.short lent
    ∙ schema_lines_back t r root least (leb-true (4 * r) (length t) w.holding) (leb-true r 1024 w.counted)
    (and_both _ _ (and_left _ _ w.digits) (and_both _ _ (and_left _ _ d) refl))
    (and_right (five_digits least) _ d)

-- a proof that was written: its rows, its nodes and their members
pub proof_back : (t : List ℤ) (r : ℕ) (nodes : List ℤ) (k : ℕ) (members : List ℤ) (c n a b d : ℕ) (text : List ℕ)
    → write_proof t r nodes k members c n ≡ wrote text → (leb 4096 a and leb 9216 b and leb 8192 d) ≡ true
    → read_proof a b d text ≡ read (record { table = take (4 * r) t; nodes = take (9 * k) nodes; members = take c members })
unfolding write_proof read_proof holds rows_writable sets_writable
proof_back t r nodes k members c n a b d text h lent =
    let w = written (holds t 4 r and holds nodes 9 k and holds members 1 c) (leb r 1024 and leb k 1024 and leb c 8192)
    (rows_writable 4 r t and sets_writable nodes k members c) n (proof_text t r nodes k members) text h in
    let held = and_right (holds t 4 r) _ w.holding in
    let few = and_right (leb r 1024) _ w.counted in
    let sets = and_right (rows_writable 4 r t) _ w.digits in
    let last = and_right (nodes_writable nodes k) _ sets in
    ap (read_proof a b d) (sym w.same)
    ∙ read_text_lem (leb 4096 a and leb 9216 b and leb 8192 d) read_proof_lines (proof_text t r nodes k members) w.short lent
    ∙ proof_lines_back t r nodes k members c
    (leb-true (4 * r) (length t) (and_left _ _ w.holding))
    (leb-true (9 * k) (length nodes) (and_left _ _ held))
    (omega (arith, leb-true (1 * c) (length members) (and_right (holds nodes 9 k) _ held)))
    (leb-true r 1024 (and_left _ _ w.counted))
    (leb-true k 1024 (and_left _ _ few))
    (leb-true c 8192 (and_right (leb k 1024) _ few))
    (and_left _ _ w.digits)
    (and_left _ _ sets)
    (eq_z_true (set_start nodes k) (pos c) (and_left _ _ last))
    (and_right (eq_z (set_start nodes k) (pos c)) _ last)

-- a model that was written: its n and its pairs
pub model_back : (v : ℤ) (t : List ℤ) (r n m : ℕ) (text : List ℕ)
    → write_model v t r n ≡ wrote text → leb 8192 m ≡ true
    → read_model m text ≡ read (record { n = v; table = take (2 * r) t })
unfolding write_model read_model holds rows_writable
model_back v t r n m text h lent =
    let w = written (holds t 2 r) (leb r 4096) (five_digits v and rows_writable 2 r t) n (model_text v t r) text h in
    ap (read_model m) (sym w.same)
    ∙ read_text_lem (leb 8192 m) read_model_lines (model_text v t r) w.short lent
    ∙ model_lines_back v t r (leb-true (2 * r) (length t) w.holding) (leb-true r 4096 w.counted) (and_left _ _ w.digits) (and_right (five_digits v) _ w.digits)

-- ---- a text that was read writes back as the same bytes, given an output of its length

-- a schema text, from what reading it left in the lent table
pub schema_same : (text : List ℕ) (m : ℕ) (s : SchemaText) (n : ℕ)
    → read_schema m text ≡ read s → length text ≤ n
    → write_schema (padded (pos 0) m s.table) (length s.table / 4) s.root s.least n ≡ wrote text
unfolding read_schema write_schema padded all_of
schema_same text m s n h fits =
    let p = passed (leb 4096 m) read_schema_lines text s h in
    let i = schema_lines_are (lines text) s p.gives in
    let more : List ℤ = replicate (m - length s.table) (pos 0) in
    let t : List ℤ = s.table ++ more in
    let r : ℕ = length s.table / 4 in
    let rows : i.rows ≡ r = omega (arith, i.count) in
    let count : 4 * r ≡ length s.table = omega (arith, i.count) in
    let same : schema_text t r s.root s.least ≡ text =
    ap (λ (x : ℕ). schema_text t x s.root s.least) (sym rows) ∙ sym (i.text more) ∙ text_lines text in
    let first = and_right (five_digits s.root) _ i.first in
    write_text (holds t 4 r) (leb r 1024) (five_digits s.root and five_digits s.least and rows_writable 4 r t) n (schema_text t r s.root s.least) text
    (record {
      holding = rows_held_lem 4 r s.table more count;
      counted = le-leb r 1024 (omega (arith, i.few));
      digits = and_both _ _ (and_left _ _ i.first) (and_both _ _ (and_left _ _ first) (rows_writable_lem 4 r s.table more count i.digits));
      same = same;
      fits = fits_as same fits;
      short = fits_as same p.short;
    })

-- a proof text, from what reading it left in the three lent tables
pub proof_same : (text : List ℕ) (a b d : ℕ) (p : ProofText) (n : ℕ)
    → read_proof a b d text ≡ read p → length text ≤ n
    → write_proof (padded (pos 0) a p.table) (length p.table / 4) (padded (pos 0) b p.nodes) (length p.nodes / 9) (padded (pos 0) d p.members) (length p.members) n ≡ wrote text
unfolding read_proof write_proof sets_writable padded
proof_same text a b d p n h fits =
    let q = passed (leb 4096 a and leb 9216 b and leb 8192 d) read_proof_lines text p h in
    let i = proof_lines_are (lines text) p q.gives in
    let more : List ℤ = replicate (a - length p.table) (pos 0) in
    let more_nodes : List ℤ = replicate (b - length p.nodes) (pos 0) in
    let more_members : List ℤ = replicate (d - length p.members) (pos 0) in
    let t : List ℤ = p.table ++ more in
    let nodes : List ℤ = p.nodes ++ more_nodes in
    let members : List ℤ = p.members ++ more_members in
    let r : ℕ = length p.table / 4 in
    let k : ℕ = length p.nodes / 9 in
    let c : ℕ = length p.members in
    let rows : i.rows ≡ r = omega (arith, i.count) in
    let node_rows : i.node_rows ≡ k = omega (arith, i.node_count) in
    let count : 4 * r ≡ length p.table = omega (arith, i.count) in
    let node_count : 9 * k ≡ length p.nodes = omega (arith, i.node_count) in
    let member_count : 1 * c ≡ length p.members = omega arith in
    let same : proof_text t r nodes k members ≡ text =
    ap₂ (λ (x y : ℕ). proof_text t x nodes y members) (sym rows) (sym node_rows) ∙ sym (i.text more more_nodes more_members) ∙ text_lines text in
    write_text (holds t 4 r and holds nodes 9 k and holds members 1 c) (leb r 1024 and leb k 1024 and leb c 8192) (rows_writable 4 r t and sets_writable nodes k members c) n (proof_text t r nodes k members) text
    (record {
      holding = and_both _ _ (rows_held_lem 4 r p.table more count)
          (and_both _ _ (rows_held_lem 9 k p.nodes more_nodes node_count) (rows_held_lem 1 c p.members more_members member_count));
      counted = and_both _ _ (le-leb r 1024 (omega (arith, i.few)))
          (and_both _ _ (le-leb k 1024 (omega (arith, i.few_nodes))) (le-leb c 8192 i.few_members));
      digits = and_both _ _ (rows_writable_lem 4 r p.table more count i.digits)
          (and_both _ _ (subst (λ (x : ℕ). nodes_writable nodes x ≡ true) node_rows (i.writable more_nodes))
          (and_both _ _ (eq_z_of (set_start nodes k) (pos c) (ap (set_start nodes) (sym node_rows) ∙ i.ends more_nodes))
          (ap (all_of five_digits) (take-append_seam p.members more_members) ∙ i.member_digits)));
      same = same;
      fits = fits_as same fits;
      short = fits_as same q.short;
    })

-- a model text, from what reading it left in the lent table
pub model_same : (text : List ℕ) (m : ℕ) (s : ModelText) (n : ℕ)
    → read_model m text ≡ read s → length text ≤ n
    → write_model s.n (padded (pos 0) m s.table) (length s.table / 2) n ≡ wrote text
unfolding read_model write_model padded
model_same text m s n h fits =
    let p = passed (leb 8192 m) read_model_lines text s h in
    let i = model_lines_are (lines text) s p.gives in
    let more : List ℤ = replicate (m - length s.table) (pos 0) in
    let t : List ℤ = s.table ++ more in
    let r : ℕ = length s.table / 2 in
    let rows : i.rows ≡ r = omega (arith, i.count) in
    let count : 2 * r ≡ length s.table = omega (arith, i.count) in
    let same : model_text s.n t r ≡ text = ap (model_text s.n t) (sym rows) ∙ sym (i.text more) ∙ text_lines text in
    write_text (holds t 2 r) (leb r 4096) (five_digits s.n and rows_writable 2 r t) n (model_text s.n t r) text
    (record {
      holding = rows_held_lem 2 r s.table more count;
      counted = le-leb r 4096 (omega (arith, i.few));
      digits = and_both _ _ i.first (rows_writable_lem 2 r s.table more count i.digits);
      same = same;
      fits = fits_as same fits;
      short = fits_as same p.short;
    })

-- ---- what is read holds whole rows, within the limits

-- a schema: rows of four numbers, at most 1,024
pub schema_counts : (m : ℕ) (text : List ℕ) (s : SchemaText) → read_schema m text ≡ read s
    → (4 * (length s.table / 4) ≡ length s.table) × (length s.table ≤ 4096)
unfolding read_schema
schema_counts m text s h =
    let i = schema_lines_are (lines text) s (passed (leb 4096 m) read_schema_lines text s h).gives in
    (omega (arith, i.count), omega (arith, i.count, i.few))

-- a proof: rows of four numbers and nodes of nine, at most 1,024 each, and at most 8,192 members
pub proof_counts : (a b d : ℕ) (text : List ℕ) (p : ProofText) → read_proof a b d text ≡ read p
    → (4 * (length p.table / 4) ≡ length p.table) × (length p.table ≤ 4096)
    × (9 * (length p.nodes / 9) ≡ length p.nodes) × (length p.nodes ≤ 9216)
    × (length p.members ≤ 8192)
unfolding read_proof
proof_counts a b d text p h =
    let i = proof_lines_are (lines text) p (passed (leb 4096 a and leb 9216 b and leb 8192 d) read_proof_lines text p h).gives in
    (omega (arith, i.count), omega (arith, i.count, i.few), omega (arith, i.node_count), omega (arith, i.node_count, i.few_nodes), i.few_members)

-- a model: pairs, at most 4,096
pub model_counts : (m : ℕ) (text : List ℕ) (s : ModelText) → read_model m text ≡ read s
    → (2 * (length s.table / 2) ≡ length s.table) × (length s.table ≤ 8192)
unfolding read_model
model_counts m text s h =
    let i = model_lines_are (lines text) s (passed (leb 8192 m) read_model_lines text s h).gives in
    (omega (arith, i.count), omega (arith, i.count, i.few))

-- ---- after a refusal lent memory is all 0; after success it is 0 past the last number or byte

-- a schema text that is refused
pub schema_table_refused : (n : ℕ) (text : List ℕ) (why : Refusal) (k : ℕ) → read_schema n text ≡ stopped why k
    → schema_table n (read_schema n text) ≡ replicate n (pos 0)
unfolding schema_table
schema_table_refused n text why k h = table_stopped (λ s. s.table) n (read_schema n text) why k h

-- a schema text that is read
pub schema_table_read : (n : ℕ) (text : List ℕ) (s : SchemaText) → read_schema n text ≡ read s
    → schema_table n (read_schema n text) ≡ s.table ++ replicate (n - length s.table) (pos 0)
unfolding schema_table
schema_table_read n text s h = table_read (λ q. q.table) n (read_schema n text) s h

-- a proof text that is refused
pub proof_tables_refused : (a b d : ℕ) (text : List ℕ) (why : Refusal) (k : ℕ) → read_proof a b d text ≡ stopped why k
    → (proof_table a (read_proof a b d text) ≡ replicate a (pos 0))
    × (node_table b (read_proof a b d text) ≡ replicate b (pos 0))
    × (member_table d (read_proof a b d text) ≡ replicate d (pos 0))
unfolding proof_table node_table member_table
proof_tables_refused a b d text why k h = (
  table_stopped (λ p. p.table) a (read_proof a b d text) why k h,
  table_stopped (λ p. p.nodes) b (read_proof a b d text) why k h,
  table_stopped (λ p. p.members) d (read_proof a b d text) why k h,
)

-- a proof text that is read
pub proof_tables_read : (a b d : ℕ) (text : List ℕ) (p : ProofText) → read_proof a b d text ≡ read p
    → (proof_table a (read_proof a b d text) ≡ p.table ++ replicate (a - length p.table) (pos 0))
    × (node_table b (read_proof a b d text) ≡ p.nodes ++ replicate (b - length p.nodes) (pos 0))
    × (member_table d (read_proof a b d text) ≡ p.members ++ replicate (d - length p.members) (pos 0))
unfolding proof_table node_table member_table
proof_tables_read a b d text p h = (
  table_read (λ q. q.table) a (read_proof a b d text) p h,
  table_read (λ q. q.nodes) b (read_proof a b d text) p h,
  table_read (λ q. q.members) d (read_proof a b d text) p h,
)

-- a model text that is refused
pub pair_table_refused : (n : ℕ) (text : List ℕ) (why : Refusal) (k : ℕ) → read_model n text ≡ stopped why k
    → pair_table n (read_model n text) ≡ replicate n (pos 0)
unfolding pair_table
pair_table_refused n text why k h = table_stopped (λ s. s.table) n (read_model n text) why k h

-- a model text that is read
pub pair_table_read : (n : ℕ) (text : List ℕ) (s : ModelText) → read_model n text ≡ read s
    → pair_table n (read_model n text) ≡ s.table ++ replicate (n - length s.table) (pos 0)
unfolding pair_table
pair_table_read n text s h = table_read (λ q. q.table) n (read_model n text) s h

-- the output, whichever text was to be written, after a refusal
pub output_refused : (n : ℕ) (w : Writing) (why : Refusal) (place : Place) → w ≡ refused why place → output n w ≡ replicate n 0
unfolding output
output_refused n w why place h = ap (output n) h ∙ padded_none 0 n

-- the output after success
pub output_wrote : (n : ℕ) (w : Writing) (text : List ℕ) → w ≡ wrote text → output n w ≡ text ++ replicate (n - length text) 0
unfolding output padded
output_wrote n w text h = ap (output n) h
