-- The lines of a proof after its first heading: rows, the second heading, nodes.
use Prim.Native.Nat.{ℕ, zero, suc, ◌*◌, ◌-◌, ◌≤◌}
use native.Mathlib.Omega.{arith}
use mathlib.Core.Path.{◌≡◌, refl, sym, ◌∙◌, ap, subst}
use mathlib.Core.Logic.{⊎_elim}
use mathlib.Core.Bool.{true, false}
use mathlib.Core.List.{List, [], ◌∷◌, ◌++◌, append_assoc}
use lib.Dec.{leb, eqb}
use lib.IntN.{ℤ}
use lib.ListN.{length, take, drop, length-append, length-drop}
use lib.Seq.{length-take-le}
use borrow.Author.Tests.{leb-true, le-leb, eqb-true, eq-eqb}
use Rattle.stab.specs.Basic.{◌and◌, all_of}
use Rattle.stab.specs.Text.{Line, bytes, lines, same_bytes, five_digits, row_line, heading_line, node_heading, lacks}
use Rattle.stab.specs.Read.{read, values, starts_with_u, nodes_from, ProofText, proof_rows_from}
use Rattle.stab.specs.Write.{row_lines}
use Rattle.stab.proofs.Bools.{and_left, and_right, and_both, decide, if_true, if_false}
use Rattle.stab.proofs.Texts.Numbers.{same_bytes_true, same_bytes_refl}
use Rattle.stab.proofs.Texts.Lines.{full, row_bytes, text_of, lines_row, lines_heading, numbers_row, row_not_u, text_heading}
use Rattle.stab.proofs.Texts.Rows.{read_injective, stopped_not_read, then_read, then_is, require_true, require_read, Row, values_row, row_values, all_append, all_front, all_back, take_row, front_rows}
use Rattle.stab.proofs.Texts.Nodes.{Nodes, nodes_are}

pub node_heading_lacks : lacks 10 node_heading ≡ true
unfolding lacks node_heading bytes ◌and◌
node_heading_lacks = refl

node_heading_starts : starts_with_u node_heading ≡ true
unfolding starts_with_u node_heading bytes
node_heading_starts = refl

-- one row more in front
pub proof_rows_step : (m k : ℕ) (l : Line) (ls : List Line) (vs : List ℤ) (p : ProofText)
    → starts_with_u l.content ≡ false → values (eqb 4) k l ≡ read vs → 1 ≤ m → proof_rows_from (m - 1) (suc k) ls ≡ read p
    → proof_rows_from m k (l ∷ ls) ≡ read (record { table = vs ++ p.table; nodes = p.nodes; members = p.members })
unfolding proof_rows_from
proof_rows_step m k l ls vs p u h few r =
    if_false (starts_with_u l.content) _ _ u
    ∙ then_is (values (eqb 4) k l) _ vs h
    ∙ require_true (leb 1 m) _ k _ (le-leb 1 m few)
    ∙ then_is (proof_rows_from (m - 1) (suc k) ls) _ p r

-- the second heading, then nodes
pub proof_nodes_step : (m k : ℕ) (ls : List Line) (r : List ℤ × List ℤ) → nodes_from 1024 0 (suc k) ls ≡ read r
    → proof_rows_from m k (full node_heading ∷ ls) ≡ read (record { table = []; nodes = r.0; members = r.1 })
unfolding proof_rows_from full
proof_nodes_step m k ls r h =
    if_true (starts_with_u node_heading) _ _ node_heading_starts
    ∙ require_true (true and same_bytes node_heading node_heading) _ k _ (and_both _ _ refl (same_bytes_refl node_heading))
    ∙ then_is (nodes_from 1024 0 (suc k) ls) _ r h

-- rows, written before the second heading and nodes, read back as they were
pub proof_rows_back : (m k n : ℕ) (t : List ℤ) (rest : List ℕ) (r : List ℤ × List ℤ)
    → 4 * n ≤ length t → n ≤ m → all_of five_digits (take (4 * n) t) ≡ true
    → ((i : ℕ) → nodes_from 1024 0 i (lines rest) ≡ read r)
    → proof_rows_from m k (lines (row_lines 4 n t ++ (heading_line node_heading ++ rest))) ≡ read (record { table = take (4 * n) t; nodes = r.0; members = r.1 })
unfolding row_lines full
proof_rows_back m k zero t rest r a b d h =
    ap (proof_rows_from m k) (lines_heading node_heading rest node_heading_lacks) ∙ proof_nodes_step m k (lines rest) r (h (suc k))
proof_rows_back m k (suc n) t rest r a b d h =
    let digits = subst (λ (l : List ℤ). all_of five_digits l ≡ true) (take_row 4 n t) d in
    let first = all_front five_digits (take 4 t) _ digits in
    let size : length (take 4 t) ≡ 4 = length-take-le 4 t (omega arith) in
    let some_first : 1 ≤ length (take 4 t) = omega arith in
    let after : List ℕ = row_lines 4 n (drop 4 t) ++ (heading_line node_heading ++ rest) in
    ap (λ (x : List ℕ). proof_rows_from m k (lines x)) (append_assoc (row_line (take 4 t)) (row_lines 4 n (drop 4 t)) (heading_line node_heading ++ rest))
    ∙ ap (proof_rows_from m k) (lines_row (take 4 t) after)
    ∙ proof_rows_step m k (full (row_bytes (take 4 t))) (lines after) (take 4 t)
    (record { table = take (4 * n) (drop 4 t); nodes = r.0; members = r.1 })
    (row_not_u (row_bytes (take 4 t)) (take 4 t) (numbers_row (take 4 t) some_first first))
    (values_row (eqb 4) k (take 4 t) some_first first (eq-eqb 4 (length (take 4 t)) (sym size)))
    (omega arith)
    (proof_rows_back (m - 1) (suc k) n (drop 4 t) rest r (omega (arith, length-drop 4 t)) (omega arith)
    (all_back five_digits (take 4 t) (take (4 * n) (drop 4 t)) digits) h)
    ∙ ap (λ (l : List ℤ). read (record { table = l; nodes = r.0; members = r.1 })) (sym (take_row 4 n t))

-- what lines are that give a proof's rows and nodes
pub record ProofRest (m : ℕ) (ls : List Line) (p : ProofText) : Type 0 where
  pub rows : ℕ
  pub node_ls : List Line
  pub count : 4 * rows ≡ length p.table
  pub few : rows ≤ m
  pub digits : all_of five_digits p.table ≡ true
  pub nodes : Nodes 1024 0 node_ls (p.nodes, p.members)
  pub text : (more : List ℤ) → text_of ls ≡ row_lines 4 rows (p.table ++ more) ++ (heading_line node_heading ++ text_of node_ls)

heading_lines : (m k : ℕ) (l : Line) (ls : List Line) (r : List ℤ × List ℤ)
    → (l.ended and same_bytes l.content node_heading) ≡ true → nodes_from 1024 0 (suc k) ls ≡ read r
    → ProofRest m (l ∷ ls) (record { table = []; nodes = r.0; members = r.1 })
unfolding row_lines all_of
heading_lines m k l ls r e h =
    record {
      rows = 0;
      node_ls = ls;
      count = omega arith;
      few = omega arith;
      digits = refl;
      nodes = nodes_are 1024 0 (suc k) ls r h;
      text = λ more. text_heading l node_heading ls (and_left _ _ e) (same_bytes_true _ _ (and_right l.ended _ e));
    }

row_lines_lem : (m : ℕ) (l : Line) (ls : List Line) (vs : List ℤ) (p : ProofText) → 1 ≤ m → Row (eqb 4) l vs → ProofRest (m - 1) ls p
    → ProofRest m (l ∷ ls) (record { table = vs ++ p.table; nodes = p.nodes; members = p.members })
row_lines_lem m l ls vs p le r i =
    let size : 4 ≡ length vs = eqb-true 4 (length vs) r.count in
    let after : List ℕ = heading_line node_heading ++ text_of i.node_ls in
    record {
      rows = suc i.rows;
      node_ls = i.node_ls;
      count = omega (arith, length-append vs p.table, i.count);
      few = omega (arith, i.few);
      digits = all_append five_digits vs p.table r.digits i.digits;
      nodes = i.nodes;
      text = λ more.
          r.text ls
          ∙ ap (λ (x : List ℕ). row_line vs ++ x) (i.text more)
          ∙ sym (append_assoc (row_line vs) (row_lines 4 i.rows (p.table ++ more)) after)
          ∙ ap (λ (x : List ℕ). x ++ after) (front_rows 4 i.rows vs (p.table ++ more) (sym size) ∙ ap (row_lines 4 (suc i.rows)) (sym (append_assoc vs p.table more)));
    }

pub proof_rows_are : (m k : ℕ) (ls : List Line) (p : ProofText) → proof_rows_from m k ls ≡ read p → ProofRest m ls p
unfolding proof_rows_from
proof_rows_are m k [] p h = absurd (stopped_not_read _ k p h)
proof_rows_are m k (l ∷ ls) p h =
    ⊎_elim
    (λ u.
    let a = require_read (l.ended and same_bytes l.content node_heading) _ k _ p (sym (if_true (starts_with_u l.content) _ _ u) ∙ h) in
    let b = then_read (nodes_from 1024 0 (suc k) ls) _ p a.1 in
    subst (ProofRest m (l ∷ ls)) (read_injective (record { table = []; nodes = b.0.0; members = b.0.1 }) p b.2)
    (heading_lines m k l ls b.0 a.0 b.1))
    (λ u.
    let a = then_read (values (eqb 4) k l) _ p (sym (if_false (starts_with_u l.content) _ _ u) ∙ h) in
    let vs = a.0 in
    let b = require_read (leb 1 m) _ k _ p a.2 in
    let c = then_read (proof_rows_from (m - 1) (suc k) ls) _ p b.1 in
    let q = c.0 in
    subst (ProofRest m (l ∷ ls)) (read_injective (record { table = vs ++ q.table; nodes = q.nodes; members = q.members }) p c.2)
    (row_lines_lem m l ls vs q (leb-true 1 m b.0) (row_values (eqb 4) k l vs a.1) (proof_rows_are (m - 1) (suc k) ls q c.1)))
    (decide (starts_with_u l.content))
