-- Each part goes into what the parts before it have left.
use Prim.Native.Nat.{ℕ, ◌+◌, ◌-◌, ◌≤◌}
use native.Mathlib.Omega.{arith}
use mathlib.Core.Path.{◌≡◌, refl, sym, ◌∙◌, ap}
use mathlib.Core.List.{List, ◌++◌}
use borrow.Author.Rules.{rules}
use borrow.Rule.Slice.PartMut.{put_mid}
use lib.ListN.{length, length-append}
use Rattle.stab.specs.Text.{bytes, row_heading, node_heading, heading_line}
use Rattle.stab.specs.Write.{row_lines, node_lines, proof_text}
use Rattle.digits.specs.Over.{over}
use Rattle.digits.proofs.Overs.{Room, lent_start, lent_room, lent_over, lent_length, lent_count, count_fits}
use Rattle.output.proofs.put_proof.Statement.{statement}
use Rattle.output.proofs.put_proof.Tie as tie

-- the four parts, and the output as it was
abbrev A : List ℕ
A = heading_line row_heading

abbrev B : tie.Start → List ℕ
B s = row_lines 4 s.args.rows s.args.t.now

abbrev C : List ℕ
C = heading_line node_heading

abbrev D : tie.Start → List ℕ
D s = node_lines s.args.nodes.now s.args.members.now 0 s.args.count

abbrev L : tie.Start → List ℕ
L s = s.args.out.now

text : (s : tie.Start) → proof_text s.args.t.now s.args.rows s.args.nodes.now s.args.count s.args.members.now ≡ A ++ B s ++ C ++ D s
unfolding proof_text
text s = refl

fits : (s : tie.Start) → length (A ++ B s ++ C ++ D s) ≤ length (L s)
fits s = omega (arith, ap length (text s), s.requires.2)

fits₃ : (s : tie.Start) → length (A ++ B s ++ C) ≤ length (L s)
fits₃ s = omega (arith, fits s, length-append (A ++ B s ++ C) (D s))

fits₂ : (s : tie.Start) → length (A ++ B s) ≤ length (L s)
fits₂ s = omega (arith, fits₃ s, length-append (A ++ B s) C)

fits₁ : (s : tie.Start) → length A ≤ length (L s)
fits₁ s = omega (arith, fits₂ s, length-append A (B s))

put_heading-at-requires : tie.Need-put_heading-at-requires
unfolding bytes row_heading
put_heading-at-requires c κs = fits₁ c.before.before.before.before

-- after the first heading
abbrev S₁ : tie.After-slice_known-2-1 → tie.Start
S₁ c = c.before.before.before.before.before.before.before

room₁ : (c : tie.After-slice_known-2-1) → Room A (B (S₁ c)) (L (S₁ c)) c.put_heading-at.new.out c.put_heading-at.result
unfolding bytes row_heading
room₁ c = record { is = c.put_heading-at.ensures.1; ends = c.put_heading-at.ensures.0; fits = fits₂ (S₁ c) }

slice_bounds-put_rows-count : tie.Need-slice_bounds-put_rows-count
slice_bounds-put_rows-count c = lent_start (room₁ c)

slice_bounds-put_rows-start : tie.Need-slice_bounds-put_rows-start
slice_bounds-put_rows-start c = lent_start (room₁ c)

slice_bounds-put_rows-end : tie.Need-slice_bounds-put_rows-end
slice_bounds-put_rows-end c = search rules

put_rows-at-requires : tie.Need-put_rows-at-requires
put_rows-at-requires c κs = ((S₁ c.before).requires.0, lent_room (room₁ c.before))

-- after the formula rows
abbrev P₂ : tie.After-slice_known-3-1 → tie.After-slice_known-2-1
P₂ c = c.before.before.before.before

abbrev S₂ : tie.After-slice_known-3-1 → tie.Start
S₂ c = S₁ (P₂ c)

abbrev at₂ : tie.After-slice_known-3-1 → ℕ
at₂ c = (P₂ c).put_heading-at.result + c.put_rows-at.result

abbrev out₂ : tie.After-slice_known-3-1 → List ℕ
out₂ c =
    let h = (P₂ c).put_heading-at in
    put_mid h.result (length h.new.out - h.result) h.new.out c.put_rows-at.new.out

room₂ : (c : tie.After-slice_known-3-1) → Room (A ++ B (S₂ c)) C (L (S₂ c)) (out₂ c) (at₂ c)
room₂ c =
    record {
      is = lent_over (room₁ (P₂ c)) c.put_rows-at.ensures.1;
      ends = lent_count (room₁ (P₂ c)) c.put_rows-at.ensures.0;
      fits = fits₃ (S₂ c);
    }

overflow_add-at : tie.Need-overflow_add-at
overflow_add-at c = count_fits (room₁ (P₂ c)) c.put_rows-at.ensures.0 (S₂ c).well_formed.0.0

slice_bounds-put_heading-count : tie.Need-slice_bounds-put_heading-count
slice_bounds-put_heading-count c = lent_start (room₂ c)

slice_bounds-put_heading-start : tie.Need-slice_bounds-put_heading-start
slice_bounds-put_heading-start c = lent_start (room₂ c)

slice_bounds-put_heading-end-2 : tie.Need-slice_bounds-put_heading-end-2
slice_bounds-put_heading-end-2 c = search rules

put_heading-at-requires-2 : tie.Need-put_heading-at-requires-2
unfolding bytes node_heading
put_heading-at-requires-2 c κs = lent_room (room₂ c.before.before.before)

-- after the second heading
abbrev P₃ : tie.After-slice_known-4-1 → tie.After-slice_known-3-1
P₃ c = c.before.before.before.before.before.before

abbrev S₃ : tie.After-slice_known-4-1 → tie.Start
S₃ c = S₂ (P₃ c)

abbrev at₃ : tie.After-slice_known-4-1 → ℕ
at₃ c = at₂ (P₃ c) + c.put_heading-at-2.result

abbrev out₃ : tie.After-slice_known-4-1 → List ℕ
out₃ c = put_mid (at₂ (P₃ c)) (length (out₂ (P₃ c)) - at₂ (P₃ c)) (out₂ (P₃ c)) c.put_heading-at-2.new.out

room₃ : (c : tie.After-slice_known-4-1) → Room (A ++ B (S₃ c) ++ C) (D (S₃ c)) (L (S₃ c)) (out₃ c) (at₃ c)
unfolding bytes node_heading
room₃ c =
    record {
      is = lent_over (room₂ (P₃ c)) c.put_heading-at-2.ensures.1;
      ends = lent_count (room₂ (P₃ c)) c.put_heading-at-2.ensures.0;
      fits = fits (S₃ c);
    }

overflow_add-at-2 : tie.Need-overflow_add-at-2
unfolding bytes node_heading
overflow_add-at-2 c = count_fits (room₂ (P₃ c)) c.put_heading-at-2.ensures.0 (S₃ c).well_formed.0.0

slice_bounds-put_nodes-count : tie.Need-slice_bounds-put_nodes-count
slice_bounds-put_nodes-count c = lent_start (room₃ c)

slice_bounds-put_nodes-start : tie.Need-slice_bounds-put_nodes-start
slice_bounds-put_nodes-start c = lent_start (room₃ c)

slice_bounds-put_nodes-end : tie.Need-slice_bounds-put_nodes-end
slice_bounds-put_nodes-end c = search rules

put_nodes-requires : tie.Need-put_nodes-requires
put_nodes-requires c κs = ((S₃ c.before).requires.1, lent_room (room₃ c.before))

-- after the node rows
abbrev P₄ : tie.After-slice_known-5-1 → tie.After-slice_known-4-1
P₄ c = c.before.before.before.before

overflow_add-result : tie.Need-overflow_add-result
overflow_add-result c = count_fits (room₃ (P₄ c)) c.put_nodes.ensures.0 (S₃ (P₄ c)).well_formed.0.0

shape_of-out : tie.Need-shape_of-out
shape_of-out c = lent_length (room₃ (P₄ c)) c.put_nodes.ensures.1

returns : tie.Need-returns
returns c =
    let s = S₃ (P₄ c) in (
      lent_count (room₃ (P₄ c)) c.put_nodes.ensures.0 ∙ ap length (sym (text s)),
      lent_over (room₃ (P₄ c)) c.put_nodes.ensures.1 ∙ ap (λ (x : List ℕ). over x (L s)) (sym (text s)),
    )

pub put_proof_spec : {M : Type 1} → statement M
put_proof_spec =
    tie.close
    (tie.spec
    put_heading-at-requires
    slice_bounds-put_rows-count
    slice_bounds-put_rows-start
    slice_bounds-put_rows-end
    put_rows-at-requires
    overflow_add-at
    slice_bounds-put_heading-count
    slice_bounds-put_heading-start
    slice_bounds-put_heading-end-2
    put_heading-at-requires-2
    overflow_add-at-2
    slice_bounds-put_nodes-count
    slice_bounds-put_nodes-start
    slice_bounds-put_nodes-end
    put_nodes-requires
    overflow_add-result
    shape_of-out
    returns)
