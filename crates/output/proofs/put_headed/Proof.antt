-- Each part goes into what the parts before it have left.
use Prim.Native.Nat.{ℕ, ◌+◌, ◌-◌, ◌≤◌}
use native.Mathlib.Omega.{arith}
use mathlib.Core.Path.{◌≡◌, sym, ◌∙◌, ap}
use mathlib.Core.List.{List, ◌++◌}
use borrow.Author.Rules.{rules}
use borrow.Rule.Slice.PartMut.{put_mid}
use lib.ListN.{length, length-append}
use Rattle.stab.specs.Text.{row_line, heading_line}
use Rattle.stab.specs.Write.{row_lines}
use Rattle.digits.specs.Over.{over}
use Rattle.output.specs.Headed.{headed_text}
use Rattle.digits.proofs.Overs.{Room, lent_start, lent_room, lent_over, lent_length, lent_count, count_fits}
use Rattle.output.proofs.HeadedTexts.{headed_parts}
use Rattle.output.proofs.put_headed.Statement.{statement}
use Rattle.output.proofs.put_headed.Tie as tie

-- the four parts, and the output as it was
abbrev A : tie.Start → List ℕ
A s = heading_line s.args.first.now

abbrev B : tie.Start → List ℕ
B s = row_line s.args.line.now

abbrev C : tie.Start → List ℕ
C s = heading_line s.args.second.now

abbrev D : tie.Start → List ℕ
D s = row_lines s.args.w s.args.rows s.args.t.now

abbrev L : tie.Start → List ℕ
L s = s.args.out.now

text : (s : tie.Start) → headed_text s.args.first.now s.args.line.now s.args.second.now s.args.w s.args.t.now s.args.rows ≡ A s ++ B s ++ C s ++ D s
text s = headed_parts _ _ _ _ _ _

fits : (s : tie.Start) → length (A s ++ B s ++ C s ++ D s) ≤ length (L s)
fits s = omega (arith, ap length (text s), s.requires.2)

fits₃ : (s : tie.Start) → length (A s ++ B s ++ C s) ≤ length (L s)
fits₃ s = omega (arith, fits s, length-append (A s ++ B s ++ C s) (D s))

fits₂ : (s : tie.Start) → length (A s ++ B s) ≤ length (L s)
fits₂ s = omega (arith, fits₃ s, length-append (A s ++ B s) (C s))

put_heading-at-requires : tie.Need-put_heading-at-requires
put_heading-at-requires c κs =
    omega (arith, fits₂ c.before.before.before.before, length-append (A c.before.before.before.before) (B c.before.before.before.before))

-- after the first heading
abbrev S₁ : tie.After-slice_known-2-1 → tie.Start
S₁ c = c.before.before.before.before.before.before.before

room₁ : (c : tie.After-slice_known-2-1) → Room (A (S₁ c)) (B (S₁ c)) (L (S₁ c)) c.put_heading-at.new.out c.put_heading-at.result
room₁ c = record { is = c.put_heading-at.ensures.1; ends = c.put_heading-at.ensures.0; fits = fits₂ (S₁ c) }

slice_bounds-put_row-count : tie.Need-slice_bounds-put_row-count
slice_bounds-put_row-count c = lent_start (room₁ c)

slice_bounds-put_row-start : tie.Need-slice_bounds-put_row-start
slice_bounds-put_row-start c = lent_start (room₁ c)

slice_bounds-put_row-end : tie.Need-slice_bounds-put_row-end
slice_bounds-put_row-end c = search rules

put_row-at-requires : tie.Need-put_row-at-requires
put_row-at-requires c κs = ((S₁ c.before).requires.0.some, (S₁ c.before).requires.0.digits, lent_room (room₁ c.before))

-- after the line
abbrev S₂ : tie.After-slice_known-3-1 → tie.Start
S₂ c = S₁ c.before.before.before.before

abbrev at₂ : tie.After-slice_known-3-1 → ℕ
at₂ c = c.put_heading-at.result + c.put_row-at.result

abbrev out₂ : tie.After-slice_known-3-1 → List ℕ
out₂ c =
    let h = c.put_heading-at in
    put_mid h.result (length h.new.out - h.result) h.new.out c.put_row-at.new.out

room₂ : (c : tie.After-slice_known-3-1) → Room (A (S₂ c) ++ B (S₂ c)) (C (S₂ c)) (L (S₂ c)) (out₂ c) (at₂ c)
room₂ c =
    let r = room₁ c.before.before.before.before in
    record { is = lent_over r c.put_row-at.ensures.1; ends = lent_count r c.put_row-at.ensures.0; fits = fits₃ (S₂ c) }

overflow_add-at : tie.Need-overflow_add-at
overflow_add-at c = count_fits (room₁ c.before.before.before.before) c.put_row-at.ensures.0 (S₂ c).well_formed.0.0

slice_bounds-put_heading-count : tie.Need-slice_bounds-put_heading-count
slice_bounds-put_heading-count c = lent_start (room₂ c)

slice_bounds-put_heading-start : tie.Need-slice_bounds-put_heading-start
slice_bounds-put_heading-start c = lent_start (room₂ c)

slice_bounds-put_heading-end : tie.Need-slice_bounds-put_heading-end
slice_bounds-put_heading-end c = search rules

put_heading-at-requires-2 : tie.Need-put_heading-at-requires-2
put_heading-at-requires-2 c κs = lent_room (room₂ c.before)

-- after the second heading
abbrev S₃ : tie.After-slice_known-4-1 → tie.Start
S₃ c = S₂ c.before.before.before.before

abbrev at₃ : tie.After-slice_known-4-1 → ℕ
at₃ c = at₂ c.before.before.before.before + c.put_heading-at-2.result

abbrev out₃ : tie.After-slice_known-4-1 → List ℕ
out₃ c =
    put_mid (at₂ c.before.before.before.before) (length (out₂ c.before.before.before.before) - at₂ c.before.before.before.before) (out₂ c.before.before.before.before) c.put_heading-at-2.new.out

room₃ : (c : tie.After-slice_known-4-1) → Room (A (S₃ c) ++ B (S₃ c) ++ C (S₃ c)) (D (S₃ c)) (L (S₃ c)) (out₃ c) (at₃ c)
room₃ c =
    let r = room₂ c.before.before.before.before in
    record { is = lent_over r c.put_heading-at-2.ensures.1; ends = lent_count r c.put_heading-at-2.ensures.0; fits = fits (S₃ c) }

overflow_add-at-2 : tie.Need-overflow_add-at-2
overflow_add-at-2 c = count_fits (room₂ c.before.before.before.before) c.put_heading-at-2.ensures.0 (S₃ c).well_formed.0.0

slice_bounds-put_rows-count : tie.Need-slice_bounds-put_rows-count
slice_bounds-put_rows-count c = lent_start (room₃ c)

slice_bounds-put_rows-start : tie.Need-slice_bounds-put_rows-start
slice_bounds-put_rows-start c = lent_start (room₃ c)

slice_bounds-put_rows-end : tie.Need-slice_bounds-put_rows-end
slice_bounds-put_rows-end c = search rules

put_rows-requires : tie.Need-put_rows-requires
put_rows-requires c κs = ((S₃ c.before).requires.1, lent_room (room₃ c.before))

overflow_add-result : tie.Need-overflow_add-result
overflow_add-result c = count_fits (room₃ c.before.before.before.before) c.put_rows.ensures.0 (S₃ c.before.before.before.before).well_formed.0.0

shape_of-out : tie.Need-shape_of-out
shape_of-out c = lent_length (room₃ c.before.before.before.before) c.put_rows.ensures.1

returns : tie.Need-returns
returns c = (
  lent_count (room₃ c.before.before.before.before) c.put_rows.ensures.0 ∙ ap length (sym (text (S₃ c.before.before.before.before))),
  lent_over (room₃ c.before.before.before.before) c.put_rows.ensures.1 ∙ ap (λ (x : List ℕ). over x (L (S₃ c.before.before.before.before))) (sym (text (S₃ c.before.before.before.before))),
)

pub put_headed_spec : {M : Type 1} → statement M
put_headed_spec =
    tie.close
    (tie.spec
    put_heading-at-requires
    slice_bounds-put_row-count
    slice_bounds-put_row-start
    slice_bounds-put_row-end
    put_row-at-requires
    overflow_add-at
    slice_bounds-put_heading-count
    slice_bounds-put_heading-start
    slice_bounds-put_heading-end
    put_heading-at-requires-2
    overflow_add-at-2
    slice_bounds-put_rows-count
    slice_bounds-put_rows-start
    slice_bounds-put_rows-end
    put_rows-requires
    overflow_add-result
    shape_of-out
    returns)
