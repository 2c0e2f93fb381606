-- Each part goes into what the parts before it have left.
use Prim.Native.Nat.{ℕ, ◌+◌, ◌-◌, ◌≤◌}
use native.Mathlib.Omega.{arith}
use mathlib.Core.Path.{◌≡◌, sym, ◌∙◌, ap}
use mathlib.Core.List.{List, ◌++◌}
use borrow.Author.Rules.{rules}
use borrow.Rule.Slice.PartMut.{put_mid}
use lib.IntN.{pos}
use lib.ListN.{length, length-append}
use Rattle.stab.specs.Text.{bytes, decimal, heading_line}
use Rattle.digits.specs.Over.{over}
use Rattle.digits.proofs.Overs.{Room, lent_start, lent_room, lent_over, lent_count, count_fits}
use Rattle.shown.specs.Told.{told}
use Rattle.shown.proofs.Tellings.{told_parts}
use Rattle.shown.proofs.put_told.Statement.{statement}
use Rattle.shown.proofs.put_told.Tie as tie

-- the three parts, and the output as it was
abbrev A : tie.Start → List ℕ
A s = s.args.name.now ++ bytes ":"

abbrev B : tie.Start → List ℕ
B s = decimal (pos s.args.k) ++ bytes ": "

abbrev C : tie.Start → List ℕ
C s = heading_line s.args.line.now

abbrev L : tie.Start → List ℕ
L s = s.args.out.now

text : (s : tie.Start) → told s.args.name.now s.args.k s.args.line.now ≡ A s ++ B s ++ C s
text s = told_parts _ _ _

fits : (s : tie.Start) → length (A s ++ B s ++ C s) ≤ length (L s)
fits s = omega (arith, ap length (text s), s.requires.1)

fits₂ : (s : tie.Start) → length (A s ++ B s) ≤ length (L s)
fits₂ s = omega (arith, fits s, length-append (A s ++ B s) (C s))

put_name-at-requires : tie.Need-put_name-at-requires
put_name-at-requires c κs =
    omega (arith, fits₂ c.before.before.before.before, length-append (A c.before.before.before.before) (B c.before.before.before.before))

-- after the name
abbrev S₁ : tie.After-slice_known-2-1 → tie.Start
S₁ c = c.before.before.before.before.before.before.before

room₁ : (c : tie.After-slice_known-2-1) → Room (A (S₁ c)) (B (S₁ c)) (L (S₁ c)) c.put_name-at.new.out c.put_name-at.result
room₁ c = record { is = c.put_name-at.ensures.1; ends = c.put_name-at.ensures.0; fits = fits₂ (S₁ c) }

slice_bounds-put_place-count : tie.Need-slice_bounds-put_place-count
slice_bounds-put_place-count c = lent_start (room₁ c)

slice_bounds-put_place-start : tie.Need-slice_bounds-put_place-start
slice_bounds-put_place-start c = lent_start (room₁ c)

slice_bounds-put_place-end : tie.Need-slice_bounds-put_place-end
slice_bounds-put_place-end c = search rules

put_place-at-requires : tie.Need-put_place-at-requires
put_place-at-requires c κs = ((S₁ c.before).requires.0, lent_room (room₁ c.before))

-- after the number
abbrev S₂ : tie.After-slice_known-3-1 → tie.Start
S₂ c = S₁ c.before.before.before.before

abbrev at₂ : tie.After-slice_known-3-1 → ℕ
at₂ c = c.put_name-at.result + c.put_place-at.result

abbrev out₂ : tie.After-slice_known-3-1 → List ℕ
out₂ c =
    let h = c.put_name-at in
    put_mid h.result (length h.new.out - h.result) h.new.out c.put_place-at.new.out

room₂ : (c : tie.After-slice_known-3-1) → Room (A (S₂ c) ++ B (S₂ c)) (C (S₂ c)) (L (S₂ c)) (out₂ c) (at₂ c)
room₂ c =
    let r = room₁ c.before.before.before.before in
    record { is = lent_over r c.put_place-at.ensures.1; ends = lent_count r c.put_place-at.ensures.0; fits = fits (S₂ c) }

overflow_add-at : tie.Need-overflow_add-at
overflow_add-at c = count_fits (room₁ c.before.before.before.before) c.put_place-at.ensures.0 (S₂ c).well_formed.0.0

slice_bounds-put_heading-count : tie.Need-slice_bounds-put_heading-count
slice_bounds-put_heading-count c = lent_start (room₂ c)

slice_bounds-put_heading-start : tie.Need-slice_bounds-put_heading-start
slice_bounds-put_heading-start c = lent_start (room₂ c)

slice_bounds-put_heading-end : tie.Need-slice_bounds-put_heading-end
slice_bounds-put_heading-end c = search rules

put_heading-requires : tie.Need-put_heading-requires
put_heading-requires c κs = lent_room (room₂ c.before)

overflow_add-result : tie.Need-overflow_add-result
overflow_add-result c =
    count_fits (room₂ c.before.before.before.before) c.put_heading.ensures.0 (S₂ c.before.before.before.before).well_formed.0.0

shape_of-out : tie.Need-shape_of-out
shape_of-out c = search rules

returns : tie.Need-returns
returns c = (
  lent_count (room₂ c.before.before.before.before) c.put_heading.ensures.0 ∙ ap length (sym (text (S₂ c.before.before.before.before))),
  lent_over (room₂ c.before.before.before.before) c.put_heading.ensures.1 ∙ ap (λ (x : List ℕ). over x (L (S₂ c.before.before.before.before))) (sym (text (S₂ c.before.before.before.before))),
)

pub put_told_spec : {M : Type 1} → statement M
put_told_spec =
    tie.close
    (tie.spec
    put_name-at-requires
    slice_bounds-put_place-count
    slice_bounds-put_place-start
    slice_bounds-put_place-end
    put_place-at-requires
    overflow_add-at
    slice_bounds-put_heading-count
    slice_bounds-put_heading-start
    slice_bounds-put_heading-end
    put_heading-requires
    overflow_add-result
    shape_of-out
    returns)
