-- The output is all 0, and each line goes into what the lines before it have left.
use Prim.Native.Nat.{ℕ, ◌≤◌}
use native.Mathlib.Omega.{arith}
use mathlib.Core.Path.{◌≡◌, ◌∙◌, ap}
use mathlib.Core.List.{List, ◌++◌}
use borrow.Author.Rules.{rules}
use lib.ListN.{length, length-append, length-replicate}
use Rattle.stab.specs.Text.{bytes, row_line, heading_line}
use Rattle.digits.specs.Over.{over}
use Rattle.digits.proofs.Overs.{Room, lent_start, lent_room, lent_over, lent_count, count_fits}
use Rattle.printing.specs.Printing.{printed_row}
use Rattle.printing.proofs.Prints.{over_zeros}
use Rattle.printing.proofs.put.Statement.{statement}
use Rattle.printing.proofs.put.Tie as tie

abbrev Heading : List ℕ
Heading = heading_line (bytes "answer place nodes links")

abbrev Row : tie.Start → List ℕ
Row s = row_line s.args.row.now

clear-requires : tie.Need-clear-requires
clear-requires c κs = search rules

-- both lines fit into the cleared output
abbrev Z : tie.After-clear → List ℕ
Z c = c.clear.new.out

cleared : (c : tie.After-clear) → length (Z c) ≡ length c.args.out.now
cleared c = ap length c.clear.ensures ∙ length-replicate _ 0

fits : (c : tie.After-clear) → length (Heading ++ Row c.before.before.before) ≤ length (Z c)
unfolding printed_row
fits c = omega (arith, cleared c, c.requires.2)

put_heading-at-requires : tie.Need-put_heading-at-requires
unfolding bytes
put_heading-at-requires c κs =
    omega (arith, fits c.before.before.before.before.before, length-append Heading (Row c.before.before.before.before.before.before.before.before))

-- after the heading
room : (c : tie.After-slice_known-3-1) →
    Room Heading (Row c.before.before.before.before.before.before.before.before.before.before.before) (Z c.before.before.before.before.before.before.before.before) c.put_heading-at.new.out c.put_heading-at.result
unfolding bytes
room c =
    record { is = c.put_heading-at.ensures.1; ends = c.put_heading-at.ensures.0; fits = fits c.before.before.before.before.before.before.before.before }

slice_bounds-put_row-count : tie.Need-slice_bounds-put_row-count
slice_bounds-put_row-count c = lent_start (room c)

slice_bounds-put_row-start : tie.Need-slice_bounds-put_row-start
slice_bounds-put_row-start c = lent_start (room c)

slice_bounds-put_row-end : tie.Need-slice_bounds-put_row-end
slice_bounds-put_row-end c = search rules

put_row-requires : tie.Need-put_row-requires
put_row-requires c κs =
    let p = c.requires in
    (p.0, p.1, lent_room (room c.before))

overflow_add-result : tie.Need-overflow_add-result
overflow_add-result c =
    count_fits (room c.before.before.before.before) c.put_row.ensures.0 (omega (arith, cleared c.before.before.before.before.before.before.before.before.before.before.before.before, c.well_formed.1.0.0))

shape_of-out : tie.Need-shape_of-out
shape_of-out c = search rules

returns : tie.Need-returns
unfolding printed_row
returns c = (
  lent_count (room c.before.before.before.before) c.put_row.ensures.0,
  lent_over (room c.before.before.before.before) c.put_row.ensures.1
      ∙ ap (over (Heading ++ Row c.before.before.before.before.before.before.before.before.before.before.before.before.before.before.before)) c.clear.ensures
      ∙ over_zeros (Heading ++ Row c.before.before.before.before.before.before.before.before.before.before.before.before.before.before.before) (length c.args.out.now),
)

pub put_spec : {M : Type 1} → statement M
put_spec =
    tie.close
    (tie.spec
    clear-requires
    put_heading-at-requires
    slice_bounds-put_row-count
    slice_bounds-put_row-start
    slice_bounds-put_row-end
    put_row-requires
    overflow_add-result
    shape_of-out
    returns)
