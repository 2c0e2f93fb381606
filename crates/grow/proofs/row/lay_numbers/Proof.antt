use borrow.Author.Rules.{rules}
use Prim.Native.Nat.{◌+◌, ◌-◌}
use native.Mathlib.Omega.{arith}
use mathlib.Core.Path.{◌∙◌, ap}
use lib.ListN.{length, take}
use Rattle.grow.proofs.Lists.{kept_front}
use Rattle.grow.proofs.row.lay_numbers.Statement.{statement}
use Rattle.grow.proofs.row.lay_numbers.Tie as tie

overflow_add-at : tie.Need-overflow_add-at
overflow_add-at c = search rules

offset_bounds-table-at : tie.Need-offset_bounds-table-at
offset_bounds-table-at c = search rules

slice_bounds-copy-count : tie.Need-slice_bounds-copy-count
slice_bounds-copy-count c = search rules

slice_bounds-copy-start : tie.Need-slice_bounds-copy-start
slice_bounds-copy-start c = search rules

slice_bounds-copy-end : tie.Need-slice_bounds-copy-end
slice_bounds-copy-end c = search rules

copy-requires : tie.Need-copy-requires
copy-requires c κs = search rules

copy-requires-2 : tie.Need-copy-requires-2
copy-requires-2 c κs = search rules

shape_of-table : tie.Need-shape_of-table
shape_of-table c = search rules

shape_of-saved : tie.Need-shape_of-saved
shape_of-saved c = search rules

returns : tie.Need-returns
returns c =
    let n = length c.args.numbers.now in (
      c.copy-2.ensures,
      ap (take n) c.copy.ensures ∙ kept_front c.args.saved.now c.args.table.now c.args.at n (c.args.at + n - c.args.at) (omega arith) c.requires.0 c.requires.1,
    )

pub lay_numbers_spec : {M : Type 1} → statement M
lay_numbers_spec =
    tie.close
    (tie.spec
    overflow_add-at
    offset_bounds-table-at
    slice_bounds-copy-count
    slice_bounds-copy-start
    slice_bounds-copy-end
    copy-requires
    copy-requires-2
    shape_of-table
    shape_of-saved
    returns)
