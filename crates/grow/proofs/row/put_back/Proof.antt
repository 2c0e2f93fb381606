use borrow.Author.Rules.{rules}
use native.Mathlib.Omega.{arith}
use mathlib.Core.Path.{◌≡◌, sym}
use lib.ListN.{length, take}
use lib.Seq.{length-take-le}
use Rattle.grow.proofs.row.put_back.Statement.{statement}
use Rattle.grow.proofs.row.put_back.Tie as tie

nine : (b : tie.Start) → length (take 9 b.args.saved_node.now) ≡ 9
nine b = length-take-le 9 b.args.saved_node.now b.requires.3

set_size : (b : tie.Start) → length (take b.args.size b.args.saved_set.now) ≡ b.args.size
set_size b = length-take-le b.args.size b.args.saved_set.now b.requires.4

overflow_mul-n : tie.Need-overflow_mul-n
overflow_mul-n c = search rules

slice_bounds-copy-end : tie.Need-slice_bounds-copy-end
slice_bounds-copy-end c = sym (nine c.before)

copy-requires : tie.Need-copy-requires
copy-requires c κs = omega (arith, nine c.before, c.requires.1)

slice_bounds-copy-end-2 : tie.Need-slice_bounds-copy-end-2
slice_bounds-copy-end-2 c = sym (set_size c.before.before.before.before)

copy-requires-2 : tie.Need-copy-requires-2
copy-requires-2 c κs = omega (arith, set_size c.before.before.before.before, c.requires.2)

shape_of-nodes : tie.Need-shape_of-nodes
shape_of-nodes c = search rules

shape_of-members : tie.Need-shape_of-members
shape_of-members c = search rules

returns : tie.Need-returns
returns c = search rules

pub put_back_spec : {M : Type 1} → statement M
put_back_spec =
    tie.close
    (tie.spec
    overflow_mul-n
    slice_bounds-copy-end
    copy-requires
    slice_bounds-copy-end-2
    copy-requires-2
    shape_of-nodes
    shape_of-members
    returns)
