use Prim.Native.Nat.{◌+◌, ◌*◌}
use mathlib.Core.Path.{◌∙◌, ap₂}
use lib.IntN.{ℤ}
use lib.ListN.{set}
use mir.Syntax.{w32}
use mir.Facts.{to_z-of_z}
use borrow.Author.Rules.{rules}
use Rattle.find.specs.Search.{wire_of, pair_put}
use Rattle.find.proofs.put_pair.Statement.{statement}
use Rattle.find.proofs.put_pair.Tie as tie

of-requires : tie.Need-of-requires
of-requires c κs = search rules

overflow_mul-pairs : tie.Need-overflow_mul-pairs
overflow_mul-pairs c = search rules

offset_bounds-pairs-k : tie.Need-offset_bounds-pairs-k
offset_bounds-pairs-k c = search rules

bounds-pairs-k : tie.Need-bounds-pairs-k
bounds-pairs-k c = search rules

index_of-requires : tie.Need-index_of-requires
index_of-requires c κs = search rules

overflow_mul-k : tie.Need-overflow_mul-k
overflow_mul-k c = search rules

overflow_add-k : tie.Need-overflow_add-k
overflow_add-k c = search rules

offset_bounds-pairs-k-2 : tie.Need-offset_bounds-pairs-k-2
offset_bounds-pairs-k-2 c = search rules

bounds-pairs-k-2 : tie.Need-bounds-pairs-k-2
bounds-pairs-k-2 c = search rules

shape_of-pairs : tie.Need-shape_of-pairs
shape_of-pairs c = search rules

returns : tie.Need-returns
unfolding wire_of pair_put
returns c =
    let a = c.args in
    ap₂ (λ (s z : ℤ). set (set a.pairs.now (2 * a.k) s) (2 * a.k + 1) z)
    (to_z-of_z {w = w32} (record { sfits = c.of.type_inv }) ∙ c.of.ensures)
    (to_z-of_z {w = w32} (record { sfits = c.index_of.type_inv }) ∙ c.index_of.ensures)

pub put_pair_spec : {M : Type 1} → statement M
put_pair_spec =
    tie.close
    (tie.spec
    of-requires
    overflow_mul-pairs
    offset_bounds-pairs-k
    bounds-pairs-k
    index_of-requires
    overflow_mul-k
    overflow_add-k
    offset_bounds-pairs-k-2
    bounds-pairs-k-2
    shape_of-pairs
    returns)
