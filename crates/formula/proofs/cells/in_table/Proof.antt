use mathlib.Core.Path.{◌∙◌}
use Prim.Native.Nat.{◌+◌, ◌*◌}
use lib.IntN.{pos}
use lib.ListN.{get_or}
use borrow.Author.Rules.{rules}
use Rattle.stab.specs.Formula.{row_at}
use Rattle.signed.proofs.Signs.{read_back}
use Rattle.formula.specs.Cells.{row_of}
use Rattle.formula.proofs.cells.in_table.Statement.{statement}
use Rattle.formula.proofs.cells.in_table.Tie as tie

overflow_mul-i : tie.Need-overflow_mul-i
overflow_mul-i c = search rules

overflow_add-i : tie.Need-overflow_add-i
overflow_add-i c = search rules

offset_bounds-t-i : tie.Need-offset_bounds-t-i
offset_bounds-t-i c = search rules

bounds-t-i : tie.Need-bounds-t-i
bounds-t-i c = search rules

overflow_add-result : tie.Need-overflow_add-result
overflow_add-result c = search rules

offset_bounds-t-i-then-i-t : tie.Need-offset_bounds-t-i-then-i-t
offset_bounds-t-i-then-i-t c = search rules

bounds-t-i-then-i-t : tie.Need-bounds-t-i-then-i-t
bounds-t-i-then-i-t c = search rules

overflow_add-result-then-i-t : tie.Need-overflow_add-result-then-i-t
overflow_add-result-then-i-t c = search rules

offset_bounds-t-i-then-i-t-2 : tie.Need-offset_bounds-t-i-then-i-t-2
offset_bounds-t-i-then-i-t-2 c = search rules

bounds-t-i-then-i-t-2 : tie.Need-bounds-t-i-then-i-t-2
bounds-t-i-then-i-t-2 c = search rules

overflow_add-result-then-i-t-2 : tie.Need-overflow_add-result-then-i-t-2
overflow_add-result-then-i-t-2 c = search rules

offset_bounds-t-i-then-i-t-3 : tie.Need-offset_bounds-t-i-then-i-t-3
offset_bounds-t-i-then-i-t-3 c = search rules

bounds-t-i-then-i-t-3 : tie.Need-bounds-t-i-then-i-t-3
bounds-t-i-then-i-t-3 c = search rules

returns-then-i-t : tie.Need-returns-then-i-t
unfolding row_of row_at
returns-then-i-t c i =
    let a = c.args in
    record {
      kind = read_back (get_or a.t.now (4 * a.p) (pos 0)) c.result-1.given i;
      a = read_back (get_or a.t.now (4 * a.p + 1) (pos 0)) c.result-then-i-t-1.given i;
      b = read_back (get_or a.t.now (4 * a.p + 2) (pos 0)) c.result-then-i-t-2-1.given i;
      c = read_back (get_or a.t.now (4 * a.p + 3) (pos 0)) c.result-then-i-t-3-1.given i;
    }

at-requires : tie.Need-at-requires
at-requires c κs = search rules

overflow_add-i-2 : tie.Need-overflow_add-i-2
overflow_add-i-2 c = search rules

at-requires-2 : tie.Need-at-requires-2
at-requires-2 c κs = search rules

overflow_add-i-3 : tie.Need-overflow_add-i-3
overflow_add-i-3 c = search rules

at-requires-3 : tie.Need-at-requires-3
at-requires-3 c κs = search rules

overflow_add-i-4 : tie.Need-overflow_add-i-4
overflow_add-i-4 c = search rules

at-requires-4 : tie.Need-at-requires-4
at-requires-4 c κs = search rules

returns : tie.Need-returns
unfolding row_of row_at
returns c i =
    let k = c.at in
    let a = c.at-2 in
    let b = c.at-3 in
    record {
      kind = (read_back k.result k.type_inv ∙ k.ensures) i;
      a = (read_back a.result a.type_inv ∙ a.ensures) i;
      b = (read_back b.result b.type_inv ∙ b.ensures) i;
      c = (read_back c.at-4.result c.at-4.type_inv ∙ c.at-4.ensures) i;
    }

pub in_table_spec : {M : Type 1} → statement M
in_table_spec =
    tie.close
    (tie.spec
    overflow_mul-i
    overflow_add-i
    offset_bounds-t-i
    bounds-t-i
    overflow_add-result
    offset_bounds-t-i-then-i-t
    bounds-t-i-then-i-t
    overflow_add-result-then-i-t
    offset_bounds-t-i-then-i-t-2
    bounds-t-i-then-i-t-2
    overflow_add-result-then-i-t-2
    offset_bounds-t-i-then-i-t-3
    bounds-t-i-then-i-t-3
    returns-then-i-t
    at-requires
    overflow_add-i-2
    at-requires-2
    overflow_add-i-3
    at-requires-3
    overflow_add-i-4
    at-requires-4
    returns)
