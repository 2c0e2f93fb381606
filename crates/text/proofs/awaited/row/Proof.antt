use mathlib.Core.Path.{sym, ◌∙◌, ap}
use lib.Dec.{eqb}
use borrow.Author.Tests.{eq-eqb, ne_eqb}
use Rattle.stab.proofs.Bools.{if_true, if_false}
use Rattle.text.specs.OneLine.{row_by}
use borrow.Author.Rules.{rules}
use Rattle.text.proofs.awaited.row.Statement.{statement}
use Rattle.text.proofs.awaited.row.Tie as tie

overflow_mul-w : tie.Need-overflow_mul-w
overflow_mul-w c = search rules

row_at-requires : tie.Need-row_at-requires
row_at-requires c κs = search rules

enum_told-1 : tie.Need-enum_told-1
enum_told-1 c = search rules

enum_known-next : tie.Need-enum_known-next
enum_known-next c = search rules

shape_of-table-then-n-most : tie.Need-shape_of-table-then-n-most
shape_of-table-then-n-most c = search rules

returns-then-n-most : tie.Need-returns-then-n-most
unfolding row_by
returns-then-n-most c =
    let a = c.args in (
      sym (if_true (eqb a.n a.most) _ _ (eq-eqb a.n a.most c.if-n-most.true)) ∙ ap (row_by a.at a.n a.most a.line a.after) (sym c.in-At.is ∙ c.row_at.ensures.0),
      c.row_at.ensures.1,
    )

shape_of-table-in-Nothing : tie.Need-shape_of-table-in-Nothing
shape_of-table-in-Nothing c = search rules

returns-in-Nothing : tie.Need-returns-in-Nothing
unfolding row_by
returns-in-Nothing c =
    let a = c.args in
    (ap (row_by a.at a.n a.most a.line a.after) (sym c.in-Nothing.is ∙ c.row_at.ensures.0), c.row_at.ensures.1)

shape_of-table-else-n-most : tie.Need-shape_of-table-else-n-most
shape_of-table-else-n-most c = search rules

returns-else-n-most : tie.Need-returns-else-n-most
unfolding row_by
returns-else-n-most c =
    let a = c.args in (
      sym (if_false (eqb a.n a.most) _ _ (ne_eqb a.n a.most c.if-n-most.false)) ∙ ap (row_by a.at a.n a.most a.line a.after) (sym c.in-At.is ∙ c.row_at.ensures.0),
      c.row_at.ensures.1,
    )

pub row_spec : {M : Type 1} → statement M
row_spec =
    tie.close
    (tie.spec
    overflow_mul-w
    row_at-requires
    enum_told-1
    enum_known-next
    shape_of-table-then-n-most
    returns-then-n-most
    shape_of-table-in-Nothing
    returns-in-Nothing
    shape_of-table-else-n-most
    returns-else-n-most)
