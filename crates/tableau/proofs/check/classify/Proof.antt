use native.Mathlib.Omega.{arith}
use mathlib.Core.Path.{sym, subst}
use lib.ListN.{get_or-replicate}
use borrow.Author.Rules.{rules}
use Rattle.formula.specs.Facts.{AllFormed}
use Rattle.classes.specs.Class.{AllWorked}
use Rattle.tableau.proofs.check.classify.Statement.{statement}
use Rattle.tableau.proofs.check.classify.Tie as tie

row_count-requires : tie.Need-row_count-requires
row_count-requires c κs = search rules

slice_bounds-work_out-end : tie.Need-slice_bounds-work_out-end
slice_bounds-work_out-end c = search rules

work_out-requires : tie.Need-work_out-requires
work_out-requires c κs =
    let n = c.row_count.ensures in (
      (omega (arith, c.requires.0, n), omega (arith, c.requires.0, n), omega (arith, c.requires.0, n), omega arith),
      ((λ h l. get_or-replicate 512 h 0 0 l), subst (AllFormed _) (sym n) c.requires.1),
    )

shape_of-forms : tie.Need-shape_of-forms
shape_of-forms c = search rules

shape_of-sides : tie.Need-shape_of-sides
shape_of-sides c = search rules

returns : tie.Need-returns
returns c =
    subst (AllWorked _ _) c.row_count.ensures c.work_out.ensures.1.1.1

pub classify_spec : {M : Type 1} → statement M
classify_spec =
    tie.close
    (tie.spec
    row_count-requires
    slice_bounds-work_out-end
    work_out-requires
    shape_of-forms
    shape_of-sides
    returns)
