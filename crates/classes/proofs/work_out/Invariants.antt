use Rattle.std.proofs.Common.{◌≡◌}
use Rattle.stab.specs.Formula.{formula_rows}
use Rattle.classes.specs.Key.{Done, forms_after, sides_after, heads_after}
use Rattle.classes.proofs.work_out.Given as goal

abbrev pub invariant-loop-r : goal.invariant-loop-r
invariant-loop-r l =
    let rows = formula_rows l.schema l.s l.proof in
    record {
      done : Done rows l.forms l.sides l.heads l.r;
      forms_so_far : l.forms ≡ forms_after rows l.initial.forms l.r;
      sides_so_far : l.sides ≡ sides_after rows l.initial.sides l.r;
      heads_so_far : l.heads ≡ heads_after rows l.initial.heads l.r;
    }
