-- No row before r is refused, and the table holds the numbers of each.
use Rattle.std.proofs.Common.{◌≡◌}
use Rattle.stab.specs.Basic.{scan}
use Rattle.stab.specs.Formula.{formula_rows}
use Rattle.stab.specs.Finding.{no_refusal}
use Rattle.wide.specs.Convert.{wide_row_refusal}
use Rattle.widerows.specs.WideRows.{wide_table, WidePassed}
use Rattle.widerows.proofs.each.Given as goal

abbrev pub invariant-loop-r : goal.invariant-loop-r
invariant-loop-r l =
    record {
      found : scan (wide_row_refusal (formula_rows l.schema l.s l.proof)) l.r ≡ no_refusal;
      passed : WidePassed (formula_rows l.schema l.s l.proof) l.facts l.r;
      table : l.facts ≡ wide_table (formula_rows l.schema l.s l.proof) l.fn.facts l.r;
    }
