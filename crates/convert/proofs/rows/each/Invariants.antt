use Rattle.std.proofs.Common.{◌≡◌}
use Rattle.stab.specs.Formula.{row_at}
use Rattle.wide.specs.Plain.{start_of, plain_rows}
use Rattle.convert.specs.Emission.{written, Imaged}
use Rattle.convert.proofs.rows.each.Given as goal

abbrev pub invariant-loop-r : goal.invariant-loop-r
invariant-loop-r l =
    let rows = row_at l.wide in
    record {
      start : l.s ≡ start_of rows l.r;
      imaged : Imaged rows l.images l.r;
      plain_so_far : l.plain ≡ written l.initial.plain 0 (plain_rows rows l.r);
    }
