-- The numbers up to place k are read, and the line goes on at i.
use Rattle.text.specs.Rows.{RowOpen}
use Rattle.text.proofs.rows.numbers.Given as goal

abbrev pub invariant-loop-k : goal.invariant-loop-k
invariant-loop-k l = RowOpen l.text l.at l.initial.table l.to l.table l.k l.i
