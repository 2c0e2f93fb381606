use Rattle.std.proofs.Common.{◌≡◌, false, length}
use Rattle.stab.specs.Basic.{scan}
use Rattle.stab.specs.Check.{formula_refusal}
use Rattle.stab.specs.Finding.{no_refusal}
use Rattle.stab.specs.Formula.{formula_rows}
use Rattle.formula.specs.Rows.{facts_table, Passed}
use Rattle.repeats.specs.Places.{Linked}
use Rattle.formula_pass.proofs.each.Given as goal

abbrev pub invariant-loop-r : goal.invariant-loop-r
invariant-loop-r l = record {
  facts_long : length l.facts ≡ length l.fn.facts;
  next_long : length l.next ≡ length l.fn.next;
  heads_long : length l.heads ≡ length l.fn.heads;
  found : scan (formula_refusal l.older (formula_rows l.schema l.s l.proof) l.s) l.r ≡ no_refusal;
  passed : Passed (formula_rows l.schema l.s l.proof) l.facts l.r;
  linked : l.older ≡ false → Linked (formula_rows l.schema l.s l.proof) l.next l.heads l.r;
  table : l.facts ≡ facts_table l.older (formula_rows l.schema l.s l.proof) l.s l.fn.facts l.r;
}
