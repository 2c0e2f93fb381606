use Prim.Native.Nat.{◌*◌}
use mathlib.Core.Path.{sym, ◌∙◌}
use lib.Dec.{leb}
use lib.ListN.{length}
use borrow.Author.Tests.{le-leb, lt-leb}
use Rattle.stab.proofs.Bools.{if_true, if_false}
use Rattle.text.specs.OneLine.{listed_by}
use Rattle.text.proofs.RowLaws.{into_over}
use borrow.Author.Rules.{rules}
use Rattle.text.proofs.awaited.listed.Statement.{statement}
use Rattle.text.proofs.awaited.listed.Tie as tie

returns-then-text-at : tie.Need-returns-then-text-at
unfolding listed_by
returns-then-text-at c =
    let a = c.args in (
      sym (if_true (leb (length a.text.now) a.at) _ _ (le-leb (length a.text.now) a.at c.if-text-at.true)),
      into_over a.text.now a.at a.w (a.w * a.n) a.table.now c.if-text-at.true,
    )

overflow_add-n : tie.Need-overflow_add-n
overflow_add-n c = search rules

row-requires : tie.Need-row-requires
row-requires c κs = search rules

shape_of-table : tie.Need-shape_of-table
shape_of-table c = search rules

returns : tie.Need-returns
unfolding listed_by
returns c =
    let a = c.args in (
      c.row.ensures.0 ∙ sym (if_false (leb (length a.text.now) a.at) _ _ (lt-leb (length a.text.now) a.at c.if-text-at.false)),
      c.row.ensures.1,
    )

pub listed_spec : {M : Type 1} → statement M
listed_spec = tie.close (tie.spec returns-then-text-at overflow_add-n row-requires shape_of-table returns)
