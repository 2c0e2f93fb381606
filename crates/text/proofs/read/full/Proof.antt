use mathlib.Core.Path.{sym, ap₂}
use mathlib.Core.Bool.{Bool}
use lib.Dec.{leb}
use lib.ListN.{length}
use borrow.Author.Tests.{le-leb, lt-leb}
use Rattle.stab.specs.Basic.{◌and◌}
use Rattle.stab.proofs.Bools.{and_first_false, and_second_false}
use Rattle.text.proofs.read.full.Statement.{statement}
use Rattle.text.proofs.read.full.Tie as tie

returns-then-table-lt4096 : tie.Need-returns-then-table-lt4096
returns-then-table-lt4096 c = let a = c.args in sym (and_first_false _ _ (lt-leb 4096 (length a.table.now) c.if-table-lt4096.true))

returns-then-nodes-lt9216 : tie.Need-returns-then-nodes-lt9216
returns-then-nodes-lt9216 c = let a = c.args in sym (and_second_false (leb 4096 (length a.table.now)) _ (and_first_false _ _ (lt-leb 9216 (length a.nodes.now) c.if-nodes-lt9216.true)))

returns : tie.Need-returns
unfolding ◌and◌
returns c =
    let a = c.args in
    let m = leb 8192 (length a.members.now) in
    sym (ap₂ (λ (x y : Bool). x and (y and m)) (le-leb 4096 (length a.table.now) c.if-table-lt4096.false) (le-leb 9216 (length a.nodes.now) c.if-nodes-lt9216.false))

pub full_spec : {M : Type 1} → statement M
full_spec = tie.close (tie.spec returns-then-table-lt4096 returns-then-nodes-lt9216 returns)
