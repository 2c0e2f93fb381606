use Rattle.jointrows.specs.Kept.{placed}
use Rattle.stab.proofs.Bools.{if_true, if_false}
use borrow.Author.Tests.{lt-ltb, le-ltb}
use lib.Dec.{ltb}
use mathlib.Core.Path.{sym}
use native.Mathlib.Omega.{arith}
use borrow.Author.Rules.{rules}
use Rattle.jointrows.proofs.number.place.Statement.{statement}
use Rattle.jointrows.proofs.number.place.Tie as tie

overflow_add-result : tie.Need-overflow_add-result
overflow_add-result c = search rules

returns-then-r-t : tie.Need-returns-then-r-t
unfolding placed
returns-then-r-t c =
    let a = c.args in
    (sym (if_true (ltb a.r a.t) _ _ (lt-ltb a.r a.t c.if-r-t.true)), omega (arith, c.requires))

overflow_add-result-2 : tie.Need-overflow_add-result-2
overflow_add-result-2 c = search rules

returns : tie.Need-returns
unfolding placed
returns c =
    let a = c.args in
    (sym (if_false (ltb a.r a.t) _ _ (le-ltb a.r a.t c.if-r-t.false)), omega (arith, c.requires))

pub place_spec : {M : Type 1} → statement M
place_spec = tie.close (tie.spec overflow_add-result returns-then-r-t overflow_add-result-2 returns)
