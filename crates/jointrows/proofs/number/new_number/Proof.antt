use Rattle.tidied.proofs.Foldings.{new_schema}
use Rattle.tidied.specs.Tidied.{new_number}
use Rattle.stab.proofs.Bools.{if_false}
use borrow.Author.Tests.{le-ltb}
use lib.Dec.{ltb}
use mathlib.Core.Path.{sym, ◌∙◌}
use Prim.Native.Nat.{◌-◌}
use native.Mathlib.Omega.{arith}
use borrow.Author.Rules.{rules}
use Rattle.jointrows.proofs.number.new_number.Statement.{statement}
use Rattle.jointrows.proofs.number.new_number.Tie as tie

returns-then-r-s : tie.Need-returns-then-r-s
returns-then-r-s c =
    let a = c.args in
    (sym (new_schema a.s a.new.now a.r c.if-r-s.true), c.requires.0)

kept_at-requires : tie.Need-kept_at-requires
kept_at-requires c κs = search rules

returns : tie.Need-returns
unfolding new_number
returns c =
    let a = c.args in (
      c.kept_at.ensures.0 ∙ sym (if_false (ltb a.r a.s) _ _ (le-ltb a.r a.s c.if-r-s.false)),
      omega (arith, c.kept_at.ensures.0, c.requires.1 (a.r - a.s)),
    )

pub new_number_spec : {M : Type 1} → statement M
new_number_spec = tie.close (tie.spec returns-then-r-s kept_at-requires returns)
