use borrow.Author.Rules.{rules}
use Prim.Native.Nat.{ℕ}
use native.Mathlib.Omega.{arith}
use mathlib.Core.Path.{◌∙◌, ap}
use lib.Dec.{ltb}
use Rattle.branch.proofs.ParentLaws.{below_negative, below_natural}
use Rattle.branch.proofs.node.is_below.Statement.{statement}
use Rattle.branch.proofs.node.is_below.Tie as tie

under_of-requires : tie.Need-under_of-requires
under_of-requires c κs = search rules

returns-then-under_of-gt0 : tie.Need-returns-then-under_of-gt0
returns-then-under_of-gt0 c = below_negative c.args.n _ (omega (arith, c.under_of.ensures))

natural_of-requires : tie.Need-natural_of-requires
natural_of-requires c κs = search rules

returns : tie.Need-returns
returns c =
    ap (λ (x : ℕ). ltb x c.args.n) c.natural_of.ensures.0
    ∙ below_natural c.args.n _ (omega (arith, c.under_of.ensures))

pub is_below_spec : {M : Type 1} → statement M
is_below_spec = tie.close (tie.spec under_of-requires returns-then-under_of-gt0 natural_of-requires returns)
