use borrow.Author.Rules.{rules}
use native.Mathlib.Omega.{arith}
use Prim.Native.Nat.{ℕ}
use mathlib.Core.Path.{◌∙◌, ap}
use lib.Dec.{ltb}
use Rattle.branch.proofs.ParentLaws.{up_first, up_later, below_negative, below_natural}
use Rattle.sets.proofs.parents.up_fits.Statement.{statement}
use Rattle.sets.proofs.parents.up_fits.Tie as tie

is_of-requires : tie.Need-is_of-requires
is_of-requires c κs = search rules

returns-then-j-eq0 : tie.Need-returns-then-j-eq0
returns-then-j-eq0 c =
    let a = c.args in
    c.is_of.ensures ∙ up_first a.nodes.now a.j c.if-j-eq0.true

under_of-requires : tie.Need-under_of-requires
under_of-requires c κs = search rules

returns-then-under_of-gt0 : tie.Need-returns-then-under_of-gt0
returns-then-under_of-gt0 c =
    let a = c.args in
    below_negative a.j _ (omega (arith, c.under_of.ensures)) ∙ up_later a.nodes.now a.j c.if-j-eq0.false

natural_of-requires : tie.Need-natural_of-requires
natural_of-requires c κs = search rules

returns : tie.Need-returns
returns c =
    let a = c.args in
    ap (λ (n : ℕ). ltb n a.j) c.natural_of.ensures.0
    ∙ below_natural a.j _ (omega (arith, c.under_of.ensures))
    ∙ up_later a.nodes.now a.j c.if-j-eq0.false

pub up_fits_spec : {M : Type 1} → statement M
up_fits_spec =
    tie.close
    (tie.spec is_of-requires returns-then-j-eq0 under_of-requires returns-then-under_of-gt0 natural_of-requires returns)
