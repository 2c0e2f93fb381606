use borrow.Author.Rules.{rules}
use native.Mathlib.Omega.{arith}
use Prim.Native.Nat.{◌^◌}
use mathlib.Core.Path.{◌∙◌, ap}
use Rattle.stab.specs.Rule.{split_fits}
use Rattle.branch.specs.Lent.{bounded}
use Rattle.limits.proofs.LimitLaws.{k_low, k_open, k_below}
use Rattle.limits.proofs.split_fits.Statement.{statement}
use Rattle.limits.proofs.split_fits.Tie as tie

at-k-requires : tie.Need-at-k-requires
at-k-requires c κs = search rules

returns-then-k-l : tie.Need-returns-then-k-l
returns-then-k-l c =
    let a = c.args in
    k_low a.h a.l _ c.if-k-l.true ∙ ap (split_fits (bounded a.h a.l)) c.at-k.ensures.0

returns-then-h-eq0 : tie.Need-returns-then-h-eq0
returns-then-h-eq0 c =
    let a = c.args in
    k_open a.h a.l _ c.if-k-l.false c.if-h-eq0.true ∙ ap (split_fits (bounded a.h a.l)) c.at-k.ensures.0

overflow_add-result : tie.Need-overflow_add-result
overflow_add-result c =
    let a = c.args in
    omega (arith, c.at-k.ensures.1 (2 ^ 32) (omega (arith, c.requires.1)) (omega arith))

returns : tie.Need-returns
returns c =
    let a = c.args in
    k_below a.h a.l _ c.if-k-l.false c.if-h-eq0.false ∙ ap (split_fits (bounded a.h a.l)) c.at-k.ensures.0

pub split_fits_spec : {M : Type 1} → statement M
split_fits_spec = tie.close (tie.spec at-k-requires returns-then-k-l returns-then-h-eq0 overflow_add-result returns)
