use borrow.Author.Rules.{rules}
use Prim.Native.Nat.{◌-◌}
use mathlib.Core.Path.{◌∙◌, ap}
use mathlib.Core.Bool.{not}
use Rattle.stab.specs.Formula.{formula_rows}
use Rattle.limits.proofs.LimitLaws.{not_reached, void_open, void_upper}
use Rattle.limits.proofs.void_fits.Statement.{statement}
use Rattle.limits.proofs.void_fits.Tie as tie

returns-then-h-eq0 : tie.Need-returns-then-h-eq0
returns-then-h-eq0 c = void_open _ _ c.if-h-eq0.true

overflow_sub-h : tie.Need-overflow_sub-h
overflow_sub-h c = search rules

reaches-requires : tie.Need-reaches-requires
reaches-requires c κs = search rules

returns : tie.Need-returns
returns c =
    let a = c.args in
    let w = formula_rows a.schema.now a.s a.proof.now a.r in
    ap not c.reaches.ensures ∙ not_reached w.b w.c (a.h - 1) ∙ void_upper a.h w c.if-h-eq0.false

pub void_fits_spec : {M : Type 1} → statement M
void_fits_spec = tie.close (tie.spec returns-then-h-eq0 overflow_sub-h reaches-requires returns)
