use borrow.Author.Rules.{rules}
use Prim.Native.Nat.{ℕ}
use mathlib.Core.Path.{sym, ◌∙◌, ap}
use lib.Dec.{eqb}
use lib.IntN.{pos}
use Rattle.stab.specs.Basic.{eq_z}
use Rattle.stab.specs.Node.{node_at}
use Rattle.stab.proofs.Bools.{if_true, if_false}
use Rattle.branch.specs.Lent.{by_fits}
use Rattle.fields.proofs.FieldLaws.{not_negative}
use Rattle.fields.proofs.by_fits.Statement.{statement}
use Rattle.fields.proofs.by_fits.Tie as tie

under_of-requires : tie.Need-under_of-requires
under_of-requires c κs = search rules

returns-then-split : tie.Need-returns-then-split
unfolding by_fits
returns-then-split c =
    let a = c.args in
    let z = (node_at a.nodes.now a.j).by in
    ap (λ (n : ℕ). eqb n 0) c.under_of.ensures ∙ not_negative z ∙ sym (if_true _ _ (eq_z z (pos 0)) c.if-split.true)

is_of-requires : tie.Need-is_of-requires
is_of-requires c κs = search rules

returns : tie.Need-returns
unfolding by_fits
returns c = c.is_of.ensures ∙ sym (if_false _ _ _ c.if-split.false)

pub by_fits_spec : {M : Type 1} → statement M
by_fits_spec = tie.close (tie.spec under_of-requires returns-then-split is_of-requires returns)
