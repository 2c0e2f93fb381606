use borrow.Author.Rules.{rules}
use native.Mathlib.Omega.{arith}
use Prim.Native.Nat.{ℕ, ◌-◌}
use mathlib.Core.Path.{sym, ◌∙◌, ap}
use lib.Dec.{leb}
use Rattle.branch.proofs.Parts.{under_of, number_is}
use Rattle.sets.proofs.SetLaws.{place_elsewhere, place_short, place_right}
use Rattle.sets.proofs.place_fits.Statement.{statement}
use Rattle.sets.proofs.place_fits.Tie as tie
use Rattle.stab.proofs.Whole.{nat_of}

under_of-requires : tie.Need-under_of-requires
under_of-requires c κs = search rules

returns-then-under_of-gt0 : tie.Need-returns-then-under_of-gt0
returns-then-under_of-gt0 c =
    let a = c.args in
    place_elsewhere a.nodes.now a.m a.j a.from c.requires.1 (λ e. omega (arith, c.under_of.ensures, under_of _ _ e))

natural_of-requires : tie.Need-natural_of-requires
natural_of-requires c κs = search rules

returns-then-natural_of-from : tie.Need-returns-then-natural_of-from
returns-then-natural_of-from c =
    let a = c.args in
    place_elsewhere a.nodes.now a.m a.j a.from c.requires.1 (λ e. c.if-natural_of-from.true (c.natural_of.ensures.0 ∙ nat_of _ _ e))

under_of-requires-2 : tie.Need-under_of-requires-2
under_of-requires-2 c κs = search rules

returns-then-under_of-gt0-2 : tie.Need-returns-then-under_of-gt0-2
returns-then-under_of-gt0-2 c =
    let a = c.args in
    place_short a.nodes.now a.m a.j a.from c.requires.1 (omega (arith, c.under_of-2.ensures))

natural_of-requires-2 : tie.Need-natural_of-requires-2
natural_of-requires-2 c κs = search rules

overflow_sub-result : tie.Need-overflow_sub-result
overflow_sub-result c = search rules

returns : tie.Need-returns
returns c =
    let a = c.args in
    ap (λ (n : ℕ). leb n (a.m - a.from)) c.natural_of-2.ensures.0
    ∙ place_right a.nodes.now a.m a.j a.from c.requires.1 c.requires.2 (number_is _ _ (omega (arith, c.under_of.ensures)) (sym c.natural_of.ensures.0 ∙ c.if-natural_of-from.false)) (omega (arith, c.under_of-2.ensures))

pub place_fits_spec : {M : Type 1} → statement M
place_fits_spec =
    tie.close
    (tie.spec
    under_of-requires
    returns-then-under_of-gt0
    natural_of-requires
    returns-then-natural_of-from
    under_of-requires-2
    returns-then-under_of-gt0-2
    natural_of-requires-2
    overflow_sub-result
    returns)
