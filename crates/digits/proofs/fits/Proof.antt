use mathlib.Core.Path.{sym, ◌∙◌, ap, ap₂}
use mathlib.Core.Bool.{Bool}
use borrow.Author.Rules.{rules}
use borrow.Author.Tests.{le-leb, lt-leb}
use lib.Dec.{leb}
use lib.IntN.{ℤ, neg_ℤ}
use mir.Facts.{to_z-of_z}
use Rattle.stab.specs.Basic.{◌and◌, nat}
use Rattle.digits.proofs.Decimals.{five_parts}
use Rattle.digits.proofs.fits.Statement.{statement}
use Rattle.digits.proofs.fits.Tie as tie

natural-requires : tie.Need-natural-requires
natural-requires c κs = search rules

under-requires : tie.Need-under-requires
under-requires c κs = search rules

returns-then-natural-le99999 : tie.Need-returns-then-natural-le99999
unfolding ◌and◌
returns-then-natural-le99999 c =
    let e = to_z-of_z c.ranges.z in
    let n = c.natural.ensures ∙ ap nat e in
    let u = c.under.ensures ∙ ap (λ (z : ℤ). nat (neg_ℤ z)) e in
    ap₂ (λ (a b : Bool). a and b) (sym (le-leb _ 99999 c.if-natural-le99999.true))
    (ap (λ k. leb k 99999) u)
    ∙ ap (λ k. leb k 99999 and leb (nat (neg_ℤ c.args.z)) 99999) n
    ∙ five_parts c.args.z

returns-else-natural-le99999 : tie.Need-returns-else-natural-le99999
unfolding ◌and◌
returns-else-natural-le99999 c =
    let n = c.natural.ensures ∙ ap nat (to_z-of_z c.ranges.z) in
    let low = lt-leb _ 99999 c.if-natural-le99999.false in
    low
    ∙ ap (λ (a : Bool). a and leb (nat (neg_ℤ c.args.z)) 99999) (sym low ∙ ap (λ k. leb k 99999) n)
    ∙ five_parts c.args.z

pub fits_spec : {M : Type 1} → statement M
fits_spec = tie.close (tie.spec natural-requires under-requires returns-then-natural-le99999 returns-else-natural-le99999)
