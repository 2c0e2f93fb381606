use borrow.Author.Rules.{rules}
use Prim.Native.Nat.{◌<◌, ◌^◌}
use native.Mathlib.Omega.{arith}
use mathlib.Core.Path.{◌≡◌, ◌∙◌, ap}
use Rattle.stab.specs.Basic.{nat}
use Rattle.signed.proofs.Signs.{read_back, nat_small}
use Rattle.signed.proofs.natural_at.Statement.{statement}
use Rattle.signed.proofs.natural_at.Tie as tie

at-requires : tie.Need-at-requires
at-requires c κs = search rules

natural-requires : tie.Need-natural-requires
natural-requires c κs = search rules

returns : tie.Need-returns
returns c =
    let e = read_back _ c.at.type_inv in
    let small : nat c.at.result < 2 ^ 31 = nat_small _ (record { sfits = c.at.type_inv }) in
    let is : c.natural.result ≡ nat c.at.result = c.natural.ensures ∙ ap nat e in
    (c.natural.ensures ∙ ap nat (e ∙ c.at.ensures), omega (arith, is, small))

pub natural_at_spec : {M : Type 1} → statement M
natural_at_spec = tie.close (tie.spec at-requires natural-requires returns)
