use Rattle.jointnodes.proofs.Fields.{further_none, further_moved}
use Rattle.stab.specs.Basic.{nat}
use Rattle.signed.proofs.Signs.{read_back}
use mir.Facts.{to_z-of_z}
use lib.Signed.{lt_z}
use lib.IntN.{ℤ, pos}
use mathlib.Core.Path.{◌≡◌, sym, ◌∙◌, ap}
use Prim.Native.Nat.{ℕ, ◌+◌}
use native.Mathlib.Omega.{arith}
use borrow.Author.Rules.{rules}
use Rattle.jointnodes.proofs.node.onward.Statement.{statement}
use Rattle.jointnodes.proofs.node.onward.Tie as tie

named : (c : tie.After-natural) → c.natural.result ≡ nat c.args.z
named c = c.natural.ensures ∙ ap nat (to_z-of_z c.ranges.z)

less-requires : tie.Need-less-requires
less-requires c κs = search rules

returns-then-less : tie.Need-returns-then-less
returns-then-less c =
    let e = to_z-of_z c.ranges.z in
    let h = sym (c.less.ensures ∙ ap (λ (z : ℤ). lt_z z (pos 0)) e) ∙ c.if-less.true in
    e ∙ further_none c.args.d c.args.z h

natural-requires : tie.Need-natural-requires
natural-requires c κs = search rules

overflow_add-natural : tie.Need-overflow_add-natural
overflow_add-natural c = omega (arith, named c, c.requires)

of-requires : tie.Need-of-requires
of-requires c κs = omega (arith, named c, c.requires)

returns : tie.Need-returns
returns c =
    let h = sym (c.less.ensures ∙ ap (λ (z : ℤ). lt_z z (pos 0)) (to_z-of_z c.ranges.z)) ∙ c.if-less.false in
    read_back _ c.of.type_inv ∙ c.of.ensures ∙ ap (λ (k : ℕ). pos (k + c.args.d)) (named c.before) ∙ further_moved c.args.d c.args.z h

pub onward_spec : {M : Type 1} → statement M
onward_spec =
    tie.close (tie.spec less-requires returns-then-less natural-requires overflow_add-natural of-requires returns)
