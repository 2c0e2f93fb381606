use borrow.Author.Rules.{rules}
use native.Mathlib.Omega.{arith}
use Prim.Native.Nat.{◌<◌, ◌^◌}
use mathlib.Core.Path.{◌≡◌, sym, ◌∙◌, ap}
use lib.IntN.{ℤ, pos}
use Rattle.stab.specs.Basic.{eq_z, nat}
use Rattle.stab.specs.Node.{split_at}
use Rattle.stab.proofs.Bools.{if_true, if_false}
use Rattle.signed.proofs.Signs.{read_back, nat_small}
use Rattle.branch.proofs.split.at.Statement.{statement}
use Rattle.branch.proofs.split.at.Tie as tie

number_of-by-requires : tie.Need-number_of-by-requires
number_of-by-requires c κs = search rules

equal-requires : tie.Need-equal-requires
equal-requires c κs = search rules

returns-then-equal : tie.Need-returns-then-equal
unfolding split_at
returns-then-equal c =
    let e = read_back _ c.number_of-by.type_inv ∙ c.number_of-by.ensures in
    (sym (if_true _ _ _ (sym (c.equal.ensures ∙ ap (λ (z : ℤ). eq_z z (pos 0)) e) ∙ c.if-equal.true)), λ m l h. l)

natural-requires : tie.Need-natural-requires
natural-requires c κs = search rules

returns : tie.Need-returns
unfolding split_at
returns c =
    let r = read_back _ c.number_of-by.type_inv in
    let e = r ∙ c.number_of-by.ensures in
    let small : nat c.number_of-by.result < 2 ^ 31 = nat_small _ (record { sfits = c.number_of-by.type_inv }) in
    let is : c.natural.result ≡ nat c.number_of-by.result = c.natural.ensures ∙ ap nat r in (
      c.natural.ensures ∙ ap nat e ∙ sym (if_false _ _ _ (sym (c.equal.ensures ∙ ap (λ (z : ℤ). eq_z z (pos 0)) e) ∙ c.if-equal.false)),
      λ m l h. omega (arith, is, small),
    )

pub at_spec : {M : Type 1} → statement M
at_spec = tie.close (tie.spec number_of-by-requires equal-requires returns-then-equal natural-requires returns)
