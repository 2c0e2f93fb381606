use borrow.Author.Rules.{rules}
use mathlib.Core.Path.{◌≡◌, sym, ◌∙◌, ap}
use borrow.Author.Tests.{eq-eqb, ne_eqb}
use Rattle.stab.specs.Basic.{nat}
use Rattle.stab.proofs.Bools.{if_true, if_false}
use Rattle.signed.proofs.Signs.{read_back}
use Rattle.classes.proofs.compare.besides.Statement.{statement}
use Rattle.classes.proofs.compare.besides.Tie as tie

left_is : (c : tie.After-natural-left) → c.natural-left.result ≡ nat c.args.w.a
left_is c = c.natural-left.ensures ∙ ap nat (read_back c.args.w.a c.struct_told-1.given.1.0.1)

natural-left-requires : tie.Need-natural-left-requires
natural-left-requires c κs = search rules

natural-requires : tie.Need-natural-requires
natural-requires c κs = search rules

returns-then-p-left : tie.Need-returns-then-p-left
returns-then-p-left c =
    c.natural.ensures
    ∙ ap nat (read_back c.args.w.b c.struct_told-1.given.1.1.0.1)
    ∙ sym (if_true _ _ _ (eq-eqb _ _ (c.if-p-left.true ∙ left_is c.before.before.before)))

returns : tie.Need-returns
returns c =
    let e = left_is c.before in
    e ∙ sym (if_false _ _ _ (ne_eqb _ _ (λ h. c.if-p-left.false (h ∙ sym e))))

pub besides_spec : {M : Type 1} → statement M
besides_spec = tie.close (tie.spec natural-left-requires natural-requires returns-then-p-left returns)
