use mathlib.Core.Path.{◌≡◌, refl, sym, ◌∙◌, ap}
use mathlib.Core.Option.{some}
use lib.IntN.{ℤ}
use borrow.Author.Rules.{rules}
use borrow.Author.Tests.{eq-eqb, ne_eqb}
use Rattle.stab.specs.Basic.{nat}
use Rattle.stab.proofs.Bools.{if_true, if_false}
use Rattle.signed.proofs.Signs.{read_back}
use Rattle.formula.specs.Cells.{row_of}
use Rattle.formula.specs.declared.cells.Cells.{Cells}
use Rattle.classes.specs.Class.{shift_code}
use Rattle.classes.specs.Key.{literal_form}
use Rattle.classes.proofs.Shifts.{offset_read}
use Rattle.classes.proofs.Forms.{form_same}
use Rattle.classes.proofs.form.literal.Statement.{statement}
use Rattle.classes.proofs.form.literal.Tie as tie

-- where all columns have been read
abbrev told : tie.After-natural → tie.After-struct_told-1
told c = c.before.before.before.before.before

abbrev columns : tie.After-natural → Cells
columns c = (told c).before.args.w

symbol_is : (c : tie.After-natural) → c.natural-symbol.result ≡ nat (columns c).a
symbol_is c = c.natural-symbol.ensures ∙ ap nat (read_back (columns c).a (told c).struct_told-1.given.1.0.1)

base_is : (c : tie.After-natural) → c.natural.result ≡ nat (columns c).b
base_is c = c.natural.ensures ∙ ap nat (read_back (columns c).b (told c).struct_told-1.given.1.1.0.1)

added_is : (c : tie.After-natural) → c.raised-added.result ≡ shift_code (some (columns c).c)
added_is c =
    c.raised-added.ensures
    ∙ ap (λ (z : ℤ). shift_code (some z)) (read_back (columns c).c (told c).struct_told-1.given.1.1.1.0.1)

natural-symbol-requires : tie.Need-natural-symbol-requires
natural-symbol-requires c κs = search rules

raised-added-requires : tie.Need-raised-added-requires
raised-added-requires c κs = search (rules, offset_read)

natural-requires : tie.Need-natural-requires
natural-requires c κs = search rules

returns-then-natural-eq0 : tie.Need-returns-then-natural-eq0
unfolding literal_form row_of
returns-then-natural-eq0 c =
    form_same refl refl (symbol_is c.before) (added_is c.before) ∙ sym (if_true _ _ _ (eq-eqb _ 0 (sym (base_is c.before) ∙ c.if-natural-eq0.true)))

returns : tie.Need-returns
unfolding literal_form row_of
returns c =
    form_same (added_is c.before) refl (symbol_is c.before) refl ∙ sym (if_false _ _ _ (ne_eqb _ 0 (λ e. c.if-natural-eq0.false (base_is c.before ∙ e))))

pub literal_spec : {M : Type 1} → statement M
literal_spec =
    tie.close (tie.spec natural-symbol-requires raised-added-requires natural-requires returns-then-natural-eq0 returns)
