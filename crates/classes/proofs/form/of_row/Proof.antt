use native.Mathlib.Omega.{arith}
use mathlib.Core.Path.{◌≡◌, sym, ◌∙◌, ap, subst}
use mathlib.Core.Bool.{Bool, true}
use lib.ListN.{length}
use Prim.Native.Nat.{◌+◌, ◌*◌, ◌<◌}
use Rattle.stab.specs.Basic.{nat}
use Rattle.stab.specs.Formula.{Row, Op, Kind, literal, junction, iteration, kind_of, offset}
use Rattle.formula.specs.Cells.{row_of}
use Rattle.classes.specs.Key.{FormedAt, kept_form_as, kept_form}
use Rattle.classes.proofs.ByKind.{is_constant, is_literal, is_junction, is_iteration, added_offset, left_less, right_less, body_less, first_offset, limit_offset}
use Rattle.classes.proofs.form.of_row.Statement.{statement}
use Rattle.classes.proofs.form.of_row.Tie as tie

-- the rows that it is one of
abbrev among : (b : tie.Start) → FormedAt b.args.r (row_of b.args.w)
among b = b.requires.2

abbrev kind_in : tie.Start → Kind
kind_in b = kind_of ((among b).rows b.args.r).kind

kind_is : (b : tie.Start) → b.args.kind ≡ nat ((among b).rows b.args.r).kind
unfolding row_of
kind_is b = b.requires.1 ∙ ap (λ (u : Row). nat u.kind) (sym (among b).row)

-- its numbers by its kind
kept_as : (b : tie.Start) {k : Kind} → kind_in b ≡ k → let a = b.args in kept_form_as a.r (row_of a.w) a.forms.now k ≡ kept_form a.r (row_of a.w) a.forms.now
kept_as b e = let a = b.args in ap (kept_form_as a.r (row_of a.w) a.forms.now) (sym e ∙ ap (λ (u : Row). kind_of u.kind) (among b).row)

literal_is : (c : tie.Then-kind-lt4) → (v : Bool) × (kind_in c.before.before.before ≡ literal v)
literal_is c =
    is_literal _ _ (among c.before.before.before).formed (omega (arith, kind_is c.before.before.before, c.if-kind-lt2.false)) (omega (arith, kind_is c.before.before.before, c.if-kind-lt4.true))

junction_is : (c : tie.Then-kind-lt6) → (o : Op) × (kind_in c.before.before.before.before ≡ junction o)
junction_is c =
    is_junction _ _ (among c.before.before.before.before).formed (omega (arith, kind_is c.before.before.before.before, c.if-kind-lt4.false)) (omega (arith, kind_is c.before.before.before.before, c.if-kind-lt6.true))

iteration_is : (c : tie.Else-kind-lt6) → (o : Op) × (kind_in c.before.before.before.before ≡ iteration o)
iteration_is c =
    is_iteration _ _ (among c.before.before.before.before).formed (omega (arith, kind_is c.before.before.before.before, c.if-kind-lt6.false))

returns-then-kind-lt2 : tie.Need-returns-then-kind-lt2
unfolding kept_form_as
returns-then-kind-lt2 c =
    kept_as c.before.before (is_constant _ _ (among c.before.before).formed (omega (arith, kind_is c.before.before, c.if-kind-lt2.true))).1

literal-requires : tie.Need-literal-requires
unfolding row_of
literal-requires c κs =
    subst (λ (u : Row). offset u.c ≡ true) (among c.before.before.before).row (added_offset _ _ (among c.before.before.before).formed _ (literal_is c).1)

returns-then-kind-lt4 : tie.Need-returns-then-kind-lt4
unfolding kept_form_as
returns-then-kind-lt4 c = c.literal.ensures ∙ kept_as c.before.before.before.before (literal_is c.before).1

junction-requires : tie.Need-junction-requires
unfolding row_of
junction-requires c κs =
    let o = junction_is c in
    let l = left_less _ _ (among c.before.before.before.before).formed _ o.1 in
    let r = right_less _ _ (among c.before.before.before.before).formed _ o.1 in
    subst (λ (u : Row). (nat u.a < 1024) × (nat u.b < 1024) × (4 * nat u.a + 3 < length c.args.forms.now) × (4 * nat u.b + 3 < length c.args.forms.now)) (among c.before.before.before.before).row
    (omega (arith, l, c.requires.0), omega (arith, r, c.requires.0), omega (arith, l, c.requires.3), omega (arith, r, c.requires.3))

returns-then-kind-lt6 : tie.Need-returns-then-kind-lt6
unfolding kept_form_as
returns-then-kind-lt6 c = c.junction.ensures ∙ kept_as c.before.before.before.before.before (junction_is c.before).1

iteration-requires : tie.Need-iteration-requires
unfolding row_of
iteration-requires c κs =
    let o = iteration_is c in
    let h = (among c.before.before.before.before).formed in
    let l = body_less _ _ h _ o.1 in
    subst (λ (u : Row). (nat u.a < 1024) × (offset u.b ≡ true) × (offset u.c ≡ true) × (4 * nat u.a + 3 < length c.args.forms.now)) (among c.before.before.before.before).row
    (omega (arith, l, c.requires.0), first_offset _ _ h _ o.1, limit_offset _ _ h _ o.1, omega (arith, l, c.requires.3))

returns : tie.Need-returns
unfolding kept_form_as
returns c = c.iteration.ensures ∙ kept_as c.before.before.before.before.before (iteration_is c.before).1

pub of_row_spec : {M : Type 1} → statement M
of_row_spec =
    tie.close
    (tie.spec
    returns-then-kind-lt2
    literal-requires
    returns-then-kind-lt4
    junction-requires
    returns-then-kind-lt6
    iteration-requires
    returns)
