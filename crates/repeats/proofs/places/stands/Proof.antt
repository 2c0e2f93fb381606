use native.Mathlib.Omega.{arith}
use Prim.Native.Nat.{ℕ, ◌-◌, ◌<◌}
use mathlib.Core.Path.{sym, ◌∙◌, ap, subst}
use borrow.Author.Rules.{rules}
use lib.ListN.{get_or}
use Rattle.stab.specs.Formula.{Row, formula_rows}
use Rattle.repeats.specs.Places.{Leads}
use Rattle.repeats.proofs.Links.{leads_end, leads_found, leads_on}
use Rattle.repeats.proofs.places.stands.Statement.{statement}
use Rattle.repeats.proofs.places.stands.Tie as tie

abbrev invariant_loop : tie.invariant-loop-rest
invariant_loop schema s proof r h next heads rest₀ rest =
    Leads (formula_rows schema s proof) (formula_rows schema s proof r) r rest

abbrev decreases_loop : tie.decreases-loop-rest
decreases_loop schema s proof r h next heads rest₀ rest = rest

-- in a turn of the loop
abbrev Turn : Type 0
Turn = tie.In-loop-rest invariant_loop decreases_loop

abbrev start : Turn → tie.Start invariant_loop decreases_loop
start c = c.before.before.before.before.before

abbrev rows : tie.Start invariant_loop decreases_loop → ℕ → Row
rows b = let a = b.args in formula_rows a.schema.now a.s a.proof.now

abbrev LeadsTo : tie.Start invariant_loop decreases_loop → ℕ → ℕ → Type 0
LeadsTo b = Leads (rows b) (rows b b.args.r)

row_below : (c : Turn) → c.loop-rest.rest - 1 < (start c).args.r
row_below c = omega (arith, c.loop-rest.invariant.within)

-- what is kept for the row that is looked at
onward : (c : Turn) → LeadsTo (start c) (c.loop-rest.rest - 1) (get_or (start c).args.next.now (c.loop-rest.rest - 1) 0)
onward c = (start c).requires.1.0.onward _ (row_below c) _ (c.loop-rest.invariant.of_place c.loop-rest-test.true)

number_at-rest-requires : tie.Need-number_at-rest-requires invariant_loop decreases_loop
number_at-rest-requires c κs = search rules

loop-rest-init : tie.Need-loop-rest-init invariant_loop decreases_loop
loop-rest-init c =
    subst (LeadsTo c.before.before.before c.args.r) (sym (c.number_at-rest.ensures ∙ ap (λ (x : ℕ). get_or c.args.heads.now x 0) c.requires.1.1))
    (c.requires.1.0.first _)

overflow_sub-q : tie.Need-overflow_sub-q invariant_loop decreases_loop
overflow_sub-q c = omega arith

same-requires : tie.Need-same-requires invariant_loop decreases_loop
same-requires c κs = (omega (arith, row_below c, (start c).requires.0), omega (arith, (start c).requires.0))

returns-then-same : tie.Need-returns-then-same invariant_loop decreases_loop
returns-then-same c =
    leads_found _ _ _ _ c.loop-rest-test.true c.loop-rest.invariant (sym c.same.ensures ∙ c.if-same.true)

number_at-rest-requires-in-loop-rest : tie.Need-number_at-rest-requires-in-loop-rest invariant_loop decreases_loop
number_at-rest-requires-in-loop-rest c κs = search rules

loop-rest-smaller : tie.Need-loop-rest-smaller invariant_loop decreases_loop
loop-rest-smaller c = omega (arith, c.number_at-rest-in-loop-rest.ensures, (onward c.before.before.before).within, c.loop-rest-test.true)

loop-rest-preserved : tie.Need-loop-rest-preserved invariant_loop decreases_loop
loop-rest-preserved c =
    leads_on _ _ _ _ c.loop-rest-test.true c.loop-rest.invariant _ (sym c.same.ensures ∙ c.if-same.false)
    (subst (LeadsTo (start c.before.before.before) (c.loop-rest.rest - 1)) (sym c.number_at-rest-in-loop-rest.ensures) (onward c.before.before.before))

returns : tie.Need-returns invariant_loop decreases_loop
returns c = leads_end _ _ _ _ c.loop-rest-test.false c.loop-rest.invariant

pub stands_spec : {M : Type 1} → statement M
stands_spec =
    tie.close
    (tie.spec
    invariant_loop
    decreases_loop
    number_at-rest-requires
    loop-rest-init
    overflow_sub-q
    same-requires
    returns-then-same
    number_at-rest-requires-in-loop-rest
    loop-rest-smaller
    loop-rest-preserved
    returns)
