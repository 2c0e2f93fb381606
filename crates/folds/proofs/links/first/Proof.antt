use borrow.Author.Rules.{rules}
use native.Mathlib.Omega.{arith}
use Prim.Native.Nat.{ℕ, ◌-◌, ◌<◌}
use mathlib.Core.Path.{sym, ◌∙◌, ap, subst}
use mathlib.Core.Logic.{⊎_elim}
use lib.ListN.{get_or}
use Rattle.stab.specs.Formula.{Row, formula_rows}
use Rattle.repeats.specs.Places.{Leads}
use Rattle.folds.proofs.Earlier.{Walk, walk_start, walk_end, walk_found, walk_on}
use Rattle.folds.proofs.links.first.Statement.{statement}
use Rattle.folds.proofs.links.first.Tie as tie

abbrev invariant_loop : tie.invariant-loop-rest
invariant_loop schema s table r h next heads best₀ rest₀ best rest = Walk (formula_rows schema s table) r best rest

abbrev decreases_loop : tie.decreases-loop-rest
decreases_loop schema s table r h next heads best₀ rest₀ best rest = rest

-- in a turn of the loop
abbrev Turn : Type 0
Turn = tie.In-loop-rest invariant_loop decreases_loop

abbrev start : Turn → tie.Start invariant_loop decreases_loop
start c = c.before.before.before.before.before

abbrev rows : tie.Start invariant_loop decreases_loop → ℕ → Row
rows b = let a = b.args in formula_rows a.schema.now a.s a.table.now

row_below : (c : Turn) → c.loop-rest.rest - 1 < (start c).args.r
row_below c = omega (arith, c.loop-rest.invariant.within)

number_at-rest-requires : tie.Need-number_at-rest-requires invariant_loop decreases_loop
number_at-rest-requires c κs = search rules

loop-rest-init : tie.Need-loop-rest-init invariant_loop decreases_loop
loop-rest-init c =
    walk_start (rows c.before.before.before) c.args.r _
    (subst (Leads (rows c.before.before.before) (rows c.before.before.before c.args.r) c.args.r) (sym (c.number_at-rest.ensures ∙ ap (λ (x : ℕ). get_or c.args.heads.now x 0) c.requires.1.1))
    (c.requires.1.0.first _))

overflow_sub-q : tie.Need-overflow_sub-q invariant_loop decreases_loop
overflow_sub-q c = omega arith

same-requires : tie.Need-same-requires invariant_loop decreases_loop
same-requires c κs = (omega (arith, row_below c, (start c).requires.0), omega (arith, (start c).requires.0))

number_at-rest-requires-in-loop-rest : tie.Need-number_at-rest-requires-in-loop-rest invariant_loop decreases_loop
number_at-rest-requires-in-loop-rest c κs = search rules

-- what is kept for the row that was looked at
onward : (c : tie.After-number_at-rest-in-loop-rest invariant_loop decreases_loop) →
    Leads (rows (start c.before.before.before)) (rows (start c.before.before.before) (start c.before.before.before).args.r) (c.loop-rest.rest - 1) c.number_at-rest-in-loop-rest.result
onward c =
    let b = start c.before.before.before in
    subst (Leads (rows b) (rows b b.args.r) (c.loop-rest.rest - 1)) (sym c.number_at-rest-in-loop-rest.ensures)
    (b.requires.1.0.onward _ (row_below c.before.before.before) _ (c.loop-rest.invariant.of_place c.loop-rest-test.true))

loop-rest-smaller : tie.Need-loop-rest-smaller invariant_loop decreases_loop
loop-rest-smaller c = omega (arith, (onward c).within, c.loop-rest-test.true)

loop-rest-preserved : tie.Need-loop-rest-preserved invariant_loop decreases_loop
loop-rest-preserved c =
    let b = start c.before.before.before in
    let l = c.loop-rest in
    ⊎_elim
    (λ w. subst (λ (n : ℕ). Walk (rows b) b.args.r n c.number_at-rest-in-loop-rest.result) (sym w.best-is) (walk_found (rows b) b.args.r _ _ c.loop-rest-test.true l.invariant _ (onward c) (sym c.same.ensures ∙ w.if-same.true)))
    (λ w. subst (λ (n : ℕ). Walk (rows b) b.args.r n c.number_at-rest-in-loop-rest.result) (sym w.best-is) (walk_on (rows b) b.args.r _ _ c.loop-rest-test.true l.invariant _ (onward c) (sym c.same.ensures ∙ w.if-same.false)))
    c.if-same.branch-raw

returns : tie.Need-returns invariant_loop decreases_loop
returns c = walk_end (rows c.before.before.before.before.before) c.args.r _ _ c.loop-rest-test.false c.loop-rest.invariant

pub first_spec : {M : Type 1} → statement M
first_spec =
    tie.close
    (tie.spec
    invariant_loop
    decreases_loop
    number_at-rest-requires
    loop-rest-init
    overflow_sub-q
    same-requires
    number_at-rest-requires-in-loop-rest
    loop-rest-smaller
    loop-rest-preserved
    returns)
