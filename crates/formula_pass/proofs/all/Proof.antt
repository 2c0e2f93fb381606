use native.Mathlib.Omega.{arith}
use mathlib.Core.Path.{sym, ◌∙◌}
use mathlib.Core.Bool.{true≢false}
use borrow.Author.Rules.{rules}
use lib.ListN.{get_or-replicate}
use Rattle.formula_pass.proofs.all.Statement.{statement}
use Rattle.formula_pass.proofs.all.Tie as tie

slice_bounds-each-end : tie.Need-slice_bounds-each-end
slice_bounds-each-end c = search rules

slice_bounds-each-end-then-older : tie.Need-slice_bounds-each-end-then-older
slice_bounds-each-end-then-older c = search rules

each-requires : tie.Need-each-requires
each-requires c κs =
    let t = c.if-older.true in
    ((omega arith, omega arith, λ f. absurd (true≢false (sym t ∙ f))), λ f. absurd (true≢false (sym t ∙ f)))

shape_of-facts-then-older : tie.Need-shape_of-facts-then-older
shape_of-facts-then-older c = search rules

returns-then-older : tie.Need-returns-then-older
returns-then-older c = search rules

slice_bounds-each-end-2 : tie.Need-slice_bounds-each-end-2
slice_bounds-each-end-2 c = search rules

slice_bounds-each-end-3 : tie.Need-slice_bounds-each-end-3
slice_bounds-each-end-3 c = search rules

each-requires-2 : tie.Need-each-requires-2
each-requires-2 c κs = ((omega arith, omega arith, λ _. (omega arith, omega arith)), λ _ h l. get_or-replicate 1024 h 0 0 l)

shape_of-facts : tie.Need-shape_of-facts
shape_of-facts c = search rules

returns : tie.Need-returns
returns c = search rules

pub all_spec : {M : Type 1} → statement M
all_spec =
    tie.close
    (tie.spec
    slice_bounds-each-end
    slice_bounds-each-end-then-older
    each-requires
    shape_of-facts-then-older
    returns-then-older
    slice_bounds-each-end-2
    slice_bounds-each-end-3
    each-requires-2
    shape_of-facts
    returns)
