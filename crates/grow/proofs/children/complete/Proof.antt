use borrow.Author.Rules.{rules}
use native.Mathlib.Omega.{arith}
use mathlib.Core.Path.{sym, ◌∙◌, ap}
use lib.IntN.{pos}
use borrow.Author.Tests.{lt-ltb, le-ltb}
use Rattle.stab.specs.Basic.{within}
use Rattle.stab.proofs.Bools.{and_first_false, and_first_true}
use Rattle.signed.proofs.Signs.{read_back}
use Rattle.growing.specs.Complete.{complete}
use Rattle.grow.proofs.children.complete.Statement.{statement}
use Rattle.grow.proofs.children.complete.Tie as tie

returns-then-h-eq0 : tie.Need-returns-then-h-eq0
unfolding complete
returns-then-h-eq0 c = sym (and_first_false _ _ (le-ltb 0 c.args.h.node_rows (omega arith)))

slice_bounds-work_out-end : tie.Need-slice_bounds-work_out-end
slice_bounds-work_out-end c = search rules

work_out-requires : tie.Need-work_out-requires
work_out-requires c κs =
    let k = c.requires in
    (k.few, omega (arith, k.few), ap (within (pos 0) (pos 9999)) (read_back c.args.h.least c.struct_told-1.given.1.1.1.0.1) ∙ k.least_fits, k.parents)

slice_bounds-all_fit-end : tie.Need-slice_bounds-all_fit-end
slice_bounds-all_fit-end c = search rules

all_fit-requires : tie.Need-all_fit-requires
all_fit-requires c κs =
    let k = c.requires in
    ((k.few, k.rules), λ j l. (c.work_out.ensures.0 j l).children)

returns : tie.Need-returns
unfolding complete
returns c =
    c.all_fit.ensures ∙ sym (and_first_true _ _ (lt-ltb 0 c.args.h.node_rows (omega (arith, c.if-h-eq0.false))))

pub complete_spec : {M : Type 1} → statement M
complete_spec =
    tie.close (tie.spec returns-then-h-eq0 slice_bounds-work_out-end work_out-requires slice_bounds-all_fit-end all_fit-requires returns)
