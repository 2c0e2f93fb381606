use Prim.Native.Nat.{◌+◌}
use native.Mathlib.Omega.{arith}
use mathlib.Core.Path.{sym, ◌∙◌}
use borrow.Author.Tests.{le-leb, lt-leb}
use Rattle.stab.specs.Node.{row_count}
use Rattle.stab.specs.Check.{within_limits}
use Rattle.stab.proofs.Bools.{and_first_false, and_first_true}
use Rattle.tableau.proofs.check.few.Statement.{statement}
use Rattle.tableau.proofs.check.few.Tie as tie

returns-then-h-gt1024 : tie.Need-returns-then-h-gt1024
unfolding within_limits row_count
returns-then-h-gt1024 c =
    let a = c.args in
    sym (and_first_false _ _ (lt-leb (a.h.schema_rows + a.h.proof_rows) 1024 (omega arith)))

returns-then-h : tie.Need-returns-then-h
unfolding within_limits row_count
returns-then-h c =
    let a = c.args in
    sym (and_first_false _ _ (lt-leb (a.h.schema_rows + a.h.proof_rows) 1024 (omega arith)))

returns-then-h-gt1024-2 : tie.Need-returns-then-h-gt1024-2
unfolding within_limits row_count
returns-then-h-gt1024-2 c =
    let a = c.args in
    sym (and_first_true _ _ (le-leb (a.h.schema_rows + a.h.proof_rows) 1024 (omega arith)) ∙ and_first_false _ _ (lt-leb a.h.node_rows 1024 (omega arith)))

returns : tie.Need-returns
unfolding within_limits row_count
returns c =
    let a = c.args in
    sym (and_first_true _ _ (le-leb (a.h.schema_rows + a.h.proof_rows) 1024 (omega arith)) ∙ and_first_true _ _ (le-leb a.h.node_rows 1024 (omega arith)))

pub few_spec : {M : Type 1} → statement M
few_spec = tie.close (tie.spec returns-then-h-gt1024 returns-then-h returns-then-h-gt1024-2 returns)
