use borrow.Author.Rules.{rules}
use Prim.Native.Nat.{suc, ◌+◌, ◌*◌}
use native.Mathlib.Omega.{arith}
use mathlib.Core.Path.{sym, ◌∙◌}
use borrow.Author.Tests.{lt-ltb, le-ltb, le-leb, lt-leb}
use Rattle.stab.proofs.Bools.{and_first_false, and_first_true}
use Rattle.grow.proofs.room.Statement.{statement}
use Rattle.grow.proofs.room.Tie as tie

returns-then-n-ge1024 : tie.Need-returns-then-n-ge1024
returns-then-n-ge1024 c = sym (and_first_false _ _ (le-ltb c.args.n 1024 (omega arith)))

returns-then-m-gt8192 : tie.Need-returns-then-m-gt8192
returns-then-m-gt8192 c =
    let a = c.args in
    sym (and_first_true _ _ (lt-ltb a.n 1024 (omega arith)) ∙ and_first_false _ _ (lt-leb (a.m + a.size) 8192 (omega arith)))

returns-then-m-size : tie.Need-returns-then-m-size
returns-then-m-size c =
    let a = c.args in
    sym (and_first_true _ _ (lt-ltb a.n 1024 (omega arith)) ∙ and_first_false _ _ (lt-leb (a.m + a.size) 8192 (omega arith)))

overflow_mul-n : tie.Need-overflow_mul-n
overflow_mul-n c = search rules

overflow_add-n : tie.Need-overflow_add-n
overflow_add-n c = search rules

returns-then-nodes-n : tie.Need-returns-then-nodes-n
returns-then-nodes-n c =
    let a = c.args in
    sym
    (and_first_true _ _ (lt-ltb a.n 1024 (omega arith))
    ∙ and_first_true _ _ (le-leb (a.m + a.size) 8192 (omega arith))
    ∙ and_first_false _ _ (lt-leb (9 * suc a.n) a.nodes (omega arith)))

overflow_add-result : tie.Need-overflow_add-result
overflow_add-result c = search rules

returns : tie.Need-returns
returns c =
    let a = c.args in
    sym
    (and_first_true _ _ (lt-ltb a.n 1024 (omega arith))
    ∙ and_first_true _ _ (le-leb (a.m + a.size) 8192 (omega arith))
    ∙ and_first_true _ _ (le-leb (9 * suc a.n) a.nodes (omega arith)))

pub room_spec : {M : Type 1} → statement M
room_spec =
    tie.close (tie.spec returns-then-n-ge1024 returns-then-m-gt8192 returns-then-m-size overflow_mul-n overflow_add-n returns-then-nodes-n overflow_add-result returns)
