use native.Mathlib.Omega.{arith}
use mathlib.Core.Path.{sym}
use Prim.Native.Nat.{◌+◌}
use borrow.Author.Rules.{rules}
use borrow.Author.Tests.{lt-leb}
use Rattle.shown.proofs.Tellings.{room_left}
use Rattle.shown.proofs.has_room.Statement.{statement}
use Rattle.shown.proofs.has_room.Tie as tie

returns-then-n-a : tie.Need-returns-then-n-a
returns-then-n-a c =
    let s = c.args in
    sym (lt-leb (s.a + s.b + s.c) s.n (omega arith))

returns-then-n-a-2 : tie.Need-returns-then-n-a-2
returns-then-n-a-2 c =
    let s = c.args in
    sym (lt-leb (s.a + s.b + s.c) s.n (omega arith))

overflow_sub-result-2 : tie.Need-overflow_sub-result-2
overflow_sub-result-2 c = search rules

returns : tie.Need-returns
returns c = room_left _ _ _ _ c.if-n-a.false c.if-n-a-2.false

pub has_room_spec : {M : Type 1} → statement M
has_room_spec = tie.close (tie.spec returns-then-n-a returns-then-n-a-2 overflow_sub-result-2 returns)
