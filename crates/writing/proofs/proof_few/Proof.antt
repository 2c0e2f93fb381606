use mathlib.Core.Path.{sym}
use borrow.Author.Tests.{le-leb, lt-leb}
use lib.Dec.{leb}
use Rattle.stab.proofs.Bools.{and_first_false, and_second_false}
use Rattle.writing.proofs.Writings.{both_held}
use Rattle.writing.proofs.proof_few.Statement.{statement}
use Rattle.writing.proofs.proof_few.Tie as tie

returns-then-rows-gt1024 : tie.Need-returns-then-rows-gt1024
returns-then-rows-gt1024 c = sym (and_first_false _ _ (lt-leb _ _ c.if-rows-gt1024.true))

returns-then-count-gt1024 : tie.Need-returns-then-count-gt1024
returns-then-count-gt1024 c = sym (and_second_false (leb c.args.rows 1024) _ (and_first_false _ _ (lt-leb _ _ c.if-count-gt1024.true)))

returns : tie.Need-returns
returns c = sym (both_held _ _ _ (le-leb _ _ c.if-rows-gt1024.false) (le-leb _ _ c.if-count-gt1024.false))

pub proof_few_spec : {M : Type 1} → statement M
proof_few_spec = tie.close (tie.spec returns-then-rows-gt1024 returns-then-count-gt1024 returns)
