use Prim.Native.Nat.{ℕ}
use native.Mathlib.Omega.{arith}
use borrow.Author.Rules.{rules}
use Rattle.stab.specs.Entry.{fault_number}
use Rattle.stab.proofs.Bools.{if_true, if_false}
use Rattle.told.proofs.fault.Statement.{statement}
use Rattle.told.proofs.fault.Tie as tie

overflow_mul-twice : tie.Need-overflow_mul-twice
overflow_mul-twice c = search rules

overflow_add-result : tie.Need-overflow_add-result
overflow_add-result c = search rules

returns-then-f : tie.Need-returns-then-f
unfolding fault_number
returns-then-f c = omega (arith, if_true {A = ℕ} c.args.f.second 1 0 c.if-f.true)

returns : tie.Need-returns
unfolding fault_number
returns c = omega (arith, if_false {A = ℕ} c.args.f.second 1 0 c.if-f.false)

pub fault_spec : {M : Type 1} → statement M
fault_spec = tie.close (tie.spec overflow_mul-twice overflow_add-result returns-then-f returns)
