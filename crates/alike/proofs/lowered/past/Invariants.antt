use Rattle.std.proofs.Common.{ℕ, ◌<◌, get_or}
use lib.IntN.{pos}
use Rattle.stab.specs.Basic.{nat}
use Rattle.alike.proofs.LoweredLaws.{OneForm}
use Rattle.alike.proofs.lowered.past.Given as goal

abbrev pub invariant-loop-e : goal.invariant-loop-e
invariant-loop-e l = (a : ℕ) → a < l.e → l.i < a → OneForm l.forms (nat (get_or l.rows l.i (pos 0))) (nat (get_or l.rows a (pos 0)))
