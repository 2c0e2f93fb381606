use Prim.Native.Nat.{ℕ}
use mathlib.Core.Path.{sym, ap}
use lib.IntN.{pos}
use Rattle.stab.specs.Basic.{eq_z}
use Rattle.wide.specs.Plain.{rows_given}
use Rattle.wide.specs.WideFormula.{wide_kind_of}
use Rattle.convert.proofs.GivenLaws.{two_given}
use Rattle.convert.proofs.rows.rows_given.Statement.{statement}
use Rattle.convert.proofs.rows.rows_given.Tie as tie

returns-then-k-eq8 : tie.Need-returns-then-k-eq8
unfolding rows_given wide_kind_of eq_z
returns-then-k-eq8 c = sym (ap (λ (n : ℕ). rows_given (wide_kind_of (pos n))) c.if-k-eq8.true)

returns-then-k-eq10 : tie.Need-returns-then-k-eq10
unfolding rows_given wide_kind_of eq_z
returns-then-k-eq10 c = sym (ap (λ (n : ℕ). rows_given (wide_kind_of (pos n))) c.if-k-eq10.true)

returns-then-k-eq11 : tie.Need-returns-then-k-eq11
unfolding rows_given wide_kind_of eq_z
returns-then-k-eq11 c = sym (ap (λ (n : ℕ). rows_given (wide_kind_of (pos n))) c.if-k-eq11.true)

returns : tie.Need-returns
returns c = sym (two_given _ c.if-k-eq8.false c.if-k-eq10.false c.if-k-eq11.false)

pub rows_given_spec : {M : Type 1} → statement M
rows_given_spec = tie.close (tie.spec returns-then-k-eq8 returns-then-k-eq10 returns-then-k-eq11 returns)
