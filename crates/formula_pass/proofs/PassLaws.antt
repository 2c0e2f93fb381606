-- What is found of a row, with rows that may repeat and with rows that may not; and a schema's rows, with the rest of its table where a
-- proof's rows would stand.
use Prim.Native.Nat.{ℕ}
use mathlib.Core.Path.{◌≡◌, ◌∙◌}
use mathlib.Core.Bool.{Bool, true, false, true≢false, false≢true}
use Rattle.stab.specs.Formula.{Row}
use Rattle.stab.specs.Check.{row_refusal, formula_refusal}
use Rattle.std.specs.Prelude.{Some}
use Rattle.stab.specs.Finding.{no_refusal, refuse, Place}
use Rattle.stab.specs.declared.Refusal.{Refusal}
use Rattle.stab.specs.declared.Refusal.TheVariants.{Repeated}
use Rattle.stab.proofs.Bools.{otherwise_nothing, otherwise_found}
use Rattle.repeats.specs.Repeated.{repeated}
use Rattle.repeats.proofs.RepeatedLaws.{repeat_found, repeat_none}

module _ (rows : ℕ → Row) (s r : ℕ) where
  -- 7 or 8
  pub row_stops : (older : Bool) {why : Refusal} {p : Place} → row_refusal rows r ≡ refuse why p → formula_refusal older rows s r ≡ refuse why p
  unfolding formula_refusal
  row_stops true h = h
  row_stops false h = otherwise_found _ _ h

  -- nothing is found of a row that may repeat
  pub row_passes : (older : Bool) → older ≡ true → row_refusal rows r ≡ no_refusal → formula_refusal older rows s r ≡ no_refusal
  unfolding formula_refusal
  row_passes true e h = h
  row_passes false e h = absurd (false≢true e)

  -- 27
  pub row_repeats : (older : Bool) → older ≡ false → row_refusal rows r ≡ no_refusal → repeated rows s r ≡ true → formula_refusal older rows s r ≡ refuse Repeated (Some r)
  unfolding formula_refusal
  row_repeats true e h t = absurd (true≢false e)
  row_repeats false e h t = otherwise_nothing _ _ h ∙ repeat_found rows s r t

  -- or not
  pub row_fresh : (older : Bool) → older ≡ false → row_refusal rows r ≡ no_refusal → repeated rows s r ≡ false → formula_refusal older rows s r ≡ no_refusal
  unfolding formula_refusal
  row_fresh true e h t = absurd (true≢false e)
  row_fresh false e h t = otherwise_nothing _ _ h ∙ repeat_none rows s r t
