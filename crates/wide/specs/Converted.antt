-- 02, No. 1: what is asked of a schema that the converter gave.
use Rattle.std.specs.Prelude.{ℕ, ◌<◌, ◌≡◌, ◌≢◌, false, pos, ◌≤ℤ◌, None, Some}
use Rattle.stab.specs.Formula.{Schema}
use Rattle.stab.specs.Meaning.{Assignment}
use Rattle.stab.specs.Finding.{refuse, Finding}
use Rattle.stab.specs.declared.Refusal.TheVariants.{Root, IllFormed, TooLarge}
use Rattle.wide.specs.WideFormula.{wide_formula}
use Rattle.wide.specs.WideMeaning.{wide_truth}

-- the wide schema is false at every n from its least value up, under every assignment
abbrev pub WideRefuted : Schema → Type 0
WideRefuted S = (n : ℕ) (σ : Assignment) → S.least ≤ℤ pos n → wide_truth σ n (wide_formula S) ≡ false

-- what is found is not 6, and not 7 or 8 at one of the first s rows
pub record Spares (s : ℕ) (found : Finding) : Type 0 where
  pub root : found ≢ refuse Root None
  pub formed : (r : ℕ) → r < s → found ≢ refuse IllFormed (Some r)
  pub small : (r : ℕ) → r < s → found ≢ refuse TooLarge (Some r)
