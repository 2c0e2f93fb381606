-- What holds between two lines of a text that is read from `start` on.
use Prim.Native.Nat.{ℕ}
use mathlib.Core.Path.{◌≡◌, refl, ◌∙◌}
use mathlib.Core.Bool.{false, true≢false}
use mathlib.Core.List.{List, []}
use lib.IntN.{ℤ}
use lib.ListN.{drop}
use Rattle.stab.specs.Text.{Line, lines}
use Rattle.text.specs.Awaiting.{rest, goes_on, Ready, ReadAll}
use Rattle.text.proofs.TakenLaws.{Moved}
use Rattle.text.specs.declared.awaited.Awaited.{Awaited}
use Rattle.text.specs.declared.awaited.Awaited.TheVariants.{Row, Pair, Formula, Node, SchemaHeading, SchemaValues, RowHeading, ModelHeading, ModelValue, PairHeading, ProofHeading, Schema, Model, Proof, NoHeading, BadLine, TooMany}

pub record Reached (text : List ℕ) (start : Awaited) (t u m : List ℤ) (at : ℕ) (p : Awaited) (t' u' m' : List ℤ) : Type 0 where
  pub ready : Ready text at p t' u' m'
  pub same : rest start t u m (lines text) ≡ rest p t' u' m' (lines (drop at text))

-- where no line is awaited, no line matters
rest_over : (p : Awaited) (t u m : List ℤ) (ls : List Line) → goes_on p ≡ false → rest p t u m ls ≡ rest p t u m []
unfolding rest
rest_over (Row n) t u m ls e = absurd (true≢false e)
rest_over (Pair k) t u m ls e = absurd (true≢false e)
rest_over (Formula n) t u m ls e = absurd (true≢false e)
rest_over (Node n j k) t u m ls e = absurd (true≢false e)
rest_over SchemaHeading t u m ls e = absurd (true≢false e)
rest_over SchemaValues t u m ls e = absurd (true≢false e)
rest_over RowHeading t u m ls e = absurd (true≢false e)
rest_over ModelHeading t u m ls e = absurd (true≢false e)
rest_over ModelValue t u m ls e = absurd (true≢false e)
rest_over PairHeading t u m ls e = absurd (true≢false e)
rest_over ProofHeading t u m ls e = absurd (true≢false e)
rest_over (Schema n) t u m ls e = refl
rest_over (Model k) t u m ls e = refl
rest_over (Proof n j k) t u m ls e = refl
rest_over (NoHeading k) t u m ls e = refl
rest_over (BadLine k) t u m ls e = refl
rest_over (TooMany k) t u m ls e = refl

module _ (text : List ℕ) (start : Awaited) (t u m : List ℤ) where
  pub reached_start : Ready text 0 start t u m → Reached text start t u m 0 start t u m
  reached_start r = record { ready = r; same = refl }

  module _ (at : ℕ) (p : Awaited) (t₁ u₁ m₁ : List ℤ) (r : Reached text start t u m at p t₁ u₁ m₁) where
    pub reached_next : (at' : ℕ) (p' : Awaited) (t₂ u₂ m₂ : List ℤ) → Moved text at p t₁ u₁ m₁ at' p' t₂ u₂ m₂ → Reached text start t u m at' p' t₂ u₂ m₂
    reached_next at' p' t₂ u₂ m₂ s = record { ready = s.ready; same = r.same ∙ s.same }

    pub reached_done : goes_on p ≡ false → ReadAll text start t u m p t₁ u₁ m₁
    reached_done e = record { over = e; same = r.same ∙ rest_over p t₁ u₁ m₁ (lines (drop at text)) e; room = r.ready.room }
