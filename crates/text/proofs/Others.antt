-- What is left of what may be awaited, in an arm for all others.
use mathlib.Core.Path.{◌≡◌, refl}
use mathlib.Core.Bool.{false}
use mathlib.Core.List.{[], ◌∷◌}
use types.Run.{OneOf, miss}
use denote.Enum.Declared.{tag_of}
use Rattle.text.specs.Awaiting.{goes_on}
use Rattle.text.specs.OneLine.{Single}
use Rattle.text.specs.declared.awaited.Awaited.{Awaited}
use Rattle.text.specs.declared.awaited.Awaited.TheVariants.{Row, Pair, Formula, Node, SchemaHeading, SchemaValues, RowHeading, ModelHeading, ModelValue, PairHeading, ProofHeading, Schema, Model, Proof, NoHeading, BadLine, TooMany}
use Rattle.text.specs.contracts.awaited.Awaited as P

-- in `once`
pub others_over : (p : Awaited) → OneOf (0 ∷ 1 ∷ 2 ∷ 3 ∷ 11 ∷ 12 ∷ 13 ∷ 14 ∷ 15 ∷ 16 ∷ []) (tag_of P.the_type p) → Single p → goes_on p ≡ false
others_over (Row n) e s = absurd s
others_over (Pair k) e s = absurd s
others_over (Formula n) e s = absurd s
others_over (Node n j k) e s = absurd s
others_over SchemaHeading e s = absurd (miss (0 ∷ 1 ∷ 2 ∷ 3 ∷ 11 ∷ 12 ∷ 13 ∷ 14 ∷ 15 ∷ 16 ∷ []) 4 tt e)
others_over SchemaValues e s = absurd (miss (0 ∷ 1 ∷ 2 ∷ 3 ∷ 11 ∷ 12 ∷ 13 ∷ 14 ∷ 15 ∷ 16 ∷ []) 5 tt e)
others_over RowHeading e s = absurd (miss (0 ∷ 1 ∷ 2 ∷ 3 ∷ 11 ∷ 12 ∷ 13 ∷ 14 ∷ 15 ∷ 16 ∷ []) 6 tt e)
others_over ModelHeading e s = absurd (miss (0 ∷ 1 ∷ 2 ∷ 3 ∷ 11 ∷ 12 ∷ 13 ∷ 14 ∷ 15 ∷ 16 ∷ []) 7 tt e)
others_over ModelValue e s = absurd (miss (0 ∷ 1 ∷ 2 ∷ 3 ∷ 11 ∷ 12 ∷ 13 ∷ 14 ∷ 15 ∷ 16 ∷ []) 8 tt e)
others_over PairHeading e s = absurd (miss (0 ∷ 1 ∷ 2 ∷ 3 ∷ 11 ∷ 12 ∷ 13 ∷ 14 ∷ 15 ∷ 16 ∷ []) 9 tt e)
others_over ProofHeading e s = absurd (miss (0 ∷ 1 ∷ 2 ∷ 3 ∷ 11 ∷ 12 ∷ 13 ∷ 14 ∷ 15 ∷ 16 ∷ []) 10 tt e)
others_over (Schema n) e s = refl
others_over (Model k) e s = refl
others_over (Proof n j k) e s = refl
others_over (NoHeading k) e s = refl
others_over (BadLine k) e s = refl
others_over (TooMany k) e s = refl
