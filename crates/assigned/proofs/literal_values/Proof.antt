use Prim.Native.Nat.{ℕ, ◌-◌, ◌<◌, ◌≤◌}
use native.Mathlib.Omega.{arith}
use mathlib.Core.Path.{◌≡◌, refl, sym, ◌∙◌, ap}
use mathlib.Core.Bool.{Bool, true, false, not}
use mathlib.Core.List.{List}
use lib.Dec.{eqb}
use lib.ListN.{length, take}
use lib.Seq.{length-take-le}
use borrow.Author.Rules.{rules}
use Rattle.stab.specs.Formula.{Row, row_at, tree, well_formed}
use Rattle.stab.specs.Meaning.{signed, value}
use Rattle.pairs.specs.Index.{unbiased}
use Rattle.pairs.specs.Reading.{symbol_value}
use Rattle.value.proofs.Values.{value_literal}
use Rattle.found.specs.Keys.{key_of}
use Rattle.occurring.specs.Held.{wire_at}
use Rattle.assigned.specs.Words.{digit}
use Rattle.assigned.specs.Assignments.{place_of, keyed, values_from}
use Rattle.assigned.proofs.Blocks.{words_same}
use Rattle.assigned.proofs.KeyLaws.{keyed_at, keyed_elsewhere}
use Rattle.assigned.proofs.literal_values.Statement.{statement}
use Rattle.assigned.proofs.literal_values.Tie as tie

abbrev row : tie.Start → Row
row c = row_at c.args.schema.now c.args.f

abbrev ks : tie.Start → List ℕ
ks c = take c.args.count c.args.keys.now

long : (c : tie.Start) → length (ks c) ≡ c.args.count
long c = length-take-le _ _ c.requires.0.held

-- the value of the row's symbol in assignment number m
abbrev symbol : tie.Start → ℕ → Bool
symbol c m = symbol_value (keyed (ks c) m) c.args.n (row c) (unbiased c.args.i)

module _ (c : tie.After-place-k) where
  abbrev start : tie.Start
  start = c.before.before.before.before

  abbrev key : ℕ
  key = key_of (wire_at (row start) start.args.n (unbiased start.args.i))

  place_is : c.place-k.result ≡ place_of key (ks start)
  place_is = c.place-k.ensures ∙ ap (λ (k : ℕ). place_of k (ks start)) c.literal_key.ensures.0

  symbol_here : c.place-k.result < start.args.count → (m : ℕ) → digit m (start.args.count - 1 - c.place-k.result) ≡ symbol start m
  unfolding symbol_value wire_at
  symbol_here h m =
      let e : start.args.count - 1 - c.place-k.result ≡ length (ks start) - 1 - place_of key (ks start) = omega (arith, place_is, long start) in
      ap (digit m) e ∙ sym (keyed_at _ _ (ks start) m (omega (arith, place_is, long start)))

  symbol_nowhere : start.args.count ≤ c.place-k.result → (m : ℕ) → false ≡ symbol start m
  unfolding symbol_value wire_at
  symbol_nowhere h m = sym (keyed_elsewhere _ _ (ks start) m (omega (arith, place_is, long start)))

  value_is : (m : ℕ) → signed (eqb c.natural_at-held.result 2) (symbol start m) ≡ value (keyed (ks start) m) start.args.n (tree (row_at start.args.schema.now) start.args.f) (unbiased start.args.i)
  unfolding row_at
  value_is m =
      let kind = c.natural_at-held.ensures.0 in
      let formed : well_formed (row_at start.args.schema.now) start.args.f ≡ true = start.requires.0.formed _ (omega arith) in
      sym (value_literal _ _ formed _ kind (omega (arith, kind, start.requires.2.low)) (omega (arith, kind, start.requires.2.high)) _ _ _)

signed_false : (v : Bool) → not v ≡ signed v false
unfolding signed
signed_false true = refl
signed_false false = refl

overflow_mul-f : tie.Need-overflow_mul-f
overflow_mul-f c = search rules

natural_at-held-requires : tie.Need-natural_at-held-requires
natural_at-held-requires c κs = search rules

literal_key-requires : tie.Need-literal_key-requires
literal_key-requires c κs = search rules

place-k-requires : tie.Need-place-k-requires
place-k-requires c κs = search rules

overflow_sub-count : tie.Need-overflow_sub-count
overflow_sub-count c = search rules

overflow_sub-count-then-k-count : tie.Need-overflow_sub-count-then-k-count
overflow_sub-count-then-k-count c = search rules

digits-requires : tie.Need-digits-requires
digits-requires c κs = search rules

fill-requires : tie.Need-fill-requires
fill-requires c κs = search rules

returns-then-k-count : tie.Need-returns-then-k-count
unfolding values_from
returns-then-k-count c =
    c.digits.ensures ∙ words_same _ _ 64 (λ j. ap (signed _) (symbol_here c.before.before.before c.if-k-count.true _) ∙ value_is c.before.before.before _)

returns-else-k-count : tie.Need-returns-else-k-count
unfolding values_from
returns-else-k-count c =
    c.fill.ensures ∙ words_same _ _ 64 (λ j. signed_false _ ∙ ap (signed _) (symbol_nowhere c.before.before.before c.if-k-count.false _) ∙ value_is c.before.before.before _)

pub literal_values_spec : {M : Type 1} → statement M
literal_values_spec =
    tie.close
    (tie.spec
    overflow_mul-f
    natural_at-held-requires
    literal_key-requires
    place-k-requires
    overflow_sub-count
    overflow_sub-count-then-k-count
    digits-requires
    fill-requires
    returns-then-k-count
    returns-else-k-count)
