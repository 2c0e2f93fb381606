-- What a test's answer says: of the test that was asked, and of a longer test that starts with it.
use mathlib.Core.Path.{◌≡◌, refl, sym, ◌∙◌}
use mathlib.Core.Bool.{Bool, true, false, true≢false, false≢true}
use Rattle.stab.specs.Basic.{◌and◌, ◌implies◌}
use Rattle.stab.proofs.Bools.{and_first_false, and_first_true}

-- ---- a longer test whose first part is known

pub implies_made : (a b : Bool) → a ≡ true → b ≡ (a implies b)
unfolding ◌implies◌
implies_made true b h = refl
implies_made false b h = absurd (false≢true h)

pub implies_spared : (a b : Bool) → a ≡ false → true ≡ (a implies b)
unfolding ◌implies◌
implies_spared true b h = absurd (true≢false h)
implies_spared false b h = refl

-- ---- a conjunction, part by part: where it fails, and what its last part decides

pub first_fails : (a b : Bool) → a ≡ false → false ≡ (a and b)
first_fails a b h = sym (and_first_false a b h)

pub second_decides : (a b : Bool) → a ≡ true → b ≡ (a and b)
second_decides a b h = sym (and_first_true a b h)

pub second_fails : (a b c : Bool) → a ≡ true → b ≡ false → false ≡ (a and b and c)
second_fails a b c h k = first_fails b c k ∙ second_decides a (b and c) h

pub third_decides : (a b c : Bool) → a ≡ true → b ≡ true → c ≡ (a and b and c)
third_decides a b c h k = second_decides b c k ∙ second_decides a (b and c) h
