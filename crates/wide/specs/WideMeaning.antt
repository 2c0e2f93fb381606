-- 02, No. 1: what a wide formula means.
use Rattle.std.specs.Prelude.{ℕ, Bool, true, false, not, ℤ, pos, ◌+ℤ◌, ◌-ℤ◌}
use Rattle.stab.specs.Basic.{◌implies◌}
use Rattle.stab.specs.Meaning.{Assignment, base, signed, op, over, range_size}
use Rattle.wide.specs.WideFormula.{Wide, const, lit, join, iter, neg, imp, equiv}

-- the two values are the same
unfoldable pub same : Bool → Bool → Bool
same true w = w
same false w = not w

-- "equivalent": the sides have the same value (true); "exclusive or": they have not (false)
unfoldable pub same_as : Bool → Bool → Bool → Bool
same_as true v w = same v w
same_as false v w = not (same v w)

unfoldable pub wide_value : Assignment → ℕ → Wide → ℤ → Bool
wide_value σ n (const v) i = v
wide_value σ n (lit v s x c) i = signed v (σ s (base n i x +ℤ c))
wide_value σ n (join o f g) i = op o (wide_value σ n f i) (wide_value σ n g i)
wide_value σ n (iter o f b c) i = over o (wide_value σ n f) b (range_size b (pos n -ℤ c))
wide_value σ n (neg f) i = not (wide_value σ n f i)
wide_value σ n (imp f g) i = wide_value σ n f i implies wide_value σ n g i
wide_value σ n (equiv v f g) i = same_as v (wide_value σ n f i) (wide_value σ n g i)

-- the value of an outer formula, which no i changes
unfoldable pub wide_truth : Assignment → ℕ → Wide → Bool
wide_truth σ n f = wide_value σ n f (pos 0)
