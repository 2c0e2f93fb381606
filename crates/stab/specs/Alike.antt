-- 01, "What a formula means", second paragraph: lowered by k, a body's instance at n - c; and 02, No. 4: when two formulas are alike.
use Rattle.std.specs.Prelude.{Bool, true, false, ℤ, ◌+ℤ◌, ◌-ℤ◌}
use Rattle.stab.specs.Basic.{◌and◌, ◌or◌, eq_z}
use Rattle.stab.specs.Formula.{Op, conj, disj, Base, nothing, parameter, index, Formula, const, lit, join, iter}

-- "n + c in f stands as n + (c - k)"
unfoldable pub lower_base : ℤ → Base → ℤ → ℤ
lower_base k nothing c = c
lower_base k parameter c = c -ℤ k
lower_base k index c = c

-- f lowered by k: "and the limit n - c as n - (c + k)". A body is not lowered; 01's "Bodies agree exactly" is amended by `alike`.
unfoldable pub lower : ℤ → Formula → Formula
lower k (const v) = const v
lower k (lit v s x c) = lit v s x (lower_base k x c)
lower k (join o f g) = join o (lower k f) (lower k g)
lower k (iter o f b c) = iter o f b (c +ℤ k)

unfoldable pub instance_lit : ℤ → Bool → ℤ → Base → ℤ → Formula
instance_lit c v s nothing d = lit v s nothing d
instance_lit c v s parameter d = lit v s parameter d
instance_lit c v s index d = lit v s parameter (d -ℤ c)

-- a body's instance at n - c: "each i + d stands as n + (d - c)"
unfoldable pub instance : ℤ → Formula → Formula
instance c (const v) = const v
instance c (lit v s x d) = instance_lit c v s x d
instance c (join o f g) = join o (instance c f) (instance c g)
instance c (iter o f b e) = iter o f b e

unfoldable pub eq_bool : Bool → Bool → Bool
eq_bool true true = true
eq_bool true false = false
eq_bool false true = false
eq_bool false false = true

unfoldable pub eq_op : Op → Op → Bool
eq_op conj conj = true
eq_op conj disj = false
eq_op disj conj = false
eq_op disj disj = true

unfoldable pub eq_base : Base → Base → Bool
eq_base nothing nothing = true
eq_base nothing parameter = false
eq_base nothing index = false
eq_base parameter nothing = false
eq_base parameter parameter = true
eq_base parameter index = false
eq_base index nothing = false
eq_base index parameter = false
eq_base index index = true

-- "found by going down the two formulas side by side"; 02, No. 4: two formulas are "alike if they agree after swapping the sides of any and or or, also inside bodies"
unfoldable pub alike : Formula → Formula → Bool
alike (const v) (const w) = eq_bool v w
alike (const v) (lit w t y d) = false
alike (const v) (join p h k) = false
alike (const v) (iter p h b d) = false
alike (lit v s x c) (const w) = false
alike (lit v s x c) (lit w t y d) = eq_bool v w and eq_z s t and eq_base x y and eq_z c d
alike (lit v s x c) (join p h k) = false
alike (lit v s x c) (iter p h b d) = false
alike (join o f g) (const w) = false
alike (join o f g) (lit w t y d) = false
alike (join o f g) (join p h k) = eq_op o p and (alike f h and alike g k or alike f k and alike g h)
alike (join o f g) (iter p h b d) = false
alike (iter o f b c) (const w) = false
alike (iter o f b c) (lit w t y d) = false
alike (iter o f b c) (join p h k) = false
alike (iter o f b c) (iter p h d e) = eq_op o p and alike f h and eq_z b d and eq_z c e
