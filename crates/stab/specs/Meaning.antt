-- 01, "What a formula means", first paragraph.
use Rattle.std.specs.Prelude.{ℕ, zero, suc, Bool, true, false, not, ℤ, pos, ◌+ℤ◌, ◌-ℤ◌}
use Rattle.stab.specs.Basic.{◌and◌, ◌or◌, nat}
use Rattle.stab.specs.Formula.{Op, conj, disj, Base, nothing, parameter, index, Formula, const, lit, join, iter}

-- "An assignment gives true or false to each symbol at each whole number, negative ones included."
abbrev pub Assignment : Type 0
Assignment = ℤ → ℤ → Bool

-- what c is added to
unfoldable pub base : ℕ → ℤ → Base → ℤ
base n i nothing = pos 0
base n i parameter = pos n
base n i index = i

-- a literal's value, from its symbol's
unfoldable pub signed : Bool → Bool → Bool
signed true v = v
signed false v = not v

unfoldable pub op : Op → Bool → Bool → Bool
op conj v w = v and w
op disj v w = v or w

-- "An empty range makes a big and true, a big or false."
unfoldable pub empty : Op → Bool
empty conj = true
empty disj = false

-- p at b, b + 1, .. b + (k - 1), combined
unfoldable pub over : Op → (ℤ → Bool) → ℤ → ℕ → Bool
over o p b zero = empty o
over o p b (suc k) = op o (over o p b k) (p (b +ℤ pos k))

-- how many whole numbers there are from b up to e
unfoldable pub range_size : ℤ → ℤ → ℕ
range_size b e = nat ((e -ℤ b) +ℤ pos 1)

-- the value of f at n, "any natural number", and i, which can be any whole number, since b and c can
unfoldable pub value : Assignment → ℕ → Formula → ℤ → Bool
value σ n (const v) i = v
value σ n (lit v s x c) i = signed v (σ s (base n i x +ℤ c))
value σ n (join o f g) i = op o (value σ n f i) (value σ n g i)
value σ n (iter o f b c) i = over o (value σ n f) b (range_size b (pos n -ℤ c))

-- the value of an outer formula, which no i changes
unfoldable pub truth : Assignment → ℕ → Formula → Bool
truth σ n f = value σ n f (pos 0)
