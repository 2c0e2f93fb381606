-- What the value of a formula row asks: the rows up to it are well formed, n is not over 9999, the pairs are sorted.
use Rattle.std.specs.Prelude.{ℕ, ◌+◌, ◌≤◌, ◌<◌, ◌≡◌, Bool, true, false, List, ℤ, ◌+ℤ◌}
use Rattle.stab.specs.Basic.{nat}
use Rattle.stab.specs.Formula.{Op, conj, disj, Row, row_at, base_of, offset}
use Rattle.stab.specs.Meaning.{Assignment, base}
use Rattle.formula.specs.Facts.{AllFormed}
use Rattle.pairs.specs.Pairs.{Sorted}

pub record Readable (schema : List ℤ) (f n : ℕ) (pairs : List ℤ) (count : ℕ) : Type 0 where
  pub row : f < 1024
  pub formed : AllFormed (row_at schema) (f + 1)
  pub width : n ≤ 9999
  pub few : count ≤ 4096
  pub sorted : Sorted pairs count

-- row f is a literal or a negated literal
pub record IsLiteral (schema : List ℤ) (f : ℕ) : Type 0 where
  pub low : 2 ≤ nat (row_at schema f).kind
  pub high : nat (row_at schema f).kind < 4

-- columns b and c of row f are -9999..9999
pub record Iterates (schema : List ℤ) (f : ℕ) : Type 0 where
  pub start : offset (row_at schema f).b ≡ true
  pub end : offset (row_at schema f).c ≡ true

-- or where `any` is set, and where it is not
unfoldable pub op_of : Bool → Op
op_of true = disj
op_of false = conj

-- the value at n and i of the symbol of a literal's row
unfoldable pub symbol_value : Assignment → ℕ → Row → ℤ → Bool
symbol_value σ n r i = σ r.a (base n i (base_of r.b) +ℤ r.c)
