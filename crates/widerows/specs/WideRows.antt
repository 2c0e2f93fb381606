-- What the pass over wide rows works out for a row, and what holds of rows that passed.
use Rattle.std.specs.Prelude.{ℕ, ◌+◌, ◌*◌, ◌<◌, ◌≤◌, ◌≡◌, true, List, pos, length, if◌then◌else◌, None, Some, Option}
use Rattle.stab.specs.Basic.{◌and◌, eq_z, nat, below}
use Rattle.stab.specs.Check.{root_fits}
use Rattle.stab.specs.Formula.{Row, row_at, Schema}
use Rattle.wide.specs.WideFormula.{Wide, wide_tree, wide_size, wide_depth, wide_loose, wide_fixed, wide_formed, wide_small}
use Rattle.wide.specs.Convert.{wide_row_refusal}
use Rattle.formula.specs.Facts.{bit}
use Rattle.formula.specs.Rows.{facts_at, facts_table_by}
use Rattle.formula.specs.declared.rows.Facts.{Facts}

-- the four numbers of a wide formula
unfoldable pub wide_facts_of : Wide → Facts
wide_facts_of f = record { size = wide_size f; depth = wide_depth f; loose = bit (wide_loose f); fixed = bit (wide_fixed f) }

-- those of a not, by its part's
unfoldable pub not_facts : Facts → Facts
not_facts f = record { size = 1 + f.size; depth = 1 + f.depth; loose = f.loose; fixed = f.fixed }

-- row r, whose columns are w, is a not: a is a smaller row, b and c are 0
unfoldable pub not_judged : ℕ → Row → List ℕ → Option Facts
not_judged r w facts =
    if below r w.a and eq_z w.b (pos 0) and eq_z w.c (pos 0)
    then Some (not_facts (facts_at facts (nat w.a)))
    else None

-- row r is ill-formed, or has these four numbers
unfoldable pub wide_judged : (ℕ → Row) → ℕ → Option Facts
wide_judged rows r = if wide_formed rows r then Some (wide_facts_of (wide_tree rows r)) else None

-- the table after the pass over n rows: the numbers of each row, up to the first that is refused
unfoldable pub wide_table : (ℕ → Row) → List ℕ → ℕ → List ℕ
wide_table rows facts n = facts_table_by (wide_row_refusal rows) (wide_row_refusal rows) (λ r. wide_facts_of (wide_tree rows r)) facts n

-- the same where the root and the least value are looked at first
unfoldable pub wide_rows_table : Schema → List ℕ → List ℕ
wide_rows_table S facts = if root_fits S.rows S.root S.least then wide_table (row_at S.table) facts S.rows else facts

-- what holds of n rows that passed, and of the table that was lent for their numbers
pub record WidePassed (rows : ℕ → Row) (facts : List ℕ) (n : ℕ) : Type 0 where
  pub room : 4 * n ≤ length facts
  pub known : (r : ℕ) → r < n → facts_at facts r ≡ wide_facts_of (wide_tree rows r)
  pub formed : (r : ℕ) → r < n → wide_formed rows r ≡ true
  pub small : (r : ℕ) → r < n → wide_small rows r ≡ true
