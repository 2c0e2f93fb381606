-- The search in parts: what is found before the pairs are counted, and the pairs of an assignment from their keys.
use Rattle.std.specs.Prelude.{ℕ, ◌+◌, ◌-◌, ◌*◌, ◌/◌, ◌%◌, ◌^◌, ◌<◌, ◌≤◌, Bool, List, [], ◌∷◌, eqb, leb, ℤ, pos, length, set}
use Rattle.std.proofs.Math.Option.{Option}
use Rattle.std.specs.Int.Signed.{le_z}
use Rattle.stab.specs.Basic.{◌and◌, nat, ◌otherwise◌}
use Rattle.stab.specs.Formula.{row_at, tree}
use Rattle.stab.specs.Meaning.{truth}
use Rattle.stab.specs.Check.{whole_unless, at_unless, holds, schema_refusal}
use Rattle.stab.specs.Occurs.{Wire, occurring, table}
use Rattle.stab.specs.Text.{padded}
use Rattle.stab.specs.declared.Refusal.TheVariants.{TableTooShort, TooMany, Width, Wires}
use Rattle.found.specs.Shown.{Shown}
use Rattle.stab.specs.Finding.{Finding}
use Rattle.formula.specs.Rows.{Passed}
use Rattle.pairs.specs.Index.{unbiased}
use Rattle.found.specs.Find.{Query, wires, among, first_from, found_by, given_by}

-- ---- refusals

-- 2 and 5
unfoldable pub tables_refusal : ℕ → List ℤ → ℕ → Finding
tables_refusal room schema s =
    at_unless (leb 8192 room) TableTooShort 0 otherwise
    whole_unless (holds schema 4 s) TableTooShort otherwise
    whole_unless (leb s 1024) TooMany

-- those before 30
unfoldable pub query_refusal : Query → Finding
query_refusal Q =
    tables_refusal Q.room Q.schema.table Q.schema.rows otherwise
    schema_refusal Q.schema otherwise
    whole_unless (le_z Q.schema.least Q.n and le_z Q.n (pos 9999)) Width

-- 30
unfoldable pub wires_refusal : Query → Finding
wires_refusal Q = whole_unless (leb (length (wires Q)) 16) Wires

-- what the search asks of a query that has passed so far, and of what is kept of its rows
pub record Ready (Q : Query) (facts : List ℕ) : Type 0 where
  pub row : nat Q.schema.root < 1024
  pub passed : Passed (row_at Q.schema.table) facts (nat Q.schema.root + 1)
  pub width : nat Q.n ≤ 9999
  pub room : 8192 ≤ Q.room

-- the answer to such a query, and the lent table
abbrev pub search_answer : Query → Shown
search_answer Q = found_by (wires_refusal Q) Q

abbrev pub search_table : Query → List ℤ
search_table Q = padded (pos 0) Q.room (table (given_by (wires_refusal Q) Q))

-- the first model of row `root` at n
unfoldable pub first_at : List ℤ → ℕ → ℕ → Option (List Wire)
first_at schema root n = first_from (λ ws. truth (among ws) n (tree (row_at schema) root)) [] (occurring n (tree (row_at schema) root))

-- ---- pairs

-- the pair that a key stands for
unfoldable pub wire_of : ℕ → Wire
wire_of key = record { symbol = pos (key / 131072); index = unbiased (key % 131072) }

unfoldable pub wires_of : List ℕ → List Wire
wires_of [] = []
wires_of (k ∷ ks) = wire_of k ∷ wires_of ks

-- the table with a pair at place k
unfoldable pub pair_put : List ℤ → ℕ → Wire → List ℤ
pair_put t k w = set (set t (2 * k) w.symbol) (2 * k + 1) w.index

-- assignment number m makes pair k of `count` true
unfoldable pub is_true : ℕ → ℕ → ℕ → Bool
is_true m count k = eqb (m / 2 ^ (count - 1 - k) % 2) 1
