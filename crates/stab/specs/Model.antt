-- 01, "Model, texts, lines", first paragraph, and "Turning records away": checking a model.
use Rattle.std.specs.Prelude.{ℕ, zero, suc, ◌+◌, ◌*◌, Bool, true, false, List, leb, ℤ, pos, neg_ℤ, get_or}
use Rattle.std.specs.Int.Signed.{le_z, lt_z}
use Rattle.stab.specs.Basic.{◌and◌, ◌or◌, eq_z, within, nat, ◌otherwise◌, scan}
use Rattle.stab.specs.Formula.{Schema, schema_formula}
use Rattle.stab.specs.Meaning.{Assignment, truth}
use Rattle.stab.specs.Check.{whole_unless, at_unless, holds, schema_refusal, verdict}
use Rattle.stab.specs.declared.Refusal.TheVariants.{TableTooShort, TooMany, Pair, Width, False}
use Rattle.stab.specs.Finding.{Verdict, accept, Finding}

-- What the model check is lent: a schema, n and a table of pairs, with how many pairs it is said to hold.
pub record Model : Type 0 where
  pub schema : Schema
  pub n : ℤ
  pub pairs : List ℤ
  pub pair_rows : ℕ

unfoldable pub pair_symbol : List ℤ → ℕ → ℤ
pair_symbol t k = get_or t (2 * k) (pos 0)

unfoldable pub pair_index : List ℤ → ℕ → ℤ
pair_index t k = get_or t (2 * k + 1) (pos 0)

-- "symbol 0..255, index -29997..29997"
unfoldable pub pair_in_range : List ℤ → ℕ → Bool
pair_in_range t k = within (pos 0) (pos 255) (pair_symbol t k) and within (neg_ℤ (pos 29997)) (pos 29997) (pair_index t k)

-- one pair stands before another: by symbol, then by index
unfoldable pub pair_before : ℤ → ℤ → ℤ → ℤ → Bool
pair_before s i t j = lt_z s t or eq_z s t and lt_z i j

-- "strictly ascending": pair k stands after the one before it
unfoldable pub pair_follows : List ℤ → ℕ → Bool
pair_follows t zero = true
pair_follows t (suc k) = pair_before (pair_symbol t k) (pair_index t k) (pair_symbol t (suc k)) (pair_index t (suc k))

-- pair k is the pair of s and i
unfoldable pub is_pair : List ℤ → ℤ → ℤ → ℕ → Bool
is_pair t s i k = eq_z (pair_symbol t k) s and eq_z (pair_index t k) i

-- the pair of s and i is among the first n pairs
unfoldable pub listed : List ℤ → ℕ → ℤ → ℤ → Bool
listed t zero s i = false
listed t (suc n) s i = is_pair t s i n or listed t n s i

-- "true pairs (symbol, index) ..; every other pair is false"
unfoldable pub assignment : Model → Assignment
assignment M = listed M.pairs M.pair_rows

-- "18 pair out of order or range, place its row"
unfoldable pub pair_refusal : List ℤ → ℕ → Finding
pair_refusal t k = at_unless (pair_in_range t k and pair_follows t k) Pair k

-- the schema is true at n under the pairs' assignment
unfoldable pub satisfied : Model → Bool
satisfied M = truth (assignment M) (nat M.n) (schema_formula M.schema)

-- "2, 5, 6, 7, 8 likewise over schema rows (2 and 5 also over pairs); 18 ..; 19 n below least or over 9999; 20 the schema is false (both -1)"
unfoldable pub model_refusal : Model → Finding
model_refusal M =
    whole_unless (holds M.schema.table 4 M.schema.rows and holds M.pairs 2 M.pair_rows) TableTooShort otherwise
    whole_unless (leb M.schema.rows 1024 and leb M.pair_rows 4096) TooMany otherwise
    schema_refusal M.schema otherwise
    scan (pair_refusal M.pairs) M.pair_rows otherwise
    whole_unless (le_z M.schema.least M.n and le_z M.n (pos 9999)) Width otherwise
    whole_unless (satisfied M) False

-- "a model has both counts 0"
unfoldable pub check_model : Model → Verdict
check_model M = verdict (model_refusal M) (accept 0 0)
