-- 02, No. 1: the converter.
use Rattle.std.specs.Prelude.{ℕ, List, [], leb, ℤ, pos, length, Ok, Err, Result}
use Rattle.stab.specs.Basic.{nat, ◌otherwise◌, scan}
use Rattle.stab.specs.Formula.{Row, row_at, Schema, small_enough}
use Rattle.stab.specs.Check.{whole_unless, at_unless, holds, root_fits}
use Rattle.stab.specs.Lent.{lent_schema}
use Rattle.stab.specs.Text.{padded}
use Rattle.stab.specs.declared.SchemaHeader.{SchemaHeader}
use Rattle.stab.specs.declared.Refusal.TheVariants.{TableTooShort, TooMany, Root, IllFormed, TooLarge, Plain}
use Rattle.stab.specs.Finding.{Finding}
use Rattle.stab.specs.declared.Refused.{Refused}
use Rattle.wide.specs.WideFormula.{wide_formula, is_wide_outer, wide_formed, wide_small}
use Rattle.wide.specs.Plain.{image, plain_rows, columns}

-- What the converter is lent: a schema of wide rows; how many numbers the result table has room for.
pub record WideSchema : Type 0 where
  pub schema : Schema
  pub room : ℕ

-- the same as it is lent
abbrev pub lent_wide : List ℤ → SchemaHeader → ℕ → WideSchema
lent_wide wide h room = record { schema = lent_schema wide h; room = room }

-- the numbers of the plain rows
unfoldable pub plain_table : WideSchema → List ℤ
plain_table W = columns (plain_rows (row_at W.schema.table) W.schema.rows)

-- how many plain rows there are
unfoldable pub plain_count : WideSchema → ℕ
plain_count W = length (plain_rows (row_at W.schema.table) W.schema.rows)

-- the row that stands for the wide root
unfoldable pub plain_root : WideSchema → ℕ
plain_root W = (image (row_at W.schema.table) (nat W.schema.root)).own

-- each 7 ill-formed, then 8 too large or deep
unfoldable pub wide_row_refusal : (ℕ → Row) → ℕ → Finding
wide_row_refusal rows r = at_unless (wide_formed rows r) IllFormed r otherwise at_unless (wide_small rows r) TooLarge r

-- 6, each row, and 6 again "if the root is not outer"
unfoldable pub wide_refusal : Schema → Finding
wide_refusal S =
    whole_unless (root_fits S.rows S.root S.least) Root otherwise
    scan (wide_row_refusal (row_at S.table)) S.rows otherwise
    whole_unless (is_wide_outer (wide_formula S)) Root

-- "23 .. if the plain rows pass 1,024 or one is too large or deep"
unfoldable pub plain_refusal : WideSchema → Finding
plain_refusal W =
    whole_unless (leb (plain_count W) 1024) Plain otherwise
    scan (λ r. whole_unless (small_enough (row_at (plain_table W)) r) Plain) (plain_count W)

-- "Result tables .. fall first under 2 as in reading"; 2, 5, 6, 7, 8, 6; "23, after 8 and both places of 6"
unfoldable pub convert_refusal : WideSchema → Finding
convert_refusal W =
    at_unless (leb 4096 W.room) TableTooShort 0 otherwise
    whole_unless (holds W.schema.table 4 W.schema.rows) TableTooShort otherwise
    whole_unless (leb W.schema.rows 1024) TooMany otherwise
    wide_refusal W.schema otherwise
    plain_refusal W

-- "root, least or n and the counts are given as there": as in reading a schema
unfoldable pub converted_by : Finding → WideSchema → Result SchemaHeader Refused
converted_by (Ok u) W = Ok (record { root = pos (plain_root W); least = W.schema.least; rows = plain_count W })
converted_by (Err r) W = Err r

unfoldable pub converted : WideSchema → Result SchemaHeader Refused
converted W = converted_by (convert_refusal W) W

-- the lent result table: 0 past the last row, all 0 after a refusal
unfoldable pub converted_table_by : Finding → WideSchema → List ℤ
converted_table_by (Ok u) W = padded (pos 0) W.room (plain_table W)
converted_table_by (Err r) W = padded (pos 0) W.room []

unfoldable pub converted_table : WideSchema → List ℤ
converted_table W = converted_table_by (convert_refusal W) W

-- the plain schema, in a table that starts with its rows
abbrev pub plain_in : WideSchema → List ℤ → Schema
plain_in W table = record { table = table; rows = plain_count W; root = pos (plain_root W); least = W.schema.least }

-- the schema that the converter gives where it turns nothing away
abbrev pub plain_schema : WideSchema → Schema
plain_schema W = plain_in W (converted_table W)
