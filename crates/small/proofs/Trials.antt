-- Trials of the definitions. Each expected answer is worked out from the text of 02.
use Prim.Native.Nat.{ℕ}
use mathlib.Core.Path.{◌≡◌, refl}
use mathlib.Core.List.{List, [], ◌∷◌, ◌++◌}
use lib.IntN.{ℤ, pos, negsuc}
use Rattle.stab.specs.Basic.{◌and◌, ◌or◌, eq_z, within, nat, below, ◌otherwise◌, unless}
use Rattle.stab.specs.Formula.{row_at, kind_of, base_of, part_if, part, decode, tree_n, tree, on_index, loose, fixed, is_body, is_outer, mixes, offset, well_formed_as, well_formed}
use Rattle.stab.specs.Check.{whole_unless, holds}
use Rattle.stab.specs.Text.{padded}
use Rattle.std.specs.Prelude.{None, Ok, Result}
use Rattle.small.specs.declared.Next.TheVariants.{Table, Last}
use Rattle.stab.specs.Finding.{refuse}
use Rattle.stab.specs.declared.Refused.{Refused}
use Rattle.small.specs.declared.Next.{Next}
use Rattle.stab.specs.declared.Refusal.TheVariants.{TableTooShort, NotListed}
use Rattle.small.specs.Small.{small_as, is_small, all_small, on_list, table_before, over_each, row_of, literal_rows, junction_rows, iteration_rows, rows_for, extended, extended_all, tables, filtered, small_tables, first_after, next_table, next_refusal, next_or, next_by, next_small, numbers_or, next_numbers, next_small_table}

abbrev row : ℕ → ℕ → ℕ → ℤ → List ℤ
row kind a b c = pos kind ∷ pos a ∷ pos b ∷ c ∷ []

abbrev zeros : ℕ → List ℤ
zeros kind = row kind 0 0 (pos 0)

-- what a table of one or two rows is answered, and what is given
abbrev answered : ℕ → List ℤ → Result Next Refused → List ℤ → Type 0
answered n t r u = (next_small n t 8 ≡ r) × (next_small_table n t 8 ≡ u)

pub trials :
    -- true, then false, then the literal at -1: -1 comes before 0
    answered 1 (zeros 0) (Ok Table) (zeros 1 ++ zeros 0)
    × answered 1 (zeros 1) (Ok Table) (row 2 0 0 (negsuc 0) ++ zeros 0)
    -- after n + 1 comes no literal on i, which is not outer, but a negated one
    × answered 1 (row 2 0 1 (pos 1)) (Ok Table) (row 3 0 0 (negsuc 0) ++ zeros 0)
    × answered 1 (row 3 0 1 (pos 1)) (Ok Last) (zeros 0 ++ zeros 0)
    -- numbers past the rows are not read
    × answered 1 (zeros 0 ++ zeros 9) (Ok Table) (zeros 1 ++ zeros 0)
    -- an iteration's c is 0 or 1; after big or over true with c 1 the first row grows
    × answered 2 (zeros 0 ++ zeros 7) (Ok Table) (zeros 0 ++ row 7 0 0 (pos 1))
    × answered 2 (zeros 0 ++ row 7 0 0 (pos 1)) (Ok Table) (zeros 1 ++ zeros 0)
    -- no body is a literal on n: after or of it with itself the first row grows
    × answered 2 (row 2 0 1 (pos 0) ++ row 5 0 0 (pos 0)) (Ok Table) (row 2 0 1 (pos 1) ++ zeros 0)
    × answered 2 (row 3 0 2 (pos 1) ++ row 7 0 0 (pos 1)) (Ok Last) (zeros 0 ++ zeros 0)
    -- not on the list: an i that is not bound, symbol 1, offset 2, c 2, a first number other than 0, 4 rows, no row
    × answered 1 (row 2 0 2 (pos 0)) (refuse NotListed None) (zeros 0 ++ zeros 0)
    × answered 1 (row 2 1 0 (pos 0)) (refuse NotListed None) (zeros 0 ++ zeros 0)
    × answered 1 (row 2 0 0 (pos 2)) (refuse NotListed None) (zeros 0 ++ zeros 0)
    × answered 2 (row 2 0 2 (pos 0) ++ row 6 0 0 (pos 2)) (refuse NotListed None) (zeros 0 ++ zeros 0)
    × answered 2 (row 2 0 2 (pos 0) ++ row 6 0 1 (pos 0)) (refuse NotListed None) (zeros 0 ++ zeros 0)
    × answered 0 (zeros 0) (refuse NotListed None) (zeros 0 ++ zeros 0)
    × (next_small 4 (zeros 0 ++ zeros 0 ++ zeros 0 ++ zeros 0) 16 ≡ refuse NotListed None)
    -- a table too short goes first, the result table too
    × answered 2 (zeros 9) (refuse TableTooShort None) (zeros 0 ++ zeros 0)
    × (next_small 3 (zeros 0 ++ zeros 0 ++ zeros 0) 11 ≡ refuse TableTooShort None)
unfolding ◌and◌ ◌or◌ eq_z within nat below ◌otherwise◌ unless row_at kind_of base_of part_if part decode tree_n tree on_index loose fixed is_body is_outer mixes offset well_formed_as well_formed whole_unless holds padded small_as is_small all_small on_list table_before over_each row_of literal_rows junction_rows iteration_rows rows_for extended extended_all tables filtered small_tables first_after next_table next_refusal next_or next_by next_small numbers_or next_numbers next_small_table
trials =
    ((refl, refl), (refl, refl), (refl, refl), (refl, refl), (refl, refl), (refl, refl), (refl, refl), (refl, refl), (refl, refl), (refl, refl), (refl, refl), (refl, refl), (refl, refl), (refl, refl), (refl, refl), refl, (refl, refl), refl)
