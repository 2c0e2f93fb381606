-- 02, No. 14: how many tables of each length are on the list, as the definitions give them.
use mathlib.Core.Path.{◌≡◌, refl}
use lib.ListN.{length}
use Rattle.stab.specs.Basic.{◌and◌, ◌or◌, eq_z, within, nat, below}
use Rattle.stab.specs.Formula.{row_at, kind_of, base_of, part_if, part, decode, tree_n, tree, on_index, loose, fixed, is_body, is_outer, mixes, offset, well_formed_as, well_formed}
use Rattle.small.specs.Small.{small_as, is_small, all_small, on_list, over_each, row_of, literal_rows, junction_rows, iteration_rows, rows_for, extended, extended_all, tables, filtered, small_tables}

pub count_1 : length (small_tables 1) ≡ 14
unfolding ◌and◌ ◌or◌ eq_z within nat below row_at kind_of base_of part_if part decode tree_n tree on_index loose fixed is_body is_outer mixes offset well_formed_as well_formed small_as is_small all_small on_list over_each row_of literal_rows junction_rows iteration_rows rows_for extended extended_all tables filtered small_tables
count_1 = refl

pub count_2 : length (small_tables 2) ≡ 340
unfolding ◌and◌ ◌or◌ eq_z within nat below row_at kind_of base_of part_if part decode tree_n tree on_index loose fixed is_body is_outer mixes offset well_formed_as well_formed small_as is_small all_small on_list over_each row_of literal_rows junction_rows iteration_rows rows_for extended extended_all tables filtered small_tables
count_2 = refl

pub count_3 : length (small_tables 3) ≡ 10384
unfolding ◌and◌ ◌or◌ eq_z within nat below row_at kind_of base_of part_if part decode tree_n tree on_index loose fixed is_body is_outer mixes offset well_formed_as well_formed small_as is_small all_small on_list over_each row_of literal_rows junction_rows iteration_rows rows_for extended extended_all tables filtered small_tables
count_3 = refl
