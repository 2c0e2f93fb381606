use Prim.Native.Nat.{ℕ}
use mathlib.Core.Path.{subst}
use Rattle.text.specs.Rows.{PartOf, RowEnded}
use Rattle.text.specs.declared.rows.Part.{Part}
use Rattle.text.proofs.RowLaws.{found_nothing, found_at, row_bad, row_short, row_long}
use borrow.Author.Rules.{rules}
use Rattle.text.proofs.rows.row_at.Statement.{statement}
use Rattle.text.proofs.rows.row_at.Tie as tie

numbers-requires : tie.Need-numbers-requires
numbers-requires c κs = search rules

enum_told-1 : tie.Need-enum_told-1
enum_told-1 c = search rules

enum_known-end : tie.Need-enum_known-end
enum_known-end c = search rules

overflow_add-to : tie.Need-overflow_add-to
overflow_add-to c = search rules

enum_told-in-Open : tie.Need-enum_told-in-Open
enum_told-in-Open c = search rules

shape_of-table-in-Bad : tie.Need-shape_of-table-in-Bad
shape_of-table-in-Bad c = search rules

returns-in-Bad : tie.Need-returns-in-Bad
returns-in-Bad c =
    let a = c.args in
    let r = subst (λ (x : Part). PartOf a.text.now a.at a.table.now a.to a.w c.numbers.new.table x) c.in-Bad.is c.numbers.ensures.0 in
    (found_nothing a.text.now a.at a.table.now a.to a.w c.numbers.new.table (row_bad a.text.now a.at a.table.now a.to a.w c.numbers.new.table r.0), c.numbers.ensures.1)

shape_of-table-then-end-to : tie.Need-shape_of-table-then-end-to
shape_of-table-then-end-to c = search rules

returns-then-end-to : tie.Need-returns-then-end-to
returns-then-end-to c =
    let a = c.args in
    let r = subst (λ (x : Part). PartOf a.text.now a.at a.table.now a.to a.w c.numbers.new.table x) c.in-Ended.is c.numbers.ensures.0 in
    let e = subst (λ (k : ℕ). RowEnded a.text.now a.at a.table.now a.to c.numbers.new.table k c.in-Ended.next) c.if-end-to.true r.0 in
    (found_at a.text.now a.at a.table.now a.to a.w c.numbers.new.table _ e, c.numbers.ensures.1)

shape_of-table-else-end-to : tie.Need-shape_of-table-else-end-to
shape_of-table-else-end-to c = search rules

returns-else-end-to : tie.Need-returns-else-end-to
returns-else-end-to c =
    let a = c.args in
    let r = subst (λ (x : Part). PartOf a.text.now a.at a.table.now a.to a.w c.numbers.new.table x) c.in-Ended.is c.numbers.ensures.0 in
    (found_nothing a.text.now a.at a.table.now a.to a.w c.numbers.new.table (row_short a.text.now a.at a.table.now a.to a.w c.numbers.new.table _ _ c.if-end-to.false r.0), c.numbers.ensures.1)

shape_of-table-in-Open : tie.Need-shape_of-table-in-Open
shape_of-table-in-Open c = search rules

returns-in-Open : tie.Need-returns-in-Open
returns-in-Open c =
    let a = c.args in
    let r = subst (λ (x : Part). PartOf a.text.now a.at a.table.now a.to a.w c.numbers.new.table x) c.in-Open.is c.numbers.ensures.0 in
    (found_nothing a.text.now a.at a.table.now a.to a.w c.numbers.new.table (row_long a.text.now a.at a.table.now a.to a.w c.numbers.new.table _ r), c.numbers.ensures.1)

pub row_at_spec : {M : Type 1} → statement M
row_at_spec =
    tie.close
    (tie.spec
    numbers-requires
    enum_told-1
    enum_known-end
    overflow_add-to
    enum_told-in-Open
    shape_of-table-in-Bad
    returns-in-Bad
    shape_of-table-then-end-to
    returns-then-end-to
    shape_of-table-else-end-to
    returns-else-end-to
    shape_of-table-in-Open
    returns-in-Open)
