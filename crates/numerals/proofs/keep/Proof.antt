use borrow.Author.Rules.{rules}
use mathlib.Core.Path.{sym, ◌∙◌, ap}
use lib.ListN.{set}
use Rattle.signed.proofs.Signs.{read_back}
use Rattle.numerals.proofs.Fields.{ends_space, ends_line, ends_neither}
use Rattle.numerals.proofs.Steps.{step_space, step_line, step_neither, kept_if, kept_not}
use Rattle.numerals.proofs.keep.Statement.{statement}
use Rattle.numerals.proofs.keep.Tie as tie

with_sign-requires : tie.Need-with_sign-requires
with_sign-requires c κs = search rules

put-requires : tie.Need-put-requires
put-requires c κs = search rules

shape_of-table-then-n-eq32 : tie.Need-shape_of-table-then-n-eq32
shape_of-table-then-n-eq32 c = search rules

returns-then-n-eq32 : tie.Need-returns-then-n-eq32
returns-then-n-eq32 c =
    let a = c.args in
    let z = c.with_sign in (
      sym (step_space a.n.end a.n.next c.if-n-eq32.true),
      c.put.ensures
          ∙ ap (set a.table.now a.k) (read_back _ z.type_inv ∙ z.ensures)
          ∙ sym (kept_if a.n.end a.table.now a.k _ (ends_space _ c.if-n-eq32.true)),
    )

with_sign-requires-then-n-eq10 : tie.Need-with_sign-requires-then-n-eq10
with_sign-requires-then-n-eq10 c κs = search rules

put-requires-then-n-eq10 : tie.Need-put-requires-then-n-eq10
put-requires-then-n-eq10 c κs = search rules

shape_of-table-then-n-eq10 : tie.Need-shape_of-table-then-n-eq10
shape_of-table-then-n-eq10 c = search rules

returns-then-n-eq10 : tie.Need-returns-then-n-eq10
returns-then-n-eq10 c =
    let a = c.args in
    let z = c.with_sign-then-n-eq10 in (
      sym (step_line a.n.end a.n.next c.if-n-eq32.false c.if-n-eq10.true),
      c.put-then-n-eq10.ensures
          ∙ ap (set a.table.now a.k) (read_back _ z.type_inv ∙ z.ensures)
          ∙ sym (kept_if a.n.end a.table.now a.k _ (ends_line _ c.if-n-eq10.true)),
    )

returns : tie.Need-returns
returns c =
    let a = c.args in (
      sym (step_neither a.n.end a.n.next c.if-n-eq32.false c.if-n-eq10.false),
      sym (kept_not a.n.end a.table.now a.k _ (ends_neither _ c.if-n-eq32.false c.if-n-eq10.false)),
    )

pub keep_spec : {M : Type 1} → statement M
keep_spec =
    tie.close
    (tie.spec
    with_sign-requires
    put-requires
    shape_of-table-then-n-eq32
    returns-then-n-eq32
    with_sign-requires-then-n-eq10
    put-requires-then-n-eq10
    shape_of-table-then-n-eq10
    returns-then-n-eq10
    returns)
