use mathlib.Core.Bool.{not}
use mathlib.Core.Path.{sym, ◌∙◌, ap}
use Prim.Native.Nat.{ℕ, ◌-◌}
use borrow.Author.Rules.{rules}
use Rattle.stab.proofs.Bools.{and_both, and_first_false, and_second_false, if_true, if_false}
use Rattle.signed.proofs.Signs.{read_back}
use Rattle.formula.specs.Cells.{row_of}
use Rattle.formula.specs.Rows.{literal_judged}
use Rattle.std.specs.Prelude.{Some}
use Rattle.formula.proofs.RowLaws.{fails, passes, bit_small}
use Rattle.formula.proofs.rows.literal.Statement.{statement}
use Rattle.formula.proofs.rows.literal.Tie as tie

below-requires : tie.Need-below-requires
below-requires c κs = search rules

returns-then-not-below : tie.Need-returns-then-not-below
unfolding literal_judged row_of
returns-then-not-below c =
    sym (if_false _ _ _ (and_first_false _ _ (rw (read_back c.args.w.a c.struct_told-1.given.1.0.1) at (fails _ c.below.ensures (ap not c.if-not-below.true)))))

below-requires-2 : tie.Need-below-requires-2
below-requires-2 c κs = search rules

returns-then-not-below-2 : tie.Need-returns-then-not-below-2
unfolding literal_judged row_of
returns-then-not-below-2 c =
    sym
    (if_false _ _ _
    (and_second_false _ _ (and_first_false _ _ (rw (read_back c.args.w.b c.struct_told-1.given.1.1.0.1) at (fails _ c.below-2.ensures (ap not c.if-not-below-2.true))))))

is_offset-requires : tie.Need-is_offset-requires
is_offset-requires c κs = search rules

returns-then-not-is_offset : tie.Need-returns-then-not-is_offset
unfolding literal_judged row_of
returns-then-not-is_offset c =
    sym
    (if_false _ _ _
    (and_second_false _ _ (and_second_false _ _ (rw (read_back c.args.w.c c.struct_told-1.given.1.1.1.0.1) at (fails _ c.is_offset.ensures (ap not c.if-not-is_offset.true))))))

on_index-loose-requires : tie.Need-on_index-loose-requires
on_index-loose-requires c κs = search rules

overflow_sub-result : tie.Need-overflow_sub-result
overflow_sub-result c = rw c.on_index-loose.ensures (bit_small _)

returns : tie.Need-returns
unfolding literal_judged row_of
returns c =
    ap (λ (n : ℕ). Some (record { size = 1; depth = 1; loose = n; fixed = 1 - n })) (rw (read_back c.args.w.b c.struct_told-1.given.1.1.0.1) at c.on_index-loose.ensures)
    ∙ sym
    (if_true _ _ _
    (and_both _ _
    (rw (read_back c.args.w.a c.struct_told-1.given.1.0.1) at (passes _ c.below.ensures (ap not c.if-not-below.false)))
    (and_both _ _
    (rw (read_back c.args.w.b c.struct_told-1.given.1.1.0.1) at (passes _ c.below-2.ensures (ap not c.if-not-below-2.false)))
    (rw (read_back c.args.w.c c.struct_told-1.given.1.1.1.0.1) at (passes _ c.is_offset.ensures (ap not c.if-not-is_offset.false))))))

pub literal_spec : {M : Type 1} → statement M
literal_spec =
    tie.close
    (tie.spec
    below-requires
    returns-then-not-below
    below-requires-2
    returns-then-not-below-2
    is_offset-requires
    returns-then-not-is_offset
    on_index-loose-requires
    overflow_sub-result
    returns)
