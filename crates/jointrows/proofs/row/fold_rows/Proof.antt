use Rattle.jointrows.proofs.Rows.{two_blocks, row_at_front, few_stay, held_stay, front_padded}
use Rattle.jointrows.specs.Kept.{both_proofs}
use Rattle.tidied.proofs.Foldings.{folding_agrees}
use Rattle.tidied.specs.Tidied.{new_number, Folding, folding}
use Rattle.signed.proofs.Tables.{cleared_padded}
use Rattle.stab.proofs.Bools.{if_true, if_false}
use Rattle.stab.specs.Text.{padded}
use lib.Seq.{length-take-le}
use lib.ListN.{length, replicate}
use lib.IntN.{ℤ, pos}
use mathlib.Core.List.{List, []}
use mathlib.Core.Path.{◌≡◌, refl, sym, ◌∙◌, ap}
use Prim.Native.Nat.{ℕ, ◌+◌, ◌*◌, ◌≤◌}
use native.Mathlib.Omega.{arith}
use borrow.Author.Tests.{le-leb, lt-leb}
use borrow.Author.Rules.{rules}
use Rattle.jointrows.proofs.row.fold_rows.Statement.{statement}
use Rattle.jointrows.proofs.row.fold_rows.Tie as tie

-- where the rows are folded
abbrev start : tie.After-fold-count → tie.Start
start c = c.before.before.before.before.before.before.before.before.before.before.before.before.before

abbrev proof : tie.After-fold-count → List ℤ
proof c = c.put_rows-2.new.table

abbrev stay : tie.After-fold-count → List ℤ
stay c = c.fold-count.new.out

abbrev both : tie.Start → List ℤ
both b =
    let a = b.args in
    both_proofs (new_number 0 a.first_numbers.now) a.first.now a.first_rows (new_number 0 a.second_numbers.now) a.second.now a.second_rows

-- what is folded is the rows of both
same : (c : tie.After-fold-count) →
    let a = (start c).args in
    folding a.schema.now a.s (proof c) (a.first_rows + a.second_rows) ≡ folding a.schema.now a.s (both (start c)) (a.first_rows + a.second_rows)
unfolding both_proofs
same c =
    let a = (start c).args in
    folding_agrees a.schema.now a.schema.now a.s (λ r l. refl) (proof c) (both (start c)) (a.first_rows + a.second_rows)
    (row_at_front (proof c) (both (start c)) (a.first_rows + a.second_rows)
    (two_blocks (replicate 8192 (pos 0)) c.put_rows.new.table (proof c) _ _ a.first_rows a.second_rows c.put_rows.ensures c.put_rows-2.ensures))

count_few : (c : tie.After-fold-count) → let a = (start c).args in c.fold-count.result ≤ a.first_rows + a.second_rows
count_few c =
    let a = (start c).args in
    omega (arith, c.fold-count.ensures.0, few_stay a.schema.now a.s (proof c) (a.first_rows + a.second_rows))

held : (c : tie.After-fold-count) → 4 * c.fold-count.result ≤ length (stay c)
held c = omega (arith, count_few c, (start c).requires.0.0, (start c).requires.0.1, c.fold-count.auto.out)

table_length : (c : tie.After-fold-count) →
    let a = (start c).args in
    length (folding a.schema.now a.s (proof c) (a.first_rows + a.second_rows)).table ≡ 4 * c.fold-count.result
table_length c =
    let a = (start c).args in
    held_stay a.schema.now a.s (proof c) (a.first_rows + a.second_rows) ∙ ap (λ (n : ℕ). 4 * n) (sym c.fold-count.ensures.0)

slice_bounds-put_rows-end : tie.Need-slice_bounds-put_rows-end
slice_bounds-put_rows-end c = search rules

put_rows-requires : tie.Need-put_rows-requires
put_rows-requires c κs = search rules

slice_bounds-put_rows-end-2 : tie.Need-slice_bounds-put_rows-end-2
slice_bounds-put_rows-end-2 c = search rules

put_rows-requires-2 : tie.Need-put_rows-requires-2
put_rows-requires-2 c κs = search rules

slice_bounds-fold-end : tie.Need-slice_bounds-fold-end
slice_bounds-fold-end c = search rules

overflow_add-first_rows : tie.Need-overflow_add-first_rows
overflow_add-first_rows c = search rules

slice_bounds-fold-end-2 : tie.Need-slice_bounds-fold-end-2
slice_bounds-fold-end-2 c = search rules

fold-count-requires : tie.Need-fold-count-requires
fold-count-requires c κs =
    ((c.requires.0.2, omega (arith, c.requires.0.0, c.requires.0.1), omega (arith, c.requires.0.0, c.requires.0.1, c.requires.0.4)), c.requires.1)

overflow_add-s : tie.Need-overflow_add-s
overflow_add-s c =
    omega (arith, count_few c.before.before.before, (start c.before.before.before).requires.0.2)

overflow_mul-end : tie.Need-overflow_mul-end
overflow_mul-end c = search rules

slice_bounds-stay-end : tie.Need-slice_bounds-stay-end
slice_bounds-stay-end c = search rules

slice_bounds-copy-end : tie.Need-slice_bounds-copy-end
slice_bounds-copy-end c =
    sym (length-take-le _ (stay c.before.before.before.before.before.before) (held c.before.before.before.before.before.before))

copy-requires : tie.Need-copy-requires
copy-requires c κs =
    omega (arith, length-take-le (4 * c.fold-count.result) (stay c.before.before.before.before.before.before) (held c.before.before.before.before.before.before), c.if-s-count-le1024.true, (start c.before.before.before.before.before.before).requires.0.3)

clear-requires : tie.Need-clear-requires
clear-requires c κs = search rules

clear-requires-else-s-count-le1024 : tie.Need-clear-requires-else-s-count-le1024
clear-requires-else-s-count-le1024 c κs = search rules

shape_of-numbers-then-s-count-le1024 : tie.Need-shape_of-numbers-then-s-count-le1024
shape_of-numbers-then-s-count-le1024 c = search rules

shape_of-out-then-s-count-le1024 : tie.Need-shape_of-out-then-s-count-le1024
shape_of-out-then-s-count-le1024 c = search rules

returns-then-s-count-le1024 : tie.Need-returns-then-s-count-le1024
returns-then-s-count-le1024 c =
    let b = start c.before.before.before.before.before.before.before.before.before.before.before in
    let fits = c.if-s-count-le1024.true in
    let e = same c.before.before.before.before.before.before.before.before.before.before.before in (
      c.fold-count.ensures.0 ∙ ap (λ (F : Folding). F.count) e,
      (
        front_padded (stay c.before.before.before.before.before.before.before.before.before.before.before) b.args.out.now _ _ _ (4 * c.fold-count.result) 8192 (c.fold-count.ensures.1.0 ∙ ap (λ (F : Folding). padded (pos 0) 8192 F.table) e)
            (ap (λ (F : Folding). length F.table) (sym e) ∙ table_length c.before.before.before.before.before.before.before.before.before.before.before) (omega (arith, fits, b.requires.0.3)) c.copy.ensures c.clear.ensures
            ∙ ap (padded (pos 0) (length b.args.out.now)) (sym (if_true _ _ [] (le-leb _ 1024 fits))),
        (c.fold-count.ensures.1.1.0 ∙ ap (λ (F : Folding). padded 0 (length b.args.numbers.now) F.numbers) e, c.fold-count.ensures.1.1.1),
      ),
    )

shape_of-numbers-else-s-count-le1024 : tie.Need-shape_of-numbers-else-s-count-le1024
shape_of-numbers-else-s-count-le1024 c = search rules

shape_of-out-else-s-count-le1024 : tie.Need-shape_of-out-else-s-count-le1024
shape_of-out-else-s-count-le1024 c = search rules

returns-else-s-count-le1024 : tie.Need-returns-else-s-count-le1024
returns-else-s-count-le1024 c =
    let b = start c.before.before.before.before.before.before.before in
    let e = same c.before.before.before.before.before.before.before in (
      c.fold-count.ensures.0 ∙ ap (λ (F : Folding). F.count) e,
      (
        c.clear-else-s-count-le1024.ensures
            ∙ cleared_padded b.args.out.now 0 (length b.args.out.now) (omega arith) refl
            ∙ ap (padded (pos 0) (length b.args.out.now)) (sym (if_false _ _ [] (lt-leb _ 1024 c.if-s-count-le1024.false))),
        (c.fold-count.ensures.1.1.0 ∙ ap (λ (F : Folding). padded 0 (length b.args.numbers.now) F.numbers) e, c.fold-count.ensures.1.1.1),
      ),
    )

pub fold_rows_spec : {M : Type 1} → statement M
fold_rows_spec =
    tie.close
    (tie.spec
    slice_bounds-put_rows-end
    put_rows-requires
    slice_bounds-put_rows-end-2
    put_rows-requires-2
    slice_bounds-fold-end
    overflow_add-first_rows
    slice_bounds-fold-end-2
    fold-count-requires
    overflow_add-s
    overflow_mul-end
    slice_bounds-stay-end
    slice_bounds-copy-end
    copy-requires
    clear-requires
    clear-requires-else-s-count-le1024
    shape_of-numbers-then-s-count-le1024
    shape_of-out-then-s-count-le1024
    returns-then-s-count-le1024
    shape_of-numbers-else-s-count-le1024
    shape_of-out-else-s-count-le1024
    returns-else-s-count-le1024)
