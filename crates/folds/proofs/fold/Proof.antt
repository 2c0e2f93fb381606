use borrow.Author.Rules.{rules}
use native.Mathlib.Omega.{arith}
use Prim.Native.Nat.{ℕ, ◌*◌, ◌≤◌}
use mathlib.Core.Path.{◌≡◌, ◌∙◌, ap}
use mathlib.Core.List.{List}
use lib.IntN.{ℤ, pos}
use lib.ListN.{length, get_or-replicate}
use Rattle.stab.specs.Text.{padded}
use Rattle.signed.proofs.Tables.{cleared_padded}
use Rattle.tidied.specs.Tidied.{Folding, folding}
use Rattle.folds.proofs.Steps.{counted, folds_none}
use Rattle.folds.proofs.fold.Statement.{statement}
use Rattle.folds.proofs.fold.Tie as tie

-- where all rows are folded
abbrev start : tie.After-each-count → tie.Start
start c = c.before.before.before.before.before.before.before.before.before.before.before

abbrev folded : tie.After-each-count → Folding
folded c = let a = (start c).args in folding a.schema.now a.s a.proof.now a.p

abbrev out : tie.After-each-count → List ℤ
out c = c.each-count.new.out

out_length : (c : tie.After-each-count) → length (out c) ≡ length (start c).args.out.now
out_length c = c.each-count.auto.out

count_few : (c : tie.After-each-count) → c.each-count.result ≤ (start c).args.p
count_few c = let a = (start c).args in omega (arith, c.each-count.ensures.counted, (counted a.schema.now a.s a.proof.now a.p).few)

slice_bounds-schema_rows-end : tie.Need-slice_bounds-schema_rows-end
slice_bounds-schema_rows-end c = search rules

slice_bounds-schema_rows-end-2 : tie.Need-slice_bounds-schema_rows-end-2
slice_bounds-schema_rows-end-2 c = search rules

schema_rows-requires : tie.Need-schema_rows-requires
schema_rows-requires c κs =
    ((omega (arith, c.requires.0.0), omega (arith, c.requires.0.0), omega arith), λ h l. get_or-replicate 1024 h 0 0 l)

slice_bounds-each-end : tie.Need-slice_bounds-each-end
slice_bounds-each-end c = search rules

slice_bounds-each-end-2 : tie.Need-slice_bounds-each-end-2
slice_bounds-each-end-2 c = search rules

each-count-requires : tie.Need-each-count-requires
each-count-requires c κs =
    let same = c.schema_rows.auto in (
      (c.requires.0.0, c.requires.0.1, c.requires.0.2, omega (arith, same.next), omega (arith, same.heads)),
      folds_none _ _ _ _ _ _ _ c.requires.1 c.schema_rows.ensures,
    )

overflow_mul-count : tie.Need-overflow_mul-count
overflow_mul-count c =
    omega (arith, count_few c.before.before.before.before.before.before, (start c.before.before.before.before.before.before).requires.0.0)

clear-requires : tie.Need-clear-requires
clear-requires c κs =
    omega (arith, count_few c.before.before.before.before.before.before, out_length c.before.before.before.before.before.before, (start c.before.before.before.before.before.before).requires.0.1)

shape_of-out : tie.Need-shape_of-out
shape_of-out c = search rules

shape_of-numbers : tie.Need-shape_of-numbers
shape_of-numbers c = search rules

returns : tie.Need-returns
returns c =
    let b = start c.before.before.before.before.before.before.before.before in
    let i = c.each-count.ensures in (
      i.counted,
      (
        c.clear.ensures
            ∙ cleared_padded (out c.before.before.before.before.before.before.before.before) (4 * c.each-count.result) (length b.args.out.now) (omega (arith, count_few c.before.before.before.before.before.before.before.before, out_length c.before.before.before.before.before.before.before.before, b.requires.0.1)) (out_length c.before.before.before.before.before.before.before.before)
            ∙ ap (padded (pos 0) (length b.args.out.now)) i.held,
        (i.known ∙ ap (λ (n : ℕ). padded 0 n (folded c.before.before.before.before.before.before.before.before).numbers) c.each-count.auto.numbers, i.small),
      ),
    )

pub fold_spec : {M : Type 1} → statement M
fold_spec =
    tie.close
    (tie.spec
    slice_bounds-schema_rows-end
    slice_bounds-schema_rows-end-2
    schema_rows-requires
    slice_bounds-each-end
    slice_bounds-each-end-2
    each-count-requires
    overflow_mul-count
    clear-requires
    shape_of-out
    shape_of-numbers
    returns)
