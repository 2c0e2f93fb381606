use Rattle.std.specs.Prelude.{if◌then◌else◌}
use Rattle.jointrows.proofs.Numbers.{numbered_same}
use Rattle.jointrows.proofs.Moves.{first_number_lem, second_number, first_new, second_new, schemata_are, folding_is}
use Rattle.jointrows.specs.Kept.{Gives, both_schemata, both_proofs}
use Rattle.joint.specs.Joint.{of_first, of_second, joint_schema, untidied}
use Rattle.folds.proofs.Numbers.{get_d_zeros}
use Rattle.tidied.specs.Tidied.{new_number, Folding, folding, folding_of}
use Rattle.stab.proofs.Trees.{below_nat}
use Rattle.stab.specs.Text.{padded}
use Rattle.stab.specs.Node.{Tableau}
use Rattle.stab.specs.Lent.{lent}
use Rattle.signed.proofs.Signs.{read_back}
use lib.ListN.{length}
use lib.IntN.{ℤ, pos}
use lib.Dec.{leb}
use mathlib.Core.List.{List, []}
use mathlib.Core.Path.{◌≡◌, refl, ◌∙◌, ap, ap₂}
use Prim.Native.Nat.{ℕ, ◌+◌}
use native.Mathlib.Omega.{arith}
use borrow.Author.Rules.{rules}
use Rattle.jointrows.proofs.fill_rows.Statement.{statement}
use Rattle.jointrows.proofs.fill_rows.Tie as tie

-- where the rows are folded
abbrev start : tie.After-fold_rows-count → tie.Start
start c = c.before.before.before.before.before.before.before.before.before.before.before.before.before.before.before.before.before.before.before.before.before.before.before

abbrev A : tie.Start → Tableau
A b = let a = b.args in lent a.first_schema.now a.first_proof.now [] [] a.first

abbrev B : tie.Start → Tableau
B b = let a = b.args in lent a.second_schema.now a.second_proof.now [] [] a.second

abbrev fill_of : tie.After-fold_rows-count → tie.After-fill
fill_of c = c.before.before.before.before.before.before.before.before.before.before.before.before.before.before.before

abbrev fill2_of : tie.After-fold_rows-count → tie.After-fill-2
fill2_of c = c.before.before.before.before.before.before.before.before.before.before

abbrev first_numbers_lem : tie.After-fold_rows-count → List ℕ
first_numbers_lem c = (fill_of c).fill.new.numbers

abbrev second_numbers_lem : tie.After-fold_rows-count → List ℕ
second_numbers_lem c = (fill2_of c).fill-2.new.numbers

gives_first : (c : tie.After-fold_rows-count) → Gives (first_numbers_lem c) (of_first (A (start c)) (B (start c)))
gives_first c =
    let b = start c in
    (fill_of c).fill.ensures.0 ∙ numbered_same _ _ 1024 (λ r l. first_number_lem (A b) (B b) b.requires.0.2 b.requires.0.0.few _ r l)

gives_second : (c : tie.After-fold_rows-count) → Gives (second_numbers_lem c) (of_second (A (start c)) (B (start c)))
gives_second c =
    let b = start c in
    (fill2_of c).fill-2.ensures.0 ∙ numbered_same _ _ 1024 (λ r l. second_number (A b) (B b) b.requires.0.2 b.requires.0.0.few _ r l)

-- the schema rows as they were put
abbrev schema : tie.After-fold_rows-count → List ℤ
schema c = c.put_schema.new.table

put_is : (c : tie.After-fold_rows-count) →
    let b = start c in
    let a = b.args in
    schema c ≡ padded (pos 0) (length a.out_schema.now) (both_schemata (new_number 0 (first_numbers_lem c)) a.first_schema.now a.first.schema_rows a.first.root (new_number 0 (second_numbers_lem c)) a.second_schema.now a.second.schema_rows a.second.root)
put_is c =
    let b = start c in
    let a = b.args in
    c.put_schema.ensures
    ∙ ap₂ (λ (x y : ℤ). padded (pos 0) (length a.out_schema.now) (both_schemata (new_number 0 (first_numbers_lem c)) a.first_schema.now a.first.schema_rows x (new_number 0 (second_numbers_lem c)) a.second_schema.now a.second.schema_rows y)) (read_back _ c.struct_told-1.given.1.1.0.1) (read_back _ c.struct_told-2-1.given.1.1.0.1)

schema_is : (c : tie.After-fold_rows-count) → let b = start c in schema c ≡ padded (pos 0) (length b.args.out_schema.now) (joint_schema (A b) (B b))
schema_is c =
    let b = start c in
    put_is c
    ∙ ap (padded (pos 0) (length b.args.out_schema.now))
    (schemata_are (A b) (B b) b.requires.0.0 b.requires.0.1 (first_numbers_lem c) (second_numbers_lem c) (gives_first c) (gives_second c))

is_folded : (c : tie.After-fold_rows-count) →
    let b = start c in
    let a = b.args in
    folding (schema c) (a.first.schema_rows + a.second.schema_rows + 1) (both_proofs (new_number 0 (first_numbers_lem c)) a.first_proof.now a.first.proof_rows (new_number 0 (second_numbers_lem c)) a.second_proof.now a.second.proof_rows) (a.first.proof_rows + a.second.proof_rows) ≡ folding_of (untidied (A b) (B b))
is_folded c =
    let b = start c in
    folding_is (A b) (B b) b.requires.0.0 b.requires.0.1 (first_numbers_lem c) (second_numbers_lem c) (gives_first c) (gives_second c) (schema c) (length b.args.out_schema.now) (put_is c)

overflow_add-s : tie.Need-overflow_add-s
overflow_add-s c = search rules

overflow_add-s-2 : tie.Need-overflow_add-s-2
overflow_add-s-2 c = search rules

overflow_add-after : tie.Need-overflow_add-after
overflow_add-after c = search rules

slice_bounds-fill-end : tie.Need-slice_bounds-fill-end
slice_bounds-fill-end c = search rules

fill-requires : tie.Need-fill-requires
fill-requires c κs =
    (omega arith, omega (arith, c.requires.0.2), c.requires.1.0, λ i. omega (arith, get_d_zeros 2049 i))

slice_bounds-fill-end-2 : tie.Need-slice_bounds-fill-end-2
slice_bounds-fill-end-2 c = search rules

fill-requires-2 : tie.Need-fill-requires-2
fill-requires-2 c κs =
    (omega (arith, c.requires.0.2), omega (arith, c.requires.0.0.few, c.requires.0.2), c.requires.1.1, λ i. omega (arith, get_d_zeros 2049 i))

put_schema-requires : tie.Need-put_schema-requires
put_schema-requires c κs =
    (c.requires.0.2, c.requires.1.2, c.fill.ensures.1, c.fill-2.ensures.1)

slice_bounds-fold_rows-end : tie.Need-slice_bounds-fold_rows-end
slice_bounds-fold_rows-end c = search rules

fold_rows-count-requires : tie.Need-fold_rows-count-requires
fold_rows-count-requires c κs =
    let a = c.args in
    ((omega (arith, c.requires.0.0.few, below_nat a.first.schema_rows a.first.root c.requires.0.0.root), omega (arith, c.requires.0.1.few, below_nat a.second.schema_rows a.second.root c.requires.0.1.root), omega (arith, c.requires.0.0.few, c.requires.0.1.few), c.requires.1.3, omega arith, c.fill.ensures.1, c.fill-2.ensures.1), refl)

slice_bounds-fill-end-3 : tie.Need-slice_bounds-fill-end-3
slice_bounds-fill-end-3 c = search rules

fill-requires-3 : tie.Need-fill-requires-3
fill-requires-3 c κs =
    (omega arith, omega (arith, c.requires.0.2), c.fill.auto.numbers ∙ c.requires.1.0, c.fold_rows-count.ensures.1.1.1)

slice_bounds-fill-end-4 : tie.Need-slice_bounds-fill-end-4
slice_bounds-fill-end-4 c = search rules

fill-requires-4 : tie.Need-fill-requires-4
fill-requires-4 c κs =
    (omega (arith, c.requires.0.2), omega (arith, c.requires.0.0.few, c.requires.0.2), c.fill-2.auto.numbers ∙ c.requires.1.1, c.fold_rows-count.ensures.1.1.1)

shape_of-first_numbers : tie.Need-shape_of-first_numbers
shape_of-first_numbers c =
    c.fill-3.auto.numbers ∙ c.fill.auto.numbers

shape_of-second_numbers : tie.Need-shape_of-second_numbers
shape_of-second_numbers c =
    c.fill-4.auto.numbers ∙ c.fill-2.auto.numbers

shape_of-out_schema : tie.Need-shape_of-out_schema
shape_of-out_schema c = search rules

shape_of-out_proof : tie.Need-shape_of-out_proof
shape_of-out_proof c = search rules

returns : tie.Need-returns
returns c =
    let b = start c.before.before.before.before.before.before.before.before.before.before.before.before in
    let a = b.args in
    let e = is_folded c.before.before.before.before.before.before.before.before.before.before.before.before in
    record {
      counted = c.fold_rows-count.ensures.0 ∙ ap (λ (F : Folding). F.count) e;
      first_numbers = c.fill-3.ensures.0 ∙ numbered_same _ _ 1024 (λ q l. first_new (A b) (B b) _ _ _ c.fold_rows-count.ensures.1.1.0 e q);
      first_small = c.fill-3.ensures.1;
      second_numbers = c.fill-4.ensures.0 ∙ numbered_same _ _ 1024 (λ q l. second_new (A b) (B b) _ _ _ c.fold_rows-count.ensures.1.1.0 e q);
      second_small = c.fill-4.ensures.1;
      schema_table = schema_is c.before.before.before.before.before.before.before.before.before.before.before.before;
      proof_table = c.fold_rows-count.ensures.1.0 ∙ ap (λ (F : Folding). padded (pos 0) (length a.out_proof.now) (if leb (a.first.schema_rows + a.second.schema_rows + 1 + c.fold_rows-count.result) 1024 then F.table else [])) e;
    }

pub fill_rows_spec : {M : Type 1} → statement M
fill_rows_spec =
    tie.close
    (tie.spec
    overflow_add-s
    overflow_add-s-2
    overflow_add-after
    slice_bounds-fill-end
    fill-requires
    slice_bounds-fill-end-2
    fill-requires-2
    put_schema-requires
    slice_bounds-fold_rows-end
    fold_rows-count-requires
    slice_bounds-fill-end-3
    fill-requires-3
    slice_bounds-fill-end-4
    fill-requires-4
    shape_of-first_numbers
    shape_of-second_numbers
    shape_of-out_schema
    shape_of-out_proof
    returns)
