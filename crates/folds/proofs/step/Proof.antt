use borrow.Author.Rules.{rules}
use native.Mathlib.Omega.{arith}
use Prim.Native.Nat.{ℕ, ◌+◌, ◌*◌, ◌<◌}
use mathlib.Core.Path.{◌≡◌, ◌∙◌, ap}
use mathlib.Core.List.{List}
use lib.IntN.{ℤ}
use lib.ListN.{length}
use Rattle.stab.specs.Formula.{Row, formula_rows}
use Rattle.repeats.specs.Places.{place_of, Linked}
use Rattle.repeats.proofs.Links.{place_small, linked_more}
use Rattle.folds.proofs.Steps.{still_linked, number_small, folds_away, folds_stays}
use Rattle.folds.proofs.step.Statement.{statement}
use Rattle.folds.proofs.step.Tie as tie

-- where the row is put, where its place is known, and where its number is
abbrev start : tie.After-put → tie.Start
start c = c.before.before.before.before.before

abbrev put_at_lem : tie.After-place-h → tie.After-put
put_at_lem c = c.before.before.before

abbrev place_of_lem : tie.After-first-q → tie.After-place-h
place_of_lem c = c.before

abbrev put_of : tie.After-first-q → tie.After-put
put_of c = put_at_lem (place_of_lem c)

abbrev table : tie.After-put → List ℤ
table c = c.put.new.table

abbrev rows : tie.After-put → ℕ → Row
rows c = let a = (start c).args in formula_rows a.schema.now a.s (table c)

room : (c : tie.After-put) → let a = (start c).args in 4 * a.count + 3 < length a.out.now
room c = let p = (start c).requires.0 in omega (arith, p.1, p.2)

linked : (c : tie.After-put) → let a = (start c).args in Linked (rows c) a.next.now a.heads.now (a.s + a.count)
linked c = still_linked _ _ _ _ _ _ _ _ _ (start c).requires.1 (room c) (table c) c.put.ensures

row_few : (c : tie.After-put) → let a = (start c).args in a.s + a.count < 2049
row_few c = let p = (start c).requires.0 in omega (arith, p.0, p.1)

is_place : (c : tie.After-place-h) → let a = (start (put_at_lem c)).args in c.place-h.result ≡ place_of (rows (put_at_lem c) (a.s + a.count))
is_place c = c.place-h.ensures ∙ ap place_of c.of_row.ensures

place_within : (c : tie.After-place-h) → c.place-h.result < length (start (put_at_lem c)).args.heads.now
place_within c =
    let p = put_at_lem c in
    let a = (start p).args in
    omega (arith, is_place c, place_small (rows p (a.s + a.count)), (start p).requires.0.5)

put-requires : tie.Need-put-requires
put-requires c κs = search rules

overflow_add-r : tie.Need-overflow_add-r
overflow_add-r c = search rules

of_row-requires : tie.Need-of_row-requires
of_row-requires c κs = search rules

place-h-requires : tie.Need-place-h-requires
place-h-requires c κs = search rules

first-q-requires : tie.Need-first-q-requires
first-q-requires c κs =
    let p = put_at_lem c in
    (row_few p, (linked p, is_place c))

overflow_cast-numbers : tie.Need-overflow_cast-numbers
overflow_cast-numbers c =
    let p = put_of c in
    let b = start p in
    let l = number_small _ _ _ _ _ _ _ _ _ b.requires.1 (room p) (table p) p.put.ensures _ c.first-q.ensures (omega (arith, row_few p)) b.requires.0.3 in
    omega (arith, l, row_few p)

offset_bounds-numbers-k : tie.Need-offset_bounds-numbers-k
offset_bounds-numbers-k c = search rules

bounds-numbers-k : tie.Need-bounds-numbers-k
bounds-numbers-k c = search rules

shape_of-out-then-q-r : tie.Need-shape_of-out-then-q-r
shape_of-out-then-q-r c = search rules

shape_of-numbers-then-q-r : tie.Need-shape_of-numbers-then-q-r
shape_of-numbers-then-q-r c = search rules

shape_of-next-then-q-r : tie.Need-shape_of-next-then-q-r
shape_of-next-then-q-r c = search rules

shape_of-heads-then-q-r : tie.Need-shape_of-heads-then-q-r
shape_of-heads-then-q-r c = search rules

returns-then-q-r : tie.Need-returns-then-q-r
returns-then-q-r c =
    let p = put_of c.before in
    let b = start p in
    folds_away _ _ _ _ _ _ _ _ _ b.requires.1 (room p) (table p) p.put.ensures _ c.first-q.ensures (omega (arith, row_few p)) b.requires.0.3 c.if-q-r.true

keep-requires : tie.Need-keep-requires
keep-requires c κs =
    let p = put_of c.before.before.before in
    let b = start p in
    (omega (arith, row_few p), omega (arith, row_few p, b.requires.0.4), place_within (place_of_lem c.before.before.before))

overflow_add-result : tie.Need-overflow_add-result
overflow_add-result c =
    let p = put_of c.before.before.before.before.before.before.before.before in
    omega (arith, row_few p)

shape_of-out : tie.Need-shape_of-out
shape_of-out c = search rules

shape_of-numbers : tie.Need-shape_of-numbers
shape_of-numbers c = search rules

shape_of-next : tie.Need-shape_of-next
shape_of-next c = search rules

shape_of-heads : tie.Need-shape_of-heads
shape_of-heads c = search rules

returns : tie.Need-returns
returns c =
    let p = put_of c.before.before.before.before.before.before.before.before in
    let b = start p in
    let a = b.args in
    folds_stays _ _ _ _ _ _ _ _ _ b.requires.1 (room p) (table p) p.put.ensures _ c.first-q.ensures (omega (arith, row_few p)) b.requires.0.3 c.if-q-r.false
    (linked_more (rows p) _ _ (a.s + a.count) _ (linked p) (omega (arith, row_few p, b.requires.0.4)) (place_within (place_of_lem c.before.before.before.before.before.before.before.before)) (is_place (place_of_lem c.before.before.before.before.before.before.before.before)) c.keep.ensures.0 c.keep.ensures.1)

pub step_spec : {M : Type 1} → statement M
step_spec =
    tie.close
    (tie.spec
    put-requires
    overflow_add-r
    of_row-requires
    place-h-requires
    first-q-requires
    overflow_cast-numbers
    offset_bounds-numbers-k
    bounds-numbers-k
    shape_of-out-then-q-r
    shape_of-numbers-then-q-r
    shape_of-next-then-q-r
    shape_of-heads-then-q-r
    returns-then-q-r
    keep-requires
    overflow_add-result
    shape_of-out
    shape_of-numbers
    shape_of-next
    shape_of-heads
    returns)
