use Prim.Native.Nat.{ℕ, ◌+◌, ◌-◌, ◌≤◌}
use native.Mathlib.Omega.{arith}
use mathlib.Core.Path.{◌≡◌, sym, ◌∙◌, ap, ap₂}
use mathlib.Core.List.{List, ◌++◌}
use borrow.Author.Rules.{rules}
use borrow.Rule.Slice.PartMut.{put_mid}
use lib.IntN.{ℤ}
use lib.ListN.{length, set, length-set, length-append}
use Rattle.digits.specs.Over.{over, spread}
use Rattle.digits.proofs.Overs.{Room, lent_start, lent_room, lent_over, lent_length, lent_count, count_fits}
use Rattle.output.proofs.Spreads.{spread_append, row_length, row_some, row_end}
use Rattle.output.proofs.put_node.Statement.{statement}
use Rattle.output.proofs.put_node.Tie as tie

abbrev R : tie.Start → List ℤ
R s = s.args.row.now

abbrev Set : tie.Start → List ℤ
Set s = s.args.set.now

abbrev L : tie.Start → List ℕ
L s = s.args.out.now

some : (s : tie.Start) → 1 ≤ length (R s ++ Set s)
some s = omega (arith, length-append (R s) (Set s), s.requires.0.some)

together : (s : tie.Start) → spread (R s) ++ spread (Set s) ≡ spread (R s ++ Set s)
together s = sym (spread_append (R s) (Set s))

fits : (s : tie.Start) → length (spread (R s) ++ spread (Set s)) ≤ length (L s)
fits s = omega (arith, ap length (together s), row_length (R s ++ Set s) (some s), s.requires.2)

put_numbers-at-requires : tie.Need-put_numbers-at-requires
put_numbers-at-requires c κs =
    (c.requires.0.digits, omega (arith, fits c.before.before, length-append (spread (R c.before.before)) (spread (Set c.before.before))))

-- after the row's own numbers
abbrev S : tie.After-slice_known-2-1 → tie.Start
S c = c.before.before.before.before.before

room : (c : tie.After-slice_known-2-1) → Room (spread (R (S c))) (spread (Set (S c))) (L (S c)) c.put_numbers-at.new.out c.put_numbers-at.result
room c = record { is = c.put_numbers-at.ensures.1; ends = c.put_numbers-at.ensures.0; fits = fits (S c) }

slice_bounds-put_numbers-count : tie.Need-slice_bounds-put_numbers-count
slice_bounds-put_numbers-count c = lent_start (room c)

slice_bounds-put_numbers-start : tie.Need-slice_bounds-put_numbers-start
slice_bounds-put_numbers-start c = lent_start (room c)

slice_bounds-put_numbers-end : tie.Need-slice_bounds-put_numbers-end
slice_bounds-put_numbers-end c = search rules

put_numbers-requires : tie.Need-put_numbers-requires
put_numbers-requires c κs = ((S c.before).requires.1, lent_room (room c.before))

-- after the set
abbrev B : tie.After-slice_known-3-1 → tie.After-slice_known-2-1
B c = c.before.before.before.before

abbrev N : tie.After-slice_known-3-1 → ℕ
N c = (B c).put_numbers-at.result + c.put_numbers.result

abbrev Out : tie.After-slice_known-3-1 → List ℕ
Out c =
    let p = (B c).put_numbers-at in
    put_mid p.result (length p.new.out - p.result) p.new.out c.put_numbers.new.out

counted : (c : tie.After-slice_known-3-1) → N c ≡ length (spread (R (S (B c)) ++ Set (S (B c))))
counted c = lent_count (room (B c)) c.put_numbers.ensures.0 ∙ ap length (together (S (B c)))

wrote : (c : tie.After-slice_known-3-1) → Out c ≡ over (spread (R (S (B c)) ++ Set (S (B c)))) (L (S (B c)))
wrote c = lent_over (room (B c)) c.put_numbers.ensures.1 ∙ ap (λ (x : List ℕ). over x (L (S (B c)))) (together (S (B c)))

same : (c : tie.After-slice_known-3-1) → length (Out c) ≡ length (L (S (B c)))
same c = lent_length (room (B c)) c.put_numbers.ensures.1

overflow_add-n : tie.Need-overflow_add-n
overflow_add-n c = count_fits (room (B c)) c.put_numbers.ensures.0 (S (B c)).well_formed.0.0

overflow_sub-out : tie.Need-overflow_sub-out
overflow_sub-out c = let s = S (B c) in omega (arith, counted c, row_some (R s ++ Set s) (some s))

bounds-out-n : tie.Need-bounds-out-n
bounds-out-n c =
    let s = S (B c) in
    omega (arith, counted c, overflow_sub-out c, same c, ap length (together s), fits s)

shape_of-out : tie.Need-shape_of-out
shape_of-out c = length-set (Out c) (N c - 1) 10 ∙ same c

returns : tie.Need-returns
returns c =
    let s = S (B c) in
    let row = R s ++ Set s in (
      counted c ∙ sym (row_length row (some s)),
      ap₂ (λ (o : List ℕ) (k : ℕ). set o (k - 1) 10) (wrote c) (counted c) ∙ row_end row (L s) (some s),
    )

pub put_node_spec : {M : Type 1} → statement M
put_node_spec =
    tie.close
    (tie.spec
    put_numbers-at-requires
    slice_bounds-put_numbers-count
    slice_bounds-put_numbers-start
    slice_bounds-put_numbers-end
    put_numbers-requires
    overflow_add-n
    overflow_sub-out
    bounds-out-n
    shape_of-out
    returns)
