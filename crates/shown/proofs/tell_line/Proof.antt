use mathlib.Core.Bool.{not}
use Prim.Native.Nat.{ℕ, ◌+◌, ◌≤◌}
use native.Mathlib.Omega.{arith}
use mathlib.Core.Path.{◌≡◌, sym, ◌∙◌, ap, ap₂}
use mathlib.Core.List.{List}
use borrow.Author.Rules.{rules}
use borrow.Author.Tests.{leb-true, leb-false}
use lib.Dec.{leb}
use lib.IntN.{ℤ, pos}
use lib.ListN.{length, length-replicate}
use Rattle.stab.specs.Text.{decimal, padded}
use Rattle.stab.proofs.Bools.{false_of_not, true_of_not}
use Rattle.signed.proofs.Signs.{read_back}
use Rattle.digits.specs.Over.{over}
use Rattle.output.proofs.Spreads.{decimal_most}
use Rattle.printing.proofs.Prints.{over_zeros}
use Rattle.shown.specs.Told.{told}
use Rattle.shown.proofs.Tellings.{told_length, none_told, over_told, wide_told, whole_told, nothing}
use Rattle.shown.proofs.tell_line.Statement.{statement}
use Rattle.shown.proofs.tell_line.Tie as tie

clear-requires : tie.Need-clear-requires
clear-requires c κs = search rules

shape_of-out-then-k-eq0 : tie.Need-shape_of-out-then-k-eq0
shape_of-out-then-k-eq0 c = search rules

-- the parameters, the output's length, and what there is to tell
abbrev S : tie.After-slice_known-2-1 → tie.Start
S c = c.before.before.before.before.before.before.before

abbrev N : tie.After-slice_known-2-1 → ℕ
N c = length (S c).args.out.now

abbrev T : tie.After-slice_known-2-1 → List ℕ
T c = told (S c).args.name.now (S c).args.k (S c).args.line.now

returns-then-k-eq0 : tie.Need-returns-then-k-eq0
returns-then-k-eq0 c =
    let a = (S c.before).args in
    nothing (N c.before) _ _ (none_told a.name.now a.k a.line.now (N c.before) c.if-k-eq0.true) c.clear.ensures

shape_of-out-then-k-gt99999 : tie.Need-shape_of-out-then-k-gt99999
shape_of-out-then-k-gt99999 c = search rules

returns-then-k-gt99999 : tie.Need-returns-then-k-gt99999
returns-then-k-gt99999 c =
    let a = (S c.before.before).args in
    nothing (N c.before.before) _ _ (over_told a.name.now a.k a.line.now (N c.before.before) c.if-k-gt99999.true) c.clear.ensures

of-requires : tie.Need-of-requires
of-requires c κs = search rules

width-marks-requires : tie.Need-width-marks-requires
width-marks-requires c κs = search rules

-- how many digits the number has
digits : (c : tie.After-width-marks) → c.width-marks.result ≡ length (decimal (pos (S c.before.before.before.before).args.k))
digits c = c.width-marks.ensures ∙ ap (λ (z : ℤ). length (decimal z)) (read_back _ c.of.type_inv ∙ c.of.ensures)

overflow_add-marks : tie.Need-overflow_add-marks
overflow_add-marks c = omega (arith, digits c, decimal_most (pos (S c.before.before.before.before).args.k))

has_room-requires : tie.Need-has_room-requires
has_room-requires c κs = search rules

shape_of-out-then-not-has_room : tie.Need-shape_of-out-then-not-has_room
shape_of-out-then-not-has_room c = search rules

-- the output is as long as it was, and whether it is long enough was tested
abbrev B₃ : tie.After-has_room → tie.After-slice_known-2-1
B₃ c = c.before.before.before.before.before

cleared : (b : tie.After-slice_known-2-1) → length b.clear.new.out ≡ N b
cleared b = ap length b.clear.ensures ∙ length-replicate _ 0

tested : (c : tie.After-has_room) → c.has_room.result ≡ leb (length (T (B₃ c))) (N (B₃ c))
tested c = c.has_room.ensures ∙ ap₂ leb size (cleared (B₃ c))
  where
    size : length (S (B₃ c)).args.name.now + length (S (B₃ c)).args.line.now + (c.width-marks.result + 4) ≡ length (T (B₃ c))
    size = omega (arith, digits c.before, told_length (S (B₃ c)).args.name.now (S (B₃ c)).args.k (S (B₃ c)).args.line.now)

returns-then-not-has_room : tie.Need-returns-then-not-has_room
returns-then-not-has_room c =
    let b = B₃ c.before in
    let a = (S b).args in
    let h = leb-false (length (T b)) (N b) (sym (tested c.before) ∙ false_of_not _ (ap not c.if-not-has_room.true)) in
    nothing (N b) _ _ (wide_told a.name.now a.k a.line.now (N b) h) b.clear.ensures

fits : (c : tie.Else-not-has_room) → length (T (B₃ c.before)) ≤ N (B₃ c.before)
fits c = leb-true (length (T (B₃ c.before))) (N (B₃ c.before)) (sym (tested c.before) ∙ true_of_not _ (ap not c.if-not-has_room.false))

put_told-requires : tie.Need-put_told-requires
put_told-requires c κs =
    (c.if-k-gt99999.false, omega (arith, fits c.before, cleared (B₃ c.before.before)))

shape_of-out : tie.Need-shape_of-out
shape_of-out c = search rules

returns : tie.Need-returns
returns c =
    let b = B₃ c.before.before.before.before.before in
    let a = (S b).args in
    let w = whole_told a.name.now a.k a.line.now (N b) (omega arith) c.if-k-gt99999.false (fits c.before.before.before.before) in (
      c.put_told.ensures.0 ∙ ap length (sym w),
      c.put_told.ensures.1 ∙ ap (over (T b)) b.clear.ensures ∙ over_zeros (T b) (N b) ∙ ap (padded 0 (N b)) (sym w),
    )

pub tell_line_spec : {M : Type 1} → statement M
tell_line_spec =
    tie.close
    (tie.spec
    clear-requires
    shape_of-out-then-k-eq0
    returns-then-k-eq0
    shape_of-out-then-k-gt99999
    returns-then-k-gt99999
    of-requires
    width-marks-requires
    overflow_add-marks
    has_room-requires
    shape_of-out-then-not-has_room
    returns-then-not-has_room
    put_told-requires
    shape_of-out
    returns)
