use Prim.Native.Nat.{ℕ, ◌+◌, ◌*◌, ◌≤◌}
use native.Mathlib.Omega.{arith}
use mathlib.Core.Path.{◌≡◌, sym}
use mathlib.Core.List.{List}
use borrow.Author.Rules.{rules}
use lib.ListN.{length, take}
use lib.Seq.{length-take-le}
use Rattle.digits.specs.Over.{spread}
use Rattle.output.specs.Headed.{headed_text}
use Rattle.output.proofs.Spreads.{spread_most}
use Rattle.output.proofs.HeadedTexts.{headed_length}
use Rattle.writing.proofs.Writings.{no_room, too_long, fitting, answered, finished}
use Rattle.writing.proofs.fill_headed.Statement.{statement}
use Rattle.writing.proofs.fill_headed.Tie as tie

abbrev Whole : tie.Start → List ℕ
Whole s = headed_text s.args.first.now s.args.line.now s.args.second.now s.args.w s.args.t.now s.args.rows

abbrev L : tie.Start → List ℕ
L s = s.args.out.now

-- what the rows take
rows_most : (s : tie.Start) → length (spread (take (s.args.w * s.args.rows) s.args.t.now)) ≤ 7 * length s.args.t.now
rows_most s =
    omega (
      arith,
      spread_most (take (s.args.w * s.args.rows) s.args.t.now),
      length-take-le (s.args.w * s.args.rows) s.args.t.now s.requires.2.held,
    )

overflow_mul-count : tie.Need-overflow_mul-count
overflow_mul-count c = search rules

overflow_add-bytes : tie.Need-overflow_add-bytes
overflow_add-bytes c = search rules

overflow_add-bytes-2 : tie.Need-overflow_add-bytes-2
overflow_add-bytes-2 c = search rules

spread_width-requires : tie.Need-spread_width-requires
spread_width-requires c κs = search rules

overflow_add-bytes-3 : tie.Need-overflow_add-bytes-3
overflow_add-bytes-3 c =
    record { fits = omega (arith, c.spread_width.ensures, spread_most c.args.line.now, c.requires.0.few, c.requires.0.short) }

slice_bounds-spread_width-end : tie.Need-slice_bounds-spread_width-end
slice_bounds-spread_width-end c =
    sym (length-take-le (c.args.w * c.args.rows) c.args.t.now c.requires.2.held)

spread_width-requires-2 : tie.Need-spread_width-requires-2
spread_width-requires-2 c κs = search rules

-- the bytes that were counted are those of the text
abbrev S : tie.After-spread_width-2 → tie.Start
S c = c.before.before.before.before.before

abbrev Count : tie.After-spread_width-2 → ℕ
Count c = length (S c).args.first.now + length (S c).args.second.now + 2 + c.spread_width.result + c.spread_width-2.result

counted : (c : tie.After-spread_width-2) → Count c ≡ length (Whole (S c))
counted c =
    let a = (S c).args in
    omega (
      arith,
      c.spread_width.ensures,
      c.spread_width-2.ensures,
      headed_length a.first.now a.line.now a.second.now a.w a.t.now a.rows (S c).requires.0.some (S c).requires.2.some (S c).requires.2.held,
    )

overflow_add-bytes-4 : tie.Need-overflow_add-bytes-4
overflow_add-bytes-4 c =
    let s = S c in
    record {
      fits = omega (
        arith,
        c.spread_width.ensures,
        c.spread_width-2.ensures,
        spread_most s.args.line.now,
        rows_most s,
        s.requires.0.few,
        s.requires.0.short,
        s.well_formed.1.1.1.1.0.1,
      );
    }

refuse-requires : tie.Need-refuse-requires
refuse-requires c κs = search rules

shape_of-out-then-out-bytes : tie.Need-shape_of-out-then-out-bytes
shape_of-out-then-out-bytes c = search rules

returns-then-out-bytes : tie.Need-returns-then-out-bytes
returns-then-out-bytes c =
    answered (length (L (S c.before.before.before.before.before)))
    (no_room (length (L (S c.before.before.before.before.before))) (Whole (S c.before.before.before.before.before)) (omega (arith, counted c.before.before.before.before.before, c.if-out-bytes.true))) c.refuse.ensures

refuse-requires-then-bytes-gt65536 : tie.Need-refuse-requires-then-bytes-gt65536
refuse-requires-then-bytes-gt65536 c κs = search rules

shape_of-out-then-bytes-gt65536 : tie.Need-shape_of-out-then-bytes-gt65536
shape_of-out-then-bytes-gt65536 c = search rules

returns-then-bytes-gt65536 : tie.Need-returns-then-bytes-gt65536
returns-then-bytes-gt65536 c =
    answered (length (L (S c.before.before.before.before.before.before)))
    (too_long (length (L (S c.before.before.before.before.before.before))) (Whole (S c.before.before.before.before.before.before)) (omega (arith, counted c.before.before.before.before.before.before, c.if-bytes-gt65536.true))) c.refuse-then-bytes-gt65536.ensures

put_headed-requires : tie.Need-put_headed-requires
put_headed-requires c κs =
    ((S c.before.before.before).requires.1, (S c.before.before.before).requires.2, omega (arith, counted c.before.before.before, c.if-out-bytes.false))

finish-requires : tie.Need-finish-requires
finish-requires c κs = search rules

shape_of-out : tie.Need-shape_of-out
shape_of-out c = search rules

returns : tie.Need-returns
returns c =
    answered (length (L (S c.before.before.before.before.before.before.before.before.before.before)))
    (fitting (length (L (S c.before.before.before.before.before.before.before.before.before.before))) (Whole (S c.before.before.before.before.before.before.before.before.before.before)) (omega (arith, counted c.before.before.before.before.before.before.before.before.before.before, c.if-out-bytes.false)) (omega (arith, counted c.before.before.before.before.before.before.before.before.before.before, c.if-bytes-gt65536.false)))
    (finished (Whole (S c.before.before.before.before.before.before.before.before.before.before)) (L (S c.before.before.before.before.before.before.before.before.before.before)) (omega (arith, counted c.before.before.before.before.before.before.before.before.before.before, c.if-out-bytes.false)) (counted c.before.before.before.before.before.before.before.before.before.before) c.put_headed.ensures.1 c.finish.ensures)

pub fill_headed_spec : {M : Type 1} → statement M
fill_headed_spec =
    tie.close
    (tie.spec
    overflow_mul-count
    overflow_add-bytes
    overflow_add-bytes-2
    spread_width-requires
    overflow_add-bytes-3
    slice_bounds-spread_width-end
    spread_width-requires-2
    overflow_add-bytes-4
    refuse-requires
    shape_of-out-then-out-bytes
    returns-then-out-bytes
    refuse-requires-then-bytes-gt65536
    shape_of-out-then-bytes-gt65536
    returns-then-bytes-gt65536
    put_headed-requires
    finish-requires
    shape_of-out
    returns)
