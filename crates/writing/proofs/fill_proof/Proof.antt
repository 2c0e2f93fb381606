use Prim.Native.Nat.{ℕ, ◌+◌, ◌*◌, ◌≤◌}
use native.Mathlib.Omega.{arith}
use mathlib.Core.Path.{◌≡◌, sym}
use mathlib.Core.List.{List}
use borrow.Author.Rules.{rules}
use lib.ListN.{length, take}
use lib.Seq.{length-take-le}
use Rattle.stab.specs.Write.{proof_text}
use Rattle.digits.specs.Over.{spread}
use Rattle.output.proofs.Spreads.{spread_most}
use Rattle.output.proofs.NodeRows.{columns_most, proof_length}
use Rattle.writing.proofs.Writings.{no_room, too_long, fitting, answered, finished}
use Rattle.writing.proofs.fill_proof.Statement.{statement}
use Rattle.writing.proofs.fill_proof.Tie as tie

abbrev Whole : tie.Start → List ℕ
Whole s = proof_text s.args.t.now s.args.rows s.args.nodes.now s.args.count s.args.members.now

abbrev L : tie.Start → List ℕ
L s = s.args.out.now

-- the members that are counted stand in the table
inside : (s : tie.Start) → s.args.m ≤ length s.args.members.now
inside s = omega (arith, s.requires.0.1.inside, s.requires.0.2)

-- what the parts take
rows_most : (s : tie.Start) → length (spread (take (4 * s.args.rows) s.args.t.now)) ≤ 28672
rows_most s =
    omega (arith, spread_most (take (4 * s.args.rows) s.args.t.now), length-take-le (4 * s.args.rows) s.args.t.now s.requires.0.0.held, s.requires.1.0)

members_most : (s : tie.Start) → length (spread (take s.args.m s.args.members.now)) ≤ 57344
members_most s =
    omega (arith, spread_most (take s.args.m s.args.members.now), length-take-le s.args.m s.args.members.now (inside s), s.requires.1.2)

overflow_mul-numbers : tie.Need-overflow_mul-numbers
overflow_mul-numbers c = search rules

slice_bounds-spread_width-end : tie.Need-slice_bounds-spread_width-end
slice_bounds-spread_width-end c = sym (length-take-le (4 * c.args.rows) c.args.t.now c.requires.0.0.held)

spread_width-requires : tie.Need-spread_width-requires
spread_width-requires c κs = search rules

overflow_add-bytes : tie.Need-overflow_add-bytes
overflow_add-bytes c = record { fits = omega (arith, c.spread_width.ensures, rows_most c.before.before) }

columns_width-requires : tie.Need-columns_width-requires
columns_width-requires c κs = search rules

overflow_add-bytes-2 : tie.Need-overflow_add-bytes-2
overflow_add-bytes-2 c =
    record {
      fits = omega (
        arith,
        c.spread_width.ensures,
        rows_most c.before.before.before,
        c.columns_width.ensures,
        columns_most c.args.nodes.now c.args.count c.requires.0.1.held,
        c.requires.1.1,
      );
    }

slice_bounds-spread_width-end-2 : tie.Need-slice_bounds-spread_width-end-2
slice_bounds-spread_width-end-2 c =
    sym (length-take-le c.args.m c.args.members.now (inside c.before.before.before))

spread_width-requires-2 : tie.Need-spread_width-requires-2
spread_width-requires-2 c κs = search rules

-- the bytes that were counted are those of the text
abbrev S : tie.After-spread_width-2 → tie.Start
S c = c.before.before.before.before

abbrev Count : tie.After-spread_width-2 → ℕ
Count c = 43 + c.spread_width.result + c.columns_width.result + c.spread_width-2.result

counted : (c : tie.After-spread_width-2) → Count c ≡ length (Whole (S c))
counted c =
    let a = (S c).args in
    omega (
      arith,
      c.spread_width.ensures,
      c.columns_width.ensures,
      c.spread_width-2.ensures,
      proof_length a.t.now a.rows a.nodes.now a.count a.members.now a.m (S c).requires.0.0 (S c).requires.0.1 (S c).requires.0.2,
    )

overflow_add-bytes-3 : tie.Need-overflow_add-bytes-3
overflow_add-bytes-3 c =
    let s = S c in
    record {
      fits = omega (
        arith,
        c.spread_width.ensures,
        rows_most s,
        c.columns_width.ensures,
        columns_most s.args.nodes.now s.args.count s.requires.0.1.held,
        s.requires.1.1,
        c.spread_width-2.ensures,
        members_most s,
      );
    }

refuse-requires : tie.Need-refuse-requires
refuse-requires c κs = search rules

shape_of-out-then-out-bytes : tie.Need-shape_of-out-then-out-bytes
shape_of-out-then-out-bytes c = search rules

returns-then-out-bytes : tie.Need-returns-then-out-bytes
returns-then-out-bytes c =
    answered (length (L (S c.before.before.before.before.before)))
    (no_room (length (L (S c.before.before.before.before.before))) (Whole (S c.before.before.before.before.before)) (omega (arith, counted c.before.before.before.before.before, c.if-out-bytes.true)))
    c.refuse.ensures

refuse-requires-then-bytes-gt65536 : tie.Need-refuse-requires-then-bytes-gt65536
refuse-requires-then-bytes-gt65536 c κs = search rules

shape_of-out-then-bytes-gt65536 : tie.Need-shape_of-out-then-bytes-gt65536
shape_of-out-then-bytes-gt65536 c = search rules

returns-then-bytes-gt65536 : tie.Need-returns-then-bytes-gt65536
returns-then-bytes-gt65536 c =
    answered (length (L (S c.before.before.before.before.before.before)))
    (too_long (length (L (S c.before.before.before.before.before.before))) (Whole (S c.before.before.before.before.before.before)) (omega (arith, counted c.before.before.before.before.before.before, c.if-bytes-gt65536.true)))
    c.refuse-then-bytes-gt65536.ensures

put_proof-requires : tie.Need-put_proof-requires
put_proof-requires c κs =
    ((S c.before.before.before).requires.0.0, (S c.before.before.before).requires.0.1, omega (arith, counted c.before.before.before, c.if-out-bytes.false))

finish-requires : tie.Need-finish-requires
finish-requires c κs = search rules

shape_of-out : tie.Need-shape_of-out
shape_of-out c = search rules

returns : tie.Need-returns
returns c =
    answered (length (L (S c.before.before.before.before.before.before.before.before.before.before)))
    (fitting (length (L (S c.before.before.before.before.before.before.before.before.before.before))) (Whole (S c.before.before.before.before.before.before.before.before.before.before)) (omega (arith, counted c.before.before.before.before.before.before.before.before.before.before, c.if-out-bytes.false)) (omega (arith, counted c.before.before.before.before.before.before.before.before.before.before, c.if-bytes-gt65536.false)))
    (finished (Whole (S c.before.before.before.before.before.before.before.before.before.before)) (L (S c.before.before.before.before.before.before.before.before.before.before)) (omega (arith, counted c.before.before.before.before.before.before.before.before.before.before, c.if-out-bytes.false)) (counted c.before.before.before.before.before.before.before.before.before.before) c.put_proof.ensures.1 c.finish.ensures)

pub fill_proof_spec : {M : Type 1} → statement M
fill_proof_spec =
    tie.close
    (tie.spec
    overflow_mul-numbers
    slice_bounds-spread_width-end
    spread_width-requires
    overflow_add-bytes
    columns_width-requires
    overflow_add-bytes-2
    slice_bounds-spread_width-end-2
    spread_width-requires-2
    overflow_add-bytes-3
    refuse-requires
    shape_of-out-then-out-bytes
    returns-then-out-bytes
    refuse-requires-then-bytes-gt65536
    shape_of-out-then-bytes-gt65536
    returns-then-bytes-gt65536
    put_proof-requires
    finish-requires
    shape_of-out
    returns)
