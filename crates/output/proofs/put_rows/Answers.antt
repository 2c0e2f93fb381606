use Rattle.std.proofs.Common.{arith, ◌≡◌, ◌∙◌, ◌+◌, ◌++◌, ap, refl, length}
use Rattle.std.proofs.lemmas.List.{length_push}
use Rattle.stab.specs.Text.{row_line}
use Rattle.stab.specs.Write.{row_lines}
use Rattle.digits.specs.Over.{over}
use Rattle.digits.proofs.Overs.{over_none, Room, lent_start, lent_room, lent_over, lent_count, count_fits}
use Rattle.output.proofs.Chunks.{NextRow, next_row, none_left}
use Rattle.output.proofs.RowTexts.{row_digits, lines_next, rows_part}
use Rattle.output.proofs.put_rows.Goals.{In-Some}
use Rattle.output.proofs.put_rows.Goals as goal

pub loop-row-init : goal.loop-row-init
unfolding row_lines
loop-row-init c = record {
  can_next = grind arith;
  finite = tt;
  within = omega arith;
  written = over_none c.args.out.now;
  ends = refl;
  width = grind arith;
  left = grind arith;
}

-- the row of this turn
next : (c : In-Some) → let a = c.args in NextRow a.w a.t.now a.rows (length c.loop-row.yielded) c.in-Some.row.now c.next.new.self.rest.now
next c =
    let a = c.args in
    let l = c.loop-row in
    let one = c.in-Some.ensures.steps.1 in
    next_row a.w a.t.now a.rows c.requires.0.some c.requires.0.held (length l.yielded) l.invariant.within l.row-iterator.rest.now l.invariant.left
    c.in-Some.row.now c.next.new.self.rest.now one.0 (one.1 ∙ l.invariant.width)

lines : (c : In-Some) → let a = c.args in let i = length c.loop-row.yielded in
    row_lines a.w i a.t.now ++ row_line c.in-Some.row.now ≡ row_lines a.w (i + 1) a.t.now
lines c =
    let a = c.args in
    lines_next a.w a.t.now a.rows c.requires.0 (length c.loop-row.yielded) c.in-Some.row.now c.next.new.self.rest.now (next c)

room : (c : In-Some) → let a = c.args in let l = c.loop-row in
    Room (row_lines a.w (length l.yielded) a.t.now) (row_line c.in-Some.row.now) a.out.now l.out l.at
room c =
    let a = c.args in
    let l = c.loop-row in
    record {
      is = l.invariant.written;
      ends = l.invariant.ends;
      fits = omega (arith, ap length (lines c), rows_part a.w (length l.yielded + 1) a.rows a.t.now (omega (arith, (next c).less)), c.requires.1);
    }

pub slice_bounds-put_row-count : goal.slice_bounds-put_row-count
slice_bounds-put_row-count c = lent_start (room c)

pub slice_bounds-put_row-start : goal.slice_bounds-put_row-start
slice_bounds-put_row-start c = lent_start (room c)

pub put_row-at-requires : goal.put_row-at-requires
put_row-at-requires c =
    let s = (goal.at.put_row-at-requires c).In-Some in
    let a = c.args in
    (omega (arith, (next s).wide, c.requires.0.some), row_digits a.w a.t.now a.rows c.requires.0 (length c.loop-row.yielded) c.in-Some.row.now c.next.new.self.rest.now (next s), lent_room (room s))

pub overflow_add-at : goal.overflow_add-at
overflow_add-at c = count_fits (room (goal.at.overflow_add-at c).In-Some) c.put_row-at.ensures.0 (omega arith)

pub loop-row-preserved : goal.loop-row-preserved
loop-row-preserved c =
    let s = (goal.at.loop-row-preserved c).In-Some in
    rw (length_push c.loop-row.yielded c.in-Some.row) record {
      can_next = grind arith;
      finite = tt;
      within = omega (arith, (next s).less);
      written = lent_over (room s) c.put_row-at.ensures.1 ∙ ap (λ x. over x c.args.out.now) (lines s);
      ends = lent_count (room s) c.put_row-at.ensures.0 ∙ ap length (lines s);
      width = grind arith;
      left = (next s).left;
    }

pub returns : goal.returns
returns c =
    let a = c.args in
    let l = c.loop-row in
    let all = none_left a.w a.t.now a.rows c.requires.0.some c.requires.0.held (length l.yielded) l.invariant.within l.row-iterator.rest.now l.invariant.left (grind (arith, c.in-None.ensures.steps.1.0)) in
    rw (← all) (l.invariant.ends, l.invariant.written)
