use Rattle.std.proofs.Common.{rules, arith, ◌≡◌, ◌∙◌, ◌+◌, ◌<◌, ◌∷◌, ◌++◌, [], sym, ap, refl, ℕ, List, ℤ, pos, length, take, get_or, add-one, w32, to_z, of_z}
use Rattle.stab.specs.Text.{five_digits}
use Rattle.digits.specs.Over.{over, spread}
use Rattle.digits.proofs.Overs.{over_none, Room, lent_start, lent_room, lent_over, lent_count, count_fits}
use Rattle.output.proofs.Spreads.{spread_more, spread_part, all_at}
use Rattle.output.proofs.put_numbers.Goals.{In-loop-z}
use Rattle.output.proofs.put_numbers.Goals as goal

pub loop-z-init : goal.loop-z-init
unfolding spread
loop-z-init c = record { written = over_none c.args.out.now; ends = refl }

-- one number more
next : (t : List ℤ) (i : ℕ) → i < length t → spread (take i t) ++ spread (get_or t i (pos 0) ∷ []) ≡ spread (take (i + 1) t)
next t i h = sym (spread_more t i h) ∙ ap (λ (k : ℕ). spread (take k t)) (sym (add-one i))

room : (c : In-loop-z) → let t = c.args.t.now in
    Room (spread (take c.loop-z.z-index t)) (spread (get_or t c.loop-z.z-index (pos 0) ∷ [])) c.args.out.now c.loop-z.out c.loop-z.at
room c =
    let t = c.args.t.now in
    let i = c.loop-z.z-index in
    record {
      is = c.loop-z.invariant.written;
      ends = c.loop-z.invariant.ends;
      fits = omega (arith, ap length (next t i c.loop-z-test.true), spread_part (i + 1) t, c.requires.1);
    }

pub slice_bounds-put_spaced-count : goal.slice_bounds-put_spaced-count
slice_bounds-put_spaced-count c = lent_start (room c)

pub slice_bounds-put_spaced-start : goal.slice_bounds-put_spaced-start
slice_bounds-put_spaced-start c = lent_start (room c)

pub put_spaced-at-requires : goal.put_spaced-at-requires
put_spaced-at-requires c =
    let z = get_or c.args.t.now c.loop-z.z-index (pos 0) in
    let same : to_z w32 (of_z w32 z) ≡ z = search rules in
    rw same (all_at five_digits c.args.t.now c.loop-z.z-index (pos 0) c.loop-z-test.true c.requires.0, lent_room (room (goal.at.put_spaced-at-requires c).In-loop-z))

pub overflow_add-at : goal.overflow_add-at
overflow_add-at c =
    let z = get_or c.args.t.now c.loop-z.z-index (pos 0) in
    let same : to_z w32 (of_z w32 z) ≡ z = search rules in
    count_fits (room (goal.at.overflow_add-at c).In-loop-z) (rw same at c.put_spaced-at.ensures.0) (omega arith)

pub loop-z-preserved : goal.loop-z-preserved
loop-z-preserved c =
    let i = c.loop-z.z-index in
    let z = get_or c.args.t.now i (pos 0) in
    let same : to_z w32 (of_z w32 z) ≡ z = search rules in
    let wrote = rw same at c.put_spaced-at.ensures in
    let r = room (goal.at.loop-z-preserved c).In-loop-z in
    let more = next c.args.t.now i c.loop-z-test.true in
    record {
      written = lent_over r wrote.1 ∙ ap (λ (x : List ℕ). over x c.args.out.now) more;
      ends = lent_count r wrote.0 ∙ ap length more;
    }
