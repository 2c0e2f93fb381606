use borrow.Author.Rules.{rules}
use Prim.Native.Nat.{ℕ, ◌+◌, ◌-◌}
use native.Mathlib.Omega.{arith}
use mathlib.Core.Path.{◌≡◌, ◌∙◌, ap}
use lib.IntN.{ℤ, pos}
use lib.ListN.{get_or, take, drop, length-take}
use Rattle.signed.proofs.Signs.{read_back}
use Rattle.stab.specs.Search.{place_of}
use Rattle.stab.proofs.Searches.{place_within}
use Rattle.drawn.proofs.next.Statement.{statement}
use Rattle.drawn.proofs.next.Tie as tie

offset_bounds-members-at : tie.Need-offset_bounds-members-at
offset_bounds-members-at c = search rules

slice_bounds-place-count : tie.Need-slice_bounds-place-count
slice_bounds-place-count c = search rules

slice_bounds-place-start : tie.Need-slice_bounds-place-start
slice_bounds-place-start c = search rules

slice_bounds-place-end : tie.Need-slice_bounds-place-end
slice_bounds-place-end c = search rules

at-requires : tie.Need-at-requires
at-requires c κs = search rules

place-requires : tie.Need-place-requires
place-requires c κs = search rules

place : (c : tie.After-place) → c.place.result ≡ place_of (get_or c.args.members.now c.args.of (pos 0)) (take (c.args.end - c.args.at) (drop c.args.at c.args.members.now))
place c =
    let a = c.args in
    c.place.ensures
    ∙ ap (λ (z : ℤ). place_of z (take (a.end - a.at) (drop a.at a.members.now))) (read_back _ c.at.type_inv ∙ c.at.ensures)

overflow_add-result : tie.Need-overflow_add-result
overflow_add-result c =
    let a = c.args in
    omega (
      arith,
      place c,
      place_within (get_or a.members.now a.of (pos 0)) (take (a.end - a.at) (drop a.at a.members.now)),
      length-take (a.end - a.at) (drop a.at a.members.now),
      c.ranges.end,
      c.requires.0,
    )

returns : tie.Need-returns
returns c = let a = c.args in ap (λ (n : ℕ). a.at + n) (place c)

pub next_spec : {M : Type 1} → statement M
next_spec =
    tie.close
    (tie.spec
    offset_bounds-members-at
    slice_bounds-place-count
    slice_bounds-place-start
    slice_bounds-place-end
    at-requires
    place-requires
    overflow_add-result
    returns)
