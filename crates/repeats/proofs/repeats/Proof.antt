use native.Mathlib.Omega.{arith}
use Prim.Native.Nat.{ℕ, ◌+◌, ◌<◌}
use mathlib.Core.Path.{◌≡◌, ◌∙◌, ap}
use lib.ListN.{length, get_or, set}
use borrow.Author.Rules.{rules}
use Rattle.stab.specs.Formula.{Row, formula_rows}
use Rattle.repeats.specs.Places.{place_of}
use Rattle.repeats.proofs.Links.{place_small, linked_more}
use Rattle.repeats.proofs.repeats.Statement.{statement}
use Rattle.repeats.proofs.repeats.Tie as tie

-- where the place is known
abbrev start : tie.After-place-h → tie.Start
start c = c.before.before.before.before

abbrev rows : tie.Start → ℕ → Row
rows b = let a = b.args in formula_rows a.schema.now a.s a.proof.now

is_place : (c : tie.After-place-h) → c.place-h.result ≡ place_of (rows (start c) (start c).args.r)
is_place c = c.place-h.ensures ∙ ap place_of c.of_row.ensures

place_within : (c : tie.After-place-h) → c.place-h.result < length (start c).args.heads.now
place_within c =
    let b = start c in
    omega (arith, is_place c, place_small (rows b b.args.r), b.requires.0.2)

of_row-requires : tie.Need-of_row-requires
of_row-requires c κs = search rules

place-h-requires : tie.Need-place-h-requires
place-h-requires c κs = search rules

again-found-requires : tie.Need-again-found-requires
again-found-requires c κs =
    let b = start c in
    (b.requires.0.0, (b.requires.1, is_place c))

keep-requires : tie.Need-keep-requires
keep-requires c κs =
    let b = start c.before.before.before in
    (omega (arith, b.requires.0.0), b.requires.0.1, place_within c.before.before.before)

shape_of-next : tie.Need-shape_of-next
shape_of-next c = search rules

shape_of-heads : tie.Need-shape_of-heads
shape_of-heads c = search rules

returns : tie.Need-returns
returns c =
    let b = start c.before.before.before.before.before.before.before.before in (
      c.again-found.ensures,
      (
        linked_more (rows b) _ _ b.args.r _ b.requires.1 b.requires.0.1
            (place_within c.before.before.before.before.before.before.before.before)
            (is_place c.before.before.before.before.before.before.before.before)
            c.keep.ensures.0
            c.keep.ensures.1,
        (
          c.keep.ensures.0 ∙ ap (λ (h : ℕ). set b.args.next.now b.args.r (get_or b.args.heads.now h 0)) (is_place c.before.before.before.before.before.before.before.before),
          c.keep.ensures.1 ∙ ap (λ (h : ℕ). set b.args.heads.now h (b.args.r + 1)) (is_place c.before.before.before.before.before.before.before.before),
        ),
      ),
    )

pub repeats_spec : {M : Type 1} → statement M
repeats_spec = tie.close (tie.spec of_row-requires place-h-requires again-found-requires keep-requires shape_of-next shape_of-heads returns)
