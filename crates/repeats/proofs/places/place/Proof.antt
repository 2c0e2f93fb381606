use borrow.Author.Rules.{rules}
use Prim.Native.Nat.{ℕ, ◌/◌}
use mathlib.Core.Path.{◌≡◌, ◌∙◌, ap}
use Rattle.signed.specs.Numbers.{rank_of}
use Rattle.signed.proofs.Signs.{read_back}
use Rattle.formula.specs.Cells.{row_of}
use Rattle.formula.specs.Spread.{spread_of}
use Rattle.repeats.specs.Places.{place_of}
use Rattle.repeats.proofs.places.place.Statement.{statement}
use Rattle.repeats.proofs.places.place.Tie as tie

rank-requires : tie.Need-rank-requires
rank-requires c κs = search rules

rank-requires-2 : tie.Need-rank-requires-2
rank-requires-2 c κs = search rules

rank-requires-3 : tie.Need-rank-requires-3
rank-requires-3 c κs = search rules

rank-requires-4 : tie.Need-rank-requires-4
rank-requires-4 c κs = search rules

spread-requires : tie.Need-spread-requires
spread-requires c κs = search rules

returns : tie.Need-returns
unfolding place_of row_of
returns c =
    let w = c.args.w in
    let ek : c.rank.result ≡ rank_of w.kind = c.rank.ensures.0 ∙ ap rank_of (read_back w.kind c.struct_told-1.given.0.1) in
    let ea : c.rank-2.result ≡ rank_of w.a = c.rank-2.ensures.0 ∙ ap rank_of (read_back w.a c.struct_told-1.given.1.0.1) in
    let eb : c.rank-3.result ≡ rank_of w.b = c.rank-3.ensures.0 ∙ ap rank_of (read_back w.b c.struct_told-1.given.1.1.0.1) in
    let ec : c.rank-4.result ≡ rank_of w.c = c.rank-4.ensures.0 ∙ ap rank_of (read_back w.c c.struct_told-1.given.1.1.1.0.1) in
    ap (λ (n : ℕ). n / 1048576) (c.spread.ensures.0 ∙ λ i. spread_of (ek i) (ea i) (eb i) (ec i))

pub place_spec : {M : Type 1} → statement M
place_spec =
    tie.close
    (tie.spec
    rank-requires
    rank-requires-2
    rank-requires-3
    rank-requires-4
    spread-requires
    returns)
