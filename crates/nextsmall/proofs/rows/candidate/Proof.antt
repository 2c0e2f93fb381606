use mathlib.Core.Path.{◌∙◌}
use borrow.Author.Rules.{rules}
use Rattle.nextsmall.proofs.RowPlaces.{plain_at, over_1, over_2, over_at}
use Rattle.nextsmall.proofs.rows.candidate.Statement.{statement}
use Rattle.nextsmall.proofs.rows.candidate.Tie as tie

plain-requires : tie.Need-plain-requires
plain-requires c κs = search rules

returns-then-d-lt20 : tie.Need-returns-then-d-lt20
returns-then-d-lt20 c = c.plain.ensures ∙ plain_at c.args.r c.args.d c.requires.0 c.if-d-lt20.true

over_one-requires : tie.Need-over_one-requires
over_one-requires c κs = over_1 c.args.r c.args.d c.if-r-eq1.true c.requires.1

returns-then-r-eq1 : tie.Need-returns-then-r-eq1
returns-then-r-eq1 c =
    c.over_one.ensures ∙ over_at c.args.r 1 c.args.d c.if-r-eq1.true c.if-d-lt20.false

over_two-requires : tie.Need-over_two-requires
over_two-requires c κs = (over_2 c.args.r c.args.d c.requires.0 c.if-d-lt20.false c.requires.1 c.if-r-eq1.false).1

returns : tie.Need-returns
returns c =
    let r = c.args.r in
    let d = c.args.d in
    let h = c.if-d-lt20.false in
    c.over_two.ensures ∙ over_at r 2 d (over_2 r d c.requires.0 h c.requires.1 c.if-r-eq1.false).0 h

pub candidate_spec : {M : Type 1} → statement M
candidate_spec =
    tie.close
    (tie.spec plain-requires returns-then-d-lt20 over_one-requires returns-then-r-eq1 over_two-requires returns)
