use borrow.Author.Rules.{rules}
use Rattle.text.proofs.TakenLaws.{headed_off, headed_on}
use Rattle.text.proofs.awaited.heading_line.Statement.{statement}
use Rattle.text.proofs.awaited.heading_line.Tie as tie

heading-next-requires : tie.Need-heading-next-requires
heading-next-requires c κs = search rules

returns-then-next-eq0 : tie.Need-returns-then-next-eq0
returns-then-next-eq0 c =
    let a = c.args in
    let h = c.heading-next in
    headed_off a.h.now a.text.now a.at a.line a.after h.result h.ensures c.if-next-eq0.true

returns : tie.Need-returns
returns c =
    let a = c.args in
    let h = c.heading-next in
    headed_on a.h.now a.text.now a.at a.line a.after h.result h.ensures c.if-next-eq0.false

pub heading_line_spec : {M : Type 1} → statement M
heading_line_spec = tie.close (tie.spec heading-next-requires returns-then-next-eq0 returns)
