use borrow.Author.Rules.{rules}
use Rattle.numerals.proofs.Fields.{ends_space, ends_line, ends_neither, closed_is, closed_is_none}
use Rattle.numerals.proofs.closed.Statement.{statement}
use Rattle.numerals.proofs.closed.Tie as tie

byte_at-b-requires : tie.Need-byte_at-b-requires
byte_at-b-requires c κs = search rules

overflow_add-result : tie.Need-overflow_add-result
overflow_add-result c = search rules

returns-then-b-eq32 : tie.Need-returns-then-b-eq32
returns-then-b-eq32 c =
    let r = c.args.run in
    closed_is r.value r.next _ _ c.byte_at-b.ensures (ends_space _ c.if-b-eq32.true)

overflow_add-result-then-b-eq10 : tie.Need-overflow_add-result-then-b-eq10
overflow_add-result-then-b-eq10 c = search rules

returns-then-b-eq10 : tie.Need-returns-then-b-eq10
returns-then-b-eq10 c =
    let r = c.args.run in
    closed_is r.value r.next _ _ c.byte_at-b.ensures (ends_line _ c.if-b-eq10.true)

returns : tie.Need-returns
returns c =
    let r = c.args.run in
    closed_is_none r.value r.next _ _ c.byte_at-b.ensures (ends_neither _ c.if-b-eq32.false c.if-b-eq10.false)

pub closed_spec : {M : Type 1} → statement M
closed_spec = tie.close (tie.spec byte_at-b-requires overflow_add-result returns-then-b-eq32 overflow_add-result-then-b-eq10 returns-then-b-eq10 returns)
