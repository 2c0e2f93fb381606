use native.Mathlib.Omega.{arith}
use mathlib.Core.Path.{refl, sym, ◌∙◌, subst}
use lib.ListN.{length}
use Rattle.signed.proofs.Signs.{read_back}
use Rattle.stab.specs.Text.{lines, text_limit}
use Rattle.text.specs.Awaiting.{rest}
use Rattle.text.specs.Texts.{ModelOf}
use Rattle.text.specs.declared.awaited.Awaited.TheVariants.{ModelHeading}
use Rattle.text.proofs.SchemaLaws.{model_long, model_short, model_on}
use Rattle.text.proofs.EndLaws.{came}
use Rattle.text.proofs.Openings.{refused_at}
use Rattle.text.proofs.read.model_text.Goals as goal

pub returns-then-text-gt65536 : goal.returns-then-text-gt65536
unfolding text_limit
returns-then-text-gt65536 c = let a = c.args in refused_at c.at.ensures (model_long (length a.table.now) a.text.now c.if-text-gt65536.true)

pub returns-then-table-lt8192 : goal.returns-then-table-lt8192
unfolding text_limit
returns-then-table-lt8192 c = let a = c.args in refused_at c.at-then-table-lt8192.ensures (model_short (length a.table.now) a.text.now c.if-text-gt65536.false c.if-table-lt8192.true)

pub read_lines-p-requires : goal.read_lines-p-requires
unfolding text_limit
read_lines-p-requires c =
    record { within = omega arith; short = c.if-text-gt65536.false; room = (c.if-table-lt8192.false, omega arith) }

pub returns : goal.returns
unfolding rest text_limit
returns c =
    let a = c.args in
    let r = c.read_lines-p in
    let n = c.at-2 in
    subst (λ x. ModelOf x r.new.table c.model_read.result) (sym (model_on (length a.table.now) a.text.now c.if-text-gt65536.false c.if-table-lt8192.false))
    (c.model_read.ensures (lines a.text.now) r.new.table r.new.nodes r.new.members (came a.text.now ModelHeading _ _ _ _ _ _ _ r.ensures refl) (read_back _ n.type_inv ∙ n.ensures))
