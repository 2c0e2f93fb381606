use native.Mathlib.Omega.{arith}
use mathlib.Core.Path.{refl, sym, ◌∙◌, subst}
use lib.ListN.{length}
use Rattle.signed.proofs.Signs.{read_back}
use Rattle.stab.specs.Text.{lines, text_limit}
use Rattle.text.specs.Awaiting.{rest}
use Rattle.text.specs.Texts.{SchemaOf}
use Rattle.text.specs.declared.awaited.Awaited.TheVariants.{SchemaHeading}
use Rattle.text.proofs.SchemaLaws.{schema_long, schema_short, schema_on}
use Rattle.text.proofs.EndLaws.{came}
use Rattle.text.proofs.Openings.{refused_at}
use Rattle.text.proofs.read.schema_text.Goals as goal

pub returns-then-text-gt65536 : goal.returns-then-text-gt65536
unfolding text_limit
returns-then-text-gt65536 c = let a = c.args in refused_at c.at.ensures (schema_long (length a.table.now) a.text.now c.if-text-gt65536.true)

pub returns-then-table-lt4096 : goal.returns-then-table-lt4096
unfolding text_limit
returns-then-table-lt4096 c = let a = c.args in refused_at c.at-then-table-lt4096.ensures (schema_short (length a.table.now) a.text.now c.if-text-gt65536.false c.if-table-lt4096.true)

pub read_lines-p-requires : goal.read_lines-p-requires
unfolding text_limit
read_lines-p-requires c =
    record { within = omega arith; short = c.if-text-gt65536.false; room = (c.if-table-lt4096.false, omega arith) }

pub returns : goal.returns
unfolding rest text_limit
returns c =
    let a = c.args in
    let r = c.read_lines-p in
    let root = c.at-2 in
    let least = c.at-3 in
    subst (λ x. SchemaOf x r.new.table c.schema_read.result) (sym (schema_on (length a.table.now) a.text.now c.if-text-gt65536.false c.if-table-lt4096.false))
    (c.schema_read.ensures (lines a.text.now) r.new.table r.new.nodes r.new.members (came a.text.now SchemaHeading _ _ _ _ _ _ _ r.ensures refl) (read_back _ root.type_inv ∙ root.ensures) (read_back _ least.type_inv ∙ least.ensures))
