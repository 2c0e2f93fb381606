use Rattle.std.proofs.Common.{refl, ◌∙◌, arith}
use Rattle.signed.proofs.Tables.{cleared_padded}
use Rattle.nextsmall.proofs.refuse.Goals as goal

pub returns-clause-table_after : goal.returns-clause-table_after
returns-clause-table_after c = c.clear.ensures ∙ cleared_padded c.args.table.now 0 _ (omega arith) refl
