use mathlib.Core.Path.{◌∙◌, ap}
use Prim.Native.Nat.{ℕ}
use lib.IntN.{pos}
use Rattle.signed.proofs.Tables.{cleared_all}
use Rattle.round.specs.Again.{kept}
use Rattle.round.proofs.Kept.{refused_kept, read_kept, written_number}
use Rattle.round.proofs.keep_table.Goals as goal

pub returns-then-is_err : goal.returns-then-is_err
returns-then-is_err c =
    let a = c.args in
    c.clear.ensures ∙ cleared_all _ ∙ refused_kept (pos 0) a.written a.table.now c.if-is_err.ensures.value
    ∙ ap (λ (k : ℕ). kept (pos 0) k a.table.now) (written_number a.written)

pub returns-else-is_err : goal.returns-else-is_err
returns-else-is_err c =
    let a = c.args in
    read_kept (pos 0) a.written a.table.now c.if-is_err.ensures.value ∙ ap (λ (k : ℕ). kept (pos 0) k a.table.now) (written_number a.written)
