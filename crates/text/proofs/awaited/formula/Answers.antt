use Prim.Native.Nat.{◌*◌}
use mathlib.Core.Path.{sym, ◌∙◌}
use Rattle.stab.specs.Text.{node_heading, bytes}
use Rattle.stab.proofs.Texts.ProofRows.{node_heading_lacks}
use Rattle.text.proofs.RowLaws.{into_none, into_over}
use Rattle.text.proofs.StepLaws.{first_letter, formula_end, formula_u, formula_other}
use Rattle.text.proofs.awaited.formula.Goals as goal

pub returns-then-text-at : goal.returns-then-text-at
returns-then-text-at c = let a = c.args in (formula_end a.text.now a.at a.n c.if-text-at.true, into_over a.text.now a.at 4 (4 * a.n) a.table.now c.if-text-at.true)

pub heading_line-requires : goal.heading_line-requires
unfolding node_heading bytes
heading_line-requires c = (c.requires.0, node_heading_lacks)

pub returns-then-byte_at-eq117 : goal.returns-then-byte_at-eq117
unfolding node_heading bytes
returns-then-byte_at-eq117 c =
    let a = c.args in
    let e = sym c.byte_at.ensures ∙ c.if-byte_at-eq117.true in (
      c.heading_line.ensures ∙ sym (formula_u a.text.now a.at a.n c.if-text-at.false e),
      into_none a.text.now a.at 4 (4 * a.n) a.table.now (first_letter a.text.now a.at c.if-text-at.false e),
    )

pub returns : goal.returns
returns c =
    let a = c.args in
    let w = c.row in
    (w.ensures.0 ∙ sym (formula_other a.text.now a.at a.n c.if-text-at.false (λ x. c.if-byte_at-eq117.false (c.byte_at.ensures ∙ x))), w.ensures.1)
