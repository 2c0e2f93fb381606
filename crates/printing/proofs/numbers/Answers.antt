-- A signed number is kept as bits, and read back from them.
use mathlib.Core.Path.{sym, ◌∙◌, ap, ap₂}
use mathlib.Core.List.{[], ◌∷◌}
use lib.IntN.{ℤ, pos}
use Rattle.stab.specs.Answer.{refused_numbers, verdict_numbers}
use Rattle.stab.specs.Finding.{Verdict}
use Rattle.signed.proofs.Signs.{read_back}
use Rattle.printing.specs.Printing.{number_row}
use Rattle.printing.proofs.numbers.Goals as goal

pub returns-in-Ok : goal.returns-in-Ok
unfolding number_row verdict_numbers
returns-in-Ok c =
    ap₂ (λ (a b : ℤ). pos 0 ∷ pos 0 ∷ a ∷ b ∷ [])
    (read_back _ c.of.type_inv ∙ c.of.ensures)
    (read_back _ c.of-in-Ok.type_inv ∙ c.of-in-Ok.ensures)
    ∙ ap (λ (v : Verdict). number_row (verdict_numbers v)) (sym c.in-Ok.is)

pub returns-in-Err : goal.returns-in-Err
unfolding number_row verdict_numbers refused_numbers
returns-in-Err c =
    ap₂ (λ (a b : ℤ). a ∷ b ∷ pos 0 ∷ pos 0 ∷ [])
    (read_back _ c.of-in-Err.type_inv ∙ c.of-in-Err.ensures ∙ ap pos c.number.ensures)
    (read_back _ c.place_number.type_inv ∙ c.place_number.ensures)
    ∙ ap (λ (v : Verdict). number_row (verdict_numbers v)) (sym c.in-Err.is)
