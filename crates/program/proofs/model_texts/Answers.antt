use mathlib.Core.Path.{sym, ◌∙◌, ap, subst}
use lib.ListN.{length}
use Rattle.stab.specs.Text.{padded}
use Rattle.stab.specs.Answer.{verdict_numbers, Packs}
use Rattle.stab.specs.Program.{printed, model_program}
use Rattle.stab.specs.Finding.{Verdict}
use Rattle.stab.proofs.Entries.{model_texts_pack}
use Rattle.printing.proofs.Prints.{counted}
use Rattle.program.proofs.model_texts.Goals as goal

pub print-bytes-requires : goal.print-bytes-requires
print-bytes-requires c = subst Packs (sym c.check_model-j.ensures.verdict_value) (model_texts_pack _ _)

pub returns-clause-count : goal.returns-clause-count
unfolding model_program
returns-clause-count c =
    c.print-bytes.ensures.0 ∙ ap (λ (v : Verdict). length (printed (verdict_numbers v))) c.check_model-j.ensures.verdict_value

pub returns-clause-text : goal.returns-clause-text
unfolding model_program
returns-clause-text c =
    c.print-bytes.ensures.1 ∙ ap (λ (v : Verdict). padded 0 64 (printed (verdict_numbers v))) c.check_model-j.ensures.verdict_value

pub returns-clause-within : goal.returns-clause-within
returns-clause-within c = counted _ _ _ 64 (returns-clause-count c) (returns-clause-text c)
