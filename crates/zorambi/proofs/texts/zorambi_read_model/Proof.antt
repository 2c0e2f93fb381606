use mathlib.Core.Path.{sym, ◌∙◌, ap, subst}
use borrow.Author.Rules.{rules}
use Rattle.stab.specs.Entry.{model_packed, model_results, ModelFits}
use Rattle.stab.proofs.Entries.{model_fits}
use Rattle.zorambi.proofs.texts.zorambi_read_model.Statement.{statement}
use Rattle.zorambi.proofs.texts.zorambi_read_model.Tie as tie

read_model-requires : tie.Need-read_model-requires
read_model-requires c κs = tt

model-requires : tie.Need-model-requires
model-requires c κs = subst ModelFits (sym c.read_model.ensures.0) (model_fits _ _)

shape_of-pairs : tie.Need-shape_of-pairs
shape_of-pairs c = search rules

returns : tie.Need-returns
returns c =
    let e = c.read_model.ensures in
    (c.model.ensures.0 ∙ ap model_packed e.0, (c.model.ensures.1 ∙ ap model_results e.0, e.1))

pub zorambi_read_model_spec : {M : Type 1} → statement M
zorambi_read_model_spec =
    tie.close (tie.spec read_model-requires model-requires shape_of-pairs returns)
