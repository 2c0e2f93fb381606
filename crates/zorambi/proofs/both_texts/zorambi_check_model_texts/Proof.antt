use mathlib.Core.Path.{sym, ◌∙◌, ap₂, subst}
use Prim.Native.Nat.{◌<◌}
use Rattle.stab.specs.Answer.{Packs}
use Rattle.stab.specs.Entry.{texts_packed}
use Rattle.stab.specs.declared.Fault.{Fault}
use Rattle.stab.proofs.Entries.{model_texts_pack, model_fault_fits}
use Rattle.told.proofs.Says.{model_texts_say_lem}
use Rattle.zorambi.proofs.both_texts.zorambi_check_model_texts.Statement.{statement}
use Rattle.zorambi.proofs.both_texts.zorambi_check_model_texts.Tie as tie

check_model-j-requires : tie.Need-check_model-j-requires
check_model-j-requires c κs = tt

texts-requires : tie.Need-texts-requires
texts-requires c κs =
    let e = c.check_model-j.ensures in
    (subst Packs (sym e.0) (model_texts_pack _ _), subst (λ (f : Fault). f.line < 16384) (sym e.1) (model_fault_fits _ _))

returns : tie.Need-returns
returns c =
    let e = c.check_model-j.ensures in
    let n = c.texts.ensures ∙ ap₂ texts_packed e.0 e.1 in
    (n, model_texts_say_lem _ _ n)

pub zorambi_check_model_texts_spec : {M : Type 1} → statement M
zorambi_check_model_texts_spec = tie.close (tie.spec check_model-j-requires texts-requires returns)
