use mathlib.Core.Path.{sym, ◌∙◌, ap₂, subst}
use Prim.Native.Nat.{◌<◌}
use Rattle.stab.specs.Answer.{Packs}
use Rattle.stab.specs.Entry.{texts_packed}
use Rattle.stab.specs.declared.Fault.{Fault}
use Rattle.stab.proofs.Entries.{check_texts_pack, check_fault_fits}
use Rattle.told.proofs.Says.{check_texts_say}
use Rattle.zorambi.proofs.both_texts.zorambi_check_older_texts.Statement.{statement}
use Rattle.zorambi.proofs.both_texts.zorambi_check_older_texts.Tie as tie

check-j-requires : tie.Need-check-j-requires
check-j-requires c κs = tt

texts-requires : tie.Need-texts-requires
texts-requires c κs =
    let e = c.check-j.ensures in
    (subst Packs (sym e.0) (check_texts_pack _ _ _), subst (λ (f : Fault). f.line < 16384) (sym e.1) (check_fault_fits _ _ _))

returns : tie.Need-returns
returns c =
    let e = c.check-j.ensures in
    let n = c.texts.ensures ∙ ap₂ texts_packed e.0 e.1 in
    (n, check_texts_say _ _ _ n)

pub zorambi_check_older_texts_spec : {M : Type 1} → statement M
zorambi_check_older_texts_spec = tie.close (tie.spec check-j-requires texts-requires returns)
