use Prim.Native.Nat.{ℕ}
use mathlib.Core.Path.{◌∙◌, ap₂}
use mathlib.Core.List.{[], ◌∷◌}
use Rattle.zorambi.proofs.texts.zorambi_line.Statement.{statement}
use Rattle.zorambi.proofs.texts.zorambi_line.Tie as tie

span_of-requires : tie.Need-span_of-requires
span_of-requires c κs = tt

span-requires : tie.Need-span-requires
span-requires c κs = tt

returns : tie.Need-returns
returns c =
    let e = c.span_of.ensures.0 in
    c.span.ensures ∙ ap₂ (λ (start len : ℕ). start ∷ len ∷ []) e.0 e.1

pub zorambi_line_spec : {M : Type 1} → statement M
zorambi_line_spec = tie.close (tie.spec span_of-requires span-requires returns)
