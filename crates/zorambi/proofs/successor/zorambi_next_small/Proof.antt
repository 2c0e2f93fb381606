use mathlib.Core.Path.{sym, ◌∙◌, ap, subst}
use borrow.Author.Rules.{rules}
use Rattle.stab.specs.Answer.{Packs}
use Rattle.small.specs.Small.{next_packed, next_verdict}
use Rattle.std.specs.Prelude.{Result}
use Rattle.stab.specs.declared.Refused.{Refused}
use Rattle.small.specs.declared.Next.{Next}
use Rattle.small.proofs.Packs.{next_packs}
use Rattle.zorambi.proofs.successor.zorambi_next_small.Statement.{statement}
use Rattle.zorambi.proofs.successor.zorambi_next_small.Tie as tie

next_small-requires : tie.Need-next_small-requires
next_small-requires c κs = tt

next_table-requires : tie.Need-next_table-requires
next_table-requires c κs = subst (λ (r : Result Next Refused). Packs (next_verdict r)) (sym c.next_small.ensures.0) (next_packs _ _ _)

shape_of-next : tie.Need-shape_of-next
shape_of-next c = search rules

returns : tie.Need-returns
returns c =
    let e = c.next_small.ensures in
    (c.next_table.ensures ∙ ap next_packed e.0, e.1)

pub zorambi_next_small_spec : {M : Type 1} → statement M
zorambi_next_small_spec =
    tie.close (tie.spec next_small-requires next_table-requires shape_of-next returns)
