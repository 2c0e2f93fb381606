use Rattle.std.proofs.Common.{◌≡◌, sym, ◌∙◌, ap, rules, Ok}
use Rattle.small.specs.Small.{next_packed}
use Rattle.small.specs.declared.Next.TheVariants.{Table, Last}
use Rattle.small.proofs.Packs.{packed_is}
use Rattle.told.proofs.next_table.Goals as goal

pub returns-in-Ok-Table : goal.returns-in-Ok-Table
returns-in-Ok-Table c =
    let e : c.args.next ≡ Ok Table = search rules in
    c.pack.ensures ∙ sym (packed_is _) ∙ ap next_packed (sym e)

pub returns-in-Ok-Last : goal.returns-in-Ok-Last
returns-in-Ok-Last c =
    let e : c.args.next ≡ Ok Last = search rules in
    c.pack-in-Ok-Last.ensures ∙ sym (packed_is _) ∙ ap next_packed (sym e)

pub returns-in-Err : goal.returns-in-Err
returns-in-Err c = c.pack-in-Err.ensures ∙ sym (packed_is _) ∙ ap next_packed (sym c.in-Err.is)
