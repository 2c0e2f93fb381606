use native.Mathlib.Omega.{arith}
use mathlib.Core.Path.{◌∙◌, ap}
use mathlib.Core.List.{List}
use Prim.Native.Nat.{ℕ, ◌-◌}
use borrow.Author.Rules.{rules}
use lib.ListN.{set}
use Rattle.output.proofs.HeadedTexts.{heading_length}
use Rattle.shown.proofs.Tellings.{name_length, name_end}
use Rattle.shown.proofs.put_name.Statement.{statement}
use Rattle.shown.proofs.put_name.Tie as tie

put_heading-n-requires : tie.Need-put_heading-n-requires
put_heading-n-requires c κs =
    omega (arith, heading_length c.args.name.now, name_length c.args.name.now, c.requires)

overflow_sub-out : tie.Need-overflow_sub-out
overflow_sub-out c =
    omega (arith, c.put_heading-n.ensures.0, heading_length c.args.name.now)

bounds-out-n : tie.Need-bounds-out-n
bounds-out-n c =
    omega (
      arith,
      overflow_sub-out c,
      c.put_heading-n.ensures.0,
      c.put_heading-n.auto.out,
      heading_length c.args.name.now,
      name_length c.args.name.now,
      c.requires,
    )

shape_of-out : tie.Need-shape_of-out
shape_of-out c = search rules

returns : tie.Need-returns
returns c =
    let n = c.put_heading-n.result in (
      omega (arith, c.put_heading-n.ensures.0, heading_length c.args.name.now, name_length c.args.name.now),
      ap (λ (o : List ℕ). set o (n - 1) 58) c.put_heading-n.ensures.1 ∙ name_end c.args.name.now c.args.out.now n c.put_heading-n.ensures.0,
    )

pub put_name_spec : {M : Type 1} → statement M
put_name_spec =
    tie.close (tie.spec put_heading-n-requires overflow_sub-out bounds-out-n shape_of-out returns)
