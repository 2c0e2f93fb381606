use native.Mathlib.Omega.{arith}
use mathlib.Core.Path.{sym, ◌∙◌, ap₂}
use mathlib.Core.List.{List}
use Prim.Native.Nat.{ℕ, ◌-◌}
use borrow.Author.Rules.{rules}
use lib.ListN.{set}
use Rattle.output.proofs.Spreads.{row_length, row_end, row_some}
use Rattle.output.proofs.put_row.Statement.{statement}
use Rattle.output.proofs.put_row.Tie as tie

put_numbers-n-requires : tie.Need-put_numbers-n-requires
put_numbers-n-requires c κs =
    (c.requires.1, omega (arith, row_length c.args.row.now c.requires.0, c.requires.2))

overflow_sub-out : tie.Need-overflow_sub-out
overflow_sub-out c =
    omega (arith, c.put_numbers-n.ensures.0, row_some c.args.row.now c.requires.0)

bounds-out-n : tie.Need-bounds-out-n
bounds-out-n c =
    omega (arith, overflow_sub-out c, c.put_numbers-n.ensures.0, c.put_numbers-n.auto.out, row_length c.args.row.now c.requires.0, c.requires.2)

shape_of-out : tie.Need-shape_of-out
shape_of-out c = search rules

returns : tie.Need-returns
returns c =
    let row = c.args.row.now in (
      c.put_numbers-n.ensures.0 ∙ sym (row_length row c.requires.0),
      ap₂ (λ (o : List ℕ) (k : ℕ). set o (k - 1) 10) c.put_numbers-n.ensures.1 c.put_numbers-n.ensures.0
          ∙ row_end row c.args.out.now c.requires.0,
    )

pub put_row_spec : {M : Type 1} → statement M
put_row_spec =
    tie.close (tie.spec put_numbers-n-requires overflow_sub-out bounds-out-n shape_of-out returns)
