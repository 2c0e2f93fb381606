use Prim.Native.Nat.{◌≤◌}
use native.Mathlib.Omega.{arith}
use borrow.Author.Rules.{rules}
use lib.IntN.{neg_ℤ}
use Rattle.stab.specs.Basic.{nat}
use Rattle.stab.specs.Formula.{row_at, offset}
use Rattle.pairs.proofs.Parts.{within_under, within_nat, size_is}
use Rattle.value.proofs.range_size.Statement.{statement}
use Rattle.value.proofs.range_size.Tie as tie

-- the two columns lie in -9999..9999
record Near (c : tie.Start) : Type 0 where
  start_under : nat (neg_ℤ (row_at c.args.schema.now c.args.f).b) ≤ 9999
  start_up : nat (row_at c.args.schema.now c.args.f).b ≤ 9999
  end_under : nat (neg_ℤ (row_at c.args.schema.now c.args.f).c) ≤ 9999
  end_up : nat (row_at c.args.schema.now c.args.f).c ≤ 9999

near : (c : tie.Start) → Near c
unfolding offset
near c =
    record {
      start_under = within_under 9999 9999 _ c.requires.2.start;
      start_up = within_nat 9999 9999 _ c.requires.2.start;
      end_under = within_under 9999 9999 _ c.requires.2.end;
      end_up = within_nat 9999 9999 _ c.requires.2.end;
    }

overflow_add-up : tie.Need-overflow_add-up
overflow_add-up c = search rules

overflow_mul-f : tie.Need-overflow_mul-f
overflow_mul-f c = search rules

overflow_add-f : tie.Need-overflow_add-f
overflow_add-f c = search rules

under_at-requires : tie.Need-under_at-requires
under_at-requires c κs = search rules

overflow_add-up-2 : tie.Need-overflow_add-up-2
unfolding row_at
overflow_add-up-2 c = omega (arith, near c.before)

overflow_mul-f-2 : tie.Need-overflow_mul-f-2
overflow_mul-f-2 c = search rules

overflow_add-f-2 : tie.Need-overflow_add-f-2
overflow_add-f-2 c = search rules

under_at-requires-2 : tie.Need-under_at-requires-2
under_at-requires-2 c κs = search rules

overflow_add-up-3 : tie.Need-overflow_add-up-3
unfolding row_at
overflow_add-up-3 c = omega (arith, near c.before.before)

overflow_mul-f-3 : tie.Need-overflow_mul-f-3
overflow_mul-f-3 c = search rules

overflow_add-f-3 : tie.Need-overflow_add-f-3
overflow_add-f-3 c = search rules

natural_at-requires : tie.Need-natural_at-requires
natural_at-requires c κs = search rules

overflow_mul-f-4 : tie.Need-overflow_mul-f-4
overflow_mul-f-4 c = search rules

overflow_add-f-4 : tie.Need-overflow_add-f-4
overflow_add-f-4 c = search rules

natural_at-requires-2 : tie.Need-natural_at-requires-2
natural_at-requires-2 c κs = search rules

overflow_add-down : tie.Need-overflow_add-down
unfolding row_at
overflow_add-down c = omega (arith, near c.before.before.before.before)

returns-then-up-down : tie.Need-returns-then-up-down
unfolding row_at
returns-then-up-down c =
    let a = c.args in
    omega (arith, size_is a.n (row_at a.schema.now a.f).b (row_at a.schema.now a.f).c)

returns-else-up-down : tie.Need-returns-else-up-down
unfolding row_at
returns-else-up-down c =
    let a = c.args in
    omega (arith, size_is a.n (row_at a.schema.now a.f).b (row_at a.schema.now a.f).c)

pub range_size_spec : {M : Type 1} → statement M
range_size_spec =
    tie.close
    (tie.spec
    overflow_add-up
    overflow_mul-f
    overflow_add-f
    under_at-requires
    overflow_add-up-2
    overflow_mul-f-2
    overflow_add-f-2
    under_at-requires-2
    overflow_add-up-3
    overflow_mul-f-3
    overflow_add-f-3
    natural_at-requires
    overflow_mul-f-4
    overflow_add-f-4
    natural_at-requires-2
    overflow_add-down
    returns-then-up-down
    returns-else-up-down)
