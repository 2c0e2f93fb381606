use Prim.Native.Nat.{◌-◌}
use native.Mathlib.Omega.{arith}
use Rattle.pairs.proofs.Keys.{Bracket, bracket_start, bracket_up, bracket_down, bracket_end}
use Rattle.pairs.proofs.keys_below.Statement.{statement}
use Rattle.pairs.proofs.keys_below.Tie as tie

abbrev invariant_loop : tie.invariant-loop-lo
invariant_loop pairs count key lo₀ hi₀ lo hi = Bracket pairs count key lo hi

abbrev decreases_loop : tie.decreases-loop-lo
decreases_loop pairs count key lo₀ hi₀ lo hi = hi - lo

loop-lo-init : tie.Need-loop-lo-init invariant_loop decreases_loop
loop-lo-init c = bracket_start _ _ _

overflow_sub-mid : tie.Need-overflow_sub-mid invariant_loop decreases_loop
overflow_sub-mid c = omega arith

overflow_add-mid : tie.Need-overflow_add-mid invariant_loop decreases_loop
overflow_add-mid c = omega arith

key_at-requires : tie.Need-key_at-requires invariant_loop decreases_loop
key_at-requires c κs = (omega arith, c.requires.1.in_range _ (omega arith))

overflow_add-lo : tie.Need-overflow_add-lo invariant_loop decreases_loop
overflow_add-lo c = omega arith

loop-lo-smaller-then-key_at-key : tie.Need-loop-lo-smaller-then-key_at-key invariant_loop decreases_loop
loop-lo-smaller-then-key_at-key c = omega arith

loop-lo-preserved-then-key_at-key : tie.Need-loop-lo-preserved-then-key_at-key invariant_loop decreases_loop
loop-lo-preserved-then-key_at-key c =
    bracket_up _ _ _ _ _ c.requires.1 c.loop-lo.invariant _ (omega arith) (omega arith)
    (omega (arith, c.key_at.ensures, c.if-key_at-key.true))

loop-lo-smaller : tie.Need-loop-lo-smaller invariant_loop decreases_loop
loop-lo-smaller c = omega arith

loop-lo-preserved : tie.Need-loop-lo-preserved invariant_loop decreases_loop
loop-lo-preserved c =
    bracket_down _ _ _ _ _ c.requires.1 c.loop-lo.invariant _ (omega arith) (omega arith)
    (omega (arith, c.key_at.ensures, c.if-key_at-key.false))

returns : tie.Need-returns invariant_loop decreases_loop
returns c = bracket_end _ _ _ _ _ c.loop-lo.invariant c.loop-lo-test.false

pub keys_below_spec : {M : Type 1} → statement M
keys_below_spec =
    tie.close
    (tie.spec
    invariant_loop
    decreases_loop
    loop-lo-init
    overflow_sub-mid
    overflow_add-mid
    key_at-requires
    overflow_add-lo
    loop-lo-smaller-then-key_at-key
    loop-lo-preserved-then-key_at-key
    loop-lo-smaller
    loop-lo-preserved
    returns)
