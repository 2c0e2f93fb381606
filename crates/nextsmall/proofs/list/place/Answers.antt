use Rattle.std.proofs.Common.{◌+◌, ◌*◌, ◌<◌, arith}
use Rattle.nextsmall.proofs.TablePlaces.{Placed, placed_none, placed_more, total_most}
use Rattle.nextsmall.proofs.list.place.Goals as goal

pub loop-r-init : goal.loop-r-init
loop-r-init c = placed_none c.args.table.now

-- a row more
more : (c : goal.Else-k-d) → Placed c.args.table.now (c.loop-r.r + 1) (c.loop-r.i * c.count-k.result + c.place-d.result)
more c = placed_more _ _ _ _ _ (omega arith) c.count-k.ensures.0 c.if-k-d.false c.place-d.ensures c.loop-r.invariant

small : (c : goal.Else-k-d) → c.loop-r.i * c.count-k.result + c.place-d.result < 18720
small c = omega (arith, (more c).0, total_most (c.loop-r.r + 1) (omega arith))

pub overflow_mul-i : goal.overflow_mul-i
overflow_mul-i c = omega (arith, small c)

pub overflow_add-i : goal.overflow_add-i
overflow_add-i c = omega (arith, small c)

pub loop-r-preserved : goal.loop-r-preserved
loop-r-preserved c = more c
