use Rattle.std.proofs.Common.{◌≡◌, suc, ◌+◌, refl, sym, ap, add-one, arith}
use Rattle.stab.specs.Formula.{row_at}
use Rattle.wide.specs.Plain.{start_of, given, plain_rows, columns}
use Rattle.wide.proofs.Places.{start_rises, plain_length}
use Rattle.convert.specs.Emission.{written}
use Rattle.convert.proofs.ImageLaws.{imaged_none}
use Rattle.convert.proofs.WriteLaws.{then_written}
use Rattle.convert.proofs.rows.each.Goals as goal

pub loop-r-init : goal.loop-r-init
unfolding start_of plain_rows written columns
loop-r-init c = record { start = refl; imaged = imaged_none _ _; plain_so_far = refl }

pub step-s-requires : goal.step-s-requires
step-s-requires c =
    let l = c.loop-r in
    let p = c.requires.0 in (
      record {
        few = omega arith;
        formed = λ a h. p.formed a (omega arith);
        limit = omega (arith, start_rises (row_at c.args.wide.now) (suc l.r) c.args.n (omega arith), p.limit);
        room = omega (arith, l.auto.plain, p.room);
      },
      l.invariant.start,
      l.invariant.imaged,
      omega (arith, l.auto.images, c.requires.1),
    )

pub loop-r-preserved : goal.loop-r-preserved
unfolding plain_rows
loop-r-preserved c =
    let l = c.loop-r in
    let rows = row_at c.args.wide.now in
    let next : suc l.r ≡ l.r + 1 = sym (add-one l.r) in
    record {
      start = cc;
      imaged = rw add-one c.step-s.ensures.imaged;
      plain_so_far = then_written c.args.plain.now 0 l.s (plain_rows rows l.r) (given rows l.r) l.invariant.plain_so_far c.step-s.ensures.plain_after (omega (arith, plain_length rows l.r)) (ap (plain_rows rows) next);
    }
