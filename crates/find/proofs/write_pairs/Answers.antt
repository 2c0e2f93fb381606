use Rattle.std.proofs.Common.{◌*◌, pos, length, take, ◌∙◌, ap, arith, length-take-le}
use Rattle.stab.specs.Text.{padded}
use Rattle.signed.proofs.Tables.{cleared_padded}
use Rattle.find.specs.Search.{wires_of}
use Rattle.find.proofs.Pairs.{wires_length, given_more, given_all}
use Rattle.find.proofs.write_pairs.Goals as goal

pub loop-k-preserved : goal.loop-k-preserved
loop-k-preserved c =
    let a = c.args in
    let l = c.loop-k in
    let put = c.put_true-given in
    let more = given_more a.keys.now a.count c.requires.1 a.m l.k l.given l.pairs c.loop-k-test.true (omega arith) l.invariant.so_far put.result put.new.pairs put.ensures.0 put.ensures.1 in
    record { at_most = omega (arith, more.1); so_far = more.0 }

pub returns : goal.returns
returns c =
    let a = c.args in
    let l = c.loop-k in
    let all = given_all (wires_of (take a.count a.keys.now)) a.m l.k l.given l.pairs (omega (arith, wires_length (take a.count a.keys.now), length-take-le a.count a.keys.now c.requires.1)) l.invariant.so_far in (
      all.0,
      c.clear.ensures
          ∙ cleared_padded l.pairs (2 * l.given) _ (omega arith) l.auto.pairs
          ∙ ap (padded (pos 0) (length a.pairs.now)) all.1,
    )
