use Prim.Native.Nat.{◌*◌, ◌≤◌}
use native.Mathlib.Omega.{arith}
use native.Mathlib.Nat.{mul-le-mul}
use mathlib.Core.Path.{refl}
use Rattle.tables.specs.Chain.{bucket_of}
use Rattle.tables.proofs.ChainLaws.{bucket_small}
use Rattle.tables.proofs.chain.bucket.Statement.{statement}
use Rattle.tables.proofs.chain.bucket.Tie as tie

overflow_mul-result : tie.Need-overflow_mul-result
overflow_mul-result c =
    let h : c.args.hash ≤ 1073741824 = omega (arith, c.requires.0) in
    let product : c.args.hash * c.args.m ≤ 1073741824 * 65536 = mul-le-mul h c.requires.2 in
    omega arith

returns : tie.Need-returns
unfolding bucket_of
returns c = (refl, bucket_small c.args.m c.args.hash c.requires.0 c.requires.1)

pub bucket_spec : {M : Type 1} → statement M
bucket_spec = tie.close (tie.spec overflow_mul-result returns)
