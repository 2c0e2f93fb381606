use Rattle.std.proofs.Common.{◌≡◌, length}
use native.Mathlib.Omega.{arith}
use Rattle.digits.proofs.Overs.{padded_rest}
use Rattle.files.proofs.Rest.{loaded}
use Rattle.files.proofs.load.Goals as goal

pub returns : goal.returns
returns g c =
    let l = c.fetch-n.new.buf in
    let size : length l ≡ length c.args.buf.now = omega arith in
    loaded _ c.fetch-n.result l _ c.fetch-n.ensures.0 size (padded_rest c.fetch-n.result l c.clear.new.out c.fetch-n.ensures.0 c.clear.ensures)
