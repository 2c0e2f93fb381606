use Rattle.signed.proofs.Signs.{read_back}
use Rattle.jointrefusal.proofs.measure.schema_header.Statement.{statement}
use Rattle.jointrefusal.proofs.measure.schema_header.Tie as tie

returns : tie.Need-returns
returns c =
    let h = c.args.h in
    λ i. record { rows = h.schema_rows; root = read_back h.root c.struct_told-1.given.1.1.0.1 i; least = read_back h.least c.struct_told-1.given.1.1.1.0.1 i }

pub schema_header_spec : {M : Type 1} → statement M
schema_header_spec = tie.close (tie.spec returns)
