-- What a part of the check finds, and the verdict: nothing or the counts of an accepted record, or else the refusal with its place.
use Rattle.std.specs.Prelude.{ℕ, Option, Result, Ok, Err}
use Rattle.stab.specs.declared.Counts.{Counts}
use Rattle.stab.specs.declared.Refusal.{Refusal}
use Rattle.stab.specs.declared.Refused.{Refused}

-- a row, node or line; none is the record as a whole
abbrev pub Place : Type 0
Place = Option ℕ

abbrev pub Finding : Type 0
Finding = Result (Unit {0}) Refused

abbrev pub Verdict : Type 0
Verdict = Result Counts Refused

abbrev pub no_refusal : Finding
no_refusal = Ok tt

abbrev pub accept : ℕ → ℕ → Verdict
accept nodes links = Ok (record { nodes = nodes; links = links })

abbrev pub refuse : {A : Type 0} → Refusal → Place → Result A Refused
refuse why place = Err (record { why = why; place = place })
