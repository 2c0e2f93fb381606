-- What a search comes to: a model at n with this many pairs, or none, or the refusal.
use Rattle.std.specs.Prelude.{Option, Result}
use Rattle.stab.specs.declared.ModelHeader.{ModelHeader}
use Rattle.stab.specs.declared.Refused.{Refused}

abbrev pub Shown : Type 0
Shown = Result (Option ModelHeader) Refused
