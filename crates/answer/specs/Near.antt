-- A place that fits into the one number.
use Rattle.std.specs.Prelude.{◌+◌, ◌<◌, None, Some}
use Rattle.stab.specs.Finding.{Place}

abbrev pub Coded : Place → Type 0
Coded None = Unit {0}
Coded (Some k) = k + 1 < 8192
