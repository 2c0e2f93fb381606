-- The verdict with the numbers of a call's answer.
use Rattle.stab.specs.Finding.{Verdict}
use Rattle.growing.specs.declared.Growth.{Growth}

abbrev pub as_verdict : Growth → Verdict
as_verdict r = r.verdict
