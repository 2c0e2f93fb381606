-- A child beyond the number that its parent's rule has is found at the parent; of an added row it is said at the row.
use Rattle.std.specs.Prelude.{ℕ, eqb, if◌then◌else◌, Some, Ok, Err}
use Rattle.stab.specs.Answer.{refusal_number}
use Rattle.stab.specs.Finding.{no_refusal, refuse, Place, Finding}
use Rattle.stab.specs.declared.Refusal.{Refusal}

unfoldable pub placed : ℕ → Refusal → Place → Place
placed n why p = if eqb (refusal_number why) 17 then Some n else p

unfoldable pub moved : ℕ → Finding → Finding
moved n (Ok u) = no_refusal
moved n (Err r) = refuse r.why (placed n r.why r.place)
