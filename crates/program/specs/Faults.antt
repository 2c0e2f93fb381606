-- Where a refusal points, by the outcome of two texts.
use Rattle.std.specs.Prelude.{ℕ, ◌≤◌, None, Some}
use Rattle.stab.specs.Answer.{Packs}
use Rattle.stab.specs.Program.{in_first, in_second, check_points, model_points, verdict_fault}
use Rattle.stab.specs.declared.Fault.{Fault}
use Rattle.stab.specs.Finding.{Place}
use Rattle.outcome.specs.declared.Outcome.{Outcome}
use Rattle.outcome.specs.declared.Outcome.TheVariants.{First, Second, Judged}

-- the place of a refusal in reading is a line
abbrev pub place_line : Place → ℕ
place_line None = 0
place_line (Some k) = k

abbrev pub checked_fault : Outcome → Fault
checked_fault (First r) = in_first (place_line r.place)
checked_fault (Second r) = in_second (place_line r.place)
checked_fault (Judged v s p) = verdict_fault (check_points s p) v

abbrev pub modelled_fault : Outcome → Fault
modelled_fault (First r) = in_first (place_line r.place)
modelled_fault (Second r) = in_second (place_line r.place)
modelled_fault (Judged v s p) = verdict_fault model_points v

-- counts and places are small
abbrev pub Few : Outcome → Type 0
Few (First r) = Unit {0}
Few (Second r) = Unit {0}
Few (Judged v s p) = (p ≤ 1024) × Packs v
