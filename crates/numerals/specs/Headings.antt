-- A heading, and the place after it.
use Rattle.std.specs.Prelude.{ℕ, suc, ◌+◌, Bool, List, length, drop, if◌then◌else◌}
use Rattle.stab.specs.Basic.{◌and◌}
use Rattle.stab.specs.Text.{same_bytes}
use Rattle.numerals.specs.Here.{first_line}

-- the first line is the heading
unfoldable pub is_heading : List ℕ → List ℕ → Bool
is_heading h xs = (first_line xs).ended and same_bytes (first_line xs).content h

-- the place after it, 0 where it is another line
unfoldable pub after_heading : List ℕ → List ℕ → ℕ → ℕ
after_heading h text at = if is_heading h (drop at text) then at + suc (length h) else 0
