-- What the programs say of a line: the name of its file, its number, the line.
use Rattle.std.specs.Prelude.{ℕ, List, [], ◌∷◌, ◌++◌, leb, pos, length, if◌then◌else◌}
use Rattle.stab.specs.Basic.{◌and◌}
use Rattle.stab.specs.Text.{bytes, newline, decimal}
use Rattle.stab.specs.LineNumber.{line_of}
use Rattle.stab.specs.declared.Fault.{Fault}
use Rattle.line.specs.LineParts.{named}

unfoldable pub told : List ℕ → ℕ → List ℕ → List ℕ
told name k line = name ++ bytes ":" ++ decimal (pos k) ++ bytes ": " ++ line ++ newline ∷ []

-- what n bytes hold of it: nothing of line 0, which is no line, of a number over five digits, and where it does not fit
unfoldable pub told_in : ℕ → List ℕ → ℕ → List ℕ → List ℕ
told_in n name k line = if leb 1 k and leb k 99999 and leb (length (told name k line)) n then told name k line else []

-- the same of the line at fault, in the schema text or the second one
unfoldable pub told_at : ℕ → List ℕ → List ℕ → List ℕ → Fault → List ℕ
told_at n name schema proof f = told_in n name f.line (line_of (named f.second schema proof) f.line)
