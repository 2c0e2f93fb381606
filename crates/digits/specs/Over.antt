-- What a writer leaves in the output that it is lent.
use Rattle.std.specs.Prelude.{List, [], ◌∷◌, ◌++◌, ℕ, length, drop, ℤ}
use Rattle.stab.specs.Text.{decimal, space}

-- the text in front, and after it what was there before
unfoldable pub over : List ℕ → List ℕ → List ℕ
over text old = text ++ drop (length text) old

-- numbers with a space after each
unfoldable pub spread : List ℤ → List ℕ
spread [] = []
spread (z ∷ zs) = decimal z ++ space ∷ spread zs
