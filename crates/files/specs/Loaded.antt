-- What is known of a buffer that a file was read into.
use Rattle.std.specs.Prelude.{ℕ, ◌≡◌, ◌≤◌, List, length, take}
use Rattle.stab.specs.Text.{padded}

-- the first n of xs are n
abbrev pub IsPrefixLen : ℕ → List ℕ → Type 0
IsPrefixLen n xs = (n ≤ length xs) × (n ≡ length (take n xs))

-- the buffer has n bytes, and all after the first r are 0. What the first r are is left open: that they are the file's, no contract
-- of the library's says.
pub record Loaded (n r : ℕ) (buf : List ℕ) : Type 0 where
  pub counts : IsPrefixLen r buf
  pub size : length buf ≡ n
  pub rest : buf ≡ padded 0 n (take r buf)
