-- A pair as one number, whose order is that of pairs in range.
use Rattle.std.specs.Prelude.{ℕ, ◌+◌, ◌*◌, List, [], ◌∷◌, pos, ◌+ℤ◌}
use Rattle.stab.specs.Basic.{nat}
use Rattle.stab.specs.Occurs.{Wire}

unfoldable pub key_of : Wire → ℕ
key_of w = nat w.symbol * 131072 + nat (w.index +ℤ pos 65536)

unfoldable pub keys_of : List Wire → List ℕ
keys_of [] = []
keys_of (w ∷ ws) = key_of w ∷ keys_of ws
