-- A buffer that is 0 past what was read.
use Prim.Native.Nat.{ℕ, ◌-◌, ◌≤◌}
use native.Mathlib.Omega.{arith}
use mathlib.Core.Path.{◌≡◌, sym, ◌∙◌, ap, ap₂}
use mathlib.Core.List.{List}
use lib.ListN.{length, take, replicate, length-append, length-replicate}
use lib.Seq.{take_at, length-take-le}
use Rattle.stab.specs.Text.{padded}
use Rattle.files.specs.Loaded.{Loaded}

pub loaded : (n r : ℕ) (l buf : List ℕ) → r ≤ length l → length l ≡ n → buf ≡ padded 0 (length l) (take r l) → Loaded n r buf
unfolding padded
loaded n r l buf h size e =
    let front = length-take-le r l h in
    let rest : List ℕ = replicate (length l - length (take r l)) 0 in
    let whole : length buf ≡ n = omega (arith, ap length e, length-append (take r l) rest, length-replicate {A = ℕ} (length l - length (take r l)) 0) in
    let same : take r buf ≡ take r l = ap (take r) e ∙ take_at (take r l) _ r front in
    record {
      counts = (omega arith, sym (length-take-le r buf (omega arith)));
      size = whole;
      rest = e ∙ ap₂ (λ (k : ℕ) (x : List ℕ). padded 0 k x) size (sym same);
    }
