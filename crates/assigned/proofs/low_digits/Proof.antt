use Prim.Native.Nat.{ℕ, ◌<◌}
use native.Mathlib.Omega.{arith}
use mathlib.Core.Path.{◌≡◌, sym, ap}
use Rattle.pairs.specs.Word.{word}
use Rattle.assigned.specs.Words.{digit}
use Rattle.assigned.proofs.low_digits.Statement.{statement}
use Rattle.assigned.proofs.low_digits.Tie as tie

-- the word of each digit's number, worked out
low : (b k : ℕ) → b ≡ k → word (λ j. digit j k) 64 ≡ word (λ j. digit j b) 64
low b k e = ap (λ (x : ℕ). word (λ j. digit j x) 64) (sym e)

last : (b : ℕ) → b < 6 → (b ≡ 0 → ⊥) → (b ≡ 1 → ⊥) → (b ≡ 2 → ⊥) → (b ≡ 3 → ⊥) → (b ≡ 4 → ⊥) → b ≡ 5
last b h p q r s t = omega arith

returns-in-0 : tie.Need-returns-in-0
unfolding word digit
returns-in-0 c = low _ 0 c.in-0.is

returns-in-1 : tie.Need-returns-in-1
unfolding word digit
returns-in-1 c = low _ 1 c.in-1.is

returns-in-2 : tie.Need-returns-in-2
unfolding word digit
returns-in-2 c = low _ 2 c.in-2.is

returns-in-3 : tie.Need-returns-in-3
unfolding word digit
returns-in-3 c = low _ 3 c.in-3.is

returns-in-4 : tie.Need-returns-in-4
unfolding word digit
returns-in-4 c = low _ 4 c.in-4.is

returns-in_default : tie.Need-returns-in_default
unfolding word digit
returns-in_default c =
    let r = c.in_default.in_default-own.rest in
    low _ 5 (last _ c.requires r.0.0.0.0.1 r.0.0.0.1 r.0.0.1 r.0.1 r.1)

pub low_digits_spec : {M : Type 1} → statement M
low_digits_spec =
    tie.close (tie.spec returns-in-0 returns-in-1 returns-in-2 returns-in-3 returns-in-4 returns-in_default)
