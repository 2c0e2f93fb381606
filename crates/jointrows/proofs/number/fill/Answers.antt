use Rattle.std.proofs.Common.{◌≡◌, ℕ, ◌<◌, length, get_or, ◌∙◌, arith}
use Rattle.tidied.specs.Tidied.{new_number}
use Rattle.jointrows.specs.Kept.{placed}
use Rattle.jointrows.proofs.Numbers.{numbered_by, gives_small}
use Rattle.jointrows.proofs.number.fill.Goals as goal

pub returns : goal.returns
returns c =
    let l = c.loop-r in
    let a = c.args in
    let f : ℕ → ℕ = λ r. new_number a.s a.new.now (placed a.t a.base a.after r) in
    let long : length l.numbers ≡ 1024 = l.auto.numbers ∙ c.requires.2 in
    let each : (r : ℕ) → r < 1024 → get_or l.numbers r 0 ≡ f r = λ r h. l.invariant r (omega arith) in
    (numbered_by l.numbers f 1024 long each, gives_small l.numbers a.t a.base a.after a.s a.new.now long c.requires.0 c.requires.1 c.requires.3 each)
