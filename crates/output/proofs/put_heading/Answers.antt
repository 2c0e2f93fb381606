use Rattle.std.proofs.Common.{arith, ◌≡◌, ◌+◌, ◌∷◌, [], List, ℕ, ◌<◌, ◌≤◌, refl, sym, ◌∙◌, ap, length, length-append, take, get_or, set, add-one}
use lib.Seq.{take-suc, take_all, length-take-le}
use Rattle.stab.specs.Text.{heading_line, newline}
use Rattle.digits.specs.Over.{over}
use Rattle.digits.proofs.Overs.{over_none, over_next}
use Rattle.output.proofs.put_heading.Goals as goal

-- a heading's line is one byte longer
longer : (t : List ℕ) → length (heading_line t) ≡ length t + 1
unfolding heading_line newline
longer t = length-append t (10 ∷ [])

step : (t l out : List ℕ) (i : ℕ) → i < length t → length t ≤ length l → out ≡ over (take i t) l → set out i (get_or t i 0) ≡ over (take (i + 1) t) l
step t l out i h k e =
    over_next (take i t) l out i (get_or t i 0) e (sym (length-take-le i t (omega arith))) (omega arith)
    ∙ ap (λ (x : List ℕ). over x l) (sym (take-suc t i 0 h))
    ∙ ap (λ (n : ℕ). over (take n t) l) (sym (add-one i))

-- byte 10 after the whole heading
ended : (t l out : List ℕ) (i : ℕ) → i ≡ length t → length t < length l → out ≡ over (take i t) l → set out (length t) 10 ≡ over (heading_line t) l
unfolding heading_line newline
ended t l out i n h e = over_next t l out (length t) 10 (e ∙ ap (λ (x : List ℕ). over x l) (take_all i t (omega arith))) refl h

pub loop-i-init : goal.loop-i-init
loop-i-init c = over_none c.args.out.now

pub loop-i-preserved : goal.loop-i-preserved
loop-i-preserved c =
    let a = c.args in
    let l = c.loop-i in
    step a.text.now a.out.now l.out l.i c.loop-i-test.true (omega (arith, longer a.text.now, c.requires)) l.invariant

pub bounds-out-i : goal.bounds-out-i
bounds-out-i c = omega (arith, longer c.args.text.now, c.requires)

pub bounds-out-n : goal.bounds-out-n
bounds-out-n c = omega (arith, longer c.args.text.now, c.requires)

pub returns : goal.returns
returns c =
    let a = c.args in
    let l = c.loop-i in
    let more = longer a.text.now in
    (sym more, ended a.text.now a.out.now l.out l.i (omega arith) (omega (arith, more, c.requires)) l.invariant)
