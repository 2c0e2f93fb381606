use Rattle.std.proofs.Common.{arith, ◌≡◌, ◌∙◌, ◌+◌, ◌-◌, ◌≤◌, sym, ap, drop, ℕ}
use mathlib.Core.Logic.{⊎_elim}
use Rattle.numerals.specs.Here.{run_length, run_value}
use Rattle.numerals.proofs.Runs.{run_on_value, run_on_length, run_off_value, run_off_length, run_grows, run_below, run_none_value, run_none_length, not_digit_low, not_digit_high}
use Rattle.numerals.proofs.digits.Goals.{Else-b-gt57}
use Rattle.numerals.proofs.digits.Goals as goal

pub loop-next-init : goal.loop-next-init
loop-next-init c =
    let a = c.args in
    let four : a.at + 4 - a.at ≡ 4 = omega arith in
    record {
      same_value = ap (λ (n : ℕ). run_value n a.first (drop a.at a.text.now)) four;
      same_place = ap (λ (n : ℕ). a.at + run_length n (drop a.at a.text.now)) four;
    }

-- where no digit stands, the run ends
pub returns-then-b-lt48 : goal.returns-then-b-lt48
returns-then-b-lt48 c =
    let text = c.args.text.now in
    let l = c.loop-next in
    let b = c.byte_at-b in
    let other = rw b.ensures at (⊎_elim (not_digit_low b.result) (λ h. not_digit_high b.result h.1) c.then-b-lt48.either) in (
      sym (run_off_value text l.value l.next (c.args.at + 4) other) ∙ l.invariant.same_value,
      omega (arith, run_off_length text l.value l.next (c.args.at + 4) other, l.invariant.same_place),
    )

-- what was read so far is small
small : (c : Else-b-gt57) → c.loop-next.value ≤ 99999
small c =
    let a = c.args in
    let l = c.loop-next in
    omega (arith, l.invariant.same_value, run_grows (a.at + 4 - l.next) l.value (drop l.next a.text.now), run_below a.first (drop a.at a.text.now) c.requires.1)

pub overflow_mul-value : goal.overflow_mul-value
overflow_mul-value c = omega (arith, small c)

pub overflow_add-value : goal.overflow_add-value
overflow_add-value c = omega (arith, small c)

-- where a digit stands, it goes on
pub loop-next-preserved : goal.loop-next-preserved
loop-next-preserved c =
    let text = c.args.text.now in
    let l = c.loop-next in
    let end = c.args.at + 4 in
    record {
      same_value = rw c.byte_at-b.ensures (sym (run_on_value text l.value l.next end (omega arith) (omega arith) (omega arith)) ∙ l.invariant.same_value);
      same_place = sym (run_on_length text l.value l.next end (omega arith) (omega arith) (omega arith)) ∙ l.invariant.same_place;
    }

pub returns : goal.returns
returns c =
    let l = c.loop-next in
    let text = c.args.text.now in
    let end = c.args.at + 4 in
    let all : l.next ≡ end = omega arith in (
      sym (run_none_value l.value end l.next (drop l.next text) (omega arith)) ∙ l.invariant.same_value,
      omega (arith, run_none_length end l.next (drop l.next text) (omega arith), l.invariant.same_place),
    )
