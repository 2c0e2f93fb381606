use Rattle.std.proofs.Common.{arith, ◌≡◌, ◌∙◌, ◌+◌, ◌%◌, ◌/◌, ◌≤◌, ◌++◌, sym, ap, ℕ, suc, List, length, take, drop, slice_set, ◌-◌, take-append-drop}
use Rattle.std.proofs.Math.ListN.{get_or-append}
use Rattle.std.proofs.Math.Seq.{take-length, drop-append_seam}
use Rattle.stab.specs.Text.{digits_n}
use Rattle.digits.specs.Over.{over}
use Rattle.digits.proofs.Overs.{over_length, back_step}
use Rattle.digits.proofs.Decimals.{last_digits, digits_last, last_front, last_digit}
use Rattle.digits.proofs.put_digits.Goals as goal

-- where the digits end, the output is as it was
untouched : (d l : List ℕ) → l ≡ take (length d) l ++ drop (length d) (over d l)
unfolding over
untouched d l =
    sym (take-append-drop (length d) l) ∙ ap (λ (r : List ℕ). take (length d) l ++ r) (sym (drop-append_seam d (drop (length d) l)))

pub loop-i-init : goal.loop-i-init
loop-i-init c =
    let d = digits_n 4 c.args.v in
    rw c.digit_count-n.ensures record {
      written = untouched d c.args.out.now;
      left = sym (digits_last 4 c.args.v (omega arith)) ∙ sym (take-length d);
    }

-- a digit is put in front of place i
module _ (d l out : List ℕ) (i j rest : ℕ) (one : i ≡ suc j) (left : last_digits i rest ≡ take i d) where
  left_one : last_digits (suc j) rest ≡ take (suc j) d
  left_one = rw one at left

  digit_put : i ≤ length d → length d ≤ length l → out ≡ take i l ++ drop i (over d l) → slice_set out j (rest % 10 + 48) ≡ take j l ++ drop j (over d l)
  unfolding over
  digit_put h k e =
      ap (λ (r : List ℕ). slice_set r j (rest % 10 + 48)) (rw one at e)
      ∙ back_step l (d ++ drop (length d) l) j (rest % 10 + 48) (omega arith) (omega (arith, over_length d l k))
      (get_or-append d (drop (length d) l) 0 j (omega arith) ∙ last_digit d j rest left_one ∙ digit)
    where
      digit : 48 + rest % 10 ≡ rest % 10 + 48
      digit = omega arith

  digit_gone : last_digits j (rest / 10) ≡ take j d
  digit_gone = last_front d j rest left_one

pub loop-i-preserved : goal.loop-i-preserved
loop-i-preserved c =
    let d = digits_n 4 c.args.v in
    let l = c.loop-i in
    let one : l.i ≡ suc (l.i - 1) = omega arith in
    record {
      written = digit_put d c.args.out.now l.out l.i (l.i - 1) l.rest one l.invariant.left (omega arith) c.requires.1 l.invariant.written;
      left = digit_gone d c.args.out.now l.out l.i (l.i - 1) l.rest one l.invariant.left;
    }
