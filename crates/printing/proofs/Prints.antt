-- What is printed: four numbers of at most five digits, in fewer than 64 bytes.
use Prim.Native.Nat.{ℕ, zero, suc, ◌-◌, ◌≤◌}
use native.Mathlib.Omega.{arith}
use mathlib.Core.Path.{◌≡◌, refl, sym, ◌∙◌, ap, ap₂}
use mathlib.Core.Bool.{true}
use mathlib.Core.List.{List, [], ◌∷◌, ◌++◌}
use lib.IntN.{ℤ, pos}
use lib.ListN.{length, take, drop, replicate, length-append}
use lib.Seq.{take-append_seam}
use borrow.Author.Tests.{le-leb}
use Rattle.stab.specs.Basic.{all_of}
use Rattle.stab.specs.Text.{bytes, newline, heading_line, row_line, five_digits, padded}
use Rattle.stab.specs.Answer.{refusal_number, place_number, Numbers, refused_numbers, verdict_numbers, Packs}
use Rattle.stab.specs.Program.{printed}
use Rattle.std.specs.Prelude.{None, Some, Ok, Err}
use Rattle.stab.specs.Finding.{refuse, Verdict, Place}
use Rattle.stab.specs.declared.Refusal.{Refusal}
use Rattle.stab.proofs.Bools.{and_both}
use Rattle.stab.proofs.Packed.{number_range}
use Rattle.digits.specs.Over.{over}
use Rattle.output.proofs.Spreads.{row_length, spread_most}
use Rattle.printing.specs.Printing.{number_row, printed_row, Counts}

-- ---- a text over zeros

drop_zeros : (k n : ℕ) → drop k (replicate {A = ℕ} n 0) ≡ replicate (n - k) 0
drop_zeros zero n = let e : n ≡ n - 0 = omega arith in ap (λ (m : ℕ). replicate {A = ℕ} m 0) e
drop_zeros (suc k) zero = let e : 0 ≡ 0 - suc k = omega arith in ap (λ (m : ℕ). replicate {A = ℕ} m 0) e
drop_zeros (suc k) (suc n) = let e : n - k ≡ suc n - suc k = omega arith in rw (drop_zeros k n) (ap (λ (m : ℕ). replicate {A = ℕ} m 0) e)

pub over_zeros : (x : List ℕ) (n : ℕ) → over x (replicate n 0) ≡ padded 0 n x
unfolding over padded
over_zeros x n = ap (λ (r : List ℕ). x ++ r) (drop_zeros (length x) n)

pub counted : (x out : List ℕ) (r n : ℕ) → r ≡ length x → out ≡ padded 0 n x → Counts r out
unfolding padded
counted x out r n e o = (omega (arith, ap length o, length-append x zeros), e ∙ ap length (sym (ap₂ take e o ∙ take-append_seam x zeros)))
  where
    zeros : List ℕ
    zeros = replicate (n - length x) 0

-- ---- the row of a verdict

pub printed_row_lem : (a : Numbers) → printed a ≡ printed_row (number_row a)
unfolding printed printed_row number_row
printed_row_lem a = refl

pub row_some : (a : Numbers) → 1 ≤ length (number_row a)
unfolding number_row
row_some a = omega arith

pub row_fits : (a : Numbers) → length (printed_row (number_row a)) ≤ 64
unfolding printed_row number_row heading_line bytes newline
row_fits a =
    let row = pos a.answer ∷ a.place ∷ pos a.nodes ∷ pos a.links ∷ [] in
    omega (arith, length-append (heading_line (bytes "answer place nodes links")) (row_line row), row_length row (omega arith), spread_most row)

natural_fits : (v : ℕ) → v ≤ 99999 → five_digits (pos v) ≡ true
unfolding five_digits
natural_fits v h = le-leb v 99999 h

place_fits_lem : (why : Refusal) (p : Place) → Packs (refuse why p) → five_digits (place_number p) ≡ true
unfolding five_digits
place_fits_lem why None h = refl
place_fits_lem why (Some k) h = le-leb k 99999 (omega arith)

four : (a b c d : ℤ) → five_digits a ≡ true → five_digits b ≡ true → five_digits c ≡ true → five_digits d ≡ true → all_of five_digits (a ∷ b ∷ c ∷ d ∷ []) ≡ true
unfolding all_of
four a b c d p q r s = and_both _ _ p (and_both _ _ q (and_both _ _ r (and_both _ _ s refl)))

pub row_digits : (v : Verdict) → Packs v → all_of five_digits (number_row (verdict_numbers v)) ≡ true
unfolding number_row verdict_numbers refused_numbers
row_digits (Ok c) h =
    four _ _ _ _ (natural_fits 0 (omega arith)) (natural_fits 0 (omega arith)) (natural_fits c.nodes (omega (arith, h.0))) (natural_fits c.links (omega (arith, h.1)))
row_digits (Err r) h =
    four _ _ _ _
    (natural_fits (refusal_number r.why) (omega (arith, (number_range r.why).1)))
    (place_fits_lem r.why r.place h)
    (natural_fits 0 (omega arith))
    (natural_fits 0 (omega arith))
