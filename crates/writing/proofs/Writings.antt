-- What writing comes to, by the first test that fails.
use Prim.Native.Nat.{ℕ, ◌<◌, ◌≤◌}
use mathlib.Core.Path.{◌≡◌, refl, sym, ◌∙◌, ap, ap₂, subst}
use mathlib.Core.Bool.{Bool, true, false}
use mathlib.Core.List.{List}
use lib.Dec.{leb}
use lib.ListN.{length, take}
use borrow.Author.Tests.{le-leb, lt-leb}
use Rattle.stab.specs.Basic.{◌and◌, ◌otherwise◌}
use Rattle.stab.specs.Check.{whole_unless}
use Rattle.stab.specs.Text.{text_limit, padded}
use Rattle.stab.specs.Write.{write_refusal, output_refusal, Writing, refused, wrote, writing_of, writing, written, output}
use Rattle.stab.specs.declared.Refusal.{Refusal}
use Rattle.stab.specs.declared.Refusal.TheVariants.{TableTooShort, TooMany, Number, Output}
use Rattle.std.specs.Prelude.{Ok, None, Result}
use Rattle.stab.specs.Finding.{no_refusal, refuse, Finding}
use Rattle.stab.specs.declared.Refused.{Refused}
use Rattle.stab.proofs.Bools.{and_both, and_first_false, and_second_false, otherwise_nothing, otherwise_found, nothing_unless, found_unless}
use Rattle.digits.specs.Over.{over}
use Rattle.digits.proofs.Overs.{padded_over}

-- two tests that have passed leave the third
pub both_held : (a b d : Bool) → a ≡ true → b ≡ true → (a and b and d) ≡ d
both_held a b d p q = ap₂ (λ (x y : Bool). x and y and d) p q ∙ (unfold ◌and◌ in refl)

pub second_fails : (a b d : Bool) → b ≡ false → (a and b and d) ≡ false
second_fails a b d q = and_second_false a _ (and_first_false b d q)

pub and_grouped : (r a b d : Bool) → (r and a and b and d) ≡ (r and (a and b) and d)
unfolding ◌and◌
and_grouped r true b d = refl
and_grouped r false b d = refl

-- 22
module _ (n : ℕ) (text : List ℕ) where
  unfit : (leb (length text) n and leb (length text) text_limit) ≡ false → writing no_refusal n text ≡ refused Output None
  unfolding writing writing_of output_refusal whole_unless ◌otherwise◌
  unfit e = ap (λ (x : Finding). writing_of x text) (found_unless _ _ _ e)

  pub no_room : n < length text → writing no_refusal n text ≡ refused Output None
  no_room m = unfit (and_first_false _ _ (lt-leb (length text) n m))

  pub too_long : 65536 < length text → writing no_refusal n text ≡ refused Output None
  too_long m = unfit (and_second_false (leb (length text) n) _ (unfold text_limit in lt-leb (length text) 65536 m))

  pub fitting : length text ≤ n → length text ≤ 65536 → writing no_refusal n text ≡ wrote text
  unfolding writing writing_of output_refusal whole_unless ◌otherwise◌ text_limit
  fitting a b =
      ap (λ (x : Finding). writing_of x text) (nothing_unless _ _ _ (and_both _ _ (le-leb (length text) n a) (le-leb (length text) 65536 b)))

-- 2, 5, 21, and what is left
module _ (held few ok : Bool) (n : ℕ) (text : List ℕ) where
  refusal_is : (why : Refusal) → write_refusal held few ok ≡ refuse why None → writing (write_refusal held few ok) n text ≡ refused why None
  unfolding writing writing_of
  refusal_is why e = ap (λ (x : Finding). writing_of x text) (otherwise_found _ _ e)

  pub too_short : held ≡ false → writing (write_refusal held few ok) n text ≡ refused TableTooShort None
  too_short h = refusal_is TableTooShort (unfold write_refusal whole_unless in otherwise_found _ _ (found_unless held _ _ h))

  module _ (h : held ≡ true) where
    pub too_many : few ≡ false → writing (write_refusal held few ok) n text ≡ refused TooMany None
    too_many f =
        refusal_is TooMany
        (unfold write_refusal whole_unless in
        otherwise_nothing _ _ (nothing_unless held _ _ h) ∙ otherwise_found _ _ (found_unless few _ _ f))

    module _ (f : few ≡ true) where
      unrefused : write_refusal held few ok ≡ whole_unless ok Number
      unfolding write_refusal whole_unless
      unrefused = otherwise_nothing _ _ (nothing_unless held _ _ h) ∙ otherwise_nothing _ _ (nothing_unless few _ _ f)

      pub no_number : ok ≡ false → writing (write_refusal held few ok) n text ≡ refused Number None
      unfolding whole_unless
      no_number o = refusal_is Number (unrefused ∙ found_unless ok _ _ o)

      pub left : ok ≡ true → writing (write_refusal held few ok) n text ≡ writing no_refusal n text
      unfolding whole_unless
      left o = ap (λ (x : Finding). writing x n text) (unrefused ∙ nothing_unless ok _ _ o)

-- the answer and the output of n bytes, by what writing comes to
pub answered : {U W : Writing} (n : ℕ) {r : Result ℕ Refused} {out : List ℕ} → W ≡ U
    → (r ≡ written U) × (out ≡ output n U) → (r ≡ written W) × (out ≡ output n W)
answered n {r} {out} e a = subst (λ (X : Writing). (r ≡ written X) × (out ≡ output n X)) (sym e) a

-- a text in front of an output, and 0 past it
pub finished : (x l : List ℕ) {bytes : ℕ} {mid out : List ℕ} {r : Result ℕ Refused}
    → length x ≤ length l → bytes ≡ length x → mid ≡ over x l → (r ≡ Ok bytes) × (out ≡ padded 0 (length mid) (take bytes mid))
    → (r ≡ written (wrote x)) × (out ≡ output (length l) (wrote x))
unfolding written output
finished x l {bytes} {mid} h n e a = (
  a.0 ∙ ap (λ (k : ℕ). Ok k) n,
  a.1 ∙ ap₂ (λ (o : List ℕ) (k : ℕ). padded 0 (length o) (take k o)) e n ∙ padded_over x l h,
)
