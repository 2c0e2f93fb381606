-- Whatever is found packs into the one number and is read back from it.
use Prim.Native.Nat.{ℕ, ◌≤◌, ◌<◌}
use native.Mathlib.Omega.{arith}
use mathlib.Core.Path.{◌≡◌, refl, sym, ◌∙◌, ap}
use mathlib.Core.List.{List}
use mathlib.Core.Option.{Option, none, some}
use lib.IntN.{ℤ, pos, ◌+ℤ◌}
use Rattle.stab.specs.Basic.{nat}
use Rattle.stab.specs.Occurs.{Wire}
use Rattle.stab.specs.Answer.{Numbers, place_number, refused_numbers, verdict_numbers, one_number, packed, numbers_in, Packs}
use Rattle.std.specs.Prelude.{None, Some, Err, Ok}
use Rattle.stab.specs.Finding.{refuse, Place, Finding}
use Rattle.found.specs.Shown.{Shown}
use Rattle.stab.specs.declared.Refusal.{Refusal}
use Rattle.stab.proofs.Exactness.Refusals.{FindsNear}
use Rattle.stab.proofs.Packed.{number_range, near_packs, read_back}
use Rattle.found.specs.Find.{Query, first_model, find_refusal, model_or, found_by, find, found_numbers, found_packed, found_verdict}
use Rattle.found.proofs.Refusals.{find_near, found_model, given_few}

-- the one number in four parts
abbrev pub in_parts : Shown → Numbers
in_parts r = let a = found_numbers r in record { answer = a.answer; place = a.place; nodes = a.given; links = 0 }

parts_as : (r : Shown) → in_parts r ≡ verdict_numbers (found_verdict r)
unfolding found_numbers verdict_numbers refused_numbers
parts_as (Ok (Some c)) = refl
parts_as (Ok None) = refl
parts_as (Err r) = refl

pub packed_as : (r : Shown) → found_packed r ≡ packed (found_verdict r)
unfolding found_packed packed
packed_as r = ap one_number (parts_as r)

-- ---- it packs

found_by_packs : (Q : Query) (x : Finding) → FindsNear x → Packs (found_verdict (found_by x Q))
unfolding found_by model_or
found_by_packs Q (Ok u) h = go (first_model Q)
  where
    go : (x : Option (List Wire)) → Packs (found_verdict (model_or Q.n x))
    go none = (omega arith, omega arith)
    go (some ws) = (omega arith, omega arith)
found_by_packs Q (Err r) h = near_packs r.why r.place (h r.why r.place refl)

-- whatever is found packs, so a refusal's place does
pub found_packs : (Q : Query) → Packs (found_verdict (find Q))
unfolding find
found_packs Q = found_by_packs Q (find_refusal Q) (find_near Q)

-- a model is given with at most 16 pairs
pub found_few : (Q : Query) (n : ℤ) (k : ℕ) → find Q ≡ Ok (Some (record { n = n; pairs = k })) → k ≤ 16
found_few Q n k h = omega (arith, given_few Q, (found_model Q n k h).3)

-- ---- part by part

pub record Fits (r : Shown) : Type 0 where
  pub answer : (found_numbers r).answer ≤ 31
  pub place : nat ((found_numbers r).place +ℤ pos 1) < 8192
  pub given : (found_numbers r).given ≤ 1
  pub pairs : (found_numbers r).pairs ≤ 16

pub found_fits : (Q : Query) → Fits (find Q)
unfolding found_numbers nat
found_fits Q = go (find Q) refl (found_packs Q)
  where
    coded : (why : Refusal) (p : Place) → Packs (refuse why p) → nat (place_number p +ℤ pos 1) < 8192
    coded why None h = omega arith
    coded why (Some k) h = omega arith

    go : (r : Shown) → find Q ≡ r → Packs (found_verdict r) → Fits r
    go (Ok (Some c)) e h = record { answer = omega arith; place = omega arith; given = omega arith; pairs = found_few Q c.n c.pairs e }
    go (Ok None) e h = record { answer = omega arith; place = omega arith; given = omega arith; pairs = omega arith }
    go (Err r) e h = record { answer = (number_range r.why).1; place = coded r.why r.place h; given = omega arith; pairs = omega arith }

-- ---- it is read back

pub found_back : (Q : Query) → numbers_in (found_packed (find Q)) ≡ in_parts (find Q)
found_back Q = ap numbers_in (packed_as (find Q)) ∙ read_back (found_verdict (find Q)) (found_packs Q) ∙ sym (parts_as (find Q))
