use Rattle.std.proofs.Common.{◌≡◌, ◌+◌, true, false, List, ◌∷◌, ℤ, refl, sym, ◌∙◌, rules, arith}
use borrow.Author.Tests.{tests}
use lib.Signed.{lt_z}
use native.Mathlib.Numerals.{add-one}
use Rattle.std.proofs.lemmas.Iterator.{IsFirst-from_position, YieldsList-from_slice, index_from_first}
use Rattle.stab.specs.Search.{place_of}
use Rattle.stab.proofs.Bools.{if_true, if_false}
use Rattle.branch.proofs.member.place.Goals as goal

here : (z x : ℤ) (xs : List ℤ) → lt_z x z ≡ false → place_of z (x ∷ xs) ≡ 0
unfolding place_of
here z x xs h = if_false (lt_z x z) _ _ h

on : (z x : ℤ) (xs : List ℤ) → lt_z x z ≡ true → place_of z (x ∷ xs) ≡ place_of z xs + 1
unfolding place_of
on z x xs h = if_true (lt_z x z) _ _ h ∙ sym (add-one (place_of z xs))

pub returns : goal.returns
unfolding place_of
returns c =
    let z = c.args.z in
    let first = IsFirst-from_position _ _ _ (λ x. lt_z x z ≡ false) (λ x. lt_z x z ≡ true) c.position.ensures.ran (YieldsList-from_slice c.args.list.now cc) (λ x q k. search (rules, tests)) (λ x q k. search (rules, tests)) in
    omega (arith, c.unwrap_or.ensures, index_from_first (place_of z) _ _ refl (here z) (on z) _ _ first)
