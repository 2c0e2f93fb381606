-- 02, No. 11: what the tool finds packs into the one number and is read back from it, and what it gives is within the limits.
use Prim.Native.Nat.{◌+◌}
use native.Mathlib.Omega.{arith}
use mathlib.Core.Path.{◌≡◌, refl, ap}
use mathlib.Core.Bool.{true}
use lib.Dec.{leb}
use borrow.Author.Tests.{leb-true}
use Rattle.stab.specs.Node.{Tableau, row_count}
use Rattle.stab.specs.Check.{whole_unless, refusal, present_mode}
use Rattle.stab.specs.Answer.{Numbers, refused_numbers, verdict_numbers, packed, answer_in, place_in, numbers_in, Packs}
use Rattle.std.specs.Prelude.{Ok, Err, Result}
use Rattle.stab.specs.Finding.{accept, no_refusal, Verdict, Finding}
use Rattle.stab.specs.declared.Refused.{Refused}
use Rattle.stab.specs.declared.Header.{Header}
use Rattle.stab.proofs.Bools.{and_left, and_right, unless_nothing, otherwise_second}
use Rattle.stab.proofs.Packed.{near_packs, read_back}
use Rattle.stab.proofs.Exactness.Refusals.{FindsNear, of_whole, of_at, ◌or_else◌, of_refusal}
use Rattle.joint.specs.Joint.{joint, joint_fits, Rooms, join_refusal, joined_by, join, joined_numbers, joined_packed, JoinedFits}

-- ---- the place of what is found is within the limits

module _ (R : Rooms) (A B : Tableau) where
  found_near : FindsNear (join_refusal R A B)
  unfolding join_refusal
  found_near = of_at _ _ 0 (omega arith) or_else of_refusal present_mode A or_else of_refusal present_mode B or_else of_whole _ _ or_else of_whole _ _

  -- ---- the counts of the joined record

  fits : join_refusal R A B ≡ no_refusal → joint_fits (joint A B) ≡ true
  unfolding join_refusal whole_unless
  fits e =
      unless_nothing (joint_fits (joint A B)) _ _
      (otherwise_second _ _ (otherwise_second (refusal present_mode B) _ (otherwise_second (refusal present_mode A) _ (otherwise_second _ _ e))))

  counts : joint_fits (joint A B) ≡ true → JoinedFits (joined_by no_refusal (joint A B))
  unfolding joint_fits joined_by row_count
  counts h =
      let rest = and_right (leb ((joint A B).schema_rows + (joint A B).proof_rows) 1024) _ h in
      let rows = leb-true ((joint A B).schema_rows + (joint A B).proof_rows) 1024 (and_left _ _ h) in
      (omega arith, omega arith, leb-true (joint A B).node_rows 1024 (and_left _ _ rest), leb-true (joint A B).member_count 8192 (and_left _ _ (and_right (leb (joint A B).node_rows 1024) _ rest)))

  pub join_fits : JoinedFits (join R A B)
  unfolding join
  join_fits = by (join_refusal R A B) refl
    where
      by : (x : Finding) → join_refusal R A B ≡ x → JoinedFits (joined_by x (joint A B))
      by (Ok u) e = counts (fits e)
      by (Err r) e = unfold joined_by in near_packs r.why r.place (found_near r.why r.place e)

-- ---- answer and place are read back from the number

answer_back : (v : Verdict) → Packs v → (answer_in (packed v) ≡ (verdict_numbers v).answer) × (place_in (packed v) ≡ (verdict_numbers v).place)
unfolding numbers_in
answer_back v h = (ap (λ (a : Numbers). a.answer) (read_back v h), ap (λ (a : Numbers). a.place) (read_back v h))

pub joined_read_back : (r : Result Header Refused) → JoinedFits r → (answer_in (joined_packed r) ≡ (joined_numbers r).answer) × (place_in (joined_packed r) ≡ (joined_numbers r).place)
unfolding joined_packed joined_numbers packed verdict_numbers refused_numbers
joined_read_back (Ok c) h = answer_back (accept 0 0) (omega arith, omega arith)
joined_read_back (Err r) h = answer_back (Err r) h
