-- The sets of either record among the joined members.
use Prim.Native.Nat.{ℕ, suc, ◌+◌, ◌≤◌}
use native.Mathlib.Omega.{arith}
use mathlib.Core.Path.{◌≡◌, ◌∙◌, ap}
use mathlib.Core.List.{List, ◌∷◌}
use lib.IntN.{ℤ, pos}
use lib.ListN.{length, take, drop}
use lib.Seq.{drop-append-add, length-take-le}
use Rattle.stab.specs.Node.{Tableau}
use Rattle.tidied.proofs.Tables.{slice_front, slice_take}
use Rattle.joint.specs.Joint.{or_row, of_first, of_second, moved_members, joint_members}
use Rattle.joint.proofs.Lists.{moved_members_length, moved_take, moved_drop}

-- a set among moved members
moved_slice : (new : ℕ → ℕ) (l : List ℤ) (m a c : ℕ) → a + c ≤ m → m ≤ length l → take c (drop a (moved_members new (take m l))) ≡ moved_members new (take c (drop a l))
moved_slice new l m a c h g =
    ap (take c) (moved_drop new a (take m l)) ∙ moved_take new c (drop a (take m l)) ∙ ap (moved_members new) (slice_take l m a c h g)

module _ (A B : Tableau) (held_a : A.member_count ≤ length A.members) (held_b : B.member_count ≤ length B.members) where
  first_length : length (moved_members (of_first A B) (take A.member_count A.members)) ≡ A.member_count
  first_length = moved_members_length (of_first A B) (take A.member_count A.members) ∙ length-take-le A.member_count A.members held_a

  pub first_slice : (a c : ℕ) → a + c ≤ A.member_count → take c (drop (suc a) (joint_members A B)) ≡ moved_members (of_first A B) (take c (drop a A.members))
  unfolding joint_members
  first_slice a c h =
      slice_front (moved_members (of_first A B) (take A.member_count A.members)) (moved_members (of_second A B) (take B.member_count B.members)) a c (omega (arith, first_length))
      ∙ moved_slice (of_first A B) A.members A.member_count a c h held_a

  pub second_slice : (a c : ℕ) → a + c ≤ B.member_count → take c (drop (suc A.member_count + a) (joint_members A B)) ≡ moved_members (of_second A B) (take c (drop a B.members))
  unfolding joint_members
  second_slice a c h =
      let F = pos (or_row A B) ∷ moved_members (of_first A B) (take A.member_count A.members) in
      let e : suc A.member_count + a ≡ length F + a = omega (arith, first_length) in
      ap (λ (n : ℕ). take c (drop n (joint_members A B))) e
      ∙ ap (take c) (drop-append-add F (moved_members (of_second A B) (take B.member_count B.members)) a)
      ∙ moved_slice (of_second A B) B.members B.member_count a c h held_b
