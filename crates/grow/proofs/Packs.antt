-- The answer as the one number: its parts do not run into one another and are read back.
use Prim.Native.Nat.{ℕ, zero, suc, ◌<◌, ◌≤◌}
use native.Mathlib.Omega.{arith}
use mathlib.Core.Path.{◌≡◌, refl, sym, ◌∙◌, ap}
use Rattle.stab.specs.Node.{Tableau}
use Rattle.stab.specs.Check.{set_refusal, parent_refusal, step_refusal, refusal, held_mode, whole_unless, is_link, link_count}
use Rattle.stab.specs.Answer.{refused_numbers, verdict_numbers, one_number, packed, numbers_in, Packs}
use Rattle.stab.specs.declared.Refusal.TheVariants.{Room}
use Rattle.std.specs.Prelude.{Ok, Err}
use Rattle.stab.specs.Finding.{no_refusal, Finding}
use Rattle.stab.proofs.Bools.{unless_nothing, nothing≢found}
use Rattle.stab.proofs.Scans.{count_le}
use Rattle.stab.proofs.Packed.{near_packs, read_back}
use Rattle.stab.proofs.Exactness.Refusals.{FindsNear, of_whole, of_at, ◌or_else◌, once, of_refusal}
use Rattle.growing.specs.Growing.{NodeRow, room_for, added, beyond_refusal, added_refusal, new_refusal, add_refusal, take_back_refusal, begun, begin_refusal, begin_answer, growth_by, Call, add, take_back, call_refusal, changed, answered, growth_numbers, growth_packed}
use Rattle.growing.specs.declared.Growth.{Growth}
use Rattle.growing.proofs.States.{held_clears}
use Rattle.growing.proofs.Held.{fits}
use Rattle.growing.proofs.Grown.{passed}
use Rattle.grow.specs.Packed.{as_verdict}

-- ---- the answer's number is the verdict's

numbers_are : (r : Growth) → verdict_numbers (as_verdict r) ≡ growth_numbers r
unfolding verdict_numbers refused_numbers growth_numbers
numbers_are r = refl

pub packed_is : (r : Growth) → growth_packed r ≡ packed (as_verdict r)
unfolding growth_packed packed
packed_is r = ap one_number (sym (numbers_are r))

-- ---- whatever is found is a refusal at a place that packs

of_nothing : FindsNear no_refusal
of_nothing why p e = absurd (nothing≢found e)

of_step : (T : Tableau) (j : ℕ) → j < 4096 → FindsNear (step_refusal T j)
unfolding step_refusal
of_step T j l = of_at _ _ j l or_else of_at _ _ j l or_else of_at _ _ j l or_else of_at _ _ j l or_else of_at _ _ j l or_else of_at _ _ j l

of_beyond : (T : Tableau) (j : ℕ) → j < 4096 → FindsNear (beyond_refusal T j)
unfolding beyond_refusal
of_beyond T zero l = of_nothing
of_beyond T (suc i) l = of_at _ _ (suc i) l

pub of_new : (T : Tableau) (w : NodeRow) → FindsNear (new_refusal T w)
unfolding new_refusal added_refusal set_refusal parent_refusal whole_unless
of_new T w =
    once (of_whole (room_for T w) Room)
    (λ h.
    let n = T.node_rows in
    let l : n < 4096 = omega (arith, (fits T w (unless_nothing (room_for T w) _ _ h)).0) in
    of_at _ _ n l or_else of_at _ _ n l or_else of_beyond (added T w) n l or_else of_step (added T w) n l)

of_call : (T : Tableau) (call : Call) → FindsNear (call_refusal T call)
unfolding call_refusal add_refusal take_back_refusal
of_call T (add w) = of_refusal held_mode T or_else of_new T w
of_call T take_back = of_refusal held_mode T or_else of_whole _ _

-- ---- the answers pack

pub growth_packs : (x : Finding) (S T : Tableau) → FindsNear x → (x ≡ no_refusal → T.node_rows ≤ 1024) → Packs (as_verdict (growth_by x S T))
unfolding growth_by link_count
growth_packs (Ok u) S T f few = (omega (arith, few refl), omega (arith, few refl, count_le (is_link T.nodes) T.node_rows))
growth_packs (Err r) S T f few = near_packs r.why r.place (f r.why r.place refl)

pub begin_packs : (T : Tableau) → Packs (as_verdict (begin_answer T))
unfolding begin_answer begin_refusal
begin_packs T = growth_packs (refusal held_mode (begun T)) (begun T) (begun T) (of_refusal held_mode (begun T)) (λ e. ((held_clears (begun T)).0 e).tables.node_limit)

pub call_packs : (T : Tableau) (call : Call) → Packs (as_verdict (answered T call))
unfolding answered
call_packs T call = growth_packs (call_refusal T call) T (changed T call) (of_call T call) (λ e. (passed T call e).tables.node_limit)

-- reading the one number back gives the answer's numbers
pub growth_read_back : (r : Growth) → Packs (as_verdict r) → numbers_in (growth_packed r) ≡ growth_numbers r
growth_read_back r h = ap numbers_in (packed_is r) ∙ read_back (as_verdict r) h ∙ numbers_are r

pub begin_read_back : (T : Tableau) → numbers_in (growth_packed (begin_answer T)) ≡ growth_numbers (begin_answer T)
begin_read_back T = growth_read_back (begin_answer T) (begin_packs T)

pub call_read_back : (T : Tableau) (call : Call) → numbers_in (growth_packed (answered T call)) ≡ growth_numbers (answered T call)
call_read_back T call = growth_read_back (answered T call) (call_packs T call)
