-- The answers to an enquiry and a commit as the one number.
use mathlib.Core.Path.{◌≡◌, ◌∙◌, subst}
use Rattle.stab.specs.Check.{whole_unless, refusal, held_mode}
use Rattle.stab.specs.Answer.{numbers_in, Packs}
use Rattle.stab.specs.declared.Refusal.TheVariants.{Waiting}
use Rattle.stab.specs.Finding.{no_refusal}
use Rattle.stab.proofs.Bools.{otherwise_nothing, otherwise_first, otherwise_second}
use Rattle.stab.proofs.Exactness.Refusals.{FindsNear, of_whole, of_refusal, ◌or_else◌}
use Rattle.growing.specs.Growing.{NodeRow, added, add_refusal, add, growth_numbers, growth_packed}
use Rattle.growing.specs.Enquiry.{waits, waiting_row, Editor, enquire, commit, commit_refusal, editor_refusal, spoken_of, editor_answer}
use Rattle.growing.specs.declared.Growth.{Growth}
use Rattle.growing.proofs.Grown.{add_holds}
use Rattle.grow.specs.Packed.{as_verdict}
use Rattle.grow.proofs.Packs.{of_new, growth_packs, call_packs, growth_read_back}
use Rattle.enquire.proofs.Edits.{enquiry_answer}

pub enquiry_packs : (E : Editor) (w : NodeRow) → Packs (as_verdict (editor_answer E (enquire w)))
enquiry_packs E w = subst (λ (r : Growth). Packs (as_verdict r)) (enquiry_answer E w) (call_packs E.held (add w))

module _ (E : Editor) where
  of_commit : FindsNear (commit_refusal E)
  unfolding commit_refusal
  of_commit = of_refusal held_mode E.held or_else of_whole _ _ or_else of_new E.held (waiting_row E.waiting)

  added_too : commit_refusal E ≡ no_refusal → add_refusal E.held (waiting_row E.waiting) ≡ no_refusal
  unfolding commit_refusal add_refusal
  added_too e =
      otherwise_nothing (refusal held_mode E.held) _ (otherwise_first _ _ e)
      ∙ otherwise_second (whole_unless (waits E.waiting) Waiting) _ (otherwise_second (refusal held_mode E.held) _ e)

  pub commit_packs : Packs (as_verdict (editor_answer E commit))
  unfolding editor_answer editor_refusal spoken_of
  commit_packs =
      growth_packs (commit_refusal E) E.held (added E.held (waiting_row E.waiting)) of_commit
      (λ e. (add_holds E.held (waiting_row E.waiting) (added_too e)).tables.node_limit)

-- ---- reading the one number back gives the answer's numbers

pub enquiry_read_back : (E : Editor) (w : NodeRow) → numbers_in (growth_packed (editor_answer E (enquire w))) ≡ growth_numbers (editor_answer E (enquire w))
enquiry_read_back E w = growth_read_back (editor_answer E (enquire w)) (enquiry_packs E w)

pub commit_read_back : (E : Editor) → numbers_in (growth_packed (editor_answer E commit)) ≡ growth_numbers (editor_answer E commit)
commit_read_back E = growth_read_back (editor_answer E commit) (commit_packs E)
