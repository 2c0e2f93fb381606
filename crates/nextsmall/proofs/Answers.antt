-- What is answered, by what was found.
use Prim.Native.Nat.{ℕ, ◌*◌, ◌≤◌}
use native.Mathlib.Omega.{arith}
use mathlib.Core.Path.{◌≡◌, sym, ◌∙◌, ap, ap₂}
use mathlib.Core.Logic.{⊎_elim}
use mathlib.Core.Bool.{true, false}
use mathlib.Core.List.{List, []}
use mathlib.Core.Option.{Option, none, some}
use lib.Dec.{leb}
use lib.IntN.{ℤ, pos}
use lib.ListN.{length, take}
use borrow.Author.Tests.{le-leb, lt-leb}
use Rattle.stab.specs.Basic.{◌and◌}
use Rattle.stab.specs.Check.{whole_unless, holds}
use Rattle.stab.specs.Text.{padded}
use Rattle.std.specs.Prelude.{None, Ok, Result}
use Rattle.stab.specs.Finding.{refuse, no_refusal, Finding}
use Rattle.small.specs.declared.Next.TheVariants.{Table, Last}
use Rattle.stab.specs.declared.Refused.{Refused}
use Rattle.small.specs.declared.Next.{Next}
use Rattle.stab.specs.declared.Refusal.{Refusal}
use Rattle.stab.specs.declared.Refusal.TheVariants.{TableTooShort, NotListed}
use Rattle.stab.proofs.Bools.{decide, and_both, and_first_false, nothing_unless, found_unless, otherwise_nothing, otherwise_found}
use Rattle.signed.specs.Numbers.{cleared}
use Rattle.signed.proofs.Tables.{cleared_padded}
use Rattle.small.specs.Small.{on_list, next_table, next_refusal, next_or, next_by, next_small, numbers_or, next_numbers, next_small_table}
use Rattle.small.specs.Fits.{RowsFit}
use Rattle.small.proofs.Listed.{listed_rows}

-- ---- not on the list

pub no_rows : (n : ℕ) (t : List ℤ) → n ≡ 0 → on_list n t ≡ false
unfolding on_list
no_rows n t e = and_first_false (leb 1 n) _ (lt-leb 1 n (omega arith))

pub no_fit : (n : ℕ) (t : List ℤ) → (RowsFit n t → ⊥) → on_list n t ≡ false
no_fit n t f = ⊎_elim (λ h. absurd (f (listed_rows n t h))) (λ h. h) (decide (on_list n t))

module _ (n : ℕ) (t : List ℤ) (room : ℕ) where
  -- both tables hold the rows
  abbrev pub Holds : Type 0
  Holds = (holds t 4 n and leb (4 * n) room) ≡ true

  pub both_hold : 4 * n ≤ length t → 4 * n ≤ room → Holds
  unfolding holds
  both_hold h k = and_both _ _ (le-leb (4 * n) (length t) h) (le-leb (4 * n) room k)

  -- ---- what is refused

  pub too_short : (holds t 4 n and leb (4 * n) room) ≡ false → next_refusal n t room ≡ refuse TableTooShort None
  unfolding next_refusal whole_unless
  too_short h = otherwise_found _ _ (found_unless _ _ _ h)

  pub not_listed : Holds → on_list n t ≡ false → next_refusal n t room ≡ refuse NotListed None
  unfolding next_refusal whole_unless
  not_listed k h = otherwise_nothing _ _ (nothing_unless _ _ _ k) ∙ found_unless (on_list n t) _ _ h

  not_refused : Holds → on_list n t ≡ true → next_refusal n t room ≡ no_refusal
  unfolding next_refusal whole_unless
  not_refused k h = otherwise_nothing _ _ (nothing_unless _ _ _ k) ∙ nothing_unless (on_list n t) _ _ h

  -- ---- the answer and the result table

  abbrev pub Answered : Result Next Refused → List ℤ → Type 0
  Answered r u = (r ≡ next_small n t room) × (u ≡ next_small_table n t room)

  pub refused_so : (why : Refusal) (r : Result Next Refused) (u : List ℤ) → next_refusal n t room ≡ refuse why None → r ≡ refuse why None → u ≡ padded (pos 0) room [] → Answered r u
  unfolding next_small next_by next_small_table next_numbers
  refused_so why r u h p q = (
    p ∙ ap (λ (x : Finding). next_by x (next_table n t)) (sym h),
    q ∙ ap (λ (x : Finding). padded (pos 0) room (next_numbers x (next_table n t))) (sym h),
  )

  module _ (k : Holds) (h : on_list n t ≡ true) (v u : List ℤ) (same : length v ≡ room) where
    pub table_so : next_table n t ≡ some (take (4 * n) v) → 4 * n ≤ length v → u ≡ cleared v (4 * n) → Answered (Ok Table) u
    unfolding next_small next_by next_or next_small_table next_numbers numbers_or
    table_so e l q = (
      ap₂ next_by (sym (not_refused k h)) (sym e),
      q ∙ cleared_padded v (4 * n) room l same
          ∙ ap₂ (λ (x : Finding) (y : Option (List ℤ)). padded (pos 0) room (next_numbers x y)) (sym (not_refused k h)) (sym e),
    )

    pub last_so : next_table n t ≡ none → u ≡ cleared v 0 → Answered (Ok Last) u
    unfolding next_small next_by next_or next_small_table next_numbers numbers_or
    last_so e q = (
      ap₂ next_by (sym (not_refused k h)) (sym e),
      q ∙ cleared_padded v 0 room (omega arith) same
          ∙ ap₂ (λ (x : Finding) (y : Option (List ℤ)). padded (pos 0) room (next_numbers x y)) (sym (not_refused k h)) (sym e),
    )
