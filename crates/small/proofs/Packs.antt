-- The answer as the one number: its parts do not run into one another and are read back.
use Prim.Native.Nat.{ℕ, ◌*◌}
use native.Mathlib.Omega.{arith}
use mathlib.Core.Path.{◌≡◌, refl, sym, ◌∙◌, ap}
use mathlib.Core.Bool.{Bool, true, false}
use mathlib.Core.List.{List}
use mathlib.Core.Option.{Option, none, some}
use lib.Dec.{leb}
use lib.IntN.{ℤ}
use Rattle.stab.specs.Basic.{◌and◌, ◌otherwise◌, unless}
use Rattle.stab.specs.Check.{whole_unless, holds}
use Rattle.stab.specs.Answer.{refused_numbers, verdict_numbers, one_number, packed, numbers_in, Packs}
use Rattle.std.specs.Prelude.{None, Ok, Err, Result}
use Rattle.small.specs.declared.Next.TheVariants.{Table, Last}
use Rattle.stab.specs.declared.Refused.{Refused}
use Rattle.small.specs.declared.Next.{Next}
use Rattle.stab.specs.declared.Refusal.TheVariants.{TableTooShort, NotListed}
use Rattle.stab.proofs.Packed.{read_back}
use Rattle.small.specs.Small.{on_list, next_table, next_refusal, next_or, next_by, next_small, next_small_numbers, next_packed, next_verdict}

numbers_are : (r : Result Next Refused) → verdict_numbers (next_verdict r) ≡ (record { answer = (next_small_numbers r).answer; place = (next_small_numbers r).place; nodes = (next_small_numbers r).given; links = 0 })
unfolding verdict_numbers refused_numbers next_small_numbers
numbers_are (Ok Table) = refl
numbers_are (Ok Last) = refl
numbers_are (Err r) = refl

pub packed_is : (r : Result Next Refused) → next_packed r ≡ packed (next_verdict r)
unfolding next_packed packed
packed_is r = ap one_number (sym (numbers_are r))

or_packs : (x : Option (List ℤ)) → Packs (next_verdict (next_or x))
unfolding next_or
or_packs none = (omega arith, omega arith)
or_packs (some u) = (omega arith, omega arith)

-- whatever is found packs
pub next_packs : (n : ℕ) (t : List ℤ) (room : ℕ) → Packs (next_verdict (next_small n t room))
unfolding next_small next_refusal next_by whole_unless unless ◌otherwise◌
next_packs n t room = go (holds t 4 n and leb (4 * n) room) (on_list n t)
  where
    go : (a b : Bool) → Packs (next_verdict (next_by (unless a TableTooShort None otherwise unless b NotListed None) (next_table n t)))
    go false b = tt
    go true false = tt
    go true true = or_packs (next_table n t)

-- reading the one number back gives the answer's numbers
pub next_read_back : (n : ℕ) (t : List ℤ) (room : ℕ)
    → numbers_in (next_packed (next_small n t room)) ≡ (record { answer = (next_small_numbers (next_small n t room)).answer; place = (next_small_numbers (next_small n t room)).place; nodes = (next_small_numbers (next_small n t room)).given; links = 0 })
next_read_back n t room =
    let r = next_small n t room in
    ap numbers_in (packed_is r) ∙ read_back (next_verdict r) (next_packs n t room) ∙ numbers_are r
