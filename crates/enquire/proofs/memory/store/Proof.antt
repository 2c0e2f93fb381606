use borrow.Author.Rules.{rules}
use Prim.Native.Nat.{◌+◌}
use mathlib.Core.Path.{refl, ◌∙◌, ap}
use mathlib.Core.List.{List, ◌∷◌, []}
use lib.IntN.{ℤ, pos}
use lib.ListN.{length, get_or}
use lib.Seq.{sets}
use Rattle.signed.specs.Numbers.{cleared}
use Rattle.signed.proofs.Signs.{read_back}
use Rattle.growing.specs.Enquiry.{stored}
use Rattle.grow.specs.State.{row_from}
use Rattle.enquire.proofs.Edits.{stored_so}
use Rattle.enquire.proofs.memory.store.Statement.{statement}
use Rattle.enquire.proofs.memory.store.Tie as tie

of-requires : tie.Need-of-requires
of-requires c κs = search rules

at-requires : tie.Need-at-requires
at-requires c κs = search rules

at-requires-2 : tie.Need-at-requires-2
at-requires-2 c κs = search rules

at-requires-3 : tie.Need-at-requires-3
at-requires-3 c κs = search rules

at-requires-4 : tie.Need-at-requires-4
at-requires-4 c κs = search rules

at-requires-5 : tie.Need-at-requires-5
at-requires-5 c κs = search rules

at-requires-6 : tie.Need-at-requires-6
at-requires-6 c κs = search rules

at-requires-7 : tie.Need-at-requires-7
at-requires-7 c κs = search rules

slice_bounds-copy-end : tie.Need-slice_bounds-copy-end
slice_bounds-copy-end c = search rules

copy-requires : tie.Need-copy-requires
copy-requires c κs = search rules

copy-requires-2 : tie.Need-copy-requires-2
copy-requires-2 c κs = search rules

overflow_add-set : tie.Need-overflow_add-set
overflow_add-set c = search rules

clear-requires : tie.Need-clear-requires
clear-requires c κs = search rules

shape_of-waiting : tie.Need-shape_of-waiting
shape_of-waiting c = search rules

returns : tie.Need-returns
unfolding stored row_from
returns c =
    let a = c.args in
    let front : List ℤ = pos 1 ∷ pos (length a.set.now) ∷ get_or a.row.now 0 (pos 0) ∷ get_or a.row.now 1 (pos 0) ∷ get_or a.row.now 2 (pos 0) ∷ get_or a.row.now 3 (pos 0) ∷ get_or a.row.now 4 (pos 0) ∷ get_or a.row.now 5 (pos 0) ∷ get_or a.row.now 6 (pos 0) ∷ [] in
    c.clear.ensures
    ∙ ap (λ (t : List ℤ). cleared t (9 + length a.set.now))
    (c.copy-2.ensures
    ∙ ap (λ (t : List ℤ). sets t 9 a.set.now)
    (c.copy.ensures
    ∙ ap (sets a.waiting.now 0)
    (λ x.
    pos 1
    ∷ (read_back _ c.of.type_inv ∙ c.of.ensures) x
    ∷ (read_back _ c.at.type_inv ∙ c.at.ensures) x
    ∷ (read_back _ c.at-2.type_inv ∙ c.at-2.ensures) x
    ∷ (read_back _ c.at-3.type_inv ∙ c.at-3.ensures) x
    ∷ (read_back _ c.at-4.type_inv ∙ c.at-4.ensures) x
    ∷ (read_back _ c.at-5.type_inv ∙ c.at-5.ensures) x
    ∷ (read_back _ c.at-6.type_inv ∙ c.at-6.ensures) x
    ∷ (read_back _ c.at-7.type_inv ∙ c.at-7.ensures) x
    ∷ [])))
    ∙ stored_so a.waiting.now front a.set.now c.requires.0 refl c.requires.1

pub store_spec : {M : Type 1} → statement M
store_spec =
    tie.close
    (tie.spec
    of-requires
    at-requires
    at-requires-2
    at-requires-3
    at-requires-4
    at-requires-5
    at-requires-6
    at-requires-7
    slice_bounds-copy-end
    copy-requires
    copy-requires-2
    overflow_add-set
    clear-requires
    shape_of-waiting
    returns)
