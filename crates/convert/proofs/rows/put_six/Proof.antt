use Prim.Native.Nat.{ℕ, ◌+◌}
use native.Mathlib.Omega.{arith}
use mathlib.Core.List.{[], ◌∷◌, ◌++◌}
use mathlib.Core.Path.{◌≡◌, refl, ◌∙◌, ap}
use borrow.Author.Rules.{rules}
use Rattle.convert.specs.declared.rows.Stands.{Stands}
use Rattle.convert.specs.Emission.{swapped, parts_row, both_rows, six_rows, written}
use Rattle.convert.proofs.WriteLaws.{then_written}
use Rattle.convert.proofs.rows.put_six.Statement.{statement}
use Rattle.convert.proofs.rows.put_six.Tie as tie

put_both-requires : tie.Need-put_both-requires
put_both-requires c κs = search rules

overflow_add-s : tie.Need-overflow_add-s
overflow_add-s c = search rules

overflow_add-s-2 : tie.Need-overflow_add-s-2
overflow_add-s-2 c = search rules

put_parts-requires : tie.Need-put_parts-requires
put_parts-requires c κs = search rules

swapped-h-requires : tie.Need-swapped-h-requires
swapped-h-requires c κs = search rules

overflow_add-s-3 : tie.Need-overflow_add-s-3
overflow_add-s-3 c = search rules

put_both-requires-2 : tie.Need-put_both-requires-2
unfolding swapped
put_both-requires-2 c κs =
    let own = ap (λ (m : Stands). m.own) c.swapped-h.ensures in
    let negated = ap (λ (m : Stands). m.negated) c.swapped-h.ensures in
    ((search rules, search rules, search rules), (search rules, search rules, omega arith, omega arith))

overflow_add-s-4 : tie.Need-overflow_add-s-4
overflow_add-s-4 c = search rules

overflow_add-s-5 : tie.Need-overflow_add-s-5
overflow_add-s-5 c = search rules

overflow_add-s-6 : tie.Need-overflow_add-s-6
overflow_add-s-6 c = search rules

put_parts-requires-2 : tie.Need-put_parts-requires-2
put_parts-requires-2 c κs = search rules

shape_of-t : tie.Need-shape_of-t
shape_of-t c = search rules

returns : tie.Need-returns
unfolding six_rows both_rows
returns c =
    let t = c.args.t.now in
    let s = c.args.s in
    let f = c.args.f in
    let g = c.args.g in
    let v = both_rows 4 4 f g in
    let w = both_rows 4 4 f (swapped g) in
    let last : s + 4 ≡ s + 3 + 1 = omega arith in
    let second = then_written t s (s + 2) v (parts_row 5 s (s + 1) ∷ []) c.put_both.ensures c.put_parts.ensures refl refl in
    let third = then_written t s (s + 3) (v ++ parts_row 5 s (s + 1) ∷ []) w second (c.put_both-2.ensures ∙ ap (λ (m : Stands). written c.put_parts.new.t (s + 3) (both_rows 4 4 f m)) c.swapped-h.ensures) refl refl in
    then_written t s (s + 5) ((v ++ parts_row 5 s (s + 1) ∷ []) ++ w) (parts_row 5 (s + 3) (s + 3 + 1) ∷ []) third
    (c.put_parts-2.ensures ∙ ap (λ (m : ℕ). written c.put_both-2.new.t (s + 5) (parts_row 5 (s + 3) m ∷ [])) last) refl refl

pub put_six_spec : {M : Type 1} → statement M
put_six_spec =
    tie.close
    (tie.spec
    put_both-requires
    overflow_add-s
    overflow_add-s-2
    put_parts-requires
    swapped-h-requires
    overflow_add-s-3
    put_both-requires-2
    overflow_add-s-4
    overflow_add-s-5
    overflow_add-s-6
    put_parts-requires-2
    shape_of-t
    returns)
