-- Sets and parents are passed exactly if they keep the rules.
use Prim.Native.Nat.{ℕ, zero, suc}
use mathlib.Core.Path.{refl}
use mathlib.Core.Logic.Iff
use mathlib.Core.List.{[], ◌∷◌}
use lib.IntN.{ℤ, pos, neg_ℤ}
use Rattle.stab.specs.Basic.{nat}
use Rattle.stab.specs.Node.{Tableau, row_count, is_row, formula, node, set, set_start, set_end, set_follows, is_outer_row, set_fits, parent_fits, rank}
use Rattle.stab.specs.Rule.{given, drawn_from, drawn}
use Rattle.stab.specs.Check.{set_refusal, parent_refusal}
use Rattle.stab.specs.Keeps.{OuterRow, KeepsSet, KeepsParent, DrawnFrom, KeepsDrawn}
use Rattle.stab.specs.declared.Refusal.TheVariants.{Set, Parent}
use Rattle.stab.proofs.Formed.{outer_tests}
use Rattle.stab.proofs.Tests.{◌tests◌, ◌&◌, or_tests, ◌⇒◌, eq_tests, le_z_tests, eq_z_tests, below_tests, has_tests, all_tests, ascending_tests, same_list_tests, ◌clears◌, at_clears}

outer_row_tests : (T : Tableau) (z : ℤ) → is_outer_row T z tests OuterRow T z
unfolding is_outer_row is_row
outer_row_tests T z =
    Iff.trans
    (below_tests (row_count T) z & outer_tests (formula T z))
    (λ p. record { is_row = p.0; outer = p.1 }, λ k. (k.is_row, k.outer))

pub set_clears : (T : Tableau) (j : ℕ) → set_refusal T j clears KeepsSet T j
unfolding set_refusal set_fits set_follows node
set_clears T j =
    Iff.trans
    (at_clears Set j
    (((eq_z_tests (node T j).start (set_start T.nodes j) & le_z_tests (pos 0) (node T j).size) &
    le_z_tests (set_end T.nodes j) (pos T.member_count) &
    ascending_tests (set T j) &
    all_tests (set T j) (outer_row_tests T)) &
    (eq_tests (suc j) T.node_rows ⇒ eq_z_tests (set_end T.nodes j) (pos T.member_count)))) (
      λ p. record {
        follows = p.0.0.0;
        not_negative = p.0.0.1;
        counted = p.0.1.0;
        order = p.0.1.1.0;
        outer_rows = p.0.1.1.1;
        last = p.1;
      },
      λ k. (((k.follows, k.not_negative), (k.counted, (k.order, k.outer_rows))), k.last),
    )

parent_tests : (T : Tableau) (j : ℕ) → parent_fits T j tests KeepsParent T j
unfolding parent_fits
parent_tests T zero = eq_z_tests (node T zero).up (neg_ℤ (pos 1)) & same_list_tests (set T zero) (T.root ∷ [])
parent_tests T (suc i) = below_tests (suc i) (node T (suc i)).up

pub parent_clears : (T : Tableau) (j : ℕ) → parent_refusal T j clears KeepsParent T j
unfolding parent_refusal
parent_clears T j = at_clears Parent j (parent_tests T j)

drawn_from_tests : (T : Tableau) (p k : ℕ) (z : ℤ) → drawn_from T p k z tests DrawnFrom T p k z
unfolding drawn_from
drawn_from_tests T p k z = or_tests (has_tests z (set T p)) (has_tests z (given T (node T p) k))

pub drawn_tests : (T : Tableau) (j : ℕ) → drawn T j tests KeepsDrawn T j
unfolding drawn
drawn_tests T zero = (λ h. tt, λ u. refl)
drawn_tests T (suc i) =
    all_tests (set T (suc i)) (drawn_from_tests T (nat (node T (suc i)).up) (rank T.nodes (suc i)))
