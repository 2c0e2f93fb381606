-- What a rule asks of its node's bound, rule by rule.
use Prim.Native.Nat.{ℕ, ◌<◌, ◌≤◌}
use native.Mathlib.Omega.{arith}
use native.Mathlib.Numerals.{add-one}
use mathlib.Core.Path.{◌≡◌, refl, sym, ◌∙◌, ap, ap₂}
use mathlib.Core.Logic.{⊎_elim}
use mathlib.Core.Bool.{Bool, true, false}
use mathlib.Core.List.{List}
use mathlib.Core.Option.{Option, none, some}
use lib.IntN.{ℤ, pos}
use lib.Signed.{le_z}
use borrow.Author.Tests.{ne_eqb}
use Rattle.stab.specs.Basic.{◌and◌, ◌or◌, ◌implies◌, eq_z, nat, within, below}
use Rattle.stab.specs.Formula.{Op, conj, disj, kind_of, literal, iteration, offset, well_formed_as}
use Rattle.stab.specs.Node.{Tableau, node, row, rows, row_count, is_row, is_exact, split_at, bound, bound_of}
use Rattle.stab.specs.Rule as R
use Rattle.stab.specs.Rule.{entry, rule_table, rule_of, of_rule, split_fits, unfold_fits, clash_fits, void_fits, loop_fits, bound_fits}
use Rattle.stab.specs.declared.Rule.{Rule}
use Rattle.stab.proofs.Bools.{and_left, and_right, if_true}
use Rattle.stab.proofs.Decoded.{kind_2, kind_3, kind_6, kind_7, formed_as}
use Rattle.stab.proofs.Scans.{below_suc}
use Rattle.stab.proofs.Trees.{below_nat}
use Rattle.stab.proofs.Whole.{atom, num, le_of, of_le, nat_pos}
use Rattle.formula.specs.Facts.{AllFormed}
use Rattle.branch.specs.Lent.{upper, bounded, bound_by, FieldsKnown}
use Rattle.branch.specs.Work.{top_of, Worked}
use Rattle.fields.proofs.FieldParts.{named}

-- ---- the bound that is kept

upper_top : (u : Option ℕ) → upper (top_of u) ≡ u
unfolding upper top_of
upper_top none = refl
upper_top (some H) = ap upper (add-one H)

pub bound_kept : (nodes : List ℤ) (least : ℤ) (k : ℕ) (work : List ℕ) (j : ℕ) → Worked nodes least k work j → bound_by work j ≡ bound_of nodes least j
bound_kept nodes least k work j w =
    ap₂ bounded w.H w.L
    ∙ ap (λ (u : Option ℕ). record { L = (bound_of nodes least j).L; H = u }) (upper_top (bound_of nodes least j).H)

-- ---- which of the five tests a rule asks

and_true_last : (a : Bool) → a ≡ (a and true)
unfolding ◌and◌
and_true_last true = refl
and_true_last false = refl

module _ (a b c d e : Bool) where
  asked : ℤ → Bool
  asked z =
      (eq_z z (pos 2) implies a) and
      (eq_z z (pos 3) or eq_z z (pos 4) implies b) and
      (eq_z z (pos 6) implies c) and
      (eq_z z (pos 7) implies d) and
      (eq_z z (pos 8) implies e)

  asked_2 : a ≡ asked (pos 2)
  unfolding asked eq_z ◌implies◌ ◌or◌ ◌and◌
  asked_2 = and_true_last a

  asked_3 : b ≡ asked (pos 3)
  unfolding asked eq_z ◌implies◌ ◌or◌ ◌and◌
  asked_3 = and_true_last b

  asked_4 : b ≡ asked (pos 4)
  unfolding asked eq_z ◌implies◌ ◌or◌ ◌and◌
  asked_4 = and_true_last b

  asked_6 : c ≡ asked (pos 6)
  unfolding asked eq_z ◌implies◌ ◌or◌ ◌and◌
  asked_6 = and_true_last c

  asked_7 : d ≡ asked (pos 7)
  unfolding asked eq_z ◌implies◌ ◌or◌ ◌and◌
  asked_7 = and_true_last d

  asked_8 : e ≡ asked (pos 8)
  unfolding asked eq_z ◌implies◌ ◌or◌ ◌and◌
  asked_8 = refl

  asked_none : (n : ℕ) → (n ≡ 2 → ⊥) → (n ≡ 3 → ⊥) → (n ≡ 4 → ⊥) → (n ≡ 6 → ⊥) → (n ≡ 7 → ⊥) → (n ≡ 8 → ⊥) → true ≡ asked (pos n)
  unfolding asked eq_z ◌implies◌ ◌or◌ ◌and◌
  asked_none n n2 n3 n4 n6 n7 n8 =
      simp (ne_eqb n 2 n2, ne_eqb n 3 n3, ne_eqb n 4 n4, ne_eqb n 6 n6, ne_eqb n 7 n7, ne_eqb n 8 n8)

module _ (T : Tableau) (j n : ℕ) (e : (node T j).rule ≡ pos n) where
  tests : ℤ → Bool
  tests =
      asked
      (split_fits (bound T j) (split_at (bound T j).L (node T j).by))
      (unfold_fits (bound T j).L (row T (node T j).on))
      (clash_fits (is_exact (bound T j)) (bound T j).L (row T (node T j).on) (row T (node T j).with))
      (void_fits (bound T j).H (row T (node T j).on))
      (loop_fits (bound T j) (bound T (nat (node T j).to)) (node T j).by)

  -- the rule's number is m
  by_number : (m : ℕ) → n ≡ m → tests (pos m) ≡ bound_fits T j
  unfolding tests asked bound_fits of_rule
  by_number m h = ap tests (ap pos (sym h) ∙ sym e)

  pub split_asked : n ≡ 2 → split_fits (bound T j) (split_at (bound T j).L (node T j).by) ≡ bound_fits T j
  unfolding tests
  split_asked h = asked_2 _ _ _ _ _ ∙ by_number 2 h

  pub unfold_asked : 3 ≤ n → n < 5 → unfold_fits (bound T j).L (row T (node T j).on) ≡ bound_fits T j
  unfolding tests
  unfold_asked l h =
      ⊎_elim
      (λ p. asked_3 _ _ _ _ _ ∙ by_number 3 (omega arith))
      (λ p. asked_4 _ _ _ _ _ ∙ by_number 4 p)
      (below_suc n 4 (omega arith))

  pub clash_asked : n ≡ 6 → clash_fits (is_exact (bound T j)) (bound T j).L (row T (node T j).on) (row T (node T j).with) ≡ bound_fits T j
  unfolding tests
  clash_asked h = asked_6 _ _ _ _ _ ∙ by_number 6 h

  pub void_asked : n ≡ 7 → void_fits (bound T j).H (row T (node T j).on) ≡ bound_fits T j
  unfolding tests
  void_asked h = asked_7 _ _ _ _ _ ∙ by_number 7 h

  pub loop_asked : n ≡ 8 → loop_fits (bound T j) (bound T (nat (node T j).to)) (node T j).by ≡ bound_fits T j
  unfolding tests
  loop_asked h = asked_8 _ _ _ _ _ ∙ by_number 8 h

  pub none_asked : (n ≡ 2 → ⊥) → (n ≡ 3 → ⊥) → (n ≡ 4 → ⊥) → (n ≡ 6 → ⊥) → (n ≡ 7 → ⊥) → (n ≡ 8 → ⊥) → true ≡ bound_fits T j
  unfolding tests
  none_asked n2 n3 n4 n6 n7 n8 = asked_none _ _ _ _ _ n n2 n3 n4 n6 n7 n8 ∙ by_number n refl

-- ---- the rows that the tests look at

-- a row within the count, whose two last columns are offsets
abbrev pub Ranged : Tableau → ℤ → Type 0
Ranged T z = (nat z < row_count T) × (offset (row T z).b ≡ true) × (offset (row T z).c ≡ true)

abbrev pub Added : Tableau → ℤ → Type 0
Added T z = (nat z < row_count T) × (offset (row T z).c ≡ true)

module _ (T : Tableau) (formed : AllFormed (rows T) (row_count T)) (z : ℤ) (inside : below (row_count T) z ≡ true) where
  pub ranged : (o : Op) → kind_of (row T z).kind ≡ iteration o → Ranged T z
  unfolding well_formed_as row
  ranged o e =
      let l = below_nat (row_count T) z inside in
      let w = formed_as (rows T) (nat z) (iteration o) e (formed (nat z) l) in
      let v = and_right (below (nat z) (row T z).a) _ w in
      (l, and_left _ _ v, and_left _ _ (and_right (offset (row T z).b) _ v))

  pub added : (v : Bool) → kind_of (row T z).kind ≡ literal v → Added T z
  unfolding well_formed_as row
  added v e =
      let l = below_nat (row_count T) z inside in
      let w = formed_as (rows T) (nat z) (literal v) e (formed (nat z) l) in
      (l, and_right (within (pos 0) (pos 2) (row T z).b) _ (and_right (within (pos 0) (pos 255) (row T z).a) _ w))

module _ (T : Tableau) (j n : ℕ) (e : (node T j).rule ≡ pos n) (known : FieldsKnown T j) (formed : AllFormed (rows T) (row_count T)) where
  entry_of : (m : ℕ) → n ≡ m → R.rule T j ≡ rule_of (pos m)
  unfolding R.rule
  entry_of m h = ap rule_of (e ∙ ap pos h)

  on_of : (m k : ℕ) → n ≡ m → (rule_of (pos m)).on ≡ pos k → (below (row_count T) (node T j).on ≡ true) × ((row T (node T j).on).kind ≡ pos k)
  on_of m k h d = named T j (R.rule T j).on (node T j).on k (ap (λ (r : Rule). r.on) (entry_of m h) ∙ d) known.on

  with_of : (m k : ℕ) → n ≡ m → (rule_of (pos m)).with ≡ pos k → (below (row_count T) (node T j).with ≡ true) × ((row T (node T j).with).kind ≡ pos k)
  with_of m k h d = named T j (R.rule T j).with (node T j).with k (ap (λ (r : Rule). r.with) (entry_of m h) ∙ d) known.with

  pub unfold_on : 3 ≤ n → n < 5 → Ranged T (node T j).on
  unfolding rule_of rule_table entry nat
  unfold_on l h =
      ⊎_elim
      (λ p. let o = on_of 3 6 (omega arith) refl in ranged T formed _ o.0 conj (kind_6 o.1))
      (λ p. let o = on_of 4 7 p refl in ranged T formed _ o.0 disj (kind_7 o.1))
      (below_suc n 4 (omega arith))

  pub unfold_with : 3 ≤ n → n < 5 → Ranged T (node T j).with
  unfolding rule_of rule_table entry nat
  unfold_with l h =
      ⊎_elim
      (λ p. let o = with_of 3 6 (omega arith) refl in ranged T formed _ o.0 conj (kind_6 o.1))
      (λ p. let o = with_of 4 7 p refl in ranged T formed _ o.0 disj (kind_7 o.1))
      (below_suc n 4 (omega arith))

  -- the row unfolded is an iteration, and `other` is a row
  pub unfold_kind : 3 ≤ n → n < 5 → 6 ≤ nat (row T (node T j).on).kind
  unfolding rule_of rule_table entry nat
  unfold_kind l h =
      ⊎_elim
      (λ p. omega (arith, ap nat (on_of 3 6 (omega arith) refl).1))
      (λ p. omega (arith, ap nat (on_of 4 7 p refl).1))
      (below_suc n 4 (omega arith))

  pub unfold_other : 3 ≤ n → n < 5 → nat (node T j).other < row_count T
  unfolding R.other_fits rule_of rule_table entry nat is_row
  unfold_other l h =
      below_nat (row_count T) (node T j).other
      (sym
      (if_true (R.rule T j).other _ _
      (⊎_elim
      (λ p. ap (λ (r : Rule). r.other) (entry_of 3 (omega arith)))
      (λ p. ap (λ (r : Rule). r.other) (entry_of 4 p))
      (below_suc n 4 (omega arith))))
      ∙ known.other)

  pub void_on : n ≡ 7 → Ranged T (node T j).on
  unfolding rule_of rule_table entry nat
  void_on h = let o = on_of 7 7 h refl in ranged T formed _ o.0 disj (kind_7 o.1)

  pub clash_on : n ≡ 6 → Added T (node T j).on
  unfolding rule_of rule_table entry nat
  clash_on h = let o = on_of 6 2 h refl in added T formed _ o.0 true (kind_2 o.1)

  pub clash_with : n ≡ 6 → Added T (node T j).with
  unfolding rule_of rule_table entry nat
  clash_with h = let o = with_of 6 3 h refl in added T formed _ o.0 false (kind_3 o.1)

  -- a link's `by` is at least 1
  pub link_by : n ≡ 8 → le_z (pos 1) (node T j).by ≡ true
  unfolding R.link_fits rule_of rule_table entry nat
  link_by h = sym (if_true (R.rule T j).link _ _ (ap (λ (r : Rule). r.link) (entry_of 8 h))) ∙ known.link

  pub by_natural : n ≡ 8 → pos (nat (node T j).by) ≡ (node T j).by
  by_natural h = nat_pos (node T j).by (le_of (num 0) (atom (node T j).by) (omega (arith, of_le (num 1) (atom (node T j).by) (link_by h))))
