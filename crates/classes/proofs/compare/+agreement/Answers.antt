use Rattle.std.specs.Prelude.{if◌then◌else◌}
use Rattle.std.proofs.Common.{◌≡◌, ℕ, ◌<◌, ◌≤◌, ◌^◌, Bool, true, false, eqb, w32, ℤ, pos, ◌+ℤ◌, ◌-ℤ◌, of_z, to_z, refl, sym, ◌∙◌, ap, ap₂, subst, arith}
use borrow.Author.Tests.{eqb-true}
use lib.Signed.{mag}
use mir.Val.{hbits}
use Rattle.stab.specs.Basic.{◌and◌, eq_z, nat}
use Rattle.stab.specs.Formula.{Row, formula_rows, offset, tree}
use Rattle.stab.specs.Alike.{lower, alike}
use Rattle.stab.proofs.Bools.{and_left, and_right, and_first_true, and_first_false, and_second_false}
use Rattle.signed.proofs.Signs.{read_back}
use Rattle.formula.specs.Cells.{row_of}
use Rattle.formula.specs.declared.cells.Cells.{Cells}
use Rattle.classes.specs.Class.{ground, besides}
use Rattle.classes.specs.Key.{fitting}
use Rattle.classes.specs.Agreed.{Remembers}
use Rattle.classes.proofs.Meets.{kinds_differ, constants_met, known_met, met_akin, added_f, added_g, lead_f, lead_g, other_f, other_g, junctions_met, body_f, body_g, first_f, first_g, limit_f, limit_g, iterations_met}
use Rattle.classes.proofs.Remembering.{known_akin, united_agreed}
use Rattle.classes.proofs.compare.+agreement.Goals as goal

and_second_true : (a b : Bool) → b ≡ true → (a and b) ≡ a
unfolding ◌and◌
and_second_true true b e = e
and_second_true false b e = refl

-- ---- what is remembered is asked first

pub agrees-returns-then-is_known-clause-value : goal.agrees-returns-then-is_known-clause-value
agrees-returns-then-is_known-clause-value t c =
    let a = c.args in
    let n = c.requires.by_index in
    let h = sym c.is_known.ensures ∙ c.if-is_known.true in
    let rows = formula_rows a.schema.now a.s a.proof.now in
    sym
    (known_met rows _ _ n.3 (pos a.up -ℤ pos a.down) _ _ n.1 n.2 _ _ (λ i. pos a.up -ℤ pos a.down)
    (known_akin rows _ c.requires.remembers _ _ (eqb-true _ _ (and_left _ _ h)))
    (sym (ap₂ (fitting a.up a.down) (n.3.worked _ n.1).shift (n.3.worked _ n.2).shift) ∙ and_right _ _ h))

-- ---- rows that agree are remembered

pub agrees_anew-returns-clause-remembers_2 : goal.agrees_anew-returns-clause-remembers_2
agrees_anew-returns-clause-remembers_2 t c =
    let a = c.args in
    let n = c.requires.by_index in
    let rows = formula_rows a.schema.now a.s a.proof.now in
    let e = c.gone_down.ensures in
    let met = sym e.value ∙ c.if-not-gone_down.false in
    let k = c.gone_down.auto.agreed in
    subst (Remembers rows) (sym c.remember.ensures)
    (united_agreed rows _ e.remembers_2 _ _ (omega (arith, n.1, n.4, k)) (omega (arith, n.2, n.4, k)) (met_akin (pos a.up -ℤ pos a.down) _ _ met))

-- ---- the rows are gone down

-- what the columns of a row say of it
kind_of : (w : Cells) {r : Row} {k : ℕ} → mag w.kind < 2 ^ hbits w32 → k ≡ nat (to_z w32 (of_z w32 w.kind)) → row_of w ≡ r → k ≡ nat r.kind
unfolding row_of
kind_of w h p e = p ∙ ap nat (read_back w.kind h) ∙ ap (λ (u : Row). nat u.kind) e

part_of : (w : Cells) {r : Row} {k : ℕ} → mag w.a < 2 ^ hbits w32 → k ≡ nat (to_z w32 (of_z w32 w.a)) → row_of w ≡ r → k ≡ nat r.a
unfolding row_of
part_of w h p e = p ∙ ap nat (read_back w.a h) ∙ ap (λ (u : Row). nat u.a) e

offset_b : (w : Cells) {r : Row} → row_of w ≡ r → offset r.b ≡ true → offset w.b ≡ true
unfolding row_of
offset_b w e h = ap (λ (u : Row). offset u.b) e ∙ h

offset_c : (w : Cells) {r : Row} → row_of w ≡ r → offset r.c ≡ true → offset w.c ≡ true
unfolding row_of
offset_c w e h = ap (λ (u : Row). offset u.c) e ∙ h

-- the part that p is not, by the columns
part_by : (w : Cells) (table : ℕ → Row) (r p : ℕ) → row_of w ≡ table r → (if eqb p (nat w.a) then nat w.b else nat w.a) ≡ besides table r p
unfolding row_of besides
part_by w table r p e = ap (λ (u : Row). if eqb p (nat u.a) then nat u.b else nat u.a) e

-- ranges by the columns
ranges_by : (v w : Cells) {f g : Row} (k : ℤ) {r : Bool} → r ≡ (eq_z v.b w.b and eq_z (v.c +ℤ k) w.c) → row_of v ≡ f → row_of w ≡ g → r ≡ (eq_z f.b g.b and eq_z (f.c +ℤ k) g.c)
unfolding row_of
ranges_by v w k p d e = p ∙ ap₂ (λ (u z : Row). eq_z u.b z.b and eq_z (u.c +ℤ k) z.c) d e

pub gone_down-returns-then-kind-natural-clause-value :
    goal.gone_down-returns-then-kind-natural-clause-value
gone_down-returns-then-kind-natural-clause-value t c =
    let a = c.args in
    let n = c.requires.by_index in
    let kf = kind_of c.of_row-x.result c.struct_told-1.given.0.1 c.natural-kind.ensures c.of_row-x.ensures in
    let kg = kind_of c.of_row-y.result c.struct_told-2-1.given.0.1 c.natural.ensures c.of_row-y.ensures in
    sym
    (kinds_differ (formula_rows a.schema.now a.s a.proof.now) _ _ n.3 (pos a.up -ℤ pos a.down) _ _ n.1 n.2
    (λ e. c.if-kind-natural.true (kf ∙ e ∙ sym kg)))

pub gone_down-returns-then-kind-lt2-clause-value :
    goal.gone_down-returns-then-kind-lt2-clause-value
gone_down-returns-then-kind-lt2-clause-value t c =
    let a = c.args in
    let n = c.requires.by_index in
    let kf = kind_of c.of_row-x.result c.struct_told-1.given.0.1 c.natural-kind.ensures c.of_row-x.ensures in
    let kg = kind_of c.of_row-y.result c.struct_told-2-1.given.0.1 c.natural.ensures c.of_row-y.ensures in
    let same = sym kf ∙ c.if-kind-natural.false ∙ kg in
    sym
    (constants_met (formula_rows a.schema.now a.s a.proof.now) _ _ n.3 (pos a.up -ℤ pos a.down) _ _ n.1 n.2 same
    (omega (arith, kf, c.if-kind-lt2.true)))

-- ---- literals

pub gone_down-literals_agree-requires : goal.gone_down-literals_agree-requires
gone_down-literals_agree-requires t c =
    let a = c.args in
    let n = c.requires.by_index in
    let kf = kind_of c.of_row-x.result c.struct_told-1.given.0.1 c.natural-kind.ensures c.of_row-x.ensures in
    let kg = kind_of c.of_row-y.result c.struct_told-2-1.given.0.1 c.natural.ensures c.of_row-y.ensures in
    let same = sym kf ∙ c.if-kind-natural.false ∙ kg in
    let rows = formula_rows a.schema.now a.s a.proof.now in
    let k = pos a.up -ℤ pos a.down in
    let wf = n.3.formed _ n.1 in
    let wg = n.3.formed _ n.2 in
    let low : 2 ≤ nat (rows a.f).kind = omega (arith, kf, c.if-kind-lt2.false) in
    let high : nat (rows a.f).kind < 4 = omega (arith, kf, c.if-kind-lt4.true) in (
      c.requires.up_bound.0,
      c.requires.up_bound.1,
      offset_c _ c.of_row-x.ensures (added_f rows k _ _ wf wg same low high),
      offset_c _ c.of_row-y.ensures (added_g rows k _ _ wf wg same low high),
    )

pub gone_down-returns-then-kind-lt4-clause-value :
    goal.gone_down-returns-then-kind-lt4-clause-value
gone_down-returns-then-kind-lt4-clause-value t c =
    let a = c.args in
    let n = c.requires.by_index in
    let kf = kind_of c.of_row-x.result c.struct_told-1.given.0.1 c.natural-kind.ensures c.of_row-x.ensures in
    let kg = kind_of c.of_row-y.result c.struct_told-2-1.given.0.1 c.natural.ensures c.of_row-y.ensures in
    let same = sym kf ∙ c.if-kind-natural.false ∙ kg in
    c.literals_agree.ensures (formula_rows a.schema.now a.s a.proof.now) _ _ c.of_row-x.ensures c.of_row-y.ensures (n.3.formed _ n.1) (n.3.formed _ n.2) same
    (omega (arith, kf, c.if-kind-lt2.false))
    (omega (arith, kf, c.if-kind-lt4.true))

-- ---- an and or an or: its leading part, then the other

pub gone_down-agrees-requires : goal.gone_down-agrees-requires
gone_down-agrees-requires t c =
    let a = c.args in
    let n = c.requires.by_index in
    let kf = kind_of c.of_row-x.result c.struct_told-1.given.0.1 c.natural-kind.ensures c.of_row-x.ensures in
    let kg = kind_of c.of_row-y.result c.struct_told-2-1.given.0.1 c.natural.ensures c.of_row-y.ensures in
    let same = sym kf ∙ c.if-kind-natural.false ∙ kg in
    let rows = formula_rows a.schema.now a.s a.proof.now in
    let k = pos a.up -ℤ pos a.down in
    let low : 4 ≤ nat (rows a.f).kind = omega (arith, kf, c.if-kind-lt4.false) in
    let high : nat (rows a.f).kind < 6 = omega (arith, kf, c.if-kind-lt6.true) in
    let lead = c.kept_at-lead.ensures.0 ∙ (n.3.worked _ n.1).lead in
    let twin = c.kept_at-twin.ensures.0 ∙ (n.3.worked _ n.2).lead in
    let below_f : c.kept_at-lead.result < a.f = omega (arith, lead, lead_f rows _ _ n.3 k _ _ n.1 n.2 same low high) in
    let below_g : c.kept_at-twin.result < a.g = omega (arith, twin, lead_g rows _ _ n.3 k _ _ n.1 n.2 same low high) in
    (omega (arith, c.decreases, below_f), (c.requires.up_bound, ((n.0, omega (arith, n.1, below_f), omega (arith, n.2, below_g), n.3, n.4), c.requires.remembers)))

pub gone_down-returns-then-not-agrees-clause-value :
    goal.gone_down-returns-then-not-agrees-clause-value
gone_down-returns-then-not-agrees-clause-value t c =
    let a = c.args in
    let n = c.requires.by_index in
    let kf = kind_of c.of_row-x.result c.struct_told-1.given.0.1 c.natural-kind.ensures c.of_row-x.ensures in
    let kg = kind_of c.of_row-y.result c.struct_told-2-1.given.0.1 c.natural.ensures c.of_row-y.ensures in
    let same = sym kf ∙ c.if-kind-natural.false ∙ kg in
    let rows = formula_rows a.schema.now a.s a.proof.now in
    let k = pos a.up -ℤ pos a.down in
    let low : 4 ≤ nat (rows a.f).kind = omega (arith, kf, c.if-kind-lt4.false) in
    let high : nat (rows a.f).kind < 6 = omega (arith, kf, c.if-kind-lt6.true) in
    let lead = c.kept_at-lead.ensures.0 ∙ (n.3.worked _ n.1).lead in
    let twin = c.kept_at-twin.ensures.0 ∙ (n.3.worked _ n.2).lead in
    let first = c.agrees.ensures.value ∙ ap₂ (λ x y. alike (lower k (ground (tree rows x))) (ground (tree rows y))) lead twin in
    sym (junctions_met rows _ _ n.3 k _ _ n.1 n.2 same low high ∙ and_first_false _ _ (sym first ∙ c.if-not-agrees.true))

pub gone_down-agrees-requires-then-kind-lt6 : goal.gone_down-agrees-requires-then-kind-lt6
gone_down-agrees-requires-then-kind-lt6 t c =
    let a = c.args in
    let n = c.requires.by_index in
    let kf = kind_of c.of_row-x.result c.struct_told-1.given.0.1 c.natural-kind.ensures c.of_row-x.ensures in
    let kg = kind_of c.of_row-y.result c.struct_told-2-1.given.0.1 c.natural.ensures c.of_row-y.ensures in
    let same = sym kf ∙ c.if-kind-natural.false ∙ kg in
    let rows = formula_rows a.schema.now a.s a.proof.now in
    let k = pos a.up -ℤ pos a.down in
    let low : 4 ≤ nat (rows a.f).kind = omega (arith, kf, c.if-kind-lt4.false) in
    let high : nat (rows a.f).kind < 6 = omega (arith, kf, c.if-kind-lt6.true) in
    let lead = c.kept_at-lead.ensures.0 ∙ (n.3.worked _ n.1).lead in
    let twin = c.kept_at-twin.ensures.0 ∙ (n.3.worked _ n.2).lead in
    let other = c.besides-other.ensures ∙ part_by _ rows a.f _ c.of_row-x.ensures ∙ ap (besides rows a.f) lead in
    let other_twin = c.besides-other_twin.ensures ∙ part_by _ rows a.g _ c.of_row-y.ensures ∙ ap (besides rows a.g) twin in
    let below_f : c.besides-other.result < a.f = omega (arith, other, other_f rows _ _ n.3 k _ _ n.1 n.2 same low high) in
    let below_g : c.besides-other_twin.result < a.g = omega (arith, other_twin, other_g rows _ _ n.3 k _ _ n.1 n.2 same low high) in
    (omega (arith, c.decreases, below_f), (c.requires.up_bound, ((n.0, omega (arith, n.1, below_f), omega (arith, n.2, below_g), n.3, omega (arith, n.4, c.agrees.auto.agreed)), c.agrees.ensures.remembers_2)))

pub gone_down-returns-then-kind-lt6-clause-value :
    goal.gone_down-returns-then-kind-lt6-clause-value
gone_down-returns-then-kind-lt6-clause-value t c =
    let a = c.args in
    let n = c.requires.by_index in
    let kf = kind_of c.of_row-x.result c.struct_told-1.given.0.1 c.natural-kind.ensures c.of_row-x.ensures in
    let kg = kind_of c.of_row-y.result c.struct_told-2-1.given.0.1 c.natural.ensures c.of_row-y.ensures in
    let same = sym kf ∙ c.if-kind-natural.false ∙ kg in
    let rows = formula_rows a.schema.now a.s a.proof.now in
    let k = pos a.up -ℤ pos a.down in
    let low : 4 ≤ nat (rows a.f).kind = omega (arith, kf, c.if-kind-lt4.false) in
    let high : nat (rows a.f).kind < 6 = omega (arith, kf, c.if-kind-lt6.true) in
    let lead = c.kept_at-lead.ensures.0 ∙ (n.3.worked _ n.1).lead in
    let twin = c.kept_at-twin.ensures.0 ∙ (n.3.worked _ n.2).lead in
    let other = c.besides-other.ensures ∙ part_by _ rows a.f _ c.of_row-x.ensures ∙ ap (besides rows a.f) lead in
    let other_twin = c.besides-other_twin.ensures ∙ part_by _ rows a.g _ c.of_row-y.ensures ∙ ap (besides rows a.g) twin in
    let first = c.agrees.ensures.value ∙ ap₂ (λ x y. alike (lower k (ground (tree rows x))) (ground (tree rows y))) lead twin in
    let second = c.agrees-then-kind-lt6.ensures.value ∙ ap₂ (λ x y. alike (lower k (ground (tree rows x))) (ground (tree rows y))) other other_twin in
    second ∙ sym (junctions_met rows _ _ n.3 k _ _ n.1 n.2 same low high ∙ and_first_true _ _ (sym first ∙ c.if-not-agrees.false))

-- ---- iterations: their ranges, then their bodies

pub gone_down-ranges_agree-requires-clause-b_value :
    goal.gone_down-ranges_agree-requires-clause-b_value
gone_down-ranges_agree-requires-clause-b_value t c =
    let a = c.args in
    let n = c.requires.by_index in
    let kf = kind_of c.of_row-x.result c.struct_told-1.given.0.1 c.natural-kind.ensures c.of_row-x.ensures in
    let kg = kind_of c.of_row-y.result c.struct_told-2-1.given.0.1 c.natural.ensures c.of_row-y.ensures in
    let same = sym kf ∙ c.if-kind-natural.false ∙ kg in
    let rows = formula_rows a.schema.now a.s a.proof.now in
    let k = pos a.up -ℤ pos a.down in
    let low : 6 ≤ nat (rows a.f).kind = omega (arith, kf, c.if-kind-lt6.false) in (
      offset_b _ c.of_row-x.ensures (first_f rows _ _ n.3 k _ _ n.1 n.2 same low),
      offset_b _ c.of_row-y.ensures (first_g rows _ _ n.3 k _ _ n.1 n.2 same low),
      offset_c _ c.of_row-x.ensures (limit_f rows _ _ n.3 k _ _ n.1 n.2 same low),
      offset_c _ c.of_row-y.ensures (limit_g rows _ _ n.3 k _ _ n.1 n.2 same low),
    )

pub gone_down-returns-then-not-ranges_agree-clause-value :
    goal.gone_down-returns-then-not-ranges_agree-clause-value
gone_down-returns-then-not-ranges_agree-clause-value t c =
    let a = c.args in
    let n = c.requires.by_index in
    let kf = kind_of c.of_row-x.result c.struct_told-1.given.0.1 c.natural-kind.ensures c.of_row-x.ensures in
    let kg = kind_of c.of_row-y.result c.struct_told-2-1.given.0.1 c.natural.ensures c.of_row-y.ensures in
    let same = sym kf ∙ c.if-kind-natural.false ∙ kg in
    let rows = formula_rows a.schema.now a.s a.proof.now in
    let k = pos a.up -ℤ pos a.down in
    let low : 6 ≤ nat (rows a.f).kind = omega (arith, kf, c.if-kind-lt6.false) in
    let ranges = ranges_by _ _ k c.ranges_agree.ensures c.of_row-x.ensures c.of_row-y.ensures in
    sym (iterations_met rows _ _ n.3 k _ _ n.1 n.2 same low ∙ and_second_false _ _ (sym ranges ∙ c.if-not-ranges_agree.true))

pub gone_down-agrees-requires-2 : goal.gone_down-agrees-requires-2
gone_down-agrees-requires-2 t c =
    let a = c.args in
    let n = c.requires.by_index in
    let kf = kind_of c.of_row-x.result c.struct_told-1.given.0.1 c.natural-kind.ensures c.of_row-x.ensures in
    let kg = kind_of c.of_row-y.result c.struct_told-2-1.given.0.1 c.natural.ensures c.of_row-y.ensures in
    let same = sym kf ∙ c.if-kind-natural.false ∙ kg in
    let rows = formula_rows a.schema.now a.s a.proof.now in
    let k = pos a.up -ℤ pos a.down in
    let low : 6 ≤ nat (rows a.f).kind = omega (arith, kf, c.if-kind-lt6.false) in
    let body = part_of c.of_row-x.result c.struct_told-3-1.given.1.0.1 c.natural-body.ensures c.of_row-x.ensures in
    let body_twin = part_of c.of_row-y.result c.struct_told-4-1.given.1.0.1 c.natural-body_twin.ensures c.of_row-y.ensures in
    let below_f : c.natural-body.result < a.f = omega (arith, body, body_f rows _ _ n.3 k _ _ n.1 n.2 same low) in
    let below_g : c.natural-body_twin.result < a.g = omega (arith, body_twin, body_g rows _ _ n.3 k _ _ n.1 n.2 same low) in
    (omega (arith, c.decreases, below_f), ((omega arith, omega arith), ((n.0, omega (arith, n.1, below_f), omega (arith, n.2, below_g), n.3, n.4), c.requires.remembers)))

pub gone_down-returns-clause-value : goal.gone_down-returns-clause-value
gone_down-returns-clause-value t c =
    let a = c.args in
    let n = c.requires.by_index in
    let kf = kind_of c.of_row-x.result c.struct_told-1.given.0.1 c.natural-kind.ensures c.of_row-x.ensures in
    let kg = kind_of c.of_row-y.result c.struct_told-2-1.given.0.1 c.natural.ensures c.of_row-y.ensures in
    let same = sym kf ∙ c.if-kind-natural.false ∙ kg in
    let rows = formula_rows a.schema.now a.s a.proof.now in
    let k = pos a.up -ℤ pos a.down in
    let low : 6 ≤ nat (rows a.f).kind = omega (arith, kf, c.if-kind-lt6.false) in
    let body = part_of c.of_row-x.result c.struct_told-3-1.given.1.0.1 c.natural-body.ensures c.of_row-x.ensures in
    let body_twin = part_of c.of_row-y.result c.struct_told-4-1.given.1.0.1 c.natural-body_twin.ensures c.of_row-y.ensures in
    let ranges = ranges_by _ _ k c.ranges_agree.ensures c.of_row-x.ensures c.of_row-y.ensures in
    let third = c.agrees-2.ensures.value ∙ ap₂ (λ x y. alike (lower (pos 0) (ground (tree rows x))) (ground (tree rows y))) body body_twin in
    third ∙ sym (iterations_met rows _ _ n.3 k _ _ n.1 n.2 same low ∙ and_second_true _ _ (sym ranges ∙ c.if-not-ranges_agree.false))
