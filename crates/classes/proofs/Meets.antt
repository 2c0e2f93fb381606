-- Two rows side by side: when they are alike, by their kinds, numbers and parts.
use Rattle.std.specs.Prelude.{if◌then◌else◌}
use Prim.Native.Nat.{ℕ, ◌+◌, ◌≤◌, ◌<◌}
use native.Mathlib.Omega.{arith}
use mathlib.Core.Path.{◌≡◌, refl, sym, ◌∙◌, ap, ap₂}
use mathlib.Core.Logic.{◌⊎◌, inl, inr, ⊎_elim}
use mathlib.Core.Bool.{Bool, true, false, false≢true}
use mathlib.Core.List.{List}
use mathlib.Core.Option.{Option, none, some}
use lib.Dec.{eqb}
use lib.IntN.{ℤ, pos, neg_ℤ, ◌+ℤ◌, ◌-ℤ◌}
use borrow.Author.Tests.{eqb-true, eq-eqb, ne_eqb}
use Rattle.stab.specs.Basic.{◌and◌, eq_z, within, nat}
use Rattle.stab.specs.Formula.{Row, Op, Base, nothing, parameter, index, base_of, literal, junction, iteration, kind_of, Formula, lit, tree, loose, fixed, offset, well_formed}
use Rattle.stab.specs.Alike.{lower_base, lower, instance_lit, instance, eq_bool, eq_op, eq_base, alike}
use Rattle.stab.proofs.Bools.{decide, same_test, if_true, if_false, and_left, and_right, and_both, and_first_true, and_first_false}
use Rattle.stab.proofs.Whole.{atom, num, ◌⊕◌, ◌⊖◌, eq_of, of_eq, eq_z_of, eq_z_not, plus_nat, minus_nat}
use Rattle.stab.proofs.Decoded.{tree_constant, tree_literal, tree_junction, tree_iteration}
use Rattle.stab.proofs.Alikes.{eq_bool_refl, eq_op_refl, alike_loose, lower_zero}
use Rattle.formula.proofs.RowLaws.{test_same}
use Rattle.classes.specs.Class.{ground, off, or_zero, level, akin, class_of, shift_code, shift_of, lead_of, other_of, Ready}
use Rattle.classes.specs.Key.{fitting}
use Rattle.classes.proofs.Slides.{down, outer_ground, instance_outer, body_ground, alike_ground, bodies_back, none_lower, both_further, shifts_fit, alike_akin, akin_alike}
use Rattle.classes.proofs.Shifts.{Coded}
use Rattle.classes.proofs.Least.{class_same}
use Rattle.classes.proofs.ByKind.{akin_kinds, numbers_same, kinds_same, is_constant, is_literal, is_junction, is_iteration, symbol_within, base_within, added_offset, body_less, body_fixed, first_offset, limit_offset, has_shift}
use Rattle.classes.proofs.Forms.{base_nothing, base_other}
use Rattle.classes.proofs.Keys.{symbols_same, joins_alike, lead_cases, lead_less, other_less, lead_none, other_none, leads_level, others_level}

-- ---- whole numbers by their two natural parts

-- a whole number is the difference of its two parts
pub whole_parts : (k : ℤ) → (pos (nat k) -ℤ pos (nat (neg_ℤ k))) ≡ k
whole_parts k = eq_of (num (nat k) ⊖ num (nat (neg_ℤ k))) (atom k) (omega (arith, plus_nat k, minus_nat k))

-- a sum of whole numbers tested by naturals
pub raised_test : (c d : ℤ) (up down : ℕ) → eqb (nat c + up + nat (neg_ℤ d)) (nat d + nat (neg_ℤ c) + down) ≡ eq_z (c +ℤ (pos up -ℤ pos down)) d
raised_test c d up down =
    test_same (nat c + up + nat (neg_ℤ d)) (nat d + nat (neg_ℤ c) + down) (c +ℤ (pos up -ℤ pos down)) d
    (λ h. eq_of (atom c ⊕ (num up ⊖ num down)) (atom d) (omega (arith, plus_nat c, minus_nat c, plus_nat d, minus_nat d)))
    (λ h. omega (arith, of_eq (atom c ⊕ (num up ⊖ num down)) (atom d) h, plus_nat c, minus_nat c, plus_nat d, minus_nat d))

-- c and 0 - 0 more is c
pub and_none : (c : ℤ) → (c +ℤ (pos 0 -ℤ pos 0)) ≡ c
and_none c = eq_of (atom c ⊕ (num 0 ⊖ num 0)) (atom c) (omega arith)

-- c - (up - down) is c + (down - up)
pub less_is_more : (c : ℤ) (up down : ℕ) → (c +ℤ (pos down -ℤ pos up)) ≡ (c -ℤ (pos up -ℤ pos down))
less_is_more c up down = eq_of (atom c ⊕ (num down ⊖ num up)) (atom c ⊖ (num up ⊖ num down)) (omega arith)

-- ---- two formulas

down_zero : (x : Option ℤ) → down (pos 0) x ≡ x
unfolding down
down_zero none = refl
down_zero (some z) = ap some (eq_of (atom z ⊖ num 0) (atom z) (omega arith))

module _ (k : ℤ) (f g : Formula) where
  abbrev met : Bool
  met = alike (lower k (ground f)) (ground g)

  from_zero : met ≡ alike (lower k (ground f)) (lower (pos 0) (ground g))
  from_zero = ap (alike (lower k (ground f))) (sym (lower_zero (ground g)))

  pub met_akin : met ≡ true → akin f g ≡ true
  met_akin h = alike_akin f g k (pos 0) (sym from_zero ∙ h)

  met_fits : met ≡ true → down k (off f) ≡ off g
  met_fits h = shifts_fit f g k (pos 0) (sym from_zero ∙ h) ∙ down_zero (off g)

  module _ (h : akin f g ≡ true) where
    fits_met : down k (off f) ≡ off g → met ≡ true
    fits_met e = from_zero ∙ akin_alike f g k (pos 0) h (e ∙ sym (down_zero (off g)))

    -- the shifts that are left out
    level_shifts : down (or_zero (off f)) (off f) ≡ down (or_zero (off g)) (off g)
    unfolding akin level
    level_shifts = shifts_fit f g _ _ h

module _ (u v : ℕ) where
  shifts_found : (x y : Option ℤ) → Coded x (shift_code x) → Coded y (shift_code y) → down (pos u -ℤ pos v) x ≡ y → fitting u v (shift_code x) (shift_code y) ≡ true
  unfolding fitting down
  shifts_found none none h k e = if_true _ _ _ (eq-eqb _ 0 h) ∙ eq-eqb _ 0 k
  shifts_found none (some b) h k e = cc
  shifts_found (some a) none h k e = cc
  shifts_found (some a) (some b) h k e =
      let d : a -ℤ (pos u -ℤ pos v) ≡ b = cc in
      if_false _ _ _ (ne_eqb (shift_code (some a)) 0 (λ z. omega (arith, z, h.some_where)))
      ∙ eq-eqb (shift_code (some b) + u) (shift_code (some a) + v) (omega (arith, h.more, k.more, of_eq (atom a ⊖ (num u ⊖ num v)) (atom b) d))

  -- of formulas that are akin both have a shift, or none
  found_shifts : (x y : Option ℤ) → Coded x (shift_code x) → Coded y (shift_code y) → down (or_zero x) x ≡ down (or_zero y) y → fitting u v (shift_code x) (shift_code y) ≡ true → down (pos u -ℤ pos v) x ≡ y
  unfolding fitting down
  found_shifts none none h k l e = refl
  found_shifts none (some b) h k l e = cc
  found_shifts (some a) none h k l e = cc
  found_shifts (some a) (some b) h k l e =
      let d = sym (if_false _ _ _ (ne_eqb (shift_code (some a)) 0 (λ z. omega (arith, z, h.some_where)))) ∙ e in
      ap some (eq_of (atom a ⊖ (num u ⊖ num v)) (atom b) (omega (arith, h.more, k.more, eqb-true (shift_code (some b) + u) (shift_code (some a) + v) d)))

-- ---- literals

-- what a literal is on, i taken for n
based : Base → Base
based nothing = nothing
based parameter = parameter
based index = parameter

moved : ℤ → Base → ℤ → ℤ
moved k nothing c = c
moved k parameter c = c -ℤ k
moved k index c = c -ℤ k

literal_lowered : (k : ℤ) (v : Bool) (s : ℤ) (x : Base) (c : ℤ) → lower k (ground (lit v s x c)) ≡ lit v s (based x) (moved k x c)
unfolding based moved lower lower_base instance instance_lit
literal_lowered k v s nothing c = refl
literal_lowered k v s parameter c = refl
literal_lowered k v s index c = ap (lit v s parameter) (eq_of ((atom c ⊖ num 0) ⊖ atom k) (atom c ⊖ atom k) (omega arith))

literal_ground : (v : Bool) (s : ℤ) (x : Base) (c : ℤ) → ground (lit v s x c) ≡ lit v s (based x) c
unfolding based instance instance_lit
literal_ground v s nothing c = refl
literal_ground v s parameter c = refl
literal_ground v s index c = ap (lit v s parameter) (eq_of (atom c ⊖ num 0) (atom c) (omega arith))

literals_tested : (k : ℤ) (v : Bool) (s t : ℤ) (x y : Base) (c d : ℤ) → met k (lit v s x c) (lit v t y d) ≡ (eq_z s t and eq_base (based x) (based y) and eq_z (moved k x c) d)
unfolding alike
literals_tested k v s t x y c d =
    ap₂ alike (literal_lowered k v s x c) (literal_ground v t y d) ∙ and_first_true (eq_bool v v) _ (eq_bool_refl v)

module _ (z : ℤ) (k c : ℤ) where
  on_nothing : within (pos 0) (pos 2) z ≡ true → nat z ≡ 0 → (based (base_of z) ≡ nothing) × (moved k (base_of z) c ≡ c)
  unfolding based moved
  on_nothing h e = let b = base_nothing z c h e in (ap based b, ap (λ (x : Base). moved k x c) b)

  on_other : (nat z ≡ 0 → ⊥) → (based (base_of z) ≡ parameter) × (moved k (base_of z) c ≡ (c -ℤ k))
  unfolding based moved
  on_other h = let b = base_other z c h in (ap based b ∙ (go (eq_z z (pos 1))).0, ap (λ (x : Base). moved k x c) b ∙ (go (eq_z z (pos 1))).1)
    where
      go : (t : Bool) → (based (if t then parameter else index) ≡ parameter) × (moved k (if t then parameter else index) c ≡ (c -ℤ k))
      go true = (refl, refl)
      go false = (refl, refl)

-- two literal rows of one kind
module _ (rows : ℕ → Row) (k : ℤ) (f g : ℕ) (wf : well_formed rows f ≡ true) (wg : well_formed rows g ≡ true) (same : nat (rows f).kind ≡ nat (rows g).kind) (p : 2 ≤ nat (rows f).kind) (l : nat (rows f).kind < 4) where
  literal_f : (v : Bool) × (kind_of (rows f).kind ≡ literal v)
  literal_f = is_literal rows f wf p l

  literal_g : kind_of (rows g).kind ≡ literal literal_f.0
  literal_g = sym (kinds_same rows f g wf wg same) ∙ literal_f.1

  pub added_f : offset (rows f).c ≡ true
  added_f = added_offset rows f wf _ literal_f.1

  pub added_g : offset (rows g).c ≡ true
  added_g = added_offset rows g wg _ literal_g

  tested : met k (tree rows f) (tree rows g) ≡ (eq_z (rows f).a (rows g).a and eq_base (based (base_of (rows f).b)) (based (base_of (rows g).b)) and eq_z (moved k (base_of (rows f).b) (rows f).c) (rows g).c)
  tested = ap₂ (met k) (tree_literal rows f _ literal_f.1) (tree_literal rows g _ literal_g) ∙ literals_tested k _ _ _ _ _ _ _

  pub symbols_differ : (nat (rows f).a ≡ nat (rows g).a → ⊥) → met k (tree rows f) (tree rows g) ≡ false
  symbols_differ h = tested ∙ and_first_false _ _ (eq_z_not (rows f).a (rows g).a (λ e. h (ap nat e)))

  module _ (symbols : nat (rows f).a ≡ nat (rows g).a) where
    -- with one symbol b and c decide
    by_numbers : (x y : Base) (c : ℤ) → based (base_of (rows f).b) ≡ x → based (base_of (rows g).b) ≡ y → moved k (base_of (rows f).b) (rows f).c ≡ c → met k (tree rows f) (tree rows g) ≡ (eq_base x y and eq_z c (rows g).c)
    by_numbers x y c d e h =
        tested
        ∙ and_first_true _ _ (eq_z_of (rows f).a (rows g).a (symbols_same _ _ (symbol_within rows f wf _ literal_f.1) (symbol_within rows g wg _ literal_g) symbols))
        ∙ ap₂ (λ (z : Bool) (w : ℤ). z and eq_z w (rows g).c) (ap₂ eq_base d e) h

    nothing_f : nat (rows f).b ≡ 0 → (based (base_of (rows f).b) ≡ nothing) × (moved k (base_of (rows f).b) (rows f).c ≡ (rows f).c)
    nothing_f = on_nothing (rows f).b k (rows f).c (base_within rows f wf _ literal_f.1)

    nothing_g : nat (rows g).b ≡ 0 → based (base_of (rows g).b) ≡ nothing
    nothing_g e = (on_nothing (rows g).b k (rows g).c (base_within rows g wg _ literal_g) e).0

    pub nothings_met : nat (rows f).b ≡ 0 → nat (rows g).b ≡ 0 → met k (tree rows f) (tree rows g) ≡ eq_z (rows f).c (rows g).c
    unfolding eq_base ◌and◌
    nothings_met d e = by_numbers nothing nothing _ (nothing_f d).0 (nothing_g e) (nothing_f d).1

    pub nothing_other : nat (rows f).b ≡ 0 → (nat (rows g).b ≡ 0 → ⊥) → met k (tree rows f) (tree rows g) ≡ false
    unfolding eq_base ◌and◌
    nothing_other d e = by_numbers nothing parameter _ (nothing_f d).0 (on_other (rows g).b k (rows g).c e).0 (nothing_f d).1

    pub other_nothing : (nat (rows f).b ≡ 0 → ⊥) → nat (rows g).b ≡ 0 → met k (tree rows f) (tree rows g) ≡ false
    unfolding eq_base ◌and◌
    other_nothing d e = let o = on_other (rows f).b k (rows f).c d in by_numbers parameter nothing _ o.0 (nothing_g e) o.1

    pub others_met : (nat (rows f).b ≡ 0 → ⊥) → (nat (rows g).b ≡ 0 → ⊥) → met k (tree rows f) (tree rows g) ≡ eq_z ((rows f).c -ℤ k) (rows g).c
    unfolding eq_base ◌and◌
    others_met d e = let o = on_other (rows f).b k (rows f).c d in by_numbers parameter parameter _ o.0 (on_other (rows g).b k (rows g).c e).0 o.1

-- ---- bodies

-- bodies are alike exactly if they are with literals on n
bodies_same : (f g : Formula) → fixed f ≡ false → fixed g ≡ false → alike f g ≡ met (pos 0) f g
bodies_same f g p q =
    let e = ap (λ (x : Formula). alike x (ground g)) (lower_zero (ground f)) in
    same_test (alike f g) _ (λ t. e ∙ alike_ground f g t) (λ t. bodies_back f g p q (sym e ∙ t))

-- ---- two rows

-- parts that are alike without their rows' shifts meet where the rows' shifts fit
level_met : (k : ℤ) (f g : Formula) (x y : Option ℤ) → (x ≡ none → off f ≡ none) → down k x ≡ y → alike (lower (or_zero x) (ground f)) (lower (or_zero y) (ground g)) ≡ true → met k f g ≡ true
unfolding down or_zero
level_met k f g none none p e h =
    ap₂ alike (none_lower k f (p refl) ∙ sym (none_lower (pos 0) f (p refl))) (sym (lower_zero (ground g))) ∙ h
level_met k f g none (some b) p e h = cc
level_met k f g (some a) none p e h = cc
level_met k f g (some a) (some b) p e h =
    let d : a -ℤ k ≡ b = cc in
    from_zero k f g
    ∙ both_further f g a b (k -ℤ a) k (pos 0)
    (eq_of (atom a ⊕ (atom k ⊖ atom a)) (atom k) (omega arith))
    (eq_of (atom b ⊕ (atom k ⊖ atom a)) (num 0) (omega (arith, of_eq (atom a ⊖ atom k) (atom b) d)))
    h

module _ (rows : ℕ → Row) (forms : List ℕ) (n : ℕ) (ready : Ready rows forms n) (k : ℤ) (f g : ℕ) (lf : f < n) (lg : g < n) where
  abbrev Met : Bool
  Met = met k (tree rows f) (tree rows g)

  pub classes_differ : (class_of rows f ≡ class_of rows g → ⊥) → Met ≡ false
  classes_differ h = ⊎_elim (λ t. absurd (h (class_same rows f g (met_akin k _ _ t)))) (λ t. t) (decide Met)

  pub kinds_differ : (nat (rows f).kind ≡ nat (rows g).kind → ⊥) → Met ≡ false
  kinds_differ h =
      let wf = ready.formed f lf in
      let wg = ready.formed g lg in
      ⊎_elim (λ t. absurd (h (numbers_same rows f g wf wg (akin_kinds rows f g wf wg (met_akin k _ _ t))))) (λ t. t) (decide Met)

  module _ (u v : ℕ) (by : (pos u -ℤ pos v) ≡ k) where
    shift_f : Coded (off (tree rows f)) (shift_code (off (tree rows f)))
    shift_f = has_shift rows n ready.formed f lf

    shift_g : Coded (off (tree rows g)) (shift_code (off (tree rows g)))
    shift_g = has_shift rows n ready.formed g lg

    slid : down (pos u -ℤ pos v) (off (tree rows f)) ≡ down k (off (tree rows f))
    slid = ap (λ (x : ℤ). down x (off (tree rows f))) by

    pub shifts_differ : fitting u v (shift_of rows f) (shift_of rows g) ≡ false → Met ≡ false
    unfolding shift_of
    shifts_differ h =
        ⊎_elim
        (λ t. absurd (false≢true (sym h ∙ shifts_found u v _ _ shift_f shift_g (slid ∙ met_fits k _ _ t))))
        (λ t. t)
        (decide Met)

    -- rows that are akin meet where their shifts fit
    pub known_met : akin (tree rows f) (tree rows g) ≡ true → fitting u v (shift_of rows f) (shift_of rows g) ≡ true → Met ≡ true
    unfolding shift_of
    known_met a h = fits_met k _ _ a (sym slid ∙ found_shifts u v _ _ shift_f shift_g (level_shifts k _ _ a) h)

  -- ---- rows of one kind

  module _ (same : nat (rows f).kind ≡ nat (rows g).kind) where
    kinds : kind_of (rows f).kind ≡ kind_of (rows g).kind
    kinds = kinds_same rows f g (ready.formed f lf) (ready.formed g lg) same

    pub constants_met : nat (rows f).kind < 2 → Met ≡ true
    unfolding lower instance alike
    constants_met l =
        let v = is_constant rows f (ready.formed f lf) l in
        ap₂ (met k) (tree_constant rows f v.0 v.1) (tree_constant rows g v.0 (sym kinds ∙ v.1)) ∙ eq_bool_refl v.0

    module _ (p : 6 ≤ nat (rows f).kind) where
      iteration_f : (o : Op) × (kind_of (rows f).kind ≡ iteration o)
      iteration_f = is_iteration rows f (ready.formed f lf) p

      iteration_g : kind_of (rows g).kind ≡ iteration iteration_f.0
      iteration_g = sym kinds ∙ iteration_f.1

      -- their bodies, which are not lowered, and their ranges
      pub iterations_met : Met ≡ (met (pos 0) (tree rows (nat (rows f).a)) (tree rows (nat (rows g).a)) and eq_z (rows f).b (rows g).b and eq_z ((rows f).c +ℤ k) (rows g).c)
      unfolding lower instance alike
      iterations_met =
          let wf = ready.formed f lf in
          let wg = ready.formed g lg in
          ap₂ (met k) (tree_iteration rows f _ iteration_f.1 wf) (tree_iteration rows g _ iteration_g wg)
          ∙ and_first_true (eq_op iteration_f.0 iteration_f.0) _ (eq_op_refl iteration_f.0)
          ∙ ap (λ (z : Bool). z and eq_z (rows f).b (rows g).b and eq_z ((rows f).c +ℤ k) (rows g).c)
          (bodies_same _ _ (body_fixed rows f wf _ iteration_f.1) (body_fixed rows g wg _ iteration_g))

      pub body_f : nat (rows f).a < f
      body_f = body_less rows f (ready.formed f lf) _ iteration_f.1

      pub body_g : nat (rows g).a < g
      body_g = body_less rows g (ready.formed g lg) _ iteration_g

      pub first_f : offset (rows f).b ≡ true
      first_f = first_offset rows f (ready.formed f lf) _ iteration_f.1

      pub first_g : offset (rows g).b ≡ true
      first_g = first_offset rows g (ready.formed g lg) _ iteration_g

      pub limit_f : offset (rows f).c ≡ true
      limit_f = limit_offset rows f (ready.formed f lf) _ iteration_f.1

      pub limit_g : offset (rows g).c ≡ true
      limit_g = limit_offset rows g (ready.formed g lg) _ iteration_g

    module _ (p : 4 ≤ nat (rows f).kind) (l : nat (rows f).kind < 6) where
      junction_f : (o : Op) × (kind_of (rows f).kind ≡ junction o)
      junction_f = is_junction rows f (ready.formed f lf) p l

      junction_g : kind_of (rows g).kind ≡ junction junction_f.0
      junction_g = sym kinds ∙ junction_f.1

      pub lead_f : lead_of rows f < f
      lead_f = lead_less rows n ready.formed ready.few f lf _ junction_f.1

      pub lead_g : lead_of rows g < g
      lead_g = lead_less rows n ready.formed ready.few g lg _ junction_g

      pub other_f : other_of rows f < f
      other_f = other_less rows n ready.formed ready.few f lf _ junction_f.1

      pub other_g : other_of rows g < g
      other_g = other_less rows n ready.formed ready.few g lg _ junction_g

      abbrev parts : ℕ → ℕ → Bool
      parts x y = met k (tree rows x) (tree rows y)

      -- parts that meet, in either order
      either_met : ((parts (nat (rows f).a) (nat (rows g).a) ≡ true) × (parts (nat (rows f).b) (nat (rows g).b) ≡ true)) ⊎ ((parts (nat (rows f).a) (nat (rows g).b) ≡ true) × (parts (nat (rows f).b) (nat (rows g).a) ≡ true)) → Met ≡ true
      unfolding lower instance
      either_met h =
          ap₂ (met k) (tree_junction rows f _ junction_f.1 (ready.formed f lf)) (tree_junction rows g _ junction_g (ready.formed g lg))
          ∙ joins_alike junction_f.0 _ _ _ _ h

      parts_join : parts (lead_of rows f) (lead_of rows g) ≡ true → parts (other_of rows f) (other_of rows g) ≡ true → Met ≡ true
      parts_join a b =
          let cases-g = lead_cases rows n ready.formed ready.few g lg _ junction_g in
          ⊎_elim
          (λ c. ⊎_elim (λ d. either_met (inl (sym (ap₂ parts c.0 d.0) ∙ a, sym (ap₂ parts c.1 d.1) ∙ b))) (λ d. either_met (inr (sym (ap₂ parts c.0 d.0) ∙ a, sym (ap₂ parts c.1 d.1) ∙ b))) cases-g)
          (λ c. ⊎_elim (λ d. either_met (inr (sym (ap₂ parts c.1 d.1) ∙ b, sym (ap₂ parts c.0 d.0) ∙ a))) (λ d. either_met (inl (sym (ap₂ parts c.1 d.1) ∙ b, sym (ap₂ parts c.0 d.0) ∙ a))) cases-g)
          (lead_cases rows n ready.formed ready.few f lf _ junction_f.1)

      -- the leading part meets the leading part, and the other the other
      pub junctions_met : Met ≡ (parts (lead_of rows f) (lead_of rows g) and parts (other_of rows f) (other_of rows g))
      junctions_met =
          same_test Met _
          (λ t.
          let a = met_akin k _ _ t in
          and_both _ _
          (level_met k _ _ _ _ (λ z. lead_none rows n ready.formed ready.few f lf _ junction_f.1 z) (met_fits k _ _ t) (leads_level rows n ready.formed ready.few f g lf lg _ _ junction_f.1 junction_g a))
          (level_met k _ _ _ _ (λ z. other_none rows n ready.formed ready.few f lf _ junction_f.1 z) (met_fits k _ _ t) (others_level rows n ready.formed ready.few f g lf lg _ _ junction_f.1 junction_g a)))
          (λ t. parts_join (and_left _ _ t) (and_right (parts (lead_of rows f) (lead_of rows g)) _ t))

-- ---- outer rows, and bodies

pub outer_met : (k : ℤ) (f g : Formula) → loose f ≡ false → loose g ≡ false → alike (lower k (ground f)) (ground g) ≡ alike (lower k f) g
outer_met k f g p q = ap₂ (λ (x y : Formula). alike (lower k x) y) (outer_ground f p) (outer_ground g q)

pub body_met : (c : ℤ) (f g : Formula) → fixed f ≡ false → loose g ≡ false → alike (lower c (ground f)) (ground g) ≡ alike (instance c f) g
body_met c f g p q = ap₂ alike (sym (body_ground c f p)) (outer_ground g q)

-- an instance is outer, and so is what is alike to it
pub loose_none : (c : ℤ) (f g : Formula) → loose g ≡ true → alike (instance c f) g ≡ false
loose_none c f g h =
    ⊎_elim
    (λ t. absurd (false≢true (sym (instance_outer c f) ∙ alike_loose (instance c f) g t ∙ h)))
    (λ t. t)
    (decide (alike (instance c f) g))
