-- Two well-formed rows have the same key exactly if they are akin; then leading parts meet, and so do the others.
use Rattle.std.specs.Prelude.{if◌then◌else◌}
use Prim.Native.Nat.{ℕ, ◌+◌, ◌*◌, ◌≤◌, ◌<◌}
use native.Mathlib.Omega.{arith}
use mathlib.Core.Path.{◌≡◌, refl, sym, ◌∙◌, ap, ap₂, subst}
use mathlib.Core.Logic.{◌⊎◌, inl, inr, ⊎_elim}
use mathlib.Core.Bool.{Bool, true, false}
use mathlib.Core.Option.{Option, none, some}
use lib.Dec.{leb}
use lib.IntN.{ℤ, pos}
use borrow.Author.Tests.{eq-eqb, ne_eqb, leb-true, leb-false}
use Rattle.stab.specs.Basic.{◌and◌, within, nat}
use Rattle.stab.specs.Formula.{Row, Op, Kind, constant, literal, junction, iteration, unknown, kind_of, Base, nothing, parameter, index, Formula, const, lit, join, iter, tree, fixed, offset}
use Rattle.stab.specs.Alike.{lower_base, lower, instance, instance_lit, eq_op, alike}
use Rattle.stab.specs.Keeps.{Alike, itself, sides, left, right, inside, next}
use Rattle.stab.proofs.Bools.{decide, if_true, if_false, and_left, and_right, and_both, or_cases, or_left, or_right}
use Rattle.stab.proofs.Whole.{atom, num, ◌⊕◌, ◌⊖◌, less, eq_of, eq_z_true, eq_z_of, nat_pos}
use Rattle.stab.proofs.Decoded.{tree_constant, tree_literal, tree_junction, tree_iteration}
use Rattle.stab.proofs.Alikes.{eq_op_refl, alike_refl, alike_tests, lower_zero}
use Rattle.formula.specs.Facts.{AllFormed}
use Rattle.classes.specs.Class.{ground, off_lit, off, or_zero, level, akin, class_of, shift_code, shift_of, part_code, left_code, right_code, lead_as, lead_of, besides, other_of}
use Rattle.classes.specs.Key.{added_of, low_as, high_as, low_of, high_of, smaller}
use Rattle.classes.proofs.Slides.{down, alike_off, alike_ground, bodies_back, lesser_none, shifts_fit, alike_akin, akin_alike}
use Rattle.classes.proofs.Least.{akin_refl, class_small, class_same, class_akin}
use Rattle.classes.proofs.Shifts.{Part, offset_stands, stands_same, lesser_code, smaller_below, overs_fit, fit_overs, coded_same}
use Rattle.classes.proofs.ByKind.{known, has_shift, akin_kinds, numbers_same, kinds_same, symbol_within, added_offset, left_less, right_less, off_junction, body_less, body_fixed, first_offset}

-- ---- literals

leaf_of : Formula → Option Formula
leaf_of (const v) = none
leaf_of (lit v s x c) = some (lit v s x c)
leaf_of (join o f g) = none
leaf_of (iter o f b c) = none

leaf_kept : {f g : Formula} → Alike f g → leaf_of f ≡ leaf_of g
unfolding leaf_of
leaf_kept itself = refl
leaf_kept sides = refl
leaf_kept (left p) = refl
leaf_kept (right p) = refl
leaf_kept (inside p) = refl
leaf_kept (next p q) = leaf_kept p ∙ leaf_kept q

-- literals are alike only if they are the same
alike_leaves : (f g : Formula) → alike f g ≡ true → leaf_of f ≡ leaf_of g
alike_leaves f g h = leaf_kept ((alike_tests f g).0 h)

module _ (v : Bool) (s t : ℤ) where
  akin_literals : (x y : Base) (c d : ℤ) → akin (lit v s x c) (lit v t y d) ≡ true → (s ≡ t) × (added_of x c ≡ added_of y d)
  unfolding akin level off off_lit or_zero lower lower_base instance instance_lit leaf_of added_of
  akin_literals nothing nothing c d h = let e = alike_leaves _ _ h in (cc, cc)
  akin_literals nothing parameter c d h = let e = alike_leaves _ _ h in (cc, cc)
  akin_literals nothing index c d h = let e = alike_leaves _ _ h in (cc, cc)
  akin_literals parameter nothing c d h = let e = alike_leaves _ _ h in (cc, cc)
  akin_literals parameter parameter c d h = let e = alike_leaves _ _ h in (cc, refl)
  akin_literals parameter index c d h = let e = alike_leaves _ _ h in (cc, refl)
  akin_literals index nothing c d h = let e = alike_leaves _ _ h in (cc, cc)
  akin_literals index parameter c d h = let e = alike_leaves _ _ h in (cc, refl)
  akin_literals index index c d h = let e = alike_leaves _ _ h in (cc, refl)

  -- literals on n or i are alike without their shifts
  on_zero : (c d : ℤ) → s ≡ t → c ≡ d → alike (lit v s parameter c) (lit v t parameter d) ≡ true
  on_zero c d p q = ap (alike (lit v s parameter c)) (let e : lit v t parameter d ≡ lit v s parameter c = cc in e) ∙ alike_refl _

  literals_akin : (x y : Base) (c d : ℤ) → offset c ≡ true → offset d ≡ true → s ≡ t → added_of x c ≡ added_of y d → akin (lit v s x c) (lit v t y d) ≡ true
  unfolding akin level off off_lit or_zero lower lower_base instance instance_lit added_of
  literals_akin nothing nothing c d p q e h =
      let k : c ≡ d = stands_same (offset_stands c p) (offset_stands d q) h in
      ap (alike (lit v s nothing c)) (let w : lit v t nothing d ≡ lit v s nothing c = cc in w) ∙ alike_refl _
  literals_akin nothing parameter c d p q e h = absurd (omega (arith, (offset_stands c p).some_where))
  literals_akin nothing index c d p q e h = absurd (omega (arith, (offset_stands c p).some_where))
  literals_akin parameter nothing c d p q e h = absurd (omega (arith, (offset_stands d q).some_where))
  literals_akin parameter parameter c d p q e h = on_zero _ _ e (eq_of (atom c ⊖ atom c) (atom d ⊖ atom d) (omega arith))
  literals_akin parameter index c d p q e h = on_zero _ _ e (eq_of (atom c ⊖ atom c) ((atom d ⊖ num 0) ⊖ atom d) (omega arith))
  literals_akin index nothing c d p q e h = absurd (omega (arith, (offset_stands d q).some_where))
  literals_akin index parameter c d p q e h = on_zero _ _ e (eq_of ((atom c ⊖ num 0) ⊖ atom c) (atom d ⊖ atom d) (omega arith))
  literals_akin index index c d p q e h = on_zero _ _ e (eq_of ((atom c ⊖ num 0) ⊖ atom c) ((atom d ⊖ num 0) ⊖ atom d) (omega arith))

pub symbols_same : (s t : ℤ) → within (pos 0) (pos 255) s ≡ true → within (pos 0) (pos 255) t ≡ true → nat s ≡ nat t → s ≡ t
unfolding within
symbols_same s t p q e = sym (nat_pos s (and_left _ _ p)) ∙ ap pos e ∙ nat_pos t (and_left _ _ q)

-- ---- two numbers in either order

abbrev first : ℕ → ℕ → ℕ
first a b = if leb a b then a else b

abbrev second : ℕ → ℕ → ℕ
second a b = if leb a b then b else a

module _ (a b : ℕ) where
  in_order : ((first a b ≡ a) × (second a b ≡ b) × (a ≤ b)) ⊎ ((first a b ≡ b) × (second a b ≡ a) × (b < a))
  in_order =
      ⊎_elim
      (λ t. inl (if_true _ _ _ t, if_true _ _ _ t, leb-true a b t))
      (λ t. inr (if_false _ _ _ t, if_false _ _ _ t, leb-false a b t))
      (decide (leb a b))

either_order : (a b c d : ℕ) → first a b ≡ first c d → second a b ≡ second c d → ((a ≡ c) × (b ≡ d)) ⊎ ((a ≡ d) × (b ≡ c))
either_order a b c d p q =
    ⊎_elim
    (λ h. ⊎_elim (λ k. inl (sym h.0 ∙ p ∙ k.0, sym h.1 ∙ q ∙ k.1)) (λ k. inr (sym h.0 ∙ p ∙ k.0, sym h.1 ∙ q ∙ k.1)) (in_order c d))
    (λ h. ⊎_elim (λ k. inr (sym h.1 ∙ q ∙ k.1, sym h.0 ∙ p ∙ k.0)) (λ k. inl (sym h.1 ∙ q ∙ k.1, sym h.0 ∙ p ∙ k.0)) (in_order c d))
    (in_order a b)

either_way : (a b c d : ℕ) → ((a ≡ c) × (b ≡ d)) ⊎ ((a ≡ d) × (b ≡ c)) → (first a b ≡ first c d) × (second a b ≡ second c d)
either_way a b c d =
    ⊎_elim
    (λ e. (ap₂ first e.0 e.1, ap₂ second e.0 e.1))
    (λ e. (ap₂ first e.0 e.1 ∙ (turned d c).0, ap₂ second e.0 e.1 ∙ (turned d c).1))
  where
    turned : (x y : ℕ) → (first x y ≡ first y x) × (second x y ≡ second y x)
    turned x y =
        ⊎_elim
        (λ h. ⊎_elim (λ k. let e : x ≡ y = omega arith in (h.0 ∙ e ∙ sym k.0, h.1 ∙ sym e ∙ sym k.1)) (λ k. (h.0 ∙ sym k.0, h.1 ∙ sym k.1)) (in_order y x))
        (λ h. ⊎_elim (λ k. (h.0 ∙ sym k.0, h.1 ∙ sym k.1)) (λ k. absurd (omega arith)) (in_order y x))
        (in_order x y)

-- a number below 1024 and a multiple are told apart
split : (c d x y : ℕ) → c < 1024 → d < 1024 → c + 1024 * x ≡ d + 1024 * y → (c ≡ d) × (x ≡ y)
split c d x y p q e = (omega arith, omega arith)

-- ---- formulas by their parts

level_join : (f : Formula) (o : Op) (g h : Formula) → f ≡ join o g h → level f ≡ join o (lower (or_zero (off f)) (ground g)) (lower (or_zero (off f)) (ground h))
unfolding level lower instance
level_join f o g h e = ap (λ (x : Formula). lower (or_zero (off f)) (ground x)) e

alike_joins : (o : Op) (f g h k : Formula) → alike (join o f g) (join o h k) ≡ true → ((alike f h ≡ true) × (alike g k ≡ true)) ⊎ ((alike f k ≡ true) × (alike g h ≡ true))
unfolding alike
alike_joins o f g h k e =
    ⊎_elim
    (λ p. inl (and_left _ _ p, and_right (alike f h) _ p))
    (λ p. inr (and_left _ _ p, and_right (alike f k) _ p))
    (or_cases (alike f h and alike g k) _ (and_right (eq_op o o) _ e))

pub joins_alike : (o : Op) (f g h k : Formula) → ((alike f h ≡ true) × (alike g k ≡ true)) ⊎ ((alike f k ≡ true) × (alike g h ≡ true)) → alike (join o f g) (join o h k) ≡ true
unfolding alike
joins_alike o f g h k e =
    and_both _ _ (eq_op_refl o)
    (⊎_elim
    (λ p. or_left _ _ (and_both _ _ p.0 p.1))
    (λ p. or_right (alike f h and alike g k) _ (and_both _ _ p.0 p.1))
    e)

akin_iters : (o : Op) (f h : Formula) (b c d e : ℤ) → akin (iter o f b c) (iter o h d e) ≡ true → (alike f h ≡ true) × (b ≡ d)
unfolding akin level off or_zero lower instance alike
akin_iters o f h b c d e p =
    let q = and_right (eq_op o o) _ p in
    (and_left _ _ q, eq_z_true b d (and_left _ _ (and_right (alike f h) _ q)))

iters_akin : (o : Op) (f h : Formula) (b c d e : ℤ) → alike f h ≡ true → b ≡ d → akin (iter o f b c) (iter o h d e) ≡ true
unfolding akin level off or_zero lower instance alike
iters_akin o f h b c d e p q =
    and_both _ _ (eq_op_refl o)
    (and_both _ _ p (and_both _ _ (eq_z_of b d q) (eq_z_of _ _ (eq_of (atom c ⊕ less (atom c)) (atom e ⊕ less (atom e)) (omega arith)))))

-- bodies are alike exactly if they are akin and have the same shift
bodies_alike : (f g : Formula) → fixed f ≡ false → fixed g ≡ false → akin f g ≡ true → off f ≡ off g → alike f g ≡ true
bodies_alike f g p q h e =
    bodies_back f g p q (ap₂ alike (sym (lower_zero (ground f))) (sym (lower_zero (ground g))) ∙ akin_alike f g (pos 0) (pos 0) h (ap (down (pos 0)) e))

alike_bodies : (f g : Formula) → alike f g ≡ true → akin f g ≡ true
alike_bodies f g h = alike_akin f g (pos 0) (pos 0) (ap₂ alike (lower_zero (ground f)) (lower_zero (ground g)) ∙ alike_ground f g h)

-- ---- rows

module _ (rows : ℕ → Row) (n : ℕ) (formed : AllFormed rows n) (few : n ≤ 1024) where
  class_few : (a : ℕ) → a < n → class_of rows a < 1024
  class_few a l = omega (arith, class_small rows a)

  module _ (r : ℕ) (l : r < n) (o : Op) (e : kind_of (rows r).kind ≡ junction o) where
    left_row : nat (rows r).a < n
    left_row = omega (arith, left_less rows r (formed r l) o e)

    right_row : nat (rows r).b < n
    right_row = omega (arith, right_less rows r (formed r l) o e)

    -- the shift of an and or an or, by its parts'
    pub shift_junction : shift_of rows r ≡ smaller (shift_of rows (nat (rows r).a)) (shift_of rows (nat (rows r).b))
    unfolding shift_of
    shift_junction =
        ap shift_code (off_junction rows r (formed r l) o e)
        ∙ lesser_code _ _ (has_shift rows n formed _ left_row) (has_shift rows n formed _ right_row)

    left_part : Part (off (tree rows r)) (off (tree rows (nat (rows r).a)))
    unfolding shift_of
    left_part =
        record {
          row = has_shift rows n formed r l;
          own = has_shift rows n formed _ left_row;
          under = λ p. subst (λ (m : ℕ). (1 ≤ m) × (m ≤ shift_of rows (nat (rows r).a))) (sym shift_junction) ((smaller_below _ _).0 p);
        }

    right_part : Part (off (tree rows r)) (off (tree rows (nat (rows r).b)))
    unfolding shift_of
    right_part =
        record {
          row = has_shift rows n formed r l;
          own = has_shift rows n formed _ right_row;
          under = λ p. subst (λ (m : ℕ). (1 ≤ m) × (m ≤ shift_of rows (nat (rows r).b))) (sym shift_junction) ((smaller_below _ _).1 p);
        }

  -- parts a and b of rows q and r, without their rows' shifts
  module _ (q r a b : ℕ) (la : a < n) (lb : b < n) (pa : Part (off (tree rows q)) (off (tree rows a))) (pb : Part (off (tree rows r)) (off (tree rows b))) where
    abbrev levelled : Bool
    levelled = alike (lower (or_zero (off (tree rows q))) (ground (tree rows a))) (lower (or_zero (off (tree rows r))) (ground (tree rows b)))

    codes_alike : part_code rows (shift_of rows q) a ≡ part_code rows (shift_of rows r) b → levelled ≡ true
    unfolding part_code shift_of
    codes_alike e =
        let s = split (class_of rows a) (class_of rows b) _ _ (class_few a la) (class_few b lb) e in
        akin_alike _ _ _ _ (class_akin rows a b s.0) (overs_fit _ _ _ _ pa pb s.1)

    alike_codes : levelled ≡ true → part_code rows (shift_of rows q) a ≡ part_code rows (shift_of rows r) b
    unfolding part_code shift_of
    alike_codes h =
        ap₂ (λ (c x : ℕ). c + 1024 * x) (class_same rows a b (alike_akin _ _ _ _ h)) (fit_overs _ _ _ _ pa pb (shifts_fit _ _ _ _ h))

  module _ (q r : ℕ) (lq : q < n) (lr : r < n) where
    module _ (o : Op) (eq : kind_of (rows q).kind ≡ junction o) (er : kind_of (rows r).kind ≡ junction o) where
      levels : akin (tree rows q) (tree rows r) ≡ alike (join o (lower (or_zero (off (tree rows q))) (ground (tree rows (nat (rows q).a)))) (lower (or_zero (off (tree rows q))) (ground (tree rows (nat (rows q).b))))) (join o (lower (or_zero (off (tree rows r))) (ground (tree rows (nat (rows r).a)))) (lower (or_zero (off (tree rows r))) (ground (tree rows (nat (rows r).b)))))
      unfolding akin
      levels =
          ap₂ alike
          (level_join _ o _ _ (tree_junction rows q o eq (formed q lq)))
          (level_join _ o _ _ (tree_junction rows r o er (formed r lr)))

      junctions_akin : first (left_code rows q) (right_code rows q) ≡ first (left_code rows r) (right_code rows r) → second (left_code rows q) (right_code rows q) ≡ second (left_code rows r) (right_code rows r) → akin (tree rows q) (tree rows r) ≡ true
      junctions_akin p s =
          levels
          ∙ joins_alike o _ _ _ _
          (⊎_elim
          (λ e. inl (codes_alike q r _ _ (left_row q lq o eq) (left_row r lr o er) (left_part q lq o eq) (left_part r lr o er) e.0, codes_alike q r _ _ (right_row q lq o eq) (right_row r lr o er) (right_part q lq o eq) (right_part r lr o er) e.1))
          (λ e. inr (codes_alike q r _ _ (left_row q lq o eq) (right_row r lr o er) (left_part q lq o eq) (right_part r lr o er) e.0, codes_alike q r _ _ (right_row q lq o eq) (left_row r lr o er) (right_part q lq o eq) (left_part r lr o er) e.1))
          (either_order (left_code rows q) (right_code rows q) (left_code rows r) (right_code rows r) p s))

      akin_junctions : akin (tree rows q) (tree rows r) ≡ true → (first (left_code rows q) (right_code rows q) ≡ first (left_code rows r) (right_code rows r)) × (second (left_code rows q) (right_code rows q) ≡ second (left_code rows r) (right_code rows r))
      akin_junctions h =
          either_way (left_code rows q) (right_code rows q) (left_code rows r) (right_code rows r)
          (⊎_elim
          (λ e. inl (alike_codes q r _ _ (left_row q lq o eq) (left_row r lr o er) (left_part q lq o eq) (left_part r lr o er) e.0, alike_codes q r _ _ (right_row q lq o eq) (right_row r lr o er) (right_part q lq o eq) (right_part r lr o er) e.1))
          (λ e. inr (alike_codes q r _ _ (left_row q lq o eq) (right_row r lr o er) (left_part q lq o eq) (right_part r lr o er) e.0, alike_codes q r _ _ (right_row q lq o eq) (left_row r lr o er) (right_part q lq o eq) (left_part r lr o er) e.1))
          (alike_joins o _ _ _ _ (sym levels ∙ h)))

    -- ---- the key, kind by kind

    key_akin_as : (k : Kind) → kind_of (rows q).kind ≡ k → kind_of (rows r).kind ≡ k → low_as rows q k ≡ low_as rows r k → high_as rows q k ≡ high_as rows r k → akin (tree rows q) (tree rows r) ≡ true
    unfolding low_as high_as shift_of
    key_akin_as (constant v) eq er p s = ap₂ akin (tree_constant rows q v eq) (tree_constant rows r v er) ∙ akin_refl (const v)
    key_akin_as (literal v) eq er p s =
        ap₂ akin (tree_literal rows q v eq) (tree_literal rows r v er)
        ∙ literals_akin v _ _ _ _ _ _
        (added_offset rows q (formed q lq) v eq)
        (added_offset rows r (formed r lr) v er)
        (symbols_same _ _ (symbol_within rows q (formed q lq) v eq) (symbol_within rows r (formed r lr) v er) p)
        s
    key_akin_as (junction o) eq er p s = junctions_akin o eq er p s
    key_akin_as (iteration o) eq er p s =
        let wq = formed q lq in
        let wr = formed r lr in
        let a : nat (rows q).a < n = omega (arith, body_less rows q wq o eq) in
        let b : nat (rows r).a < n = omega (arith, body_less rows r wr o er) in
        let d = split _ _ _ _ (class_few _ a) (class_few _ b) p in
        ap₂ akin (tree_iteration rows q o eq wq) (tree_iteration rows r o er wr)
        ∙ iters_akin o _ _ _ _ _ _
        (bodies_alike _ _ (body_fixed rows q wq o eq) (body_fixed rows r wr o er) (class_akin rows _ _ d.0) (coded_same _ _ (has_shift rows n formed _ a) (has_shift rows n formed _ b) d.1))
        (stands_same (offset_stands _ (first_offset rows q wq o eq)) (offset_stands _ (first_offset rows r wr o er)) s)
    key_akin_as unknown eq er p s = absurd (known rows q (formed q lq) eq)

    akin_key_as : (k : Kind) → kind_of (rows q).kind ≡ k → kind_of (rows r).kind ≡ k → akin (tree rows q) (tree rows r) ≡ true → (low_as rows q k ≡ low_as rows r k) × (high_as rows q k ≡ high_as rows r k)
    unfolding low_as high_as shift_of
    akin_key_as (constant v) eq er h = (refl, refl)
    akin_key_as (literal v) eq er h =
        let e = akin_literals v _ _ _ _ _ _ (sym (ap₂ akin (tree_literal rows q v eq) (tree_literal rows r v er)) ∙ h) in
        (ap nat e.0, e.1)
    akin_key_as (junction o) eq er h = akin_junctions o eq er h
    akin_key_as (iteration o) eq er h =
        let e = akin_iters o _ _ _ _ _ _ (sym (ap₂ akin (tree_iteration rows q o eq (formed q lq)) (tree_iteration rows r o er (formed r lr))) ∙ h) in (
          ap₂ (λ (c x : ℕ). c + 1024 * x) (class_same rows _ _ (alike_bodies _ _ e.0)) (ap shift_code (alike_off _ _ e.0)),
          ap (λ (z : ℤ). shift_code (some z)) e.1,
        )
    akin_key_as unknown eq er h = absurd (known rows q (formed q lq) eq)

    -- the law
    pub key_akin : nat (rows q).kind ≡ nat (rows r).kind → low_of rows q ≡ low_of rows r → high_of rows q ≡ high_of rows r → akin (tree rows q) (tree rows r) ≡ true
    unfolding low_of high_of
    key_akin k p s =
        let e = kinds_same rows q r (formed q lq) (formed r lr) k in
        key_akin_as (kind_of (rows r).kind) e refl
        (sym (ap (low_as rows q) e) ∙ p)
        (sym (ap (high_as rows q) e) ∙ s)

    pub akin_key : akin (tree rows q) (tree rows r) ≡ true → (nat (rows q).kind ≡ nat (rows r).kind) × (low_of rows q ≡ low_of rows r) × (high_of rows q ≡ high_of rows r)
    unfolding low_of high_of
    akin_key h =
        let wq = formed q lq in
        let wr = formed r lr in
        let e = akin_kinds rows q r wq wr h in
        let k = akin_key_as (kind_of (rows r).kind) e refl h in
        (numbers_same rows q r wq wr e, ap (low_as rows q) e ∙ k.0, ap (high_as rows q) e ∙ k.1)

  -- ---- the leading part and the other

  module _ (r : ℕ) (l : r < n) (o : Op) (e : kind_of (rows r).kind ≡ junction o) where
    abbrev L : ℕ
    L = left_code rows r

    abbrev R : ℕ
    R = right_code rows r

    -- the leading part is p and the other q, with the codes x and y
    abbrev Leading : ℕ → ℕ → ℕ → ℕ → Type 0
    Leading p q x y = (lead_of rows r ≡ p) × (other_of rows r ≡ q) × (low_of rows r ≡ x) × (high_of rows r ≡ y)

    left_leads : lead_of rows r ≡ nat (rows r).a → other_of rows r ≡ nat (rows r).b
    unfolding besides
    left_leads h = if_true _ _ _ (eq-eqb (lead_of rows r) (nat (rows r).a) h)

    right_leads : lead_of rows r ≡ nat (rows r).b → R < L → other_of rows r ≡ nat (rows r).a
    unfolding besides
    right_leads h k =
        if_false _ _ _
        (ne_eqb (lead_of rows r) (nat (rows r).a)
        (λ d. omega (arith, ap (part_code rows (shift_of rows r)) (sym h ∙ d))))

    -- it is the part with the first code
    pub lead_cases : Leading (nat (rows r).a) (nat (rows r).b) L R ⊎ Leading (nat (rows r).b) (nat (rows r).a) R L
    unfolding lead_of lead_as low_of low_as high_of high_as
    lead_cases =
        ⊎_elim
        (λ t. let h = ap (lead_as rows r) e ∙ if_true _ _ _ t in inl (h, left_leads h, ap (low_as rows r) e ∙ if_true _ _ _ t, ap (high_as rows r) e ∙ if_true _ _ _ t))
        (λ t. let h = ap (lead_as rows r) e ∙ if_false _ _ _ t in inr (h, right_leads h (leb-false L R t), ap (low_as rows r) e ∙ if_false _ _ _ t, ap (high_as rows r) e ∙ if_false _ _ _ t))
        (decide (leb L R))

    pub lead_less : lead_of rows r < r
    lead_less =
        ⊎_elim
        (λ c. omega (arith, c.0, left_less rows r (formed r l) o e))
        (λ c. omega (arith, c.0, right_less rows r (formed r l) o e))
        lead_cases

    pub other_less : other_of rows r < r
    other_less =
        ⊎_elim
        (λ c. omega (arith, c.1, right_less rows r (formed r l) o e))
        (λ c. omega (arith, c.1, left_less rows r (formed r l) o e))
        lead_cases

    -- the key holds both codes
    lead_code : low_of rows r ≡ part_code rows (shift_of rows r) (lead_of rows r)
    lead_code =
        ⊎_elim
        (λ c. c.2 ∙ ap (part_code rows (shift_of rows r)) (sym c.0))
        (λ c. c.2 ∙ ap (part_code rows (shift_of rows r)) (sym c.0))
        lead_cases

    other_code : high_of rows r ≡ part_code rows (shift_of rows r) (other_of rows r)
    other_code =
        ⊎_elim
        (λ c. c.3 ∙ ap (part_code rows (shift_of rows r)) (sym c.1))
        (λ c. c.3 ∙ ap (part_code rows (shift_of rows r)) (sym c.1))
        lead_cases

    -- a part of a row without a shift has none
    parts_none : off (tree rows r) ≡ none → (off (tree rows (nat (rows r).a)) ≡ none) × (off (tree rows (nat (rows r).b)) ≡ none)
    parts_none h = lesser_none _ _ (sym (off_junction rows r (formed r l) o e) ∙ h)

    abbrev off_at : ℕ → Option ℤ
    off_at m = off (tree rows m)

    pub lead_none : off (tree rows r) ≡ none → off (tree rows (lead_of rows r)) ≡ none
    lead_none h = ⊎_elim (λ c. ap off_at c.0 ∙ (parts_none h).0) (λ c. ap off_at c.0 ∙ (parts_none h).1) lead_cases

    pub other_none : off (tree rows r) ≡ none → off (tree rows (other_of rows r)) ≡ none
    other_none h = ⊎_elim (λ c. ap off_at c.1 ∙ (parts_none h).1) (λ c. ap off_at c.1 ∙ (parts_none h).0) lead_cases

    abbrev PartOf : ℕ → Type 0
    PartOf m = Part (off (tree rows r)) (off (tree rows m))

    lead_part : PartOf (lead_of rows r)
    lead_part = ⊎_elim (λ c. subst PartOf (sym c.0) (left_part r l o e)) (λ c. subst PartOf (sym c.0) (right_part r l o e)) lead_cases

    other_part : PartOf (other_of rows r)
    other_part = ⊎_elim (λ c. subst PartOf (sym c.1) (right_part r l o e)) (λ c. subst PartOf (sym c.1) (left_part r l o e)) lead_cases

  -- of akin rows the leading parts are alike without the rows' shifts, and so are the others
  module _ (q r : ℕ) (lq : q < n) (lr : r < n) (o p : Op) (eq : kind_of (rows q).kind ≡ junction o) (er : kind_of (rows r).kind ≡ junction p) (h : akin (tree rows q) (tree rows r) ≡ true) where
    pub leads_level : alike (lower (or_zero (off (tree rows q))) (ground (tree rows (lead_of rows q)))) (lower (or_zero (off (tree rows r))) (ground (tree rows (lead_of rows r)))) ≡ true
    leads_level =
        codes_alike q r _ _ (omega (arith, lead_less q lq o eq)) (omega (arith, lead_less r lr p er)) (lead_part q lq o eq) (lead_part r lr p er)
        (sym (lead_code q lq o eq) ∙ (akin_key q r lq lr h).1 ∙ lead_code r lr p er)

    pub others_level : alike (lower (or_zero (off (tree rows q))) (ground (tree rows (other_of rows q)))) (lower (or_zero (off (tree rows r))) (ground (tree rows (other_of rows r)))) ≡ true
    others_level =
        codes_alike q r _ _ (omega (arith, other_less q lq o eq)) (omega (arith, other_less r lr p er)) (other_part q lq o eq) (other_part r lr p er)
        (sym (other_code q lq o eq) ∙ (akin_key q r lq lr h).2 ∙ other_code r lr p er)
