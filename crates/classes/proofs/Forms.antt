-- The numbers of a row, by its kind and by what is kept for smaller rows.
use Rattle.std.specs.Prelude.{if◌then◌else◌}
use Prim.Native.Nat.{ℕ, ◌+◌, ◌*◌, ◌-◌, ◌≤◌, ◌<◌, ◌^◌}
use native.Mathlib.Omega.{arith}
use mathlib.Core.Path.{◌≡◌, refl, sym, ◌∙◌, ap, ap₂}
use mathlib.Core.Logic.{⊎_elim}
use mathlib.Core.Bool.{Bool, true, false}
use mathlib.Core.List.{List}
use mathlib.Core.Option.{Option, none, some}
use lib.Dec.{eqb, leb}
use lib.IntN.{ℤ, pos}
use lib.ListN.{get_or}
use lib.Signed.{le_z}
use borrow.Author.Tests.{eqb-true, eqb-false}
use Rattle.stab.specs.Basic.{eq_z, within, nat}
use Rattle.stab.specs.Formula.{Row, Op, Kind, constant, literal, junction, iteration, unknown, kind_of, Base, nothing, parameter, index, base_of, tree, well_formed}
use Rattle.stab.proofs.Bools.{decide, if_true, if_false, and_left, and_right}
use Rattle.stab.proofs.Whole.{atom, num, of_le, nonneg_minus, plus_nat, nat_pos, eq_z_of, eq_z_not}
use Rattle.stab.proofs.Decoded.{tree_constant, tree_literal}
use Rattle.formula.specs.Facts.{AllFormed}
use Rattle.classes.specs.Class.{off_lit, off, shift_code, shift_of, above, part_code, left_code, right_code, lead_as, lead_of, AllWorked}
use Rattle.classes.specs.Key.{added_of, low_as, low_of, high_as, high_of, form_of, smaller, kept_code, literal_form, in_order, junction_form, iteration_form, kept_form_as, kept_form}
use Rattle.classes.specs.declared.form.Form.{Form}
use Rattle.classes.proofs.ByKind.{known, has_shift, symbol_within, base_within, added_offset, left_less, right_less, body_less, first_offset, off_iteration}
use Rattle.classes.proofs.Least.{class_small}
use Rattle.classes.proofs.Shifts.{Coded, offset_stands}
use Rattle.classes.proofs.Keys.{shift_junction}

pub form_same : {f g : Form} → f.shift ≡ g.shift → f.lead ≡ g.lead → f.low ≡ g.low → f.high ≡ g.high → f ≡ g
form_same p q s t i = record { shift = p i; lead = q i; low = s i; high = t i }

-- ---- what a literal is on

module _ (z : ℤ) (c : ℤ) where
  pub base_nothing : within (pos 0) (pos 2) z ≡ true → nat z ≡ 0 → base_of z ≡ nothing
  unfolding within base_of
  base_nothing h e = if_true _ _ _ (eq_z_of z (pos 0) (sym (nat_pos z (and_left _ _ h)) ∙ ap pos e))

  pub base_other : (nat z ≡ 0 → ⊥) → base_of z ≡ (if eq_z z (pos 1) then parameter else index)
  unfolding base_of nat
  base_other h = if_false _ _ _ (eq_z_not z (pos 0) (λ e. h (ap nat e)))

  off_other : (nat z ≡ 0 → ⊥) → off_lit (base_of z) c ≡ some c
  unfolding off_lit
  off_other h = ap (λ (x : Base). off_lit x c) (base_other h) ∙ go (eq_z z (pos 1))
    where
      go : (t : Bool) → off_lit (if t then parameter else index) c ≡ some c
      go true = refl
      go false = refl

  added_other : (nat z ≡ 0 → ⊥) → added_of (base_of z) c ≡ 0
  unfolding added_of
  added_other h = ap (λ (x : Base). added_of x c) (base_other h) ∙ go (eq_z z (pos 1))
    where
      go : (t : Bool) → added_of (if t then parameter else index) c ≡ 0
      go true = refl
      go false = refl

-- ---- a row's numbers

literal_off : (rows : ℕ → Row) (r : ℕ) (v : Bool) → kind_of (rows r).kind ≡ literal v → off (tree rows r) ≡ off_lit (base_of (rows r).b) (rows r).c
unfolding off
literal_off rows r v e = ap off (tree_literal rows r v e)

module _ (rows : ℕ → Row) (r : ℕ) where
  -- by its kind
  form_as : {f : Form} (k : Kind) → kind_of (rows r).kind ≡ k → f.shift ≡ shift_of rows r → f.lead ≡ lead_as rows r k → f.low ≡ low_as rows r k → f.high ≡ high_as rows r k → f ≡ form_of rows r
  unfolding form_of lead_of low_of high_of
  form_as k e p q s t = form_same p (q ∙ ap (lead_as rows r) (sym e)) (s ∙ ap (low_as rows r) (sym e)) (t ∙ ap (high_as rows r) (sym e))

  module _ (h : well_formed rows r ≡ true) (v : Bool) (e : kind_of (rows r).kind ≡ literal v) where
    on_nothing : eqb (nat (rows r).b) 0 ≡ true → literal_form r (rows r) ≡ form_of rows r
    unfolding literal_form shift_of off_lit added_of shift_code lead_as low_as high_as
    on_nothing t =
        let b = base_nothing (rows r).b (rows r).c (base_within rows r h v e) (eqb-true _ 0 t) in
        if_true _ _ _ t
        ∙ form_as (literal v) e
        (ap (λ (x : Base). shift_code (off_lit x (rows r).c)) (sym b) ∙ ap shift_code (sym (literal_off rows r v e)))
        refl
        refl
        (ap (λ (x : Base). added_of x (rows r).c) (sym b))

    on_other : eqb (nat (rows r).b) 0 ≡ false → literal_form r (rows r) ≡ form_of rows r
    unfolding literal_form shift_of lead_as low_as high_as
    on_other t =
        let z = eqb-false (nat (rows r).b) 0 t in
        if_false _ _ _ t
        ∙ form_as (literal v) e
        (ap shift_code (sym (off_other (rows r).b (rows r).c z) ∙ sym (literal_off rows r v e)))
        refl
        refl
        (sym (added_other (rows r).b (rows r).c z))

    literal_form_lem : literal_form r (rows r) ≡ form_of rows r
    literal_form_lem = ⊎_elim on_nothing on_other (decide (eqb (nat (rows r).b) 0))

here : (rows : ℕ → Row) (r : ℕ) → AllFormed rows (r + 1) → well_formed rows r ≡ true
here rows r formed = formed r (omega arith)

module _ (rows : ℕ → Row) (r : ℕ) (few : r < 1024) (formed : AllFormed rows (r + 1)) (forms : List ℕ) (worked : AllWorked rows forms r) where
  -- the code of a part, by what is kept for it
  known_code : (m a : ℕ) → a < r → kept_code forms m a ≡ part_code rows m a
  unfolding kept_code part_code
  known_code m a l = ap₂ (λ (c p : ℕ). c + 1024 * above m p) (worked a l).class (worked a l).shift

  module _ (o : Op) (e : kind_of (rows r).kind ≡ junction o) where
    left_known : nat (rows r).a < r
    left_known = left_less rows r (here rows r formed) o e

    right_known : nat (rows r).b < r
    right_known = right_less rows r (here rows r formed) o e

    known_shift : smaller (get_or forms (4 * nat (rows r).a + 1) 0) (get_or forms (4 * nat (rows r).b + 1) 0) ≡ shift_of rows r
    known_shift = ap₂ smaller (worked _ left_known).shift (worked _ right_known).shift ∙ sym (shift_junction rows (r + 1) formed (omega arith) r (omega arith) o e)

    -- the parts with their codes, in terms of the row's shift
    abbrev pair : ℕ → ℕ → ℕ → Form
    pair m x y = in_order m (nat (rows r).a) (nat (rows r).b) x y

    ordered_form : pair (shift_of rows r) (left_code rows r) (right_code rows r) ≡ form_of rows r
    unfolding in_order lead_as low_as high_as
    ordered_form =
        ⊎_elim
        (λ t. if_true _ _ _ t ∙ form_as rows r (junction o) e refl (sym (if_true _ _ _ t)) (sym (if_true _ _ _ t)) (sym (if_true _ _ _ t)))
        (λ t. if_false _ _ _ t ∙ form_as rows r (junction o) e refl (sym (if_false _ _ _ t)) (sym (if_false _ _ _ t)) (sym (if_false _ _ _ t)))
        (decide (leb (left_code rows r) (right_code rows r)))

    junction_form_lem : junction_form (rows r) forms ≡ form_of rows r
    unfolding junction_form
    junction_form_lem =
        ap (λ (m : ℕ). pair m (kept_code forms m (nat (rows r).a)) (kept_code forms m (nat (rows r).b))) known_shift
        ∙ ap₂ (pair (shift_of rows r)) (known_code _ _ left_known) (known_code _ _ right_known)
        ∙ ordered_form

  iteration_form_lem : (o : Op) → kind_of (rows r).kind ≡ iteration o → iteration_form r (rows r) forms ≡ form_of rows r
  unfolding iteration_form shift_of lead_as low_as high_as
  iteration_form_lem o e =
      let w = worked _ (body_less rows r (here rows r formed) o e) in
      form_as rows r (iteration o) e (ap shift_code (sym (off_iteration rows r (here rows r formed) o e))) refl (ap₂ (λ (c x : ℕ). c + 1024 * x) w.class w.shift) refl

  kept_as : (k : Kind) → kind_of (rows r).kind ≡ k → kept_form_as r (rows r) forms k ≡ form_of rows r
  unfolding kept_form_as shift_of off shift_code lead_as low_as high_as
  kept_as (constant v) e = form_as rows r (constant v) e (ap (λ (x : _). shift_code (off x)) (sym (tree_constant rows r v e))) refl refl refl
  kept_as (literal v) e = literal_form_lem rows r (here rows r formed) v e
  kept_as (junction o) e = junction_form_lem o e
  kept_as (iteration o) e = iteration_form_lem o e
  kept_as unknown e = absurd (known rows r (here rows r formed) e)

  pub kept_form_lem : kept_form r (rows r) forms ≡ form_of rows r
  kept_form_lem = kept_as (kind_of (rows r).kind) refl

-- ---- the numbers are small

above_small : (m p : ℕ) → p ≤ 32767 → above m p ≤ 32767
unfolding above
above_small m p l = go (eqb p 0)
  where
    go : (t : Bool) → (if t then 32767 else p - m) ≤ 32767
    go true = omega arith
    go false = omega arith

coded_small : (x : Option ℤ) {p : ℕ} → Coded x p → p ≤ 19999
coded_small none h = omega arith
coded_small (some z) h = h.small

module _ (rows : ℕ → Row) (r : ℕ) (few : r < 1024) (formed : AllFormed rows (r + 1)) where
  abbrev Small : ℕ → Type 0
  Small n = n < 2 ^ 32

  shift_few : (a : ℕ) → a < r + 1 → shift_of rows a ≤ 19999
  unfolding shift_of
  shift_few a l = coded_small (off (tree rows a)) (has_shift rows (r + 1) formed a l)

  code_small : (m a : ℕ) → a < r → Small (part_code rows m a)
  unfolding part_code
  code_small m a l = omega (arith, class_small rows a, above_small m (shift_of rows a) (omega (arith, shift_few a (omega arith))))

  -- one of two
  chosen : (t : Bool) (a b : ℕ) → Small a → Small b → Small (if t then a else b)
  chosen true a b p q = p
  chosen false a b p q = q

  base_small : (x : Base) (c : ℤ) → shift_code (some c) ≤ 19999 → Small (added_of x c)
  unfolding added_of
  base_small nothing c l = omega arith
  base_small parameter c l = omega arith
  base_small index c l = omega arith

  symbol_small : (z : ℤ) → within (pos 0) (pos 255) z ≡ true → Small (nat z)
  unfolding within
  symbol_small z h = omega (arith, plus_nat z, nonneg_minus z (and_left _ _ h), of_le (atom z) (num 255) (and_right (le_z (pos 0) z) _ h))

  small_as_lem : (k : Kind) → kind_of (rows r).kind ≡ k → Small (lead_as rows r k) × Small (low_as rows r k) × Small (high_as rows r k)
  unfolding lead_as low_as high_as
  small_as_lem (constant v) e = (omega arith, omega arith, omega arith)
  small_as_lem (literal v) e =
      (omega arith, symbol_small _ (symbol_within rows r (here rows r formed) v e), base_small _ _ (offset_stands _ (added_offset rows r (here rows r formed) v e)).small)
  small_as_lem (junction o) e =
      let a = left_less rows r (here rows r formed) o e in
      let b = right_less rows r (here rows r formed) o e in (
        chosen (leb (left_code rows r) (right_code rows r)) _ _ (omega arith) (omega arith),
        chosen (leb (left_code rows r) (right_code rows r)) _ _ (code_small _ _ a) (code_small _ _ b),
        chosen (leb (left_code rows r) (right_code rows r)) _ _ (code_small _ _ b) (code_small _ _ a),
      )
  small_as_lem (iteration o) e =
      let a = body_less rows r (here rows r formed) o e in (
        omega arith,
        omega (arith, class_small rows (nat (rows r).a), shift_few (nat (rows r).a) (omega arith)),
        omega (arith, (offset_stands (rows r).b (first_offset rows r (here rows r formed) o e)).small),
      )
  small_as_lem unknown e = absurd (known rows r (here rows r formed) e)

  pub form_small : {f : Form} → f ≡ form_of rows r → Small f.shift × Small f.lead × Small f.low × Small f.high
  unfolding form_of lead_of low_of high_of
  form_small e =
      let s = small_as_lem (kind_of (rows r).kind) refl in (
        omega (arith, ap (λ (g : Form). g.shift) e, shift_few r (omega arith)),
        omega (arith, ap (λ (g : Form). g.lead) e, s.0),
        omega (arith, ap (λ (g : Form). g.low) e, s.1),
        omega (arith, ap (λ (g : Form). g.high) e, s.2),
      )
