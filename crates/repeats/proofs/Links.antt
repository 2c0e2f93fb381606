-- Going back through the rows of one place, and the tables after one row more.
use Prim.Native.Nat.{ℕ, zero, suc, ◌+◌, ◌-◌, ◌/◌, ◌≤◌, ◌<◌}
use native.Mathlib.Omega.{arith}
use native.Mathlib.Numerals.{add-one}
use mathlib.Core.Path.{◌≡◌, refl, sym, ◌∙◌, ap, subst}
use mathlib.Core.Logic.{⊎_elim}
use mathlib.Core.Bool.{true, false}
use mathlib.Core.List.{List}
use lib.Dec.{eqb}
use lib.ListN.{length, get_or, set}
use lib.Seq.{get_or-set_same, get_or-set_other}
use borrow.Author.Tests.{eqb-true, eqb-false}
use Rattle.stab.specs.Formula.{Row}
use Rattle.stab.specs.Check.{same_row, stands_before}
use Rattle.stab.proofs.Bools.{decide, and_left, and_right, or_right, or_comm, or_first_false}
use Rattle.stab.proofs.Scans.{below_suc}
use Rattle.stab.proofs.Whole.{eq_z_true}
use Rattle.signed.specs.Numbers.{rank_of}
use Rattle.formula.specs.Spread.{spread_of}
use Rattle.formula.proofs.SpreadLaws.{spread_small}
use Rattle.repeats.specs.Places.{place_of, Leads, Linked}

-- ---- places

pub place_small : (w : Row) → place_of w < 1024
unfolding place_of
place_small w = omega (arith, spread_small (rank_of w.kind) (rank_of w.a) (rank_of w.b) (rank_of w.c))

-- equal rows have the same place
same_place : (v w : Row) → same_row v w ≡ true → place_of v ≡ place_of w
unfolding same_row place_of
same_place v w h =
    let t = and_right _ _ h in
    let u = and_right _ _ t in
    let k = eq_z_true v.kind w.kind (and_left _ _ h) in
    let a = eq_z_true v.a w.a (and_left _ _ t) in
    let b = eq_z_true v.b w.b (and_left _ _ u) in
    let c = eq_z_true v.c w.c (and_right _ _ u) in
    λ i. spread_of (rank_of (k i)) (rank_of (a i)) (rank_of (b i)) (rank_of (c i)) / 1048576

-- ---- rows with the columns of w

module _ (rows : ℕ → Row) (w : Row) where
  before_same : (m : ℕ) → same_row (rows m) w ≡ true → stands_before rows (suc m) w ≡ true
  unfolding stands_before
  before_same m h = or_right (stands_before rows m w) _ h

  before_other : (m : ℕ) → same_row (rows m) w ≡ false → stands_before rows (suc m) w ≡ stands_before rows m w
  unfolding stands_before
  before_other m h = or_comm (stands_before rows m w) _ ∙ or_first_false _ _ h

  -- ---- one row more

  leads_here : (m : ℕ) → place_of (rows m) ≡ place_of w → Leads rows w (suc m) (suc m)
  leads_here m e = record { within = omega arith; of_place = λ _. ap (λ (x : ℕ). place_of (rows x)) (omega arith) ∙ e; same = refl }

  leads_other : (m v : ℕ) → (place_of (rows m) ≡ place_of w → ⊥) → Leads rows w m v → Leads rows w (suc m) v
  leads_other m v f l =
      record {
        within = omega (arith, l.within);
        of_place = l.of_place;
        same = ⊎_elim (λ t. absurd (f (same_place (rows m) w t))) (λ t. before_other m t) (decide (same_row (rows m) w)) ∙ l.same;
      }

  -- ---- going back

  pub leads_end : (m v : ℕ) → v ≤ 0 → Leads rows w m v → false ≡ stands_before rows m w
  unfolding stands_before
  leads_end m zero h l = sym l.same
  leads_end m (suc v) h l = absurd (omega arith)

  module _ (m v : ℕ) (more : 0 < v) (l : Leads rows w m v) where
    last : v ≡ suc (v - 1)
    last = omega arith

    is_last : stands_before rows m w ≡ stands_before rows (suc (v - 1)) w
    is_last = l.same ∙ ap (λ (x : ℕ). stands_before rows x w) last

    pub leads_found : same_row (rows (v - 1)) w ≡ true → true ≡ stands_before rows m w
    leads_found h = sym (is_last ∙ before_same (v - 1) h)

    pub leads_on : (u : ℕ) → same_row (rows (v - 1)) w ≡ false → Leads rows w (v - 1) u → Leads rows w m u
    leads_on u h k =
        record {
          within = omega (arith, l.within, k.within);
          of_place = k.of_place;
          same = is_last ∙ before_other (v - 1) h ∙ k.same;
        }

-- ---- the tables

pub linked_none : (rows : ℕ → Row) (next heads : List ℕ) → ((h : ℕ) → h < 1024 → get_or heads h 0 ≡ 0) → Linked rows next heads 0
linked_none rows next heads z =
    record {
      first = λ w.
          subst (Leads rows w 0) (sym (z _ (place_small w)))
          (record { within = omega arith; of_place = λ h. absurd (omega arith); same = refl });
      onward = λ q l w e. absurd (omega arith);
    }

module _ (rows : ℕ → Row) (next heads : List ℕ) (r h : ℕ) (done : Linked rows next heads r) (room : r < length next) (place : h < length heads) (eh : h ≡ place_of (rows r)) where
  abbrev next₁ : List ℕ
  next₁ = set next r (get_or heads h 0)

  abbrev heads₁ : List ℕ
  heads₁ = set heads h (r + 1)

  first_more : (w : Row) → Leads rows w (suc r) (get_or heads₁ (place_of w) 0)
  first_more w =
      ⊎_elim
      (λ t.
      let e = eqb-true (place_of w) h t in
      subst (Leads rows w (suc r)) (sym (ap (λ (x : ℕ). get_or heads₁ x 0) e ∙ get_or-set_same heads h (r + 1) 0 place ∙ add-one r))
      (leads_here rows w r (sym eh ∙ sym e)))
      (λ t.
      let f = eqb-false (place_of w) h t in
      subst (Leads rows w (suc r)) (sym (get_or-set_other heads h (place_of w) (r + 1) 0 f))
      (leads_other rows w r _ (λ e. f (sym e ∙ sym eh)) (done.first w)))
      (decide (eqb (place_of w) h))

  abbrev Onward : ℕ → Type 0
  Onward q = (w : Row) → place_of (rows q) ≡ place_of w → Leads rows w q (get_or next₁ q 0)

  onward_here : Onward r
  onward_here w e =
      subst (Leads rows w r) (ap (λ (x : ℕ). get_or heads x 0) (sym e ∙ sym eh) ∙ sym (get_or-set_same next r (get_or heads h 0) 0 room))
      (done.first w)

  onward_before : (q : ℕ) → q < r → Onward q
  onward_before q l w e =
      subst (Leads rows w q) (sym (get_or-set_other next r q (get_or heads h 0) 0 (omega arith))) (done.onward q l w e)

  linked_suc : Linked rows next₁ heads₁ (suc r)
  linked_suc =
      record {
        first = first_more;
        onward = λ q l. ⊎_elim (λ t. onward_before q t) (λ t. subst Onward (sym t) onward_here) (below_suc q r l);
      }

  pub linked_more : {next₂ heads₂ : List ℕ} → next₂ ≡ next₁ → heads₂ ≡ heads₁ → Linked rows next₂ heads₂ (r + 1)
  linked_more {next₂} {heads₂} x y =
      subst (λ (l : List ℕ). Linked rows l heads₂ (r + 1)) (sym x)
      (subst (λ (l : List ℕ). Linked rows next₁ l (r + 1)) (sym y)
      (subst (Linked rows next₁ heads₁) (sym (add-one r)) linked_suc))
