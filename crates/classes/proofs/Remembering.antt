-- What is remembered stays true: nothing at first, and one pair more with each that agrees.
use Rattle.std.specs.Prelude.{if◌then◌else◌}
use Prim.Native.Nat.{ℕ, zero, suc, ◌+◌, ◌-◌, ◌<◌}
use native.Mathlib.Omega.{arith}
use mathlib.Core.Path.{◌≡◌, refl, sym, ◌∙◌, ap, subst}
use mathlib.Core.Logic.{⊎_elim}
use mathlib.Core.Bool.{true}
use mathlib.Core.List.{List}
use lib.Dec.{eqb, ltb}
use lib.ListN.{length, get_or, set, replicate}
use lib.Seq.{get_or-set_same, get_or-set_other}
use borrow.Author.Tests.{eqb-true, eqb-false, eq-eqb, ne_eqb}
use Rattle.stab.specs.Formula.{Row, tree}
use Rattle.stab.proofs.Bools.{decide, if_true, if_false}
use Rattle.classes.specs.Class.{akin}
use Rattle.classes.specs.Agreed.{stand_in, united_in, Remembers}
use Rattle.classes.proofs.Least.{akin_refl, akin_sym, akin_trans}

module _ (agreed : List ℕ) (r : ℕ) where
  pub stands_itself : get_or agreed r 0 ≡ 0 → stand_in agreed r ≡ r
  unfolding stand_in
  stands_itself e = if_true _ _ _ (eq-eqb (get_or agreed r 0) 0 e)

  pub stands_other : (p : ℕ) → get_or agreed r 0 ≡ p + 1 → stand_in agreed r ≡ p
  unfolding stand_in
  stands_other p e = if_false _ _ _ (ne_eqb (get_or agreed r 0) 0 (λ z. omega arith)) ∙ (let o : get_or agreed r 0 - 1 ≡ p = omega arith in o)

stands_as_before : (agreed : List ℕ) (r i v : ℕ) → (r ≡ i → ⊥) → stand_in (set agreed i v) r ≡ stand_in agreed r
unfolding stand_in
stands_as_before agreed r i v n = ap (λ (m : ℕ). if eqb m 0 then r else m - 1) (get_or-set_other agreed i r v 0 n)

blank : (n i : ℕ) → get_or {A = ℕ} (replicate n 0) i 0 ≡ 0
blank zero i = refl
blank (suc n) zero = refl
blank (suc n) (suc i) = blank n i

module _ (rows : ℕ → Row) where
  abbrev Akin : ℕ → ℕ → Type 0
  Akin f g = akin (tree rows f) (tree rows g) ≡ true

  -- a table of 0s
  pub nothing_agreed : (n : ℕ) → Remembers rows (replicate n 0)
  nothing_agreed n = record { found = λ r. subst (Akin r) (sym (stands_itself (replicate n 0) r (blank n r))) (akin_refl (tree rows r)) }

  module _ (agreed : List ℕ) (h : Remembers rows agreed) where
    -- rows for which one row stands
    pub known_akin : (f g : ℕ) → stand_in agreed f ≡ stand_in agreed g → Akin f g
    known_akin f g e = akin_trans _ _ _ (h.found f) (subst (λ (m : ℕ). Akin m g) (sym e) (akin_sym _ _ (h.found g)))

    -- row p stands for row i from now on
    one_more : (i p : ℕ) → i < length agreed → Akin i p → Remembers rows (set agreed i (p + 1))
    one_more i p l a =
        record {
          found = λ r.
              ⊎_elim
              (λ t.
              let e = eqb-true r i t in
              subst (λ (m : ℕ). Akin m (stand_in (set agreed i (p + 1)) m)) (sym e)
              (subst (Akin i) (sym (stands_other (set agreed i (p + 1)) i p (get_or-set_same agreed i (p + 1) 0 l))) a))
              (λ t. subst (Akin r) (sym (stands_as_before agreed r i (p + 1) (eqb-false r i t))) (h.found r))
              (decide (eqb r i));
        }

    pub united_agreed : (f g : ℕ) → f < length agreed → g < length agreed → Akin f g → Remembers rows (united_in agreed f g)
    unfolding united_in
    united_agreed f g lf lg a =
        let p = stand_in agreed f in
        let q = stand_in agreed g in
        ⊎_elim
        (λ t. subst (Remembers rows) (sym (if_true (ltb p q) _ _ t)) (one_more g p lg (akin_trans _ _ _ (akin_sym _ _ a) (h.found f))))
        (λ t. subst (Remembers rows) (sym (if_false (ltb p q) _ _ t)) (one_more f q lf (akin_trans _ _ _ a (h.found g))))
        (decide (ltb p q))
