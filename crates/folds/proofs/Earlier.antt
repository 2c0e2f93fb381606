-- The earliest row with the columns of another, by links; and rows that agree below a number.
use Rattle.std.specs.Prelude.{if◌then◌else◌}
use Prim.Native.Nat.{ℕ, zero, suc, ◌-◌, ◌<◌, ◌≤◌}
use native.Mathlib.Omega.{arith}
use mathlib.Core.Path.{◌≡◌, refl, sym, ◌∙◌, ap, ap₂, subst}
use mathlib.Core.Logic.{⊎_elim}
use mathlib.Core.Bool.{true, false, false≢true}
use mathlib.Core.List.{List}
use mathlib.Core.Option.{Option, none, some, or_else}
use lib.ListN.{get_or}
use Rattle.stab.specs.Basic.{◌or◌, first}
use Rattle.stab.specs.Formula.{Row}
use Rattle.stab.specs.Check.{same_row, stands_before}
use Rattle.stab.proofs.Bools.{decide, or_first_false, or_false_left, or_false_right, if_true, if_false}
use Rattle.stab.proofs.Scans.{below_suc}
use Rattle.stab.proofs.Firsts.{else_none, else_some, search_same}
use Rattle.repeats.specs.Places.{place_of, Leads, Linked}
use Rattle.tidied.specs.Tidied.{earliest}
use Rattle.tidied.proofs.Foldings.{earliest_some}
use Rattle.folds.specs.Folds.{row_or}

-- ---- what is found, or a number

or_this : (o : Option ℕ) (best q : ℕ) → row_or best (or_else o (some q)) ≡ row_or q o
unfolding row_or or_else
or_this none best q = refl
or_this (some x) best q = refl

or_none : (o : Option ℕ) → or_else o none ≡ o
unfolding or_else
or_none none = refl
or_none (some x) = refl

-- ---- the earliest row

module _ (rows : ℕ → Row) (w : Row) where
  earliest_more : (n : ℕ) → earliest rows (suc n) w ≡ or_else (earliest rows n w) (if same_row (rows n) w then some n else none)
  unfolding earliest first
  earliest_more n = refl

  earliest_stays : (n x : ℕ) → earliest rows n w ≡ some x → (m : ℕ) → n ≤ m → earliest rows m w ≡ some x
  earliest_stays n x h zero l = let e : n ≡ zero = omega arith in subst (λ (k : ℕ). earliest rows k w ≡ some x) e h
  earliest_stays n x h (suc m) l =
      ⊎_elim
      (λ p. earliest_more m ∙ else_some _ _ x (earliest_stays n x h m (omega arith)))
      (λ e. subst (λ (k : ℕ). earliest rows k w ≡ some x) e h)
      (below_suc n (suc m) (omega arith))

  stands_none : (n : ℕ) → stands_before rows n w ≡ false → earliest rows n w ≡ none
  unfolding stands_before
  stands_none zero h = unfold earliest first in refl
  stands_none (suc n) h =
      earliest_more n
      ∙ else_none _ _ (stands_none n (or_false_left _ _ h))
      ∙ if_false (same_row (rows n) w) _ _ (or_false_right (stands_before rows n w) _ h)

  stands_some : (n : ℕ) → stands_before rows n w ≡ true → (x : ℕ) × (earliest rows n w ≡ some x)
  unfolding stands_before
  stands_some zero h = absurd (false≢true h)
  stands_some (suc n) h =
      ⊎_elim
      (λ t. let s = stands_some n t in (s.0, earliest_stays n s.0 s.1 (suc n) (omega arith)))
      (λ t. (n, earliest_more n ∙ else_none _ _ (stands_none n t) ∙ if_true (same_row (rows n) w) _ _ (sym (or_first_false _ _ t) ∙ h)))
      (decide (stands_before rows n w))

  -- the links lead to it
  leads_earliest : (m v : ℕ) → Leads rows w m v → earliest rows m w ≡ earliest rows v w
  leads_earliest m v l =
      ⊎_elim
      (λ t. let s = stands_some v t in earliest_stays v s.0 s.1 m l.within ∙ sym s.1)
      (λ t. stands_none m (l.same ∙ t) ∙ sym (stands_none v t))
      (decide (stands_before rows v w))

  -- ---- the row that was found, or n

  found : (n : ℕ) (o : Option ℕ) → earliest rows n w ≡ o → (q : ℕ) → q ≡ row_or n o → q < n → o ≡ some q
  unfolding row_or
  found n none h q e l = absurd (omega arith)
  found n (some x) h q e l = ap some (sym e)

  not_found : (n : ℕ) (o : Option ℕ) → earliest rows n w ≡ o → (q : ℕ) → q ≡ row_or n o → n ≤ q → o ≡ none
  unfolding row_or
  not_found n none h q e l = refl
  not_found n (some x) h q e l = absurd (omega (arith, (earliest_some rows w n x h).0))

  small : (n : ℕ) (o : Option ℕ) → earliest rows n w ≡ o → row_or n o ≤ n
  unfolding row_or
  small n none h = omega arith
  small n (some x) h = omega (arith, (earliest_some rows w n x h).0)

  module _ (n q : ℕ) (e : q ≡ row_or n (earliest rows n w)) where
    pub was_found : q < n → earliest rows n w ≡ some q
    was_found l = found n (earliest rows n w) refl q e l

    pub none_found : n ≤ q → earliest rows n w ≡ none
    none_found l = not_found n (earliest rows n w) refl q e l

    pub found_small : q ≤ n
    found_small = omega (arith, small n (earliest rows n w) refl)

-- ---- going back through the rows of one place

-- `best` is the earliest equal of row r from `rest` on, or r
pub record Walk (rows : ℕ → Row) (r best rest : ℕ) : Type 0 where
  pub within : rest ≤ r
  pub of_place : 0 < rest → place_of (rows (rest - 1)) ≡ place_of (rows r)
  pub finds : row_or r (earliest rows r (rows r)) ≡ row_or best (earliest rows rest (rows r))

module _ (rows : ℕ → Row) (r : ℕ) where
  pub walk_start : (v : ℕ) → Leads rows (rows r) r v → Walk rows r r v
  walk_start v l = record { within = l.within; of_place = l.of_place; finds = ap (row_or r) (leads_earliest rows (rows r) r v l) }

  pub walk_end : (best rest : ℕ) → rest ≤ 0 → Walk rows r best rest → best ≡ row_or r (earliest rows r (rows r))
  unfolding row_or earliest first
  walk_end best zero h k = sym k.finds
  walk_end best (suc n) h k = absurd (omega arith)

  module _ (best rest : ℕ) (more : 0 < rest) (k : Walk rows r best rest) (u : ℕ) (l : Leads rows (rows r) (rest - 1) u) where
    last : rest ≡ suc (rest - 1)
    last = omega arith

    -- with the row that is looked at
    here : earliest rows rest (rows r) ≡ or_else (earliest rows u (rows r)) (if same_row (rows (rest - 1)) (rows r) then some (rest - 1) else none)
    here =
        ap (λ (n : ℕ). earliest rows n (rows r)) last
        ∙ earliest_more rows (rows r) (rest - 1)
        ∙ ap (λ (o : Option ℕ). or_else o (if same_row (rows (rest - 1)) (rows r) then some (rest - 1) else none)) (leads_earliest rows (rows r) (rest - 1) u l)

    pub walk_found : same_row (rows (rest - 1)) (rows r) ≡ true → Walk rows r (rest - 1) u
    walk_found h = record {
      within = omega (arith, l.within, k.within);
      of_place = l.of_place;
      finds = k.finds ∙ ap (row_or best) (here ∙ ap (λ (o : Option ℕ). or_else (earliest rows u (rows r)) o) (if_true (same_row (rows (rest - 1)) (rows r)) _ _ h)) ∙ or_this (earliest rows u (rows r)) best (rest - 1);
    }

    pub walk_on : same_row (rows (rest - 1)) (rows r) ≡ false → Walk rows r best u
    walk_on h = record {
      within = omega (arith, l.within, k.within);
      of_place = l.of_place;
      finds = k.finds ∙ ap (row_or best) (here ∙ ap (λ (o : Option ℕ). or_else (earliest rows u (rows r)) o) (if_false (same_row (rows (rest - 1)) (rows r)) _ _ h) ∙ or_none (earliest rows u (rows r)));
    }

-- ---- rows that agree below n

module _ (rows rows' : ℕ → Row) (n : ℕ) (agree : (q : ℕ) → q < n → rows q ≡ rows' q) where
  pub earliest_agree : (w : Row) → earliest rows n w ≡ earliest rows' n w
  unfolding earliest
  earliest_agree w = search_same _ _ n (λ k l. ap (λ (v : Row). if same_row v w then some k else none) (agree k l))

  stands_agree : (w : Row) (m : ℕ) → m ≤ n → stands_before rows m w ≡ stands_before rows' m w
  unfolding stands_before
  stands_agree w zero l = refl
  stands_agree w (suc m) l = ap₂ ◌or◌ (stands_agree w m (omega arith)) (ap (λ (v : Row). same_row v w) (agree m l))

  leads_agree : (w : Row) (m v : ℕ) → m ≤ n → Leads rows w m v → Leads rows' w m v
  leads_agree w m v h l = record {
    within = l.within;
    of_place = λ p. ap place_of (sym (agree (v - 1) (omega (arith, l.within)))) ∙ l.of_place p;
    same = sym (stands_agree w m h) ∙ l.same ∙ stands_agree w v (omega (arith, l.within));
  }

  pub linked_agree : {next heads : List ℕ} → Linked rows next heads n → Linked rows' next heads n
  linked_agree {next} {heads} c = record {
    first = λ w. leads_agree w n (get_or heads (place_of w) 0) (omega arith) (c.first w);
    onward = λ q l w e. leads_agree w q (get_or next q 0) (omega arith) (c.onward q l w (ap place_of (agree q l) ∙ e));
  }
