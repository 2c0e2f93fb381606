-- The table of what is worked out for each node, one node more at a time.
use Prim.Native.Nat.{ℕ, zero, suc, ◌+◌, ◌*◌, ◌<◌, ◌≤◌, ◌^◌}
use native.Mathlib.Omega.{arith}
use mathlib.Core.Path.{◌≡◌, refl, sym, ◌∙◌, ap, ap₂, subst}
use mathlib.Core.Logic.{⊎_elim}
use mathlib.Core.List.{List, [], ◌∷◌, ◌++◌, append_assoc}
use lib.Dec.{eqb}
use lib.IntN.{ℤ, pos}
use lib.ListN.{get_or, length, set, take, drop, length-drop, take-append-drop}
use lib.Seq.{get_or-set_same, get_or-set_other, take-suc, get_or-drop, ext_get_or}
use borrow.Author.Tests.{eqb-true, eqb-false}
use Rattle.stab.specs.Basic.{nat}
use Rattle.stab.specs.Node.{Bound, node_at, child_count_of, rank, child_bound, first_bound, bound_of}
use Rattle.stab.proofs.Bools.{decide}
use Rattle.stab.proofs.Scans.{below_suc}
use Rattle.formula.specs.Kept.{kept}
use Rattle.formula.proofs.KeptLaws.{kept_other, kept_length, kept_first, kept_second, kept_third, kept_fourth}
use Rattle.bounds.specs.Bounds.{Next, work_table, Stays}
use Rattle.branch.specs.Parents.{AllUpFit}
use Rattle.branch.specs.Work.{top_of, Worked, AllWorked}
use Rattle.branch.proofs.ParentLaws.{later_up, parent_less, parent_pos}
use Rattle.bounds.proofs.BoundLaws.{children_le, bound_root, rank_is, rank_first, children_more, children_same, children_none}
use Rattle.stab.proofs.Whole.{nat_of}
use Rattle.stab.proofs.Bounds.{bound_child}

-- ---- the first node

pub work_first : (nodes : List ℤ) (least : ℤ) (work : List ℕ) → nat least ≤ 9999 → 3 < length work → AllUpFit nodes 1 → AllWorked nodes least 1 (kept work 0 0 (nat least) 0 0) 1
unfolding first_bound top_of
work_first nodes least work low room fits j p = subst (Worked nodes least 1 (kept work 0 0 (nat least) 0 0)) (sym e) first
  where
    e : j ≡ 0
    e = omega arith

    first : Worked nodes least 1 (kept work 0 0 (nat least) 0 0) 0
    first =
        record {
          rank = kept_first work 0 0 (nat least) 0 0 room ∙ sym (rank_first nodes 0 refl);
          L = kept_second work 0 0 (nat least) 0 0 room ∙ sym (ap (λ (B : Bound). B.L) (bound_root nodes least));
          H = kept_third work 0 0 (nat least) 0 0 room ∙ sym (ap (λ (B : Bound). top_of B.H) (bound_root nodes least));
          children = kept_fourth work 0 0 (nat least) 0 0 room ∙ sym (children_none nodes 0 fits);
          small = omega (arith, low, ap (λ (B : Bound). B.L) (bound_root nodes least));
        }

-- ---- one node more, a child of u

module _ {nodes : List ℤ} {least : ℤ} {work : List ℕ} {j u : ℕ} (next : Next nodes least work j u) where
  pub parent_before : u < j
  parent_before = omega (arith, next.parent, parent_less nodes j (next.fits j (omega arith)) next.later)

  up_is : (node_at nodes j).up ≡ pos u
  up_is = sym (parent_pos nodes j (next.fits j (omega arith)) next.later) ∙ ap pos (sym next.parent)

  pub l_small : get_or work (4 * u + 1) 0 ≤ 2 ^ 31 + u
  l_small = omega (arith, (next.done u parent_before).L, (next.done u parent_before).small)

  pub rank_small : get_or work (4 * u + 3) 0 ≤ j
  rank_small = omega (arith, (next.done u parent_before).children, children_le nodes j u)

  -- the rank of node j stands at its parent
  pub rank_at : get_or work (4 * u + 3) 0 ≡ rank nodes j
  rank_at = (next.done u parent_before).children ∙ sym (rank_is nodes j u up_is)

  pub bound_at : (r : ℕ) → r ≡ get_or work (4 * u + 3) 0 → bound_of nodes least j ≡ child_bound (node_at nodes u) (bound_of nodes least u) r
  bound_at r e =
      bound_child nodes least j (later_up nodes j (next.fits j (omega arith)) next.later)
      ∙ ap (λ (v : ℕ). child_bound (node_at nodes v) (bound_of nodes least v) (rank nodes j)) (sym next.parent)
      ∙ ap (child_bound (node_at nodes u) (bound_of nodes least u)) (sym (e ∙ rank_at))

  module _ (r l e : ℕ) (r-is : r ≡ get_or work (4 * u + 3) 0) (l-is : (bound_of nodes least j).L ≡ l) (e-is : top_of (bound_of nodes least j).H ≡ e) (l-low : l ≤ 2 ^ 31 + (u + 1)) where
    -- what stands anywhere but at the parent's children
    elsewhere : (x : ℕ) → (x ≡ 4 * u + 3 → ⊥) → get_or (set (kept work j r l e 0) (4 * u + 3) (r + 1)) x 0 ≡ get_or (kept work j r l e 0) x 0
    elsewhere x f = get_or-set_other (kept work j r l e 0) (4 * u + 3) x (r + 1) 0 f

    before : (x : ℕ) → x < 4 * j → (x ≡ 4 * u + 3 → ⊥) → get_or (set (kept work j r l e 0) (4 * u + 3) (r + 1)) x 0 ≡ get_or work x 0
    before x p f = elsewhere x f ∙ kept_other work j r l e 0 x (λ i k q. omega arith)

    children_at : (i : ℕ) → i < j → get_or (set (kept work j r l e 0) (4 * u + 3) (r + 1)) (4 * i + 3) 0 ≡ child_count_of nodes (j + 1) i
    children_at i p =
        ⊎_elim
        (λ q.
        let v = eqb-true i u q in
        ap (λ (x : ℕ). get_or (set (kept work j r l e 0) (4 * u + 3) (r + 1)) x 0) (omega arith)
        ∙ get_or-set_same (kept work j r l e 0) (4 * u + 3) (r + 1) 0 (omega (arith, kept_length work j r l e 0, parent_before))
        ∙ ap (λ (x : ℕ). x + 1) (r-is ∙ (next.done u parent_before).children)
        ∙ sym (children_more nodes j u up_is)
        ∙ ap (child_count_of nodes (j + 1)) (sym v))
        (λ q.
        before (4 * i + 3) (omega arith) (λ w. eqb-false i u q (omega arith))
        ∙ (next.done i p).children
        ∙ sym (children_same nodes j i (λ w. eqb-false i u q (omega (arith, nat_of (node_at nodes j).up i w)))))
        (decide (eqb i u))

    earlier : (i : ℕ) → i < j → Worked nodes least (j + 1) (set (kept work j r l e 0) (4 * u + 3) (r + 1)) i
    earlier i p =
        record {
          rank = before (4 * i) (omega arith) (λ w. omega arith) ∙ (next.done i p).rank;
          L = before (4 * i + 1) (omega arith) (λ w. omega arith) ∙ (next.done i p).L;
          H = before (4 * i + 2) (omega arith) (λ w. omega arith) ∙ (next.done i p).H;
          children = children_at i p;
          small = (next.done i p).small;
        }

    last : Worked nodes least (j + 1) (set (kept work j r l e 0) (4 * u + 3) (r + 1)) j
    last =
        record {
          rank = elsewhere (4 * j) (λ w. omega arith) ∙ kept_first work j r l e 0 next.room ∙ r-is ∙ rank_at;
          L = elsewhere (4 * j + 1) (λ w. omega arith) ∙ kept_second work j r l e 0 next.room ∙ sym l-is;
          H = elsewhere (4 * j + 2) (λ w. omega arith) ∙ kept_third work j r l e 0 next.room ∙ sym e-is;
          children = elsewhere (4 * j + 3) (λ w. omega (arith, parent_before)) ∙ kept_fourth work j r l e 0 next.room ∙ sym (children_none nodes j next.fits);
          small = omega (arith, l-is, l-low, parent_before);
        }

    pub work_stays : Stays (4 * (j + 1)) work (set (kept work j r l e 0) (4 * u + 3) (r + 1))
    work_stays x p = elsewhere x (λ w. omega (arith, parent_before)) ∙ kept_other work j r l e 0 x (λ i k q. omega arith)

    pub work_more : AllWorked nodes least (j + 1) (set (kept work j r l e 0) (4 * u + 3) (r + 1)) (j + 1)
    work_more i p =
        ⊎_elim
        (λ q. earlier i q)
        (λ q. subst (Worked nodes least (j + 1) (set (kept work j r l e 0) (4 * u + 3) (r + 1))) (sym q) last)
        (below_suc i j (omega arith))

-- ---- the whole table

take_one : (t : List ℕ) (m n : ℕ) → n ≡ suc m → m < length t → take n t ≡ take m t ++ get_or t m 0 ∷ []
take_one t m n e h = rw e (take-suc t m 0 h)

take_four : (t : List ℕ) (n : ℕ) → 4 * suc n ≤ length t → take (4 * suc n) t ≡ take (4 * n) t ++ get_or t (4 * n) 0 ∷ get_or t (4 * n + 1) 0 ∷ get_or t (4 * n + 2) 0 ∷ get_or t (4 * n + 3) 0 ∷ []
take_four t n h =
    take_one t (4 * n + 3) (4 * suc n) (omega arith) (omega arith)
    ∙ ap (λ (u : List ℕ). u ++ get_or t (4 * n + 3) 0 ∷ []) (take_one t (4 * n + 2) (4 * n + 3) (omega arith) (omega arith))
    ∙ ap (λ (u : List ℕ). u ++ get_or t (4 * n + 2) 0 ∷ [] ++ get_or t (4 * n + 3) 0 ∷ []) (take_one t (4 * n + 1) (4 * n + 2) (omega arith) (omega arith))
    ∙ ap (λ (u : List ℕ). u ++ get_or t (4 * n + 1) 0 ∷ [] ++ get_or t (4 * n + 2) 0 ∷ [] ++ get_or t (4 * n + 3) 0 ∷ []) (take_one t (4 * n) (4 * n + 1) (omega arith) (omega arith))
    ∙ simp append_assoc

front_worked : (nodes : List ℤ) (least : ℤ) (k : ℕ) (work : List ℕ) (n : ℕ) → 4 * n ≤ length work → ((j : ℕ) → j < n → Worked nodes least k work j) → take (4 * n) work ≡ work_table nodes least k n
unfolding work_table
front_worked nodes least k work zero h w = refl
front_worked nodes least k work (suc n) h w =
    let t = w n (omega arith) in
    take_four work n h
    ∙ (λ i. front_worked nodes least k work n (omega arith) (λ j l. w j (omega arith)) i ++ t.rank i ∷ t.L i ∷ t.H i ∷ t.children i ∷ [])

pub table_worked : (nodes : List ℤ) (least : ℤ) (k : ℕ) (work₀ work : List ℕ) → length work ≡ length work₀ → 4 * k ≤ length work → AllWorked nodes least k work k → Stays (4 * k) work₀ work → work ≡ work_table nodes least k k ++ drop (4 * k) work₀
table_worked nodes least k work₀ work e h w stays =
    sym (take-append-drop (4 * k) work) ∙ ap₂ ◌++◌ (front_worked nodes least k work k h w) rest
  where
    rest : drop (4 * k) work ≡ drop (4 * k) work₀
    rest =
        ext_get_or 0 (drop (4 * k) work) (drop (4 * k) work₀) (omega (arith, length-drop (4 * k) work, length-drop (4 * k) work₀, e))
        (λ i l. get_or-drop (4 * k) work i 0 ∙ stays (4 * k + i) (omega arith) ∙ sym (get_or-drop (4 * k) work₀ i 0))
