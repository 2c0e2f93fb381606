-- Wires as the pairs of a model, and the wires among a model's pairs.
use Rattle.std.specs.Prelude.{if◌then◌else◌}
use Prim.Native.Nat.{ℕ, zero, suc, ◌+◌, ◌*◌, ◌<◌, ◌≤◌}
use native.Mathlib.Omega.{arith}
use mathlib.Core.Path.{◌≡◌, refl, sym, ◌∙◌, ap, subst, subst₂}
use mathlib.Core.Logic.Iff
use mathlib.Core.Logic.{◌↔◌, ◌⊎◌, inl, inr, ⊎_elim}
use mathlib.Core.Bool.{Bool, true, false, false≢true}
use mathlib.Core.List.Memᴰ
use mathlib.Core.List.{List, [], ◌∷◌, Memᴰ}
use lib.IntN.{ℤ, pos, neg_ℤ}
use lib.ListN.{length, get_or}
use Rattle.stab.specs.Model.{pair_symbol, pair_index, is_pair, listed}
use Rattle.stab.specs.Keeps.{Within, KeepsPair}
use Rattle.stab.specs.Occurs.{Wire, insert, Before, Ascends, table}
use Rattle.stab.proofs.Scans.{below_suc}
use Rattle.stab.proofs.Tests.{◌tests◌, ◌&◌, or_tests, eq_z_tests}
use Rattle.stab.proofs.Wires.Lists.{same_wire, mem_insert, insert_ascends, insert_length}

-- pair k of a table
abbrev pub pair_at : List ℤ → ℕ → Wire
pair_at t k = record { symbol = pair_symbol t k; index = pair_index t k }

-- w is one of the first k pairs
abbrev pub Stands : List ℤ → ℕ → Wire → Type 0
Stands t k w = (j : ℕ) × (j < k) × (pair_at t j ≡ w)

stands_more : (t : List ℤ) (k : ℕ) (w : Wire) → ((pair_at t k ≡ w) ⊎ Stands t k w) ↔ Stands t (suc k) w
stands_more t k w = (
  ⊎_elim (λ e. (k, omega arith, e)) (λ p. (p.0, omega (arith, p.1), p.2)),
  λ p. ⊎_elim (λ l. inr (p.0, l, p.2)) (λ e. inl (ap (pair_at t) (sym e) ∙ p.2)) (below_suc p.0 k p.1),
)

pub listed_tests : (t : List ℤ) (k : ℕ) (w : Wire) → listed t k w.symbol w.index tests Stands t k w
unfolding listed is_pair
listed_tests t zero w = (λ h. absurd (false≢true h), λ p. absurd (omega (arith, p.1)))
listed_tests t (suc k) w =
    Iff.trans
    (or_tests
    (Iff.trans
    (eq_z_tests (pair_symbol t k) w.symbol & eq_z_tests (pair_index t k) w.index)
    (λ p. same_wire p.0 p.1, λ e. (ap (λ (x : Wire). x.symbol) e, ap (λ (x : Wire). x.index) e)))
    (listed_tests t k w))
    (stands_more t k w)

-- ---- wires as a table

pub table_length : (ws : List Wire) → length (table ws) ≡ 2 * length ws
unfolding table
table_length [] = refl
table_length (w ∷ ws) = omega (arith, table_length ws)

table_first : (w : Wire) (ws : List Wire) → pair_at (table (w ∷ ws)) 0 ≡ w
unfolding table pair_symbol pair_index
table_first w ws = refl

table_next : (w : Wire) (ws : List Wire) (k : ℕ) → pair_at (table (w ∷ ws)) (suc k) ≡ pair_at (table ws) k
unfolding table pair_symbol pair_index
table_next w ws k =
    let p : 2 * suc k ≡ suc (suc (2 * k)) = omega arith in
    let q : 2 * suc k + 1 ≡ suc (suc (2 * k + 1)) = omega arith in
    same_wire
    (ap (λ (m : ℕ). get_or (w.symbol ∷ w.index ∷ table ws) m (pos 0)) p)
    (ap (λ (m : ℕ). get_or (w.symbol ∷ w.index ∷ table ws) m (pos 0)) q)

pub table_at : (ws : List Wire) (k : ℕ) → k < length ws → Memᴰ (pair_at (table ws) k) ws
table_at [] k l = absurd (omega arith)
table_at (w ∷ ws) zero l = Memᴰ.head (table_first w ws)
table_at (w ∷ ws) (suc k) l = Memᴰ.tail (Memᴰ.cast (table_next w ws k) (table_at ws k (omega arith)))

pub table_of : (ws : List Wire) (w : Wire) → Memᴰ w ws → Stands (table ws) (length ws) w
table_of [] w m = absurd (Memᴰ.not-nil m)
table_of (x ∷ ws) w m =
    ⊎_elim
    (λ e. (0, omega arith, table_first x ws ∙ sym e))
    (λ t. let p = table_of ws w t in (suc p.0, omega (arith, p.1), table_next x ws p.0 ∙ p.2))
    (Memᴰ.cases_cons m)

-- what the table lists is what stands in the list
pub table_tests : (ws : List Wire) (w : Wire) → listed (table ws) (length ws) w.symbol w.index tests Memᴰ w ws
table_tests ws w =
    Iff.trans (listed_tests (table ws) (length ws) w)
    (λ p. Memᴰ.cast (sym p.2) (table_at ws p.0 p.1), table_of ws w)

table_follows : (ws : List Wire) → Ascends ws → (i : ℕ) → suc i < length ws → Before (pair_at (table ws) i) (pair_at (table ws) (suc i))
table_follows [] a i l = absurd (omega arith)
table_follows (w ∷ ws) a zero l =
    subst₂ Before (sym (table_first w ws)) (sym (table_next w ws 0)) (a.0 _ (table_at ws 0 (omega arith)))
table_follows (w ∷ ws) a (suc i) l =
    subst₂ Before (sym (table_next w ws i)) (sym (table_next w ws (suc i))) (table_follows ws a.1 i (omega arith))

-- wires that ascend within a model's range are the pairs of a model
pub table_keeps : (ws : List Wire) → Ascends ws → ((w : Wire) → Memᴰ w ws → Within (pos 0) (pos 255) w.symbol × Within (neg_ℤ (pos 29997)) (pos 29997) w.index) → (k : ℕ) → k < length ws → KeepsPair (table ws) k
table_keeps ws a within k l =
    let w = within _ (table_at ws k l) in record {
      symbol = w.0;
      index = w.1;
      follows = λ i e. subst (λ (m : ℕ). Before (pair_at (table ws) i) (pair_at (table ws) m)) (sym e) (table_follows ws a i (omega arith));
    }

-- ---- the wires among a table's pairs

-- those of the first k pairs that pass
pub kept : (Wire → Bool) → List ℤ → ℕ → List Wire
kept p t zero = []
kept p t (suc k) = if p (pair_at t k) then insert (pair_at t k) (kept p t k) else kept p t k

pub mem_kept : (p : Wire → Bool) (t : List ℤ) (k : ℕ) (w : Wire) → Memᴰ w (kept p t k) ↔ (Stands t k w × (p w ≡ true))
unfolding kept
mem_kept p t zero w = (λ m. absurd (Memᴰ.not-nil m), λ s. absurd (omega (arith, s.0.1)))
mem_kept p t (suc k) w = go (p (pair_at t k)) refl (mem_kept p t k w)
  where
    go : (v : Bool) → p (pair_at t k) ≡ v → Memᴰ w (kept p t k) ↔ (Stands t k w × (p w ≡ true))
        → Memᴰ w (if v then insert (pair_at t k) (kept p t k) else kept p t k) ↔ (Stands t (suc k) w × (p w ≡ true))
    go true e ih = (
      λ m. ⊎_elim
          (λ q. ((stands_more t k w).0 (inl (sym q)), ap p q ∙ e))
          (λ u. let s = ih.0 u in ((stands_more t k w).0 (inr s.0), s.1))
          ((mem_insert (pair_at t k) (kept p t k) w).0 m),
      λ s. (mem_insert (pair_at t k) (kept p t k) w).1
          (⊎_elim (λ q. inl (sym q)) (λ u. inr (ih.1 (u, s.1))) ((stands_more t k w).1 s.0)),
    )
    go false e ih = (
      λ m. let s = ih.0 m in ((stands_more t k w).0 (inr s.0), s.1),
      λ s. ⊎_elim
          (λ q. absurd (false≢true (sym e ∙ ap p q ∙ s.1)))
          (λ u. ih.1 (u, s.1))
          ((stands_more t k w).1 s.0),
    )

pub kept_ascends : (p : Wire → Bool) (t : List ℤ) (k : ℕ) → Ascends (kept p t k)
unfolding kept
kept_ascends p t zero = tt
kept_ascends p t (suc k) = go (p (pair_at t k)) (kept_ascends p t k)
  where
    go : (v : Bool) → Ascends (kept p t k) → Ascends (if v then insert (pair_at t k) (kept p t k) else kept p t k)
    go true a = insert_ascends _ _ a
    go false a = a

pub kept_length : (p : Wire → Bool) (t : List ℤ) (k : ℕ) → length (kept p t k) ≤ k
unfolding kept
kept_length p t zero = omega arith
kept_length p t (suc k) = go (p (pair_at t k)) (kept_length p t k)
  where
    go : (v : Bool) → length (kept p t k) ≤ k → length (if v then insert (pair_at t k) (kept p t k) else kept p t k) ≤ suc k
    go true h = omega (arith, insert_length (pair_at t k) (kept p t k))
    go false h = omega arith
