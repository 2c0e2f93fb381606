-- Numbers stored one after another, and the tables after one node more.
use Prim.Native.Nat.{ℕ, suc, ◌+◌, ◌-◌, ◌*◌, ◌<◌, ◌≤◌}
use native.Mathlib.Omega.{arith}
use native.Mathlib.Nat.{add-zero}
use native.Mathlib.Numerals.{add-one}
use mathlib.Core.Path.{◌≡◌, refl, sym, ◌∙◌, ap, ap₂}
use mathlib.Core.List.{List, [], ◌∷◌, ◌++◌, append-nil}
use lib.IntN.{ℤ, pos}
use lib.ListN.{length, get_or, take, drop, set, length-append, length-drop, drop_of_length-le}
use lib.Seq.{sets, take-suc, take-append-add, take_all, length-take-le}
use borrow.Rule.Slice.PartMut.{put_mid}
use Rattle.stab.specs.Basic.{nat}
use Rattle.stab.specs.Node as N
use Rattle.stab.specs.Node.{node_at, node, set_of}
use Rattle.tidied.specs.Tidied.{tidy_set, tidy_members, tidy_node, tidy_nodes}
use Rattle.folds.proofs.Fronts.{sets_more}
use Rattle.tidy.specs.Kept.{bare, Tidies}

-- ---- numbers stored one after another

sets_snoc : (t : List ℤ) (at : ℕ) (vs : List ℤ) (z : ℤ) → set (sets t at vs) (at + length vs) z ≡ sets t at (vs ++ z ∷ [])
sets_snoc t at [] z = ap (λ (n : ℕ). set t n z) (add-zero at)
sets_snoc t at (v ∷ vs) z =
    ap (λ (n : ℕ). set (sets (set t at v) (suc at) vs) n z) next ∙ sets_snoc (set t at v) (suc at) vs z
  where
    next : at + suc (length vs) ≡ suc at + length vs
    next = omega arith

-- the first k + 1 of them
pub sets_next : (t : List ℤ) (at : ℕ) (vs : List ℤ) (k : ℕ) → k < length vs → (z : ℤ) → z ≡ get_or vs k (pos 0) → set (sets t at (take k vs)) (at + k) z ≡ sets t at (take (k + 1) vs)
sets_next t at vs k h z e =
    ap₂ (λ (n : ℕ) (x : ℤ). set (sets t at (take k vs)) (at + n) x) (sym (length-take-le k vs (omega arith))) e
    ∙ sets_snoc t at (take k vs) (get_or vs k (pos 0))
    ∙ ap (sets t at) (sym (ap (λ (n : ℕ). take n vs) (add-one k) ∙ take-suc vs k (pos 0) h))

pub sets_all : (t : List ℤ) (at : ℕ) (vs : List ℤ) (k : ℕ) → length vs ≤ k → sets t at (take k vs) ≡ sets t at vs
sets_all t at vs k h = ap (sets t at) (take_all k vs h)

-- ---- the end of a table from `at` on, lent and given back

pub lent_back : (at : ℕ) (t ys : List ℤ) → put_mid at (length t - at) t ys ≡ take at t ++ ys
lent_back at t ys =
    ap (λ (r : List ℤ). take at t ++ (ys ++ r)) (drop_of_length-le (drop at t) {i = length t - at} (omega (arith, length-drop at t)))
    ∙ ap (λ (r : List ℤ). take at t ++ r) (append-nil ys)

-- ---- one node more

module _ (nodes members : List ℤ) (new : ℕ → ℕ) (j m : ℕ) (out_nodes out_members : List ℤ) (I : Tidies nodes members new j m out_nodes out_members) (few : m ≤ length out_members) (room : 9 * j + 9 ≤ length out_nodes) where
  -- the set of node j
  abbrev xs : List ℤ
  xs = take (nat (node_at nodes j).size) (drop (nat (node_at nodes j).start) members)

  module _ (n : ℕ) (list : List ℤ) (size : n ≡ length (tidy_set new xs)) (put : take n list ≡ tidy_set new xs) where
    abbrev nine : List ℤ
    nine = tidy_node new (node_at nodes j) m n

    rows_more : take (9 * (j + 1)) (sets out_nodes (9 * j) nine) ≡ tidy_nodes (bare nodes members) new (suc j)
    unfolding tidy_nodes tidy_node node N.set set_of
    rows_more =
        ap (λ (k : ℕ). take k (sets out_nodes (9 * j) nine)) next
        ∙ sets_more out_nodes nine (9 * j) room
        ∙ ap₂ (λ (l : List ℤ) (k : ℕ). l ++ tidy_node new (node_at nodes j) k n) I.rows I.counted
        ∙ ap (λ (k : ℕ). tidy_nodes (bare nodes members) new j ++ tidy_node new (node_at nodes j) (length (tidy_members (bare nodes members) new j)) k) size
      where
        next : 9 * (j + 1) ≡ 9 * j + 9
        next = omega arith

    sets_grow : take (m + n) (take m out_members ++ list) ≡ tidy_members (bare nodes members) new (suc j)
    unfolding tidy_members node N.set set_of
    sets_grow =
        ap (λ (k : ℕ). take (k + n) (take m out_members ++ list)) (sym (length-take-le m out_members few))
        ∙ take-append-add (take m out_members) list n
        ∙ ap₂ (λ (a b : List ℤ). a ++ b) I.sets put

    counted_more : m + n ≡ length (tidy_members (bare nodes members) new (suc j))
    unfolding tidy_members node N.set set_of
    counted_more = omega (arith, length-append (tidy_members (bare nodes members) new j) (tidy_set new xs), I.counted, size)

    pub tidies_more : {out_nodes₁ out_members₁ : List ℤ} → out_nodes₁ ≡ sets out_nodes (9 * j) nine → out_members₁ ≡ take m out_members ++ list → Tidies nodes members new (j + 1) (m + n) out_nodes₁ out_members₁
    tidies_more p q = record {
      counted = counted_more ∙ ap (λ (k : ℕ). length (tidy_members (bare nodes members) new k)) (sym (add-one j));
      rows = ap (take (9 * (j + 1))) p ∙ rows_more ∙ ap (tidy_nodes (bare nodes members) new) (sym (add-one j));
      sets = ap (take (m + n)) q ∙ sets_grow ∙ ap (tidy_members (bare nodes members) new) (sym (add-one j));
    }

pub tidies_none : (nodes members : List ℤ) (new : ℕ → ℕ) (out_nodes out_members : List ℤ) → Tidies nodes members new 0 0 out_nodes out_members
unfolding tidy_members tidy_nodes
tidies_none nodes members new out_nodes out_members = record { counted = refl; rows = refl; sets = refl }
