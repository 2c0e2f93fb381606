-- Nodes and sets put one after another.
use Prim.Native.Nat.{ℕ, suc, ◌+◌, ◌*◌, ◌≤◌}
use native.Mathlib.Omega.{arith}
use native.Mathlib.Nat.{add-zero}
use native.Mathlib.Numerals.{add-one}
use mathlib.Core.Path.{◌≡◌, sym, ◌∙◌, ap, ap₂}
use mathlib.Core.List.{List, [], ◌∷◌, ◌++◌, append_assoc, append-nil}
use lib.IntN.{ℤ, pos}
use lib.ListN.{length, take, length-append}
use lib.Seq.{sets}
use Rattle.stab.specs.Node.{Node, node_at}
use Rattle.tidied.specs.Tidied.{tidy_set}
use Rattle.folds.proofs.Fronts.{sets_more}
use Rattle.jointnodes.specs.Kept.{set_at, or_node, placed_node, placed_sets, placed_nodes, both_nodes, both_sets, PutsOne, Puts}

-- ---- one node

pub node_put : (out out' : List ℤ) (new : ℕ → ℕ) (w : Node) (d j n k m : ℕ) → out' ≡ sets out (9 * (d + j)) (placed_node new d w n k) → 9 * (d + j) + 9 ≤ length out → k ≡ m → take (9 * (d + j + 1)) out' ≡ take (9 * (d + j)) out ++ placed_node new d w n m
unfolding placed_node
node_put out out' new w d j n k m a h e =
    let g : 9 * (d + j + 1) ≡ 9 * (d + j) + 9 = omega arith in
    ap₂ take g a
    ∙ sets_more out (placed_node new d w n k) (9 * (d + j)) h
    ∙ ap (λ (x : ℕ). take (9 * (d + j)) out ++ placed_node new d w n x) e

pub set_put : (out out' list xs : List ℤ) (n k : ℕ) → out' ≡ sets out n (take k list) → take k list ≡ xs → k ≡ length xs → n + k ≤ length out → take (n + k) out' ≡ take n out ++ xs
set_put out out' list xs n k a b e h =
    let g : n + k ≡ n + length xs = omega arith in
    ap₂ take g (a ∙ ap (sets out n) b) ∙ sets_more out xs n (omega arith)

-- ---- one after another

module _ (nodes members : List ℤ) (new : ℕ → ℕ) (d m : ℕ) (out_nodes₀ out_members₀ : List ℤ) where
  pub puts_none : Puts nodes members new d m 0 m out_nodes₀ out_members₀ out_nodes₀ out_members₀
  unfolding placed_sets placed_nodes
  puts_none = record {
    counted = omega arith;
    rows = λ h. ap (λ (n : ℕ). take (9 * n) out_nodes₀) (add-zero d) ∙ sym (append-nil (take (9 * d) out_nodes₀));
    sets = λ h. sym (append-nil (take m out_members₀));
  }

  module _ (j n r : ℕ) (out_nodes out_members out_nodes₁ out_members₁ : List ℤ) (I : Puts nodes members new d m j n out_nodes₀ out_members₀ out_nodes out_members) (P : PutsOne nodes members new d j n r out_nodes out_members out_nodes₁ out_members₁) where
    abbrev xs : List ℤ
    xs = tidy_set new (set_at nodes members j)

    counted_more : r ≡ m + length (placed_sets nodes members new (suc j))
    unfolding placed_sets
    counted_more = omega (arith, P.counted, I.counted, length-append (placed_sets nodes members new j) xs)

    rows_more : r ≤ 8192 → take (9 * (d + (j + 1))) out_nodes₁ ≡ take (9 * d) out_nodes₀ ++ placed_nodes nodes members new d m (suc j)
    unfolding placed_nodes
    rows_more h =
        let e : d + (j + 1) ≡ d + j + 1 = omega arith in
        ap (λ (k : ℕ). take (9 * k) out_nodes₁) e
        ∙ P.row h
        ∙ ap₂ (λ (l : List ℤ) (k : ℕ). l ++ placed_node new d (node_at nodes j) k (length xs)) (I.rows (omega (arith, P.counted))) I.counted
        ∙ append_assoc (take (9 * d) out_nodes₀) (placed_nodes nodes members new d m j) _

    sets_grow : r ≤ 8192 → take r out_members₁ ≡ take m out_members₀ ++ placed_sets nodes members new (suc j)
    unfolding placed_sets
    sets_grow h =
        P.set h
        ∙ ap (λ (l : List ℤ). l ++ xs) (I.sets (omega (arith, P.counted)))
        ∙ append_assoc (take m out_members₀) (placed_sets nodes members new j) xs

    pub puts_more : Puts nodes members new d m (j + 1) r out_nodes₀ out_members₀ out_nodes₁ out_members₁
    puts_more = record {
      counted = counted_more ∙ ap (λ (k : ℕ). m + length (placed_sets nodes members new k)) (sym (add-one j));
      rows = λ h. rows_more h ∙ ap (λ (k : ℕ). take (9 * d) out_nodes₀ ++ placed_nodes nodes members new d m k) (sym (add-one j));
      sets = λ h. sets_grow h ∙ ap (λ (k : ℕ). take m out_members₀ ++ placed_sets nodes members new k) (sym (add-one j));
    }

-- ---- the nodes of two records

module _ (r : ℕ) (nodes members : List ℤ) (f : ℕ → ℕ) (k : ℕ) (nodes' members' : List ℤ) (g : ℕ → ℕ) (l m n : ℕ) (o₀ p₀ o₁ p₁ o₂ p₂ : List ℤ) (I : Puts nodes members f 1 1 k m o₀ p₀ o₁ p₁) (J : Puts nodes' members' g (1 + k) m l n o₁ p₁ o₂ p₂) where
  pub both_counted : n ≡ length (both_sets r nodes members f k nodes' members' g l)
  unfolding both_sets
  both_counted =
      omega (
        arith,
        I.counted,
        J.counted,
        length-append ((pos r ∷ []) ++ placed_sets nodes members f k) (placed_sets nodes' members' g l),
        length-append (pos r ∷ []) (placed_sets nodes members f k),
      )

  pub both_rows_lem : n ≤ 8192 → take 9 o₀ ≡ or_node r → take (9 * (1 + k + l)) o₂ ≡ both_nodes r nodes members f k nodes' members' g l
  unfolding both_nodes
  both_rows_lem h e =
      J.rows h
      ∙ ap₂ (λ (x : List ℤ) (y : ℕ). x ++ placed_nodes nodes' members' g (1 + k) y l) (I.rows (omega (arith, J.counted)) ∙ ap (λ (x : List ℤ). x ++ placed_nodes nodes members f 1 1 k) e) I.counted

  pub both_sets_lem : n ≤ 8192 → take 1 p₀ ≡ pos r ∷ [] → take n p₂ ≡ both_sets r nodes members f k nodes' members' g l
  unfolding both_sets
  both_sets_lem h e =
      J.sets h
      ∙ ap (λ (x : List ℤ). x ++ placed_sets nodes' members' g l) (I.sets (omega (arith, J.counted)) ∙ ap (λ (x : List ℤ). x ++ placed_sets nodes members f k) e)
