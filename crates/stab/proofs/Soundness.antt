-- Demand 3, on the definitions.
use Prim.Native.Nat.{ℕ, zero, suc, ◌+◌, ◌<◌}
use native.Mathlib.Omega.{arith}
use mathlib.Core.Path.{◌≡◌, refl, sym, ◌∙◌, ap, ap₂, subst}
use mathlib.Core.Logic.{⊎_elim}
use mathlib.Core.Bool.{true, false, true≢false}
use mathlib.Core.List.{List}
use lib.Dec.{ltb}
use lib.IntN.{ℤ, pos}
use lib.Signed.{le_z, ◌≤ℤ◌}
use borrow.Author.Tests.{lt-ltb}
use Rattle.stab.specs.Basic.{◌and◌, nat, below}
use Rattle.stab.specs.Formula.{row_at, formula_rows, tree}
use Rattle.stab.specs.Meaning.{Assignment, truth}
use Rattle.stab.specs.Node.{Tableau, Bound, schema_of, rows, formula, node, bound, first_bound, AtMost, Satisfies}
use Rattle.stab.specs.Check.{check, check_older}
use Rattle.stab.specs.Model.{Model, assignment, satisfied, check_model}
use Rattle.stab.specs.Keeps.{KeepsOlder}
use Rattle.stab.specs.Refuted.{Refuted, SameSchema, Irrefutable}
use Rattle.stab.specs.Finding.{accept}
use Rattle.stab.proofs.Bools.{decide, if_true}
use Rattle.stab.proofs.Whole.{atom, num, of_le, le_of, le_z_of, of_le_z, nat_pos, nonneg_minus, plus_nat}
use Rattle.stab.proofs.Trees.{tree_agrees, below_nat}
use Rattle.stab.proofs.Bounds.{bound_first}
use Rattle.stab.proofs.Tests.{below_tests}
use Rattle.stab.proofs.Exactness.{accepts_exactly, older_accepts_exactly, model_accepts_exactly, model_counts_zero}
use Steps.{Holds, refuted, mem_one}
mod Steps

-- ---- every node is refuted at every n that satisfies its bound: by induction on n, and for one n on the nodes that come after

module _ (T : Tableau) (K : KeepsOlder T) (σ : Assignment) where
  abbrev Refutes : ℕ → ℕ → Type 0
  Refutes m i = i < T.node_rows → Satisfies (bound T i) m → Holds T K σ m i → ⊥

  at_one_n : (m : ℕ) → ((l i : ℕ) → l < m → Refutes l i) → (k i : ℕ) → T.node_rows < i + k → Refutes m i
  at_one_n m smaller zero i far p s h = absurd (omega arith)
  at_one_n m smaller (suc k) i far p s h =
      refuted T K σ m i p (λ j q l t g. at_one_n m smaller k j (omega arith) q t g) h s (λ l j a b t g. smaller l j a b t g)

  below_n : (n m i : ℕ) → m < n → Refutes m i
  below_n zero m i l p s h = absurd (omega arith)
  below_n (suc n) m i l p s h =
      at_one_n m (λ a j b. below_n n a j (omega arith)) (suc T.node_rows) i (omega arith) p s h

  -- the root is true at no n from the least value up
  root_false : (n : ℕ) → T.least ≤ℤ pos n → truth σ n (formula T T.root) ≡ true → ⊥
  unfolding Satisfies AtMost first_bound bound node below ◌and◌
  root_false n h t =
      let k = K.nodes 0 K.has_node in
      let first : bound T 0 ≡ first_bound T.least =
      bound_first T.nodes T.least 0 (ap (below 0) k.parent.0) in
      below_n (suc n) n 0 (omega arith) K.has_node
      (subst (λ (B : Bound). Satisfies B n) (sym first)
      (omega (arith, of_le (atom T.least) (num n) (le_z_of h), nonneg_minus T.least (le_z_of K.formulas.least_range.0), plus_nat T.least), tt))
      (λ z m. ap (λ (x : ℤ). truth σ n (formula T x)) (mem_one (subst (λ (l : List ℤ). mathlib.Core.List.Memᴰ z l) k.parent.1 m)) ∙ t)

-- the root's formula is made of schema rows
schema_tree : (T : Tableau) (schema : List ℤ) → ((r : ℕ) → r < T.schema_rows → row_at T.schema r ≡ row_at schema r) → nat T.root < T.schema_rows → tree (rows T) (nat T.root) ≡ tree (row_at schema) (nat T.root)
unfolding rows formula_rows
schema_tree T schema same p =
    tree_agrees (rows T) (row_at schema) (nat T.root)
    (λ a l. if_true (ltb a T.schema_rows) _ _ (lt-ltb a T.schema_rows (omega arith)) ∙ same a (omega arith))

root_below : (T : Tableau) → KeepsOlder T → nat T.root < T.schema_rows
root_below T K = below_nat T.schema_rows T.root ((below_tests T.schema_rows T.root).1 K.formulas.root_row)

-- ---- the theorems

refuted_by : (T : Tableau) → KeepsOlder T → Refuted (schema_of T)
unfolding formula
refuted_by T K n σ h =
    let e = schema_tree T T.schema (λ r l. refl) (root_below T K) in
    ⊎_elim
    (λ t. absurd (root_false T K σ n h (ap (truth σ n) e ∙ t)))
    (λ f. f)
    (decide (truth σ n (tree (row_at T.schema) (nat T.root))))

-- If the check accepts, the schema is false at every natural n from its least value up, under every assignment.
pub sound : (T : Tableau) (nodes links : ℕ) → check T ≡ accept nodes links → Refuted (schema_of T)
sound T nodes links a = refuted_by T ((accepts_exactly T nodes links).0 a).0.older

-- So it is if the older check accepts.
pub sound_older : (T : Tableau) (nodes links : ℕ) → check_older T ≡ accept nodes links → Refuted (schema_of T)
sound_older T nodes links a = refuted_by T ((older_accepts_exactly T nodes links).0 a).0

no_model_of : (M : Model) (n l : ℕ) → check_model M ≡ accept n l → (T : Tableau) → SameSchema T M.schema → KeepsOlder T → ⊥
unfolding satisfied
no_model_of M n l b T same K =
    let c = model_counts_zero M n l b in
    let KM = (model_accepts_exactly M).0 (b ∙ ap₂ accept c.0 c.1) in
    let least≥0 : le_z (pos 0) T.least ≡ true = le_z_of K.formulas.least_range.0 in
    let in_range_lem : le_z T.least M.n ≡ true = ap (λ (z : ℤ). le_z z M.n) same.same_least ∙ le_z_of KM.in_range.0 in
    let e : pos (nat M.n) ≡ M.n =
    nat_pos M.n (le_of (num 0) (atom M.n) (omega (arith, of_le (num 0) (atom T.least) least≥0, of_le (atom T.least) (atom M.n) in_range_lem))) in
    let t : tree (row_at T.schema) (nat T.root) ≡ tree (row_at M.schema.table) (nat T.root) =
    tree_agrees (row_at T.schema) (row_at M.schema.table) (nat T.root) (λ r q. same.rows r (omega (arith, root_below T K, same.count))) in
    let f : truth (assignment M) (nat M.n) (tree (row_at T.schema) (nat T.root)) ≡ false =
    refuted_by T K (nat M.n) (assignment M) (of_le_z (ap (le_z T.least) e ∙ in_range_lem)) in
    true≢false
    (sym KM.holds
    ∙ ap (λ (z : ℤ). truth (assignment M) (nat M.n) (tree (row_at M.schema.table) (nat z))) (sym same.same_root)
    ∙ ap (truth (assignment M) (nat M.n)) (sym t)
    ∙ f)

-- If the check or the older check accepts a tableau, the model check accepts no model of the same schema rows, root and least value.
pub no_model_lem : (M : Model) (n l : ℕ) → check_model M ≡ accept n l → Irrefutable M.schema
no_model_lem M n l b T same nodes links = (
  λ a. no_model_of M n l b T same ((accepts_exactly T nodes links).0 a).0.older,
  λ a. no_model_of M n l b T same ((older_accepts_exactly T nodes links).0 a).0,
)
