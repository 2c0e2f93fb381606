-- The mathematics of STAB: at a node that keeps the rules, if all rows of the set are true at some n that satisfies the node's
-- bound, then so are all rows of some child's set at that n, or of the linked node's set at a smaller n that satisfies its bound.
-- It is shown for single nodes, not for paths.
use Rattle.std.specs.Prelude.{if◌then◌else◌}
use Prim.Native.Nat.{ℕ, zero, suc, ◌<◌, ◌≤◌}
use native.Mathlib.Omega.{arith}
use mathlib.Core.Path.{◌≡◌, refl, sym, ◌∙◌, ap, ap₂, subst}
use mathlib.Core.Logic.{◌⊎◌, inl, inr, ⊎_elim, ◌≢◌}
use mathlib.Core.Bool.{Bool, true, false, not, false≢true}
use mathlib.Core.List.Memᴰ
use mathlib.Core.List.{List, [], ◌∷◌, Memᴰ}
use lib.IntN.{ℤ, pos, ◌+ℤ◌, ◌-ℤ◌, pos-ne-negsuc}
use lib.Signed.{le_z}
use lib.Dec.{leb}
use borrow.Author.Tests.{leb-true, leb-false}
use Rattle.stab.specs.Basic.{eq_z, ◌and◌, ◌or◌, nat, below, count}
use Rattle.stab.specs.Formula.{Row, Op, conj, disj, Formula, const, lit, join, iter, base_of, kind_of, literal, junction, iteration, well_formed, is_body}
use Rattle.stab.specs.Meaning.{Assignment, base, signed, op, empty, value, truth}
use Rattle.stab.specs.Node.{Tableau, Node, Bound, rows, row_count, row, formula, node_at, node, set, names, child_count_of, child_count, rank, AtMost, Satisfies, split_at, split_bound, child_bound, bound_of, bound}
use Rattle.stab.specs.Rule.{unused, entry, rule_table, rule_of, rule, of_rule, one_of, given, index_at}
use Rattle.stab.specs.Keeps.{Below, KeepsParent, KeepsDrawn, DrawnFrom, KeepsKind, Unfolds, Clashes, Loops, KeepsStep, KeepsOlder}
use Rattle.stab.specs.declared.Rule.{Rule}
use Rattle.stab.proofs.Bools.{decide, and_left, and_right, or_cases, if_true, if_false}
use Rattle.stab.proofs.Whole.{atom, num, ◌⊕◌, ◌⊖◌, of_le, le_of, of_lt, of_eq, lt_of, le_z_of, lt_z_of, eq_z_true, nat_pos}
use Rattle.stab.proofs.Trees.{below_nat, below_pos, below_of}
use Rattle.stab.proofs.Meanings.{Proper, unfolds, void_value, instance_value, lower_value}
use Rattle.stab.proofs.Alikes.{alike_value}
use Rattle.stab.proofs.Decoded as D
use Rattle.stab.proofs.Bounds.{parent_below, bound_child, counted}
use Rattle.stab.proofs.Tests.{below_tests}
use Rattle.stab.proofs.Formed.{formed_tests}
use Rattle.stab.proofs.Ranges.{from_least, up_to, exactly, satisfies}

-- ---- the table's entries

entries : (rule_of (pos 0) ≡ entry (pos 4) unused false false false 1) × (rule_of (pos 1) ≡ entry (pos 5) unused false false false 2) × (rule_of (pos 2) ≡ entry unused unused false false true 2) × (rule_of (pos 3) ≡ entry (pos 6) (pos 6) true false false 1) × (rule_of (pos 4) ≡ entry (pos 7) (pos 7) true false false 2) × (rule_of (pos 5) ≡ entry (pos 1) unused false false false 0) × (rule_of (pos 6) ≡ entry (pos 2) (pos 3) false false false 0) × (rule_of (pos 7) ≡ entry (pos 7) unused false false false 0) × (rule_of (pos 8) ≡ entry unused unused false true false 0)
unfolding rule_of rule_table nat
entries = (refl, refl, refl, refl, refl, refl, refl, refl, refl)

used : (k : ℕ) → pos k ≢ unused
unfolding unused
used k e = pos-ne-negsuc k 0 e

-- the nine rules
nine : (z : ℤ) → Below 9 z → (k : ℕ) × (k < 9) × (z ≡ pos k)
nine z h =
    let b = (below_tests 9 z).1 h in
    (nat z, below_nat 9 z b, sym (below_pos 9 z b))

pub mem_one : {A : Type 0} {z a : A} → Memᴰ z (a ∷ []) → z ≡ a
mem_one m = ⊎_elim (λ e. e) (λ k. absurd (Memᴰ.not-nil k)) (Memᴰ.cases_cons m)

mem_two : {A : Type 0} {z a b : A} → Memᴰ z (a ∷ b ∷ []) → (z ≡ a) ⊎ (z ≡ b)
mem_two m = ⊎_elim (λ e. inl e) (λ k. inr (mem_one k)) (Memᴰ.cases_cons m)

-- what a rule gives, by its number
given_by : Tableau → Node → ℕ → ℤ → List ℤ
given_by T w m x =
    if eq_z x (pos 0) then (row T w.on).a ∷ (row T w.on).b ∷ [] else
    if eq_z x (pos 1) then one_of (row T w.on).a (row T w.on).b m else
    if eq_z x (pos 3) then w.with ∷ w.other ∷ [] else
    if eq_z x (pos 4) then one_of w.with w.other m else
    []

given_is : (T : Tableau) (w : Node) (m : ℕ) → given T w m ≡ given_by T w m w.rule
unfolding given given_by of_rule
given_is T w m = refl

-- the literal that the row of an outer formula stands for at n
lit_value : (σ : Assignment) (n : ℕ) (v : Bool) (w : Row) → truth σ n (lit v w.a (base_of w.b) w.c) ≡ signed v (σ w.a (index_at n w))
unfolding truth value index_at
lit_value σ n v w = refl

module _ (T : Tableau) (K : KeepsOlder T) (σ : Assignment) where
  -- row z is true at n
  abbrev True : ℕ → ℤ → Type 0
  True n z = truth σ n (formula T z) ≡ true

  -- every row of node j's set is true at n
  abbrev pub Holds : ℕ → ℕ → Type 0
  Holds n j = (z : ℤ) → Memᴰ z (set T j) → True n z

  formed : (r : ℕ) → r < row_count T → well_formed (rows T) r ≡ true
  formed r p = (formed_tests (rows T) r).1 (K.formulas.each r p).formed

  row_below : (z : ℤ) → Below (row_count T) z → nat z < row_count T
  row_below z h = below_nat (row_count T) z ((below_tests (row_count T) z).1 h)

  properly : (z : ℤ) → Below (row_count T) z → Proper (formula T z)
  unfolding formula
  properly z h = D.proper (rows T) (row_count T) formed (nat z) (row_below z h)

  member_row : (j : ℕ) → j < T.node_rows → (z : ℤ) → Memᴰ z (set T j) → Below (row_count T) z
  member_row j p z m = ((K.nodes j p).set.outer_rows z m).is_row

  -- ---- children

  -- node i is the child of node j with rank m
  pub record Child (j m i : ℕ) : Type 0 where
    pub inside : i < T.node_rows
    pub later : j < i
    pub up : (node T i).up ≡ pos j
    pub ranked : rank T.nodes i ≡ m

  child : (j m : ℕ) → m < child_count T j → (i : ℕ) × Child j m i
  unfolding child_count child_count_of names rank node
  child j m h =
      let w = counted (names T.nodes (pos j)) T.node_rows m h in
      let e : (node_at T.nodes w.0).up ≡ pos j = eq_z_true _ _ w.2 in (
        w.0,
        record {
          inside = w.1;
          later = parent_below T w.0 j (K.nodes w.0 w.1).parent e;
          up = e;
          ranked = ap (λ (z : ℤ). count (names T.nodes z) w.0) e ∙ w.3;
        },
      )

  -- what a child's set is drawn from
  drawn_from_lem : (i j : ℕ) → KeepsParent T i → KeepsDrawn T i → (node T i).up ≡ pos j → (z : ℤ) → Memᴰ z (set T i) → DrawnFrom T j (rank T.nodes i) z
  unfolding nat
  drawn_from_lem zero j p d e z m = absurd (pos-ne-negsuc j 0 (sym e ∙ p.0))
  drawn_from_lem (suc i) j p d e z m = subst (λ (x : ℤ). DrawnFrom T (nat x) (rank T.nodes (suc i)) z) e (d z m)

  child_bound_lem : (j m i : ℕ) → Child j m i → bound T i ≡ child_bound (node T j) (bound T j) m
  unfolding bound node nat
  child_bound_lem j m i c =
      let e : (node_at T.nodes i).up ≡ pos j = c.up in
      bound_child T.nodes T.least i (subst (λ (z : ℤ). below i z ≡ true) (sym e) (below_of i j c.later))
      ∙ ap (λ (z : ℤ). child_bound (node_at T.nodes (nat z)) (bound_of T.nodes T.least (nat z)) (rank T.nodes i)) e
      ∙ ap (child_bound (node_at T.nodes j) (bound_of T.nodes T.least j)) c.ranked

  -- what a node's refutation may use: every later node is refuted at n
  abbrev pub Later : ℕ → ℕ → Type 0
  Later n j = (i : ℕ) → i < T.node_rows → j < i → Satisfies (bound T i) n → Holds n i → ⊥

  -- the child of rank m is refuted, if all that the rule gives it is true
  descend : (n j m : ℕ) → m < child_count T j → Later n j → Holds n j → ((z : ℤ) → Memᴰ z (given T (node T j) m) → True n z) → Satisfies (child_bound (node T j) (bound T j) m) n → ⊥
  descend n j m h later holds gives sat =
      let w = child j m h in
      let i : ℕ = w.0 in
      let c : Child j m i = w.1 in
      let k = K.nodes i c.inside in
      later i c.inside c.later (subst (λ (B : Bound). Satisfies B n) (sym (child_bound_lem j m i c)) sat)
      (λ z mem.
      ⊎_elim (λ l. holds z l) (λ l. gives z (subst (λ (r : ℕ). Memᴰ z (given T (node T j) r)) c.ranked l))
      (drawn_from_lem i j k.parent k.drawn c.up z mem))

  -- ---- one node

  module _ (n j : ℕ) (p : j < T.node_rows) (later : Later n j) (holds : Holds n j) (sat : Satisfies (bound T j) n) where
    keeps : KeepsStep T j
    keeps = (K.nodes j p).step

    abbrev on : ℤ
    on = (node T j).on

    abbrev with : ℤ
    with = (node T j).with

    entry_is : (k : ℕ) (R : Rule) → rule_of (pos k) ≡ R → (node T j).rule ≡ pos k → rule T j ≡ R
    unfolding rule
    entry_is k R r e = ap rule_of e ∙ r

    -- a field that the table gives a kind
    kinded : (need : ℤ) (k : ℕ) (z : ℤ) → need ≡ pos k → KeepsKind T need z → Below (row_count T) z × ((row T z).kind ≡ pos k)
    kinded need k z e f =
        let u : need ≢ unused = λ x. used k (sym e ∙ x) in
        (f.is_row u, f.of_kind u ∙ e)

    on_stands_lem : (k : ℕ) → (rule T j).on ≡ pos k → Memᴰ on (set T j)
    on_stands_lem k e = keeps.on_stands (λ x. used k (sym e ∙ x))

    -- the child of rank m is there
    has_child : (m c : ℕ) → (rule T j).children ≡ c → m < c → m < child_count T j
    has_child m c e l = omega (arith, keeps.children, e)

    -- a rule other than 2 keeps the bound
    same_bound : (k m : ℕ) → eq_z (pos k) (pos 2) ≡ false → (node T j).rule ≡ pos k → Satisfies (child_bound (node T j) (bound T j) m) n
    unfolding child_bound
    same_bound k m f e =
        subst (λ (B : Bound). Satisfies B n)
        (sym (if_false (eq_z (node T j).rule (pos 2)) (split_bound (bound T j) (split_at (bound T j).L (node T j).by) m) (bound T j) (ap (λ (z : ℤ). eq_z z (pos 2)) e ∙ f))) sat

    true_of : (f : Formula) → formula T on ≡ f → Memᴰ on (set T j) → truth σ n f ≡ true
    true_of f e m = ap (truth σ n) (sym e) ∙ holds on m

    -- a rule whose one child gets two rows that are both true
    both : (k : ℕ) (x y : ℤ) → (node T j).rule ≡ pos k → eq_z (pos k) (pos 2) ≡ false → (rule T j).children ≡ 1 → given_by T (node T j) 0 (pos k) ≡ x ∷ y ∷ [] → (truth σ n (formula T x) and truth σ n (formula T y)) ≡ true → ⊥
    both k x y e f c g t =
        descend n j 0 (has_child 0 1 c (omega arith)) later holds
        (λ z m.
        ⊎_elim
        (λ q. ap (λ (v : ℤ). truth σ n (formula T v)) q ∙ and_left _ _ t)
        (λ q. ap (λ (v : ℤ). truth σ n (formula T v)) q ∙ and_right (truth σ n (formula T x)) _ t)
        (mem_two (subst (λ (l : List ℤ). Memᴰ z l) (given_is T (node T j) 0 ∙ ap (given_by T (node T j) 0) e ∙ g) m)))
        (same_bound k 0 f e)

    -- a rule whose two children get one row each, of which one is true
    either : (k : ℕ) (x y : ℤ) → (node T j).rule ≡ pos k → eq_z (pos k) (pos 2) ≡ false → (rule T j).children ≡ 2 → given_by T (node T j) 0 (pos k) ≡ x ∷ [] → given_by T (node T j) 1 (pos k) ≡ y ∷ [] → (truth σ n (formula T x) or truth σ n (formula T y)) ≡ true → ⊥
    either k x y e f c g h t =
        let side : (m : ℕ) → m < 2 → (v : ℤ) → given_by T (node T j) m (pos k) ≡ v ∷ [] → truth σ n (formula T v) ≡ true → ⊥ =
        λ m l v q u.
        descend n j m (has_child m 2 c l) later holds
        (λ z i.
        ap (λ (w : ℤ). truth σ n (formula T w)) (mem_one (subst (λ (r : List ℤ). Memᴰ z r) (given_is T (node T j) m ∙ ap (given_by T (node T j) m) e ∙ q) i)) ∙ u)
        (same_bound k m f e) in
        ⊎_elim
        (λ u. side 0 (omega arith) x g u)
        (λ u. side 1 (omega arith) y h u)
        (or_cases (truth σ n (formula T x)) _ t)

    -- ---- rules 0 and 1

    junction_is : (o : Op) → kind_of (row T on).kind ≡ junction o → Below (row_count T) on → formula T on ≡ join o (formula T (row T on).a) (formula T (row T on).b)
    unfolding formula row
    junction_is o e b = D.tree_junction (rows T) (nat on) o e (formed (nat on) (row_below on b))

    and_step : (node T j).rule ≡ pos 0 → ⊥
    unfolding entry truth value op given_by eq_z
    and_step e =
        let R = entry_is 0 _ entries.0 e in
        let f = kinded (rule T j).on 4 on (ap (λ (r : Rule). r.on) R) keeps.on in
        both 0 (row T on).a (row T on).b e refl (ap (λ (r : Rule). r.children) R) refl
        (true_of _ (junction_is conj (D.kind_4 f.1) f.0) (on_stands_lem 4 (ap (λ (r : Rule). r.on) R)))

    or_step : (node T j).rule ≡ pos 1 → ⊥
    unfolding entry truth value op given_by eq_z one_of
    or_step e =
        let R = entry_is 1 _ entries.1 e in
        let f = kinded (rule T j).on 5 on (ap (λ (r : Rule). r.on) R) keeps.on in
        either 1 (row T on).a (row T on).b e refl (ap (λ (r : Rule). r.children) R) refl refl
        (true_of _ (junction_is disj (D.kind_5 f.1) f.0) (on_stands_lem 5 (ap (λ (r : Rule). r.on) R)))

    -- ---- rule 2

    split_step : (node T j).rule ≡ pos 2 → ⊥
    unfolding entry given_by eq_z child_bound split_bound Satisfies AtMost
    split_step e =
        let R = entry_is 2 _ entries.2 e in
        let K : ℕ = split_at (bound T j).L (node T j).by in
        let side : (m : ℕ) → m < 2 → Satisfies (split_bound (bound T j) K m) n → ⊥ =
        λ m l h.
        descend n j m (has_child m 2 (ap (λ (r : Rule). r.children) R) l) later holds
        (λ z k. absurd (Memᴰ.not-nil (subst (λ (q : List ℤ). Memᴰ z q) (given_is T (node T j) m ∙ ap (given_by T (node T j) m) e) k)))
        (subst (λ (B : Bound). Satisfies B n) (sym (if_true (eq_z (node T j).rule (pos 2)) (split_bound (bound T j) K m) (bound T j) (ap (λ (z : ℤ). eq_z z (pos 2)) e))) h) in
        ⊎_elim
        (λ q. side 0 (omega arith) (from_least (bound T j) n sat, leb-true n K q))
        (λ q. side 1 (omega arith) (leb-false n K q, sat.1))
        (decide (leb n K))

    -- ---- rules 3 and 4

    iteration_is : (o : Op) (z : ℤ) → kind_of (row T z).kind ≡ iteration o → Below (row_count T) z → formula T z ≡ iter o (formula T (row T z).a) (row T z).b (row T z).c
    unfolding formula row
    iteration_is o z e b = D.tree_iteration (rows T) (nat z) o e (formed (nat z) (row_below z b))

    body_of : (o : Op) (z : ℤ) → kind_of (row T z).kind ≡ iteration o → Below (row_count T) z → is_body (formula T (row T z).a) ≡ true
    unfolding formula row
    body_of o z e b = D.body_is (rows T) (nat z) o e (formed (nat z) (row_below z b))

    -- on is true exactly if with and other are, combined by the operation
    unfold_value : (o : Op) → kind_of (row T on).kind ≡ iteration o → kind_of (row T with).kind ≡ iteration o → Below (row_count T) on → Below (row_count T) with → Unfolds T j → truth σ n (formula T on) ≡ op o (truth σ n (formula T with)) (truth σ n (formula T (node T j).other))
    unfolding truth
    unfold_value o ko kw bo bw u =
        let b = (row T on).b in
        let c = (row T on).c in
        let f = formula T (row T on).a in
        let w : formula T with ≡ iter o f b (c +ℤ pos 1) =
        iteration_is o with kw bw
        ∙ ap (λ (x : ℤ). iter o (formula T x) (row T with).b (row T with).c) u.same_body
        ∙ ap₂ (iter o f) u.same_start u.shorter in
        ap (λ (g : Formula). value σ n g (pos 0)) (iteration_is o on ko bo)
        ∙ unfolds σ n o f b c (pos 0)
        (le_of (atom b ⊕ atom c) (num n) (omega (arith, of_le (atom b ⊕ atom c) (num (bound T j).L) (le_z_of u.nonempty), from_least (bound T j) n sat)))
        ∙ ap₂ (op o)
        (ap (λ (g : Formula). value σ n g (pos 0)) (sym w))
        (sym (instance_value σ n c f (pos 0) (body_of o on ko bo)) ∙ alike_value σ n u.instance_of (pos 0))

    unfold_and_step : (node T j).rule ≡ pos 3 → ⊥
    unfolding entry op given_by eq_z
    unfold_and_step e =
        let R = entry_is 3 _ entries.3 e in
        let f = kinded (rule T j).on 6 on (ap (λ (r : Rule). r.on) R) keeps.on in
        let g = kinded (rule T j).with 6 with (ap (λ (r : Rule). r.with) R) keeps.with in
        both 3 with (node T j).other e refl (ap (λ (r : Rule). r.children) R) refl
        (sym (unfold_value conj (D.kind_6 f.1) (D.kind_6 g.1) f.0 g.0 (keeps.unfolds (inl e)))
        ∙ holds on (on_stands_lem 6 (ap (λ (r : Rule). r.on) R)))

    unfold_or_step : (node T j).rule ≡ pos 4 → ⊥
    unfolding entry op given_by eq_z one_of
    unfold_or_step e =
        let R = entry_is 4 _ entries.4 e in
        let f = kinded (rule T j).on 7 on (ap (λ (r : Rule). r.on) R) keeps.on in
        let g = kinded (rule T j).with 7 with (ap (λ (r : Rule). r.with) R) keeps.with in
        either 4 with (node T j).other e refl (ap (λ (r : Rule). r.children) R) refl refl
        (sym (unfold_value disj (D.kind_7 f.1) (D.kind_7 g.1) f.0 g.0 (keeps.unfolds (inr e)))
        ∙ holds on (on_stands_lem 7 (ap (λ (r : Rule). r.on) R)))

    -- ---- rules 5, 6 and 7

    false_step : (node T j).rule ≡ pos 5 → ⊥
    unfolding entry formula row truth value
    false_step e =
        let R = entry_is 5 _ entries.5 e in
        let f = kinded (rule T j).on 1 on (ap (λ (r : Rule). r.on) R) keeps.on in
        false≢true (true_of (const false) (D.tree_constant (rows T) (nat on) false (D.kind_1 f.1)) (on_stands_lem 1 (ap (λ (r : Rule). r.on) R)))

    literal_is : (v : Bool) (z : ℤ) → kind_of (row T z).kind ≡ literal v → truth σ n (formula T z) ≡ signed v (σ (row T z).a (index_at n (row T z)))
    unfolding formula row
    literal_is v z e = ap (truth σ n) (D.tree_literal (rows T) (nat z) v e) ∙ lit_value σ n v (rows T (nat z))

    -- the two literals of a clash name the same index at n
    same_index_lem : Clashes T j → index_at n (row T on) ≡ index_at n (row T with)
    unfolding index_at
    same_index_lem c =
        ⊎_elim
        (λ h. ap₂ (λ (x y : ℤ). base n (pos 0) (base_of x) +ℤ y) h.0 h.1)
        (λ h.
        let q : n ≡ (bound T j).L = exactly (bound T j) n h.0 sat in
        ap (λ (m : ℕ). index_at m (row T on)) q ∙ h.1 ∙ ap (λ (m : ℕ). index_at m (row T with)) (sym q))
        c.same_index

    clash_step : (node T j).rule ≡ pos 6 → ⊥
    unfolding entry signed
    clash_step e =
        let R = entry_is 6 _ entries.6 e in
        let f = kinded (rule T j).on 2 on (ap (λ (r : Rule). r.on) R) keeps.on in
        let g = kinded (rule T j).with 3 with (ap (λ (r : Rule). r.with) R) keeps.with in
        let c = keeps.clash e in
        let t : σ (row T on).a (index_at n (row T on)) ≡ true =
        sym (literal_is true on (D.kind_2 f.1)) ∙ holds on (on_stands_lem 2 (ap (λ (r : Rule). r.on) R)) in
        let u : not (σ (row T with).a (index_at n (row T with))) ≡ true =
        sym (literal_is false with (D.kind_3 g.1)) ∙ holds with c.with_stands in
        false≢true (sym (ap not (ap₂ σ (sym c.same_symbol) (sym (same_index_lem c)) ∙ t)) ∙ u)

    void_step : (node T j).rule ≡ pos 7 → ⊥
    unfolding entry truth empty
    void_step e =
        let R = entry_is 7 _ entries.7 e in
        let f = kinded (rule T j).on 7 on (ap (λ (r : Rule). r.on) R) keeps.on in
        let v = keeps.void e in
        let b = (row T on).b in
        let c = (row T on).c in
        let q : n ≤ v.0 = up_to (bound T j) n v.0 v.1 sat in
        let t = true_of _ (iteration_is disj on (D.kind_7 f.1) f.0) (on_stands_lem 7 (ap (λ (r : Rule). r.on) R)) in
        false≢true
        (sym (void_value σ n disj (formula T (row T on).a) b c (pos 0) (lt_of (num n) (atom b ⊕ atom c) (omega (arith, q, of_lt (num v.0) (atom b ⊕ atom c) (lt_z_of v.2)))))
        ∙ t)

    -- ---- rule 8

    -- what a link may use: every node is refuted at every smaller n
    loop_step : (node T j).rule ≡ pos 8 → ((m i : ℕ) → m < n → i < T.node_rows → Satisfies (bound T i) m → Holds m i → ⊥) → ⊥
    unfolding entry truth
    loop_step e smaller =
        let R = entry_is 8 _ entries.8 e in
        let l = keeps.loop e in
        let i : ℕ = l.0 in
        let u : Loops T j i = l.1 in
        let k : ℤ = (node T j).by in
        let k≥1 : le_z (pos 1) k ≡ true = le_z_of (keeps.link_used (ap (λ (r : Rule). r.link) R)) in
        let bounds : le_z (pos (bound T i).L) (pos (bound T j).L -ℤ k) ≡ true = le_z_of u.above in
        let here : (bound T j).L ≤ n = from_least (bound T j) n sat in
        let nonneg : le_z (pos 0) (pos n -ℤ k) ≡ true =
        le_of (num 0) (num n ⊖ atom k) (omega (arith, of_le (num (bound T i).L) (num (bound T j).L ⊖ atom k) bounds)) in
        let m : ℕ = nat (pos n -ℤ k) in
        let q : pos m ≡ (pos n -ℤ k) = nat_pos (pos n -ℤ k) nonneg in
        let i<j : i < j = u.before in
        smaller m i
        (omega (arith, of_eq (num m) (num n ⊖ atom k) q, of_le (num 1) (atom k) k≥1))
        (omega arith)
        (satisfies (bound T i) m
        (omega (arith, of_eq (num m) (num n ⊖ atom k) q, of_le (num (bound T i).L) (num (bound T j).L ⊖ atom k) bounds))
        (λ A e.
        let h = u.below A e in
        omega (arith, of_eq (num m) (num n ⊖ atom k) q, up_to (bound T j) n h.0 h.1 sat, of_le (num h.0 ⊖ atom k) (num A) (le_z_of h.2))))
        (λ z mem.
        let x = u.lowered z mem in
        sym (lower_value σ n m k (formula T z) (pos 0) q (properly z (member_row i (omega arith) z mem)))
        ∙ alike_value σ n x.2 (pos 0)
        ∙ holds x.0 x.1)

    -- ---- any rule

    by_number : (k : ℕ) → k < 9 → (node T j).rule ≡ pos k → ((m i : ℕ) → m < n → i < T.node_rows → Satisfies (bound T i) m → Holds m i → ⊥) → ⊥
    by_number zero l e s = and_step e
    by_number (suc zero) l e s = or_step e
    by_number (suc (suc zero)) l e s = split_step e
    by_number (suc (suc (suc zero))) l e s = unfold_and_step e
    by_number (suc (suc (suc (suc zero)))) l e s = unfold_or_step e
    by_number (suc (suc (suc (suc (suc zero))))) l e s = false_step e
    by_number (suc (suc (suc (suc (suc (suc zero)))))) l e s = clash_step e
    by_number (suc (suc (suc (suc (suc (suc (suc zero))))))) l e s = void_step e
    by_number (suc (suc (suc (suc (suc (suc (suc (suc zero)))))))) l e s = loop_step e s
    by_number (suc (suc (suc (suc (suc (suc (suc (suc (suc k))))))))) l e s = absurd (omega arith)

    pub refuted : ((m i : ℕ) → m < n → i < T.node_rows → Satisfies (bound T i) m → Holds m i → ⊥) → ⊥
    refuted smaller =
        let w = nine (node T j).rule keeps.known in
        by_number w.0 w.1 w.2 smaller
