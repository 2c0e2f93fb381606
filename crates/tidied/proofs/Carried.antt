-- A record whose rows stand under new numbers in another: what a node keeps of the rules, it keeps there.
use Rattle.std.specs.Prelude.{if◌then◌else◌}
use Prim.Native.Nat.{ℕ, zero, suc, ◌<◌}
use native.Mathlib.Omega.{arith}
use mathlib.Core.Path.{◌≡◌, refl, sym, ◌∙◌, ap, subst}
use mathlib.Core.Logic.{◌⊎◌, inl, inr, ⊎_elim, ◌≢◌}
use mathlib.Core.Bool.{Bool, true, false}
use mathlib.Core.List.Memᴰ
use mathlib.Core.List.{List, [], ◌∷◌, Memᴰ}
use mathlib.Core.Option.{some}
use lib.IntN.{ℤ, pos, ◌+ℤ◌, pos-ne-negsuc}
use lib.Signed.{◌<ℤ◌}
use Rattle.stab.specs.Basic.{eq_z, nat, below}
use Rattle.stab.specs.Formula.{Row, Op, conj, disj, Kind, literal, junction, iteration, kind_of, tree, well_formed}
use Rattle.stab.specs.Alike.{lower}
use Rattle.stab.specs.Node.{Tableau, Bound, rows, row_count, row, formula, node, set, bound, child_count}
use Rattle.stab.specs.Rule.{unused, entry, rule_table, rule_of, rule, of_rule, one_of, given}
use Rattle.stab.specs.Keeps.{Below, Alike, OuterRow, DrawnFrom, KeepsKind, Unfolds, Clashes, Loops, KeepsStep}
use Rattle.stab.specs.declared.Rule.{Rule}
use Rattle.stab.proofs.Trees.{below_nat, below_of, below_more}
use Rattle.stab.proofs.Tests.{below_tests}
use Rattle.stab.proofs.Whole.{eq_z_true}
use Rattle.stab.proofs.Decoded as D
use Rattle.stab.proofs.Decoded.{kind_2, kind_3, kind_4, kind_5, kind_6, kind_7}
use Rattle.tidied.specs.Tidied.{through, renumbered_as}
use Rattle.tidied.proofs.Moves.{Moves, through_below, through_negative, moved_kind, moved_as, tree_moved}

-- ---- the table's entries

entries : (rule_of (pos 0) ≡ entry (pos 4) unused false false false 1) × (rule_of (pos 1) ≡ entry (pos 5) unused false false false 2) × (rule_of (pos 3) ≡ entry (pos 6) (pos 6) true false false 1) × (rule_of (pos 4) ≡ entry (pos 7) (pos 7) true false false 2) × (rule_of (pos 6) ≡ entry (pos 2) (pos 3) false false false 0) × (rule_of (pos 7) ≡ entry (pos 7) unused false false false 0)
unfolding rule_of rule_table nat
entries = (refl, refl, refl, refl, refl, refl)

used : (k : ℕ) → pos k ≢ unused
unfolding unused
used k e = pos-ne-negsuc k 0 e

pub through_unused : (new : ℕ → ℕ) → through new unused ≡ unused
unfolding unused
through_unused new = through_negative new _ refl

-- ---- members of lists, put through

two : (f : ℤ → ℤ) (z a b : ℤ) → Memᴰ z (a ∷ b ∷ []) → Memᴰ (f z) (f a ∷ f b ∷ [])
two f z a b g =
    ⊎_elim (λ e. Memᴰ.head (ap f e)) (λ t. Memᴰ.tail (Memᴰ.head (ap f (Memᴰ.eq_of_singleton t)))) (Memᴰ.cases_cons g)

one : (f : ℤ → ℤ) (z a b : ℤ) (m : ℕ) → Memᴰ z (one_of a b m) → Memᴰ (f z) (one_of (f a) (f b) m)
unfolding one_of
one f z a b zero g = Memᴰ.head (ap f (Memᴰ.eq_of_singleton g))
one f z a b (suc m) g = Memᴰ.head (ap f (Memᴰ.eq_of_singleton g))

-- one of four lists, by the first test that passes
chosen : (f : ℤ → ℤ) (z : ℤ) (p q r s : Bool) {k l m n k' l' m' n' : List ℤ}
    → (p ≡ true → Memᴰ z k → Memᴰ (f z) k') → (q ≡ true → Memᴰ z l → Memᴰ (f z) l')
    → (Memᴰ z m → Memᴰ (f z) m') → (Memᴰ z n → Memᴰ (f z) n')
    → Memᴰ z (if p then k else if q then l else if r then m else if s then n else [])
    → Memᴰ (f z) (if p then k' else if q then l' else if r then m' else if s then n' else [])
chosen f z true q r s ha hb hc hd g = ha refl g
chosen f z false true r s ha hb hc hd g = hb refl g
chosen f z false false true s ha hb hc hd g = hc g
chosen f z false false false true ha hb hc hd g = hd g
chosen f z false false false false ha hb hc hd g = absurd (Memᴰ.not-nil g)

-- ---- what the node of another record has of a node's

pub record Carries (T U : Tableau) (new : ℕ → ℕ) (j j' : ℕ) : Type 0 where
  pub rule : (node U j').rule ≡ (node T j).rule
  pub on : (node U j').on ≡ through new (node T j).on
  pub with : (node U j').with ≡ through new (node T j).with
  pub other : (node U j').other ≡ through new (node T j).other
  pub by : (node U j').by ≡ (node T j).by
  pub unused_to : (node T j).to ≡ unused → (node U j').to ≡ unused
  pub members : (z : ℤ) → Memᴰ z (set T j) → Memᴰ (through new z) (set U j')
  pub sources : (z : ℤ) → Memᴰ z (set U j') → (x : ℤ) × Memᴰ x (set T j) × (z ≡ through new x)
  pub bound : bound U j' ≡ bound T j
  pub children : child_count U j' ≡ child_count T j

-- the nodes of a record, each with its new number
pub record AllCarried (T U : Tableau) (new at : ℕ → ℕ) : Type 0 where
  pub moves : Moves (rows T) (rows U) (row_count T) new
  pub fits : (r : ℕ) → r < row_count T → new r < row_count U
  pub formed : (r : ℕ) → r < row_count T → well_formed (rows T) r ≡ true
  pub each : (j : ℕ) → j < T.node_rows → Carries T U new j (at j)
  pub later : (i j : ℕ) → i < j → at i < at j
  pub to : (i j : ℕ) → j < T.node_rows → i < j → (node T j).to ≡ pos i → (node U (at j)).to ≡ pos (at i)

module _ {T U : Tableau} {new at : ℕ → ℕ} (C : AllCarried T U new at) where
  -- ---- rows

  nat_below : (z : ℤ) → Below (row_count T) z → nat z < row_count T
  nat_below z b = below_nat (row_count T) z ((below_tests (row_count T) z).1 b)

  through_row : (z : ℤ) → Below (row_count T) z → through new z ≡ pos (new (nat z))
  through_row z b = through_below new (row_count T) z ((below_tests (row_count T) z).1 b)

  -- the number of a row is put through to the number of a row
  row_through : (z : ℤ) → Below (row_count T) z → Below (row_count U) (through new z)
  row_through z b =
      subst (λ (y : ℤ). Below (row_count U) y) (sym (through_row z b))
      ((below_tests (row_count U) (pos (new (nat z)))).0 (below_of (row_count U) (new (nat z)) (C.fits (nat z) (nat_below z b))))

  row_is : (z : ℤ) → Below (row_count T) z → row U (through new z) ≡ rows U (new (nat z))
  unfolding row nat
  row_is z b = ap (λ (y : ℤ). rows U (nat y)) (through_row z b)

  row_as : (z : ℤ) → Below (row_count T) z → (k : Kind) → kind_of (row T z).kind ≡ k → row U (through new z) ≡ renumbered_as new (row T z) k
  unfolding row
  row_as z b k e = row_is z b ∙ moved_as C.moves (nat z) (nat_below z b) k e

  kind_same : (z : ℤ) → Below (row_count T) z → (row U (through new z)).kind ≡ (row T z).kind
  unfolding row
  kind_same z b = ap (λ (w : Row). w.kind) (row_is z b) ∙ moved_kind C.moves (nat z) (nat_below z b)

  pub formula_same : (z : ℤ) → Below (row_count T) z → formula U (through new z) ≡ formula T z
  unfolding formula nat
  formula_same z b =
      ap (λ (y : ℤ). tree (rows U) (nat y)) (through_row z b) ∙ tree_moved C.moves C.formed (nat z) (nat_below z b)

  -- an outer row is put through to an outer row
  pub outer_carried : (z : ℤ) → OuterRow T z → OuterRow U (through new z)
  outer_carried z o = record { is_row = row_through z o.is_row; outer = rw (formula_same z o.is_row) o.outer }

  -- a literal stands as it did
  literal_row_lem : (z : ℤ) → Below (row_count T) z → (v : Bool) → kind_of (row T z).kind ≡ literal v → row U (through new z) ≡ row T z
  unfolding renumbered_as
  literal_row_lem z b v e = row_as z b (literal v) e

  -- an and or an or has its parts put through
  junction_row : (z : ℤ) → Below (row_count T) z → (o : Op) → kind_of (row T z).kind ≡ junction o → ((row U (through new z)).a ≡ through new (row T z).a) × ((row U (through new z)).b ≡ through new (row T z).b)
  unfolding renumbered_as
  junction_row z b o e = let s = row_as z b (junction o) e in (ap (λ (w : Row). w.a) s, ap (λ (w : Row). w.b) s)

  -- an iteration its body
  iteration_row : (z : ℤ) → Below (row_count T) z → (o : Op) → kind_of (row T z).kind ≡ iteration o → ((row U (through new z)).a ≡ through new (row T z).a) × ((row U (through new z)).b ≡ (row T z).b) × ((row U (through new z)).c ≡ (row T z).c)
  unfolding renumbered_as
  iteration_row z b o e =
      let s = row_as z b (iteration o) e in (ap (λ (w : Row). w.a) s, ap (λ (w : Row). w.b) s, ap (λ (w : Row). w.c) s)

  -- its body is a row
  body_below : (o : Op) (z : ℤ) → Below (row_count T) z → kind_of (row T z).kind ≡ iteration o → Below (row_count T) (row T z).a
  unfolding row
  body_below o z b e =
      let r = nat_below z b in
      (below_tests (row_count T) _).0
      (below_more (nat z) (row_count T) _ (omega arith) (D.body_below (rows T) (nat z) o e (C.formed (nat z) r)))

  kind_through : (need z y : ℤ) → y ≡ through new z → KeepsKind T need z → KeepsKind U need y
  kind_through need z y s k = record {
    unused_field = λ e. s ∙ ap (through new) (k.unused_field e) ∙ through_unused new;
    is_row = λ e. subst (Below (row_count U)) (sym s) (row_through z (k.is_row e));
    of_kind = λ e. ap (λ (x : ℤ). (row U x).kind) s ∙ kind_same z (k.is_row e) ∙ k.of_kind e;
  }

  -- ---- one node

  module _ (j : ℕ) (h : j < T.node_rows) (K : KeepsStep T j) where
    same_rule : rule U (at j) ≡ rule T j
    unfolding rule
    same_rule = ap rule_of (C.each j h).rule

    -- what on and with are, by the node's rule
    module _ (z : ℤ) (E : Rule) (e : (node T j).rule ≡ z) (is : rule_of z ≡ E) where
      entry_is : rule T j ≡ E
      unfolding rule
      entry_is = ap rule_of e ∙ is

      on_used : (k : ℕ) → E.on ≡ pos k → (rule T j).on ≢ unused
      on_used k o u = used k (sym o ∙ ap (λ (x : Rule). x.on) (sym entry_is) ∙ u)

      with_used : (k : ℕ) → E.with ≡ pos k → (rule T j).with ≢ unused
      with_used k o u = used k (sym o ∙ ap (λ (x : Rule). x.with) (sym entry_is) ∙ u)

      on_below : (k : ℕ) → E.on ≡ pos k → Below (row_count T) (node T j).on
      on_below k o = K.on.is_row (on_used k o)

      on_kind : (k : ℕ) → E.on ≡ pos k → (row T (node T j).on).kind ≡ pos k
      on_kind k o = K.on.of_kind (on_used k o) ∙ ap (λ (x : Rule). x.on) entry_is ∙ o

      with_below : (k : ℕ) → E.with ≡ pos k → Below (row_count T) (node T j).with
      with_below k o = K.with.is_row (with_used k o)

      with_kind : (k : ℕ) → E.with ≡ pos k → (row T (node T j).with).kind ≡ pos k
      with_kind k o = K.with.of_kind (with_used k o) ∙ ap (λ (x : Rule). x.with) entry_is ∙ o

      other_below : E.other ≡ true → Below (row_count T) (node T j).other
      other_below o = K.other_used (ap (λ (x : Rule). x.other) entry_is ∙ o)

    on_row : row U (node U (at j)).on ≡ row U (through new (node T j).on)
    on_row = ap (row U) (C.each j h).on

    with_row : row U (node U (at j)).with ≡ row U (through new (node T j).with)
    with_row = ap (row U) (C.each j h).with

    -- an unfolding, of either kind
    unfold_carried : (o : Op) → Below (row_count T) (node T j).on → Below (row_count T) (node T j).with → Below (row_count T) (node T j).other
        → kind_of (row T (node T j).on).kind ≡ iteration o → kind_of (row T (node T j).with).kind ≡ iteration o
        → Below (row_count T) (row T (node T j).on).a → Unfolds T j → Unfolds U (at j)
    unfold_carried o b w x e f body k =
        let p = iteration_row (node T j).on b o e in
        let q = iteration_row (node T j).with w o f in
        let pa = ap (λ (y : Row). y.a) on_row ∙ p.0 in
        let pb = ap (λ (y : Row). y.b) on_row ∙ p.1 in
        let pc = ap (λ (y : Row). y.c) on_row ∙ p.2 in
        let qa = ap (λ (y : Row). y.a) with_row ∙ q.0 in
        let qb = ap (λ (y : Row). y.b) with_row ∙ q.1 in
        let qc = ap (λ (y : Row). y.c) with_row ∙ q.2 in
        record {
          nonempty = rw (pb, pc, (C.each j h).bound) k.nonempty;
          same_body = qa ∙ ap (through new) k.same_body ∙ sym pa;
          same_start = qb ∙ k.same_start ∙ sym pb;
          shorter = qc ∙ k.shorter ∙ ap (λ (y : ℤ). y +ℤ pos 1) (sym pc);
          instance_of =
              rw (pa, pc, (C.each j h).other, formula_same (row T (node T j).on).a body, formula_same (node T j).other x) k.instance_of;
        }

    unfolds_carried : ((node T j).rule ≡ pos 3) ⊎ ((node T j).rule ≡ pos 4) → Unfolds T j → Unfolds U (at j)
    unfolding entry
    unfolds_carried (inl e) k =
        let b = on_below (pos 3) _ e entries.2 6 refl in
        let i = kind_6 (on_kind (pos 3) _ e entries.2 6 refl) in
        unfold_carried conj b (with_below (pos 3) _ e entries.2 6 refl) (other_below (pos 3) _ e entries.2 refl) i
        (kind_6 (with_kind (pos 3) _ e entries.2 6 refl)) (body_below conj (node T j).on b i) k
    unfolds_carried (inr e) k =
        let b = on_below (pos 4) _ e entries.3 7 refl in
        let i = kind_7 (on_kind (pos 4) _ e entries.3 7 refl) in
        unfold_carried disj b (with_below (pos 4) _ e entries.3 7 refl) (other_below (pos 4) _ e entries.3 refl) i
        (kind_7 (with_kind (pos 4) _ e entries.3 7 refl)) (body_below disj (node T j).on b i) k

    clash_carried : (node T j).rule ≡ pos 6 → Clashes T j → Clashes U (at j)
    unfolding entry
    clash_carried e k =
        let p = on_row ∙ literal_row_lem (node T j).on (on_below (pos 6) _ e entries.4 2 refl) true (kind_2 (on_kind (pos 6) _ e entries.4 2 refl)) in
        let q = with_row ∙ literal_row_lem (node T j).with (with_below (pos 6) _ e entries.4 3 refl) false (kind_3 (with_kind (pos 6) _ e entries.4 3 refl)) in
        record {
          with_stands = rw (C.each j h).with ((C.each j h).members (node T j).with k.with_stands);
          same_symbol = rw (p, q) k.same_symbol;
          same_index = rw (p, q, (C.each j h).bound) k.same_index;
        }

    void_carried : (node T j).rule ≡ pos 7 → (H : ℕ) × ((bound T j).H ≡ some H) × (pos H <ℤ ((row T (node T j).on).b +ℤ (row T (node T j).on).c))
        → (H : ℕ) × ((bound U (at j)).H ≡ some H) × (pos H <ℤ ((row U (node U (at j)).on).b +ℤ (row U (node U (at j)).on).c))
    unfolding entry
    void_carried e k =
        let p = iteration_row (node T j).on (on_below (pos 7) _ e entries.5 7 refl) disj (kind_7 (on_kind (pos 7) _ e entries.5 7 refl)) in
        let pb = ap (λ (y : Row). y.b) on_row ∙ p.1 in
        let pc = ap (λ (y : Row). y.c) on_row ∙ p.2 in
        (k.0, rw (C.each j h).bound k.1, rw (pb, pc) k.2)

    loop_carried : ((i : ℕ) → i < T.node_rows → (z : ℤ) → Memᴰ z (set T i) → Below (row_count T) z) → (i : ℕ) × Loops T j i → (i : ℕ) × Loops U (at j) i
    loop_carried member (i, k) =
        let g : i < T.node_rows = omega (arith, k.before) in
        let D = C.each i g in (
          at i,
          record {
            target = C.to i j h k.before k.target;
            before = C.later i j k.before;
            above = rw ((C.each j h).bound, D.bound, (C.each j h).by) k.above;
            below = λ A e. rw ((C.each j h).bound, (C.each j h).by) (k.below A (ap (λ (B : Bound). B.H) (sym D.bound) ∙ e));
            lowered = λ z m. found i g k.lowered z (D.sources z m);
          },
        )
      where
        found : (i : ℕ) → i < T.node_rows → ((z : ℤ) → Memᴰ z (set T i) → (x : ℤ) × Memᴰ x (set T j) × Alike (lower (node T j).by (formula T z)) (formula T x))
            → (z : ℤ) → (x : ℤ) × Memᴰ x (set T i) × (z ≡ through new x) → (y : ℤ) × Memᴰ y (set U (at j)) × Alike (lower (node U (at j)).by (formula U z)) (formula U y)
        found i g lowered z (x, m, s) =
            let w = lowered x m in (
              through new w.0,
              (C.each j h).members w.0 w.1,
              rw (s, (C.each j h).by, formula_same x (member i g x m), formula_same w.0 (member j h w.0 w.1)) w.2,
            )

    -- the node keeps its rule there
    pub step_carried : ((i : ℕ) → i < T.node_rows → (z : ℤ) → Memᴰ z (set T i) → Below (row_count T) z) → KeepsStep U (at j)
    step_carried member = record {
      known = rw (C.each j h).rule K.known;
      on = rw same_rule (kind_through _ _ _ (C.each j h).on K.on);
      on_stands = rw (same_rule, (C.each j h).on) (λ u. (C.each j h).members (node T j).on (K.on_stands u));
      with = rw same_rule (kind_through _ _ _ (C.each j h).with K.with);
      other_used = rw (same_rule, (C.each j h).other) (λ u. row_through (node T j).other (K.other_used u));
      other_unused = rw (same_rule, (C.each j h).other) (λ u. ap (through new) (K.other_unused u) ∙ through_unused new);
      link_used = rw (same_rule, (C.each j h).by) K.link_used;
      link_unused = rw same_rule (λ u. (C.each j h).unused_to (K.link_unused u));
      split_used = rw (same_rule, (C.each j h).by) K.split_used;
      by_unused = rw (same_rule, (C.each j h).by) K.by_unused;
      split = rw ((C.each j h).rule, (C.each j h).bound, (C.each j h).by) K.split;
      unfolds = rw (C.each j h).rule (λ e. unfolds_carried e (K.unfolds e));
      clash = rw (C.each j h).rule (λ e. clash_carried e (K.clash e));
      void = rw (C.each j h).rule (λ e. void_carried e (K.void e));
      loop = rw (C.each j h).rule (λ e. loop_carried member (K.loop e));
      children = rw (same_rule, (C.each j h).children) K.children;
    }

    rule_test : (k : ℕ) → of_rule k (node U (at j)) ≡ of_rule k (node T j)
    unfolding of_rule
    rule_test k = ap (λ (z : ℤ). eq_z z (pos k)) (C.each j h).rule

    is_rule : (k : ℕ) → of_rule k (node T j) ≡ true → (node T j).rule ≡ pos k
    unfolding of_rule
    is_rule k t = eq_z_true _ _ t

    parts_carried : (o : Op) → Below (row_count T) (node T j).on → kind_of (row T (node T j).on).kind ≡ junction o
        → ((row U (node U (at j)).on).a ≡ through new (row T (node T j).on).a) × ((row U (node U (at j)).on).b ≡ through new (row T (node T j).on).b)
    parts_carried o b e =
        let p = junction_row (node T j).on b o e in
        (ap (λ (y : Row). y.a) on_row ∙ p.0, ap (λ (y : Row). y.b) on_row ∙ p.1)

    and_parts : of_rule 0 (node T j) ≡ true → ((row U (node U (at j)).on).a ≡ through new (row T (node T j).on).a) × ((row U (node U (at j)).on).b ≡ through new (row T (node T j).on).b)
    unfolding entry
    and_parts t =
        let e = is_rule 0 t in
        parts_carried conj (on_below (pos 0) _ e entries.0 4 refl) (kind_4 (on_kind (pos 0) _ e entries.0 4 refl))

    or_parts : of_rule 1 (node T j) ≡ true → ((row U (node U (at j)).on).a ≡ through new (row T (node T j).on).a) × ((row U (node U (at j)).on).b ≡ through new (row T (node T j).on).b)
    unfolding entry
    or_parts t =
        let e = is_rule 1 t in
        parts_carried disj (on_below (pos 1) _ e entries.1 5 refl) (kind_5 (on_kind (pos 1) _ e entries.1 5 refl))

    -- what the rule gives to a child, it gives there, put through
    given_carried : (m : ℕ) (z : ℤ) → Memᴰ z (given T (node T j) m) → Memᴰ (through new z) (given U (node U (at j)) m)
    unfolding given
    given_carried m z g =
        rw (rule_test 0, rule_test 1, rule_test 3, rule_test 4)
        (chosen (through new) z (of_rule 0 (node T j)) (of_rule 1 (node T j)) (of_rule 3 (node T j)) (of_rule 4 (node T j))
        (λ t. rw ((and_parts t).0, (and_parts t).1) (two (through new) z _ _))
        (λ t. rw ((or_parts t).0, (or_parts t).1) (one (through new) z _ _ m))
        (rw ((C.each j h).with, (C.each j h).other) (two (through new) z _ _))
        (rw ((C.each j h).with, (C.each j h).other) (one (through new) z _ _ m)) g)

    -- what a child's set is drawn from
    pub drawn_carried : (m : ℕ) (z : ℤ) → DrawnFrom T j m z → DrawnFrom U (at j) m (through new z)
    drawn_carried m z d = ⊎_elim (λ k. inl ((C.each j h).members z k)) (λ k. inr (given_carried m z k)) d
