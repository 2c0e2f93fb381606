-- Rows under new numbers: a row whose parts are put through the new numbers has the formula that it had.
use Prim.Native.Nat.{ℕ, zero, suc, ◌<◌}
use native.Mathlib.Omega.{arith}
use mathlib.Core.Path.{◌≡◌, refl, sym, ◌∙◌, ap, ap₂, subst}
use mathlib.Core.Logic.{◌⊎◌, inl, inr, ⊎_elim}
use mathlib.Core.Bool.{true, false}
use lib.IntN.{ℤ, pos}
use lib.Signed.{le_z}
use Rattle.stab.specs.Basic.{nat, below}
use Rattle.stab.specs.Formula.{Row, Op, Kind, constant, literal, junction, iteration, unknown, kind_of, Formula, join, iter, part, decode, tree, well_formed_as, well_formed}
use Rattle.stab.specs.Keeps.{FormedAs}
use Rattle.stab.proofs.Bools.{decide, and_left, and_right, if_true, if_false}
use Rattle.stab.proofs.Whole.{num, le_of, nat_pos}
use Rattle.stab.proofs.Trees.{below_nat, below_pos, below_of, part_of, tree_is}
use Rattle.stab.proofs.Tests.{below_tests}
use Rattle.stab.proofs.Decoded.{formed_as}
use Rattle.tidied.specs.Tidied.{through, renumbered_as, renumbered}

-- ---- numbers put through

pub through_pos : (new : ℕ → ℕ) (k : ℕ) → through new (pos k) ≡ pos (new k)
unfolding through nat
through_pos new k = if_true (le_z (pos 0) (pos k)) _ _ (le_of (num 0) (num k) (omega arith))

pub through_below : (new : ℕ → ℕ) (n : ℕ) (z : ℤ) → below n z ≡ true → through new z ≡ pos (new (nat z))
through_below new n z h = ap (through new) (sym (below_pos n z h)) ∙ through_pos new (nat z)

pub through_negative : (new : ℕ → ℕ) (z : ℤ) → le_z (pos 0) z ≡ false → through new z ≡ z
unfolding through
through_negative new z h = if_false (le_z (pos 0) z) _ _ h

-- numbers that stay
pub through_itself : (z : ℤ) → through (λ x. x) z ≡ z
unfolding through
through_itself z =
    ⊎_elim (λ e. if_true (le_z (pos 0) z) _ _ e ∙ nat_pos z e) (λ e. if_false (le_z (pos 0) z) _ _ e) (decide (le_z (pos 0) z))

-- ---- the parts of a row

-- row w points to row q
abbrev pub PointsAs : Row → Kind → ℕ → Type 0
PointsAs w (constant v) q = ⊥
PointsAs w (literal v) q = ⊥
PointsAs w (junction o) q = (w.a ≡ pos q) ⊎ (w.b ≡ pos q)
PointsAs w (iteration o) q = w.a ≡ pos q
PointsAs w unknown q = ⊥

abbrev pub Points : Row → ℕ → Type 0
Points w q = PointsAs w (kind_of w.kind) q

-- n rows stand in another table under new numbers
pub record Moves (rows rows' : ℕ → Row) (n : ℕ) (new : ℕ → ℕ) : Type 0 where
  pub same : (r : ℕ) → r < n → rows' (new r) ≡ renumbered new (rows r)
  -- what a row points to stands before it
  pub ordered : (r q : ℕ) → r < n → Points (rows r) q → q < r → new q < new r

pub kind_kept : (new : ℕ → ℕ) (w : Row) (k : Kind) → (renumbered_as new w k).kind ≡ w.kind
unfolding renumbered_as
kind_kept new w (constant v) = refl
kind_kept new w (literal v) = refl
kind_kept new w (junction o) = refl
kind_kept new w (iteration o) = refl
kind_kept new w unknown = refl

pub renumbered_kind : (new : ℕ → ℕ) (w : Row) → (renumbered new w).kind ≡ w.kind
unfolding renumbered
renumbered_kind new w = kind_kept new w (kind_of w.kind)

-- a row that is known by its kind
pub renumbered_as_lem : (new : ℕ → ℕ) (w : Row) (k : Kind) → kind_of w.kind ≡ k → renumbered new w ≡ renumbered_as new w k
unfolding renumbered
renumbered_as_lem new w k e = ap (renumbered_as new w) e

module _ {rows rows' : ℕ → Row} {n : ℕ} {new : ℕ → ℕ} (M : Moves rows rows' n new) where
  -- the kind of a moved row
  pub moved_kind : (r : ℕ) → r < n → (rows' (new r)).kind ≡ (rows r).kind
  moved_kind r h = ap (λ (w : Row). w.kind) (M.same r h) ∙ renumbered_kind new (rows r)

  -- a moved row by its kind
  pub moved_as : (r : ℕ) → r < n → (k : Kind) → kind_of (rows r).kind ≡ k → rows' (new r) ≡ renumbered_as new (rows r) k
  moved_as r h k e = M.same r h ∙ renumbered_as_lem new (rows r) k e

  -- a part of row r, put through, stands before it
  pub part_below : (r : ℕ) → r < n → (z : ℤ) → below r z ≡ true → Points (rows r) (nat z) → below (new r) (through new z) ≡ true
  part_below r h z b p =
      subst (λ (y : ℤ). below (new r) y ≡ true) (sym (through_below new r z b))
      (below_of (new r) (new (nat z)) (M.ordered r (nat z) h p (below_nat r z b)))

  part_moved : (r : ℕ) → r < n → ((a : ℕ) → a < r → tree rows' (new a) ≡ tree rows a) → (z : ℤ) → below r z ≡ true → Points (rows r) (nat z)
      → part (new r) (tree rows') (through new z) ≡ part r (tree rows) z
  unfolding nat
  part_moved r h smaller z b p =
      part_of (new r) (tree rows') (through new z) (part_below r h z b p)
      ∙ ap (λ (y : ℤ). tree rows' (nat y)) (through_below new r z b)
      ∙ smaller (nat z) (below_nat r z b)
      ∙ sym (part_of r (tree rows) z b)

  points_left : (r : ℕ) (o : Op) → kind_of (rows r).kind ≡ junction o → below r (rows r).a ≡ true → Points (rows r) (nat (rows r).a)
  points_left r o e b =
      subst (λ (k : Kind). PointsAs (rows r) k (nat (rows r).a)) (sym e) (inl (sym (below_pos r (rows r).a b)))

  points_right : (r : ℕ) (o : Op) → kind_of (rows r).kind ≡ junction o → below r (rows r).b ≡ true → Points (rows r) (nat (rows r).b)
  points_right r o e b =
      subst (λ (k : Kind). PointsAs (rows r) k (nat (rows r).b)) (sym e) (inr (sym (below_pos r (rows r).b b)))

  points_body : (r : ℕ) (o : Op) → kind_of (rows r).kind ≡ iteration o → below r (rows r).a ≡ true → Points (rows r) (nat (rows r).a)
  points_body r o e b =
      subst (λ (k : Kind). PointsAs (rows r) k (nat (rows r).a)) (sym e) (sym (below_pos r (rows r).a b))

  decode_moved : (r : ℕ) → r < n → ((a : ℕ) → a < r → tree rows' (new a) ≡ tree rows a) → (k : Kind) → kind_of (rows r).kind ≡ k → well_formed_as rows r (rows r) k ≡ true
      → decode (new r) (renumbered_as new (rows r) k) k (tree rows') ≡ decode r (rows r) k (tree rows)
  unfolding decode renumbered_as well_formed_as
  decode_moved r h smaller (constant v) e f = refl
  decode_moved r h smaller (literal v) e f = refl
  decode_moved r h smaller (junction o) e f =
      let left = and_left (below r (rows r).a) _ f in
      let right = and_left (below r (rows r).b) _ (and_right (below r (rows r).a) _ f) in
      ap₂ (join o) (part_moved r h smaller (rows r).a left (points_left r o e left)) (part_moved r h smaller (rows r).b right (points_right r o e right))
  decode_moved r h smaller (iteration o) e f =
      let body = and_left (below r (rows r).a) _ f in
      ap (λ (g : Formula). iter o g (rows r).b (rows r).c) (part_moved r h smaller (rows r).a body (points_body r o e body))
  decode_moved r h smaller unknown e f = refl

  -- a moved row has the formula that it had
  pub tree_moved : ((r : ℕ) → r < n → well_formed rows r ≡ true) → (r : ℕ) → r < n → tree rows' (new r) ≡ tree rows r
  tree_moved formed r h = go (suc r) r (omega arith) h
    where
      go : (k a : ℕ) → a < k → a < n → tree rows' (new a) ≡ tree rows a
      go zero a p q = absurd (omega arith)
      go (suc k) a p q =
          tree_is rows' (new a)
          ∙ ap (λ (w : Row). decode (new a) w (kind_of w.kind) (tree rows')) (moved_as a q (kind_of (rows a).kind) refl)
          ∙ ap (λ (k : Kind). decode (new a) (renumbered_as new (rows a) (kind_of (rows a).kind)) k (tree rows')) (ap kind_of (kind_kept new (rows a) (kind_of (rows a).kind)))
          ∙ decode_moved a q (λ b m. go k b (omega arith) (omega arith)) (kind_of (rows a).kind) refl (formed_as rows a (kind_of (rows a).kind) refl (formed a q))
          ∙ sym (tree_is rows a)

  -- a moved row keeps what it kept of its kind
  formed_by : ((r : ℕ) → r < n → well_formed rows r ≡ true) → (r : ℕ) → r < n → (k : Kind) → kind_of (rows r).kind ≡ k → FormedAs rows r (rows r) k → FormedAs rows' (new r) (renumbered_as new (rows r) k) k
  unfolding renumbered_as nat
  formed_by formed r h (constant v) e f = f
  formed_by formed r h (literal v) e f = f
  formed_by formed r h (junction o) e (left, (right, (zero-c, mixed))) =
      let l = (below_tests r (rows r).a).1 left in
      let m = (below_tests r (rows r).b).1 right in (
        (below_tests (new r) _).0 (part_below r h (rows r).a l (points_left r o e l)),
        (
          (below_tests (new r) _).0 (part_below r h (rows r).b m (points_right r o e m)),
          (zero-c, rw (tree_moved formed r h) mixed),
        ),
      )
  formed_by formed r h (iteration o) e (body, (first, (limit, free))) =
      let l = (below_tests r (rows r).a).1 body in
      let b : nat (rows r).a < r = below_nat r (rows r).a l in (
        (below_tests (new r) _).0 (part_below r h (rows r).a l (points_body r o e l)),
        (first, (limit, rw (ap nat (through_below new r (rows r).a l), tree_moved formed (nat (rows r).a) (omega arith)) free)),
      )
  formed_by formed r h unknown e f = absurd f

  -- and is well formed
  pub formed_moved : ((r : ℕ) → r < n → well_formed rows r ≡ true) → (r : ℕ) → r < n → FormedAs rows r (rows r) (kind_of (rows r).kind) → FormedAs rows' (new r) (rows' (new r)) (kind_of (rows' (new r)).kind)
  formed_moved formed r h f =
      let k = kind_of (rows r).kind in
      subst (λ (w : Row). FormedAs rows' (new r) w (kind_of w.kind)) (sym (moved_as r h k refl))
      (subst (FormedAs rows' (new r) (renumbered_as new (rows r) k)) (ap kind_of (sym (kind_kept new (rows r) k))) (formed_by formed r h k refl f))
