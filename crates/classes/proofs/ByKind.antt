-- A well-formed row by its kind: its formula, its shift, and what formulas of one class have in common.
use Prim.Native.Nat.{ℕ, zero, suc, ◌≤◌, ◌<◌}
use native.Mathlib.Omega.{arith}
use mathlib.Core.Path.{◌≡◌, refl, sym, ◌∙◌, ap, subst}
use mathlib.Core.Bool.{Bool, true, false, false≢true}
use mathlib.Core.Option.{Option, some}
use lib.IntN.{ℤ, pos, neg_ℤ}
use Rattle.stab.specs.Basic.{eq_z, within, nat, below}
use Rattle.stab.specs.Formula.{Row, Op, conj, disj, Kind, constant, literal, junction, iteration, unknown, kind_of, Base, nothing, parameter, index, base_of, Formula, const, lit, join, iter, tree, fixed, is_body, offset, well_formed_as, well_formed}
use Rattle.stab.specs.Alike.{lower, instance, instance_lit}
use Rattle.stab.specs.Keeps.{Alike, itself, sides, left, right, inside, next}
use Rattle.stab.proofs.Bools.{and_left, and_right, false_of_not}
use Rattle.stab.proofs.Trees.{below_nat}
use Rattle.stab.proofs.Decoded.{formed_as, tree_constant, tree_literal, left_below, right_below, tree_junction, body_below, body_is, tree_iteration}
use Rattle.stab.proofs.Alikes.{alike_tests}
use Rattle.formula.specs.Facts.{AllFormed}
use Rattle.formula.proofs.RowLaws.{kind_negative, kind_natural, constant_kind, literal_kind, junction_kind, iteration_kind, unknown_kind}
use Rattle.classes.specs.Class.{ground, lesser, off_lit, off, level, akin, shift_code}
use Rattle.classes.proofs.Shifts.{Coded, offset_stands, limit_stands, lesser_coded}

-- ---- the head of a formula

head_of : Formula → Kind
head_of (const v) = constant v
head_of (lit v s x c) = literal v
head_of (join o f g) = junction o
head_of (iter o f b c) = iteration o

head_kept : {f g : Formula} → Alike f g → head_of f ≡ head_of g
unfolding head_of
head_kept itself = refl
head_kept sides = refl
head_kept (left p) = refl
head_kept (right p) = refl
head_kept (inside p) = refl
head_kept (next p q) = head_kept p ∙ head_kept q

head_lower : (k : ℤ) (f : Formula) → head_of (lower k (ground f)) ≡ head_of f
unfolding head_of lower instance instance_lit
head_lower k (const v) = refl
head_lower k (lit v s nothing c) = refl
head_lower k (lit v s parameter c) = refl
head_lower k (lit v s index c) = refl
head_lower k (join o f g) = refl
head_lower k (iter o f b c) = refl

akin_head : (f g : Formula) → akin f g ≡ true → head_of f ≡ head_of g
unfolding akin level
akin_head f g h = sym (head_lower _ f) ∙ head_kept ((alike_tests _ _).0 h) ∙ head_lower _ g

-- ---- kinds and their numbers

number : Kind → ℕ
number (constant true) = 0
number (constant false) = 1
number (literal true) = 2
number (literal false) = 3
number (junction conj) = 4
number (junction disj) = 5
number (iteration conj) = 6
number (iteration disj) = 7
number unknown = 8

number_of : (k : ℕ) → k < 8 → number (kind_of (pos k)) ≡ k
unfolding number kind_of eq_z
number_of zero l = refl
number_of (suc zero) l = refl
number_of (suc (suc zero)) l = refl
number_of (suc (suc (suc zero))) l = refl
number_of (suc (suc (suc (suc zero)))) l = refl
number_of (suc (suc (suc (suc (suc zero))))) l = refl
number_of (suc (suc (suc (suc (suc (suc zero)))))) l = refl
number_of (suc (suc (suc (suc (suc (suc (suc zero))))))) l = refl
number_of (suc (suc (suc (suc (suc (suc (suc (suc k)))))))) l = absurd (omega arith)

module _ (rows : ℕ → Row) (r : ℕ) (h : well_formed rows r ≡ true) where
  pub known : kind_of (rows r).kind ≡ unknown → ⊥
  unfolding well_formed_as
  known e = false≢true (formed_as rows r unknown e h)

  kind_nat : kind_of (pos (nat (rows r).kind)) ≡ kind_of (rows r).kind
  kind_nat = kind_natural (rows r).kind (not_negative _ λ l. known (sym (kind_negative (rows r).kind l) ∙ unknown_kind 8 (omega arith)))
    where
      not_negative : (n : ℕ) → (0 < n → ⊥) → n ≤ 0
      not_negative n f = omega (arith, f)

  pub kind_small : nat (rows r).kind < 8
  kind_small = below_8 _ λ l. known (sym kind_nat ∙ unknown_kind _ l)
    where
      below_8 : (n : ℕ) → (8 ≤ n → ⊥) → n < 8
      below_8 n f = omega (arith, f)

  kind_number : number (kind_of (rows r).kind) ≡ nat (rows r).kind
  kind_number = ap number (sym kind_nat) ∙ number_of _ kind_small

  pub is_constant : nat (rows r).kind < 2 → (v : Bool) × (kind_of (rows r).kind ≡ constant v)
  is_constant l = let k = constant_kind _ l in (k.0, sym kind_nat ∙ k.1)

  pub is_literal : 2 ≤ nat (rows r).kind → nat (rows r).kind < 4 → (v : Bool) × (kind_of (rows r).kind ≡ literal v)
  is_literal p l = let k = literal_kind _ p l in (k.0, sym kind_nat ∙ k.1)

  pub is_junction : 4 ≤ nat (rows r).kind → nat (rows r).kind < 6 → (o : Op) × (kind_of (rows r).kind ≡ junction o)
  is_junction p l = let k = junction_kind _ p l in (k.0, sym kind_nat ∙ k.1)

  pub is_iteration : 6 ≤ nat (rows r).kind → (o : Op) × (kind_of (rows r).kind ≡ iteration o)
  is_iteration p = let k = iteration_kind _ p kind_small in (k.0, sym kind_nat ∙ k.1)

  head_kind : (k : Kind) → kind_of (rows r).kind ≡ k → head_of (tree rows r) ≡ k
  unfolding head_of
  head_kind (constant v) e = ap head_of (tree_constant rows r v e)
  head_kind (literal v) e = ap head_of (tree_literal rows r v e)
  head_kind (junction o) e = ap head_of (tree_junction rows r o e h)
  head_kind (iteration o) e = ap head_of (tree_iteration rows r o e h)
  head_kind unknown e = absurd (known e)

-- ---- two rows of one class

module _ (rows : ℕ → Row) (q r : ℕ) (wq : well_formed rows q ≡ true) (wr : well_formed rows r ≡ true) where
  pub akin_kinds : akin (tree rows q) (tree rows r) ≡ true → kind_of (rows q).kind ≡ kind_of (rows r).kind
  akin_kinds h = sym (head_kind rows q wq _ refl) ∙ akin_head _ _ h ∙ head_kind rows r wr _ refl

  pub numbers_same : kind_of (rows q).kind ≡ kind_of (rows r).kind → nat (rows q).kind ≡ nat (rows r).kind
  numbers_same e = sym (kind_number rows q wq) ∙ ap number e ∙ kind_number rows r wr

  pub kinds_same : nat (rows q).kind ≡ nat (rows r).kind → kind_of (rows q).kind ≡ kind_of (rows r).kind
  kinds_same e = sym (kind_nat rows q wq) ∙ ap (λ (n : ℕ). kind_of (pos n)) e ∙ kind_nat rows r wr

-- ---- the columns of a well-formed row

module _ (rows : ℕ → Row) (r : ℕ) (h : well_formed rows r ≡ true) where
  module _ (v : Bool) (e : kind_of (rows r).kind ≡ literal v) where
    pub symbol_within : within (pos 0) (pos 255) (rows r).a ≡ true
    unfolding well_formed_as
    symbol_within = and_left _ _ (formed_as rows r (literal v) e h)

    pub base_within : within (pos 0) (pos 2) (rows r).b ≡ true
    unfolding well_formed_as
    base_within = and_left _ _ (and_right (within (pos 0) (pos 255) (rows r).a) _ (formed_as rows r (literal v) e h))

    pub added_offset : offset (rows r).c ≡ true
    unfolding well_formed_as
    added_offset = and_right (within (pos 0) (pos 2) (rows r).b) _ (and_right (within (pos 0) (pos 255) (rows r).a) _ (formed_as rows r (literal v) e h))

  module _ (o : Op) (e : kind_of (rows r).kind ≡ junction o) where
    pub left_less : nat (rows r).a < r
    left_less = below_nat r (rows r).a (left_below rows r o e h)

    pub right_less : nat (rows r).b < r
    right_less = below_nat r (rows r).b (right_below rows r o e h)

    pub off_junction : off (tree rows r) ≡ lesser (off (tree rows (nat (rows r).a))) (off (tree rows (nat (rows r).b)))
    unfolding off
    off_junction = ap off (tree_junction rows r o e h)

  module _ (o : Op) (e : kind_of (rows r).kind ≡ iteration o) where
    pub body_less : nat (rows r).a < r
    body_less = below_nat r (rows r).a (body_below rows r o e h)

    pub body_fixed : fixed (tree rows (nat (rows r).a)) ≡ false
    unfolding is_body
    body_fixed = false_of_not _ (body_is rows r o e h)

    pub first_offset : offset (rows r).b ≡ true
    unfolding well_formed_as
    first_offset = and_left _ _ (and_right (below r (rows r).a) _ (formed_as rows r (iteration o) e h))

    pub limit_offset : offset (rows r).c ≡ true
    unfolding well_formed_as
    limit_offset = and_left _ _ (and_right (offset (rows r).b) _ (and_right (below r (rows r).a) _ (formed_as rows r (iteration o) e h)))

    pub off_iteration : off (tree rows r) ≡ some (neg_ℤ (rows r).c)
    unfolding off
    off_iteration = ap off (tree_iteration rows r o e h)

-- ---- the shifts of well-formed rows

abbrev pub HasShift : (ℕ → Row) → ℕ → Type 0
HasShift rows r = Coded (off (tree rows r)) (shift_code (off (tree rows r)))

coded_as : {x y : Option ℤ} → x ≡ y → Coded y (shift_code y) → Coded x (shift_code x)
coded_as e h = subst (λ (z : Option ℤ). Coded z (shift_code z)) (sym e) h

literal_coded : (x : Base) (c : ℤ) → offset c ≡ true → Coded (off_lit x c) (shift_code (off_lit x c))
unfolding off_lit shift_code
literal_coded nothing c h = refl
literal_coded parameter c h = offset_stands c h
literal_coded index c h = offset_stands c h

shift_kind : (rows : ℕ → Row) (r : ℕ) (k : Kind) → kind_of (rows r).kind ≡ k → well_formed rows r ≡ true → ((a : ℕ) → a < r → HasShift rows a) → HasShift rows r
unfolding off shift_code
shift_kind rows r (constant v) e h f = coded_as (ap off (tree_constant rows r v e)) refl
shift_kind rows r (literal v) e h f = coded_as (ap off (tree_literal rows r v e)) (literal_coded (base_of (rows r).b) (rows r).c (added_offset rows r h v e))
shift_kind rows r (junction o) e h f = coded_as (off_junction rows r h o e) (lesser_coded _ _ (f _ (left_less rows r h o e)) (f _ (right_less rows r h o e)))
shift_kind rows r (iteration o) e h f = coded_as (off_iteration rows r h o e) (limit_stands (rows r).c (limit_offset rows r h o e))
shift_kind rows r unknown e h f = absurd (known rows r h e)

pub has_shift : (rows : ℕ → Row) (n : ℕ) → AllFormed rows n → (r : ℕ) → r < n → HasShift rows r
has_shift rows n h r p = go (suc r) r (omega arith) p
  where
    go : (k a : ℕ) → a < k → a < n → HasShift rows a
    go zero a q l = absurd (omega arith)
    go (suc k) a q l = shift_kind rows a (kind_of (rows a).kind) refl (h a l) (λ b m. go k b (omega arith) (omega arith))
