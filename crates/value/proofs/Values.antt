-- The value of a row by its columns, and of a range by its parts.
use Prim.Native.Nat.{ℕ, zero, suc, ◌+◌, ◌-◌, ◌<◌, ◌≤◌}
use native.Mathlib.Omega.{arith}
use native.Mathlib.Nat.{add-zero, add-suc}
use native.Mathlib.Decide.{dec_lt}
use mathlib.Core.Path.{◌≡◌, refl, sym, ◌∙◌, ap, ap₂}
use mathlib.Core.List.{List}
use mathlib.Core.Bool.{Bool, true, false, not, beq, true≢false, false≢true}
use lib.Dec.{eqb}
use lib.IntN.{ℤ, pos, negsuc, ◌+ℤ◌, ◌-ℤ◌, +ℤ_idl}
use Rattle.stab.specs.Basic.{◌and◌, ◌or◌, eq_z, nat, below, within}
use Rattle.stab.specs.Formula.{Row, Op, conj, disj, Kind, constant, literal, junction, iteration, unknown, kind_of, nothing, parameter, index, base_of, Formula, decode, tree, offset, is_body, mixes, well_formed_as, well_formed}
use Rattle.stab.specs.Meaning.{Assignment, base, signed, op, empty, over, range_size, value}
use Rattle.stab.proofs.Bools.{and_left, and_right, if_true, if_false}
use Rattle.stab.proofs.Whole.{atom, num, ◌⊕◌, ◌⊖◌, eq_of, of_eq, plus_nat, eq_z_not, minus_nat}
use Rattle.stab.proofs.Decoded.{formed_as}
use Rattle.stab.proofs.Trees.{part_of, tree_is}
use Rattle.formula.proofs.RowLaws.{unknown_kind}
use Rattle.pairs.specs.Index.{unbiased, ReachedRange}
use Rattle.pairs.specs.Reading.{Readable, op_of, symbol_value}
use Rattle.pairs.proofs.Parts.{within_under, within_nat, unbiased_zero, unbiased_more, size_is}

-- ---- kinds by their numbers

kind_nat : (z : ℤ) → (kind_of z ≡ unknown → ⊥) → kind_of z ≡ kind_of (pos (nat z))
unfolding kind_of eq_z nat
kind_nat (pos m) h = refl
kind_nat (negsuc m) h = absurd (h refl)

kind_small : (z : ℤ) → (kind_of z ≡ unknown → ⊥) → nat z < 8
unfolding nat
kind_small z h = go (dec_lt (nat z) 8)
  where
    go : Dec (nat z < 8) → nat z < 8
    go (yes p) = p
    go (no p) = absurd (h (kind_nat z h ∙ unknown_kind (nat z) (omega arith)))

constant_number : (m : ℕ) → m < 2 → kind_of (pos m) ≡ constant (eqb m 0)
unfolding kind_of eq_z
constant_number zero h = refl
constant_number (suc zero) h = refl
constant_number (suc (suc m)) h = absurd (omega arith)

literal_number : (m : ℕ) → 2 ≤ m → m < 4 → kind_of (pos m) ≡ literal (eqb m 2)
unfolding kind_of eq_z
literal_number zero l h = absurd (omega arith)
literal_number (suc zero) l h = absurd (omega arith)
literal_number (suc (suc zero)) l h = refl
literal_number (suc (suc (suc zero))) l h = refl
literal_number (suc (suc (suc (suc m)))) l h = absurd (omega arith)

junction_number : (m : ℕ) → 4 ≤ m → m < 6 → kind_of (pos m) ≡ junction (op_of (eqb m 5))
unfolding kind_of eq_z op_of
junction_number zero l h = absurd (omega arith)
junction_number (suc zero) l h = absurd (omega arith)
junction_number (suc (suc zero)) l h = absurd (omega arith)
junction_number (suc (suc (suc zero))) l h = absurd (omega arith)
junction_number (suc (suc (suc (suc zero)))) l h = refl
junction_number (suc (suc (suc (suc (suc zero))))) l h = refl
junction_number (suc (suc (suc (suc (suc (suc m)))))) l h = absurd (omega arith)

iteration_number : (m : ℕ) → 6 ≤ m → m < 8 → kind_of (pos m) ≡ iteration (op_of (eqb m 7))
unfolding kind_of eq_z op_of
iteration_number zero l h = absurd (omega arith)
iteration_number (suc zero) l h = absurd (omega arith)
iteration_number (suc (suc zero)) l h = absurd (omega arith)
iteration_number (suc (suc (suc zero))) l h = absurd (omega arith)
iteration_number (suc (suc (suc (suc zero)))) l h = absurd (omega arith)
iteration_number (suc (suc (suc (suc (suc zero))))) l h = absurd (omega arith)
iteration_number (suc (suc (suc (suc (suc (suc zero)))))) l h = refl
iteration_number (suc (suc (suc (suc (suc (suc (suc zero))))))) l h = refl
iteration_number (suc (suc (suc (suc (suc (suc (suc (suc m)))))))) l h = absurd (omega arith)

-- ---- a well-formed row

module _ (rows : ℕ → Row) (r : ℕ) (formed : well_formed rows r ≡ true) where
  known : kind_of (rows r).kind ≡ unknown → ⊥
  unfolding well_formed well_formed_as
  known e = false≢true (sym (ap (well_formed_as rows r (rows r)) e) ∙ formed)

  kind_at : (m : ℕ) (k : Kind) → m ≡ nat (rows r).kind → kind_of (pos m) ≡ k → kind_of (rows r).kind ≡ k
  kind_at m k e h = kind_nat (rows r).kind known ∙ ap (λ (j : ℕ). kind_of (pos j)) (sym e) ∙ h

  kind_below : nat (rows r).kind < 8
  kind_below = kind_small (rows r).kind known

  value_as : (k : Kind) (σ : Assignment) (n : ℕ) (i : ℤ) → kind_of (rows r).kind ≡ k → value σ n (tree rows r) i ≡ value σ n (decode r (rows r) k (tree rows)) i
  value_as k σ n i e =
      ap (λ (f : Formula). value σ n f i) (tree_is rows r ∙ ap (λ (j : Kind). decode r (rows r) j (tree rows)) e)

  -- m is the number of the row's kind
  module _ (m : ℕ) (e : m ≡ nat (rows r).kind) where
    pub is_constant : m < 2 → kind_of (rows r).kind ≡ constant (eqb m 0)
    is_constant h = kind_at m _ e (constant_number m h)

    pub value_constant : m < 2 → (σ : Assignment) (n : ℕ) (i : ℤ) → value σ n (tree rows r) i ≡ eqb m 0
    unfolding decode value
    value_constant h σ n i = value_as (constant (eqb m 0)) σ n i (is_constant h)

    -- ---- literals

    pub is_literal : 2 ≤ m → m < 4 → kind_of (rows r).kind ≡ literal (eqb m 2)
    is_literal l h = kind_at m _ e (literal_number m l h)

    literal_formed : 2 ≤ m → m < 4 → (within (pos 0) (pos 255) (rows r).a and within (pos 0) (pos 2) (rows r).b and offset (rows r).c) ≡ true
    unfolding well_formed_as
    literal_formed l h = formed_as rows r (literal (eqb m 2)) (is_literal l h) formed

    pub literal_symbol : 2 ≤ m → m < 4 → within (pos 0) (pos 255) (rows r).a ≡ true
    literal_symbol l h = and_left (within (pos 0) (pos 255) (rows r).a) _ (literal_formed l h)

    pub literal_base : 2 ≤ m → m < 4 → within (pos 0) (pos 2) (rows r).b ≡ true
    literal_base l h =
        and_left (within (pos 0) (pos 2) (rows r).b) _
        (and_right (within (pos 0) (pos 255) (rows r).a) _ (literal_formed l h))

    pub literal_offset : 2 ≤ m → m < 4 → offset (rows r).c ≡ true
    literal_offset l h =
        and_right (within (pos 0) (pos 2) (rows r).b) _
        (and_right (within (pos 0) (pos 255) (rows r).a) _ (literal_formed l h))

    pub value_literal : 2 ≤ m → m < 4 → (σ : Assignment) (n : ℕ) (i : ℤ) → value σ n (tree rows r) i ≡ signed (eqb m 2) (symbol_value σ n (rows r) i)
    unfolding decode value symbol_value
    value_literal l h σ n i = value_as (literal (eqb m 2)) σ n i (is_literal l h)

    -- ---- and, or

    pub is_junction : 4 ≤ m → m < 6 → kind_of (rows r).kind ≡ junction (op_of (eqb m 5))
    is_junction l h = kind_at m _ e (junction_number m l h)

    junction_formed : 4 ≤ m → m < 6 → (below r (rows r).a and below r (rows r).b and eq_z (rows r).c (pos 0) and not (mixes (tree rows r))) ≡ true
    unfolding well_formed_as
    junction_formed l h = formed_as rows r (junction (op_of (eqb m 5))) (is_junction l h) formed

    pub junction_left : 4 ≤ m → m < 6 → below r (rows r).a ≡ true
    junction_left l h = and_left (below r (rows r).a) _ (junction_formed l h)

    pub junction_right : 4 ≤ m → m < 6 → below r (rows r).b ≡ true
    junction_right l h = and_left (below r (rows r).b) _ (and_right (below r (rows r).a) _ (junction_formed l h))

    pub value_junction : 4 ≤ m → m < 6 → (σ : Assignment) (n : ℕ) (i : ℤ) → value σ n (tree rows r) i ≡ op (op_of (eqb m 5)) (value σ n (tree rows (nat (rows r).a)) i) (value σ n (tree rows (nat (rows r).b)) i)
    unfolding decode value
    value_junction l h σ n i =
        value_as (junction (op_of (eqb m 5))) σ n i (is_junction l h)
        ∙ ap₂ (λ (f g : Formula). op (op_of (eqb m 5)) (value σ n f i) (value σ n g i))
        (part_of r (tree rows) (rows r).a (junction_left l h))
        (part_of r (tree rows) (rows r).b (junction_right l h))

    -- ---- big and, big or

    pub is_iteration : 6 ≤ m → kind_of (rows r).kind ≡ iteration (op_of (eqb m 7))
    is_iteration l = kind_at m _ e (iteration_number m l (omega (arith, kind_below)))

    iteration_formed : 6 ≤ m → (below r (rows r).a and offset (rows r).b and offset (rows r).c and is_body (tree rows (nat (rows r).a))) ≡ true
    unfolding well_formed_as
    iteration_formed l = formed_as rows r (iteration (op_of (eqb m 7))) (is_iteration l) formed

    pub iteration_body : 6 ≤ m → below r (rows r).a ≡ true
    iteration_body l = and_left (below r (rows r).a) _ (iteration_formed l)

    iteration_offsets : 6 ≤ m → (offset (rows r).b and offset (rows r).c and is_body (tree rows (nat (rows r).a))) ≡ true
    iteration_offsets l = and_right (below r (rows r).a) _ (iteration_formed l)

    pub iteration_start : 6 ≤ m → offset (rows r).b ≡ true
    iteration_start l = and_left (offset (rows r).b) _ (iteration_offsets l)

    pub iteration_end : 6 ≤ m → offset (rows r).c ≡ true
    iteration_end l = and_left (offset (rows r).c) _ (and_right (offset (rows r).b) _ (iteration_offsets l))

    pub value_iteration : 6 ≤ m → (σ : Assignment) (n : ℕ) (i : ℤ) → value σ n (tree rows r) i ≡ over (op_of (eqb m 7)) (value σ n (tree rows (nat (rows r).a))) (rows r).b (range_size (rows r).b (pos n -ℤ (rows r).c))
    unfolding decode value
    value_iteration l σ n i =
        value_as (iteration (op_of (eqb m 7))) σ n i (is_iteration l)
        ∙ ap (λ (f : Formula). over (op_of (eqb m 7)) (value σ n f) (rows r).b (range_size (rows r).b (pos n -ℤ (rows r).c)))
        (part_of r (tree rows) (rows r).a (iteration_body l))

-- ---- what a literal's c is added to

pub base_nothing : (n : ℕ) (i z : ℤ) → eq_z z (pos 0) ≡ true → base n i (base_of z) ≡ pos 0
unfolding base base_of
base_nothing n i z h = ap (base n i) (if_true (eq_z z (pos 0)) nothing _ h)

pub base_parameter : (n : ℕ) (i z : ℤ) → eq_z z (pos 0) ≡ false → eq_z z (pos 1) ≡ true → base n i (base_of z) ≡ pos n
unfolding base base_of
base_parameter n i z h k = ap (base n i) (if_false (eq_z z (pos 0)) nothing _ h ∙ if_true (eq_z z (pos 1)) parameter index k)

pub base_index : (n : ℕ) (i z : ℤ) → eq_z z (pos 0) ≡ false → eq_z z (pos 1) ≡ false → base n i (base_of z) ≡ i
unfolding base base_of
base_index n i z h k = ap (base n i) (if_false (eq_z z (pos 0)) nothing _ h ∙ if_false (eq_z z (pos 1)) parameter index k)

-- the same by the number that says it: one below 2 leaves i out
pub base_fixed : (n : ℕ) (i j z : ℤ) → within (pos 0) (pos 2) z ≡ true → nat z < 2 → base n i (base_of z) ≡ base n j (base_of z)
unfolding base base_of eq_z nat within ◌and◌
base_fixed n i j (pos zero) h l = refl
base_fixed n i j (pos (suc zero)) h l = refl
base_fixed n i j (pos (suc (suc m))) h l = absurd (omega arith)
base_fixed n i j (negsuc m) h l = absurd (false≢true h)

pub base_moves : (n : ℕ) (i z : ℤ) → 2 ≤ nat z → base n i (base_of z) ≡ i
unfolding nat
base_moves n i z h =
    base_index n i z
    (eq_z_not z (pos 0) (λ e. omega (arith, ap nat e)))
    (eq_z_not z (pos 1) (λ e. omega (arith, ap nat e)))

-- a literal's value from its symbol's
pub signed_true : (v w : Bool) → v ≡ true → signed v w ≡ w
unfolding signed
signed_true true w h = refl
signed_true false w h = absurd (false≢true h)

pub signed_false : (v w : Bool) → v ≡ false → signed v w ≡ not w
unfolding signed
signed_false true w h = absurd (true≢false h)
signed_false false w h = refl

-- ---- and and or

-- a first part that settles the whole, and one that leaves it to the second
pub op_decided : (any v w : Bool) → beq v any ≡ true → op (op_of any) v w ≡ v
unfolding op op_of ◌and◌ ◌or◌
op_decided true true w h = refl
op_decided true false w h = absurd (false≢true h)
op_decided false true w h = absurd (false≢true h)
op_decided false false w h = refl

pub op_open : (any v w : Bool) → beq v any ≡ false → op (op_of any) v w ≡ w
unfolding op op_of ◌and◌ ◌or◌
op_open true true w h = absurd (true≢false h)
op_open true false w h = refl
op_open false true w h = refl
op_open false false w h = absurd (true≢false h)

op_assoc : (o : Op) (u v w : Bool) → op o (op o u v) w ≡ op o u (op o v w)
unfolding op ◌and◌ ◌or◌
op_assoc conj true v w = refl
op_assoc conj false v w = refl
op_assoc disj true v w = refl
op_assoc disj false v w = refl

op_empty : (o : Op) (v : Bool) → op o v (empty o) ≡ v
unfolding op empty ◌and◌ ◌or◌
op_empty conj true = refl
op_empty conj false = refl
op_empty disj true = refl
op_empty disj false = refl

-- ---- ranges

pub over_none : (any : Bool) (p : ℤ → Bool) (b : ℤ) → over (op_of any) p b 0 ≡ not any
unfolding over op_of empty
over_none true p b = refl
over_none false p b = refl

pub over_split : (o : Op) (p : ℤ → Bool) (b : ℤ) (j k : ℕ) → over o p b (j + k) ≡ op o (over o p b j) (over o p (b +ℤ pos j) k)
unfolding over
over_split o p b j zero = ap (over o p b) (add-zero j) ∙ sym (op_empty o (over o p b j))
over_split o p b j (suc k) =
    ap (over o p b) (add-suc j k)
    ∙ ap₂ (op o) (over_split o p b j k) (ap p (eq_of (atom b ⊕ num (j + k)) (atom b ⊕ num j ⊕ num k) (omega arith)))
    ∙ op_assoc o (over o p b j) (over o p (b +ℤ pos j) k) (p ((b +ℤ pos j) +ℤ pos k))

-- a range in two parts, the first of j numbers
pub over_parts : (o : Op) (p : ℤ → Bool) (x j k : ℕ) → j ≤ k → over o p (unbiased x) k ≡ op o (over o p (unbiased x) j) (over o p (unbiased (x + j)) (k - j))
over_parts o p x j k h =
    let e : k ≡ j + (k - j) = omega arith in
    ap (over o p (unbiased x)) e
    ∙ over_split o p (unbiased x) j (k - j)
    ∙ ap (λ (z : ℤ). op o (over o p (unbiased x) j) (over o p z (k - j))) (sym (unbiased_more x j))

-- ---- the range of an iteration

module _ (x : ℕ) (b : ℤ) (e : unbiased x ≡ (unbiased 65536 +ℤ b)) where
  pub first_is : unbiased x ≡ b
  first_is = e ∙ ap (λ (z : ℤ). z +ℤ b) unbiased_zero ∙ +ℤ_idl b

  pub range_reached : (n : ℕ) (c : ℤ) → n ≤ 9999 → offset b ≡ true → offset c ≡ true → ReachedRange x (range_size b (pos n -ℤ c))
  unfolding unbiased offset
  range_reached n c h p q =
      let first = of_eq (num x ⊖ num 65536) (atom b) first_is in
      omega (arith, first, size_is n b c, plus_nat b, minus_nat b, within_under 9999 9999 b p, within_nat 9999 9999 b p, within_under 9999 9999 c q)

-- ---- a smaller row

pub readable_below : (schema : List ℤ) (f g n : ℕ) (pairs : List ℤ) (count : ℕ) → Readable schema f n pairs count → g < f → Readable schema g n pairs count
readable_below schema f g n pairs count h p =
    record {
      row = omega (arith, h.row);
      formed = λ r q. h.formed r (omega arith);
      width = h.width;
      few = h.few;
      sorted = h.sorted;
    }
