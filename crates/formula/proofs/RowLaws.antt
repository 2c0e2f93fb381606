-- Laws of formula rows: their columns as tests on naturals, their formulas by kind, and what is kept of them.
use Rattle.std.specs.Prelude.{if◌then◌else◌, None, Some, Option}
use Prim.Native.Nat.{ℕ, zero, suc, ◌+◌, ◌-◌, ◌*◌, ◌<◌, ◌≤◌, max}
use native.Mathlib.Omega.{arith}
use native.Mathlib.Numerals.{add-one}
use mathlib.Core.Path.{◌≡◌, refl, sym, ◌∙◌, ap, ap₂, subst}
use mathlib.Core.Bool.{Bool, true, false, false≢true, not}
use mathlib.Core.Logic.{◌⊎◌, inl, inr, ⊎_elim}
use mathlib.Core.List.{List}
use lib.Dec.{eqb, leb, ltb, leb-zero, leb-suc-suc}
use lib.ListN.{length}
use lib.IntN.{ℤ, pos, negsuc, neg_ℤ}
use borrow.Author.Tests.{eqb-true, eqb-false, le-leb, lt-leb, leb-true}
use Rattle.stab.specs.Basic.{◌and◌, ◌or◌, eq_z, within, nat, below, ◌otherwise◌, scan, unless}
use Rattle.stab.specs.Formula as F
use Rattle.stab.specs.Formula.{Row, Op, conj, disj, Kind, constant, literal, junction, iteration, unknown, kind_of, Base, nothing, parameter, index, base_of, Formula, lit, join, iter, decode, tree, on_index, is_body, mixes, offset, well_formed_as, well_formed, small_enough}
use Rattle.stab.specs.Check.{at_unless, whole_unless, row_refusal, root_fits}
use Rattle.stab.specs.Finding.{no_refusal, refuse, Place, Finding}
use Rattle.stab.specs.declared.Refusal.TheVariants.{Root, IllFormed, TooLarge}
use Rattle.stab.specs.declared.Refusal.{Refusal}
use Rattle.stab.proofs.Bools.{decide, and_both, and_left, and_right, and_first_false, if_false, not_of_false, not_of_true, false_of_not, true_of_not, otherwise_nothing, otherwise_found, otherwise_first, otherwise_second, nothing_unless, found_unless, unless_nothing, found≢nothing}
use Rattle.stab.proofs.Whole.{num, of_eq, eq_z_of, eq_z_not, nat_pos, at_least_0, below_0}
use Rattle.stab.proofs.Scans.{below_suc, scan_longer}
use Rattle.stab.proofs.Decoded.{decoded, junction_tree, iteration_tree}
use Rattle.stab.proofs.Trees.{below_nat}
use Rattle.formula.specs.Facts.{bit, Known}
use Rattle.formula.specs.Rows.{facts_of, facts_at, both_facts, over_facts, kept_facts, kept_if, facts_table_by, judged, constant_judged, literal_judged, unmixed, pair_judged, body_judged, judged_refusal, kept_judged, Summable, Passed}
use Rattle.formula.specs.declared.rows.Facts.{Facts}
use Rattle.formula.proofs.KeptLaws.{kept_other, kept_length, kept_first, kept_second, kept_third, kept_fourth}

-- ---- what a function said of a test, and the branch that it led to

pub fails : (v : Bool) {t : Bool} → v ≡ t → not v ≡ true → t ≡ false
fails v e h = sym e ∙ false_of_not v h

pub passes : (v : Bool) {t : Bool} → v ≡ t → not v ≡ false → t ≡ true
passes v e h = sym e ∙ true_of_not v h

-- ---- a whole number by its two naturals

pub below_negative : (m : ℕ) (z : ℤ) → 0 < nat (neg_ℤ z) → below m z ≡ false
unfolding below
below_negative m z h = and_first_false _ _ (below_0 z h)

pub below_pos_is : (m n : ℕ) → below m (pos n) ≡ ltb n m
unfolding below ◌and◌
below_pos_is m n = ap (λ (t : Bool). t and ltb n m) (leb-zero n)

pub below_natural : (m : ℕ) (z : ℤ) → nat (neg_ℤ z) ≤ 0 → below m z ≡ ltb (nat z) m
below_natural m z h = ap (below m) (sym (nat_pos z (at_least_0 z h))) ∙ below_pos_is m (nat z)

-- a range from 0 is a bound
pub within_below : (m : ℕ) (z : ℤ) → below (suc m) z ≡ within (pos 0) (pos m) z
unfolding below within
within_below m (pos n) = ap (λ (t : Bool). leb 0 n and t) (leb-suc-suc n m)
within_below m (negsuc n) = refl

pub offset_negative : (z : ℤ) → 9999 < nat (neg_ℤ z) → offset z ≡ false
unfolding offset within nat
offset_negative (pos zero) h = absurd (omega arith)
offset_negative (pos (suc n)) h = absurd (omega arith)
offset_negative (negsuc n) h = and_first_false (leb n 9998) _ (lt-leb n 9998 (omega arith))

pub offset_natural : (z : ℤ) → nat (neg_ℤ z) ≤ 9999 → offset z ≡ leb (nat z) 9999
unfolding offset within nat ◌and◌
offset_natural (pos n) h = refl
offset_natural (negsuc n) h = and_both (leb n 9998) _ (le-leb n 9998 (omega arith)) refl

at_most : (m n : ℕ) → (n < m → ⊥) → m ≤ n
at_most m n f = omega (arith, f)

-- an offset has small parts
pub offset_small : (z : ℤ) → offset z ≡ true → (nat z ≤ 9999) × (nat (neg_ℤ z) ≤ 9999)
offset_small z h =
    let u : nat (neg_ℤ z) ≤ 9999 = at_most _ _ (λ l. false≢true (sym (offset_negative z l) ∙ h)) in
    (leb-true (nat z) 9999 (sym (offset_natural z u) ∙ h), u)

-- a test of naturals that says what a test of whole numbers says
pub test_same : (m n : ℕ) (a b : ℤ) → (m ≡ n → a ≡ b) → (a ≡ b → m ≡ n) → eqb m n ≡ eq_z a b
test_same m n a b there back =
    ⊎_elim
    (λ e. e ∙ sym (eq_z_of a b (there (eqb-true m n e))))
    (λ e. e ∙ sym (eq_z_not a b (λ p. eqb-false m n e (back p))))
    (decide (eqb m n))

-- ---- kinds

pub kind_negative : (z : ℤ) → 0 < nat (neg_ℤ z) → kind_of (pos 8) ≡ kind_of z
unfolding kind_of eq_z nat
kind_negative (pos zero) h = absurd (omega arith)
kind_negative (pos (suc n)) h = absurd (omega arith)
kind_negative (negsuc n) h = refl

pub kind_natural : (z : ℤ) → nat (neg_ℤ z) ≤ 0 → kind_of (pos (nat z)) ≡ kind_of z
kind_natural z h = ap kind_of (nat_pos z (at_least_0 z h))

two : (k n : ℕ) → n ≤ k → k < n + 2 → (k ≡ n) ⊎ (k ≡ n + 1)
two k n l h = ⊎_elim (λ p. inl (omega arith)) (λ e. inr (omega arith)) (below_suc k (suc n) (omega arith))

-- the kinds come in pairs
by_two : (k n : ℕ) {A : Type 0} (f : A → Kind) (x y : A) → kind_of (pos n) ≡ f x → kind_of (pos (n + 1)) ≡ f y → n ≤ k → k < n + 2
    → (v : A) × (kind_of (pos k) ≡ f v)
by_two k n f x y p q l h =
    ⊎_elim
    (λ e. (x, ap (λ (m : ℕ). kind_of (pos m)) e ∙ p))
    (λ e. (y, ap (λ (m : ℕ). kind_of (pos m)) e ∙ q))
    (two k n l h)

pub constant_kind : (k : ℕ) → k < 2 → (v : Bool) × (kind_of (pos k) ≡ constant v)
unfolding kind_of eq_z
constant_kind k h = by_two k 0 constant true false refl refl (omega arith) (omega arith)

pub literal_kind : (k : ℕ) → 2 ≤ k → k < 4 → (v : Bool) × (kind_of (pos k) ≡ literal v)
unfolding kind_of eq_z
literal_kind k l h = by_two k 2 literal true false refl refl l h

pub junction_kind : (k : ℕ) → 4 ≤ k → k < 6 → (o : Op) × (kind_of (pos k) ≡ junction o)
unfolding kind_of eq_z
junction_kind k l h = by_two k 4 junction conj disj refl refl l h

pub iteration_kind : (k : ℕ) → 6 ≤ k → k < 8 → (o : Op) × (kind_of (pos k) ≡ iteration o)
unfolding kind_of eq_z
iteration_kind k l h = by_two k 6 iteration conj disj refl refl l h

apart : (k n : ℕ) → n < k → eq_z (pos k) (pos n) ≡ false
apart k n h = eq_z_not (pos k) (pos n) (λ e. omega (arith, of_eq (num k) (num n) e))

pub unknown_kind : (k : ℕ) → 8 ≤ k → kind_of (pos k) ≡ unknown
unfolding kind_of
unknown_kind k h =
    if_false (eq_z (pos k) (pos 0)) _ _ (apart k 0 (omega arith))
    ∙ if_false (eq_z (pos k) (pos 1)) _ _ (apart k 1 (omega arith))
    ∙ if_false (eq_z (pos k) (pos 2)) _ _ (apart k 2 (omega arith))
    ∙ if_false (eq_z (pos k) (pos 3)) _ _ (apart k 3 (omega arith))
    ∙ if_false (eq_z (pos k) (pos 4)) _ _ (apart k 4 (omega arith))
    ∙ if_false (eq_z (pos k) (pos 5)) _ _ (apart k 5 (omega arith))
    ∙ if_false (eq_z (pos k) (pos 6)) _ _ (apart k 6 (omega arith))
    ∙ if_false (eq_z (pos k) (pos 7)) _ _ (apart k 7 (omega arith))

-- what a literal is on, by two tests of b
pub on_index_is : (z : ℤ) (t u : Bool) → eq_z z (pos 0) ≡ t → eq_z z (pos 1) ≡ u → bit (on_index (base_of z)) ≡ bit (on_index (if t then nothing else if u then parameter else index))
unfolding base_of
on_index_is z t u p q = ap₂ (λ (v w : Bool). bit (on_index (if v then nothing else if w then parameter else index))) p q

-- ---- four numbers

pub facts_same : {f g : Facts} → f.size ≡ g.size → f.depth ≡ g.depth → f.loose ≡ g.loose → f.fixed ≡ g.fixed → f ≡ g
facts_same p q s t i = record { size = p i; depth = q i; loose = s i; fixed = t i }

pub bit_or_lem : (a b : Bool) → max (bit a) (bit b) ≡ bit (a or b)
unfolding bit ◌or◌
bit_or_lem true true = refl
bit_or_lem true false = refl
bit_or_lem false true = refl
bit_or_lem false false = refl

pub bit_small : (a : Bool) → bit a ≤ 1
unfolding bit
bit_small true = omega arith
bit_small false = omega arith

bit_not : (a : Bool) → 1 - bit a ≡ bit (not a)
unfolding bit
bit_not true = refl
bit_not false = refl

pub bit_zero : (a : Bool) → bit a ≡ 0 → a ≡ false
unfolding bit
bit_zero true h = absurd (omega arith)
bit_zero false h = refl

pub bit_one : (a : Bool) → (bit a ≡ 0 → ⊥) → a ≡ true
unfolding bit
bit_one true h = refl
bit_one false h = absurd (h refl)

-- the numbers of a literal, by what it is on
pub literal_facts : (v : Bool) (s : ℤ) (x : Base) (c : ℤ) {f : Facts}
    → f.size ≡ 1 → f.depth ≡ 1 → f.loose ≡ bit (on_index x) → f.fixed ≡ 1 - bit (on_index x) → f ≡ facts_of (lit v s x c)
unfolding facts_of F.size F.depth F.loose F.fixed
literal_facts v s x c p q l d = facts_same p q l (d ∙ bit_not (on_index x))

-- the numbers of an and or an or, by those of its parts
pub both_facts_lem : (o : Op) (x y : Formula) → both_facts (facts_of x) (facts_of y) ≡ facts_of (join o x y)
unfolding both_facts facts_of F.size F.depth F.loose F.fixed
both_facts_lem o x y = facts_same refl refl (bit_or_lem (F.loose x) (F.loose y)) (bit_or_lem (F.fixed x) (F.fixed y))

-- those of an iteration, by its body's
pub over_facts_lem : (o : Op) (x : Formula) (b c : ℤ) → over_facts (facts_of x) ≡ facts_of (iter o x b c)
unfolding over_facts facts_of F.size F.depth F.loose F.fixed bit
over_facts_lem o x b c = refl

-- what the number about literals on i says
module _ (x : Formula) {f : Facts} (e : f ≡ facts_of x) where
  pub loose_none : f.loose ≡ 0 → F.loose x ≡ false
  unfolding facts_of
  loose_none h = bit_zero (F.loose x) (sym (ap (λ (g : Facts). g.loose) e) ∙ h)

  pub loose_some : (f.loose ≡ 0 → ⊥) → F.loose x ≡ true
  unfolding facts_of
  loose_some h = bit_one (F.loose x) (λ b. h (ap (λ (g : Facts). g.loose) e ∙ b))

-- ---- one row, by its kind

module _ (rows : ℕ → Row) (r : ℕ) (k : Kind) (kind : kind_of (rows r).kind ≡ k) where
  pub formed_as : well_formed rows r ≡ well_formed_as rows r (rows r) k
  unfolding well_formed
  formed_as = ap (well_formed_as rows r (rows r)) kind

  pub ill : well_formed_as rows r (rows r) k ≡ false → None ≡ judged rows r
  unfolding judged
  ill h = sym (if_false (well_formed rows r) _ _ (formed_as ∙ h))

-- ---- a row without parts, judged by its columns

module _ (rows : ℕ → Row) (r : ℕ) (v : Bool) where
  pub constant_judged_lem : kind_of (rows r).kind ≡ constant v → constant_judged (rows r) ≡ judged rows r
  unfolding constant_judged judged well_formed_as decode facts_of F.size F.depth F.loose F.fixed bit
  constant_judged_lem kind =
      sym (ap₂ (λ (t : Bool) (f : Facts). if t then Some f else None) (formed_as rows r (constant v) kind) (ap facts_of (decoded rows r (constant v) kind)))

  pub literal_judged_lem : kind_of (rows r).kind ≡ literal v → literal_judged (rows r) ≡ judged rows r
  unfolding literal_judged judged well_formed_as decode
  literal_judged_lem kind =
      ap₂ (λ (t : Bool) (f : Facts). if t then Some f else None)
      (ap₂ (λ (x y : Bool). x and y and offset (rows r).c) (within_below 255 (rows r).a) (within_below 2 (rows r).b)
      ∙ sym (formed_as rows r (literal v) kind))
      (literal_facts v (rows r).a (base_of (rows r).b) (rows r).c refl refl refl refl ∙ ap facts_of (sym (decoded rows r (literal v) kind)))

-- ---- a row with parts, judged by the numbers that are kept

bit_none : (a : Bool) → eqb (bit a) 0 ≡ not a
unfolding bit
bit_none true = refl
bit_none false = refl

-- where nothing is mixed, the numbers are those of a well-formed row
unmixed_is : (l d : Bool) (f : Facts) → f.loose ≡ bit l → f.fixed ≡ bit d → unmixed f ≡ (if not (l and d) then Some f else None)
unfolding unmixed bit ◌or◌ ◌and◌
unmixed_is l d f p q = ap₂ (λ (m n : ℕ). if eqb m 0 or eqb n 0 then Some f else None) p q ∙ go l d
  where
    go : (l d : Bool) → (if eqb (bit l) 0 or eqb (bit d) 0 then Some f else None) ≡ (if not (l and d) then Some f else None)
    go true true = refl
    go true false = refl
    go false true = refl
    go false false = refl

-- a row with two parts that passes three tests, and mixes only where l and d
pub pair_same : (x y z l d : Bool) (f : Facts) {g : Facts} → f.loose ≡ bit l → f.fixed ≡ bit d → ((x and y and z) ≡ true → g ≡ f)
    → (if x and y and z then unmixed g else None) ≡ (if x and y and z and not (l and d) then Some f else None)
unfolding ◌and◌
pair_same true true true l d f p q h = ap unmixed (h refl) ∙ unmixed_is l d f p q
pair_same true true false l d f p q h = refl
pair_same true false z l d f p q h = refl
pair_same false y z l d f p q h = refl

-- an iteration that passes three tests, and whose body is fixed only where d
pub body_same : (x y z d : Bool) (f g : Facts) → (x ≡ true → g.fixed ≡ bit d) → (x ≡ true → over_facts g ≡ f)
    → (if x and y and z and eqb g.fixed 0 then Some (over_facts g) else None) ≡ (if x and y and z and not d then Some f else None)
unfolding ◌and◌
body_same true true true d f g p q = ap₂ (λ (t : Bool) (h : Facts). if t then Some h else None) (ap (λ (n : ℕ). eqb n 0) (p refl) ∙ bit_none d) (q refl)
body_same true true false d f g p q = refl
body_same true false z d f g p q = refl
body_same false y z d f g p q = refl

-- ---- rows that passed

small_size : (rows : ℕ → Row) (r : ℕ) → small_enough rows r ≡ true → F.size (tree rows r) ≤ 4096
unfolding small_enough
small_size rows r h = leb-true _ 4096 (and_left _ _ h)

small_depth : (rows : ℕ → Row) (r : ℕ) → small_enough rows r ≡ true → F.depth (tree rows r) ≤ 64
unfolding small_enough
small_depth rows r h = leb-true _ 64 (and_right (leb (F.size (tree rows r)) 4096) _ h)

module _ {rows : ℕ → Row} {facts : List ℕ} {n : ℕ} (passed : Passed rows facts n) (a : ℕ) (less : a < n) where
  -- what is kept for a row is what it comes to
  pub kept_facts_lem : facts_at facts a ≡ facts_of (tree rows a)
  unfolding facts_at facts_of
  kept_facts_lem =
      let k = passed.known a less in
      facts_same k.size k.depth k.loose k.fixed

  pub kept_size : (facts_at facts a).size ≤ 4096
  unfolding facts_at
  kept_size = omega (arith, (passed.known a less).size, small_size rows a (passed.small a less))

  pub kept_depth : (facts_at facts a).depth ≤ 64
  unfolding facts_at
  kept_depth = omega (arith, (passed.known a less).depth, small_depth rows a (passed.small a less))

pub passed_sums : {rows : ℕ → Row} {facts : List ℕ} {n : ℕ} → Passed rows facts n → Summable facts n
passed_sums passed = record { room = passed.room; size = λ a l. kept_size passed a l; depth = λ a l. kept_depth passed a l }

module _ (rows : ℕ → Row) (facts : List ℕ) (r : ℕ) (passed : Passed rows facts r) where
  known_part : (z : ℤ) → below r z ≡ true → facts_at facts (nat z) ≡ facts_of (tree rows (nat z))
  known_part z h = kept_facts_lem passed (nat z) (below_nat r z h)

  -- what the numbers kept say of an and or an or is what is to be said
  pub pair_judged_lem : (o : Op) → kind_of (rows r).kind ≡ junction o → pair_judged r (rows r) facts ≡ judged rows r
  unfolding pair_judged judged well_formed_as mixes facts_of
  pair_judged_lem o kind =
      pair_same (below r (rows r).a) (below r (rows r).b) (eq_z (rows r).c (pos 0)) _ _ (facts_of (tree rows r)) refl refl
      (λ h.
      let p = and_left _ _ h in
      let q = and_left _ _ (and_right (below r (rows r).a) _ h) in
      ap₂ both_facts (known_part _ p) (known_part _ q) ∙ both_facts_lem o _ _ ∙ ap facts_of (sym (junction_tree rows r o kind p q)))
      ∙ ap (λ (t : Bool). if t then Some (facts_of (tree rows r)) else None) (sym (formed_as rows r (junction o) kind))

  -- and of an iteration
  pub body_judged_lem : (o : Op) → kind_of (rows r).kind ≡ iteration o → body_judged r (rows r) facts ≡ judged rows r
  unfolding body_judged judged well_formed_as is_body facts_of
  body_judged_lem o kind =
      body_same (below r (rows r).a) (offset (rows r).b) (offset (rows r).c) _ (facts_of (tree rows r)) (facts_at facts (nat (rows r).a))
      (λ p. ap (λ (g : Facts). g.fixed) (known_part _ p))
      (λ p. ap over_facts (known_part _ p) ∙ over_facts_lem o _ _ _ ∙ ap facts_of (sym (iteration_tree rows r o kind p)))
      ∙ ap (λ (t : Bool). if t then Some (facts_of (tree rows r)) else None) (sym (formed_as rows r (iteration o) kind))

-- ---- what is found at a row

-- where something is found, nothing is kept
pub none_kept : {o : Finding} {why : Refusal} {p : Place} (facts : List ℕ) (r : ℕ) (f : Facts) → refuse why p ≡ o → facts ≡ kept_if o facts r f
unfolding kept_if
none_kept facts r f h = ap (λ (o : Finding). kept_if o facts r f) h

module _ (facts : List ℕ) (r : ℕ) {j : (Option Facts)} where
  pub ill_found : j ≡ None → (refuse IllFormed (Some r) ≡ judged_refusal j r) × (facts ≡ kept_judged j facts r)
  unfolding judged_refusal kept_judged
  ill_found e = (ap (λ (i : (Option Facts)). judged_refusal i r) (sym e), ap (λ (i : (Option Facts)). kept_judged i facts r) (sym e))

  module _ (f : Facts) (e : j ≡ Some f) where
    pub large_found : (leb f.size 4096 and leb f.depth 64) ≡ false → (refuse TooLarge (Some r) ≡ judged_refusal j r) × (facts ≡ kept_judged j facts r)
    unfolding judged_refusal kept_judged at_unless
    large_found h =
        let found = sym (found_unless (leb f.size 4096 and leb f.depth 64) _ _ h) in
        (found ∙ ap (λ (i : (Option Facts)). judged_refusal i r) (sym e), none_kept facts r f found ∙ ap (λ (i : (Option Facts)). kept_judged i facts r) (sym e))

    pub small_found : f.size ≤ 4096 → f.depth ≤ 64 → (no_refusal ≡ judged_refusal j r) × (kept_facts facts r f ≡ kept_judged j facts r)
    unfolding judged_refusal kept_judged at_unless kept_if
    small_found p q =
        let h = and_both _ _ (le-leb f.size 4096 p) (le-leb f.depth 64 q) in
        let found = sym (nothing_unless (leb f.size 4096 and leb f.depth 64) _ _ h) in (
          found ∙ ap (λ (i : (Option Facts)). judged_refusal i r) (sym e),
          ap (λ (o : Finding). kept_if o facts r f) found ∙ ap (λ (i : (Option Facts)). kept_judged i facts r) (sym e),
        )

module _ (ok : Bool) (f : Facts) (r : ℕ) where
  pub judged_refusal_lem : judged_refusal (if ok then Some f else None) r ≡ (at_unless ok IllFormed r otherwise at_unless (leb f.size 4096 and leb f.depth 64) TooLarge r)
  unfolding judged_refusal at_unless unless ◌otherwise◌
  judged_refusal_lem = go ok
    where
      go : (t : Bool) → judged_refusal (if t then Some f else None) r ≡ (at_unless t IllFormed r otherwise at_unless (leb f.size 4096 and leb f.depth 64) TooLarge r)
      go true = refl
      go false = refl

  pub judged_kept : (facts : List ℕ) → kept_judged (if ok then Some f else None) facts r ≡ kept_if (judged_refusal (if ok then Some f else None) r) facts r f
  unfolding kept_judged judged_refusal kept_if
  judged_kept facts = go ok
    where
      go : (t : Bool) → kept_judged (if t then Some f else None) facts r ≡ kept_if (judged_refusal (if t then Some f else None) r) facts r f
      go true = refl
      go false = refl

module _ (rows : ℕ → Row) (r : ℕ) where
  pub row_found_lem : judged_refusal (judged rows r) r ≡ row_refusal rows r
  unfolding judged row_refusal small_enough facts_of
  row_found_lem = judged_refusal_lem (well_formed rows r) (facts_of (tree rows r)) r

  pub row_kept : (facts : List ℕ) → kept_judged (judged rows r) facts r ≡ kept_if (row_refusal rows r) facts r (facts_of (tree rows r))
  unfolding judged
  row_kept facts =
      judged_kept (well_formed rows r) (facts_of (tree rows r)) r facts
      ∙ ap (λ (o : Finding). kept_if o facts r (facts_of (tree rows r))) row_found_lem

  module _ (h : row_refusal rows r ≡ no_refusal) where
    row_formed : well_formed rows r ≡ true
    unfolding row_refusal at_unless
    row_formed = unless_nothing _ _ _ (otherwise_first _ _ h)

    row_small : small_enough rows r ≡ true
    unfolding row_refusal at_unless
    row_small = unless_nothing _ _ _ (otherwise_second (unless (well_formed rows r) _ _) _ h)

-- ---- one row more

module _ (facts : List ℕ) (r : ℕ) (f : Facts) where
  pub facts_other : (a : ℕ) → a < r → facts_at (kept_facts facts r f) a ≡ facts_at facts a
  unfolding facts_at
  facts_other a h =
      let other = kept_other facts r f.size f.depth f.loose f.fixed in
      facts_same
      (other (4 * a) (λ k l q. omega arith))
      (other (4 * a + 1) (λ k l q. omega arith))
      (other (4 * a + 2) (λ k l q. omega arith))
      (other (4 * a + 3) (λ k l q. omega arith))

  pub facts_here : 4 * r + 3 < length facts → facts_at (kept_facts facts r f) r ≡ f
  unfolding facts_at
  facts_here h =
      facts_same
      (kept_first facts r f.size f.depth f.loose f.fixed h)
      (kept_second facts r f.size f.depth f.loose f.fixed h)
      (kept_third facts r f.size f.depth f.loose f.fixed h)
      (kept_fourth facts r f.size f.depth f.loose f.fixed h)

known_of : (rows : ℕ → Row) (facts : List ℕ) (r : ℕ) → facts_at facts r ≡ facts_of (tree rows r) → Known rows facts r
unfolding facts_at facts_of
known_of rows facts r e =
    record {
      size = ap (λ (g : Facts). g.size) e;
      depth = ap (λ (g : Facts). g.depth) e;
      loose = ap (λ (g : Facts). g.loose) e;
      fixed = ap (λ (g : Facts). g.fixed) e;
    }

-- what holds of each row below r, and of r, holds of each below r + 1
pub each_more : {P : ℕ → Type 0} (r : ℕ) → ((a : ℕ) → a < r → P a) → P r → (a : ℕ) → a < r + 1 → P a
each_more {P} r h k a l = ⊎_elim (λ p. h a p) (λ e. subst P (sym e) k) (below_suc a r (omega arith))

pub passed_none : (rows : ℕ → Row) (facts : List ℕ) → Passed rows facts 0
passed_none rows facts =
    record {
      room = omega arith;
      known = λ a l. absurd (omega arith);
      formed = λ a l. absurd (omega arith);
      small = λ a l. absurd (omega arith);
    }

pub passed_more : (rows : ℕ → Row) (facts : List ℕ) (r : ℕ) → Passed rows facts r → 4 * r + 3 < length facts → row_refusal rows r ≡ no_refusal
    → Passed rows (kept_if (row_refusal rows r) facts r (facts_of (tree rows r))) (r + 1)
unfolding kept_if
passed_more rows facts r passed room h =
    let f = facts_of (tree rows r) in
    subst (λ (o : Finding). Passed rows (kept_if o facts r f) (r + 1)) (sym h)
    record {
      room = omega (arith, kept_length facts r f.size f.depth f.loose f.fixed);
      known =
          each_more r
          (λ a l. known_of rows (kept_facts facts r f) a (facts_other facts r f a l ∙ kept_facts_lem passed a l))
          (known_of rows (kept_facts facts r f) r (facts_here facts r f room));
      formed = each_more r passed.formed (row_formed rows r h);
      small = each_more r passed.small (row_small rows r h);
    }

-- a refusal is not nothing
pub never : {A : Type 0} {o : Finding} {why : Refusal} {p : Place} → refuse why p ≡ o → o ≡ no_refusal → A
never e q = absurd (found≢nothing (e ∙ q))

-- ---- the table of what is kept

module _ (passed judge : ℕ → Finding) (want : ℕ → Facts) (facts : List ℕ) where
  pub table_none : facts ≡ facts_table_by passed judge want facts 0
  unfolding facts_table_by
  table_none = refl

  -- one row more
  pub table_more : (r : ℕ) {u w : List ℕ} → scan passed r ≡ no_refusal → u ≡ facts_table_by passed judge want facts r
      → w ≡ kept_if (judge r) u r (want r) → w ≡ facts_table_by passed judge want facts (r + 1)
  unfolding facts_table_by
  table_more r {u} {w} s e k =
      subst (λ (m : ℕ). w ≡ facts_table_by passed judge want facts m) (sym (add-one r))
      (k ∙ ap₂ (λ (o : Finding) (l : List ℕ). kept_if o l r (want r)) (sym (otherwise_nothing (scan passed r) (judge r) s)) e)

  -- after something is found nothing is kept
  pub table_stays : (r n : ℕ) {why : Refusal} {p : Place} → scan passed r ≡ refuse why p → r ≤ n → facts_table_by passed judge want facts n ≡ facts_table_by passed judge want facts r
  unfolding facts_table_by kept_if
  table_stays r zero h l = let e : zero ≡ r = omega arith in ap (facts_table_by passed judge want facts) e
  table_stays r (suc n) h l =
      ⊎_elim
      (λ p.
      ap (λ (o : Finding). kept_if o (facts_table_by passed judge want facts n) n (want n)) (otherwise_found _ _ (scan_longer passed r n (omega arith) h))
      ∙ table_stays r n h (omega arith))
      (λ e. ap (facts_table_by passed judge want facts) (sym e))
      (below_suc r (suc n) (omega arith))

-- ---- the formulas together

-- what is found of the root and the least value, of each row by `judge`, and of the root again, which is loose or not
module _ (judge : ℕ → Finding) (n s : ℕ) (root least : ℤ) (loose : Bool) where
  abbrev found_by : Finding
  found_by = whole_unless (root_fits s root least) Root otherwise scan judge n otherwise whole_unless (not loose) Root

  pub formulas_root : root_fits s root least ≡ false → refuse Root None ≡ found_by
  unfolding whole_unless
  formulas_root h = sym (otherwise_found _ _ (found_unless (root_fits s root least) _ _ h))

  module _ (fits : root_fits s root least ≡ true) where
    after_root : found_by ≡ (scan judge n otherwise whole_unless (not loose) Root)
    unfolding whole_unless
    after_root = otherwise_nothing _ _ (nothing_unless (root_fits s root least) _ _ fits)

    pub formulas_row : {why : Refusal} {p : Place} → refuse why p ≡ scan judge n → refuse why p ≡ found_by
    formulas_row h = sym (after_root ∙ otherwise_found _ _ (sym h))

    module _ (None-found : scan judge n ≡ no_refusal) where
      pub formulas_loose : loose ≡ true → refuse Root None ≡ found_by
      unfolding whole_unless
      formulas_loose h = sym (after_root ∙ otherwise_nothing _ _ None-found ∙ found_unless (not loose) _ _ (not_of_true _ h))

      pub formulas_none : loose ≡ false → no_refusal ≡ found_by
      unfolding whole_unless
      formulas_none h = sym (after_root ∙ otherwise_nothing _ _ None-found ∙ nothing_unless (not loose) _ _ (not_of_false _ h))
