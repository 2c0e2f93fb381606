-- Laws of wide rows: their kinds by number, and what is kept of them.
use Rattle.std.specs.Prelude.{if◌then◌else◌, None, Some}
use Prim.Native.Nat.{ℕ, zero, suc, ◌+◌, ◌*◌, ◌<◌, ◌≤◌}
use native.Mathlib.Omega.{arith}
use mathlib.Core.Path.{◌≡◌, refl, sym, ◌∙◌, ap, ap₂, subst}
use mathlib.Core.Bool.{Bool, true, false}
use mathlib.Core.Logic.{⊎_elim}
use mathlib.Core.List.{List}
use lib.Dec.{leb}
use lib.ListN.{length}
use lib.IntN.{ℤ, pos, negsuc, neg_ℤ}
use borrow.Author.Tests.{leb-true}
use Rattle.stab.specs.Basic.{◌and◌, eq_z, nat, below, unless}
use Rattle.stab.specs.Formula as F
use Rattle.stab.specs.Formula.{Row, Op, Kind, constant, literal, junction, iteration, unknown, kind_of, decode, tree, offset, well_formed_as}
use Rattle.stab.specs.Check.{at_unless}
use Rattle.stab.specs.Finding.{no_refusal, Finding}
use Rattle.stab.proofs.Bools.{and_left, and_right, if_false, otherwise_first, otherwise_second, unless_nothing}
use Rattle.stab.proofs.Whole.{num, of_eq, eq_z_not, nat_pos, at_least_0}
use Rattle.stab.proofs.Trees.{below_nat}
use Rattle.stab.proofs.Scans.{below_suc}
use Rattle.stab.proofs.Decoded.{decoded}
use Rattle.wide.specs.WideFormula as W
use Rattle.wide.specs.WideFormula.{WideKind, plain, negation, implication, equivalence, wide_kind_of, Wide, wide_tree, wide_decode, wide_size, wide_depth, wide_loose, wide_fixed, is_wide_body, wide_mixes, two_parts, wide_formed, wide_formed_as, wide_small}
use Rattle.wide.specs.Convert.{wide_row_refusal}
use Rattle.wide.proofs.WideTrees.{wide_part_of, wide_decoded}
use Rattle.formula.specs.Facts.{bit}
use Rattle.formula.specs.Rows.{facts_of, facts_at, both_facts, over_facts, kept_if, judged, pair_judged, body_judged, judged_refusal, kept_judged, Summable}
use Rattle.formula.specs.declared.rows.Facts.{Facts}
use Rattle.formula.proofs.KeptLaws.{kept_length}
use Rattle.formula.proofs.RowLaws.{unknown_kind, facts_same, bit_or_lem, formed_as, pair_same, body_same, judged_refusal_lem, judged_kept, facts_other, facts_here, each_more}
use Rattle.widerows.specs.WideRows.{wide_facts_of, not_facts, not_judged, wide_judged, WidePassed}

-- ---- kinds

pub kind_negative : (z : ℤ) → 0 < nat (neg_ℤ z) → wide_kind_of (pos 12) ≡ wide_kind_of z
unfolding wide_kind_of kind_of eq_z nat
kind_negative (pos zero) h = absurd (omega arith)
kind_negative (pos (suc n)) h = absurd (omega arith)
kind_negative (negsuc n) h = refl

pub kind_natural : (z : ℤ) → nat (neg_ℤ z) ≤ 0 → wide_kind_of (pos (nat z)) ≡ wide_kind_of z
kind_natural z h = ap wide_kind_of (nat_pos z (at_least_0 z h))

apart : (k n : ℕ) → (k ≡ n → ⊥) → eq_z (pos k) (pos n) ≡ false
apart k n h = eq_z_not (pos k) (pos n) (λ e. h (omega (arith, of_eq (num k) (num n) e)))

-- a number that is none of 8..11 is of 01's kind
pub other_kind : (k : ℕ) → (k ≡ 8 → ⊥) → (k ≡ 9 → ⊥) → (k ≡ 10 → ⊥) → (k ≡ 11 → ⊥) → wide_kind_of (pos k) ≡ plain (kind_of (pos k))
unfolding wide_kind_of
other_kind k a b c d =
    if_false (eq_z (pos k) (pos 8)) _ _ (apart k 8 a)
    ∙ if_false (eq_z (pos k) (pos 9)) _ _ (apart k 9 b)
    ∙ if_false (eq_z (pos k) (pos 10)) _ _ (apart k 10 c)
    ∙ if_false (eq_z (pos k) (pos 11)) _ _ (apart k 11 d)

pub plain_kind : (k : ℕ) → k < 8 → wide_kind_of (pos k) ≡ plain (kind_of (pos k))
plain_kind k h = other_kind k (λ e. omega arith) (λ e. omega arith) (λ e. omega arith) (λ e. omega arith)

pub no_kind : (k : ℕ) → 12 ≤ k → wide_kind_of (pos k) ≡ plain unknown
no_kind k h = other_kind k (λ e. omega arith) (λ e. omega arith) (λ e. omega arith) (λ e. omega arith) ∙ ap plain (unknown_kind k (omega arith))

pub negation_kind : (k : ℕ) → 8 ≤ k → k < 9 → wide_kind_of (pos k) ≡ negation
unfolding wide_kind_of eq_z
negation_kind k l h = let e : k ≡ 8 = omega arith in ap (λ (m : ℕ). wide_kind_of (pos m)) e

-- what is of 01's kind as a wide row is of it as a row of 01
pub kind_of_plain : (z : ℤ) (k : Kind) → wide_kind_of z ≡ plain k → kind_of z ≡ k
unfolding wide_kind_of
kind_of_plain z k e = go (eq_z z (pos 8)) (eq_z z (pos 9)) (eq_z z (pos 10)) (eq_z z (pos 11)) e
  where
    go : (a b c d : Bool) → (if a then negation else if b then implication else if c then equivalence true else if d then equivalence false else plain (kind_of z)) ≡ plain k → kind_of z ≡ k
    go true b c d h = cc
    go false true c d h = cc
    go false false true d h = cc
    go false false false true h = cc
    go false false false false h = cc

-- the kinds with two parts
pub data TwoKind : WideKind → Type 0 where
  joining : (o : Op) → TwoKind (plain (junction o))
  implying : TwoKind implication
  comparing : (v : Bool) → TwoKind (equivalence v)

numbered : (k n : ℕ) → k ≡ n → TwoKind (wide_kind_of (pos n)) → TwoKind (wide_kind_of (pos k))
numbered k n e h = subst (λ (m : ℕ). TwoKind (wide_kind_of (pos m))) (sym e) h

pub two_kind : (k : ℕ) → 9 ≤ k → k < 12 → TwoKind (wide_kind_of (pos k))
unfolding wide_kind_of eq_z
two_kind k l h =
    ⊎_elim
    (λ p. ⊎_elim (λ q. numbered k 9 (omega arith) implying) (λ e. numbered k 10 e (comparing true)) (below_suc k 10 p))
    (λ e. numbered k 11 e (comparing false))
    (below_suc k 11 h)

-- ---- a row with parts, judged by the numbers that are kept

module _ (rows : ℕ → Row) (r : ℕ) where
  wide_formed_lem : (k : WideKind) → wide_kind_of (rows r).kind ≡ k → wide_formed rows r ≡ wide_formed_as rows r (rows r) k
  unfolding wide_formed
  wide_formed_lem k e = ap (wide_formed_as rows r (rows r)) e

  -- a row with two parts is well formed where its parts are
  pub two_formed : {k : WideKind} → TwoKind k → wide_formed_as rows r (rows r) k ≡ two_parts rows r (rows r)
  unfolding wide_formed_as
  two_formed (joining o) = refl
  two_formed implying = refl
  two_formed (comparing v) = refl

  -- its numbers are those of both parts
  two_facts : {k : WideKind} → TwoKind k → below r (rows r).a ≡ true → below r (rows r).b ≡ true
      → both_facts (wide_facts_of (wide_tree rows (nat (rows r).a))) (wide_facts_of (wide_tree rows (nat (rows r).b))) ≡ wide_facts_of (wide_decode r (rows r) k (wide_tree rows))
  unfolding wide_decode wide_facts_of both_facts wide_size wide_depth wide_loose wide_fixed
  two_facts t p q =
      ap₂ (λ (f g : Wide). both_facts (wide_facts_of f) (wide_facts_of g)) (sym (wide_part_of r (wide_tree rows) _ p)) (sym (wide_part_of r (wide_tree rows) _ q)) ∙ go t
    where
      go : {k : WideKind} → TwoKind k → both_facts (wide_facts_of (W.wide_part r (wide_tree rows) (rows r).a)) (wide_facts_of (W.wide_part r (wide_tree rows) (rows r).b)) ≡ wide_facts_of (wide_decode r (rows r) k (wide_tree rows))
      go (joining o) = facts_same refl refl (bit_or_lem _ _) (bit_or_lem _ _)
      go implying = facts_same refl refl (bit_or_lem _ _) (bit_or_lem _ _)
      go (comparing v) = facts_same refl refl (bit_or_lem _ _) (bit_or_lem _ _)

-- a row without parts is judged as a row of 01 is
module _ (rows : ℕ → Row) (r : ℕ) where
  leaf_same : (k : Kind) → wide_kind_of (rows r).kind ≡ plain k → well_formed_as rows r (rows r) k ≡ wide_formed_as rows r (rows r) (plain k)
      → facts_of (decode r (rows r) k (tree rows)) ≡ wide_facts_of (wide_decode r (rows r) (plain k) (wide_tree rows)) → judged rows r ≡ wide_judged rows r
  unfolding judged wide_judged
  leaf_same k e p q =
      let e' = kind_of_plain (rows r).kind k e in
      ap₂ (λ (t : Bool) (f : Facts). if t then Some f else None)
      (formed_as rows r k e' ∙ p ∙ sym (wide_formed_lem rows r (plain k) e))
      (ap facts_of (decoded rows r k e') ∙ q ∙ ap wide_facts_of (sym (wide_decoded rows r (plain k) e)))

  pub constant_same : (v : Bool) → wide_kind_of (rows r).kind ≡ plain (constant v) → judged rows r ≡ wide_judged rows r
  unfolding well_formed_as wide_formed_as decode wide_decode facts_of wide_facts_of F.size F.depth F.loose F.fixed wide_size wide_depth wide_loose wide_fixed
  constant_same v e = leaf_same (constant v) e refl refl

  pub literal_same : (v : Bool) → wide_kind_of (rows r).kind ≡ plain (literal v) → judged rows r ≡ wide_judged rows r
  unfolding well_formed_as wide_formed_as decode wide_decode facts_of wide_facts_of F.size F.depth F.loose F.fixed wide_size wide_depth wide_loose wide_fixed
  literal_same v e = leaf_same (literal v) e refl refl

  pub no_kind_ill : wide_kind_of (rows r).kind ≡ plain unknown → None ≡ wide_judged rows r
  unfolding wide_judged wide_formed_as
  no_kind_ill e = sym (if_false (wide_formed rows r) _ _ (wide_formed_lem rows r (plain unknown) e))

-- the same three tests, and numbers that agree where they pass
three_same : (x y z : Bool) (f : Facts) {g : Facts} → (x ≡ true → g ≡ f) → (if x and y and z then Some g else None) ≡ (if x and y and z then Some f else None)
unfolding ◌and◌
three_same true y z f h = ap (λ (i : Facts). if y and z then Some i else None) (h refl)
three_same false y z f h = refl

module _ (rows : ℕ → Row) (facts : List ℕ) (r : ℕ) (passed : WidePassed rows facts r) where
  known_part : (z : ℤ) → below r z ≡ true → facts_at facts (nat z) ≡ wide_facts_of (wide_tree rows (nat z))
  known_part z h = passed.known (nat z) (below_nat r z h)

  judged_as : (t : Bool) → t ≡ wide_formed rows r → (if t then Some (wide_facts_of (wide_tree rows r)) else None) ≡ wide_judged rows r
  unfolding wide_judged
  judged_as t e = ap (λ (u : Bool). if u then Some (wide_facts_of (wide_tree rows r)) else None) e

  -- what the numbers kept say of a row with two parts is what is to be said
  pub pair_judged_lem : {k : WideKind} → TwoKind k → wide_kind_of (rows r).kind ≡ k → pair_judged r (rows r) facts ≡ wide_judged rows r
  unfolding pair_judged two_parts wide_mixes wide_facts_of
  pair_judged_lem {k} t e =
      pair_same (below r (rows r).a) (below r (rows r).b) (eq_z (rows r).c (pos 0)) _ _ (wide_facts_of (wide_tree rows r)) refl refl
      (λ h.
      let p = and_left _ _ h in
      let q = and_left _ _ (and_right (below r (rows r).a) _ h) in
      ap₂ both_facts (known_part _ p) (known_part _ q) ∙ two_facts rows r t p q ∙ ap wide_facts_of (sym (wide_decoded rows r k e)))
      ∙ judged_as _ (sym (wide_formed_lem rows r k e ∙ two_formed rows r t))

  -- of an iteration
  pub body_judged_lem : (o : Op) → wide_kind_of (rows r).kind ≡ plain (iteration o) → body_judged r (rows r) facts ≡ wide_judged rows r
  unfolding body_judged wide_formed_as is_wide_body wide_decode wide_facts_of over_facts bit wide_size wide_depth wide_loose wide_fixed
  body_judged_lem o e =
      body_same (below r (rows r).a) (offset (rows r).b) (offset (rows r).c) (wide_fixed (wide_tree rows (nat (rows r).a))) (wide_facts_of (wide_tree rows r)) (facts_at facts (nat (rows r).a))
      (λ p. ap (λ (g : Facts). g.fixed) (known_part _ p))
      (λ p.
      ap over_facts (known_part _ p ∙ ap wide_facts_of (sym (wide_part_of r (wide_tree rows) _ p)))
      ∙ ap wide_facts_of (sym (wide_decoded rows r (plain (iteration o)) e)))
      ∙ judged_as _ (sym (wide_formed_lem rows r (plain (iteration o)) e))

  -- and of a not
  pub not_judged_lem : wide_kind_of (rows r).kind ≡ negation → not_judged r (rows r) facts ≡ wide_judged rows r
  unfolding not_judged wide_formed_as wide_decode wide_facts_of not_facts wide_size wide_depth wide_loose wide_fixed
  not_judged_lem e =
      three_same (below r (rows r).a) (eq_z (rows r).b (pos 0)) (eq_z (rows r).c (pos 0)) (wide_facts_of (wide_tree rows r))
      (λ p.
      ap not_facts (known_part _ p ∙ ap wide_facts_of (sym (wide_part_of r (wide_tree rows) _ p)))
      ∙ ap wide_facts_of (sym (wide_decoded rows r negation e)))
      ∙ judged_as _ (sym (wide_formed_lem rows r negation e))

-- ---- rows that passed

pub passed_sums : {rows : ℕ → Row} {facts : List ℕ} {n : ℕ} → WidePassed rows facts n → Summable facts n
unfolding wide_small wide_facts_of
passed_sums {rows} passed =
    record {
      room = passed.room;
      size = λ a l. omega (arith, ap (λ (f : Facts). f.size) (passed.known a l), leb-true (wide_size (wide_tree rows a)) 4096 (and_left _ _ (passed.small a l)));
      depth = λ a l. omega (arith, ap (λ (f : Facts). f.depth) (passed.known a l), leb-true (wide_depth (wide_tree rows a)) 64 (and_right (leb (wide_size (wide_tree rows a)) 4096) _ (passed.small a l)));
    }

module _ (rows : ℕ → Row) (r : ℕ) where
  pub row_found_lem : judged_refusal (wide_judged rows r) r ≡ wide_row_refusal rows r
  unfolding wide_judged wide_row_refusal wide_small wide_facts_of
  row_found_lem = judged_refusal_lem (wide_formed rows r) (wide_facts_of (wide_tree rows r)) r

  pub row_kept : (facts : List ℕ) → kept_judged (wide_judged rows r) facts r ≡ kept_if (wide_row_refusal rows r) facts r (wide_facts_of (wide_tree rows r))
  unfolding wide_judged
  row_kept facts =
      judged_kept (wide_formed rows r) (wide_facts_of (wide_tree rows r)) r facts
      ∙ ap (λ (o : Finding). kept_if o facts r (wide_facts_of (wide_tree rows r))) row_found_lem

  module _ (h : wide_row_refusal rows r ≡ no_refusal) where
    row_formed : wide_formed rows r ≡ true
    unfolding wide_row_refusal at_unless
    row_formed = unless_nothing _ _ _ (otherwise_first _ _ h)

    row_small : wide_small rows r ≡ true
    unfolding wide_row_refusal at_unless
    row_small = unless_nothing _ _ _ (otherwise_second (unless (wide_formed rows r) _ _) _ h)

pub passed_none : (rows : ℕ → Row) (facts : List ℕ) → WidePassed rows facts 0
passed_none rows facts =
    record {
      room = omega arith;
      known = λ a l. absurd (omega arith);
      formed = λ a l. absurd (omega arith);
      small = λ a l. absurd (omega arith);
    }

pub passed_more : (rows : ℕ → Row) (facts : List ℕ) (r : ℕ) → WidePassed rows facts r → 4 * r + 3 < length facts → wide_row_refusal rows r ≡ no_refusal
    → WidePassed rows (kept_if (wide_row_refusal rows r) facts r (wide_facts_of (wide_tree rows r))) (r + 1)
unfolding kept_if
passed_more rows facts r passed room h =
    let f = wide_facts_of (wide_tree rows r) in
    subst (λ (o : Finding). WidePassed rows (kept_if o facts r f) (r + 1)) (sym h)
    record {
      room = omega (arith, kept_length facts r f.size f.depth f.loose f.fixed);
      known = each_more r (λ a l. facts_other facts r f a l ∙ passed.known a l) (facts_here facts r f room);
      formed = each_more r passed.formed (row_formed rows r h);
      small = each_more r passed.small (row_small rows r h);
    }
