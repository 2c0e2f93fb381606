-- The pairs that occur are counted at the root and at n; where they are few, the first model by them is the query's.
use Rattle.std.proofs.Common.{ℕ, ◌+◌, ◌≤◌, ◌≡◌, List, ℤ, pos, length, Err, refl, sym, ◌∙◌, ap, ap₂, subst, arith, rules, to_z-of_z}
use Rattle.stab.specs.Basic.{nat}
use Rattle.stab.specs.Formula.{row_at, tree}
use Rattle.stab.specs.Lent.{lent_schema}
use Rattle.stab.specs.Occurs.{Wire, occurring, table}
use Rattle.stab.specs.Text.{padded}
use Rattle.signed.proofs.Tables.{cleared_padded}
use Rattle.formula.specs.Rows.{Passed}
use Rattle.found.specs.Find.{Query, formula, wires, holds_with, first_model, model_or}
use Rattle.occurring.specs.Held.{held_count}
use Rattle.find.specs.Search.{first_at}
use Rattle.find.proofs.Answers.{held_few, held_many, held_keys, answer_over, given_over, answer_few, given_few}
use Rattle.find.proofs.searched.Goals as goal

wires_are : (Q : Query) {n r : ℕ} → n ≡ nat Q.n → r ≡ nat Q.schema.root → occurring n (tree (row_at Q.schema.table) r) ≡ wires Q
unfolding wires formula
wires_are Q p q = ap₂ (λ (n r : ℕ). occurring n (tree (row_at Q.schema.table) r)) p q

first_is : (Q : Query) {n r : ℕ} → n ≡ nat Q.n → r ≡ nat Q.schema.root → first_model Q ≡ first_at Q.schema.table r n
unfolding first_model holds_with wires formula first_at
first_is Q p q = sym (ap₂ (first_at Q.schema.table) q p)

passed_at : (Q : Query) (facts : List ℕ) {r : ℕ} → r ≡ nat Q.schema.root → Passed (row_at Q.schema.table) facts (nat Q.schema.root + 1) → Passed (row_at Q.schema.table) facts (r + 1)
passed_at Q facts q h = subst (λ (r : ℕ). Passed (row_at Q.schema.table) facts (r + 1)) (sym q) h

pub occurring-count-requires : goal.occurring-count-requires
occurring-count-requires c =
    let a = c.args in
    let Q : Query = record { schema = lent_schema a.schema.now a.h; n = a.n; room = length a.table.now } in
    let root : c.natural-row.result ≡ nat a.h.root = c.natural-row.ensures ∙ ap nat (search rules) in
    let n : c.natural-width.result ≡ nat a.n = c.natural-width.ensures ∙ ap nat (to_z-of_z c.ranges.n) in
    record {
      row = omega (arith, root, c.requires.row);
      passed = passed_at Q a.facts.now root c.requires.passed;
      width = omega (arith, n, c.requires.width);
      room = omega arith;
      held = omega arith;
    }

pub returns-then-count-gt16 : goal.returns-then-count-gt16
unfolding table
returns-then-count-gt16 c =
    let a = c.args in
    let Q : Query = record { schema = lent_schema a.schema.now a.h; n = a.n; room = length a.table.now } in
    let root : c.natural-row.result ≡ nat a.h.root = c.natural-row.ensures ∙ ap nat (search rules) in
    let n : c.natural-width.result ≡ nat a.n = c.natural-width.ensures ∙ ap nat (to_z-of_z c.ranges.n) in
    let counted = c.occurring-count.ensures.0 ∙ ap held_count (wires_are Q n root) in
    let many = held_many (wires Q) _ counted c.if-count-gt16.true in
    record {
      value = ap Err c.whole.ensures ∙ answer_over Q many;
      table_after =
          c.clear.ensures
          ∙ cleared_padded a.table.now 0 _ (omega arith) refl
          ∙ ap (λ (ws : List Wire). padded (pos 0) (length a.table.now) (table ws)) (sym (given_over Q many));
    }

pub shown-requires : goal.shown-requires
shown-requires c =
    let a = c.args in
    let Q : Query = record { schema = lent_schema a.schema.now a.h; n = a.n; room = length a.table.now } in
    let root : c.natural-row.result ≡ nat a.h.root = c.natural-row.ensures ∙ ap nat (search rules) in
    let n : c.natural-width.result ≡ nat a.n = c.natural-width.ensures ∙ ap nat (to_z-of_z c.ranges.n) in
    let e = c.occurring-count.ensures in
    let few = c.if-count-gt16.false in (
      record {
        row = omega (arith, root, c.requires.row);
        passed = passed_at Q a.facts.now root c.requires.passed;
        width = omega (arith, n, c.requires.width);
        few = few;
        counted = held_few _ _ e.0 few;
        listed = held_keys _ _ e.0 _ _ e.1 few;
      },
      omega (arith, few, c.occurring-count.auto.keys),
      omega (arith, c.requires.room),
    )

pub returns : goal.returns
returns c =
    let a = c.args in
    let Q : Query = record { schema = lent_schema a.schema.now a.h; n = a.n; room = length a.table.now } in
    let root : c.natural-row.result ≡ nat a.h.root = c.natural-row.ensures ∙ ap nat (search rules) in
    let n : c.natural-width.result ≡ nat a.n = c.natural-width.ensures ∙ ap nat (to_z-of_z c.ranges.n) in
    let counted = c.occurring-count.ensures.0 ∙ ap held_count (wires_are Q n root) in
    let few : length (wires Q) ≤ 16 = omega (arith, held_few (wires Q) _ counted c.if-count-gt16.false, c.if-count-gt16.false) in
    let first = first_is Q n root in
    record {
      value =
          c.shown.ensures.value
          ∙ ap (λ (z : ℤ). model_or z (first_at a.schema.now c.natural-row.result c.natural-width.result)) (to_z-of_z c.ranges.n)
          ∙ answer_few Q few _ first;
      table_after =
          c.shown.ensures.pairs_after
          ∙ ap (λ (ws : List Wire). padded (pos 0) (length a.table.now) (table ws)) (sym (given_few Q few _ first));
    }
