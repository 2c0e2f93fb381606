-- The plain rows are few and fill the table; what the pass over formula rows finds of them is 23, or nothing.
use Rattle.std.proofs.Common.{ℕ, ℤ, pos, [], ◌≡◌, ◌≤◌, length, w32, of_z, to_z, not, List, Ok, Err, sym, ◌∙◌, ap, arith, rules}
use lib.Dec.{leb}
use borrow.Author.Tests.{leb-true}
use Rattle.stab.proofs.Trees.{below_nat}
use Rattle.stab.proofs.Bools.{asked_false, asked_true}
use Rattle.stab.specs.Text.{padded}
use Rattle.stab.specs.Formula.{row_at}
use Rattle.stab.specs.Check.{schema_refusal}
use Rattle.stab.specs.Lent.{lent_schema, schema_header}
use Rattle.stab.specs.Basic.{nat}
use Rattle.signed.proofs.Signs.{read_back}
use Rattle.wide.specs.Plain.{image}
use Rattle.wide.specs.Convert.{WideSchema, lent_wide, plain_table, plain_count, plain_root, plain_in}
use Rattle.convert.proofs.AnswerLaws.{inputs, keeps, count_is, too_many, pass_none, pass_some, answer_none, answer_some}
use Rattle.convert.proofs.plain_rows.Goals as goal

-- what the pass over formula rows is asked of
passed_is : (w : WideSchema) {t : List ℤ} {rows : ℕ} {root least : ℤ} → t ≡ padded (pos 0) w.room (plain_table w) → rows ≡ plain_count w → root ≡ pos (plain_root w) → least ≡ w.schema.least
    → schema_refusal (lent_schema t (schema_header rows root least)) ≡ schema_refusal (plain_in w (padded (pos 0) w.room (plain_table w)))
passed_is w t k r l = λ i. schema_refusal (lent_schema (t i) (schema_header (k i) (r i) (l i)))

pub count-count-requires : goal.count-count-requires
count-count-requires c =
    let w = lent_wide c.args.wide.now c.args.h (length c.args.plain.now) in
    ((inputs w c.requires).limit, (keeps w c.requires).formed)

pub returns-then-not-few : goal.returns-then-not-few
returns-then-not-few c =
    let w = lent_wide c.args.wide.now c.args.h (length c.args.plain.now) in
    let counted : c.count-count.result ≡ plain_count w = c.count-count.ensures ∙ sym (count_is w) in
    let many = sym (ap (λ (m : ℕ). leb m 1024) counted) ∙ asked_false c.few.ensures (ap not c.if-not-few.true) in
    let h = answer_some w _ _ (too_many w c.requires many) in
    record { value = c.turn_away.ensures.0 ∙ ap Err c.whole.ensures ∙ h.0; plain_after = c.turn_away.ensures.1 ∙ h.1 }

pub filled-top-requires : goal.filled-top-requires
filled-top-requires c =
    let w = lent_wide c.args.wide.now c.args.h (length c.args.plain.now) in
    let i = inputs w c.requires in
    let k = keeps w c.requires in
    let few : c.count-count.result ≤ 1024 = leb-true c.count-count.result 1024 (asked_true c.few.ensures (ap not c.if-not-few.false)) in
    let root : to_z w32 (of_z w32 c.args.h.root) ≡ c.args.h.root = search rules in (
      record {
        few = i.limit;
        formed = k.formed;
        limit = omega (arith, c.count-count.ensures);
        room = i.room;
      },
      omega (arith, c.natural.ensures, ap nat root, below_nat _ _ k.root_row),
      c.count-count.ensures,
    )

pub plain_pass-requires : goal.plain_pass-requires
plain_pass-requires c =
    let w = lent_wide c.args.wide.now c.args.h (length c.args.plain.now) in
    let few : c.count-count.result ≤ 1024 = leb-true c.count-count.result 1024 (asked_true c.few.ensures (ap not c.if-not-few.false)) in
    (few, omega (arith, c.filled-top.auto.plain, (inputs w c.requires).room))

pub returns-in_default : goal.returns-in_default
unfolding plain_root plain_table
returns-in_default c =
    let a = c.args in
    let w = lent_wide a.wide.now a.h (length a.plain.now) in
    let counted : c.count-count.result ≡ plain_count w = c.count-count.ensures ∙ sym (count_is w) in
    let few : plain_count w ≤ 1024 =
    omega (arith, counted, leb-true c.count-count.result 1024 (asked_true c.few.ensures (ap not c.if-not-few.false))) in
    let natural : c.natural.result ≡ nat a.h.root = c.natural.ensures ∙ ap nat (search rules) in
    let root = read_back _ c.filled-top.type_inv ∙ c.filled-top.ensures.value ∙ ap (λ (r : ℕ). pos (image (row_at a.wide.now) r).own) natural in
    let found = c.in_default.ensures ∙ passed_is w c.filled-top.ensures.plain_after counted root (search rules) in
    let h = answer_some w _ _ (pass_some w c.requires few (sym found)) in
    record {
      value = c.turn_away-in_default.ensures.0 ∙ ap Err c.whole-in_default.ensures ∙ h.0;
      plain_after = c.turn_away-in_default.ensures.1 ∙ ap (λ (m : ℕ). padded (pos 0) m []) c.filled-top.auto.plain ∙ h.1;
    }

pub returns : goal.returns
unfolding plain_root plain_table
returns c =
    let a = c.args in
    let w = lent_wide a.wide.now a.h (length a.plain.now) in
    let counted : c.count-count.result ≡ plain_count w = c.count-count.ensures ∙ sym (count_is w) in
    let few : plain_count w ≤ 1024 =
    omega (arith, counted, leb-true c.count-count.result 1024 (asked_true c.few.ensures (ap not c.if-not-few.false))) in
    let natural : c.natural.result ≡ nat a.h.root = c.natural.ensures ∙ ap nat (search rules) in
    let root = read_back _ c.filled-top.type_inv ∙ c.filled-top.ensures.value ∙ ap (λ (r : ℕ). pos (image (row_at a.wide.now) r).own) natural in
    let least : to_z w32 (of_z w32 a.h.least) ≡ a.h.least = search rules in
    let found = c.in-Ok.ensures ∙ passed_is w c.filled-top.ensures.plain_after counted root least in
    let h = answer_none w (pass_none w c.requires few (sym found)) in
    record {
      value = (λ i. Ok (record { root = root i; least = least i; rows = counted i })) ∙ h.0;
      plain_after = c.filled-top.ensures.plain_after ∙ h.1;
    }
