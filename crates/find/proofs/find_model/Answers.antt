-- What is found before the search is the answer; where that is nothing, it is what the search finds.
use Rattle.std.proofs.Common.{ℤ, length, refl, ◌∙◌, ap, arith, to_z-of_z}
use Rattle.stab.specs.Lent.{lent_schema}
use Rattle.signed.proofs.Tables.{cleared_padded}
use Rattle.found.specs.Find.{Query}
use Rattle.find.specs.Search.{query_refusal, search_answer, search_table}
use Rattle.find.proofs.Answers.{refused_is, refused_table, searched_is, searched_table}
use Rattle.find.proofs.find_model.Goals as goal

pub returns-in-Err : goal.returns-in-Err
returns-in-Err c =
    let a = c.args in
    let query : ℤ → Query = λ n. record { schema = lent_schema a.schema.now a.h; n = n; room = length a.pairs.now } in
    let known = c.in-Err.ensures.value ∙ ap (λ (m : ℤ). query_refusal (query m)) (to_z-of_z c.ranges.n) in
    record {
      value = refused_is (query a.n) _ known _ _ refl;
      pairs_after = c.clear.ensures ∙ cleared_padded a.pairs.now 0 _ (omega arith) refl ∙ refused_table (query a.n) _ known _ _ refl;
    }

pub returns-in-Ok : goal.returns-in-Ok
returns-in-Ok c =
    let a = c.args in
    let query : ℤ → Query = λ n. record { schema = lent_schema a.schema.now a.h; n = n; room = length a.pairs.now } in
    let n = to_z-of_z c.ranges.n in
    let known = c.in-Ok.ensures.value ∙ ap (λ (m : ℤ). query_refusal (query m)) n in
    record {
      value = c.searched.ensures.value ∙ ap (λ (m : ℤ). search_answer (query m)) n ∙ searched_is (query a.n) _ known refl;
      pairs_after = c.searched.ensures.table_after ∙ ap (λ (m : ℤ). search_table (query m)) n ∙ searched_table (query a.n) _ known refl;
    }
