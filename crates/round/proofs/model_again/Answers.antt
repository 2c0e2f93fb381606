use mathlib.Core.Path.{◌≡◌, sym, ◌∙◌, ap}
use lib.IntN.{pos}
use lib.ListN.{length}
use mir.Syntax.{w32}
use mir.Val.{of_z, to_z}
use borrow.Author.Rules.{rules}
use Rattle.stab.specs.Read.{read_model, pair_table}
use Rattle.stab.specs.Answer.{written_numbers}
use Rattle.stab.specs.Write.{write_model}
use Rattle.round.specs.Again.{kept}
use Rattle.round.proofs.FromTexts.{model_again_lem, model_unread}
use Rattle.round.proofs.model_again.Goals as goal

-- a signed number is kept as bits, and read back from them
pub returns-in-Ok : goal.returns-in-Ok
returns-in-Ok c =
    let a = c.args in
    let v = c.in-Ok.h in
    let t = c.read_model.ensures.pairs in
    let n : to_z w32 (of_z w32 v.n) ≡ v.n = search rules in
    let same : write_model (to_z w32 (of_z w32 v.n)) c.read_model.new.table v.pairs (length a.out.now)
    ≡ write_model v.n (pair_table (length a.pairs.now) (read_model (length a.pairs.now) a.text.now)) v.pairs (length a.out.now) =
    λ i. write_model (n i) (t i) v.pairs (length a.out.now) in
    let g = model_again_lem a.text.now (length a.pairs.now) (length a.out.now) v (sym c.read_model.ensures.answer ∙ c.in-Ok.is) _ same in
    record {
      answer = c.write_model-written.ensures.value ∙ g.0;
      bytes = c.write_model-written.ensures.out_after ∙ g.1;
      pairs = c.keep_table.ensures ∙ ap (kept (pos 0) (written_numbers c.write_model-written.result).answer) t;
    }

pub returns-in-Err : goal.returns-in-Err
returns-in-Err c =
    let a = c.args in
    let g = model_unread _ _ (length a.out.now) a.text.now (sym c.read_model.ensures.answer ∙ c.in-Err.is) in
    record { answer = g.0; bytes = c.clear.ensures ∙ g.1; pairs = c.read_model.ensures.pairs ∙ g.2 _ _ }
