-- No number passes, or the first that does gives the pairs.
use Rattle.std.proofs.Common.{◌≡◌, List, length, take, pos, Ok, Some, refl, sym, ◌∙◌, ap, arith, to_z-of_z}
use mathlib.Core.Option.{Option}
use Rattle.stab.specs.Formula.{row_at, tree}
use Rattle.stab.specs.Occurs.{Wire, occurring, table}
use Rattle.stab.specs.Text.{padded}
use Rattle.signed.proofs.Tables.{cleared_padded}
use Rattle.pairs.proofs.Words.{one_shifted}
use Rattle.found.specs.Find.{model_or, model_pairs}
use Rattle.found.specs.Number.{numbered}
use Rattle.assigned.proofs.Searches.{near}
use Rattle.find.specs.Search.{wires_of}
use Rattle.find.proofs.Pairs.{wires_back}
use Rattle.find.proofs.Answers.{no_model_lem, some_model}
use Rattle.find.proofs.shown.Goals as goal

pub returns-then-m-count : goal.returns-then-m-count
unfolding table model_or model_pairs
returns-then-m-count c =
    let a = c.args in
    let none = no_model_lem _ _ _ _ _ c.requires.0.counted c.first_number-m.ensures (c.if-m-count.true ∙ one_shifted _ (omega (arith, c.requires.0))) in
    record {
      value = ap (model_or a.n) (sym none);
      pairs_after =
          c.clear.ensures
          ∙ cleared_padded a.pairs.now 0 _ (omega arith) refl
          ∙ ap (λ (x : Option (List Wire)). padded (pos 0) (length a.pairs.now) (table (model_pairs x))) (sym none);
    }

pub returns : goal.returns
unfolding model_or model_pairs
returns c =
    let a = c.args in
    let some = some_model _ _ _ _ _ c.requires.0.counted c.first_number-m.ensures (λ h. c.if-m-count.false (h ∙ sym (one_shifted _ (omega (arith, c.requires.0))))) in
    -- the pairs that the keys stand for
    let wires : wires_of (take a.count a.keys.now) ≡ occurring a.width (tree (row_at a.schema.now) a.root) =
    ap wires_of c.requires.0.listed ∙ wires_back _ (near _ a.facts.now _ _ c.requires.0.passed c.requires.0.width) in
    let read = ap (λ (ws : List Wire). numbered ws c.first_number-m.result) wires in
    let n = to_z-of_z c.ranges.n in
    let given = c.write_pairs-given.ensures.0 ∙ ap length read in
    record {
      value = (λ i. Ok (Some (record { n = n i; pairs = given i }))) ∙ ap (model_or a.n) (sym some);
      pairs_after =
          c.write_pairs-given.ensures.1
          ∙ ap (λ (ws : List Wire). padded (pos 0) (length a.pairs.now) (table ws)) read
          ∙ ap (λ (x : Option (List Wire)). padded (pos 0) (length a.pairs.now) (table (model_pairs x))) (sym some);
    }
