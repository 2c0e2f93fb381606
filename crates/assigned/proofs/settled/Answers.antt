use Rattle.std.proofs.Common.{◌≡◌, ℕ, eqb, sym, ◌∙◌, ap, rules, tests}
use Rattle.std.specs.List.{list_all}
use Rattle.std.proofs.lemmas.Iterator.{YieldsList-from_slice}
use Rattle.std.proofs.lemmas.Iterator.Search.{all_from_yields_List}
use Rattle.stab.specs.Basic.{all_of}
use Rattle.assigned.proofs.Blocks.{all_is}
use Rattle.assigned.proofs.settled.Goals as goal

pub returns : goal.returns
returns c =
    let ws = c.args.ws.now in
    let all = c.same-all.result in
    let each : c.all.result ≡ list_all (λ w. eqb w all) ws = all_from_yields_List (λ w. eqb w all) _ _ c.all.result c.all.ensures.ran (YieldsList-from_slice ws (cc)) (λ x b q k. search (rules, tests)) in
    each ∙ sym (all_is (λ w. eqb w all) ws) ∙ ap (λ (x : ℕ). all_of (λ w. eqb w x) ws) c.same-all.ensures
