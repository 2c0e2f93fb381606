use Rattle.std.proofs.Common.{◌≡◌, eqb, take, sym, ◌∙◌, rules, tests, length-take-le}
use Rattle.std.specs.List.{position}
use Rattle.std.specs.Option.{unwrap_or}
use Rattle.std.proofs.lemmas.Iterator.{YieldsList-from_slice}
use Rattle.std.proofs.lemmas.Iterator.Search.{position_from_yields_List}
use Rattle.occurring.proofs.Insertion.{place_or_end}
use Rattle.assigned.proofs.KeyLaws.{place_is}
use Rattle.assigned.proofs.place.Goals as goal

pub returns : goal.returns
returns c =
    let a = c.args in
    let held = take a.count a.keys.now in
    let found : c.position.result ≡ position (λ k. eqb k a.key) held = position_from_yields_List (λ k. eqb k a.key) _ _ c.position.result c.position.ensures.ran (YieldsList-from_slice held (cc)) (λ x b q k. search (rules, tests)) in
    let at : c.unwrap_or.result ≡ unwrap_or (position (λ k. eqb k a.key) held) a.count = cc in
    at ∙ place_or_end _ held a.count (length-take-le a.count a.keys.now c.requires) ∙ sym (place_is a.key held)
