use Rattle.std.proofs.Common.{rules, tests, ◌≡◌, ◌∙◌, List, [], ◌∷◌, Bool, true, false, ◌&&◌, refl, ap}
use Rattle.std.proofs.lemmas.Iterator.{YieldsList-from_slice}
use Rattle.std.proofs.lemmas.Iterator.Search.{all_from_yields_List}
use Rattle.std.specs.List.{list_all}
use Rattle.stab.specs.Basic.{all_of, ◌and◌}
use Rattle.stab.specs.Text.{five_digits}
use Rattle.writing.proofs.writable.Goals as goal

both : (a b : Bool) → a && b ≡ (a and b)
unfolding ◌and◌
both true b = refl
both false b = refl

every : {A : Type 0} (p : A → Bool) (xs : List A) → list_all p xs ≡ all_of p xs
unfolding all_of
every p [] = refl
every p (x ∷ xs) = both (p x) (list_all p xs) ∙ ap (λ (b : Bool). p x and b) (every p xs)

pub returns : goal.returns
returns c =
    all_from_yields_List five_digits _ _ c.all.result c.all.ensures.ran (YieldsList-from_slice _ c.iter.ensures.rest) (λ x b q k. search (rules, tests))
    ∙ every five_digits c.args.t.now
