use Rattle.std.proofs.Common.{◌≡◌, refl, ap, ◌∙◌, Bool, ◌&&◌, ℕ, List, [], ◌∷◌, eqb, rules, tests}
use Rattle.std.specs.List.{list_all}
use Rattle.std.proofs.lemmas.Iterator.{YieldsList-from_slice}
use Rattle.std.proofs.lemmas.Iterator.Search.{all_from_yields_List}
use Rattle.laws.specs.Lists.{all_zero}
use Rattle.card_check.proofs.unused.are_zero.Goals as goal

zeros : (words : List ℕ) → list_all (λ x. eqb x 0) words ≡ all_zero words
zeros [] = refl
zeros (x ∷ words) = ap (λ (b : Bool). eqb x 0 && b) (zeros words)

pub returns : goal.returns
returns c =
    all_from_yields_List (λ x. eqb x 0) _ _ _ c.all.ensures.ran (YieldsList-from_slice c.args.words.now cc) (λ x b q k. search (rules, tests))
    ∙ zeros c.args.words.now
