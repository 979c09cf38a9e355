use Rattle.std.proofs.Common.{◌≡◌, ◌∙◌, rules, tests, length, nat_eq}
use Rattle.std.proofs.lemmas.Iterator.{YieldsList-from_slice}
use Rattle.std.proofs.lemmas.Iterator.Search.{position_from_yields_List}
use Rattle.card.specs.Layout.{value_words, children}
use Rattle.card.proofs.NodeLaws.{length_value_words, before_zero_place}
use Rattle.card.proofs.child_count.Goals as goal

pub returns : goal.returns
unfolding children value_words
returns c =
    let words = value_words c.args.node.now in
    let found = position_from_yields_List (λ x. nat_eq x 0) _ _ c.position.result c.position.ensures.ran (YieldsList-from_slice words cc) (λ x b q k. search (rules, tests)) in
    let all : length words ≡ 11 = length_value_words _ c.requires in
    c.unwrap_or.ensures ∙ cc (found, all, before_zero_place words)
