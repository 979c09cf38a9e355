use Rattle.std.proofs.Common.{◌∙◌, sym, rules, tests, arith}
use Rattle.std.proofs.lemmas.Iterator.{YieldsList-from_slice, YieldsList-from_map}
use Rattle.std.proofs.lemmas.Iterator.Adapters.{at_most_from_yields_List, fits_from_length}
use Rattle.std.proofs.lemmas.Iterator.Consumers.{sum_from_yields_List}
use Rattle.card.specs.Layout.{key_words, value_words, is_key, leaf_pairs}
use Rattle.card.proofs.NodeLaws.{is_key_none, is_key_some, length_key_words, length_value_words, slots_counted}
use Rattle.card.proofs.pair_count.Goals as goal

pub sum-requires-clause-fits : goal.sum-requires-clause-fits
unfolding key_words
sum-requires-clause-fits c =
    fits_from_length _ _ 11 _ (at_most_from_yields_List (YieldsList-from_slice (key_words c.args.node.now) cc) (omega (arith, length_key_words c.args.node.now c.requires)))
    c.map.ensures.closure (omega arith) (λ x r q k. search (rules, tests))

pub returns : goal.returns
unfolding leaf_pairs key_words is_key
returns c =
    let node = c.args.node.now in
    sum_from_yields_List _ _ c.sum.ensures.ran
    (YieldsList-from_map _ is_key (YieldsList-from_slice (key_words node) cc) c.map.ensures.closure (λ x r q k. search (rules, tests, is_key_none, is_key_some)))
    ∙ slots_counted (key_words node) (value_words node) (length_key_words node c.requires ∙ sym (length_value_words node c.requires))
