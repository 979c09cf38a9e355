use Rattle.std.proofs.Common.{sym, ◌∙◌, arith}
use Rattle.std.proofs.lemmas.Grind.{common_steps}
use Rattle.card_free.specs.NodeSet.{nodes_of, next_free}
use Rattle.card_free.proofs.NodeSetLaws.{length_nodes, next_round, from_past}
use Rattle.card_free.proofs.next_free.Goals as goal

pub returns-then-last : goal.returns-then-last
returns-then-last c =
    let words = c.args.words.now in
    c.first_from.ensures ∙ sym (next_round (nodes_of words) _ (from_past (nodes_of words) _ (omega (arith, length_nodes words))))

pub returns : goal.returns
unfolding next_free
returns c = grind (arith, common_steps)
