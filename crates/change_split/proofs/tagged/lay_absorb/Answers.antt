use Rattle.std.proofs.Common.{refl, ap, ap₂, ◌∙◌, [], get_or, length, length-take-le, arith}
use Rattle.card.specs.Layout.{node_image}
use Rattle.card.specs.Stores.{new_node}
use Rattle.change_rows.specs.Nodes.{new_words, change_words, change_length}
use Rattle.change_rows.proofs.NodeLaws.{words_laid}
use Rattle.change_plan.specs.Change.{absorb}
use Rattle.change_split.specs.Split.{keys_taken_in, children_taken_in}
use Rattle.change_split.proofs.SplitLaws.{keys_count, children_count}
use Rattle.change_split.proofs.tagged.lay_absorb.Goals as goal

pub write_node-requires : goal.write_node-requires
write_node-requires c =
    let keys = ap length (c.as_slice.ensures ∙ c.take_in-keys.ensures.0) ∙ keys_count c.args.card.now c.args.p c.requires.0 in
    let kids = ap length (c.as_slice-2.ensures ∙ c.take_in-keys.ensures.1) ∙ children_count c.args.card.now c.args.p c.requires.0 in
    (length-take-le 24 c.args.values.now (omega (arith, c.requires.2)), omega (arith, c.requires.1), omega (arith, c.requires.1))

pub returns : goal.returns
unfolding change_words change_length absorb new_words
returns c =
    let w = c.write_node in
    let m = get_or c.args.nodes 0 0 in
    words_laid [] (new_node m 2 (keys_taken_in c.args.card.now c.args.p) (children_taken_in c.args.card.now c.args.p))
    c.args.values.now c.args.values.now w.new.words 0 24 m refl refl refl refl w.auto.words (omega (arith, c.requires.2))
    (w.ensures ∙ ap₂ (node_image 2) (c.as_slice.ensures ∙ c.take_in-keys.ensures.0) (c.as_slice-2.ensures ∙ c.take_in-keys.ensures.1))
