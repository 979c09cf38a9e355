use Rattle.std.proofs.Common.{refl, [], get_or, arith}
use Rattle.card.specs.Stores.{new_node}
use Rattle.change_rows.specs.Nodes.{new_words, change_words, change_length}
use Rattle.change_rows.proofs.NodeLaws.{words_laid}
use Rattle.change_plan.specs.Change.{merge_root}
use Rattle.change_siblings.specs.Siblings.{together_at}
use Rattle.change_siblings.proofs.lay_merge_root.Goals as goal

pub returns : goal.returns
unfolding change_words change_length merge_root new_words
returns c =
    let h = c.lay_merged in
    let m = get_or c.args.nodes 0 0 in
    let both = together_at c.args.card.now c.args.p in
    words_laid [] (new_node m both.kind both.keys both.values) c.args.values.now c.args.values.now h.new.words 0 24 m refl refl
    refl refl h.auto.words (omega (arith, c.requires.2)) h.ensures
