use Rattle.std.proofs.Common.{◌≡◌, ap, ap₂, ◌∙◌, List, [], ◌∷◌, ℕ, suc, length, arith}
use Rattle.laws.specs.Sorting.{sort, pair_keys, pair_values}
use Rattle.laws.proofs.Sorting.{length_sort}
use Rattle.card.specs.Layout.{leaf_pairs}
use Rattle.change_rows.specs.Nodes.{words_laid}
use Rattle.change_rows.specs.Halves.{together}
use Rattle.change_split.specs.Split.{under}
use Rattle.change_split.proofs.SplitLaws.{pairs_whole, leaf_count, leaf_and_pair, split_leaf_lem}
use Rattle.change_split.proofs.split.lay_split_leaf.Goals as goal

pub insert-requires : goal.insert-requires
insert-requires c =
    let n = leaf_count (leaf_pairs c.args.leaf.now) (c.args.key, c.args.value) _ _ [] c.new-pairs.ensures c.insert_leaf.ensures in
    omega (arith, c.requires.1)

pub lay_under-requires : goal.lay_under-requires
lay_under-requires c =
    let l = leaf_pairs c.args.leaf.now in
    let all = leaf_and_pair l (c.args.key, c.args.value) _ _ _ c.new-pairs.ensures c.insert_leaf.ensures c.insert.ensures in
    let twelve : length c.insert.new.self ≡ 12 = ap length all ∙ length_sort _ ∙ ap suc c.requires.1 in
    (rw (c.keys.ensures, c.values.ensures) (pairs_whole c.insert.new.self twelve), c.requires.2)

pub returns : goal.returns
returns c m =
    let l = leaf_pairs c.args.leaf.now in
    let all = leaf_and_pair l (c.args.key, c.args.value) _ _ _ c.new-pairs.ensures c.insert_leaf.ensures c.insert.ensures in
    c.lay_under.ensures
    ∙ ap₂ (λ (x y : List ℕ). words_laid (under c.args.link (together 1 x y) c.args.nodes) c.args.values.now)
    (c.keys.ensures ∙ ap pair_keys all) (c.values.ensures ∙ ap pair_values all)
    ∙ split_leaf_lem m c.args.link (sort ((c.args.key, c.args.value) ∷ l)) c.args.nodes c.args.values.now (length_sort _ ∙ ap suc c.requires.1)
