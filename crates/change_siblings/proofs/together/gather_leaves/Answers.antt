use Rattle.std.proofs.Common.{refl, ap, ◌∙◌, length, arith}
use Rattle.laws.specs.Sorting.{insert_all, pair_keys, pair_values}
use Rattle.card.specs.Layout.{leaf_pairs}
use Rattle.change_plan.specs.Change.{leaves_together}
use Rattle.change_rows.proofs.PairLaws.{insert_all_length}
use Rattle.change_siblings.proofs.SiblingLaws.{sorted_twice}
use Rattle.change_siblings.proofs.together.gather_leaves.Goals as goal

pub insert_leaf-requires-2 : goal.insert_leaf-requires-2
insert_leaf-requires-2 c =
    let n = ap length c.insert_leaf.ensures ∙ insert_all_length (leaf_pairs c.args.y.now) c.new-pairs.result in
    (c.requires.0, omega (arith, n, ap length c.new-pairs.ensures))

pub returns : goal.returns
unfolding leaves_together
returns c =
    let x = leaf_pairs c.args.x.now in
    let y = leaf_pairs c.args.y.now in
    let all = c.insert_leaf-2.ensures ∙ ap (insert_all x) (c.insert_leaf.ensures ∙ ap (insert_all y) c.new-pairs.ensures) ∙ sorted_twice x y in
    record { kind = refl; keys = c.into_rows-keys.ensures.0 ∙ ap pair_keys all; values = c.into_rows-keys.ensures.1 ∙ ap pair_values all }
