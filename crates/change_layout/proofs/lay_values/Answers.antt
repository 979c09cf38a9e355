use Rattle.std.proofs.Common.{◌≡◌, ap, sym, subst, ◌∙◌, List, ◌++◌, ℕ, length, drop}
use Rattle.card.specs.Layout.{leaf_pairs}
use Rattle.card.proofs.NodeLaws.{length_node}
use Rattle.change_decide.specs.Places.{Fits}
use Rattle.change_decide.specs.declared.Decision.{Decision}
use Rattle.change_rows.specs.Nodes.{change_length, words_laid}
use Rattle.change_split.specs.Split.{split_leaf_of}
use Rattle.change_plan.specs.Change.{split_leaf, absorb, split_parent, halves, share, merge, merge_root}
use Rattle.change_layout.specs.LayOut.{store_count, words_by}
use Rattle.change_layout.proofs.lay_values.Goals as goal

-- the decision is the one of the arm
turned : (card nodes row : List ℕ) {d e : Decision} → d ≡ e → words_by card e nodes ++ drop (store_count e) row ≡ words_by card d nodes ++ drop (store_count d) row
turned card nodes row e = ap (λ (d : Decision). words_by card d nodes ++ drop (store_count d) row) (sym e)

pub lay_split_leaf-requires : goal.lay_split_leaf-requires
unfolding Fits
lay_split_leaf-requires c =
    let f = subst (Fits c.args.card.now) c.in-SplitLeaf.is c.requires.0 in (
      ap length c.node_at.ensures ∙ length_node c.args.card.now c.in-SplitLeaf.node f.0.on.pos f.0.on.fits,
      ap (λ (l : List ℕ). length (leaf_pairs l)) c.node_at.ensures ∙ f.2,
      c.requires.1,
    )

pub returns-in-SplitLeaf : goal.returns-in-SplitLeaf
unfolding words_by store_count change_length split_leaf
returns-in-SplitLeaf c =
    c.lay_split_leaf.ensures c.in-SplitLeaf.node
    ∙ ap (λ (l : List ℕ). words_laid (split_leaf_of c.in-SplitLeaf.node c.in-SplitLeaf.link c.in-SplitLeaf.key c.in-SplitLeaf.value l c.args.nodes) c.args.values.now) c.node_at.ensures
    ∙ turned c.args.card.now c.args.nodes c.args.values.now c.in-SplitLeaf.is

pub returns-in-Absorb : goal.returns-in-Absorb
unfolding words_by store_count change_length absorb
returns-in-Absorb c = c.lay_absorb.ensures ∙ turned c.args.card.now c.args.nodes c.args.values.now c.in-Absorb.is

pub returns-in-SplitParent : goal.returns-in-SplitParent
unfolding words_by store_count change_length split_parent
returns-in-SplitParent c = c.lay_split_parent.ensures ∙ turned c.args.card.now c.args.nodes c.args.values.now c.in-SplitParent.is

pub returns-in-Share : goal.returns-in-Share
unfolding words_by store_count change_length share halves
returns-in-Share c = c.lay_share.ensures ∙ turned c.args.card.now c.args.nodes c.args.values.now c.in-Share.is

pub returns-in-Merge : goal.returns-in-Merge
unfolding words_by store_count change_length merge
returns-in-Merge c = c.lay_merge.ensures ∙ turned c.args.card.now c.args.nodes c.args.values.now c.in-Merge.is

pub returns-in-MergeRoot : goal.returns-in-MergeRoot
unfolding words_by store_count change_length merge_root
returns-in-MergeRoot c = c.lay_merge_root.ensures ∙ turned c.args.card.now c.args.nodes c.args.values.now c.in-MergeRoot.is
