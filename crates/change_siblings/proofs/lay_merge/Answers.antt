use Rattle.std.proofs.Common.{◌≡◌, refl, ap, sym, ◌∙◌, List, [], ◌∷◌, ◌++◌, ℕ, length, get_or, drop, append-nil, arith, rules}
use borrow.Rule.Slice.PartMut.{same_len_mid}
use Rattle.card.specs.Stores.{new_node}
use Rattle.change_decide.specs.Decide.{left_sibling}
use Rattle.change_decide.specs.Places.{parent_at}
use Rattle.change_rows.specs.Nodes.{image_of, new_words, change_words, change_length}
use Rattle.change_rows.proofs.NodeLaws.{words_laid}
use Rattle.change_plan.specs.Change.{copied, merge}
use Rattle.change_siblings.specs.Siblings.{together_at}
use Rattle.change_siblings.proofs.SiblingLaws.{take_one}
use Rattle.change_siblings.proofs.lay_merge.Goals as goal

pub returns : goal.returns
unfolding change_words change_length merge new_words
returns c =
    let h = c.lay_merged in
    let f = c.copy_parent in
    let nodes = c.args.nodes in
    let len : length c.args.nodes ≡ 3 = search rules in
    let both = together_at c.args.card.now c.args.p in
    let parent = parent_at c.args.card.now c.args.p in
    let j = left_sibling c.args.p in
    words_laid (new_node (get_or nodes 0 0) both.kind both.keys both.values ∷ []) (copied (get_or nodes 1 0) parent j [] (get_or nodes 0 0 ∷ []))
    c.args.values.now (h.new.words ++ drop 24 c.args.values.now) f.new.words 24 48 (get_or nodes 1 0) refl refl
    (ap (λ (l : List ℕ). l ++ drop 24 c.args.values.now) (h.ensures ∙ sym (append-nil _)))
    (same_len_mid 0 24 c.args.values.now h.new.words h.auto.words) f.auto.words (omega (arith, c.requires.2))
    (f.ensures ∙ ap (λ (ks : List ℕ). image_of (copied (get_or nodes 1 0) parent j [] ks)) (take_one nodes len))
