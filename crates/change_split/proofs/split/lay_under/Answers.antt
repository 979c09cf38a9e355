use Rattle.std.proofs.Common.{◌≡◌, refl, ap, ap₂, ◌∙◌, List, [], ◌∷◌, ◌++◌, ℕ, length, get_or, take, drop, arith, rules}
use Rattle.card.specs.Layout.{node_image}
use Rattle.card.specs.Stores.{new_node}
use Rattle.change_rows.specs.Nodes.{change_words, change_length}
use Rattle.change_rows.specs.Halves.{together}
use Rattle.change_rows.proofs.NodeLaws.{words_laid}
use Rattle.change_rows.proofs.HalfLaws.{halves_words_lem}
use Rattle.change_plan.specs.Change.{kind_above, key_between, halves}
use Rattle.change_siblings.proofs.SiblingLaws.{take_two}
use Rattle.change_split.specs.Split.{under}
use Rattle.change_split.proofs.split.lay_under.Goals as goal

pub returns : goal.returns
unfolding under change_words change_length halves
returns c =
    let w = c.write_halves in
    let n = c.write_node in
    let nodes = c.args.nodes in
    let len : length c.args.nodes ≡ 3 = search rules in
    let link = c.args.link in
    let both = together c.args.kind c.args.keys.now c.args.beside.now in
    words_laid (halves both (get_or nodes 0 0) (get_or nodes 1 0)) (new_node (get_or nodes 2 0) (kind_above link) (key_between both ∷ []) (get_or nodes 0 0 ∷ get_or nodes 1 0 ∷ []))
    c.args.values.now w.new.words n.new.words 48 72 (get_or nodes 2 0) refl refl
    (w.ensures ∙ ap (λ (l : List ℕ). l ++ drop 48 c.args.values.now) (halves_words_lem both (get_or nodes 0 0) (get_or nodes 1 0)))
    w.auto.words n.auto.words (omega (arith, c.requires.1))
    (n.ensures
    ∙ ap (λ (k : ℕ). node_image k (c.key_between.result ∷ []) (take 2 nodes)) c.kind_above.ensures
    ∙ ap₂ (λ (k : ℕ) (l : List ℕ). node_image (kind_above link) (k ∷ []) l) c.key_between.ensures (take_two nodes len))
