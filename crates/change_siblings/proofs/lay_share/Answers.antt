use Rattle.std.proofs.Common.{◌≡◌, refl, ap, ap₂, ◌∙◌, List, [], ◌∷◌, ◌++◌, ℕ, length, get_or, drop, arith, rules}
use Rattle.change_decide.specs.Decide.{left_sibling}
use Rattle.change_decide.specs.Places.{parent_at}
use Rattle.change_rows.specs.Nodes.{image_of, change_words, change_length}
use Rattle.change_rows.proofs.NodeLaws.{words_laid}
use Rattle.change_rows.proofs.HalfLaws.{halves_words_lem}
use Rattle.change_plan.specs.Change.{key_between, halves, copied, share}
use Rattle.change_siblings.specs.Siblings.{together_at}
use Rattle.change_siblings.proofs.SiblingLaws.{take_two}
use Rattle.change_siblings.proofs.lay_share.Goals as goal

pub returns : goal.returns
unfolding change_words change_length share halves
returns c =
    let h = c.lay_halves in
    let f = c.copy_parent in
    let nodes = c.args.nodes in
    let len : length c.args.nodes ≡ 3 = search rules in
    let both = together_at c.args.card.now c.args.p in
    let parent = parent_at c.args.card.now c.args.p in
    let j = left_sibling c.args.p in
    words_laid (halves both (get_or nodes 0 0) (get_or nodes 1 0)) (copied (get_or nodes 2 0) parent j (key_between both ∷ []) (get_or nodes 0 0 ∷ get_or nodes 1 0 ∷ []))
    c.args.values.now h.new.values f.new.words 48 72 (get_or nodes 2 0) refl refl
    (h.ensures.0 ∙ ap (λ (l : List ℕ). l ++ drop 48 c.args.values.now) (halves_words_lem both (get_or nodes 0 0) (get_or nodes 1 0)))
    h.auto.values f.auto.words (omega (arith, c.requires.2))
    (f.ensures ∙ ap₂ (λ (k : ℕ) (ks : List ℕ). image_of (copied (get_or nodes 2 0) parent j (k ∷ []) ks)) h.ensures.1 (take_two nodes len))
