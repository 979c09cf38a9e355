use Rattle.std.proofs.Common.{◌≡◌, ap, ap₂, ◌∙◌, List, ℕ, length, arith}
use Rattle.card.proofs.NodeLaws.{children_le}
use Rattle.change_decide.specs.Places.{parent_at}
use Rattle.change_rows.specs.Nodes.{words_laid}
use Rattle.change_rows.specs.Halves.{together}
use Rattle.change_split.specs.Split.{under, keys_taken_in, children_taken_in}
use Rattle.change_split.proofs.SplitLaws.{children_whole, keys_count, children_count, split_parent_lem}
use Rattle.change_split.proofs.tagged.lay_split_parent.Goals as goal

pub lay_under-requires : goal.lay_under-requires
lay_under-requires c =
    let keys = ap length (c.as_slice.ensures ∙ c.take_in-keys.ensures.0) ∙ keys_count c.args.card.now c.args.p c.requires.0 in
    let kids = ap length (c.as_slice-2.ensures ∙ c.take_in-keys.ensures.1) ∙ children_count c.args.card.now c.args.p c.requires.0 in
    let most = children_le (parent_at c.args.card.now c.args.p) in
    (children_whole _ _ (omega (arith, c.requires.1)) (omega (arith, c.requires.1)), c.requires.2)

pub returns : goal.returns
returns c =
    let card = c.args.card.now in
    let p = c.args.p in
    let twelve : length (children_taken_in card p) ≡ 12 =
    omega (arith, children_count card p c.requires.0, children_le (parent_at card p), c.requires.1) in
    c.lay_under.ensures
    ∙ ap₂ (λ (x y : List ℕ). words_laid (under p.above (together 2 x y) c.args.nodes) c.args.values.now)
    (c.as_slice.ensures ∙ c.take_in-keys.ensures.0) (c.as_slice-2.ensures ∙ c.take_in-keys.ensures.1)
    ∙ split_parent_lem p (keys_taken_in card p) (children_taken_in card p) c.args.nodes c.args.values.now twelve
