use Rattle.std.proofs.Common.{ℕ, ap, sym, ◌∙◌, arith, false}
use Rattle.card.specs.Layout.{depth_limit}
use Rattle.walk.specs.Descent.{root_position, way_from, end_of}
use Rattle.call_change.specs.Results.{Arrives}
use Rattle.call_change.proofs.LineChanges.{land_none, land_leaf}
use Rattle.call_change.proofs.arrive.Goals as goal

pub root_of-requires : goal.root_of-requires
root_of-requires c = (omega (arith, c.requires.0.words), c.requires.1)

-- the walk is that of the line's table
pub returns-in_default : goal.returns-in_default
unfolding Arrives
returns-in_default c =
    let card = c.args.card.now in
    let below = ap (λ (r : ℕ). end_of card false (way_from card c.args.n c.args.key depth_limit (root_position r))) c.root_of.ensures in
    land_none _ _ _ _ (λ p depth e. c.in_default.not-Leaf p depth (c.descend.ensures ∙ below ∙ e))

pub returns : goal.returns
unfolding Arrives
returns c =
    let card = c.args.card.now in
    let below = ap (λ (r : ℕ). end_of card false (way_from card c.args.n c.args.key depth_limit (root_position r))) c.root_of.ensures in
    (_, land_leaf _ _ _ _ c.in-Leaf.position _ (sym (c.descend.ensures ∙ below) ∙ c.in-Leaf.is))
