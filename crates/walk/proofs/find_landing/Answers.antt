use Rattle.std.proofs.Common.{ap, sym, ◌∙◌}
use Rattle.walk.specs.Descent.{landed_at, landing_of}
use Rattle.walk.proofs.DescentLaws.{landing_at, unsought_none, unsought_leaf}
use Rattle.walk.proofs.find_landing.Goals as goal

pub returns-in_default : goal.returns-in_default
unfolding landing_of landed_at
returns-in_default c = sym (ap (landed_at _) (unsought_none _ _ (λ p depth e. c.in_default.not-Leaf p depth (c.descend.ensures ∙ e))))

pub returns : goal.returns
unfolding landing_of landed_at
returns c =
    ap (landing_at c.in-Leaf.position.node c.in-Leaf.position.link) c.run_above.ensures
    ∙ sym (ap (landed_at _) (unsought_leaf _ _ _ _ (sym c.descend.ensures ∙ c.in-Leaf.is)))
