-- Document 01, "The changes": what two siblings hold together.
use Rattle.std.specs.Prelude.{◌≡◌, List, ℕ, get_or, eqb}
use Rattle.laws.specs.Cases.{pick}
use Rattle.card.specs.Layout.{kind_of, routing_keys}
use Rattle.walk.specs.declared.Position.{Position}
use Rattle.change_decide.specs.Decide.{left_sibling}
use Rattle.change_decide.specs.Places.{parent_at, left_at, right_at}
use Rattle.change_plan.specs.Change.{Change, Together, leaves_together, inners_together, share, merge, merge_root}
use Rattle.change_plan.specs.Planning.{first, second, third}
use Rattle.change_siblings.specs.declared.together.Held.{Held}

-- the two siblings at a position, by their kind
unfoldable pub together_at : List ℕ → Position → Together
together_at card p =
    pick (eqb (kind_of (left_at card p)) 1)
    (leaves_together (left_at card p) (right_at card p))
    (inners_together (left_at card p) (get_or (routing_keys (parent_at card p)) (left_sibling p) 0) (right_at card p))

-- the changes of the two, over the numbers that they are given
abbrev pub share_at : List ℕ → Position → List ℕ → Change
share_at card p = λ ms. share p (parent_at card p) (left_sibling p) (together_at card p) (first ms) (second ms) (third ms)

abbrev pub merge_at : List ℕ → Position → List ℕ → Change
merge_at card p = λ ms. merge p (parent_at card p) (left_sibling p) (together_at card p) (first ms) (second ms)

abbrev pub merge_root_at : List ℕ → Position → List ℕ → Change
merge_root_at card p = λ ms. merge_root p (parent_at card p) (left_sibling p) (together_at card p) (first ms)

-- what is gathered is what the two hold together
pub record HoldsTogether (r : Held) (both : Together) : Type 0 where
  pub kind : r.kind ≡ both.kind
  pub keys : r.keys ≡ both.keys
  pub values : r.beside ≡ both.values
