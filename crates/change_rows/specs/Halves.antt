-- What two nodes hold together, shared out: "the left one getting the larger half".
use Rattle.std.specs.Prelude.{◌≡◌, List, ◌++◌, ℕ, ◌-◌, ◌≤◌, length, take, drop, eqb}
use Rattle.laws.specs.Cases.{pick}
use Rattle.card.specs.Layout.{node_image}
use Rattle.change_plan.specs.Change.{Together, left_keys, left_values}

abbrev pub together : ℕ → List ℕ → List ℕ → Together
together kind keys values = record { kind = kind; keys = keys; values = values }

-- the keys that go with so many values: as many for leaves, one fewer for internal nodes
unfoldable pub keys_for : ℕ → ℕ → ℕ
keys_for kind values = pick (eqb kind 1) values (values - 1)

-- enough to share out, and no more than two nodes hold
pub record Whole (kind : ℕ) (keys beside : List ℕ) : Type 0 where
  pub few : length beside ≤ 12
  pub enough : 4 ≤ length beside
  pub keyed : length keys ≡ keys_for kind (length beside)

-- the words of the two nodes that share, and of both
unfoldable pub left_words : Together → List ℕ
left_words both = node_image both.kind (take (left_keys both) both.keys) (take (left_values both) both.values)

unfoldable pub right_words : Together → List ℕ
right_words both = node_image both.kind (drop (left_values both) both.keys) (drop (left_values both) both.values)

abbrev pub halves_words : Together → List ℕ
halves_words both = left_words both ++ right_words both
