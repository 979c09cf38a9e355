-- Stores played one after the other; a node written whole; nodes written one after the other.
use Rattle.std.specs.Prelude.{List, [], ◌∷◌, ◌++◌, ℕ, suc}
use Rattle.card.specs.Layout.{place, node_image}

-- a store: the place of a word and what goes there
abbrev pub Store : Type 0
Store = ℕ × ℕ

abbrev pub stores : ℕ → List ℕ → List Store
stores p [] = []
stores p (w ∷ ws) = (p, w) ∷ stores (suc p) ws

-- new nodes, written one after the other
pub record NewNode : Type 0 where
  pub number : ℕ
  pub kind : ℕ
  pub keys : List ℕ
  pub values : List ℕ

abbrev pub new_node : ℕ → ℕ → List ℕ → List ℕ → NewNode
new_node i k a b = record { number = i; kind = k; keys = a; values = b }

abbrev pub node_stores : List NewNode → List Store
node_stores [] = []
node_stores (X ∷ Xs) = stores (place X.number 0) (node_image X.kind X.keys X.values) ++ node_stores Xs
