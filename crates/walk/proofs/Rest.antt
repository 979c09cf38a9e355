-- What is read off the way from a node on, by what the node in hand is to the key: what every loop down the card asks at each node.
use Rattle.std.proofs.Common.{◌≡◌, ℕ, Bool, List, true, false, sym, ◌∙◌, ap}
use Rattle.card.specs.Layout.{node_at}
use Rattle.walk.specs.Descent.{outside, down_in, Way, nowhere, way_from}
use Rattle.walk.specs.declared.Down.{Down}
use Rattle.walk.specs.declared.Position.{Position}
use Rattle.walk.proofs.DescentLaws.{onward, by_down, way_outside, way_at}

module _ {A : Type 0} (read : Way → A) (card : List ℕ) (n key levels : ℕ) {whole : A} (p : Position) {m : ℕ} (at : p.node ≡ m)
    (rest : whole ≡ read (way_from card n key levels p)) {out : Bool} (told : out ≡ outside n m) where
  pub rest_outside : out ≡ true → whole ≡ read nowhere
  rest_outside is = rest ∙ ap read (way_outside card n key levels p m at (sym told ∙ is))

  pub rest_at : out ≡ false → {node : List ℕ} → node ≡ node_at card m → {d : Down} → d ≡ down_in node key → (e : Down) → d ≡ e
      → whole ≡ read (by_down p (onward card n key levels) e)
  rest_at is {node} same {d} down e what = rest ∙ ap read (way_at card n key levels p m at (sym told ∙ is) node same e (sym down ∙ what))
