-- New nodes as rows of places and of words, and the rows of a change.
use Rattle.std.specs.Prelude.{List, [], ◌∷◌, ◌++◌, map, ℕ, zero, suc, ◌+◌, ◌*◌, ◌≤◌, ◌<◌, ◌^◌, length, get_or, drop}
use Rattle.card.specs.Layout.{place, node_image}
use Rattle.card.specs.Stores.{NewNode}
use Rattle.change_plan.specs.Change.{Change}

-- a number that a node can have, far above any card's, so that the places of its words fit 32 bits
pub record IsNumber (m : ℕ) : Type 0 where
  pub least : 1 ≤ m
  pub most : m < 2 ^ 20

-- the first so many numbers are nodes'
abbrev pub Numbered : ℕ → List ℕ → Type 0
Numbered count ms = (i : ℕ) → i < count → IsNumber (get_or ms i 0)

-- so many numbers, each one more than the one before
unfoldable pub count_from : ℕ → ℕ → List ℕ
count_from zero from = []
count_from (suc count) from = from ∷ count_from count (suc from)

-- "words 0 to 23 of each in order": the places of node m's words, and of the words of several nodes, one node after the other
unfoldable pub node_places : ℕ → List ℕ
node_places m = count_from 24 (place m 0)

unfoldable pub places_of : List ℕ → List ℕ
places_of [] = []
places_of (m ∷ ms) = node_places m ++ places_of ms

-- the words of a new node, and of new nodes one after the other
abbrev pub image_of : NewNode → List ℕ
image_of x = node_image x.kind x.keys x.values

unfoldable pub new_words : List NewNode → List ℕ
new_words [] = []
new_words (x ∷ xs) = image_of x ++ new_words xs

-- The two rows of a change: "New nodes are given and written left, right, then above, words 0 to 23 of each in order; a single
-- link store .. comes last".
abbrev pub places_linked : List ℕ → ℕ → List ℕ
places_linked ms link = places_of ms ++ link ∷ []

unfoldable pub change_places : Change → List ℕ
change_places ch = places_linked (map (λ x. x.number) ch.nodes) ch.link

unfoldable pub change_words : Change → List ℕ
change_words ch = new_words ch.nodes ++ ch.top ∷ []

-- how many stores that is
unfoldable pub change_length : Change → ℕ
change_length ch = 24 * length ch.nodes + 1

-- the words of a change at the front of a row
abbrev pub words_laid : Change → List ℕ → List ℕ
words_laid ch row = change_words ch ++ drop (change_length ch) row
