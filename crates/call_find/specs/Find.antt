-- Document 01: "A find is one call on the card alone; it may come between steps and answers by the map at that moment."
use Rattle.std.specs.Prelude.{List, ℕ, ◌+◌, length, get_or, eqb, Option, Some, None}
use Rattle.laws.specs.Cases.{pick}
use Rattle.card.specs.Layout.{node_at}
use Rattle.card.specs.Lines.{has_line, seen}
use Rattle.card.specs.Header.{nodes_of_length, card_refusal}
use Rattle.walk.specs.Descent.{slot_of, way, leaf_of, depth_of}
use Rattle.call_find.specs.Found.{Found}
use Rattle.call_find.specs.Found.{Value as FoundValue, Absent as FoundAbsent, Refused as FoundRefused}
use Rattle.walk.specs.declared.Reached.{Reached}

-- in a leaf: the value beside "the first slot whose key word equals the key"
unfoldable pub found_in : List ℕ → Option ℕ → Found
found_in node (Some i) = FoundValue (get_or node (12 + i) 0)
found_in node None = FoundAbsent

-- "9: on the way down"
unfoldable pub found_at : List ℕ → ℕ → Option Reached → Found
found_at card key None = FoundRefused 9
found_at card key (Some r) = found_in (node_at card r.node) (slot_of (node_at card r.node) key)

-- "6: key 0", on the table of one line
unfoldable pub find_in : List ℕ → ℕ → ℕ → Found
find_in card n key = pick (eqb key 0) (FoundRefused 6) (found_at card key (leaf_of (way card n key)))

-- 1, 2, 3, then "18: line number not one the card has, just before 6" (document 02, W-207)
unfoldable pub find_of : ℕ → ℕ → List ℕ → ℕ → Found
find_of greatest line card key =
    pick (eqb (card_refusal greatest card) 0)
    (pick (has_line card line) (find_in (seen line card) (nodes_of_length greatest (length card)) key) (FoundRefused 18)) (FoundRefused (card_refusal greatest card))

-- Document 02, W-203: "the number of internal nodes on the given number's way when the call began, tagged ones counted. A refusal carries
-- none": 0 for every refusal of `find_of`
unfoldable pub depth_in : List ℕ → ℕ → ℕ → ℕ
depth_in card n key = pick (eqb key 0) 0 (depth_of (leaf_of (way card n key)))

unfoldable pub find_depth : ℕ → ℕ → List ℕ → ℕ → ℕ
find_depth greatest line card key =
    pick (eqb (card_refusal greatest card) 0) (pick (has_line card line) (depth_in (seen line card) (nodes_of_length greatest (length card)) key) 0) 0
