-- Document 02, W-201: "Given any number from 0 up, the call answers the pair with the smallest key greater than it, or "none"
-- exactly when the table holds no such key."
use Rattle.std.specs.Prelude.{◌≡◌, List, [], ◌∷◌, ℕ, zero, suc, ◌<◌, length, eqb, ltb, Option, Some, None}
use Rattle.std.proofs.Math.Option.{Option as Maybe, none, some}
use Rattle.laws.specs.Cases.{pick}
use Rattle.card.specs.Lines.{has_line, seen}
use Rattle.card.specs.Header.{card_refusal, nodes_of_length}
use Rattle.card.specs.Layout.{depth_limit, key_limit, node_at, leaf_pairs}
use Rattle.card.specs.Replies.{Reply, refusal, nothing, next}
use Rattle.walk.specs.Descent.{root_position, Way, way_from, way, leaf_of, depth_of, beside_all}
use Rattle.walk_next.specs.declared.Pair.{Pair as Least}
use Rattle.walk_next.specs.Next.{Successor}
use Rattle.walk_next.specs.Next.{Pair, Nothing, Refused}
use Rattle.walk.specs.declared.Reached.{Reached}

-- ---- in a leaf

-- of two pairs the one with the smaller key
unfoldable pub nearer : ℕ × ℕ → Maybe (ℕ × ℕ) → Maybe (ℕ × ℕ)
nearer p none = some p
nearer p (some q) = pick (ltb q.0 p.0) (some q) (some p)

-- a pair more, where its key is greater than the number
unfoldable pub nearer_above : ℕ → ℕ × ℕ → Maybe (ℕ × ℕ) → Maybe (ℕ × ℕ)
nearer_above after p least = pick (ltb after p.0) (nearer p least) least

-- "the pair with the smallest key greater than it", of a list of pairs
unfoldable pub least_above : ℕ → List (ℕ × ℕ) → Maybe (ℕ × ℕ)
least_above after [] = none
least_above after (p ∷ ps) = nearer_above after p (least_above after ps)

-- its key, and 2^32, above every key, where there is none
abbrev pub IsKey : Maybe (ℕ × ℕ) → ℕ → Type 0
IsKey none key = key ≡ key_limit
IsKey (some p) key = (key ≡ p.0) × (key < key_limit)

-- a slot more: of two keys the smaller one, where it is greater than the number
unfoldable pub nearer_key : ℕ → ℕ → ℕ → ℕ
nearer_key after key least = pick (ltb after key) (pick (ltb least key) least key) least

-- the pair as the code holds it
unfoldable pub least_of : Option Least → Maybe (ℕ × ℕ)
least_of None = none
least_of (Some l) = some (l.key, l.value)

-- ---- the call

unfoldable pub found : Maybe (ℕ × ℕ) → Successor
found none = Nothing
found (some p) = Pair p.0 p.1

-- in the leaf that was reached
unfoldable pub next_in_leaf : List ℕ → ℕ → Option Reached → Successor
next_in_leaf card after None = Refused 9
next_in_leaf card after (Some r) = found (least_above after (leaf_pairs (node_at card r.node)))

-- in the first leaf of the node that stands right after another's way, where there is one: key 0, which is below all routing keys,
-- takes first children
unfoldable pub in_next_leaf : List ℕ → ℕ → ℕ → ℕ → Successor
in_next_leaf card n after beside = pick (eqb beside 0) Nothing (next_in_leaf card after (leaf_of (way_from card n 0 depth_limit (root_position beside))))

-- in the leaf that the number leads to, else in the next one
unfoldable pub or_next_leaf : List ℕ → ℕ → ℕ → Way → Successor → Successor
or_next_leaf card n after own Nothing = in_next_leaf card n after (beside_all card after 0 own.inner)
or_next_leaf card n after own (Pair key value) = Pair key value
or_next_leaf card n after own (Refused r) = Refused r

-- by the number's own way
unfoldable pub next_along : List ℕ → ℕ → ℕ → Way → Successor
next_along card n after own = or_next_leaf card n after own (next_in_leaf card after (leaf_of own))

-- on the table of one line
unfoldable pub next_in : List ℕ → ℕ → ℕ → Successor
next_in card n after = next_along card n after (way card n after)

-- "It reads the card only, like a find": 1, 2, 3, 18 (document 02, W-207) and 9; "6 is not given"
unfoldable pub next_of : ℕ → ℕ → List ℕ → ℕ → Successor
next_of greatest line card after =
    pick (eqb (card_refusal greatest card) 0)
    (pick (has_line card line) (next_in (seen line card) (nodes_of_length greatest (length card)) after) (Refused 18)) (Refused (card_refusal greatest card))

-- ---- document 02, W-203: "the number of internal nodes on the given number's way when the call began, tagged ones counted"

-- "A refusal carries none."
unfoldable pub carried : ℕ → Successor → ℕ
carried depth (Pair key value) = depth
carried depth Nothing = depth
carried depth (Refused r) = 0

-- the number's own way, also where the answer is in the next leaf
unfoldable pub next_depth : ℕ → ℕ → List ℕ → ℕ → ℕ
next_depth greatest line card after = carried (depth_of (leaf_of (way (seen line card) (nodes_of_length greatest (length card)) after))) (next_of greatest line card after)

-- ---- "Walking an unchanged card from 0 lists each pair once, rising": at most so many pairs, from those above a number on

unfoldable pub on_next : (ℕ → List (ℕ × ℕ)) → Successor → List (ℕ × ℕ)
on_next rest (Pair key value) = (key, value) ∷ rest key
on_next rest Nothing = []
on_next rest (Refused r) = []

unfoldable pub walk_from : ℕ → ℕ → ℕ → List ℕ → ℕ → List (ℕ × ℕ)
walk_from greatest line zero card after = []
walk_from greatest line (suc most) card after = on_next (walk_from greatest line most card) (next_of greatest line card after)

-- ---- its answer as numbers: a key and a value

unfoldable pub next_reply : Successor → Reply
next_reply (Pair key value) = next key value
next_reply Nothing = nothing
next_reply (Refused r) = refusal r
