-- Document 01, "The card", last paragraph, and the row "on the way down" of "Refusal by place".
use Rattle.std.specs.Prelude.{Bool, true, ◌&&◌, ◌||◌, not, List, [], ◌∷◌, ◌++◌, ℕ, zero, suc, ◌+◌, length, get_or, eqb, ltb, Option, Some, None}
use Rattle.std.proofs.Math.Option.{Option as Maybe, none, some}
use Rattle.laws.specs.Cases.{pick}
use Rattle.card.specs.Layout.{root_place, depth_limit, place, node_at, kind_of, key_words, children, routing_keys, leaf_pairs, run_below}
use Rattle.walk.specs.declared.Position.{Position}
use Rattle.walk.specs.declared.Look.{Look}
use Rattle.walk.specs.declared.Look.TheVariants.{Nowhere, Leaf as IsLeaf, Inner as IsInner}
use Rattle.walk.specs.declared.Down.{Down}
use Rattle.walk.specs.declared.Down.TheVariants.{Nowhere as DownNowhere, Leaf as DownLeaf, Childless, Inner as DownInner}
use Rattle.walk.specs.declared.Reached.{Reached}
use Rattle.walk.specs.declared.Beside.{Beside}
use Rattle.walk.specs.declared.Landing.{Landing}
use Rattle.walk.specs.declared.End.{End}
use Rattle.walk.specs.declared.End.TheVariants.{Refused as EndRefused, Leaf as EndLeaf, Fault as EndFault}
use Rattle.walk.specs.declared.Search.{Search}
use Rattle.walk.specs.declared.Search.TheVariants.{Refused as NoSearch, Balanced as SearchBalanced, Violation as SearchViolation}

-- "Going down, a key passes routing keys from the first until one exceeds it, and takes the child there."
unfoldable pub passed : List ℕ → ℕ → ℕ
passed [] key = 0
passed (r ∷ rs) key = pick (ltb key r) 0 (suc (passed rs key))

unfoldable pub child_index : List ℕ → ℕ → ℕ
child_index node key = passed (routing_keys node) key

-- the child's number
unfoldable pub child_for : List ℕ → ℕ → ℕ
child_for node key = get_or node (12 + child_index node key) 0

-- the first of the words that is the key, where the first is number i
unfoldable pub first_equal : List ℕ → ℕ → ℕ → Option ℕ
first_equal [] key i = None
first_equal (w ∷ ws) key i = pick (eqb w key) (Some i) (first_equal ws key (suc i))

-- "In a leaf it is at the first slot whose key word equals the key."
unfoldable pub slot_of : List ℕ → ℕ → Option ℕ
slot_of node key = first_equal (key_words node) key 0

-- ---- the way down

-- "9: node number 0 or above N"
unfoldable pub outside : ℕ → ℕ → Bool
outside n m = eqb m 0 || ltb n m

-- what a node is, by its words: "kind not 1 to 3"
unfoldable pub look_in : List ℕ → Look
look_in node = pick (eqb (kind_of node) 1) IsLeaf (pick (eqb (kind_of node) 2 || eqb (kind_of node) 3) IsInner Nowhere)

-- what stands where a node number leads
unfoldable pub look_at : List ℕ → ℕ → ℕ → Look
look_at card n m = pick (outside n m) Nowhere (look_in (node_at card m))

-- the same with, of an internal node with children, which of them a key takes and its number
unfoldable pub down_by : List ℕ → ℕ → Look → Down
down_by node key Nowhere = DownNowhere
down_by node key IsLeaf = DownLeaf
down_by node key IsInner = pick (eqb (length (children node)) 0) Childless (DownInner (child_index node key) (child_for node key))

unfoldable pub down_in : List ℕ → ℕ → Down
down_in node key = down_by node key (look_in node)

-- how many internal nodes are passed when the way goes on below a node, where so many stand above it: document 02, W-203, "tagged ones
-- counted"; a leaf is none
unfoldable pub passed_with : List ℕ → ℕ → ℕ
passed_with node depth = pick (eqb (kind_of node) 1) depth (depth + 1)

-- the root: no parent
unfoldable pub root_position : ℕ → Position
root_position root = record { node = root; link = root_place; parent = 0; index = 0; above = 0 }

-- child number i of the node at a position, which is node c
abbrev pub child_at : Position → ℕ → ℕ → Position
child_at p i c = record { node = c; link = place p.node (12 + i); parent = p.node; index = i; above = p.link }

-- the child that a key takes from the words of the node at a position
unfoldable pub child_position : List ℕ → ℕ → Position → Position
child_position node key p = child_at p (child_index node key) (child_for node key)

-- A key's way down: the internal nodes that it passes, the first one first, and the leaf that it ends at; none where 9 is due:
-- "node number 0 or above N, kind not 1 to 3, no children, or more than 10 internal nodes".
pub record Way : Type 0 where
  pub inner : List Position
  pub leaf : Maybe Position

abbrev pub nowhere : Way
nowhere = record { inner = []; leaf = none }

-- the way goes past an internal node first
unfoldable pub past : Position → Way → Way
past p w = record { inner = p ∷ w.inner; leaf = w.leaf }

-- by what stands at a position; `next` is the way on from the child that the key takes
unfoldable pub by_look : List ℕ → ℕ → Position → (Position → Way) → Look → Way
by_look node key p next Nowhere = nowhere
by_look node key p next IsLeaf = record { inner = []; leaf = some p }
by_look node key p next IsInner = past p (pick (eqb (length (children node)) 0) nowhere (next (child_position node key p)))

-- from a position, with at most so many internal nodes left
unfoldable pub way_from : List ℕ → ℕ → ℕ → ℕ → Position → Way
way_from card n key zero p = by_look (node_at card p.node) key p (λ q. nowhere) (look_at card n p.node)
way_from card n key (suc levels) p = by_look (node_at card p.node) key p (way_from card n key levels) (look_at card n p.node)

unfoldable pub way : List ℕ → ℕ → ℕ → Way
way card n key = way_from card n key depth_limit (root_position (get_or card root_place 0))

-- ---- what is read off it

-- the leaf, and how many internal nodes stand above it
unfoldable pub reached_at : ℕ → Maybe Position → Option Reached
reached_at depth none = None
reached_at depth (some p) = Some (record { node = p.node; depth = depth })

unfoldable pub leaf_of : Way → Option Reached
leaf_of w = reached_at (length w.inner) w.leaf

-- Document 02, W-203: "The walk down shall tell that count": how many internal nodes the way passes, "tagged ones counted". "A refusal
-- carries none": 0.
unfoldable pub depth_of : Option Reached → ℕ
depth_of None = 0
depth_of (Some r) = r.depth

-- "Let j be the number of 11-child nodes without a break straight above a full leaf": over the internal nodes of a way, where so
-- many stand above the first of them
unfoldable pub run_over : List ℕ → ℕ → List Position → ℕ
run_over card run [] = run
run_over card run (p ∷ ps) = run_over card (run_below (length (children (node_at card p.node))) run) ps

-- the number of the node that stands right after child number i: the child after it, else what stands beside its parent; a node's last
-- word, which follows the eleventh child, is 0
unfoldable pub beside_after : List ℕ → ℕ → ℕ → ℕ
beside_after node i beside = pick (eqb (get_or node (13 + i) 0) 0) beside (get_or node (13 + i) 0)

-- the same below the internal nodes of a way, where `beside` stands right after the first of them, and 0 is none
unfoldable pub beside_all : List ℕ → ℕ → ℕ → List Position → ℕ
beside_all card key beside [] = beside
beside_all card key beside (p ∷ ps) = beside_all card key (beside_after (node_at card p.node) (child_index (node_at card p.node) key) beside) ps

-- the leaf that a way ends at, with what stands right after it and how many internal nodes stand above it
unfoldable pub beside_at : ℕ → ℕ → Maybe Position → Option Beside
beside_at beside depth none = None
beside_at beside depth (some p) = Some (record { node = p.node; beside = beside; depth = depth })

unfoldable pub beside_by : List ℕ → ℕ → ℕ → Way → Option Beside
beside_by card key beside w = beside_at (beside_all card key beside w.inner) (length w.inner) w.leaf

-- where an update's key leads: the leaf, the word that links to it, and j
unfoldable pub landed_at : ℕ → Maybe Position → Option Landing
landed_at run none = None
landed_at run (some p) = Some (record { node = p.node; link = p.link; run = run })

unfoldable pub landing_of : List ℕ → Way → Option Landing
landing_of card w = landed_at (run_over card 0 w.inner) w.leaf

-- how many pairs or children a node has
unfoldable pub count_of : List ℕ → ℕ
count_of node = pick (eqb (kind_of node) 1) (length (leaf_pairs node)) (length (children node))

-- A fault is "a tagged node, or a non-root node with fewer than 2 pairs or children", by the words of the node and the number of its
-- parent. "The root is not tagged", so that the root is none.
unfoldable pub is_fault : List ℕ → ℕ → Bool
is_fault node parent = not (eqb parent 0) && (eqb (kind_of node) 3 || ltb (count_of node) 2)

-- the first fault among positions where faults are sought, else what the way ends with
unfoldable pub first_fault : List ℕ → Bool → End → List Position → End
first_fault card seeks end [] = end
first_fault card seeks end (p ∷ ps) = pick (seeks && is_fault (node_at card p.node) p.parent) (EndFault p) (first_fault card seeks end ps)

-- at the leaf, below so many internal nodes
unfoldable pub ended : ℕ → Maybe Position → End
ended depth none = EndRefused
ended depth (some p) = EndLeaf p depth

unfoldable pub to_list : Maybe Position → List Position
to_list none = []
to_list (some p) = p ∷ []

unfoldable pub end_of : List ℕ → Bool → Way → End
end_of card seeks w = first_fault card seeks (ended (length w.inner) w.leaf) (w.inner ++ to_list w.leaf)

-- what a search for the first violation on a way answers
unfoldable pub search_of : End → Search
search_of EndRefused = NoSearch
search_of (EndLeaf p depth) = SearchBalanced
search_of (EndFault p) = SearchViolation p

-- the first violation on a key's way from a position, past at most so many internal nodes
unfoldable pub seek : List ℕ → ℕ → ℕ → ℕ → Position → Search
seek card n key levels p = search_of (end_of card true (way_from card n key levels p))
