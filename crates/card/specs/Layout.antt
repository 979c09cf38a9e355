-- Document 01, "The card": where the words of a node stand and what they mean. A card is a list of words.
use Rattle.std.specs.Prelude.{List, [], ◌∷◌, ◌++◌, ℕ, zero, suc, ◌+◌, ◌-◌, ◌*◌, length, get_or, take, drop, eqb, ltb}
use Rattle.laws.specs.Cases.{pick}
use Rattle.laws.specs.Lists.{before_zero, pad}

-- "With N nodes (4 to 600)"; document 02, W-210: "cards of up to 2,600 nodes"
abbrev pub least_nodes : ℕ
least_nodes = 4

abbrev pub greatest_nodes : ℕ
greatest_nodes = 2600

-- The calls are made for cards up to some greatest N, which every definition of them takes as `greatest`. A state has bits for so many
-- nodes, and a greatest N above that stands for it.
abbrev pub limited : ℕ → ℕ
limited greatest = pick (ltb greatest greatest_nodes) greatest greatest_nodes

-- the cards that the programs are made for
abbrev pub program_nodes : ℕ
program_nodes = 600

-- "more than 10 internal nodes", document 02, W-210: "On every card the walk down allows 12": the most that a way down may pass
abbrev pub depth_limit : ℕ
depth_limit = 12

-- "4: number of the root node"
abbrev pub root_place : ℕ
root_place = 4

-- "root node 1": the root that formatting makes
abbrev pub formatted_root : ℕ
formatted_root = 1

-- Document 02, W-205: "after formatting and after opening, it begins at the node following the root's". The search for a free node
-- goes on after the node given last, and this is the one taken for given last then.
abbrev pub search_start : List ℕ → ℕ
search_start card = get_or card root_place 0

-- "Keys are 1 to 4,294,967,295": "the root's [range] is all keys", from its low end, included, to its high end, excluded
abbrev pub lowest_key : ℕ
lowest_key = 1

abbrev pub key_limit : ℕ
key_limit = 4294967296

-- "node m begins at word 8 + 24 × (m − 1)": the place of its word i
abbrev pub place : ℕ → ℕ → ℕ
place m i = 8 + 24 * (m - 1) + i

-- word i of node m
abbrev pub word : List ℕ → ℕ → ℕ → ℕ
word card m i = get_or card (place m i) 0

-- node m, as the part of the card that starts there
unfoldable pub node_at : List ℕ → ℕ → List ℕ
node_at card m = take 24 (drop (8 + 24 * (m - 1)) card)

-- "Its word 0 is the kind: 1 leaf, 2 internal, 3 tagged."
abbrev pub kind_of : List ℕ → ℕ
kind_of node = get_or node 0 0

-- "words 1 to 11 are key slots, 12 to 22 the values beside them"
unfoldable pub key_words : List ℕ → List ℕ
key_words node = take 11 (drop 1 node)

unfoldable pub value_words : List ℕ → List ℕ
value_words node = take 11 (drop 12 node)

-- "words 12 to 22 are child numbers, its children being those before the first 0"
unfoldable pub children : List ℕ → List ℕ
children node = before_zero (value_words node)

-- "With c children the routing keys are words 1 to c − 1"
unfoldable pub routing_keys : List ℕ → List ℕ
routing_keys node = take (length (children node) - 1) (key_words node)

-- "the number of 11-child nodes without a break straight above" a node: of the children of a node with c children, where so many
-- stand without a break straight above that node itself
unfoldable pub run_below : ℕ → ℕ → ℕ
run_below c run = pick (eqb c 11) (suc run) 0

-- the pairs of a row of key words and the row of values beside it: "A key word of 0 is an empty slot"
abbrev pub slot_pairs : List ℕ → List ℕ → List (ℕ × ℕ)
slot_pairs [] vs = []
slot_pairs (k ∷ ks) [] = []
slot_pairs (zero ∷ ks) (v ∷ vs) = slot_pairs ks vs
slot_pairs (suc k ∷ ks) (v ∷ vs) = (suc k, v) ∷ slot_pairs ks vs

-- 1 for a key, 0 for an empty slot
unfoldable pub is_key : ℕ → ℕ
is_key zero = 0
is_key (suc k) = 1

-- the pairs of a leaf, slots rising
unfoldable pub leaf_pairs : List ℕ → List (ℕ × ℕ)
leaf_pairs node = slot_pairs (key_words node) (value_words node)

-- the 24 words of a node: its kind, eleven words of keys, eleven of values or children, and 0; "unused words are 0"
unfoldable pub node_image : ℕ → List ℕ → List ℕ → List ℕ
node_image kind keys values = kind ∷ (pad 11 keys ++ (pad 11 values ++ 0 ∷ []))
