-- The check of a table as it is computed. That it accepts exactly the sound tables is a theorem of the crate theory_check.
use Rattle.std.specs.Prelude.{◌≡◌, Bool, true, false, ◌&&◌, ◌||◌, not, List, [], ◌∷◌, ℕ, zero, suc, ◌-◌, ◌<◌, length, get_or, set, drop, eqb, ltb, leb, Option as Answer, Some, None}
use Rattle.std.proofs.Math.Option.{Option, none, some}
use Rattle.laws.specs.Cases.{pick, guard, bind}
use Rattle.laws.specs.Lists.{zero_after}
use Rattle.card.specs.Layout.{lowest_key, key_limit, root_place, depth_limit, node_at, kind_of, key_words, value_words, children, routing_keys, leaf_pairs, run_below}
use Rattle.card_free.specs.NodeSet.{all_nodes}
use Rattle.card_check.specs.declared.Entry.{Entry}
use Rattle.card_check.specs.declared.Entry.TheVariants.{Leaf, Inner}

-- what was learnt so far, with the free nodes as a list of Bools
pub record Findings : Type 0 where
  pub free : List Bool
  pub violated : Bool
  pub key : ℕ
  pub run : ℕ

-- the same as the code holds it: the free nodes, and the three words of findings
unfoldable pub findings_of : List Bool → List ℕ → Findings
findings_of free found = record { free = free; violated = not (eqb (get_or found 0 0) 0); key = get_or found 1 0; run = get_or found 2 0 }

-- the height of a sound part, and what was learnt
unfoldable pub checked_of : Answer ℕ → Findings → Option (ℕ × Findings)
checked_of None f = none
checked_of (Some height) f = some (height, f)

unfoldable pub height_of : Answer ℕ → ℕ
height_of None = 0
height_of (Some height) = height

-- whether a key is one of the words
unfoldable pub member : ℕ → List ℕ → Bool
member k [] = false
member k (x ∷ xs) = eqb x k || member k xs

-- "its keys are distinct and in its range", for one slot: it is empty, or its key is in the range and in none of the later slots ks
unfoldable pub slot_sound : ℕ → ℕ → ℕ → List ℕ → Bool
slot_sound low high k ks = pick (eqb k 0) true (leb low k && (ltb k high && not (member k ks)))

-- "A leaf is sound when its keys are distinct and in its range": slot by slot of its key words
unfoldable pub leaf_sound : ℕ → ℕ → List ℕ → Bool
leaf_sound low high [] = true
leaf_sound low high (k ∷ ks) = slot_sound low high k ks && leaf_sound low high ks

-- no key below `least` is one of the words
abbrev pub Least : ℕ → List ℕ → Type 0
Least least ks = (k : ℕ) → (k ≡ 0 → ⊥) → k < least → member k ks ≡ false

-- what the code's count of a leaf's pairs tells
abbrev pub Counts : Answer ℕ → Bool → ℕ → Type 0
Counts None sound pairs = sound ≡ false
Counts (Some n) sound pairs = (sound ≡ true) × (n ≡ pairs)

-- "all other words but the kind are 0", for c children
unfoldable pub unused_zero : List ℕ → ℕ → Bool
unused_zero node c = zero_after (c - 1) (key_words node) && zero_after c (value_words node)

-- what a first look at a node finds: a leaf, or an internal node with so many children
pub data Look : Type 0 where
  bad : Look
  leaf : Findings → Look
  inner : ℕ → Findings → Look

unfoldable pub look_of : Answer Entry → Findings → Look
look_of None f = bad
look_of (Some Leaf) f = leaf f
look_of (Some (Inner c)) f = inner c f

-- a look that leaves the words of findings so, whatever nodes are free
abbrev pub Looks : Answer Entry → List ℕ → List ℕ → (Findings → Look) → Type 0
Looks entry before after look = (free : List Bool) → look_of entry (findings_of free after) ≡ look (findings_of free before)

-- "A sound table has at most one fault": the entry with a violation noted where there is one, bad where it is the second
unfoldable pub noted : Bool → Entry → Findings → ℕ → ℕ → Look
noted violates entry f key run =
    pick violates (pick f.violated bad (look_of (Some entry) (record { free = f.free; violated = true; key = key; run = run }))) (look_of (Some entry) f)

-- "if a leaf 0 to 11 pairs. Other leaves have 1 to 11 pairs"
unfoldable pub enter_leaf : List ℕ → ℕ → ℕ → Bool → Findings → Look
enter_leaf node low high is_root f =
    pick (leaf_sound low high (key_words node))
    (pick is_root (leaf f) (pick (eqb (length (leaf_pairs node)) 0) bad (noted (ltb (length (leaf_pairs node)) 2) Leaf f low 0))) bad

-- "The root is not tagged; if internal it has 2 to 11 children .. other internal nodes 1 to 11 children, tagged ones exactly 2"
unfoldable pub inner_sound : Bool → Bool → ℕ → Bool
inner_sound tagged is_root c = pick tagged (not is_root && eqb c 2) (not is_root || not (ltb c 2))

unfoldable pub enter_inner : List ℕ → Bool → ℕ → ℕ → Bool → Findings → Look
enter_inner node tagged low run is_root f =
    pick (eqb (length (children node)) 0) bad
    (pick (unused_zero node (length (children node)))
    (pick (inner_sound tagged is_root (length (children node)))
    (noted (tagged || ltb (length (children node)) 2) (Inner (length (children node))) f low (pick tagged run 0)) bad) bad)

unfoldable pub enter_kind : List ℕ → ℕ → ℕ → ℕ → Bool → Findings → Look
enter_kind node low high run is_root f =
    pick (eqb (kind_of node) 1) (enter_leaf node low high is_root f)
    (pick (eqb (kind_of node) 2) (enter_inner node false low run is_root f) (pick (eqb (kind_of node) 3) (enter_inner node true low run is_root f) bad))

-- "Every node number followed is 1 to N, no node is reached twice": m is one of the free nodes, and is so no longer
unfoldable pub enter_node : List ℕ → ℕ → ℕ → ℕ → ℕ → ℕ → Bool → Findings → Look
enter_node card n m low high run is_root f =
    pick (eqb m 0) bad
    (pick (ltb n m) bad
    (pick (get_or f.free m false)
    (pick (eqb (get_or (node_at card m) 23 0) 0) (enter_kind (node_at card m) low high run is_root (record { free = set f.free m false; violated = f.violated; key = f.key; run = f.run })) bad) bad))

-- a child is checked: its range, its number, and what was learnt before it
abbrev pub ChildCheck : Type 0
ChildCheck = ℕ → ℕ → ℕ → Findings → Option (ℕ × Findings)

-- "its routing keys rise strictly, and each lies in its range (a child's range runs from the routing key before it, included,
-- to the one after it, excluded ..)": the end of the range of the child before the routing keys ks, in a node whose range ends at
-- high; none where the first of these keys does not rise above low or does not lie below high
unfoldable pub range_end : ℕ → ℕ → List ℕ → Option ℕ
range_end low high [] = some high
range_end low high (k ∷ ks) = guard (ltb low k && ltb k high) (some k)

-- "an internal node is sound when its children are": each in its range, and all equally high; `first` says that none was checked yet
unfoldable pub children_check : ChildCheck → Bool → ℕ → ℕ → ℕ → List ℕ → List ℕ → Findings → Option (ℕ × Findings)
children_check check first height low high ks [] f = some (height, f)
children_check check first height low high ks (m ∷ ms) f =
    bind (range_end low high ks) (λ end.
    bind (check low end m f) (λ r.
    guard (first || eqb r.0 height) (children_check check false r.0 end high (drop 1 ks) ms r.1)))

-- a tagged node is not counted in the height
unfoldable pub raised : Bool → Option (ℕ × Findings) → Option (ℕ × Findings)
raised tagged none = none
raised tagged (some r) = some (pick tagged r.0 (suc r.0), r.1)

unfoldable pub on_look : List ℕ → ℕ → ℕ → (ℕ → ChildCheck) → ℕ → Look → Option (ℕ × Findings)
on_look node low high child run bad = none
on_look node low high child run (leaf f) = some (0, f)
on_look node low high child run (inner c f) = raised (eqb (kind_of node) 3) (children_check (child (run_below c run)) true 0 low high (routing_keys node) (children node) f)

-- "an internal node is sound when its children are": node m and all below it, past at most so many internal nodes
unfoldable pub node_check : ℕ → List ℕ → ℕ → ℕ → Bool → ℕ → ℕ → ℕ → Findings → Option (ℕ × Findings)
node_check zero card n run is_root low high m f = on_look (node_at card m) low high (λ r l h k g. none) run (enter_node card n m low high run is_root f)
node_check (suc levels) card n run is_root low high m f =
    on_look (node_at card m) low high (λ r. node_check levels card n r false) run (enter_node card n m low high run is_root f)

-- a whole tree, from its root, after what was learnt before it: "the root's is all keys"
unfoldable pub tree_check : List ℕ → ℕ → ℕ → Findings → Option (ℕ × Findings)
tree_check card n root f = node_check depth_limit card n 0 true lowest_key key_limit root f

-- nothing is learnt yet: all nodes are free
abbrev pub start : ℕ → Findings
start n = record { free = all_nodes n; violated = false; key = 0; run = 0 }

-- the whole table
unfoldable pub table_check : List ℕ → ℕ → Option (ℕ × Findings)
table_check card n = tree_check card n (get_or card root_place 0) (start n)

-- the same as the code holds it
unfoldable pub range_end_of : Answer ℕ → Option ℕ
range_end_of None = none
range_end_of (Some end) = some end
