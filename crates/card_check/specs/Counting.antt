-- Document 02, W-204: the totals by family are "rebuilt at opening". They are counted on the card in the pass that checks it, leaf by
-- leaf from left to right and in each leaf from its last slot on.
use Rattle.std.specs.Prelude.{◌≡◌, List, [], ◌∷◌, ℕ, zero, suc, get_or, eqb, Option, Some, None}
use Rattle.laws.specs.Cases.{pick}
use Rattle.card.specs.Layout.{root_place, depth_limit, node_at, kind_of, key_words, children}
use Rattle.card_family.specs.Families.{no_totals, counted_in}
use Rattle.card_check.specs.declared.Entry.{Entry}
use Rattle.card_check.specs.declared.Entry.TheVariants.{Leaf, Inner}

-- the key words of a leaf; 0 is an empty slot
unfoldable pub keys_counted : List ℕ → List ℕ → List ℕ
keys_counted [] totals = totals
keys_counted (k ∷ ks) totals = pick (eqb k 0) (keys_counted ks totals) (counted_in k (keys_counted ks totals))

-- one child after the other
unfoldable pub children_counted : (ℕ → List ℕ → List ℕ) → List ℕ → List ℕ → List ℕ
children_counted count [] totals = totals
children_counted count (m ∷ ms) totals = children_counted count ms (count m totals)

-- node m and all below it, past at most so many internal nodes
unfoldable pub node_counted : ℕ → List ℕ → ℕ → List ℕ → List ℕ
node_counted zero card m totals = pick (eqb (kind_of (node_at card m)) 1) (keys_counted (key_words (node_at card m)) totals) totals
node_counted (suc levels) card m totals =
    pick (eqb (kind_of (node_at card m)) 1) (keys_counted (key_words (node_at card m)) totals)
    (children_counted (node_counted levels card) (children (node_at card m)) totals)

-- the whole table, from its root
unfoldable pub table_counted : List ℕ → List ℕ
table_counted card = node_counted depth_limit card (get_or card root_place 0) no_totals

-- what a first look at a node leaves of the totals: a leaf is counted, an internal node counts nothing itself
abbrev pub EntryCounts : Option Entry → List ℕ → List ℕ → List ℕ → Type 0
EntryCounts None node before after = Unit
EntryCounts (Some Leaf) node before after = (kind_of node ≡ 1) × (after ≡ keys_counted (key_words node) before)
EntryCounts (Some (Inner c)) node before after = (kind_of node ≡ 1 → ⊥) × (after ≡ before)
