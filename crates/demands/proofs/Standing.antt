-- Where the ways down stand: each node on them is reached from the root, and below the root its number is a child's of the node
-- before it. So on any card.
use mathlib.Core.Path.{◌≡◌, refl, ap, ◌∙◌}
use mathlib.Core.Bool.{Bool, true, false, ◌||◌, not}
use mathlib.Core.List.{List}
use mathlib.Core.Logic.{◌⊎◌, inl, inr}
use Prim.Native.Nat.{ℕ, ◌+◌, ◌-◌, ◌≤◌, ◌<◌}
use native.Mathlib.Omega.{arith}
use lib.ListN.{length, get_or, drop, length-take}
use lib.Dec.{eqb, ltb}
use lib.Seq.{get_or-take, get_or-drop}
use borrow.Author.Tests.{eqb-true, ltb-true}
use Rattle.card.specs.Layout.{root_place, depth_limit, place, node_at, kind_of, key_words, children, routing_keys}
use Rattle.card.proofs.NodeLaws.{children_words}
use Rattle.walk.specs.Descent.{child_index, child_for, root_position, child_position, way, count_of, is_fault, seek}
use Rattle.walk.proofs.DescentLaws.{passed_le, look_inside, leaf_inside, inner_inside, fault_below, search_fault}
use Rattle.walk.proofs.Along.{Along, along, fault_along}
use Rattle.walk.specs.declared.Position.{Position}
use Rattle.walk.specs.declared.Search.TheVariants.{Violation as SearchViolation}
use Rattle.laws.proofs.Cases.{bool_cases, and_true}
use Rattle.laws.specs.Cases.{pick}
use Rattle.call_change.specs.Updates.{landing}
use Rattle.call_change.proofs.UpdateLaws.{leaf_on}
use Rattle.demands.specs.Rules.{LinkedAt, root_linked, child_linked}
use Rattle.walk.proofs.DescentLaws.{landing_at}

-- what a test came to, and what was picked then
pub picked {ℓ} : {A : Type 0} {P : Type ℓ} (b : Bool) {x y a : A} → pick b x y ≡ a → (b ≡ true → x ≡ a → P) → (b ≡ false → y ≡ a → P) → P
picked true e f g = f refl e
picked false e f g = g refl e

-- ---- from a node to its child

-- the child that a key takes is one of the children, if there are any
pub index_within : (node : List ℕ) (key : ℕ) → 0 < length (children node) → child_index node key < length (children node)
unfolding child_index routing_keys
index_within node key h = omega (arith, passed_le (routing_keys node) key, length-take (length (children node) - 1) (key_words node))

-- and its number is that child's
child_word : (node : List ℕ) (i : ℕ) → i < length (children node) → get_or (children node) i 0 ≡ get_or node (12 + i) 0
child_word node i h =
    ap (λ (l : List ℕ). get_or l i 0) (children_words node (length (children node)) refl)
    ∙ get_or-take (length (children node)) (drop 12 node) i 0 h
    ∙ get_or-drop 12 node i 0

child_number : (node : List ℕ) (key : ℕ) → 0 < length (children node) → get_or (children node) (child_index node key) 0 ≡ child_for node key
unfolding child_for
child_number node key h = child_word node (child_index node key) (index_within node key h)

child_on_way : (c : List ℕ) (key link m : ℕ) → LinkedAt c link m → 0 < length (children (node_at c m)) → LinkedAt c (place m (12 + child_index (node_at c m) key)) (child_for (node_at c m) key)
child_on_way c key link m l h = rw (child_number (node_at c m) key h) at (child_linked (child_index (node_at c m) key) l (index_within (node_at c m) key h))

-- ---- where the nodes on a way stand

-- below the root: the parent is linked where the position says, and the node is its child
pub record Below (c : List ℕ) (p : Position) : Type 0 where
  pub parent_linked : LinkedAt c p.above p.parent
  pub parent_there : 0 < p.parent
  pub is_child : p.index < length (children (node_at c p.parent))
  pub child_is : get_or (children (node_at c p.parent)) p.index 0 ≡ p.node

abbrev Stands : List ℕ → Position → Type 0
Stands c p = LinkedAt c p.link p.node × ((p.parent ≡ 0) ⊎ Below c p)

-- a fault: "a tagged node, or a non-root node with fewer than 2 pairs or children"
pub record Fault (c : List ℕ) (p : Position) : Type 0 where
  pub below : Below c p
  pub node_there : 0 < p.node
  pub tagged_or_few : (kind_of (node_at c p.node) ≡ 3) ⊎ (count_of (node_at c p.node) < 2)

-- what the test of a fault tells
fault_parts : (node : List ℕ) (parent : ℕ) → is_fault node parent ≡ true → (parent ≡ 0 → ⊥) × ((kind_of node ≡ 3) ⊎ (count_of node < 2))
unfolding is_fault count_of
fault_parts node parent e = (
  fault_below node parent e,
  bool_cases (eqb (kind_of node) 3) (λ q. inl (eqb-true (kind_of node) 3 q))
      (λ q. inr (ltb-true (count_of node) 2 (rw q at (and_true (not (eqb parent 0)) (eqb (kind_of node) 3 || ltb (count_of node) 2) e).1))),
)

-- the child that a key takes stands below a node that stands
child_stands : (c : List ℕ) (key : ℕ) (p : Position) → LinkedAt c p.link p.node → 0 < p.node → 0 < length (children (node_at c p.node)) → Stands c (child_position (node_at c p.node) key p)
unfolding child_position
child_stands c key p l m h = (
  child_on_way c key p.link p.node l h,
  inr (record { parent_linked = l; parent_there = m; is_child = index_within (node_at c p.node) key h; child_is = child_number (node_at c p.node) key h }),
)

module _ (c : List ℕ) (n key : ℕ) where
  -- all along the way
  stands : Along c n (Stands c) depth_limit (way c n key)
  unfolding way root_position
  stands =
      along c n (Stands c) key (λ q s e h. child_stands c key q s.0 (omega (arith, (inner_inside c n q.node e).one)) h) depth_limit (root_position (get_or c root_place 0)) (root_linked, inl refl)

  -- the leaf that a key leads to is linked where the landing says
  pub landing_linked : (leaf spot j : ℕ) → landing c n key ≡ landing_at leaf spot j → LinkedAt c spot leaf × (0 < leaf)
  unfolding landing
  landing_linked leaf spot j e =
      let f = leaf_on c (way c n key) leaf spot j e in
      let on = stands.leaf f.position f.on_way in
      let there = (leaf_inside c n f.position.node on.1).one in
      rw (f.node_is, f.link_is) at (let r : LinkedAt c f.position.link f.position.node × (0 < f.position.node) = (on.0.0, omega (arith, there)) in r)

  -- the search from the root finds faults below it
  pub fault_found : (q : Position) → seek c n key depth_limit (root_position (get_or c root_place 0)) ≡ SearchViolation q → Fault c q
  unfolding way
  fault_found q e =
      let f = fault_along c n (Stands c) depth_limit (way c n key) true q stands (search_fault c n key depth_limit (root_position (get_or c root_place 0)) q e) in
      go f.holds.1 (look_inside c n q.node f.there).one (fault_parts (node_at c q.node) q.parent f.fault)
    where
      go : (q.parent ≡ 0) ⊎ Below c q → 1 ≤ q.node → (q.parent ≡ 0 → ⊥) × ((kind_of (node_at c q.node) ≡ 3) ⊎ (count_of (node_at c q.node) < 2)) → Fault c q
      go (inl z) one p = absurd (p.0 z)
      go (inr b) one p = record { below = b; node_there = omega arith; tagged_or_few = p.1 }
