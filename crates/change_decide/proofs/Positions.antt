-- A violation that a search finds is at a position where a repair can be laid out.
use mathlib.Core.Path.{◌≡◌}
use mathlib.Core.List.{List}
use mathlib.Core.Bool.{true}
use Prim.Native.Nat.{ℕ, ◌+◌, ◌*◌, ◌^◌, ◌≤◌, ◌<◌}
use native.Mathlib.Omega.{arith}
use lib.ListN.{length}
use lib.Dec.{lit<}
use Rattle.card.specs.Layout.{greatest_nodes, node_at, children, routing_keys}
use Rattle.card.proofs.NodeLaws.{length_node, children_le, length_routing}
use Rattle.walk.specs.Descent.{child_index, look_at, root_position, child_position, way_from, seek}
use Rattle.walk.proofs.DescentLaws.{passed_le, look_inside, inner_inside, fault_below, search_fault}
use Rattle.walk.proofs.Along.{along, fault_along}
use Rattle.change_decide.specs.Places.{PositionWithin}
use Rattle.walk.specs.declared.Position.{Position}
use Rattle.walk.specs.declared.Look.TheVariants.{Inner as IsInner}
use Rattle.walk.specs.declared.Search.TheVariants.{Violation as SearchViolation}

-- a position on the way down: its links fit the words of a plan, and below the root its parent is a node of which it is a child
record Placed (card : List ℕ) (n : ℕ) (q : Position) : Type 0 where
  pub link : q.link < 2 ^ 32
  pub above : q.above < 2 ^ 32
  pub parent_to : q.parent ≤ n
  pub child : 1 ≤ q.parent → q.index < length (children (node_at card q.parent))

child_index_lem : (node : List ℕ) (key : ℕ) → length node ≡ 24 → 0 < length (children node) → child_index node key < length (children node)
unfolding child_index
child_index_lem node key len h = omega (arith, passed_le (routing_keys node) key, length_routing node len)

module _ (card : List ℕ) (n key : ℕ) (size : length card ≡ 8 + 24 * n) (few : n ≤ greatest_nodes) where
  placed_root : (root : ℕ) → Placed card n (root_position root)
  unfolding root_position
  placed_root root = record { link = lit< tt; above = lit< tt; parent_to = omega arith; child = λ h. absurd (omega arith) }

  placed_child : (q : Position) → Placed card n q → look_at card n q.node ≡ IsInner → 0 < length (children (node_at card q.node)) → Placed card n (child_position (node_at card q.node) key q)
  unfolding child_position
  placed_child q r e h =
      let on = inner_inside card n q.node e in
      let index = child_index_lem (node_at card q.node) key (length_node card q.node on.one (omega (arith, on.most))) h in
      record {
        link = omega (arith, on.most, index, children_le (node_at card q.node));
        above = r.link;
        parent_to = on.most;
        child = λ l. index;
      }

  -- "the first violation on a key's way": the repair of what a search finds can be laid out
  pub position_within : (levels root : ℕ) (p : Position) → seek card n key levels (root_position root) ≡ SearchViolation p → PositionWithin card n p
  position_within levels root p e =
      let way = along card n (Placed card n) key placed_child levels (root_position root) (placed_root root) in
      let f = fault_along card n (Placed card n) levels (way_from card n key levels (root_position root)) true p way (search_fault card n key levels (root_position root) p e) in
      let on = look_inside card n p.node f.there in
      let under = fault_below (node_at card p.node) p.parent f.fault in
      let parent : 1 ≤ p.parent = omega arith in
      record {
        size = size;
        few = few;
        parent_from = parent;
        parent_to = f.holds.parent_to;
        node_from = on.one;
        node_to = on.most;
        child = f.holds.child parent;
        link = f.holds.above;
      }
