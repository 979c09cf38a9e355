use Rattle.std.proofs.Common.{◌≡◌, ℕ, List, ◌+◌, ◌*◌, ◌-◌, ◌≤◌, length, leb, ltb, not, ap, ap₂, sym, ◌∙◌, arith, Bool, false, Option, is_some}
use Rattle.card.specs.Layout.{depth_limit, node_at}
use Rattle.card.proofs.NodeLaws.{length_node}
use Rattle.walk.specs.Descent.{slot_of, root_position, way_from, run_over}
use Rattle.call_change.specs.Updates.{split_need, insert_reason, room_for}
use Rattle.state.specs.Block.{memory_in}
use Rattle.call_start.specs.Starts.{room_of}
use Rattle.call_start.proofs.StartLaws.{room_held, room_slot, room_full, not_scarce, not_enough}
use Rattle.call_start.proofs.has_room.Goals as goal
use Rattle.call_start.proofs.has_room.Goals.{then-is_some-via-then-is_some, then-is_some-via-else-is_some+then-is_some-2}

-- the part handed on has 24 words, and they are the leaf's
words : (card : List ℕ) (n m : ℕ) (leaf : List ℕ) → length card ≡ 8 + 24 * n → 1 ≤ m → m ≤ n → leaf ≡ node_at card m → length leaf ≡ 24
words card n m leaf len one most same = ap length same ∙ length_node card m one (omega arith)

-- what a test of its slots tells of it
has : (card : List ℕ) (m key : ℕ) (leaf : List ℕ) → leaf ≡ node_at card m → (found : Option ℕ) → found ≡ slot_of leaf key → (b : Bool) → b ≡ is_some found
    → is_some (slot_of (node_at card m) key) ≡ b
has card m key leaf same found e b is = ap is_some (ap (λ (x : List ℕ). slot_of x key) (sym same) ∙ sym e) ∙ sym is

pub find_slot-requires : goal.find_slot-requires
find_slot-requires c = words c.args.card.now _ c.args.m _ c.requires.1.words c.requires.2 c.requires.3 c.node_at-leaf.ensures

pub find_slot-requires-else-is_some : goal.find_slot-requires-else-is_some
find_slot-requires-else-is_some c = words c.args.card.now _ c.args.m _ c.requires.1.words c.requires.2 c.requires.3 c.node_at-leaf.ensures

pub returns-then-is_some : goal.returns-then-is_some
returns-then-is_some c =
    let has_key = has c.args.card.now c.args.m c.args.key _ c.node_at-leaf.ensures _ c.find_slot.ensures _ c.is_some.ensures in
    elim c.then-is_some.branch [
      | then-is_some-via-then-is_some w ↦ sym (room_held (node_at c.args.card.now c.args.m) c.args.key _ (room_of (memory_in c.args.state.now)) (has_key ∙ w.if-is_some.true))
      | then-is_some-via-else-is_some+then-is_some-2 w ↦
          sym (room_slot (node_at c.args.card.now c.args.m) c.args.key _ (room_of (memory_in c.args.state.now)) (has_key ∙ w.if-is_some.false)
          (has c.args.card.now c.args.m 0 _ c.node_at-leaf.ensures _ w.find_slot-else-is_some.ensures _ w.is_some-else-is_some.ensures ∙ w.if-is_some-2.true))
    ]

-- a full leaf, and the room
module _ (card : List ℕ) (m key : ℕ) (leaf : List ℕ) (same : leaf ≡ node_at card m) (held empty : Option ℕ) (h : held ≡ slot_of leaf key) (e : empty ≡ slot_of leaf 0) where
  full_leaf : (run room : ℕ) → is_some held ≡ false → is_some empty ≡ false → room_for room run (insert_reason (node_at card m) key) ≡ not (ltb room (split_need run))
  full_leaf run room no_key no_slot = room_full (node_at card m) key run room (has card m key leaf same held h false (sym no_key)) (has card m 0 leaf same empty e false (sym no_slot))

pub returns-then-count-lt-SPLIT_NEED : goal.returns-then-count-lt-SPLIT_NEED
unfolding memory_in
returns-then-count-lt-SPLIT_NEED c =
    sym
    (full_leaf c.args.card.now c.args.m c.args.key _ c.node_at-leaf.ensures _ _ c.find_slot.ensures c.find_slot-else-is_some.ensures _ _
    (sym c.is_some.ensures ∙ c.if-is_some.false) (sym c.is_some-else-is_some.ensures ∙ c.if-is_some-2.false)
    ∙ not_scarce _ _ (omega (arith, c.count-count.ensures, c.if-count-lt-SPLIT_NEED.true)))

pub run_above-run-requires : goal.run_above-run-requires
unfolding memory_in
run_above-run-requires c = (omega (arith, c.requires.1.words, c.wide.ensures), omega (arith, c.requires.1.most, c.wide.ensures))

pub returns : goal.returns
unfolding memory_in
returns c =
    let card = c.args.card.now in
    ap₂ (λ (x y : ℕ). leb x (y - split_need 0))
    (c.run_above-run.ensures
    ∙ ap₂ (λ (n r : ℕ). run_over card 0 (way_from card n c.args.key depth_limit (root_position r)).inner) c.wide.ensures c.root_of.ensures)
    c.count-count.ensures
    ∙ sym
    (full_leaf card c.args.m c.args.key _ c.node_at-leaf.ensures _ _ c.find_slot.ensures c.find_slot-else-is_some.ensures _ _
    (sym c.is_some.ensures ∙ c.if-is_some.false) (sym c.is_some-else-is_some.ensures ∙ c.if-is_some-2.false)
    ∙ not_enough _ _ (omega (arith, c.count-count.ensures, c.if-count-lt-SPLIT_NEED.false)))
