-- `call_start::check_way` meets its contract.
use mathlib.Core.Path.{◌≡◌, ap, ap₂, sym, ◌∙◌}
use mathlib.Core.Bool.{Bool, true, false}
use mathlib.Core.List.{List}
use Prim.Native.Nat.{ℕ}
use native.Mathlib.Omega.{arith}
use lib.ListN.{get_or}
use Rattle.laws.specs.Cases.{pick}
use Rattle.card.specs.Layout.{greatest_nodes, depth_limit, node_at}
use Rattle.laws.proofs.Cases.{impossible}
use Rattle.card.specs.Lines.{root_of, seen}
use Rattle.card.proofs.LineLaws.{seen_node, seen_sized}
use Rattle.walk.specs.Descent.{Way, root_position, way_from, run_over, leaf_of, depth_of, end_of}
use Rattle.walk.specs.declared.Landing.{Landing}
use Rattle.std.specs.Prelude.{Option}
use Rattle.walk.proofs.DescentLaws.{landing_at}
use Rattle.walk.specs.declared.End.{End}
use Rattle.walk.specs.declared.End.TheVariants.{Leaf as EndLeaf}
use Rattle.walk.specs.declared.Position.{Position}
use Rattle.walk.proofs.DescentLaws.{unsought_reached}
use Rattle.walk.proofs.LineWays.{way_seen}
use Rattle.state.specs.Block.{memory_in}
use Rattle.state.specs.Memory.{Memory}
use Rattle.call_start.specs.Refusals.{line_way, room_where, landing_refusal}
use Rattle.call_start.specs.Starts.{room_of}
use Rattle.call_change.proofs.LineChanges.{land_none, land_leaf}
use Rattle.call_change.proofs.UpdateLaws.{landed}
use Rattle.call_change.specs.Updates.{landing, insert_reason, room_for, start_room}
use Rattle.call_start.proofs.check_way.Goals as goal

-- the walk is that of the line's table
below : (line : ℕ) (card state : List ℕ) (key n r : ℕ) (e : End) → n ≡ get_or state 0 0 → r ≡ get_or card (root_of line) 0
    → e ≡ end_of card false (way_from card n key depth_limit (root_position r)) → end_of card false (line_way line card (memory_in state).nodes key) ≡ e
unfolding memory_in
below line card state key n r e nodes root ends =
    sym (ends ∙ ap₂ (λ (k t : ℕ). end_of card false (way_from card k key depth_limit (root_position t))) nodes root)

-- in the leaf where it ends the refusal is 8, or none
module _ (line : ℕ) (card : List ℕ) (m : Memory) (key : ℕ) (p : Position) (depth : ℕ) (ends : end_of card false (line_way line card m.nodes key) ≡ EndLeaf p depth) where
  abbrev run : ℕ
  run = run_over card 0 (line_way line card m.nodes key).inner

  lands : landing (seen line card) m.nodes key ≡ landing_at p.node p.link run
  lands = land_leaf line card m.nodes key p _ ends

  leaf_refusal : (splits room : Bool) → room ≡ pick splits (room_for (room_of m) run (insert_reason (node_at card p.node) key)) true
      → pick room 0 8 ≡ landing_refusal (room_where splits (seen line card) key (room_of m) (landing (seen line card) m.nodes key)) (landing (seen line card) m.nodes key)
  unfolding landing_refusal start_room
  leaf_refusal splits room e =
      ap (λ (b : Bool). pick b 0 8)
      (e ∙ ap (λ (x : List ℕ). pick splits (room_for (room_of m) run (insert_reason x key)) true) (sym (seen_node line card p.node)))
      ∙ sym (ap (λ (l : Option Landing). landing_refusal (room_where splits (seen line card) key (room_of m) l) l) lands)

pub root_of-requires : goal.root_of-requires
root_of-requires c = (omega (arith, c.requires.1.words), c.requires.2)

pub descend-requires : goal.descend-requires
unfolding memory_in
descend-requires c =
    (omega (arith, c.requires.1.words, c.wide-nodes.ensures), omega (arith, c.requires.1.most, c.wide-nodes.ensures))

pub has_room_where-requires : goal.has_room_where-requires
has_room_where-requires c =
    let k = landed greatest_nodes (seen c.args.line c.args.card.now) _ c.args.key _ _ _ (seen_sized c.args.line c.args.card.now c.requires.1)
    (lands c.args.line c.args.card.now (memory_in c.args.state.now) c.args.key c.in-Leaf.position _ (below _ _ c.args.state.now _ _ _ _ c.wide-nodes.ensures c.root_of.ensures c.descend.ensures ∙ c.in-Leaf.is)) in
    (c.requires.0, c.requires.1, k.inside.one, k.inside.most, c.requires.2)

pub returns-in_default : goal.returns-in_default
unfolding landing_refusal
returns-in_default c =
    let card = c.args.card.now in
    let m = memory_in c.args.state.now in
    let ends = below _ _ c.args.state.now _ _ _ _ c.wide-nodes.ensures c.root_of.ensures c.descend.ensures in
    let none = land_none c.args.line card m.nodes c.args.key (λ p depth e. c.in_default.not-Leaf p depth (sym ends ∙ e)) in
    record {
      refused = sym (ap (λ (l : Option Landing). landing_refusal (room_where c.args.splits (seen c.args.line card) c.args.key (room_of m) l) l) none);
      depth = λ d e. impossible (cc);
    }

pub returns-then-has_room_where : goal.returns-then-has_room_where
unfolding depth_of
returns-then-has_room_where c =
    let card = c.args.card.now in
    let m = memory_in c.args.state.now in
    let ends = below _ _ c.args.state.now _ _ _ _ c.wide-nodes.ensures c.root_of.ensures c.descend.ensures ∙ c.in-Leaf.is in
    record {
      refused = leaf_refusal c.args.line card m c.args.key c.in-Leaf.position _ ends c.args.splits true c.if-has_room_where.ensures;
      depth = λ d e. let same : d ≡ c.in-Leaf.depth = cc in
          same ∙ sym (ap (λ (w : Way). depth_of (leaf_of w)) (way_seen c.args.line card m.nodes c.args.key)
          ∙ ap depth_of (unsought_reached card _ c.in-Leaf.position _ ends));
    }

pub returns-else-has_room_where-clause-refused : goal.returns-else-has_room_where-clause-refused
returns-else-has_room_where-clause-refused c =
    leaf_refusal c.args.line c.args.card.now (memory_in c.args.state.now) c.args.key c.in-Leaf.position _ (below _ _ c.args.state.now _ _ _ _ c.wide-nodes.ensures c.root_of.ensures c.descend.ensures ∙ c.in-Leaf.is) c.args.splits false c.if-has_room_where.ensures
