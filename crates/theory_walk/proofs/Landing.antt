-- Where a key leads, as the tree has it: the leaf, the link to it, how many internal nodes stand above it, and the 11-child nodes
-- without a break straight above it.
use mathlib.Core.Path.{◌≡◌, ap, ap₂, sym, ◌∙◌, subst}
use mathlib.Core.List.{List}
use mathlib.Core.Option.{some}
use Prim.Native.Nat.{ℕ, ◌+◌, ◌*◌, ◌≤◌, ◌<◌}
use native.Mathlib.Omega.{arith}
use lib.ListN.{length}
use Rattle.card.specs.Layout.{depth_limit, node_at}
use Rattle.walk.specs.Descent.{slot_of, Way, way, reached_at, leaf_of, run_over, landed_at, landing_of}
use Rattle.theory_walk.proofs.Find.{slot_answer, find_map}
use Rattle.theory_walk.proofs.Routing.{Leads}
use Rattle.theory_walk.proofs.Way.{position_of, positions_above, position_node, position_link, length_above, depth_plug, way_to_leaf, run_on_card}
use Rattle.theory_tree.specs.Pairs.{pairs, lookup}
use Rattle.theory_tree.proofs.Pairs.{InRange, depth}
use Rattle.theory_tree.proofs.Path.{depth_of, full_run}
use Rattle.theory_tree.specs.Represent.{Represents, Holds}
use Rattle.theory_tree.proofs.Represent.{link_place}
use Rattle.theory_tree.specs.Tree.{Tree, leaf}
use Rattle.theory_tree.proofs.Tree.{Context, plug}
use Rattle.walk.proofs.DescentLaws.{landing_at}
use Rattle.walk.proofs.DescentLaws.{leaf_reached}

-- where a key leads in the table t: the leaf, the context that it stands in, the way to it, and that its words answer as the table's
-- pairs do
pub record LandedAt (c : List ℕ) (n key : ℕ) (t : Tree) : Type 0 where
  pub number : ℕ
  pub keys : List ℕ
  pub values : List ℕ
  pub context : Context
  pub is_tree : plug context (leaf number keys values) ≡ t
  pub landed : landing_of c (way c n key) ≡ landing_at number (link_place context) (full_run context)
  pub reached : leaf_of (way c n key) ≡ leaf_reached number (depth_of context)
  pub leads : Leads key context
  pub on_card_lem : Represents c (leaf number keys values)
  pub answers : slot_answer (node_at c number) (slot_of (node_at c number) key) ≡ lookup key (pairs t)

module _ (c : List ℕ) (C : Context) (m : ℕ) (ks vs : List ℕ) where
  -- what is read off the way to a leaf
  abbrev to_leaf : Way
  to_leaf = record { inner = positions_above C (leaf m ks vs); leaf = some (position_of C (leaf m ks vs)) }

  read_landing : Holds c (plug C (leaf m ks vs)) → landing_of c to_leaf ≡ landing_at m (link_place C) (full_run C)
  unfolding landing_of landed_at
  read_landing w =
      ap₂ (λ (x y : ℕ). landing_at x y (run_over c 0 (positions_above C (leaf m ks vs)))) (position_node C (leaf m ks vs)) (position_link C (leaf m ks vs))
      ∙ ap (landing_at m (link_place C)) (run_on_card c C (leaf m ks vs) w)

  read_leaf : leaf_of to_leaf ≡ leaf_reached m (depth_of C)
  unfolding leaf_of reached_at
  read_leaf = ap₂ leaf_reached (position_node C (leaf m ks vs)) (length_above C (leaf m ks vs))

-- The leaf is the one that the look-up finds, and the way to it is the way to any part that the key leads to.
pub landing_found : (c : List ℕ) (n key : ℕ) → length c ≡ 8 + 24 * n → (lo hi : ℕ) (t : Tree) → Holds c t → InRange lo hi t → lo ≤ key → key < hi → 0 < key → depth t ≤ depth_limit → LandedAt c n key t
landing_found c n key len lo hi t w i l h pos d =
    let f = find_map c key pos lo hi t w.2 i l h in
    let there : Holds c (plug f.context (leaf f.number f.keys f.values)) = subst (Holds c) (sym f.is_tree) w in
    let leads = f.leads tt in
    let led = way_to_leaf c n key len f.context f.number f.keys f.values there leads
    (omega (arith, depth_plug f.context (leaf f.number f.keys f.values), ap depth f.is_tree)) in
    record {
      number = f.number;
      keys = f.keys;
      values = f.values;
      context = f.context;
      is_tree = f.is_tree;
      landed = ap (landing_of c) led ∙ read_landing c f.context f.number f.keys f.values there;
      reached = ap leaf_of led ∙ read_leaf c f.context f.number f.keys f.values;
      leads = leads;
      on_card_lem = f.on_card_lem;
      answers = f.answers;
    }
