-- A leaf of a balanced table is changed in its place: what the table is then.
use mathlib.Core.Path.{◌≡◌, refl}
use mathlib.Core.List.{List, []}
use mathlib.Core.Bool.{Bool}
use Prim.Native.Nat.{ℕ, ◌+◌, ◌≤◌, ◌<◌}
use native.Mathlib.Omega.{arith}
use lib.ListN.{length}
use Rattle.card.specs.Layout.{lowest_key, key_limit, slot_pairs}
use Rattle.theory_change.proofs.Line.{Line, Partition, size, partition_same}
use Rattle.theory_change.proofs.Parent.{violations_part}
use Rattle.theory_change.proofs.Repaired.{Mendable, settled, violated}
use Rattle.theory_change.proofs.Reshape.{reshaped, balanced_untagged, leaf_reshape}
use Rattle.theory_change.proofs.Rewrite.{violations_in, own_in}
use Rattle.theory_change.proofs.Rewritten.{Sound}
use Rattle.theory_walk.proofs.Routing.{Leads, leads_on_path}
use Rattle.laws.proofs.Cases.{order}
use Rattle.laws.specs.Totals.{indicator}
use Rattle.theory_tree.specs.Pairs.{LeafRange}
use Rattle.theory_tree.proofs.Path.{OnPath, depth_of, own_violation, reserve}
use Rattle.theory_tree.specs.Tree.{Tree, node_total, leaf}
use Rattle.theory_tree.proofs.Tree.{Context, plug, total_plug, top, down}
use Rattle.theory_tree.proofs.Violations.{below, few_zero}
use Rattle.theory_tree.specs.Violations.{few, table_violations}

-- what holds of the table with the changed leaf
pub record LeafAfter (line : Line) (key : ℕ) (free : List Bool) (C : Context) (s : Tree) : Type 0 where
  pub sound : Sound (plug C s)
  pub exact : Partition line free (plug C s)
  pub level : ℕ
  pub ready : Mendable key line.limit (plug C s) level
  pub shallow : level ≤ depth_of C

-- a part that is the table's only possible violation
pub ready_after : (key limit : ℕ) (C : Context) (s : Tree) → table_violations (plug C s) ≡ own_in C s → own_in C s ≤ 1
    → OnPath key C → size (plug C s) + (3 + reserve C s) ≤ limit → (level : ℕ) × Mendable key limit (plug C s) level × (level ≤ depth_of C)
ready_after key limit top s v o p r = (0, settled v (omega arith), omega arith)
ready_after key limit (down C m g l r) s v o p room =
    order 0 (own_violation s)
    (λ a. (depth_of (down C m g l r), violated (record { context = down C m g l r; part = s; is_tree = refl; inside = tt; own = omega arith; on_path = p }) (omega arith) room, omega arith))
    (λ a. (0, settled (omega arith) (omega arith), omega arith))

module _ (line : Line) (key : ℕ) (free : List Bool) (C : Context) (m : ℕ) (ks vs : List ℕ) (sound : Sound (plug C (leaf m ks vs)))
    (balanced : table_violations (plug C (leaf m ks vs)) ≡ 0) (exact : Partition line free (plug C (leaf m ks vs)))
    (room : size (plug C (leaf m ks vs)) + 3 ≤ line.limit) (leads : Leads key C) (low : lowest_key ≤ key) (high : key < key_limit)
  where
    pub on_path : OnPath key C
    on_path = leads_on_path key C leads (balanced_untagged C (leaf m ks vs) sound.widths balanced)

    -- below the root its leaf has two pairs or more
    pub two_pairs : below C → 2 ≤ length (slot_pairs ks vs)
    two_pairs b = few_zero (length (slot_pairs ks vs)) (at C b (violations_part C (leaf m ks vs)))
      where
        at : (D : Context) → below D → violations_in D (leaf m ks vs) ≤ table_violations (plug C (leaf m ks vs)) → few (length (slot_pairs ks vs)) ≡ 0
        at top b q = absurd b
        at (down D i g l r) b q = omega arith

    pub leaf_after : (ks' vs' : List ℕ)
        → ((a b : ℕ) → a ≤ key → key < b → LeafRange a b (slot_pairs ks vs) → LeafRange a b (slot_pairs ks' vs'))
        → (below C → 1 ≤ length (slot_pairs ks' vs')) → LeafAfter line key free C (leaf m ks' vs')
    leaf_after ks' vs' range some_pair =
        let r = leaf_reshape C m ks vs ks' vs' key range some_pair in
        let q = reshaped C (leaf m ks vs) (leaf m ks' vs') key [] [] r sound balanced leads low high (λ i. omega (arith, sound.once i)) in
        let e : (i : ℕ) → node_total (indicator i) (plug C (leaf m ks' vs')) ≡ node_total (indicator i) (plug C (leaf m ks vs)) =
        λ i. omega (arith, total_plug (indicator i) C (leaf m ks vs), total_plug (indicator i) C (leaf m ks' vs')) in
        let d = ready_after key line.limit C (leaf m ks' vs') q.1 r.at_most_one on_path (omega (arith, total_plug (λ m. 1) C (leaf m ks vs), total_plug (λ m. 1) C (leaf m ks' vs'))) in
        record {
          sound = q.0;
          exact = partition_same line free (plug C (leaf m ks vs)) exact (plug C (leaf m ks' vs')) e;
          level = d.0;
          ready = d.1;
          shallow = d.2;
        }
