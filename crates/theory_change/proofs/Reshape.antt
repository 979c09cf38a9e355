-- A part of a balanced table gives way to another by an update: like a rewrite, but the pairs change at the key.
use mathlib.Core.Path.{◌≡◌, refl}
use mathlib.Core.List.{List, []}
use mathlib.Core.Bool.{Bool, true, false}
use Prim.Native.Nat.{ℕ, ◌+◌, ◌≤◌, ◌<◌}
use native.Mathlib.Omega.{arith}
use lib.ListN.{length}
use Rattle.card.specs.Layout.{lowest_key, key_limit, slot_pairs}
use Rattle.card.specs.Stores.{NewNode}
use Rattle.theory_change.proofs.LeafSplit.{Growth}
use Rattle.theory_change.proofs.Parent.{violations_part}
use Rattle.theory_change.proofs.Rewrite.{Shape, violations_in, own_in, SameHeight, numbers}
use Rattle.theory_change.proofs.Rewritten.{shape_plug, Sound, violations_in_plug, height_in_plug}
use Rattle.theory_walk.proofs.Ranges.{in_range_of_path}
use Rattle.theory_walk.proofs.Routing.{Leads, Untagged}
use Rattle.laws.specs.Totals.{indicator, total}
use Rattle.theory_tree.specs.Pairs.{LeafRange}
use Rattle.theory_tree.proofs.Pairs.{InRange}
use Rattle.theory_tree.specs.Height.{Height}
use Rattle.theory_tree.specs.Tree.{Tree, node_total, leaf, node}
use Rattle.theory_tree.proofs.Tree.{fill, Context, plug, total_plug, top, down}
use Rattle.theory_tree.proofs.Violations.{below, few_le}
use Rattle.theory_tree.specs.Violations.{RootOk, table_violations}

pub record Reshape (C : Context) (o s : Tree) (key : ℕ) (nodes : List NewNode) (out : List ℕ) : Type 0 where
  pub range : (a b : ℕ) → a ≤ key → key < b → InRange a b o → InRange a b s
  pub height : (h : ℕ) → Height h o → (h' : ℕ) × Height h' s × SameHeight C h h'
  pub shape : Shape C s
  pub settled : violations_in C s ≡ own_in C s
  pub at_most_one : own_in C s ≤ 1
  pub same_numbers : (w : ℕ → ℕ) → node_total w s + total w out ≡ node_total w o + total w (numbers nodes)

-- the table after it is sound, and has no violation but its part's own
pub reshaped : (C : Context) (o s : Tree) (key : ℕ) (nodes : List NewNode) (out : List ℕ) → Reshape C o s key nodes out → Sound (plug C o)
    → table_violations (plug C o) ≡ 0 → Leads key C → lowest_key ≤ key → key < key_limit
    → ((i : ℕ) → node_total (indicator i) (plug C o) + total (indicator i) (numbers nodes) ≤ 1) → Sound (plug C s) × (table_violations (plug C s) ≡ own_in C s)
reshaped C o s key nodes out r h z path low high fresh =
    let parts = violations_part C o in
    let left : table_violations (plug C s) ≡ own_in C s = omega (arith, violations_in_plug C o s, r.settled) in
    let u = in_range_of_path lowest_key key_limit key C o h.range path low high in (
      record {
        once = λ i. omega (arith, fresh i, r.same_numbers (indicator i), total_plug (indicator i) C o, total_plug (indicator i) C s);
        range = u.fits s (r.range u.low u.high u.from u.until u.part);
        widths = (shape_plug C o h.widths).1 s r.shape;
        level = height_in_plug C o s h.level.0 h.level.1 r.height;
        few_violations = omega (arith, left, r.at_most_one);
      },
      left,
    )

-- in a balanced table no node on a way is tagged
pub balanced_untagged : (C : Context) (s : Tree) → RootOk (plug C s) → table_violations (plug C s) ≡ 0 → Untagged C
balanced_untagged top s w z = tt
balanced_untagged (down C m g l r) s w z =
    (untagged_here C g (shape_plug C (node m g (fill l s r)) w).0 (omega (arith, violations_part C (node m g (fill l s r)))), balanced_untagged C (node m g (fill l s r)) w z)
  where
    untagged_here : (D : Context) (b : Bool) → Shape D (node m b (fill l s r)) → violations_in D (node m b (fill l s r)) ≤ 0 → b ≡ false
    untagged_here top true h e = absurd h
    untagged_here top false h e = refl
    untagged_here (down D i b₁ l₁ r₁) true h e = absurd (omega arith)
    untagged_here (down D i b₁ l₁ r₁) false h e = refl

-- a leaf that stays a leaf
module _ (C : Context) (m : ℕ) (ks vs ks' vs' : List ℕ) (key : ℕ) where
  pub leaf_reshape : ((a b : ℕ) → a ≤ key → key < b → LeafRange a b (slot_pairs ks vs) → LeafRange a b (slot_pairs ks' vs'))
      → (below C → 1 ≤ length (slot_pairs ks' vs')) → Reshape C (leaf m ks vs) (leaf m ks' vs') key [] []
  leaf_reshape range some_pair =
      record {
        range = range;
        height = λ h i. (h, i, same C h);
        shape = shape_of C some_pair;
        settled = settled_of C;
        at_most_one = own_of C;
        same_numbers = λ w. omega arith;
      }
    where
      same : (D : Context) (h : ℕ) → SameHeight D h h
      same top h = tt
      same (down D i g l r) h = refl

      shape_of : (D : Context) → (below D → 1 ≤ length (slot_pairs ks' vs')) → Shape D (leaf m ks' vs')
      shape_of top f = tt
      shape_of (down D i g l r) f = f tt

      settled_of : (D : Context) → violations_in D (leaf m ks' vs') ≡ own_in D (leaf m ks' vs')
      settled_of top = refl
      settled_of (down D i g l r) = refl

      own_of : (D : Context) → own_in D (leaf m ks' vs') ≤ 1
      own_of top = omega arith
      own_of (down D i g l r) = few_le (length (slot_pairs ks' vs'))

-- growth is one too
pub growth_reshape : (C : Context) (o s : Tree) (k v : ℕ) (nodes : List NewNode) (out : List ℕ) → Growth C o s k v nodes out → Reshape C o s k nodes out
growth_reshape C o s k v nodes out g = record { range = g.range; height = g.height; shape = g.shape; settled = g.settled; at_most_one = g.at_most_one; same_numbers = g.same_numbers }
