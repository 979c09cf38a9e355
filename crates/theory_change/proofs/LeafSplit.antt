-- Document 01, "The changes", insert: "Leaf full: the 12 pairs go 6 and 6 into two leaves under a tagged node (internal if it is
-- the root) whose routing key is the right leaf's smallest."
use mathlib.Core.Path.{◌≡◌, refl, ap, ◌∙◌}
use mathlib.Core.List.{List, [], ◌∷◌}
use mathlib.Core.Logic.{by_cases}
use Prim.Native.Nat.{ℕ, suc, ◌+◌, ◌≤◌, ◌<◌}
use native.Mathlib.Omega.{arith}
use native.Mathlib.Decide.{ℕ_discrete}
use lib.ListN.{length, take, drop, length-take, length-drop}
use Rattle.card.specs.Layout.{slot_pairs}
use Rattle.card.specs.Stores.{NewNode, new_node}
use Rattle.card.proofs.Stores.{AllHaveWords}
use Rattle.change_plan.specs.Change.{split_leaf}
use Rattle.theory_change.proofs.Above.{above_height, above_shape, above_settled, above_own}
use Rattle.theory_shapes.proofs.Next.{tagged_in}
use Rattle.theory_change.proofs.LeafChanges.{leaf_node}
use Rattle.theory_change.proofs.LeafRows.{slot_keys, length_pair_keys, length_pair_values, new_leaf_represented, two_leaves}
use Rattle.theory_change.proofs.LeafRows.{two_leaves_pairs, two_leaves_range, two_leaves_settled, two_leaves_widths}
use Rattle.theory_change.proofs.Mending.{rewrite_at, kind_above_lem}
use Rattle.theory_change.proofs.Rewrite.{Shape, violations_in, own_in, SameHeight, AllFew, numbers}
use Rattle.laws.specs.Sorting.{Pairs, sort, key_at}
use Rattle.laws.proofs.Sorting.{total_sort, length_sort}
use Rattle.laws.proofs.Totals.{indicator_other, indicator_le}
use Rattle.laws.specs.Totals.{total}
use Rattle.theory_tree.specs.Pairs.{pairs, has_key, LeafRange}
use Rattle.theory_tree.proofs.Pairs.{InRange}
use Rattle.theory_tree.specs.Represent.{kind, Represents}
use Rattle.theory_tree.proofs.Represent.{link_place}
use Rattle.theory_tree.proofs.Sorted.{outside_none, rising_sort}
use Rattle.theory_tree.specs.Height.{Height}
use Rattle.theory_tree.specs.Tree.{Tree, node_total, leaf, node}
use Rattle.theory_tree.proofs.Tree.{Context}

-- A part o of a table, in the context C, gives way to the part s, which holds the pair (k, v) besides: as a rewrite, but for that
-- pair.
pub record Growth (C : Context) (o s : Tree) (k v : ℕ) (nodes : List NewNode) (out : List ℕ) : Type 0 where
  pub range : (a b : ℕ) → a ≤ k → k < b → InRange a b o → InRange a b s
  pub pair_more : (w : ℕ × ℕ → ℕ) → total w (pairs s) ≡ w (k, v) + total w (pairs o)
  pub height : (h : ℕ) → Height h o → (h' : ℕ) × Height h' s × SameHeight C h h'
  pub shape : Shape C s
  pub settled : violations_in C s ≡ own_in C s
  pub at_most_one : own_in C s ≤ 1
  pub same_numbers : (w : ℕ → ℕ) → node_total w s + total w out ≡ node_total w o + total w (numbers nodes)
  pub few : AllFew nodes
  pub represented : (c : List ℕ) → Represents c o → AllHaveWords c nodes → Represents c s

-- the pairs of the leaf and the new one, by rising key
abbrev pub with_pair : ℕ → ℕ → List ℕ → List ℕ → Pairs
with_pair k v ks vs = sort ((k, v) ∷ slot_pairs ks vs)

range_cons : (lo hi k v : ℕ) (ps : Pairs) → lo ≤ k → k < hi → total (has_key k) ps ≡ 0 → LeafRange lo hi ps → LeafRange lo hi ((k, v) ∷ ps)
range_cons lo hi k v ps a b z f =
    record {
      inside = omega (arith, outside_none lo hi (k, v) a b, f.inside);
      once = λ j. by_cases (ℕ_discrete j k) (λ e. let none : total (has_key j) ps ≡ 0 = ap (λ (i : ℕ). total (has_key i) ps) e ∙ z in
          omega (arith, indicator_le j k)) (λ d. omega (arith, indicator_other j k d, f.once j));
    }

-- the leaves and the node above them, in the order in which they are written
abbrev pub split_nodes : Context → ℕ → ℕ → ℕ → Pairs → List NewNode
split_nodes C a b c ps = leaf_node a (take 6 ps) ∷ leaf_node b (drop 6 ps) ∷ new_node c (kind (tagged_in C)) (key_at 6 ps ∷ []) (a ∷ b ∷ []) ∷ []

module _ (C : Context) (m : ℕ) (ks vs : List ℕ) (k v : ℕ) (positive : 0 < k) (full : length (slot_pairs ks vs) ≡ 11) (absent_key : total (has_key k) (slot_pairs ks vs) ≡ 0) where
  twelve_length : length (with_pair k v ks vs) ≡ 12
  twelve_length = length_sort ((k, v) ∷ slot_pairs ks vs) ∙ ap suc full

  twelve_nonzero : total (has_key 0) (with_pair k v ks vs) ≡ 0
  twelve_nonzero = omega (arith, total_sort (has_key 0) ((k, v) ∷ slot_pairs ks vs), indicator_other 0 k (omega arith), slot_keys ks vs)

  pub leaf_split : (a b c : ℕ) → Growth C (leaf m ks vs) (node c (tagged_in C) (two_leaves a b 6 (with_pair k v ks vs))) k v (split_nodes C a b c (with_pair k v ks vs)) (m ∷ [])
  leaf_split a b c =
      let ps = with_pair k v ks vs in
      let n = twelve_length in
      let z = twelve_nonzero in
      let two = two_leaves a b 6 ps in
      let lt : length (take 6 ps) ≤ 11 = simp length-take (omega arith) in
      let ld : length (drop 6 ps) ≤ 11 = simp length-drop (omega arith) in
      record {
        range = λ lo hi h g i. two_leaves_range a b 6 ps z lo hi (omega arith) (omega arith)
            (rising_sort lo hi ((k, v) ∷ slot_pairs ks vs) (omega arith) (range_cons lo hi k v (slot_pairs ks vs) h g absent_key i));
        pair_more = λ w. ap (total w) (two_leaves_pairs a b 6 ps z) ∙ total_sort w ((k, v) ∷ slot_pairs ks vs);
        height = λ h i. above_height C c h two (i, i);
        shape = above_shape C c two refl (two_leaves_widths a b 6 ps z (omega arith) (omega arith));
        settled = above_settled C c two (two_leaves_settled a b 6 ps z (omega arith) (omega arith));
        at_most_one = above_own C c two refl;
        same_numbers = λ w. omega arith;
        few = (
          (omega (arith, length_pair_keys (take 6 ps)), omega (arith, length_pair_values (take 6 ps))),
          ((omega (arith, length_pair_keys (drop 6 ps)), omega (arith, length_pair_values (drop 6 ps))), ((omega arith, omega arith), tt)),
        );
        represented = λ d q w. (w.1.1.0, (new_leaf_represented d a (take 6 ps) lt w.0, new_leaf_represented d b (drop 6 ps) ld w.1.0), omega arith);
      }

-- the change that is written is this one
pub split_change : (C : Context) (m : ℕ) (ps : Pairs) (a b c : ℕ) → split_leaf m (link_place C) ps a b c ≡ rewrite_at C (split_nodes C a b c ps) c (m ∷ [])
unfolding split_leaf
split_change C m ps a b c = rw (kind_above_lem C)
