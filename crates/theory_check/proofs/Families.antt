-- Document 02, W-204: the totals by family that the check counts on its way are those of the pairs of a sound table.
use mathlib.Core.Path.{◌≡◌, ap, sym, subst, ◌∙◌}
use mathlib.Core.List.{List, [], ◌∷◌, ◌++◌, append-nil}
use mathlib.Core.Bool.{Bool, true, false}
use Prim.Native.Nat.{ℕ, zero, suc, ◌+◌, ◌-◌, ◌*◌, ◌^◌, ◌≤◌, ◌<◌}
use native.Mathlib.Omega.{arith}
use lib.ListN.{length, length-append}
use borrow.Author.Tests.{ne_eqb}
use Rattle.laws.specs.Totals.{total}
use Rattle.laws.proofs.Totals.{total_append}
use Rattle.card.specs.Layout.{greatest_nodes, depth_limit, lowest_key, key_limit, slot_pairs}
use Rattle.card_family.specs.Families.{no_totals}
use Rattle.card_family.proofs.FamilyLaws.{Totals, totals_none, totals_in, totals_same}
use Rattle.card_check.specs.Counting.{keys_counted, children_counted, node_counted, table_counted}
use Rattle.card_check.proofs.CountingLaws.{counted_leaf, counted_inner}
use Rattle.theory_check.proofs.Depth.{well_formed_size, well_formed_depth}
use Rattle.theory_check.proofs.Ranges.{well_formed_in_range}
use Rattle.theory_check.proofs.Rations.{pairs_le}
use Rattle.theory_tree.proofs.Pairs.{InRange, AllInRange, depth, depths}
use Rattle.theory_tree.proofs.Reading.{read_kind, leaf_keys, node_children}
use Rattle.theory_tree.proofs.Sorted.{outside_zero}
use Rattle.theory_tree.specs.Pairs.{pairs, forest_pairs, outside}
use Rattle.theory_tree.specs.Represent.{kind, Represents, RepresentsAll}
use Rattle.theory_tree.specs.Tree.{Tree, Forest, root, roots, routing, leaf, node, one, more}
use Rattle.theory_tree.specs.WellFormed.{WellFormed}

-- the slots of a leaf, from the last on: l is what was counted before it
module _ (lo hi : ℕ) (small : hi ≤ key_limit) (totals : List ℕ) (l : List (ℕ × ℕ)) (before : Totals totals l) where
  keys_totals : (ks vs : List ℕ) → length ks ≡ length vs → total (outside lo hi) (slot_pairs ks vs) ≡ 0 → length (slot_pairs ks vs) + length l < 2 ^ 32
      → Totals (keys_counted ks totals) (slot_pairs ks vs ++ l)
  unfolding keys_counted
  keys_totals [] vs n inside few = before
  keys_totals (k ∷ ks) [] n inside few = absurd (omega arith)
  keys_totals (zero ∷ ks) (v ∷ vs) n inside few = keys_totals ks vs (omega arith) inside few
  keys_totals (suc k ∷ ks) (v ∷ vs) n inside few =
      let o = outside_zero lo hi (suc k, v) (omega (arith, inside)) in
      let rest = keys_totals ks vs (omega arith) (omega (arith, inside)) (omega arith) in
      rw (ne_eqb (suc k) 0 (omega arith))
      (totals_in (suc k) v (omega (arith, o.1)) (keys_counted ks totals) (slot_pairs ks vs ++ l) ((suc k, v) ∷ (slot_pairs ks vs ++ l)) rest
      (λ w. omega arith) (omega (arith, length-append (slot_pairs ks vs) l)))

kind_inner : (g : Bool) → kind g ≡ 1 → ⊥
kind_inner true e = omega arith
kind_inner false e = omega arith

module _ (c : List ℕ) where
  mutual
    unfolding children_counted

    -- a part of the tree, which adds its pairs to those counted before it
    node_totals_lem : (levels lo hi : ℕ) (t : Tree) (totals : List ℕ) (l : List (ℕ × ℕ)) → hi ≤ key_limit → Represents c t → InRange lo hi t → depth t ≤ levels
        → length (pairs t) + length l < 2 ^ 32 → Totals totals l → Totals (node_counted levels c (root t) totals) (pairs t ++ l)
    node_totals_lem levels lo hi (leaf m ks vs) totals l small r s d few before =
        subst (λ (x : List ℕ). Totals x (slot_pairs ks vs ++ l))
        (sym (counted_leaf c m totals levels (read_kind c m 1 ks vs r.0) ∙ ap (λ (x : List ℕ). keys_counted x totals) (leaf_keys c m ks vs r)))
        (keys_totals lo hi small totals l before ks vs (r.1 ∙ sym r.2) s.inside few)
    node_totals_lem levels lo hi (node m g f) totals l small r s d few before =
        subst (λ (x : List ℕ). Totals x (forest_pairs f ++ l))
        (sym (counted_inner c m totals levels (λ z. omega arith) (λ e. kind_inner g (sym (read_kind c m (kind g) (routing f) (roots f) r.0) ∙ e))
        ∙ ap (λ (x : List ℕ). children_counted (node_counted (levels - 1) c) x totals) (node_children c m g f r)))
        (forest_totals (levels - 1) lo hi f totals l small r.1 s (omega arith) few before)

    forest_totals : (levels lo hi : ℕ) (f : Forest) (totals : List ℕ) (l : List (ℕ × ℕ)) → hi ≤ key_limit → RepresentsAll c f → AllInRange lo hi f → depths f ≤ levels
        → length (forest_pairs f) + length l < 2 ^ 32 → Totals totals l → Totals (children_counted (node_counted levels c) (roots f) totals) (forest_pairs f ++ l)
    forest_totals levels lo hi (one t) totals l small r s d few before = node_totals_lem levels lo hi t totals l small r s d few before
    forest_totals levels lo hi (more t k f) totals l small r s d few before =
        let both = length-append (pairs t) (forest_pairs f) in
        let first = node_totals_lem levels lo k t totals l (omega (arith, s.2)) r.0 s.0 (omega arith) (omega arith) before in
        let rest = forest_totals levels k hi f (node_counted levels c (root t) totals) (pairs t ++ l) small r.1 s.3 (omega arith)
        (omega (arith, length-append (pairs t) l)) first in
        totals_same _ (forest_pairs f ++ (pairs t ++ l)) ((pairs t ++ forest_pairs f) ++ l)
        (λ w. omega (
          arith,
          total_append w (forest_pairs f) (pairs t ++ l),
          total_append w (pairs t) l,
          total_append w (pairs t ++ forest_pairs f) l,
          total_append w (pairs t) (forest_pairs f),
        )) rest

-- "rebuilt at opening": where a card holds a sound table, the totals counted on it are those of its pairs
pub table_totals : (c : List ℕ) (n : ℕ) (t : Tree) → length c ≡ 8 + 24 * n → n ≤ greatest_nodes → WellFormed c t → Totals (table_counted c) (pairs t)
unfolding table_counted
table_totals c n t len few w =
    let held = w.holds.2 in
    let counted = node_totals_lem c depth_limit lowest_key key_limit t no_totals [] (omega arith) held (well_formed_in_range w)
    (well_formed_depth c n len t few w) (omega (arith, pairs_le c t held, well_formed_size c n len t w)) totals_none in
    rw w.holds.0 (subst (λ (l : List (ℕ × ℕ)). Totals (node_counted depth_limit c (root t) no_totals) l) (append-nil (pairs t)) counted)
