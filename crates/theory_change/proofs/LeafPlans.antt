-- Document 01, "The changes": where the violation of the table is a leaf, the repair that is due on its card is the rewrite of
-- LeafChanges, with the nodes that it is given.
use mathlib.Core.Path.{◌≡◌, refl, ap, sym, ◌∙◌}
use mathlib.Core.List.{List, [], ◌∷◌, ◌++◌}
use mathlib.Core.Bool.{Bool, false}
use mathlib.Core.Logic.{◌⊎◌, inl, inr}
use Prim.Native.Nat.{ℕ, suc, ◌+◌, ◌-◌, ◌*◌, ◌≤◌}
use native.Mathlib.Omega.{arith}
use lib.ListN.{length, get_or, take, drop}
use Rattle.card.specs.Layout.{node_at, kind_of, children, routing_keys, slot_pairs, leaf_pairs}
use Rattle.card.specs.Stores.{new_node}
use Rattle.change_plan.specs.Change.{Together, leaves_together, half, left_keys, key_between, share, merge, merge_root, halves, copied}
use Rattle.change_plan.specs.Planning.{giving, first, second, third}
use Rattle.change_decide.specs.Decide.{decide_together}
use Rattle.change_decide.specs.declared.Decision.{Decision}
use Rattle.change_decide.proofs.DecideLaws.{siblings_leaves}
use Rattle.change_layout.specs.LayOut.{lay_out}
use Rattle.change_layout.proofs.Mending.{mend}
use Rattle.change_siblings.specs.Siblings.{together_at}
use Rattle.change_siblings.proofs.SiblingLaws.{leaves_together_lem}
use Rattle.theory_change.proofs.Exchange.{Remains}
use Rattle.theory_change.proofs.LeafChanges.{leaves, pairs_together, together_length, leaf_node, inner_node}
use Rattle.theory_change.proofs.LeafRows.{new_leaf, length_pair_values, keys_take, values_take, keys_drop, values_drop, key_at_row, two_leaves}
use Rattle.theory_change.proofs.Mending.{rewrite_at, giving_same, siblings_decide, share_made, merge_root_made, merge_made}
use Rattle.theory_change.proofs.Siblings.{first_child, second_child, two_represented, children_shared, routing_shared, children_merged, routing_merged}
use Rattle.laws.specs.Sorting.{Pairs, sort, pair_keys, pair_values, key_at}
use Rattle.theory_tree.proofs.Reading.{read_kind, leaf_pairs_lem, node_children}
use Rattle.theory_tree.specs.Represent.{Represents}
use Rattle.theory_tree.proofs.Represent.{link_place}
use Rattle.theory_tree.specs.Tree.{roots, leaf, node, one}
use Rattle.theory_tree.proofs.Tree.{Left, Right, splice, Context, rightmost, top}
use Rattle.walk.specs.declared.Position.{Position}

-- The violation is at this position, one of the children x and y, which stand side by side below p in the context C.
pub record AtSiblings (q : Position) (C : Context) (p : ℕ) (l : Left) (x y : ℕ) : Type 0 where
  pub above : q.above ≡ link_place C
  pub parent : q.parent ≡ p
  pub index : q.index - 1 ≡ length l
  pub member : (q.node ≡ x) ⊎ (q.node ≡ y)

-- two leaves together, as the rows of their sorted pairs
abbrev pub rows_of : Pairs → Together
rows_of ps = record { kind = 1; keys = pair_keys ps; values = pair_values ps }

leaves_rows : (x y : List ℕ) (ps qs : Pairs) → leaf_pairs x ≡ ps → leaf_pairs y ≡ qs → leaves_together x y ≡ rows_of (sort (ps ++ qs))
unfolding leaves_together
leaves_rows x y ps qs e f = rw (e, f)

-- the changes at these rows; keys, kids and the numbers x and y are read off the parent
module _ (q : Position) (parent : List ℕ) (j : ℕ) (ps : Pairs) (C : Context) (p x y : ℕ) (el : q.above ≡ link_place C) (ep : q.parent ≡ p)
    (ex : get_or (children parent) j 0 ≡ x) (ey : get_or (children parent) (suc j) 0 ≡ y) where
  share_leaves : (a b c : ℕ) (keys kids : List ℕ)
      → take j (routing_keys parent) ++ key_at (half (length ps)) ps ∷ drop (suc j) (routing_keys parent) ≡ keys
      → take j (children parent) ++ a ∷ b ∷ drop (suc (suc j)) (children parent) ≡ kids
      → share q parent j (rows_of ps) a b c ≡ rewrite_at C (leaf_node a (take (half (length ps)) ps) ∷ leaf_node b (drop (half (length ps)) ps) ∷ new_node c 2 keys kids ∷ []) c (p ∷ x ∷ y ∷ [])
  unfolding share halves copied left_keys key_between
  share_leaves a b c keys kids e f = rw (length_pair_values ps, keys_take, values_take, keys_drop, values_drop, key_at_row, e, f, ex, ey, el, ep)

  merge_leaves : (a b : ℕ) (keys kids : List ℕ) → take j (routing_keys parent) ++ drop (suc j) (routing_keys parent) ≡ keys
      → take j (children parent) ++ a ∷ drop (suc (suc j)) (children parent) ≡ kids
      → merge q parent j (rows_of ps) a b ≡ rewrite_at C (leaf_node a ps ∷ new_node b 2 keys kids ∷ []) b (p ∷ x ∷ y ∷ [])
  unfolding merge copied
  merge_leaves a b keys kids e f = rw (e, f, ex, ey, el, ep)

  merge_root_leaves : (a : ℕ) → merge_root q parent j (rows_of ps) a ≡ rewrite_at C (leaf_node a ps ∷ []) a (p ∷ x ∷ y ∷ [])
  unfolding merge_root
  merge_root_leaves a = rw (ex, ey, el, ep)

module _ (c : List ℕ) (n : ℕ) (long : length c ≡ 8 + 24 * n) (C : Context) (p : ℕ) (l : Left) (x : ℕ) (ks vs : List ℕ) (k y : ℕ)
    (ks' vs' : List ℕ) (r : Right) (w : Represents c (node p false (splice l (leaves x ks vs k y ks' vs') r))) (q : Position)
    (at : AtSiblings q C p l x y) (free : List Bool) (last : ℕ) where
  first_leaf : Represents c (leaf x ks vs)
  first_leaf = (two_represented c p l (leaf x ks vs) k (leaf y ks' vs') r (length l) refl w).0

  second_leaf : Represents c (leaf y ks' vs')
  second_leaf = (two_represented c p l (leaf x ks vs) k (leaf y ks' vs') r (length l) refl w).1

  first_number : get_or (children (node_at c p)) (length l) 0 ≡ x
  first_number = first_child c p l (leaf x ks vs) k (leaf y ks' vs') r (length l) refl w

  second_number : get_or (children (node_at c p)) (suc (length l)) 0 ≡ y
  second_number = second_child c p l (leaf x ks vs) k (leaf y ks' vs') r (length l) refl w

  violation_kind : (q.node ≡ x) ⊎ (q.node ≡ y) → kind_of (node_at c q.node) ≡ 1
  violation_kind (inl e) = rw e (read_kind c x 1 ks vs first_leaf.0)
  violation_kind (inr e) = rw e (read_kind c y 1 ks' vs' second_leaf.0)

  -- what they hold together, read off the card
  together_read : together_at c q ≡ rows_of (pairs_together ks vs ks' vs')
  together_read =
      leaves_together_lem c q (rw (at.parent, at.index, first_number) (read_kind c x 1 ks vs first_leaf.0))
      ∙ rw (at.parent, at.index, first_number, second_number)
      (leaves_rows (node_at c x) (node_at c y) (slot_pairs ks vs) (slot_pairs ks' vs') (leaf_pairs_lem c x ks vs first_leaf) (leaf_pairs_lem c y ks' vs' second_leaf))

  -- every test before the count of pairs is passed
  leaves_due : mend c n q free last ≡ lay_out c (decide_together q (node_at c p) (length (pair_values (pairs_together ks vs ks' vs')))) free last
  leaves_due =
      siblings_decide c n q free last p l (leaf x ks vs) k (leaf y ks' vs') r 1 long w at.parent at.index (violation_kind at.member) (omega arith)
      ∙ ap (λ (d : Decision). lay_out c d free last)
      (siblings_leaves q (node_at c p) (node_at c x) (node_at c y) (rw (read_kind c x 1 ks vs first_leaf.0, read_kind c y 1 ks' vs' second_leaf.0))
      ∙ ap (decide_together q (node_at c p)) count_read)
    where
      count_read : length (leaf_pairs (node_at c x)) + length (leaf_pairs (node_at c y)) ≡ length (pair_values (pairs_together ks vs ks' vs'))
      count_read = rw (leaf_pairs_lem c x ks vs first_leaf, leaf_pairs_lem c y ks' vs' second_leaf) (sym (length_pair_values (pairs_together ks vs ks' vs') ∙ together_length ks vs ks' vs'))

  leaf_share_due : (a b d : ℕ) → share q (node_at c p) (length l) (rows_of (pairs_together ks vs ks' vs')) a b d
      ≡ rewrite_at C (leaf_node a (take (half (length (pairs_together ks vs ks' vs'))) (pairs_together ks vs ks' vs'))
      ∷ leaf_node b (drop (half (length (pairs_together ks vs ks' vs'))) (pairs_together ks vs ks' vs'))
      ∷ inner_node d (splice l (two_leaves a b (half (length (pairs_together ks vs ks' vs'))) (pairs_together ks vs ks' vs')) r)
      ∷ []) d (p ∷ x ∷ y ∷ [])
  leaf_share_due a b d =
      let ps = pairs_together ks vs ks' vs' in
      share_leaves q (node_at c p) (length l) ps C p x y at.above at.parent first_number second_number a b d _ _
      (routing_shared c p l (leaf x ks vs) k (leaf y ks' vs') r (length l) refl w (two_leaves a b (half (length ps)) ps) (key_at (half (length ps)) ps) refl)
      (children_shared c p l (leaf x ks vs) k (leaf y ks' vs') r (length l) refl w (two_leaves a b (half (length ps)) ps) a b refl)

  leaf_merge_due : (a b : ℕ) → merge q (node_at c p) (length l) (rows_of (pairs_together ks vs ks' vs')) a b ≡ rewrite_at C
      (leaf_node a (pairs_together ks vs ks' vs') ∷ inner_node b (splice l (one (new_leaf a (pairs_together ks vs ks' vs'))) r) ∷ []) b (p ∷ x ∷ y ∷ [])
  leaf_merge_due a b =
      let ps = pairs_together ks vs ks' vs' in
      merge_leaves q (node_at c p) (length l) ps C p x y at.above at.parent first_number second_number a b _ _
      (routing_merged c p l (leaf x ks vs) k (leaf y ks' vs') r (length l) refl w (one (new_leaf a ps)) refl)
      (children_merged c p l (leaf x ks vs) k (leaf y ks' vs') r (length l) refl w (one (new_leaf a ps)) a refl)

  children_size : length (children (node_at c p)) ≡ length (roots (splice l (leaves x ks vs k y ks' vs') r))
  children_size = ap length (node_children c p false (splice l (leaves x ks vs k y ks' vs') r) w)

  -- "Together 4 or more: shared out"
  pub leaf_share_plan : 4 ≤ length (pairs_together ks vs ks' vs') → length (pairs_together ks vs ks' vs') ≤ 12
      → mend c n q free last ≡ giving 3 free last (λ ms. rewrite_at C
      (leaf_node (first ms) (take (half (length (pairs_together ks vs ks' vs'))) (pairs_together ks vs ks' vs'))
      ∷ leaf_node (second ms) (drop (half (length (pairs_together ks vs ks' vs'))) (pairs_together ks vs ks' vs'))
      ∷ inner_node (third ms) (splice l (two_leaves (first ms) (second ms) (half (length (pairs_together ks vs ks' vs'))) (pairs_together ks vs ks' vs')) r)
      ∷ []) (third ms) (p ∷ x ∷ y ∷ []))
  leaf_share_plan h g =
      let e = length_pair_values (pairs_together ks vs ks' vs') in
      leaves_due
      ∙ share_made c n q free last (node_at c p) (length l) (rows_of (pairs_together ks vs ks' vs')) (ap (node_at c) at.parent) at.index together_read (omega arith) (omega arith)
      ∙ giving_same 3 free last _ _ (λ ms. leaf_share_due (first ms) (second ms) (third ms))

  -- "Together 3 or fewer: merged, the parent copied with one child less"
  pub leaf_merge_plan : length (pairs_together ks vs ks' vs') ≤ 3 → Remains C (length (roots (splice l (leaves x ks vs k y ks' vs') r)))
      → mend c n q free last ≡ giving 2 free last (λ ms. rewrite_at C
      (leaf_node (first ms) (pairs_together ks vs ks' vs') ∷ inner_node (second ms) (splice l (one (new_leaf (first ms) (pairs_together ks vs ks' vs'))) r) ∷ []) (second ms) (p ∷ x ∷ y ∷ []))
  leaf_merge_plan h g =
      let e = length_pair_values (pairs_together ks vs ks' vs') in
      leaves_due
      ∙ merge_made c n q free last (node_at c p) (length l) (rows_of (pairs_together ks vs ks' vs'))
      (ap (node_at c) at.parent) at.index together_read C (omega arith) at.above (rw children_size g)
      ∙ giving_same 2 free last _ _ (λ ms. leaf_merge_due (first ms) (second ms))

-- "if that parent is the root with 2 children, the merged node becomes the root"
pub leaf_merge_root_plan : (c : List ℕ) (n : ℕ) → length c ≡ 8 + 24 * n → (p x : ℕ) (ks vs : List ℕ) (k y : ℕ) (ks' vs' : List ℕ)
    → Represents c (node p false (leaves x ks vs k y ks' vs')) → (q : Position) → AtSiblings q top p [] x y → (free : List Bool) (last : ℕ)
    → length (pairs_together ks vs ks' vs') ≤ 3
    → mend c n q free last ≡ giving 1 free last (λ ms. rewrite_at top (leaf_node (first ms) (pairs_together ks vs ks' vs') ∷ []) (first ms) (p ∷ x ∷ y ∷ []))
leaf_merge_root_plan c n long p x ks vs k y ks' vs' w q at free last h =
    let ps = pairs_together ks vs ks' vs' in
    let e = length_pair_values ps in
    leaves_due c n long top p [] x ks vs k y ks' vs' rightmost w q at free last
    ∙ merge_root_made c n q free last (node_at c p) 0 (rows_of ps) (ap (node_at c) at.parent) at.index
    (together_read c n long top p [] x ks vs k y ks' vs' rightmost w q at free last) (omega arith) at.above
    (children_size c n long top p [] x ks vs k y ks' vs' rightmost w q at free last)
    ∙ giving_same 1 free last _ _
    (λ ms. merge_root_leaves q (node_at c p) 0 ps top p x y at.above at.parent (first_number c n long top p [] x ks vs k y ks' vs'
    rightmost w q at free last) (second_number c n long top p [] x ks vs k y ks' vs' rightmost w q at free last) (first ms))
