-- The changes of internal nodes as they are planned from the numbers on the card: they are those of the rewrites.
use mathlib.Core.Path.{◌≡◌, refl, ap, sym, ◌∙◌}
use mathlib.Core.List.{List, [], ◌∷◌, ◌++◌}
use mathlib.Core.Bool.{Bool, true, false}
use mathlib.Core.Logic.{◌⊎◌, inl, inr}
use Prim.Native.Nat.{ℕ, suc, ◌+◌, ◌-◌, ◌*◌, ◌≤◌}
use native.Mathlib.Omega.{arith}
use lib.ListN.{length, get_or, take, drop}
use Rattle.card.specs.Layout.{node_at, kind_of, children, routing_keys}
use Rattle.card.specs.Stores.{new_node}
use Rattle.change_plan.specs.Change.{joined_keys, joined_children, absorb, split_parent, Together, inners_together, half, left_keys, key_between, share, merge, merge_root, halves, copied}
use Rattle.change_plan.specs.Planning.{giving, first, second, third}
use Rattle.change_decide.specs.Decide.{decide_together}
use Rattle.change_decide.specs.declared.Decision.{Decision}
use Rattle.change_decide.proofs.DecideLaws.{siblings_inners}
use Rattle.change_split.specs.Split.{keys_taken_in, children_taken_in}
use Rattle.change_layout.specs.LayOut.{lay_out}
use Rattle.change_layout.proofs.Mending.{mend, mend_absorbs, mend_splits}
use Rattle.change_siblings.specs.Siblings.{together_at}
use Rattle.change_siblings.proofs.SiblingLaws.{inners_together_lem}
use Rattle.theory_change.proofs.Exchange.{Remains, OneViolation, together_le, Parts, left_roots, right_roots, right_routing, left_routing, middle_key}
use Rattle.theory_shapes.proofs.Next.{tagged_in}
use Rattle.theory_change.proofs.InnerChanges.{inner_pair, new_siblings, parted_nodes, tagged_child, Underfull, together}
use Rattle.theory_change.proofs.Mending.{StandsAt, rewrite_at, giving_same, kind_above_lem, siblings_decide, share_made, merge_root_made, merge_made}
use Rattle.theory_change.proofs.Siblings.{children_with_lem, routing_with, first_child, second_child, key_between_lem, two_represented}
use Rattle.theory_change.proofs.Siblings.{children_shared, routing_shared, children_merged, routing_merged}
use Rattle.theory_tree.proofs.Reading.{read_kind, node_children, node_routing}
use Rattle.theory_tree.specs.Represent.{kind, Represents}
use Rattle.theory_tree.proofs.Represent.{link_place}
use Rattle.theory_tree.proofs.Splice.{roots_join, routing_join, represents_splice}
use Rattle.theory_tree.specs.Tree.{Tree, Forest, roots, routing, node, one, more}
use Rattle.theory_tree.proofs.Tree.{Left, Right, join, splice, Context, top}
use Rattle.theory_tree.proofs.Violations.{widths_splice}
use Rattle.walk.specs.declared.Position.{Position}

module _ (pos : Position) (C : Context) (p q : ℕ) (ea : pos.above ≡ link_place C) (ep : pos.parent ≡ p) (en : pos.node ≡ q) (K : Forest) where
  absorb_is : (a : ℕ) → absorb pos (routing K) (roots K) a ≡ rewrite_at C (new_node a 2 (routing K) (roots K) ∷ []) a (p ∷ q ∷ [])
  unfolding absorb
  absorb_is a = rw (ea, ep, en)

  split_is : (L : Forest) (key : ℕ) (R : Forest) → Parts 6 K L key R → (a b c : ℕ)
      → split_parent pos (routing K) (roots K) a b c ≡ rewrite_at C (parted_nodes (kind (tagged_in C)) a b c L key R) c (p ∷ q ∷ [])
  unfolding split_parent
  split_is L key R u a b c =
      rw (
        ea,
        ep,
        en,
        kind_above_lem C,
        left_routing 6 K L key R u 5 refl,
        middle_key 6 K L key R u 5 refl,
        left_roots 6 K L key R u,
        right_routing 6 K L key R u,
        right_roots 6 K L key R u,
      )

module _ (c : List ℕ) (n : ℕ) (pos : Position) (free : List Bool) (last : ℕ) (C : Context) (p : ℕ) (l : Left) (q : ℕ) (a : Tree) (k : ℕ)
    (b : Tree) (r : Right) (s : StandsAt pos C p l (node q true (more a k (one b))))
    (w : Represents c (node p false (splice l (tagged_child q a k b) r))) where
  abbrev kids : Forest
  kids = splice l (more a k (one b)) r

  tagged_represented : Represents c (node q true (more a k (one b)))
  tagged_represented = (represents_splice c l (tagged_child q a k b) r w.1).0

  keys_read : keys_taken_in c pos ≡ routing kids
  unfolding joined_keys
  keys_read =
      rw (s.parent_is, s.node_is, s.index_is) (routing_with c p l (tagged_child q a k b) r w (more a k (one b))
      (routing_keys (node_at c q)) (length l) (sym (node_routing c q true (more a k (one b)) tagged_represented)) (omega arith))

  children_read : children_taken_in c pos ≡ roots kids
  unfolding joined_children
  children_read =
      rw (s.parent_is, s.node_is, s.index_is) (children_with_lem c p l (tagged_child q a k b) r w (more a k (one b))
      (children (node_at c q)) (suc (length l)) (sym (node_children c q true (more a k (one b)) tagged_represented)) (omega arith))

  inner_read : kind_of (node_at c pos.parent) ≡ 2
  inner_read = rw s.parent_is (read_kind c p 2 _ _ w.0)

  tagged_read : kind_of (node_at c pos.node) ≡ 3
  tagged_read = rw s.node_is (read_kind c q 3 _ _ tagged_represented.0)

  two_read : length (children (node_at c pos.node)) ≡ 2
  two_read = rw s.node_is (ap length (node_children c q true (more a k (one b)) tagged_represented))

  count_read : length (children (node_at c pos.parent)) ≡ length (roots (splice l (tagged_child q a k b) r))
  count_read = rw s.parent_is (ap length (node_children c p false (splice l (tagged_child q a k b) r) w))

  -- "parent with at most 10 children: a new copy of the parent takes its key and children in"
  pub absorb_plan : length (roots (splice l (tagged_child q a k b) r)) ≤ 10
      → mend c n pos free last ≡ giving 1 free last (λ ms. rewrite_at C (new_node (first ms) 2 (routing kids) (roots kids) ∷ []) (first ms) (p ∷ q ∷ []))
  absorb_plan h =
      rw (keys_read, children_read) at (mend_absorbs c n free last pos inner_read tagged_read two_read (omega (arith, count_read, h)))
      ∙ giving_same 1 free last _ _ (λ ms. absorb_is pos C p q s.above_is s.parent_is s.node_is kids (first ms))

  -- "Parent with 11: the 12 children go 6 and 6 into two internal nodes, the middle key above them"
  pub split_plan : (L : Forest) (key : ℕ) (R : Forest) → Parts 6 kids L key R → length (roots (splice l (tagged_child q a k b) r)) ≡ 11
      → mend c n pos free last ≡ giving 3 free last (λ ms. rewrite_at C (parted_nodes (kind (tagged_in C)) (first ms) (second ms) (third ms) L key R) (third ms) (p ∷ q ∷ []))
  split_plan L key R u h =
      rw (keys_read, children_read) at (mend_splits c n free last pos inner_read tagged_read two_read (omega (arith, count_read, h)))
      ∙ giving_same 3 free last _ _ (λ ms. split_is pos C p q s.above_is s.parent_is s.node_is kids L key R u (first ms) (second ms) (third ms))

-- what two internal siblings hold together, where K are their children joined
abbrev inner_together : Forest → Together
inner_together K = record { kind = 2; keys = routing K; values = roots K }

together_is : (X Y : List ℕ) (key : ℕ) (fx : Forest) (k : ℕ) (fy : Forest) → children X ≡ roots fx → children Y ≡ roots fy
    → routing_keys X ≡ routing fx → routing_keys Y ≡ routing fy → key ≡ k → inners_together X key Y ≡ inner_together (join fx k fy)
unfolding inners_together
together_is X Y key fx k fy cx cy kx ky e = rw (cx, cy, kx, ky, e, roots_join fx k fy, routing_join fx k fy)

-- each change of two siblings, from the lists of the parent P: N are the children of its new copy
module _ (pos : Position) (C : Context) (p : ℕ) (ea : pos.above ≡ link_place C) (ep : pos.parent ≡ p) (P : List ℕ) (j x y : ℕ)
    (ex : get_or (children P) j 0 ≡ x) (ey : get_or (children P) (suc j) 0 ≡ y) (K : Forest) where
  share_is : (h : ℕ) → half (length (roots K)) ≡ h → (L : Forest) (key : ℕ) (R : Forest) → Parts h K L key R → (N : Forest) (a b c : ℕ)
      → take j (routing_keys P) ++ key ∷ drop (suc j) (routing_keys P) ≡ routing N → take j (children P) ++ a ∷ b ∷ drop (suc (suc j)) (children P) ≡ roots N
      → share pos P j (inner_together K) a b c ≡ rewrite_at C (new_siblings a L b R ++ new_node c 2 (routing N) (roots N) ∷ []) c (p ∷ x ∷ y ∷ [])
  unfolding share halves copied left_keys key_between
  share_is h eh L key R q N a b c ek ec =
      rw (
        eh,
        left_routing h K L key R q (h - 1) refl,
        middle_key h K L key R q (h - 1) refl,
        left_roots h K L key R q,
        right_routing h K L key R q,
        right_roots h K L key R q,
        ek,
        ec,
        ea,
        ep,
        ex,
        ey,
      )

  merge_is : (N : Forest) (a b : ℕ) → take j (routing_keys P) ++ drop (suc j) (routing_keys P) ≡ routing N → take j (children P) ++ a ∷ drop (suc (suc j)) (children P) ≡ roots N
      → merge pos P j (inner_together K) a b ≡ rewrite_at C (new_node a 2 (routing K) (roots K) ∷ new_node b 2 (routing N) (roots N) ∷ []) b (p ∷ x ∷ y ∷ [])
  unfolding merge copied
  merge_is N a b ek ec = rw (ek, ec, ea, ep, ex, ey)

  merge_root_is : (a : ℕ) → merge_root pos P j (inner_together K) a ≡ rewrite_at C (new_node a 2 (routing K) (roots K) ∷ []) a (p ∷ x ∷ y ∷ [])
  unfolding merge_root
  merge_root_is a = rw (ea, ep, ex, ey)

-- x and y are children of p side by side, of which the violation is one; their children together are K
module _ (c : List ℕ) (n : ℕ) (pos : Position) (free : List Bool) (last : ℕ) (C : Context) (p : ℕ) (l : Left) (x : ℕ) (fx : Forest) (k y : ℕ) (fy : Forest) (r : Right)
    (size : length c ≡ 8 + 24 * n) (w : Represents c (node p false (splice l (inner_pair x fx k y fy) r)))
    (ea : pos.above ≡ link_place C) (ep : pos.parent ≡ p) (ei : pos.index - 1 ≡ length l) (en : (pos.node ≡ x) ⊎ (pos.node ≡ y)) where
  two_kinds : (kind_of (node_at c x) ≡ 2) × (kind_of (node_at c y) ≡ 2)
  two_kinds = let s = two_represented c p l (node x false fx) k (node y false fy) r (length l) refl w in (read_kind c x 2 _ _ s.0.0, read_kind c y 2 _ _ s.1.0)

  violation_kind : (pos.node ≡ x) ⊎ (pos.node ≡ y) → kind_of (node_at c pos.node) ≡ 2
  violation_kind (inl e) = rw e two_kinds.0
  violation_kind (inr e) = rw e two_kinds.1

  -- what they hold together, read off the card
  together_read : together_at c pos ≡ inner_together (join fx k fy)
  together_read =
      let s = two_represented c p l (node x false fx) k (node y false fy) r (length l) refl w in
      let first = first_child c p l (node x false fx) k (node y false fy) r (length l) refl w in
      let second = second_child c p l (node x false fx) k (node y false fy) r (length l) refl w in
      inners_together_lem c pos (λ t. omega (arith, rw (ep, ei, first) at t, two_kinds.0))
      ∙ rw (ep, ei, first, second)
      (together_is (node_at c x) (node_at c y) (get_or (routing_keys (node_at c p)) (length l) 0) fx k fy (node_children c x false fx s.0) (node_children c y false fy s.1)
      (node_routing c x false fx s.0) (node_routing c y false fy s.1) (key_between_lem c p l (node x false fx) k (node y false fy) r (length l) refl w))

  inner_siblings_due : 1 ≤ length (roots fx) → 1 ≤ length (roots fy)
      → mend c n pos free last ≡ lay_out c (decide_together pos (node_at c p) (length (roots (join fx k fy)))) free last
  inner_siblings_due hx hy =
      let s = two_represented c p l (node x false fx) k (node y false fy) r (length l) refl w in
      let cx = node_children c x false fx s.0 in
      let cy = node_children c y false fy s.1 in
      siblings_decide c n pos free last p l (node x false fx) k (node y false fy) r 2 size w ep ei (violation_kind en) (omega arith)
      ∙ ap (λ (d : Decision). lay_out c d free last)
      (siblings_inners pos (node_at c p) (node_at c x) (node_at c y) (rw two_kinds.0) (rw (two_kinds.0, two_kinds.1)) (rw cx hx) (rw cy hy)
      ∙ ap (decide_together pos (node_at c p)) (rw (cx, cy) (sym (together x fx k y fy))))

  module _ (v : OneViolation (splice l (inner_pair x fx k y fy) r)) (u : Underfull fx fy) where
    abbrev both : Forest
    both = join fx k fy

    abbrev one_child : ℕ → Forest
    one_child a = splice l (one (node a false both)) r

    abbrev two_children : ℕ → Forest → ℕ → ℕ → Forest → Forest
    two_children a L key b R = splice l (inner_pair a L key b R) r

    sizes : (1 ≤ length (roots fx)) × (1 ≤ length (roots fy)) × (length (roots fx) + length (roots fy) ≤ 12)
    sizes = let s = (widths_splice l (inner_pair x fx k y fy) r v.widths).0 in (s.0.0.0, s.1.0.0, together_le (length (roots fx)) (length (roots fy)) u s.0.0.1 s.1.0.1)

    both_size : length (roots both) ≡ length (roots fx) + length (roots fy)
    both_size = together x fx k y fy

    due : mend c n pos free last ≡ lay_out c (decide_together pos (node_at c p) (length (roots both))) free last
    due = inner_siblings_due sizes.0 sizes.1

    x_read : get_or (children (node_at c p)) (length l) 0 ≡ x
    x_read = first_child c p l (node x false fx) k (node y false fy) r (length l) refl w

    y_read : get_or (children (node_at c p)) (suc (length l)) 0 ≡ y
    y_read = second_child c p l (node x false fx) k (node y false fy) r (length l) refl w

    count : length (children (node_at c p)) ≡ length (roots (splice l (inner_pair x fx k y fy) r))
    count = ap length (node_children c p false (splice l (inner_pair x fx k y fy) r) w)

    -- "Together 4 or more: shared out, the left one getting the larger half, under a new copy of the parent."
    pub share_plan : (m : ℕ) → m ≡ length (roots fx) + length (roots fy) → 4 ≤ m → (L : Forest) (key : ℕ) (R : Forest) → Parts (half m) both L key R
        → mend c n pos free last
        ≡ giving 3 free last
        (λ ms. rewrite_at C (new_siblings (first ms) L (second ms) R ++ new_node (third ms) 2 (routing (two_children (first ms) L key (second ms) R))
        (roots (two_children (first ms) L key (second ms) R)) ∷ []) (third ms) (p ∷ x ∷ y ∷ []))
    share_plan m e h L key R q =
        let s = sizes in
        let j = both_size in
        due
        ∙ share_made c n pos free last (node_at c p) (length l) (inner_together both) (ap (node_at c) ep) ei together_read (omega arith) (omega arith)
        ∙ giving_same 3 free last _ _
        (λ ms. share_is pos C p ea ep (node_at c p) (length l) x y x_read y_read both (half m) (ap half (omega arith)) L key R q
        (two_children (first ms) L key (second ms) R) (first ms) (second ms) (third ms)
        (routing_shared c p l (node x false fx) k (node y false fy) r (length l) refl w (inner_pair (first ms) L key (second ms) R) key refl)
        (children_shared c p l (node x false fx) k (node y false fy) r (length l) refl w (inner_pair (first ms) L key (second ms) R) (first ms) (second ms) refl))

    -- "Together 3 or fewer: merged, the parent copied with one child less"
    pub merge_plan : length (roots fx) + length (roots fy) ≤ 3 → Remains C (length (roots (splice l (inner_pair x fx k y fy) r)))
        → mend c n pos free last ≡ giving 2 free last (λ ms. rewrite_at C (new_node (first ms) 2 (routing both) (roots both)
        ∷ new_node (second ms) 2 (routing (one_child (first ms))) (roots (one_child (first ms))) ∷ []) (second ms) (p ∷ x ∷ y ∷ []))
    merge_plan h o =
        let j = both_size in
        due
        ∙ merge_made c n pos free last (node_at c p) (length l) (inner_together both) (ap (node_at c) ep) ei together_read C (omega arith) ea (rw count o)
        ∙ giving_same 2 free last _ _
        (λ ms. merge_is pos C p ea ep (node_at c p) (length l) x y x_read y_read both (one_child (first ms)) (first ms) (second ms)
        (routing_merged c p l (node x false fx) k (node y false fy) r (length l) refl w (one (node (first ms) false both)) refl)
        (children_merged c p l (node x false fx) k (node y false fy) r (length l) refl w (one (node (first ms) false both)) (first ms) refl))

    -- "if that parent is the root with 2 children, the merged node becomes the root"
    pub merge_root_plan : length (roots fx) + length (roots fy) ≤ 3 → C ≡ top → length (roots (splice l (inner_pair x fx k y fy) r)) ≡ 2
        → mend c n pos free last ≡ giving 1 free last (λ ms. rewrite_at C (new_node (first ms) 2 (routing both) (roots both) ∷ []) (first ms) (p ∷ x ∷ y ∷ []))
    merge_root_plan h t e =
        let j = both_size in
        due
        ∙ merge_root_made c n pos free last (node_at c p) (length l) (inner_together both) (ap (node_at c) ep) ei together_read (omega arith) (ea ∙ ap link_place t) (count ∙ e)
        ∙ giving_same 1 free last _ _ (λ ms. merge_root_is pos C p ea ep (node_at c p) (length l) x y x_read y_read both (first ms))
