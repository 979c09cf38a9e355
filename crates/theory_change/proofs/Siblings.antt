-- Document 01, "The changes": "sibling is the right one for child 0, else the left one". A child with its sibling, side by
-- side among the children of their parent, and the parent's lists of numbers where some children give way to others.
use mathlib.Core.Path.{◌≡◌, refl, ap, sym, ◌∙◌}
use mathlib.Core.List.{List, [], ◌∷◌, ◌++◌, append_assoc}
use mathlib.Core.Bool.{Bool, false}
use mathlib.Core.Logic.{◌⊎◌, inl, inr}
use Prim.Native.Nat.{ℕ, suc, ◌+◌, ◌-◌, ◌≤◌, ◌<◌}
use native.Mathlib.Omega.{arith}
use lib.ListN.{length, get_or, take, drop, length-append}
use lib.Seq.{take_at, drop_at, get_or_at}
use Rattle.card.specs.Layout.{node_at, children, routing_keys}
use Rattle.laws.proofs.Lists.{get_d_right}
use Rattle.theory_tree.proofs.Path.{width_of}
use Rattle.theory_tree.proofs.Reading.{node_children, node_routing}
use Rattle.theory_shapes.proofs.Bare.{bare, bare_left, bare_right}
use Rattle.theory_shapes.proofs.Next.{Siblings as Chosen, siblings_of, mend_two, mend_at}
use Rattle.theory_shapes.proofs.Shaped.{siblings_shaped}
use Rattle.theory_tree.specs.Represent.{Represents}
use Rattle.theory_tree.proofs.Represent.{roots_left, roots_right, routing_left, routing_right}
use Rattle.theory_tree.proofs.Splice.{represents_splice, roots_splice, routing_splice, length_roots_left, length_routing_left}
use Rattle.theory_tree.specs.Tree.{Tree, Forest, root, roots, routing, leaf, node, one, more}
use Rattle.theory_tree.proofs.Tree.{Left, Right, splice, fill, rightmost, followed}

-- Child s of a parent with at least two, seen as one of two children that stand side by side: child 0 is the first of the
-- two, any other child the second. The first of the two is child length left of the parent.
pub record Pair (l₀ : Left) (s : Tree) (r₀ : Right) : Type 0 where
  pub left : Left
  pub lesser : Tree
  pub key : ℕ
  pub greater : Tree
  pub right : Right
  pub whole : fill l₀ s r₀ ≡ splice left (more lesser key (one greater)) right
  pub index : length left ≡ length l₀ - 1
  pub member : (lesser ≡ s) ⊎ (greater ≡ s)
  pub chosen : siblings_of l₀ s r₀ ≡ record { left = left; lesser = lesser; key = key; greater = greater; right = right }

pub siblings : (l₀ : Left) (s : Tree) (r₀ : Right) → 2 ≤ width_of l₀ r₀ → Pair l₀ s r₀
unfolding siblings_of
siblings [] s rightmost h = absurd (omega arith)
siblings [] s (followed k (one y)) h = record { left = []; lesser = s; key = k; greater = y; right = rightmost; whole = refl; index = refl; member = inl refl; chosen = refl }
siblings [] s (followed k (more y x f)) h = record { left = []; lesser = s; key = k; greater = y; right = followed x f; whole = refl; index = refl; member = inl refl; chosen = refl }
siblings (a ∷ []) s rightmost h = record { left = []; lesser = a.0; key = a.1; greater = s; right = rightmost; whole = refl; index = refl; member = inr refl; chosen = refl }
siblings (a ∷ []) s (followed k f) h = record { left = []; lesser = a.0; key = a.1; greater = s; right = followed k f; whole = refl; index = refl; member = inr refl; chosen = refl }
siblings (a ∷ b ∷ l) s r h =
    let u = siblings (b ∷ l) s r (omega arith) in
    record {
      left = a ∷ u.left;
      lesser = u.lesser;
      key = u.key;
      greater = u.greater;
      right = u.right;
      whole = ap (λ (f : Forest). more a.0 a.1 f) u.whole;
      index = omega (arith, u.index);
      member = u.member;
      chosen = ap (λ (v : Chosen). record { left = a ∷ v.left; lesser = v.lesser; key = v.key; greater = v.greater; right = v.right }) u.chosen;
    }

-- without numbers, too, the two are those that the violation and its sibling are
pub leaf_due : (below : Bool) (l : Left) (m : ℕ) (ks vs : List ℕ) (r : Right) (u : Pair l (leaf m ks vs) r)
    → mend_at below (bare_left l) (bare (leaf m ks vs)) (bare_right r) ≡ mend_two below (bare_left u.left) (bare u.lesser) u.key (bare u.greater) (bare_right u.right)
unfolding mend_at
leaf_due below l m ks vs r u = rw (siblings_shaped l (leaf m ks vs) r, u.chosen)

pub inner_due : (below : Bool) (l : Left) (m : ℕ) (f : Forest) (r : Right) (u : Pair l (node m false f) r)
    → mend_at below (bare_left l) (bare (node m false f)) (bare_right r) ≡ mend_two below (bare_left u.left) (bare u.lesser) u.key (bare u.greater) (bare_right u.right)
unfolding mend_at
inner_due below l m f r u = rw (siblings_shaped l (node m false f) r, u.chosen)

-- a part ys in the middle of a list gives way to ms
swap_middle : (xs ys zs ms : List ℕ) (i n : ℕ) → length xs ≡ i → n ≡ i + length ys → take i (xs ++ (ys ++ zs)) ++ (ms ++ drop n (xs ++ (ys ++ zs))) ≡ xs ++ (ms ++ zs)
swap_middle xs ys zs ms i n e f =
    let d : drop n (xs ++ (ys ++ zs)) ≡ zs = ap (λ (l : List ℕ). drop n l) (sym (append_assoc xs ys zs)) ∙ drop_at (xs ++ ys) zs n (omega (arith, length-append xs ys)) in
    rw (take_at xs (ys ++ zs) i e, d)

-- The parent's children and routing keys, where the children F among them give way to G: the numbers of the new copy, from
-- those read off the card.
module _ (c : List ℕ) (p : ℕ) (l : Left) (F : Forest) (r : Right) (w : Represents c (node p false (splice l F r))) where
  pub parent_children : children (node_at c p) ≡ roots_left l ++ (roots F ++ roots_right r)
  parent_children = node_children c p false (splice l F r) w ∙ roots_splice l F r

  pub parent_routing : routing_keys (node_at c p) ≡ routing_left l ++ (routing F ++ routing_right r)
  parent_routing = node_routing c p false (splice l F r) w ∙ routing_splice l F r

  pub children_with_lem : (G : Forest) (ms : List ℕ) (n : ℕ) → roots G ≡ ms → n ≡ length l + length (roots F)
      → take (length l) (children (node_at c p)) ++ (ms ++ drop n (children (node_at c p))) ≡ roots (splice l G r)
  children_with_lem G ms n e f = rw (parent_children, ← e) (swap_middle (roots_left l) (roots F) (roots_right r) (roots G) (length l) n (length_roots_left l) f ∙ sym (roots_splice l G r))

  pub routing_with : (G : Forest) (ks : List ℕ) (n : ℕ) → routing G ≡ ks → n ≡ length l + length (routing F)
      → take (length l) (routing_keys (node_at c p)) ++ (ks ++ drop n (routing_keys (node_at c p))) ≡ routing (splice l G r)
  routing_with G ks n e f = rw (parent_routing, ← e) (swap_middle (routing_left l) (routing F) (routing_right r) (routing G) (length l) n (length_routing_left l) f ∙ sym (routing_splice l G r))

-- two children side by side, of which the first is child j
module _ (c : List ℕ) (p : ℕ) (l : Left) (x : Tree) (k : ℕ) (y : Tree) (r : Right) (j : ℕ) (at_j : length l ≡ j) (w : Represents c (node p false (splice l (more x k (one y)) r))) where
  abbrev two : Forest
  two = more x k (one y)

  pub first_child : get_or (children (node_at c p)) j 0 ≡ root x
  first_child = rw (parent_children c p l two r w) (get_or_at (roots_left l) (root x) (root y ∷ roots_right r) 0 j (length_roots_left l ∙ at_j))

  pub second_child : get_or (children (node_at c p)) (suc j) 0 ≡ root y
  second_child = rw (parent_children c p l two r w) (get_d_right (roots_left l) (root x ∷ root y ∷ roots_right r) j (suc j) 1 (length_roots_left l ∙ at_j) (omega arith))

  pub key_between_lem : get_or (routing_keys (node_at c p)) j 0 ≡ k
  key_between_lem = rw (parent_routing c p l two r w) (get_or_at (routing_left l) k (routing_right r) 0 j (length_routing_left l ∙ at_j))

  pub both_there : suc j < length (children (node_at c p))
  both_there = rw (parent_children c p l two r w) (omega (arith, length-append (roots_left l) (root x ∷ root y ∷ roots_right r), length_roots_left l))

  pub two_represented : Represents c x × Represents c y
  two_represented = (represents_splice c l two r w.1).0

  -- two others in their place, or one
  pub children_shared : (G : Forest) (a b : ℕ) → roots G ≡ a ∷ b ∷ [] → take j (children (node_at c p)) ++ a ∷ b ∷ drop (suc (suc j)) (children (node_at c p)) ≡ roots (splice l G r)
  children_shared G a b e = rw (← at_j) (children_with_lem c p l two r w G (a ∷ b ∷ []) (suc (suc (length l))) e (omega arith))

  pub routing_shared : (G : Forest) (key : ℕ) → routing G ≡ key ∷ [] → take j (routing_keys (node_at c p)) ++ key ∷ drop (suc j) (routing_keys (node_at c p)) ≡ routing (splice l G r)
  routing_shared G key e = rw (← at_j) (routing_with c p l two r w G (key ∷ []) (suc (length l)) e (omega arith))

  pub children_merged : (G : Forest) (a : ℕ) → roots G ≡ a ∷ [] → take j (children (node_at c p)) ++ a ∷ drop (suc (suc j)) (children (node_at c p)) ≡ roots (splice l G r)
  children_merged G a e = rw (← at_j) (children_with_lem c p l two r w G (a ∷ []) (suc (suc (length l))) e (omega arith))

  pub routing_merged : (G : Forest) → routing G ≡ [] → take j (routing_keys (node_at c p)) ++ drop (suc j) (routing_keys (node_at c p)) ≡ routing (splice l G r)
  routing_merged G e = rw (← at_j) (routing_with c p l two r w G [] (suc (length l)) e (omega arith))
