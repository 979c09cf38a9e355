-- Which change is due, case by case: one law for each branch of the code.
use mathlib.Core.Path.{◌≡◌, refl, ap, sym, ◌∙◌}
use mathlib.Core.List.{List}
use mathlib.Core.Bool.{true, false, ◌&&◌}
use Prim.Native.Nat.{ℕ, suc, ◌+◌, ◌≤◌, ◌<◌}
use native.Mathlib.Omega.{arith}
use lib.ListN.{length, get_or, drop}
use lib.Seq.{get_or-take, get_or-drop}
use lib.Dec.{eqb, ltb, leb}
use borrow.Author.Tests.{ltb-true, lt-ltb, le-ltb, leb-true, le-leb, lt-leb, ne_eqb, eq-eqb}
use Rattle.laws.proofs.Cases.{and_true}
use Rattle.card.specs.Layout.{root_place, node_at, kind_of, children, leaf_pairs}
use Rattle.card.proofs.NodeLaws.{children_words}
use Rattle.change_decide.specs.Decide.{decide_tagged, decide_together, decide_siblings, is_node, left_sibling, left_number, right_number, decide_underfull, decide_at}
use Rattle.change_decide.specs.declared.Decision.TheVariants.{Refused, Absorb, SplitParent, Share, Merge, MergeRoot}
use Rattle.walk.specs.declared.Position.{Position}

-- ---- a tagged node

module _ (p : Position) (parent tagged : List ℕ) where
  pub tagged_absorbed : length (children tagged) ≡ 2 → length (children parent) ≤ 10 → decide_tagged p parent tagged ≡ Absorb p
  unfolding decide_tagged
  tagged_absorbed h l = rw (eq-eqb _ 2 h, le-leb _ 10 l)

  pub tagged_split : length (children tagged) ≡ 2 → 10 < length (children parent) → decide_tagged p parent tagged ≡ SplitParent p
  unfolding decide_tagged
  tagged_split h l = rw (eq-eqb _ 2 h, lt-leb _ 10 l)

-- ---- two siblings

module _ (p : Position) (parent : List ℕ) (count : ℕ) where
  pub together_shared : count ≤ 12 → 4 ≤ count → decide_together p parent count ≡ Share p
  unfolding decide_together
  together_shared h l = rw (le-ltb 12 _ h, le-leb 4 _ l)

  pub together_root : count < 4 → (eqb p.above root_place && eqb (length (children parent)) 2) ≡ true → decide_together p parent count ≡ MergeRoot p
  unfolding decide_together
  together_root h t = let l : count ≤ 12 = omega arith in rw (le-ltb 12 _ l, lt-leb 4 _ h, t)

  pub together_merged : count < 4 → (eqb p.above root_place && eqb (length (children parent)) 2) ≡ false → decide_together p parent count ≡ Merge p
  unfolding decide_together
  together_merged h t = let l : count ≤ 12 = omega arith in rw (le-ltb 12 _ l, lt-leb 4 _ h, t)

module _ (p : Position) (parent x y : List ℕ) where
  pub siblings_leaves : (eqb (kind_of x) 1 && eqb (kind_of y) 1) ≡ true → decide_siblings p parent x y ≡ decide_together p parent (length (leaf_pairs x) + length (leaf_pairs y))
  unfolding decide_siblings
  siblings_leaves t = rw t

  pub siblings_inners : (eqb (kind_of x) 1 && eqb (kind_of y) 1) ≡ false → (eqb (kind_of x) 2 && eqb (kind_of y) 2) ≡ true
      → 0 < length (children x) → 0 < length (children y) → decide_siblings p parent x y ≡ decide_together p parent (length (children x) + length (children y))
  unfolding decide_siblings
  siblings_inners t u h l = rw (t, u, lt-ltb 0 _ h, lt-ltb 0 _ l)

-- ---- a node with a sibling

-- a node's number is one on the card
pub node_numbered : (n m : ℕ) → is_node n m ≡ true → (1 ≤ m) × (m ≤ n)
unfolding is_node
node_numbered n m e = let t = and_true (ltb 0 m) (leb m n) e in (ltb-true 0 m t.0, leb-true m n t.1)

-- a child's number, as the code reads it
pub child_read : (node : List ℕ) (i w : ℕ) → w ≡ 12 + i → i < length (children node) → get_or node w 0 ≡ get_or (children node) i 0
child_read node i w e h =
    sym (ap (λ (l : List ℕ). get_or l i 0) (children_words node (length (children node)) refl)
    ∙ get_or-take (length (children node)) (drop 12 node) i 0 h ∙ get_or-drop 12 node i 0 ∙ ap (λ (a : ℕ). get_or node a 0) (sym e))

module _ (card : List ℕ) (n : ℕ) (p : Position) (parent : List ℕ) where
  pub underfull_left_off : suc (left_sibling p) < length (children parent) → is_node n (left_number parent p) ≡ false → decide_underfull card n p parent ≡ Refused
  unfolding decide_underfull
  underfull_left_off h e = rw (lt-ltb (suc (left_sibling p)) (length (children parent)) h, e)

  pub underfull_right_off : suc (left_sibling p) < length (children parent) → is_node n (left_number parent p) ≡ true → is_node n (right_number parent p) ≡ false
      → decide_underfull card n p parent ≡ Refused
  unfolding decide_underfull
  underfull_right_off h e f = rw (lt-ltb (suc (left_sibling p)) (length (children parent)) h, e, f)

  pub underfull_both : suc (left_sibling p) < length (children parent) → is_node n (left_number parent p) ≡ true → is_node n (right_number parent p) ≡ true
      → decide_underfull card n p parent ≡ decide_siblings p parent (node_at card (left_number parent p)) (node_at card (right_number parent p))
  unfolding decide_underfull
  underfull_both h e f = rw (lt-ltb (suc (left_sibling p)) (length (children parent)) h, e, f)

-- ---- the repair at a position

module _ (card : List ℕ) (n : ℕ) (p : Position) where
  pub decided_tagged : kind_of (node_at card p.parent) ≡ 2 → kind_of (node_at card p.node) ≡ 3
      → decide_at card n p ≡ decide_tagged p (node_at card p.parent) (node_at card p.node)
  unfolding decide_at
  decided_tagged h t = rw (eq-eqb _ 2 h, eq-eqb _ 3 t)

  pub decided_underfull : kind_of (node_at card p.parent) ≡ 2 → (kind_of (node_at card p.node) ≡ 3 → ⊥)
      → decide_at card n p ≡ decide_underfull card n p (node_at card p.parent)
  unfolding decide_at
  decided_underfull h t = rw (eq-eqb _ 2 h, ne_eqb _ 3 t)
