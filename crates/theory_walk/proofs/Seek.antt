-- The search for a violation on the card is the way of the key through the tree: it comes to the violation that lies on
-- the key's path, and finds nothing in a table without violations.
use mathlib.Core.Path.{◌≡◌, refl, ap, sym, ◌∙◌, subst}
use mathlib.Core.List.{List}
use mathlib.Core.Bool.{Bool, true, false}
use mathlib.Core.Logic.{by_cases}
use Prim.Native.Nat.{ℕ, zero, suc, ◌+◌, ◌-◌, ◌*◌, ◌≤◌}
use native.Mathlib.Omega.{arith}
use lib.ListN.{length, get_or}
use native.Mathlib.Decide.{ℕ_discrete}
use borrow.Author.Tests.{lt-ltb, le-ltb}
use Rattle.card.specs.Layout.{place, slot_pairs, node_at, children, leaf_pairs}
use Rattle.walk.specs.Descent.{passed, root_position, Way, past, way_from, is_fault, end_of, search_of, seek}
use Rattle.walk.proofs.DescentLaws.{fault_root, fault_tagged, fault_leaf, fault_inner, end_start, end_leaf, end_leaf_fault, search_past, fault_at}
use Rattle.theory_walk.proofs.Routing.{Untagged, path_leads, children_on_card}
use Rattle.theory_walk.proofs.Way.{position, position_of, positions_above, position_node, past_all, past_all_past, depth_plug, look_at_node, way_child, way_at_leaf, way_path}
use Rattle.laws.proofs.Cases.{order, impossible}
use Rattle.laws.specs.Bits.{bit}
use Rattle.theory_tree.proofs.Pairs.{child, depth, child_represents, child_depth}
use Rattle.theory_tree.proofs.Path.{OnPath, depth_of, width_of, own_violation, Violation, width_fill, own_violation_le}
use Rattle.theory_tree.proofs.Reading.{read_kind, leaf_pairs_lem}
use Rattle.theory_tree.specs.Represent.{Represents, Holds}
use Rattle.theory_tree.proofs.Represent.{RepresentsContext, unplugged}
use Rattle.theory_tree.specs.Tree.{Tree, Forest, root, roots, routing, leaf, node, one, more}
use Rattle.theory_tree.proofs.Tree.{fill, Context, plug, top, down}
use Rattle.theory_tree.proofs.Violations.{few_below, below, few_zero, violations_inside}
use Rattle.theory_tree.specs.Violations.{violations, forest_violations, RootOk, table_violations}
use Rattle.walk.specs.declared.Position.{Position}
use Rattle.walk.specs.declared.End.TheVariants.{Fault as EndFault}
use Rattle.walk.specs.declared.Search.TheVariants.{Balanced as SearchBalanced, Violation as SearchViolation}

-- Each node above the hole that is not the root has at least two children: none is a violation by "a non-root node with
-- fewer than 2 pairs or children". That none is tagged, `Untagged` says.
abbrev pub WideAbove : Context → Type 0
WideAbove top = Unit
WideAbove (down C m g l r) = (below C → 2 ≤ width_of l r) × WideAbove C

-- ---- facts of the tree

pub child_violations : (key : ℕ) (f : Forest) → violations (child key f) ≤ forest_violations f
child_violations key (one t) = omega arith
child_violations key (more t x f) = order key x (λ o. rw (lt-ltb key x o) (omega arith)) (λ o. rw (le-ltb key x o) (omega (arith, child_violations key f)))

-- the violations of a part are violations of the table
pub violations_part : (C : Context) (s : Tree) → below C → violations s ≤ table_violations (plug C s)
violations_part top s b = absurd b
violations_part (down top m g l r) s b = violations_inside l (one s) r
violations_part (down (down C m' g' l' r') m g l r) s b = omega (arith, violations_part (down C m' g' l' r') (node m g (fill l s r)) tt, violations_inside l (one s) r)

untagged : (g : Bool) → bit g ≡ 0 → g ≡ false
untagged false e = refl
untagged true e = absurd (omega arith)

-- where a table has one violation only and a part has it, no node above that part is one
pub sound_above : (C : Context) (s : Tree) → RootOk (plug C s) → table_violations (plug C s) ≤ 1 → 1 ≤ violations s → Untagged C × WideAbove C
sound_above top s ok most has = (tt, tt)
sound_above (down top m true l r) s ok most has = absurd ok
sound_above (down top m false l r) s ok most has = ((refl, tt), ((λ b. absurd b), tt))
sound_above (down (down C m' g' l' r') m g l r) s ok most has =
    let part : Tree = node m g (fill l s r) in
    let inner = violations_inside l (one s) r in
    let outer = violations_part (down C m' g' l' r') part tt in
    let q = sound_above (down C m' g' l' r') part ok most (omega arith) in
    ((untagged g (omega arith), q.0), ((λ b. omega (arith, few_zero (length (roots (fill l s r))) (omega arith), width_fill l s r)), q.1))

-- ---- a part below the root

under : (C : Context) (s : Tree) → ((position_of C s).parent ≡ 0 → ⊥) → below C
unfolding position_of root_position
under top s z = absurd (z refl)
under (down C m g l r) s z = tt

parent_there : (c : List ℕ) (C : Context) (s : Tree) → RepresentsContext c C (root s) → below C → (position_of C s).parent ≡ 0 → ⊥
unfolding position_of
parent_there c top s u b z = absurd b
parent_there c (down C m g l r) s u b z = omega (arith, u.0.on.pos)

path_untagged : (key : ℕ) (C : Context) → OnPath key C → Untagged C
path_untagged key top p = tt
path_untagged key (down C m g l r) p = (p.0, path_untagged key C p.3)

-- ---- one step of the search

-- where nothing is a violation by itself, no fault is seen on the card
pub sound_node : (c : List ℕ) (m : ℕ) (f : Forest) → Represents c (node m false f) → (parent : ℕ) → ((parent ≡ 0 → ⊥) → 2 ≤ length (roots f)) → is_fault (node_at c m) parent ≡ false
sound_node c m f r parent wide =
    by_cases (ℕ_discrete parent 0) (λ z. fault_root (node_at c m) parent z)
    (λ z. let k = read_kind c m _ _ _ r.0 in
    fault_inner (node_at c m) parent z (λ e. omega (arith, k)) (λ e. omega (arith, k)) ∙ le-ltb (length (children (node_at c m))) 2 (omega (arith, children_on_card c 0 m false f r, wide z)))

module _ (c : List ℕ) (n key : ℕ) (len : length c ≡ 8 + 24 * n) where
  -- past an internal node that is no violation, to the child that the key leads to
  search_child : (levels m : ℕ) (f : Forest) → Represents c (node m false f) → (p : Position) → p.node ≡ m → ((p.parent ≡ 0 → ⊥) → 2 ≤ length (roots f))
      → seek c n key (suc levels) p ≡ seek c n key levels (position (root (child key f)) (place m (12 + passed (routing f) key)) m (passed (routing f) key) p.link)
  unfolding seek
  search_child levels m f r p e wide =
      ap (λ (w : Way). search_of (end_of c true w)) (way_child c n key len levels m false f r p e)
      ∙ search_past c true p _ (rw e (sound_node c m f r p.parent wide))

  -- ---- the way to a part

  -- none of the nodes above a part is a fault
  no_fault_above : (C : Context) (s : Tree) (w : Way) → Holds c (plug C s) → Untagged C → WideAbove C
      → search_of (end_of c true (past_all (positions_above C s) w)) ≡ search_of (end_of c true w)
  unfolding positions_above past_all
  no_fault_above top s w h u wide = refl
  no_fault_above (down C m true l r) s w h u wide = let e = u.0 in impossible (cc)
  no_fault_above (down C m false l r) s w h u wide =
      let p = position_of C (node m false (fill l s r)) in
      let on = unplugged c C (node m false (fill l s r)) h in
      ap (λ (x : Way). search_of (end_of c true x)) (sym (past_all_past (positions_above C (node m false (fill l s r))) p w))
      ∙ no_fault_above C (node m false (fill l s r)) (past p w) h u.1 wide.1
      ∙ search_past c true p w (rw (position_node C (node m false (fill l s r)))
      (sound_node c m (fill l s r) on.1 p.parent (λ z. omega (arith, wide.0 (under C (node m false (fill l s r)) z), width_fill l s r))))

  -- ---- the violation is found

  fault_part : (s : Tree) → Represents c s → own_violation s ≡ 1 → (parent : ℕ) → (parent ≡ 0 → ⊥) → is_fault (node_at c (root s)) parent ≡ true
  fault_part (leaf m ks vs) r own parent q =
      fault_leaf (node_at c m) parent q (read_kind c m _ _ _ r.0)
      ∙ lt-ltb (length (leaf_pairs (node_at c m))) 2 (omega (arith, ap length (leaf_pairs_lem c m ks vs r), few_below (length (slot_pairs ks vs)) own))
  fault_part (node m true f) r own parent q = fault_tagged (node_at c m) parent q (read_kind c m _ _ _ r.0)
  fault_part (node m false f) r own parent q =
      let k = read_kind c m _ _ _ r.0 in
      fault_inner (node_at c m) parent q (λ e. omega (arith, k)) (λ e. omega (arith, k))
      ∙ lt-ltb (length (children (node_at c m))) 2 (omega (arith, children_on_card c key m false f r, few_below (length (roots f)) (omega arith)))

  -- a search that comes to it stops there
  stops_at : (levels : ℕ) (s : Tree) → Represents c s → (p : Position) → p.node ≡ root s → is_fault (node_at c p.node) p.parent ≡ true → end_of c true (way_from c n key levels p) ≡ EndFault p
  stops_at levels (leaf m ks vs) r p e f = ap (end_of c true) (way_at_leaf c n key len levels m ks vs r p e) ∙ end_start c true _ ∙ end_leaf_fault c true 0 p f
  stops_at levels (node m g f) r p e q = fault_at c n key true levels p (rw e (look_at_node c n key len m g f r)) q

  -- the search by a key finds the violation on the key's path, where no node above it is one
  pub seek_violation : (levels : ℕ) (C : Context) (s : Tree) → Holds c (plug C s) → below C → OnPath key C → WideAbove C
      → own_violation s ≡ 1 → depth_of C ≤ levels → seek c n key levels (root_position (get_or c 4 0)) ≡ SearchViolation (position_of C s)
  unfolding seek search_of
  seek_violation levels C s w b p wide own d =
      let u = unplugged c C s w in
      let left : ℕ = levels - depth_of C in
      ap (λ (x : ℕ). search_of (end_of c true (way_from c n key x (root_position (get_or c 4 0))))) (let z : levels ≡ depth_of C + (levels - depth_of C) = omega arith in z)
      ∙ ap (λ (x : Way). search_of (end_of c true x)) (way_path c n key len left C s w (path_leads key C p))
      ∙ no_fault_above C s (way_from c n key left (position_of C s)) w (path_untagged key C p) wide
      ∙ ap search_of (stops_at left s u.1 (position_of C s) (position_node C s) (rw (position_node C s) (fault_part s u.1 own (position_of C s).parent (parent_there c C s u.0 b))))

  -- the violation of a table that has one is found by every key that leads to it
  pub violation_found : (levels : ℕ) (t : Tree) → Holds c t → RootOk t → table_violations t ≡ 1 → depth t ≤ levels → (v : Violation t key)
      → seek c n key levels (root_position (get_or c 4 0)) ≡ SearchViolation (position_of v.context v.part)
  violation_found levels t w ok count d v =
      seek_violation levels v.context v.part (subst (Holds c) v.is_tree w) v.inside v.on_path
      (sound_above v.context v.part (subst RootOk v.is_tree ok) (omega (arith, ap table_violations v.is_tree)) (omega (arith, own_violation_le v.part, v.own))).1
      v.own
      (omega (arith, depth_plug v.context v.part, ap depth v.is_tree))

  -- ---- nothing is found

  balanced_leaf : (levels m : ℕ) (ks vs : List ℕ) → Represents c (leaf m ks vs) → (p : Position) → p.node ≡ m → is_fault (node_at c m) p.parent ≡ false → seek c n key levels p ≡ SearchBalanced
  unfolding seek search_of
  balanced_leaf levels m ks vs r p e f = ap search_of (ap (end_of c true) (way_at_leaf c n key len levels m ks vs r p e) ∙ end_start c true _ ∙ end_leaf c true 0 p (rw e f))

  sound_leaf : (m : ℕ) (ks vs : List ℕ) → Represents c (leaf m ks vs) → violations (leaf m ks vs) ≡ 0 → (parent : ℕ) → (parent ≡ 0 → ⊥) → is_fault (node_at c m) parent ≡ false
  sound_leaf m ks vs r sound parent q =
      fault_leaf (node_at c m) parent q (read_kind c m _ _ _ r.0)
      ∙ le-ltb (length (leaf_pairs (node_at c m))) 2 (omega (arith, ap length (leaf_pairs_lem c m ks vs r), few_zero (length (slot_pairs ks vs)) sound))

  balanced_part : (levels : ℕ) (s : Tree) → Represents c s → violations s ≡ 0 → depth s ≤ levels → (p : Position) → p.node ≡ root s → (p.parent ≡ 0 → ⊥) → seek c n key levels p ≡ SearchBalanced
  balanced_part zero (leaf m ks vs) r sound d p e q = balanced_leaf zero m ks vs r p e (sound_leaf m ks vs r sound p.parent q)
  balanced_part (suc levels) (leaf m ks vs) r sound d p e q = balanced_leaf (suc levels) m ks vs r p e (sound_leaf m ks vs r sound p.parent q)
  balanced_part zero (node m g f) r sound d p e q = absurd (omega arith)
  balanced_part (suc levels) (node m true f) r sound d p e q = absurd (omega arith)
  balanced_part (suc levels) (node m false f) r sound d p e q =
      search_child levels m f r p e (λ z. few_zero (length (roots f)) (omega arith))
      ∙ balanced_part levels (child key f) (child_represents c key f r.1) (omega (arith, child_violations key f)) (omega (arith, child_depth key f)) _ refl (λ z. omega (arith, r.0.on.pos))

  -- in a table without violations every key's search ends in balance
  pub seek_balanced : (levels : ℕ) (t : Tree) → Holds c t → RootOk t → table_violations t ≡ 0 → depth t ≤ levels → seek c n key levels (root_position (get_or c 4 0)) ≡ SearchBalanced
  unfolding root_position
  seek_balanced levels (leaf m ks vs) w ok sound d =
      ap (λ (x : ℕ). seek c n key levels (root_position x)) w.0 ∙ balanced_leaf levels m ks vs w.2 (position m 4 0 0 0) refl (fault_root (node_at c m) 0 refl)
  seek_balanced levels (node m true f) w ok sound d = absurd ok
  seek_balanced zero (node m false f) w ok sound d = absurd (omega arith)
  seek_balanced (suc levels) (node m false f) w ok sound d =
      ap (λ (x : ℕ). seek c n key (suc levels) (root_position x)) w.0
      ∙ search_child levels m f w.2 (position m 4 0 0 0) refl (λ z. ok.0)
      ∙ balanced_part levels (child key f) (child_represents c key f w.2.1) (omega (arith, child_violations key f)) (omega (arith, child_depth key f)) _ refl (λ z. omega (arith, w.2.0.on.pos))
