-- What holds at the start of a way, and is handed on to the child that the key takes, holds all along the way.
use mathlib.Core.Path.{◌≡◌, refl, sym, ◌∙◌, subst}
use mathlib.Core.Bool.{Bool, true, ◌&&◌}
use mathlib.Core.List.{List, [], ◌∷◌, ◌++◌}
use mathlib.Core.Option.{Option as Maybe, none, some}
use Prim.Native.Nat.{ℕ, zero, suc, ◌+◌, ◌≤◌, ◌<◌}
use native.Mathlib.Omega.{arith}
use native.Mathlib.Decide.{ℕ_discrete}
use lib.ListN.{length, get_or}
use lib.Dec.{eqb}
use Rattle.card.specs.Layout.{depth_limit, root_place, node_at, children, run_below}
use Rattle.walk.specs.Descent.{look_at, root_position, child_position, Way, nowhere, past, way_from, way, run_over, is_fault, first_fault, ended, to_list, end_of, reached_at}
use Rattle.walk.specs.Descent.{leaf_of, depth_of, beside_by}
use Rattle.walk.proofs.DescentLaws.{Inside, leaf_inside, way_nowhere, way_leaf, way_childless, way_too_deep, way_down, leaf_reached, same_reached, leaf_beside, beside_told}
use Rattle.laws.specs.Cases.{pick}
use Rattle.laws.proofs.Cases.{bool_cases, and_true, impossible}
use Rattle.walk.specs.declared.Position.{Position}
use Rattle.walk.specs.declared.Look.{Look}
use Rattle.walk.specs.declared.Look.TheVariants.{Nowhere, Leaf as IsLeaf, Inner as IsInner}
use Rattle.walk.specs.declared.End.{End}
use Rattle.walk.specs.declared.End.TheVariants.{Leaf as EndLeaf, Fault as EndFault}

-- of each position of a list
abbrev pub All : (Position → Type 0) → List Position → Type 0
All P [] = Unit
All P (p ∷ ps) = P p × All P ps

module _ (card : List ℕ) (n : ℕ) (P : Position → Type 0) where
  pub record Along (levels : ℕ) (w : Way) : Type 0 where
    pub inner : All (λ q. P q × (look_at card n q.node ≡ IsInner)) w.inner
    pub leaf : (q : Position) → w.leaf ≡ some q → P q × (look_at card n q.node ≡ IsLeaf)
    -- "more than 10 internal nodes" do not stand above a leaf that is reached
    pub short : (q : Position) → w.leaf ≡ some q → length w.inner ≤ levels

  no_leaf : {A : Type 0} (q : Position) → ◌≡◌ {A = Maybe Position} none (some q) → A
  no_leaf q e = impossible (cc)

  along_nowhere : (levels : ℕ) → Along levels nowhere
  along_nowhere levels = record { inner = tt; leaf = λ q e. no_leaf q e; short = λ q e. no_leaf q e }

  along_past : (levels : ℕ) (p : Position) (w : Way) → P p → look_at card n p.node ≡ IsInner → Along levels w → Along (suc levels) (past p w)
  unfolding past
  along_past levels p w h e a = record { inner = ((h, e), a.inner); leaf = a.leaf; short = λ q l. omega (arith, a.short q l) }

  along_stop : (levels : ℕ) (p : Position) → P p → look_at card n p.node ≡ IsInner → Along levels (past p nowhere)
  unfolding past
  along_stop levels p h e = record { inner = ((h, e), tt); leaf = λ q l. no_leaf q l; short = λ q l. no_leaf q l }

  along_leaf : (levels : ℕ) (p : Position) → P p → look_at card n p.node ≡ IsLeaf → Along levels (record { inner = []; leaf = some p })
  along_leaf levels p h e =
      record {
        inner = tt;
        leaf = λ q l. let z : p ≡ q = cc in subst (λ (x : Position). P x × (look_at card n x.node ≡ IsLeaf)) z (h, e);
        short = λ q l. omega arith;
      }

  module _ (key : ℕ)
      (on : (q : Position) → P q → look_at card n q.node ≡ IsInner → 0 < length (children (node_at card q.node)) → P (child_position (node_at card q.node) key q)) where
    pub along : (levels : ℕ) (p : Position) → P p → Along levels (way_from card n key levels p)
    along zero p h = go (look_at card n p.node) refl
      where
        go : (x : Look) → look_at card n p.node ≡ x → Along zero (way_from card n key zero p)
        go Nowhere e = subst (Along zero) (sym (way_nowhere card n key p zero e)) (along_nowhere zero)
        go IsLeaf e = subst (Along zero) (sym (way_leaf card n key p zero e)) (along_leaf zero p h e)
        go IsInner e = subst (Along zero) (sym (way_too_deep card n key p e)) (along_stop zero p h e)
    along (suc levels) p h = go (λ q k. along levels q k) (look_at card n p.node) refl
      where
        inner : ((q : Position) → P q → Along levels (way_from card n key levels q)) → look_at card n p.node ≡ IsInner
            → Dec (length (children (node_at card p.node)) ≡ 0) → Along (suc levels) (way_from card n key (suc levels) p)
        inner ih e (yes z) = subst (Along (suc levels)) (sym (way_childless card n key p (suc levels) e z)) (along_stop (suc levels) p h e)
        inner ih e (no z) =
            let some_child : 0 < length (children (node_at card p.node)) = omega arith in
            subst (Along (suc levels)) (sym (way_down card n key p levels e some_child)) (along_past levels p _ h e (ih (child_position (node_at card p.node) key p) (on p h e some_child)))

        go : ((q : Position) → P q → Along levels (way_from card n key levels q)) → (x : Look) → look_at card n p.node ≡ x → Along (suc levels) (way_from card n key (suc levels) p)
        go ih Nowhere e = subst (Along (suc levels)) (sym (way_nowhere card n key p (suc levels) e)) (along_nowhere (suc levels))
        go ih IsLeaf e = subst (Along (suc levels)) (sym (way_leaf card n key p (suc levels) e)) (along_leaf (suc levels) p h e)
        go ih IsInner e = inner ih e (ℕ_discrete (length (children (node_at card p.node))) 0)

  -- a fault on the way
  pub record FaultOn (q : Position) : Type 0 where
    pub holds : P q
    pub there : look_at card n q.node ≡ Nowhere → ⊥
    pub fault : is_fault (node_at card q.node) q.parent ≡ true

  found_first : (seeks : Bool) (p q : Position) (rest : End) → P p → (look_at card n p.node ≡ Nowhere → ⊥) → (rest ≡ EndFault q → FaultOn q)
      → pick (seeks && is_fault (node_at card p.node) p.parent) (EndFault p) rest ≡ EndFault q → FaultOn q
  found_first seeks p q rest h there later e =
      bool_cases (seeks && is_fault (node_at card p.node) p.parent)
      (λ yes. let f : EndFault p ≡ EndFault q = rw yes at e in
      let z : p ≡ q = cc in
      subst FaultOn z (record { holds = h; there = there; fault = (and_true seeks (is_fault (node_at card p.node) p.parent) yes).1 }))
      (λ no. later (rw no at e))

  fault_last : (seeks : Bool) (depth : ℕ) (l : Maybe Position) (q : Position) → ((x : Position) → l ≡ some x → P x × (look_at card n x.node ≡ IsLeaf))
      → first_fault card seeks (ended depth l) (to_list l) ≡ EndFault q → FaultOn q
  unfolding first_fault ended to_list
  fault_last seeks depth none q a e = impossible (cc)
  fault_last seeks depth (some p) q a e =
      let at = a p refl in
      found_first seeks p q (EndLeaf p depth) at.0 (λ z. let y = sym z ∙ at.1 in impossible (cc)) (λ z. impossible (cc)) e

  fault_among : (seeks : Bool) (end : End) (ps rest : List Position) (q : Position)
      → All (λ x. P x × (look_at card n x.node ≡ IsInner)) ps → (first_fault card seeks end rest ≡ EndFault q → FaultOn q)
      → first_fault card seeks end (ps ++ rest) ≡ EndFault q → FaultOn q
  unfolding first_fault
  fault_among seeks end [] rest q a last e = last e
  fault_among seeks end (p ∷ ps) rest q a last e =
      found_first seeks p q (first_fault card seeks end (ps ++ rest)) a.0.0 (λ z. let y = sym z ∙ a.0.1 in impossible (cc)) (λ z. fault_among seeks end ps rest q a.1 last z) e

  pub fault_along : (levels : ℕ) (w : Way) (seeks : Bool) (q : Position) → Along levels w → end_of card seeks w ≡ EndFault q → FaultOn q
  unfolding end_of
  fault_along levels w seeks q a e =
      fault_among seeks (ended (length w.inner) w.leaf) w.inner (to_list w.leaf) q a.inner
      (λ z. fault_last seeks (length w.inner) w.leaf q a.leaf z) e

-- each level passed adds at most one to the run of 11-child nodes above
run_short : (width above : ℕ) → run_below width above ≤ suc above
unfolding run_below
run_short width above = bool_cases (eqb width 11) (λ yes. rw yes (omega arith)) (λ no. rw no (omega arith))

pub run_over_le : (card : List ℕ) (run : ℕ) (ps : List Position) → run_over card run ps ≤ run + length ps
unfolding run_over
run_over_le card run [] = omega arith
run_over_le card run (p ∷ ps) =
    omega (arith, run_over_le card (run_below (length (children (node_at card p.node))) run) ps, run_short (length (children (node_at card p.node))) run)

-- a leaf that a way comes to is a node of the card
pub way_inside : (card : List ℕ) (n key levels : ℕ) (p q : Position) → (way_from card n key levels p).leaf ≡ some q → Inside n q.node
way_inside card n key levels p q e = leaf_inside card n q.node ((along card n (λ x. Unit {0}) key (λ x h l s. tt) levels p tt).leaf q e).1

pub reached_inside : (card : List ℕ) (n key levels : ℕ) (p : Position) (m depth : ℕ) → leaf_of (way_from card n key levels p) ≡ leaf_reached m depth → Inside n m
unfolding leaf_of reached_at
reached_inside card n key levels p m depth e = go (way_from card n key levels p).leaf (λ q h. way_inside card n key levels p q h) e
  where
    go : (l : Maybe Position) → ((q : Position) → l ≡ some q → Inside n q.node) → reached_at (length (way_from card n key levels p).inner) l ≡ leaf_reached m depth → Inside n m
    go none h z = impossible (cc)
    go (some q) h z = rw (same_reached _ _ _ _ z).0 at (h q refl)

-- "more than 10 internal nodes" do not stand above it
pub depth_le : (card : List ℕ) (n key levels : ℕ) (p : Position) → depth_of (leaf_of (way_from card n key levels p)) ≤ levels
unfolding depth_of leaf_of reached_at
depth_le card n key levels p = go (way_from card n key levels p).leaf (along card n (λ x. Unit {0}) key (λ x h l s. tt) levels p tt).short
  where
    go : (l : Maybe Position) → ((q : Position) → l ≡ some q → length (way_from card n key levels p).inner ≤ levels)
        → depth_of (reached_at (length (way_from card n key levels p).inner) l) ≤ levels
    go none h = omega arith
    go (some q) h = h q refl

pub way_depth_le : (card : List ℕ) (n key : ℕ) → depth_of (leaf_of (way card n key)) ≤ depth_limit
unfolding way
way_depth_le card n key = depth_le card n key depth_limit (root_position (get_or card root_place 0))

pub beside_inside : (card : List ℕ) (n key beside levels : ℕ) (p : Position) (m b depth : ℕ) → beside_by card key beside (way_from card n key levels p) ≡ leaf_beside m b depth → Inside n m
beside_inside card n key beside levels p m b depth q = reached_inside card n key levels p m depth (beside_told card key beside _ m b depth q).0
