-- Laws of a tree's pairs and of look-up in them.
use mathlib.Core.Path.{◌≡◌, refl, ap, sym, ◌∙◌}
use mathlib.Core.List.{List, [], ◌∷◌, ◌++◌}
use mathlib.Core.Bool.{Bool, true, false}
use mathlib.Core.Option.{Option, none, some}
use mathlib.Core.Logic.{◌⊎◌, inl, inr, ⊎_map}
use Prim.Native.Nat.{ℕ, zero, suc, ◌+◌, ◌≤◌, ◌<◌, max}
use native.Mathlib.Omega.{arith}
use native.Mathlib.Decide.{ℕ_discrete}
use lib.ListN.{length, set, get_or}
use lib.Dec.{ltb, eqb}
use borrow.Author.Tests.{lt-ltb, le-ltb, ne_eqb}
use Rattle.card.specs.Layout.{slot_pairs}
use Rattle.laws.proofs.Cases.{bool_cases, order}
use Rattle.laws.specs.Cases.{pick}
use Rattle.laws.specs.Totals.{total}
use Rattle.laws.proofs.Totals.{indicator_other, indicator_zero, indicator_le, total_append, total_le}
use Rattle.theory_tree.specs.Represent.{Represents, RepresentsAll}
use Rattle.theory_tree.specs.Tree.{Tree, Forest, root, roots, routing, leaf, node, one, more}
use Rattle.theory_tree.specs.Pairs.{pairs, forest_pairs, lookup, has_key, outside, LeafRange}

-- stores in a leaf
module _ (w : ℕ × ℕ → ℕ) where
  pub slot_pairs_value : (ks vs : List ℕ) (i v : ℕ) → get_or ks i 0 ≡ 0 → total w (slot_pairs ks (set vs i v)) ≡ total w (slot_pairs ks vs)
  slot_pairs_value [] vs i v e = refl
  slot_pairs_value (k ∷ ks) [] i v e = refl
  slot_pairs_value (zero ∷ ks) (x ∷ vs) zero v e = refl
  slot_pairs_value (suc k ∷ ks) (x ∷ vs) zero v e = omega arith
  slot_pairs_value (zero ∷ ks) (x ∷ vs) (suc i) v e = slot_pairs_value ks vs i v e
  slot_pairs_value (suc k ∷ ks) (x ∷ vs) (suc i) v e = omega (arith, slot_pairs_value ks vs i v e)

  pub slot_pairs_key : (ks vs : List ℕ) (i k : ℕ) → get_or ks i 0 ≡ 0 → i < length ks → length ks ≡ length vs
      → total w (slot_pairs (set ks i (suc k)) vs) ≡ w (suc k, get_or vs i 0) + total w (slot_pairs ks vs)
  slot_pairs_key [] vs i k e h n = omega arith
  slot_pairs_key (x ∷ ks) [] i k e h n = omega arith
  slot_pairs_key (zero ∷ ks) (x ∷ vs) zero k e h n = refl
  slot_pairs_key (suc y ∷ ks) (x ∷ vs) zero k e h n = omega arith
  slot_pairs_key (zero ∷ ks) (x ∷ vs) (suc i) k e h n = slot_pairs_key ks vs i k e (omega arith) (omega arith)
  slot_pairs_key (suc y ∷ ks) (x ∷ vs) (suc i) k e h n = omega (arith, slot_pairs_key ks vs i k e (omega arith) (omega arith))

abbrev pub or_else : Option ℕ → Option ℕ → Option ℕ
or_else none b = b
or_else (some x) b = some x

pub lookup_append : (k : ℕ) (a b : List (ℕ × ℕ)) → lookup k (a ++ b) ≡ or_else (lookup k a) (lookup k b)
lookup_append k [] b = refl
lookup_append k (p ∷ a) b = go (eqb k p.0) (lookup_append k a b)
  where
    go : (t : Bool) → lookup k (a ++ b) ≡ or_else (lookup k a) (lookup k b) → pick t (some p.1) (lookup k (a ++ b)) ≡ or_else (pick t (some p.1) (lookup k a)) (lookup k b)
    go true e = refl
    go false e = e

pub lookup_none : (k : ℕ) (a : List (ℕ × ℕ)) → total (has_key k) a ≡ 0 → lookup k a ≡ none
lookup_none k [] h = refl
lookup_none k (p ∷ a) h = rw (ne_eqb k p.0 (λ e. omega (arith, indicator_zero k p.0 (omega arith) (sym e)))) (lookup_none k a (omega arith))

abbrev mutual
  pub InRange : ℕ → ℕ → Tree → Type 0
  InRange lo hi (leaf m ks vs) = LeafRange lo hi (slot_pairs ks vs)
  InRange lo hi (node m g f) = AllInRange lo hi f

  pub AllInRange : ℕ → ℕ → Forest → Type 0
  AllInRange lo hi (one t) = InRange lo hi t
  AllInRange lo hi (more t k f) = InRange lo k t × (lo < k) × (k < hi) × AllInRange k hi f

-- a key out of range is nowhere in the tree

pub has_outside : (lo hi k : ℕ) → (k < lo) ⊎ (hi ≤ k) → (p : ℕ × ℕ) → has_key k p ≤ outside lo hi p
has_outside lo hi k o p = go (ℕ_discrete k p.0) o
  where
    go : Dec (k ≡ p.0) → (k < lo) ⊎ (hi ≤ k) → has_key k p ≤ outside lo hi p
    go (no d) c = rw (indicator_other k p.0 d) (omega arith)
    go (yes e) (inl c) = rw (lt-ltb p.0 lo (omega arith)) (indicator_le k p.0)
    go (yes e) (inr c) = bool_cases (ltb p.0 lo) (λ b. rw b (indicator_le k p.0)) (λ b. rw (b, le-ltb p.0 hi (omega arith)) (indicator_le k p.0))

mutual
  pub absent : (lo hi k : ℕ) → (k < lo) ⊎ (hi ≤ k) → (t : Tree) → InRange lo hi t → total (has_key k) (pairs t) ≡ 0
  absent lo hi k o (leaf m ks vs) h = omega (arith, total_le (has_key k) (outside lo hi) (has_outside lo hi k o) (slot_pairs ks vs), h.inside)
  absent lo hi k o (node m g f) h = absents lo hi k o f h

  pub absents : (lo hi k : ℕ) → (k < lo) ⊎ (hi ≤ k) → (f : Forest) → AllInRange lo hi f → total (has_key k) (forest_pairs f) ≡ 0
  absents lo hi k o (one t) h = absent lo hi k o t h
  absents lo hi k o (more t r f) h =
      omega (
        arith,
        total_append (has_key k) (pairs t) (forest_pairs f),
        absent lo r k (⊎_map (λ a. a) (λ a. omega arith) o) t h.0,
        absents r hi k (⊎_map (λ a. omega arith) (λ a. a) o) f h.3,
      )

-- the child that a key leads to
abbrev pub child : ℕ → Forest → Tree
child k (one t) = t
child k (more t r f) = pick (ltb k r) t (child k f)

pub lookup_child : (lo hi k : ℕ) (f : Forest) → AllInRange lo hi f → lookup k (forest_pairs f) ≡ lookup k (pairs (child k f))
lookup_child lo hi k (one t) h = refl
lookup_child lo hi k (more t r f) h =
    lookup_append k (pairs t) (forest_pairs f)
    ∙ order k r
    (λ o. rw (lt-ltb k r o, lookup_none k (forest_pairs f) (absents r hi k (inl o) f h.3)) (else_none _))
    (λ o. rw (le-ltb k r o, lookup_none k (pairs t) (absent lo r k (inr o) t h.0)) (lookup_child r hi k f h.3))
  where
    else_none : (a : Option ℕ) → or_else a none ≡ a
    else_none none = refl
    else_none (some x) = refl

abbrev mutual
  pub depth : Tree → ℕ
  depth (leaf m ks vs) = 0
  depth (node m g f) = suc (depths f)

  pub depths : Forest → ℕ
  depths (one t) = depth t
  depths (more t k f) = max (depth t) (depths f)

-- one slot more
pub slot_pairs_head : (k x v : ℕ) (ks vs : List ℕ) → 0 < k → lookup k (slot_pairs (x ∷ ks) (v ∷ vs)) ≡ pick (eqb k x) (some v) (lookup k (slot_pairs ks vs))
slot_pairs_head k zero v ks vs hk = rw (ne_eqb k 0 (λ e. omega arith))
slot_pairs_head k (suc x) v ks vs hk = refl

pub root_positive : (c : List ℕ) (t : Tree) → Represents c t → 0 < root t
root_positive c (leaf m ks vs) r = r.0.on.pos
root_positive c (node m g f) r = r.0.on.pos

pub child_in : (k lo hi : ℕ) (f : Forest) → AllInRange lo hi f → lo ≤ k → k < hi → (l : ℕ) × (h : ℕ) × InRange l h (child k f) × (l ≤ k) × (k < h)
child_in k lo hi (one t) i l h = (lo, hi, i, l, h)
child_in k lo hi (more t x f) i l h = order k x (λ o. rw (lt-ltb k x o) (lo, x, i.0, l, o)) (λ o. rw (le-ltb k x o) (child_in k x hi f i.3 o h))

pub child_represents : (c : List ℕ) (k : ℕ) (f : Forest) → RepresentsAll c f → Represents c (child k f)
child_represents c k (one t) r = r
child_represents c k (more t x f) r = order k x (λ o. rw (lt-ltb k x o) r.0) (λ o. rw (le-ltb k x o) (child_represents c k f r.1))

pub child_depth : (k : ℕ) (f : Forest) → depth (child k f) ≤ depths f
child_depth k (one t) = omega arith
child_depth k (more t x f) = order k x (λ o. rw (lt-ltb k x o) (omega arith)) (λ o. rw (le-ltb k x o) (omega (arith, child_depth k f)))

pub routing_roots : (f : Forest) → length (roots f) ≡ suc (length (routing f))
routing_roots (one t) = refl
routing_roots (more t k f) = ap suc (routing_roots f)
