-- The leaf that a number leads to, with its range: on the card, every number of the range leads to it, `beside_all` finds the part of the
-- tree that stands right after the way, and the leaf answers for the whole tree.
use mathlib.Core.Path.{◌≡◌, refl, ap, sym, ◌∙◌, subst}
use mathlib.Core.List.{List}
use mathlib.Core.Bool.{Bool}
use mathlib.Core.Option.{Option, none, some}
use Prim.Native.Nat.{ℕ, zero, suc, ◌+◌, ◌*◌, ◌≤◌, ◌<◌}
use mathlib.Core.Logic.{by_cases}
use native.Mathlib.Omega.{arith}
use native.Mathlib.Decide.{ℕ_discrete}
use lib.ListN.{length, get_or, get_or-eq_default}
use Rattle.card.specs.Layout.{place, node_at, leaf_pairs}
use Rattle.card.proofs.NodeLaws.{node_word}
use Rattle.laws.proofs.Cases.{order}
use Rattle.walk.specs.Descent.{passed, Way, past, way_from, reached_at, leaf_of, child_index, beside_after, beside_all}
use Rattle.walk.proofs.DescentLaws.{index_le, after_none, after_child}
use Rattle.walk.specs.declared.Position.{Position}
use Rattle.theory_walk.proofs.Way.{position, way_child, way_at_leaf}
use Rattle.theory_walk.proofs.Routing.{index_on_card, passed_child}
use Rattle.walk_next.specs.Successor.{least_above, found, next_in_leaf}
use Rattle.theory_next.proofs.ChildRange.{ChildRange, child_range, next_low, child_widths}
use Rattle.theory_tree.specs.Pairs.{pairs, lookup}
use Rattle.theory_tree.proofs.Pairs.{InRange, AllInRange, child, lookup_child, depth, child_represents, child_depth, root_positive, routing_roots}
use Rattle.theory_tree.proofs.Reading.{read_length, leaf_pairs_lem}
use Rattle.theory_tree.specs.Represent.{Represents}
use Rattle.theory_tree.specs.Tree.{Tree, Forest, root, roots, routing, leaf, node}
use Rattle.theory_tree.specs.Violations.{Widths}

-- what stands right after the way to a leaf of the part s, where that leaf's range, from low to high, ends before the one of s, at hi:
-- the part of s whose range begins there
pub record Neighbour (c : List ℕ) (n levels low high hi : ℕ) (s : Tree) : Type 0 where
  pub part : Tree
  pub end : ℕ
  pub above : high < end
  pub most : end ≤ hi
  pub represents : Represents c part
  pub range : InRange high end part
  pub shallow : depth part ≤ depth s
  pub widths : Widths s → Widths part
  pub answers : (x : ℕ) → high ≤ x → x < end → lookup x (pairs s) ≡ lookup x (pairs part)
  pub stands : (x beside : ℕ) (p : Position) → p.node ≡ root s → low ≤ x → x < high → beside_all c x beside (way_from c n x levels p).inner ≡ root part

-- the leaf that a key leads to from the part s, whose own range is from lo to hi, with at most so many levels left
pub record LeafOf (c : List ℕ) (n key levels lo hi : ℕ) (s : Tree) : Type 0 where
  pub low : ℕ
  pub high : ℕ
  pub from : low ≤ key
  pub until : key < high
  pub least : lo ≤ low
  pub most : high ≤ hi
  pub reached : Tree
  pub range : InRange low high reached
  -- "Other leaves have 1 to 11 pairs"
  pub filled : Widths s → 1 ≤ length (pairs reached)
  -- every number of the range leads to this leaf
  pub answers : (x : ℕ) → low ≤ x → x < high → lookup x (pairs s) ≡ lookup x (pairs reached)
  -- nothing of s stands after the way, or a part of it
  pub last : high ≡ hi → (x beside : ℕ) (p : Position) → p.node ≡ root s → low ≤ x → x < high → beside_all c x beside (way_from c n x levels p).inner ≡ beside
  pub neighbour : high < hi → Neighbour c n levels low high hi s
  pub reads : (x after : ℕ) (p : Position) → p.node ≡ root s → low ≤ x → x < high → next_in_leaf c after (leaf_of (way_from c n x levels p)) ≡ found (least_above after (pairs reached))

-- the word after the child that a key takes is the next child's number, or 0: a node's last word is
after_on_card : (c : List ℕ) (key m : ℕ) (g : Bool) (f : Forest) → Represents c (node m g f)
    → get_or (node_at c m) (13 + child_index (node_at c m) key) 0 ≡ get_or (roots f) (suc (passed (routing f) key)) 0
after_on_card c key m g f r =
    let i = child_index (node_at c m) key in
    let e = index_on_card c key m g f r in
    order i 10
    (λ o. node_word c m (13 + i) (omega arith) ∙ ap (λ (x : ℕ). get_or c (place m x) 0) (let z : 13 + i ≡ 12 + suc i = omega arith in z)
    ∙ r.0.high (suc i) (omega arith) ∙ ap (λ (x : ℕ). get_or (roots f) (suc x) 0) e)
    (λ o. let z : 13 + i ≡ 23 = omega (arith, index_le (node_at c m) key (read_length c m _ _ _ r.0)) in
    ap (λ (x : ℕ). get_or (node_at c m) x 0) z ∙ node_word c m 23 (omega arith) ∙ r.0.last
    ∙ sym (get_or-eq_default (roots f) 0 {n = suc (passed (routing f) key)} (omega (arith, r.2))))

-- what stands right after the child that a key takes
module _ (c : List ℕ) (key lo hi m : ℕ) (g : Bool) (f : Forest) (r : Represents c (node m g f)) (d : ChildRange key lo hi f) (x beside : ℕ)
    (a : d.low ≤ x) (b : x < d.high) where
  beside_last : d.high ≡ hi → beside_after (node_at c m) (child_index (node_at c m) x) beside ≡ beside
  beside_last e =
      after_none (node_at c m) (child_index (node_at c m) x) beside (after_on_card c x m g f r
      ∙ get_or-eq_default (roots f) 0 {n = suc (passed (routing f) x)} (omega (arith, d.number x a b, d.last e, routing_roots f)))

  beside_next : d.high < hi → beside_after (node_at c m) (child_index (node_at c m) x) beside ≡ root (child d.high f)
  beside_next o =
      let word : get_or (node_at c m) (13 + child_index (node_at c m) x) 0 ≡ root (child d.high f) =
      after_on_card c x m g f r
      ∙ ap (λ (j : ℕ). get_or (roots f) j 0) (let z : suc (passed (routing f) x) ≡ passed (routing f) d.high = omega (arith, d.number x a b, d.next o) in z)
      ∙ passed_child d.high f in
      after_child (node_at c m) (child_index (node_at c m) x) beside (λ z. omega (arith, word, root_positive c (child d.high f) (child_represents c d.high f r.1))) ∙ word

-- the leaf is read the same below however many internal nodes
past_leaf : (c : List ℕ) (after : ℕ) (p : Position) (w : Way) → next_in_leaf c after (leaf_of (past p w)) ≡ next_in_leaf c after (leaf_of w)
unfolding next_in_leaf leaf_of reached_at past
past_leaf c after p w = go w.leaf
  where
    go : (l : Option Position) → next_in_leaf c after (reached_at (suc (length w.inner)) l) ≡ next_in_leaf c after (reached_at (length w.inner) l)
    go none = refl
    go (some q) = refl

module _ (c : List ℕ) (n key : ℕ) (len : length c ≡ 8 + 24 * n) where
  -- a leaf is come to at once
  at_leaf : (levels lo hi m : ℕ) (ks vs : List ℕ) → Represents c (leaf m ks vs) → InRange lo hi (leaf m ks vs) → lo ≤ key → key < hi → LeafOf c n key levels lo hi (leaf m ks vs)
  unfolding beside_all next_in_leaf leaf_of reached_at
  at_leaf levels lo hi m ks vs r i l h =
      record {
        low = lo;
        high = hi;
        from = l;
        until = h;
        least = omega arith;
        most = omega arith;
        reached = leaf m ks vs;
        range = i;
        filled = λ w. w;
        answers = λ x a b. refl;
        last = λ z x beside p e a b. ap (λ (w : Way). beside_all c x beside w.inner) (way_at_leaf c n x len levels m ks vs r p e);
        neighbour = λ o. absurd (omega arith);
        reads = λ x after p e a b.
            ap (λ (w : Way). next_in_leaf c after (leaf_of w)) (way_at_leaf c n x len levels m ks vs r p e)
            ∙ ap (λ (k : ℕ). found (least_above after (leaf_pairs (node_at c k)))) e
            ∙ ap (λ (ps : List (ℕ × ℕ)). found (least_above after ps)) (leaf_pairs_lem c m ks vs r);
      }

  -- through an internal node, by the child that the key takes
  module _ (levels lo hi m : ℕ) (g : Bool) (f : Forest) (r : Represents c (node m g f)) (i : AllInRange lo hi f) (d : ChildRange key lo hi f)
      (s : LeafOf c n key levels d.low d.high (child key f)) where
    abbrev below : ℕ → Position → Position
    below x p = position (root (child x f)) (place m (12 + passed (routing f) x)) m (passed (routing f) x) p.link

    alike : (x : ℕ) → s.low ≤ x → x < s.high → child x f ≡ child key f
    alike x a b = d.alike x (omega (arith, s.least)) (omega (arith, s.most))

    -- what stands after the way, by what stands after the child
    besides : (x beside : ℕ) (p : Position) → p.node ≡ m → beside_all c x beside (way_from c n x (suc levels) p).inner
        ≡ beside_all c x (beside_after (node_at c m) (child_index (node_at c m) x) beside) (way_from c n x levels (below x p)).inner
    unfolding beside_all past
    besides x beside p e =
        ap (λ (w : Way). beside_all c x beside w.inner) (way_child c n x len levels m g f r p e)
        ∙ ap (λ (k : ℕ). beside_all c x (beside_after (node_at c k) (child_index (node_at c k) x) beside) (way_from c n x levels (below x p)).inner) e

    -- the neighbour below the child
    neighbour_below : s.high < d.high → Neighbour c n (suc levels) s.low s.high hi (node m g f)
    neighbour_below o =
        let k = s.neighbour o in
        record {
          part = k.part;
          end = k.end;
          above = k.above;
          most = omega (arith, k.most, d.most);
          represents = k.represents;
          range = k.range;
          shallow = omega (arith, k.shallow, child_depth key f);
          widths = λ w. k.widths (child_widths key f w.1);
          answers = λ x a b.
              lookup_child lo hi x f i
              ∙ ap (λ (t : Tree). lookup x (pairs t)) (d.alike x (omega (arith, d.from, s.until)) (omega (arith, k.most)))
              ∙ k.answers x a b;
          stands = λ x beside p e a b. besides x beside p e ∙ k.stands x _ (below x p) (ap root (alike x a b)) a b;
        }

    -- the neighbour is the next child
    neighbour_next : s.high ≡ d.high → d.high < hi → Neighbour c n (suc levels) s.low s.high hi (node m g f)
    neighbour_next e o =
        let q = child_range d.high lo hi f i (omega (arith, d.least, d.from, d.until)) o in
        let low : q.low ≡ s.high = next_low key lo hi f d o q ∙ sym e in
        record {
          part = child d.high f;
          end = q.high;
          above = omega (arith, q.until);
          most = q.most;
          represents = child_represents c d.high f r.1;
          range = subst (λ (x : ℕ). InRange x q.high (child d.high f)) low q.part;
          shallow = omega (arith, child_depth d.high f);
          widths = λ w. child_widths d.high f w.1;
          answers = λ x a b. lookup_child lo hi x f i ∙ ap (λ (t : Tree). lookup x (pairs t)) (q.alike x (omega arith) b);
          stands = λ x beside p z a b.
              besides x beside p z ∙ s.last e x _ (below x p) (ap root (alike x a b)) a b
              ∙ beside_next c key lo hi m g f r d x beside (omega (arith, s.least)) (omega (arith, s.most)) o;
        }

    through : LeafOf c n key (suc levels) lo hi (node m g f)
    through =
        record {
          low = s.low;
          high = s.high;
          from = s.from;
          until = s.until;
          least = omega (arith, d.least, s.least);
          most = omega (arith, d.most, s.most);
          reached = s.reached;
          range = s.range;
          filled = λ w. s.filled (child_widths key f w.1);
          answers = λ x a b. lookup_child lo hi x f i ∙ ap (λ (t : Tree). lookup x (pairs t)) (alike x a b) ∙ s.answers x a b;
          last = λ z x beside p e a b.
              besides x beside p e ∙ s.last (omega (arith, d.most, s.most)) x _ (below x p) (ap root (alike x a b)) a b
              ∙ beside_last c key lo hi m g f r d x beside (omega (arith, s.least)) (omega (arith, s.most)) (omega (arith, d.most, s.most));
          neighbour = λ o.
              by_cases (ℕ_discrete s.high d.high) (λ e. neighbour_next e (omega arith)) (λ e. neighbour_below (omega (arith, s.most)));
          reads = λ x after p e a b.
              ap (λ (w : Way). next_in_leaf c after (leaf_of w)) (way_child c n x len levels m g f r p e)
              ∙ past_leaf c after p (way_from c n x levels (below x p))
              ∙ s.reads x after (below x p) (ap root (alike x a b)) a b;
        }

  pub leaf_of_lem : (levels lo hi : ℕ) (s : Tree) → Represents c s → InRange lo hi s → lo ≤ key → key < hi → depth s ≤ levels → LeafOf c n key levels lo hi s
  leaf_of_lem zero lo hi (leaf m ks vs) r i l h deep = at_leaf zero lo hi m ks vs r i l h
  leaf_of_lem zero lo hi (node m g f) r i l h deep = absurd (omega arith)
  leaf_of_lem (suc levels) lo hi (leaf m ks vs) r i l h deep = at_leaf (suc levels) lo hi m ks vs r i l h
  leaf_of_lem (suc levels) lo hi (node m g f) r i l h deep =
      let d = child_range key lo hi f i l h in
      through levels lo hi m g f r i d (leaf_of_lem levels d.low d.high (child key f) (child_represents c key f r.1) d.part d.from d.until (omega (arith, child_depth key f)))
