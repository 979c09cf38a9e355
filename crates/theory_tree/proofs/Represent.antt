-- The words that represent a tree, taken apart at a place in it; which stores leave a tree alone.
use mathlib.Core.Path.{◌≡◌, refl, ap, ◌∙◌}
use mathlib.Core.List.{List, [], ◌∷◌, ◌++◌}
use Prim.Native.Nat.{ℕ, ◌+◌, ◌≤◌}
use native.Mathlib.Omega.{arith}
use lib.ListN.{length, set, get_or, length-append, length-set}
use lib.Seq.{set-append_seam, get_or-set_same, get_or-set_other}
use Rattle.card.specs.Layout.{place, root_place}
use Rattle.card.specs.NodeWords.{NodeWords}
use Rattle.card.proofs.NodeWords.{node_words_high, Keeps, keeps_node, keeps_head}
use Rattle.laws.specs.Totals.{indicator}
use Rattle.laws.proofs.Totals.{indicator_same}
use Rattle.theory_tree.specs.Tree.{Tree, Forest, root, roots, routing, node_total, node_totals, leaf, node, one, more}
use Rattle.theory_tree.proofs.Tree.{Left, Right, fill, Context, plug, left_total, right_total, context_total, rightmost, followed, top, down}
use Rattle.theory_tree.specs.Represent.{kind, Represents, RepresentsAll, Holds}

abbrev pub RepresentsLeft : List ℕ → Left → Type 0
RepresentsLeft c [] = Unit
RepresentsLeft c (a ∷ l) = Represents c a.0 × RepresentsLeft c l

abbrev pub RepresentsRight : List ℕ → Right → Type 0
RepresentsRight c rightmost = Unit
RepresentsRight c (followed k f) = RepresentsAll c f

abbrev pub roots_left : Left → List ℕ
roots_left [] = []
roots_left (a ∷ l) = root a.0 ∷ roots_left l

abbrev pub roots_right : Right → List ℕ
roots_right rightmost = []
roots_right (followed k f) = roots f

abbrev pub routing_left : Left → List ℕ
routing_left [] = []
routing_left (a ∷ l) = a.1 ∷ routing_left l

abbrev pub routing_right : Right → List ℕ
routing_right rightmost = []
routing_right (followed k f) = k ∷ routing f

-- the card holds all of the tree but the hole, and the link to the hole is x
abbrev pub RepresentsContext : List ℕ → Context → ℕ → Type 0
RepresentsContext c top x = (get_or c root_place 0 ≡ x) × (8 ≤ length c)
RepresentsContext c (down C m g l r) x =
    NodeWords c m (kind g) (routing_left l ++ routing_right r) (roots_left l ++ x ∷ roots_right r) × RepresentsLeft c l × RepresentsRight c r
    × RepresentsContext c C m × (length (roots_left l ++ x ∷ roots_right r) ≤ 11)

-- where the link to the hole stands
abbrev pub link_place : Context → ℕ
link_place top = root_place
link_place (down C m g l r) = place m (12 + length (roots_left l))

module _ (c c' : List ℕ) (w : ℕ → ℕ) (keep : Keeps c c' w) where
  mutual
    pub frame : (t : Tree) → node_total w t ≡ 0 → Represents c t → Represents c' t
    frame (leaf m ks vs) d r = (keep m _ _ _ d r.0, r.1, r.2)
    frame (node m g f) d r = (keep m _ _ _ (omega arith) r.0, frames f (omega arith) r.1, r.2)

    pub frames : (f : Forest) → node_totals w f ≡ 0 → RepresentsAll c f → RepresentsAll c' f
    frames (one t) d r = frame t d r
    frames (more t k f) d r = (frame t (omega arith) r.0, frames f (omega arith) r.1)

  pub frame_left : (l : Left) → left_total w l ≡ 0 → RepresentsLeft c l → RepresentsLeft c' l
  frame_left [] d r = tt
  frame_left (a ∷ l) d r = (frame a.0 (omega arith) r.0, frame_left l (omega arith) r.1)

  pub frame_right : (r : Right) → right_total w r ≡ 0 → RepresentsRight c r → RepresentsRight c' r
  frame_right rightmost d r = tt
  frame_right (followed k f) d r = frames f d r

  pub frame_context : get_or c' root_place 0 ≡ get_or c root_place 0 → length c' ≡ length c → (C : Context) (x : ℕ) → context_total w C ≡ 0 → RepresentsContext c C x → RepresentsContext c' C x
  frame_context h4 hl top x d r = (h4 ∙ r.0, omega arith)
  frame_context h4 hl (down C m g l r) x d p = (
    keep m _ _ _ (omega arith) p.0,
    frame_left l (omega arith) p.1,
    frame_right r (omega arith) p.2,
    frame_context h4 hl C m (omega arith) p.3,
    p.4,
  )

-- weight 0 everywhere
mutual
  pub total_zero : (t : Tree) → node_total (λ m. 0) t ≡ 0
  total_zero (leaf m ks vs) = refl
  total_zero (node m g f) = omega (arith, totals_zero f)

  pub totals_zero : (f : Forest) → node_totals (λ m. 0) f ≡ 0
  totals_zero (one t) = total_zero t
  totals_zero (more t k f) = omega (arith, total_zero t, totals_zero f)

-- the tree with its hole filled, apart and together
pub roots_fill : (l : Left) (t : Tree) (r : Right) → roots (fill l t r) ≡ roots_left l ++ root t ∷ roots_right r
roots_fill [] t rightmost = refl
roots_fill [] t (followed k f) = refl
roots_fill (a ∷ l) t r = ap (λ (x : List ℕ). root a.0 ∷ x) (roots_fill l t r)

pub routing_fill : (l : Left) (t : Tree) (r : Right) → routing (fill l t r) ≡ routing_left l ++ routing_right r
routing_fill [] t rightmost = refl
routing_fill [] t (followed k f) = refl
routing_fill (a ∷ l) t r = ap (λ (x : List ℕ). a.1 ∷ x) (routing_fill l t r)

module _ (c : List ℕ) where
  pub represents_fill : (l : Left) (t : Tree) (r : Right) → RepresentsLeft c l → Represents c t → RepresentsRight c r → RepresentsAll c (fill l t r)
  represents_fill [] t rightmost p q s = q
  represents_fill [] t (followed k f) p q s = (q, s)
  represents_fill (a ∷ l) t r p q s = (p.0, represents_fill l t r p.1 q s)

  pub represents_unfill : (l : Left) (t : Tree) (r : Right) → RepresentsAll c (fill l t r) → RepresentsLeft c l × Represents c t × RepresentsRight c r
  represents_unfill [] t rightmost p = (tt, p, tt)
  represents_unfill [] t (followed k f) p = (tt, p.0, p.1)
  represents_unfill (a ∷ l) t r p = let q = represents_unfill l t r p.1 in ((p.0, q.0), q.1, q.2)

  pub plugged : (C : Context) (t : Tree) → RepresentsContext c C (root t) → Represents c t → Holds c (plug C t)
  plugged top t p q = (p.0, p.1, q)
  plugged (down C m g l r) t p q = plugged C _ p.3 (rw (roots_fill, routing_fill) p.0, represents_fill l t r p.1 q p.2, rw roots_fill p.4)

  pub unplugged : (C : Context) (t : Tree) → Holds c (plug C t) → RepresentsContext c C (root t) × Represents c t
  unplugged top t p = ((p.0, p.1), p.2)
  unplugged (down C m g l r) t p =
      let q = unplugged C _ p in
      let s = represents_unfill l t r q.1.1 in
      ((rw (roots_fill, routing_fill) at q.1.0, s.0, s.2, q.0, rw roots_fill at q.1.2), s.1)

-- the link is stored anew
module _ (c : List ℕ) (y : ℕ) where
  pub relink : (C : Context) (x : ℕ) → ((i : ℕ) → context_total (indicator i) C ≤ 1) → RepresentsContext c C x → RepresentsContext (set c (link_place C) y) C y
  relink top x d p = (get_or-set_same c 4 y 0 (omega arith), rw length-set p.1)
  relink (down C m g l r) x d p =
      let nx = length-append (roots_left l) (x ∷ roots_right r) in
      let ny = length-append (roots_left l) (y ∷ roots_right r) in
      let dm = d m in
      let sm = indicator_same m in
      let hm = p.0.on.pos in
      let kp = keeps_node c m (12 + length (roots_left l)) y hm (omega arith) in (
        rw (← set-append_seam (roots_left l) x (roots_right r) y) (node_words_high c m _ y (omega arith) (omega arith) p.0),
        frame_left c _ (indicator m) kp l (omega arith) p.1,
        frame_right c _ (indicator m) kp r (omega arith) p.2,
        frame_context c _ (indicator m) kp (get_or-set_other c _ 4 y 0 (omega arith)) (simp length-set) C m (omega arith) p.3,
        omega arith,
      )

-- the store at the link, seen by a tree that has not the link's node
pub frame_link : (c : List ℕ) (y : ℕ) (C : Context) (x : ℕ) (s : Tree) → RepresentsContext c C x
    → ((i : ℕ) → context_total (indicator i) C + node_total (indicator i) s ≤ 1) → Represents c s → Represents (set c (link_place C) y) s
frame_link c y top x s p d q = frame c _ (λ m. 0) (keeps_head c 4 y (omega arith)) s (total_zero s) q
frame_link c y (down C m g l r) x s p d q =
    let dm = d m in
    let sm = indicator_same m in
    let nx = length-append (roots_left l) (x ∷ roots_right r) in
    frame c _ (indicator m) (keeps_node c m _ y p.0.on.pos (omega arith)) s (omega arith) q

-- THE LINK: one store puts s' for s
pub replaced : (c : List ℕ) (C : Context) (s s' : Tree) → ((i : ℕ) → context_total (indicator i) C + node_total (indicator i) s' ≤ 1)
    → Holds c (plug C s) → Represents c s' → Holds (set c (link_place C) (root s')) (plug C s')
replaced c C s s' d w q =
    let u = unplugged c C s w in
    plugged (set c (link_place C) (root s')) C s' (relink c (root s') C (root s) (λ i. omega (arith, d i)) u.0) (frame_link c (root s') C (root s) s' u.0 d q)
