-- Routing on the card is routing in the tree: where the card represents an internal node, the child that the code takes
-- is the child that the key leads to.
use mathlib.Core.Path.{◌≡◌, refl, ap, sym, ◌∙◌}
use mathlib.Core.List.{List, [], ◌∷◌}
use mathlib.Core.Bool.{Bool, true, false}
use mathlib.Core.Logic.{inl, inr}
use Prim.Native.Nat.{ℕ, suc, ◌+◌, ◌*◌, ◌≤◌, ◌<◌}
use native.Mathlib.Omega.{arith}
use lib.ListN.{length, get_or}
use borrow.Author.Tests.{lt-ltb, le-ltb}
use Rattle.card.specs.Layout.{node_at, kind_of, children}
use Rattle.card.proofs.NodeLaws.{node_word}
use Rattle.walk.specs.Descent.{passed, child_index, child_for}
use Rattle.walk.proofs.DescentLaws.{index_le, Internal, child_word}
use Rattle.laws.proofs.Cases.{order}
use Rattle.theory_tree.proofs.Pairs.{child, routing_roots}
use Rattle.theory_tree.proofs.Path.{Past, Short, OnPath}
use Rattle.theory_tree.proofs.Reading.{read_length, read_kind, node_children, node_routing, root_on_card}
use Rattle.theory_tree.specs.Represent.{kind, Represents}
use Rattle.theory_tree.specs.Tree.{Tree, Forest, root, roots, routing, node, one, more}
use Rattle.theory_tree.proofs.Tree.{Left, Right, fill, Context, rightmost, followed, top, down}

-- ---- in the tree

-- the key leads to the hole of the context, through tagged nodes or not
abbrev pub Leads : ℕ → Context → Type 0
Leads key top = Unit
Leads key (down C m g l r) = Past key l × Short key r × Leads key C

-- no node above the hole is tagged
abbrev pub Untagged : Context → Type 0
Untagged top = Unit
Untagged (down C m g l r) = (g ≡ false) × Untagged C

-- the two together are the path of a key
pub leads_on_path : (key : ℕ) (C : Context) → Leads key C → Untagged C → OnPath key C
leads_on_path key top p u = tt
leads_on_path key (down C m g l r) p u = (u.0, p.0, p.1, leads_on_path key C p.2 u.1)

pub path_leads : (key : ℕ) (C : Context) → OnPath key C → Leads key C
path_leads key top p = tt
path_leads key (down C m g l r) p = (p.1, p.2, path_leads key C p.3)

-- the children of a node, taken apart at the child that a key leads to
pub record Parted (key : ℕ) (f : Forest) : Type 0 where
  pub left : Left
  pub right : Right
  pub whole : fill left (child key f) right ≡ f
  pub past : Past key left
  pub short : Short key right

pub parted : (key : ℕ) (f : Forest) → Parted key f
parted key (one t) = record { left = []; right = rightmost; whole = refl; past = tt; short = tt }
parted key (more t x f) =
    order key x (λ o. record { left = []; right = followed x f; whole = rw (lt-ltb key x o); past = tt; short = o })
    (λ o. let p = parted key f in
    record {
      left = (t, x) ∷ p.left;
      right = p.right;
      whole = rw (le-ltb key x o) (ap (λ (g : Forest). more t x g) p.whole);
      past = (o, p.past);
      short = p.short;
    })

-- the child in a hole that the key leads to, and its number
pub child_fill : (key : ℕ) (l : Left) (t : Tree) (r : Right) → Past key l → Short key r → child key (fill l t r) ≡ t
child_fill key [] t rightmost p s = refl
child_fill key [] t (followed x f) p s = rw (lt-ltb key x s)
child_fill key (a ∷ l) t r p s = rw (le-ltb key a.1 p.0) (child_fill key l t r p.1 s)

pub passed_fill : (key : ℕ) (l : Left) (t : Tree) (r : Right) → Past key l → Short key r → passed (routing (fill l t r)) key ≡ length l
unfolding passed
passed_fill key [] t rightmost p s = refl
passed_fill key [] t (followed x f) p s = rw (lt-ltb key x s)
passed_fill key (a ∷ l) t r p s = rw (le-ltb key a.1 p.0) (ap suc (passed_fill key l t r p.1 s))

pub passed_child : (key : ℕ) (f : Forest) → get_or (roots f) (passed (routing f) key) 0 ≡ root (child key f)
unfolding passed
passed_child key (one t) = refl
passed_child key (more t x f) = order key x (λ o. rw (lt-ltb key x o)) (λ o. rw (le-ltb key x o) (passed_child key f))

-- ---- on the card

module _ (c : List ℕ) (key m : ℕ) (g : Bool) (f : Forest) (r : Represents c (node m g f)) where
  pub index_on_card : child_index (node_at c m) key ≡ passed (routing f) key
  unfolding child_index
  index_on_card = ap (λ (l : List ℕ). passed l key) (node_routing c m g f r)

  index_small : child_index (node_at c m) key ≤ 10
  index_small = index_le (node_at c m) key (read_length c m _ _ _ r.0)

  pub child_on_card : child_for (node_at c m) key ≡ root (child key f)
  child_on_card =
      let small = index_small in
      sym (child_word (node_at c m) key (child_index (node_at c m) key) refl)
      ∙ node_word c m (12 + child_index (node_at c m) key) (omega arith)
      ∙ r.0.high (child_index (node_at c m) key) (omega arith)
      ∙ ap (λ (i : ℕ). get_or (roots f) i 0) index_on_card
      ∙ passed_child key f

  pub children_on_card : length (children (node_at c m)) ≡ length (roots f)
  children_on_card = ap length (node_children c m g f r)

  pub some_children : 0 < length (children (node_at c m))
  some_children = omega (arith, children_on_card, routing_roots f)

  pub internal : Internal (node_at c m)
  internal = go g (read_kind c m _ _ _ r.0)
    where
      go : (b : Bool) → kind_of (node_at c m) ≡ kind b → Internal (node_at c m)
      go false e = inl e
      go true e = inr e

-- a number of the tree is a number of the card
pub number_on_card : (c : List ℕ) (n : ℕ) (t : Tree) → length c ≡ 8 + 24 * n → Represents c t → (0 < root t) × (root t ≤ n)
number_on_card c n t len r = let on = root_on_card c t r in (on.pos, omega (arith, on.fits))
