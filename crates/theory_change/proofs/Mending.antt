-- Which change is due (document 01, "The changes"): what the decision comes to on a card that represents a tree.
use mathlib.Core.Path.{◌≡◌, refl, ap, ◌∙◌}
use mathlib.Core.List.{List, [], ◌∷◌}
use mathlib.Core.Bool.{Bool, true, false, ◌&&◌}
use mathlib.Core.Logic.{◌⊎◌, inl, inr}
use Prim.Native.Nat.{ℕ, ◌+◌, ◌-◌, ◌*◌, ◌≤◌, ◌<◌}
use native.Mathlib.Omega.{arith}
use lib.ListN.{length}
use lib.Dec.{eqb}
use borrow.Author.Tests.{lt-ltb, le-leb, ne_eqb}
use Rattle.card.specs.Layout.{root_place, node_at, kind_of, children}
use Rattle.card.specs.NodeWords.{OnCard}
use Rattle.card.specs.Stores.{NewNode}
use Rattle.change_plan.specs.Change.{Change, kind_above, Together, share, merge, merge_root}
use Rattle.change_plan.specs.Planning.{giving, first, second, third}
use Rattle.change_decide.specs.Decide.{is_node, left_number, right_number, decide_siblings, decide_together}
use Rattle.change_decide.specs.declared.Decision.{Decision}
use Rattle.change_layout.specs.LayOut.{lay_out}
use Rattle.change_layout.proofs.Mending.{mend, mend_siblings_lem, share_due, merge_root_due, merge_due}
use Rattle.change_siblings.specs.Siblings.{together_at}
use Rattle.theory_change.proofs.Exchange.{Remains}
use Rattle.theory_shapes.proofs.Next.{tagged_in}
use Rattle.theory_change.proofs.Rewrite.{numbers, Rewrite}
use Rattle.theory_change.proofs.Siblings.{first_child, second_child, both_there, two_represented}
use Rattle.laws.proofs.Cases.{order, and_intro}
use Rattle.theory_shapes.proofs.Bare.{bare}
use Rattle.theory_tree.proofs.Path.{reserve}
use Rattle.theory_tree.proofs.Reading.{read_kind, root_on_card}
use Rattle.theory_tree.specs.Represent.{kind, Represents}
use Rattle.theory_tree.proofs.Represent.{link_place}
use Rattle.theory_tree.specs.Tree.{Tree, root, node, one, more}
use Rattle.theory_tree.proofs.Tree.{Left, Right, splice, Context, top, down}
use Rattle.walk.specs.declared.Position.{Position}

-- a violation stands at a position: the part s, child length l of node p, whose own link is that of the context C
pub record StandsAt (pos : Position) (C : Context) (p : ℕ) (l : Left) (s : Tree) : Type 0 where
  pub node_is : pos.node ≡ root s
  pub parent_is : pos.parent ≡ p
  pub index_is : pos.index ≡ length l
  pub above_is : pos.above ≡ link_place C

-- the change that puts a part in the place of the context: its new nodes, the new number linked, and the nodes cut out
abbrev pub rewrite_at : Context → List NewNode → ℕ → List ℕ → Change
rewrite_at C nodes number out = record { nodes = nodes; link = link_place C; top = number; cut = out }

-- The repair of the part o: so many numbers are given, the change over them is a rewrite of o, and with the nodes that it cuts
-- out the free nodes are enough for what the new part keeps in reserve, where spare was kept for the old one.
pub record Planned (c : List ℕ) (n : ℕ) (pos : Position) (free : List Bool) (last : ℕ) (C : Context) (o : Tree) (spare : ℕ) (due : Tree) : Type 0 where
  pub given : ℕ
  pub nodes : List ℕ → List NewNode
  pub part : List ℕ → Tree
  pub out : List ℕ
  pub planned : mend c n pos free last ≡ giving given free last (λ ms. rewrite_at C (nodes ms) (root (part ms)) out)
  pub rewrites : (ms : List ℕ) → Rewrite C o (part ms) (nodes ms) out
  pub at_most_three : given ≤ 3
  pub in_order : (ms : List ℕ) → length ms ≡ given → numbers (nodes ms) ≡ ms
  pub budget : (ms : List ℕ) → given + reserve C (part ms) ≤ length out + spare
  -- and without numbers the new part is the one due
  pub shaped : (ms : List ℕ) → bare (part ms) ≡ due

-- all of so many numbers, in their order
pub first_of : (ms : List ℕ) → length ms ≡ 1 → first ms ∷ [] ≡ ms
first_of [] e = absurd (omega arith)
first_of (a ∷ []) e = refl
first_of (a ∷ b ∷ ms) e = absurd (omega arith)

pub two_of : (ms : List ℕ) → length ms ≡ 2 → first ms ∷ second ms ∷ [] ≡ ms
two_of [] e = absurd (omega arith)
two_of (a ∷ ms) e = ap (λ (r : List ℕ). a ∷ r) (first_of ms (omega arith))

pub three_of : (ms : List ℕ) → length ms ≡ 3 → first ms ∷ second ms ∷ third ms ∷ [] ≡ ms
three_of [] e = absurd (omega arith)
three_of (a ∷ ms) e = ap (λ (r : List ℕ). a ∷ r) (two_of ms (omega arith))

-- the same change for all numbers given
pub giving_same : (k : ℕ) (free : List Bool) (last : ℕ) (f g : List ℕ → Change) → ((ms : List ℕ) → f ms ≡ g ms) → giving k free last f ≡ giving k free last g
giving_same k free last f g e = ap (giving k free last) (λ i ms. e ms i)

-- the kind of the node that a split puts above
pub kind_above_lem : (C : Context) → kind_above (link_place C) ≡ kind (tagged_in C)
unfolding kind_above
kind_above_lem top = refl
kind_above_lem (down C m g l r) = rw (ne_eqb (link_place (down C m g l r)) root_place (λ e. omega arith))

-- a node on the card of n nodes
pub is_node_lem : (c : List ℕ) (n m : ℕ) → length c ≡ 8 + 24 * n → OnCard c m → is_node n m ≡ true
unfolding is_node
is_node_lem c n m e o = and_intro (lt-ltb 0 m o.pos) (le-leb m n (omega (arith, o.fits)))

siblings_as : (pos : Position) {P Q X Y S T : List ℕ} → P ≡ Q → X ≡ Y → S ≡ T → decide_siblings pos P X S ≡ decide_siblings pos Q Y T
siblings_as pos e f g = rw (e, f, g)

-- Two children side by side, of which one, not tagged, is the violation: the two siblings decide.
pub siblings_decide : (c : List ℕ) (n : ℕ) (pos : Position) (free : List Bool) (last p : ℕ) (l : Left) (x : Tree) (k : ℕ) (y : Tree) (r : Right) (kd : ℕ)
    → length c ≡ 8 + 24 * n → Represents c (node p false (splice l (more x k (one y)) r)) → pos.parent ≡ p → pos.index - 1 ≡ length l → kind_of (node_at c pos.node) ≡ kd → kd < 3
    → mend c n pos free last ≡ lay_out c (decide_siblings pos (node_at c p) (node_at c (root x)) (node_at c (root y))) free last
siblings_decide c n pos free last p l x k y r kd e w ep ej kq h =
    let s = two_represented c p l x k y r (length l) refl w in
    let left : left_number (node_at c pos.parent) pos ≡ root x = rw (ep, ej) (first_child c p l x k y r (length l) refl w) in
    let right : right_number (node_at c pos.parent) pos ≡ root y = rw (ep, ej) (second_child c p l x k y r (length l) refl w) in
    mend_siblings_lem c n free last pos
    (rw ep (read_kind c p 2 _ _ w.0))
    (λ t. omega (arith, t, kq, h))
    (rw (ep, ej) (both_there c p l x k y r (length l) refl w))
    (rw left (is_node_lem c n (root x) e (root_on_card c x s.0)))
    (rw right (is_node_lem c n (root y) e (root_on_card c y s.1)))
    ∙ ap (λ (d : Decision). lay_out c d free last) (siblings_as pos (ap (node_at c) ep) (ap (node_at c) left) (ap (node_at c) right))

-- what two siblings hold together decides: shared out, merged, or merged into the root
module _ (c : List ℕ) (n : ℕ) (pos : Position) (free : List Bool) (last : ℕ) (P : List ℕ) (j : ℕ) (both : Together)
    (e_p : node_at c pos.parent ≡ P) (ej : pos.index - 1 ≡ j) (eb : together_at c pos ≡ both) where
  pub share_made : 4 ≤ length both.values → length both.values ≤ 12
      → lay_out c (decide_together pos P (length both.values)) free last ≡ giving 3 free last (λ ms. share pos P j both (first ms) (second ms) (third ms))
  share_made h o = rw (e_p, ej, eb) at (share_due c n free last pos (length both.values) h o)

  pub merge_root_made : length both.values ≤ 3 → pos.above ≡ root_place → length (children P) ≡ 2
      → lay_out c (decide_together pos P (length both.values)) free last ≡ giving 1 free last (λ ms. merge_root pos P j both (first ms))
  merge_root_made h e f = rw (e_p, ej, eb) at (merge_root_due c n free last pos (length both.values) h (rw (e_p, e, f)))

  pub merge_made : (C : Context) → length both.values ≤ 3 → pos.above ≡ link_place C → Remains C (length (children P))
      → lay_out c (decide_together pos P (length both.values)) free last ≡ giving 2 free last (λ ms. merge pos P j both (first ms) (second ms))
  merge_made C h e o = rw (e_p, ej, eb) at (merge_due c n free last pos (length both.values) h (rw (e_p, e) (not_that_root C (length (children P)) o)))
    where
      not_that_root : (C : Context) (n : ℕ) → Remains C n → (eqb (link_place C) root_place && eqb n 2) ≡ false
      not_that_root top n o = ne_eqb n 2 (λ e. omega arith)
      not_that_root (down C m g l r) n o = rw (ne_eqb (link_place (down C m g l r)) root_place (λ e. omega arith))

-- "if that parent is the root with 2 children", or not
pub root_of_two_lem : (C : Context) (m : ℕ) → 2 ≤ m → ((C ≡ top) × (m ≡ 2)) ⊎ Remains C m
root_of_two_lem top m h = order m 3 (λ o. inl (refl, omega arith)) (λ o. inr o)
root_of_two_lem (down C i g l r) m h = inr tt
