-- A key's way on the card is its way through the tree: it passes the nodes above the part that the key leads to, each at its position,
-- and goes on from that part.
use mathlib.Core.Path.{◌≡◌, refl, ap, ap₂, sym, ◌∙◌}
use mathlib.Core.List.{List, [], ◌∷◌, ◌++◌, append_assoc, append-nil}
use mathlib.Core.Bool.{Bool}
use mathlib.Core.Option.{some}
use Prim.Native.Nat.{ℕ, suc, ◌+◌, ◌-◌, ◌*◌, ◌≤◌}
use native.Mathlib.Omega.{arith}
use lib.ListN.{length, get_or, length-append}
use Rattle.card.specs.Layout.{root_place, depth_limit, place, node_at, children, run_below}
use Rattle.walk.specs.Descent.{passed, look_at, root_position, child_position, Way, past, way_from, way, run_over}
use Rattle.walk.proofs.DescentLaws.{look_leaf, look_inner, way_leaf, way_down}
use Rattle.theory_walk.proofs.Routing.{Leads, child_fill, passed_fill, index_on_card, child_on_card, children_on_card, some_children, internal, number_on_card}
use Rattle.theory_tree.proofs.Pairs.{child, depth, depths}
use Rattle.theory_tree.proofs.Path.{Past, Short, depth_of, full_run, width_fill}
use Rattle.theory_tree.proofs.Reading.{read_kind}
use Rattle.theory_tree.specs.Represent.{Represents, Holds}
use Rattle.theory_tree.proofs.Represent.{roots_left, link_place, unplugged}
use Rattle.theory_tree.proofs.Splice.{length_roots_left}
use Rattle.theory_tree.specs.Tree.{Tree, Forest, root, routing, leaf, node}
use Rattle.theory_tree.proofs.Tree.{Left, Right, fill, Context, plug, rightmost, followed, top, down}
use Rattle.walk.specs.declared.Position.{Position}
use Rattle.walk.specs.declared.Look.TheVariants.{Leaf as IsLeaf, Inner as IsInner}

-- a position, field by field
abbrev pub position : ℕ → ℕ → ℕ → ℕ → ℕ → Position
position number link parent index above = record { node = number; link = link; parent = parent; index = index; above = above }

-- the position of a part in its context, and those of the nodes above it
unfoldable pub position_of : Context → Tree → Position
position_of top s = root_position (root s)
position_of (down C m g l r) s = position (root s) (link_place (down C m g l r)) m (length l) (link_place C)

unfoldable pub positions_above : Context → Tree → List Position
positions_above top s = []
positions_above (down C m g l r) s = positions_above C (node m g (fill l s r)) ++ (position_of C (node m g (fill l s r)) ∷ [])

pub position_node : (C : Context) (s : Tree) → (position_of C s).node ≡ root s
unfolding position_of root_position
position_node top s = refl
position_node (down C m g l r) s = refl

pub position_link : (C : Context) (s : Tree) → (position_of C s).link ≡ link_place C
unfolding position_of root_position
position_link top s = refl
position_link (down C m g l r) s = refl

-- as many as there are levels
pub length_above : (C : Context) (s : Tree) → length (positions_above C s) ≡ depth_of C
unfolding positions_above
length_above top s = refl
length_above (down C m g l r) s =
    length-append (positions_above C (node m g (fill l s r))) (position_of C (node m g (fill l s r)) ∷ []) ∙ omega (arith, length_above C (node m g (fill l s r)))

-- a way that goes past these first
unfoldable pub past_all : List Position → Way → Way
past_all ps w = record { inner = ps ++ w.inner; leaf = w.leaf }

pub past_all_past : (ps : List Position) (p : Position) (w : Way) → past_all ps (past p w) ≡ past_all (ps ++ (p ∷ [])) w
unfolding past_all past
past_all_past ps p w = ap (λ (l : List Position). record { inner = l; leaf = w.leaf }) (sym (append_assoc ps (p ∷ []) w.inner))

-- where a number of the tree stands, and the child that a key takes there
module _ (c : List ℕ) (n key : ℕ) (len : length c ≡ 8 + 24 * n) where
  pub look_at_leaf : (m : ℕ) (ks vs : List ℕ) → Represents c (leaf m ks vs) → look_at c n m ≡ IsLeaf
  look_at_leaf m ks vs r =
      let on = number_on_card c n (leaf m ks vs) len r in
      look_leaf c n m (λ e. omega (arith, on.0)) on.1 (read_kind c m _ _ _ r.0)

  pub look_at_node : (m : ℕ) (g : Bool) (f : Forest) → Represents c (node m g f) → look_at c n m ≡ IsInner
  look_at_node m g f r =
      let on = number_on_card c n (node m g f) len r in
      look_inner c n m (λ e. omega (arith, on.0)) on.1 (internal c key m g f r)

  child_at_lem : (m : ℕ) (g : Bool) (f : Forest) → Represents c (node m g f) → (p : Position)
      → p.node ≡ m → child_position (node_at c p.node) key p ≡ position (root (child key f)) (place m (12 + passed (routing f) key)) m (passed (routing f) key) p.link
  unfolding child_position
  child_at_lem m g f r p e =
      rw e (ap₂ (λ (x i : ℕ). position x (place m (12 + i)) m i p.link) (child_on_card c key m g f r) (index_on_card c key m g f r))

  -- past a node, to the child that the key leads to
  pub way_child : (levels m : ℕ) (g : Bool) (f : Forest) → Represents c (node m g f) → (p : Position) → p.node ≡ m
      → way_from c n key (suc levels) p ≡ past p (way_from c n key levels (position (root (child key f)) (place m (12 + passed (routing f) key)) m (passed (routing f) key) p.link))
  way_child levels m g f r p e =
      way_down c n key p levels (rw e (look_at_node m g f r)) (rw e (some_children c key m g f r))
      ∙ ap (λ (q : Position). past p (way_from c n key levels q)) (child_at_lem m g f r p e)

  pub way_at_leaf : (levels m : ℕ) (ks vs : List ℕ) → Represents c (leaf m ks vs) → (p : Position) → p.node ≡ m → way_from c n key levels p ≡ record { inner = []; leaf = some p }
  way_at_leaf levels m ks vs r p e = way_leaf c n key p levels (rw e (look_at_leaf m ks vs r))

  way_step : (levels m : ℕ) (g : Bool) (C : Context) (l : Left) (s : Tree) (r : Right) → Represents c (node m g (fill l s r)) → Past key l → Short key r
      → way_from c n key (suc levels) (position_of C (node m g (fill l s r))) ≡ past (position_of C (node m g (fill l s r))) (way_from c n key levels (position_of (down C m g l r) s))
  unfolding position_of
  way_step levels m g C l s r on past_left short_right =
      way_child levels m g (fill l s r) on (position_of C (node m g (fill l s r))) (position_node C (node m g (fill l s r)))
      ∙ ap (λ (q : Position). past (position_of C (node m g (fill l s r))) (way_from c n key levels q)) (arrive (position_of C (node m g (fill l s r))).link (position_link C (node m g (fill l s r))))
    where
      arrive : (link : ℕ) → link ≡ link_place C
          → position (root (child key (fill l s r))) (place m (12 + passed (routing (fill l s r)) key)) m (passed (routing (fill l s r)) key) link
          ≡ position (root s) (place m (12 + length (roots_left l))) m (length l) (link_place C)
      arrive link e = rw (e, child_fill key l s r past_left short_right, passed_fill key l s r past_left short_right, length_roots_left l)

  -- the way goes down to every part that the key leads to
  pub way_path : (levels : ℕ) (C : Context) (s : Tree) → Holds c (plug C s) → Leads key C
      → way_from c n key (depth_of C + levels) (root_position (get_or c root_place 0)) ≡ past_all (positions_above C s) (way_from c n key levels (position_of C s))
  unfolding position_of positions_above past_all
  way_path levels top s w p = ap₂ (λ (x y : ℕ). way_from c n key x (root_position y)) (let z : 0 + levels ≡ levels = omega arith in z) w.0
  way_path levels (down C m g l r) s w p =
      let u = unplugged c C (node m g (fill l s r)) w in
      ap (λ (x : ℕ). way_from c n key x (root_position (get_or c root_place 0))) (let z : suc (depth_of C) + levels ≡ depth_of C + suc levels = omega arith in z)
      ∙ way_path (suc levels) C (node m g (fill l s r)) w p.2
      ∙ ap (past_all (positions_above C (node m g (fill l s r)))) (way_step levels m g C l s r u.1 p.0 p.1)
      ∙ past_all_past (positions_above C (node m g (fill l s r))) (position_of C (node m g (fill l s r))) (way_from c n key levels (position_of (down C m g l r) s))

  -- the whole way of a key that leads to a leaf
  pub way_to_leaf : (C : Context) (m : ℕ) (ks vs : List ℕ) → Holds c (plug C (leaf m ks vs)) → Leads key C → depth_of C ≤ depth_limit
      → way c n key ≡ record { inner = positions_above C (leaf m ks vs); leaf = some (position_of C (leaf m ks vs)) }
  unfolding way past_all
  way_to_leaf C m ks vs w p d =
      let u = unplugged c C (leaf m ks vs) w in
      ap (λ (x : ℕ). way_from c n key x (root_position (get_or c root_place 0))) (let z : depth_limit ≡ depth_of C + (depth_limit - depth_of C) = omega arith in z)
      ∙ way_path (depth_limit - depth_of C) C (leaf m ks vs) w p
      ∙ ap (past_all (positions_above C (leaf m ks vs))) (way_at_leaf (depth_limit - depth_of C) m ks vs u.1 (position_of C (leaf m ks vs)) (position_node C (leaf m ks vs)))
      ∙ ap (λ (l : List Position). record { inner = l; leaf = some (position_of C (leaf m ks vs)) }) (append-nil (positions_above C (leaf m ks vs)))

-- ---- the 11-child nodes above the part

run_append : (c : List ℕ) (run : ℕ) (ps : List Position) (p : Position) → run_over c run (ps ++ (p ∷ [])) ≡ run_below (length (children (node_at c p.node))) (run_over c run ps)
unfolding run_over
run_append c run [] p = refl
run_append c run (q ∷ ps) p = run_append c (run_below (length (children (node_at c q.node))) run) ps p

pub run_on_card : (c : List ℕ) (C : Context) (s : Tree) → Holds c (plug C s) → run_over c 0 (positions_above C s) ≡ full_run C
unfolding run_over positions_above full_run
run_on_card c top s w = refl
run_on_card c (down C m g l r) s w =
    let u = unplugged c C (node m g (fill l s r)) w in
    run_append c 0 (positions_above C (node m g (fill l s r))) (position_of C (node m g (fill l s r)))
    ∙ ap₂ (λ (x y : ℕ). run_below (length (children (node_at c x))) y) (position_node C (node m g (fill l s r))) (run_on_card c C (node m g (fill l s r)) w)
    ∙ ap (λ (x : ℕ). run_below x (full_run C)) (children_on_card c 0 m g (fill l s r) u.1 ∙ width_fill l s r)

-- ---- the way is no longer than the tree is high

depth_fill : (l : Left) (s : Tree) (r : Right) → depth s ≤ depths (fill l s r)
depth_fill [] s rightmost = omega arith
depth_fill [] s (followed x f) = omega arith
depth_fill (a ∷ l) s r = omega (arith, depth_fill l s r)

pub depth_plug : (C : Context) (s : Tree) → depth_of C + depth s ≤ depth (plug C s)
depth_plug top s = omega arith
depth_plug (down C m g l r) s = omega (arith, depth_plug C (node m g (fill l s r)), depth_fill l s r)
