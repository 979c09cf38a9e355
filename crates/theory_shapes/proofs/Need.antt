-- "A splitting insert needs j + 5 free nodes", and the depth that a key reaches, told from the tree without numbers.
use mathlib.Core.Path.{◌≡◌, refl, ap, ◌∙◌}
use mathlib.Core.List.{List, [], ◌∷◌}
use mathlib.Core.Bool.{Bool}
use Prim.Native.Nat.{ℕ, suc, ◌+◌}
use native.Mathlib.Omega.{arith}
use lib.ListN.{length}
use lib.Dec.{ltb}
use borrow.Author.Tests.{lt-ltb, le-ltb}
use Rattle.walk.specs.Descent.{first_equal}
use Rattle.laws.specs.Cases.{pick}
use Rattle.theory_shapes.proofs.Bare.{bare, bare_context, bare_plug, bare_run, bare_depth}
use Rattle.theory_shapes.proofs.Ways.{Reaches, bare_reaches}
use Rattle.theory_tree.proofs.Path.{Past, Short, depth_of, full_run, width_fill}
use Rattle.theory_tree.specs.Tree.{Tree, Forest, roots, leaf, node, one, more}
use Rattle.theory_tree.proofs.Tree.{Left, Right, fill, Context, plug, rightmost, followed, top, down}
use Rattle.call_change.specs.Updates.{split_need}
use Rattle.card.specs.Layout.{run_below}
use Rattle.std.specs.Prelude.{Option, Some, None}

-- the room that the leaf asks for, with so many full nodes straight above it
unfoldable pub leaf_need : Option ℕ → ℕ → ℕ
leaf_need (Some i) run = 0
leaf_need None run = split_need run

unfoldable mutual
  pub need_of : ℕ → ℕ → Tree → ℕ
  need_of key run (leaf m ks vs) = leaf_need (first_equal ks 0 0) run
  need_of key run (node m g f) = need_in key (run_below (length (roots f)) run) f

  pub need_in : ℕ → ℕ → Forest → ℕ
  need_in key run (one t) = need_of key run t
  need_in key run (more t x f) = pick (ltb key x) (need_of key run t) (need_in key run f)

-- how many internal nodes stand on the way of the key (document 02, W-203: the depth)
unfoldable mutual
  pub way_of : ℕ → Tree → ℕ
  way_of key (leaf m ks vs) = 0
  way_of key (node m g f) = suc (way_in key f)

  pub way_in : ℕ → Forest → ℕ
  way_in key (one t) = way_of key t
  way_in key (more t x f) = pick (ltb key x) (way_of key t) (way_in key f)

module _ (key : ℕ) where
  need_fill : (run : ℕ) (l : Left) (s : Tree) (r : Right) → Past key l → Short key r → need_in key run (fill l s r) ≡ need_of key run s
  unfolding need_in
  need_fill run [] s rightmost p q = refl
  need_fill run [] s (followed k f) p q = rw (lt-ltb key k q)
  need_fill run (a ∷ l) s r p q = rw (le-ltb key a.1 p.0) (need_fill run l s r p.1 q)

  need_through : (C : Context) (m : ℕ) (g : Bool) (l : Left) (s : Tree) (r : Right) → Past key l → Short key r
      → need_of key (full_run C) (node m g (fill l s r)) ≡ need_of key (full_run (down C m g l r)) s
  unfolding need_of full_run
  need_through C m g l s r p q =
      need_fill (run_below (length (roots (fill l s r))) (full_run C)) l s r p q ∙ ap (λ (w : ℕ). need_of key (run_below w (full_run C)) s) (width_fill l s r)

  need_plug : (C : Context) (s : Tree) → Reaches key C → need_of key (full_run top) (plug C s) ≡ need_of key (full_run C) s
  need_plug top s p = refl
  need_plug (down C m g l r) s p = need_plug C (node m g (fill l s r)) p.2 ∙ need_through C m g l s r p.0 p.1

  -- the leaf that the key leads to
  pub need_leaf : (C : Context) (m : ℕ) (ks vs : List ℕ) → Reaches key C → need_of key 0 (bare (plug C (leaf m ks vs))) ≡ leaf_need (first_equal ks 0 0) (full_run C)
  unfolding need_of full_run
  need_leaf C m ks vs p = rw (bare_plug C (leaf m ks vs)) (need_plug (bare_context C) (leaf 0 ks vs) (bare_reaches key C p) ∙ ap (leaf_need (first_equal ks 0 0)) (bare_run C))

  way_fill : (l : Left) (s : Tree) (r : Right) → Past key l → Short key r → way_in key (fill l s r) ≡ way_of key s
  unfolding way_in
  way_fill [] s rightmost p q = refl
  way_fill [] s (followed k f) p q = rw (lt-ltb key k q)
  way_fill (a ∷ l) s r p q = rw (le-ltb key a.1 p.0) (way_fill l s r p.1 q)

  way_plug : (C : Context) (s : Tree) → Reaches key C → way_of key (plug C s) ≡ depth_of C + way_of key s
  unfolding way_of
  way_plug top s p = omega arith
  way_plug (down C m g l r) s p = omega (arith, way_plug C (node m g (fill l s r)) p.2, way_fill l s r p.0 p.1)

  pub way_leaf : (C : Context) (m : ℕ) (ks vs : List ℕ) → Reaches key C → way_of key (bare (plug C (leaf m ks vs))) ≡ depth_of C
  unfolding way_of
  way_leaf C m ks vs p = rw (bare_plug C (leaf m ks vs)) (omega (arith, way_plug (bare_context C) (leaf 0 ks vs) (bare_reaches key C p), bare_depth C))
