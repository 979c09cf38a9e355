-- A card holds one tree: that of a number is read off its words.
use mathlib.Core.Path.{◌≡◌, refl, ap, sym, ◌∙◌}
use mathlib.Core.List.{List, [], ◌∷◌}
use mathlib.Core.Bool.{Bool, true, false}
use Prim.Native.Nat.{ℕ}
use native.Mathlib.Omega.{arith}
use lib.ListN.{length}
use Rattle.card.specs.Layout.{node_at, kind_of, key_words, value_words, children, routing_keys}
use Rattle.theory_tree.proofs.Pairs.{routing_roots}
use Rattle.theory_tree.proofs.Reading.{read_kind, leaf_keys, leaf_values, node_children, node_routing}
use Rattle.theory_tree.specs.Represent.{kind, Represents, RepresentsAll, Holds}
use Rattle.theory_tree.specs.Tree.{Tree, Forest, root, roots, routing, leaf, node, one, more}

head_same : {a b : ℕ} {l m : List ℕ} → ◌≡◌ {A = List ℕ} (a ∷ l) (b ∷ m) → (a ≡ b) × (l ≡ m)
head_same e = (cc, cc)

some_root : (f : Forest) → ◌≡◌ {A = List ℕ} (roots f) [] → ⊥
some_root f e = omega (arith, ap length e, routing_roots f)

same_kind : (g h : Bool) → kind g ≡ kind h → g ≡ h
same_kind true true e = refl
same_kind false false e = refl
same_kind true false e = absurd (omega arith)
same_kind false true e = absurd (omega arith)

inner_kind : (g : Bool) → kind g ≡ 1 → ⊥
inner_kind true e = omega arith
inner_kind false e = omega arith

module _ (c : List ℕ) where
  mutual
    pub one_tree : (s t : Tree) → root s ≡ root t → Represents c s → Represents c t → s ≡ t
    one_tree (leaf m ks vs) (leaf i ks' vs') e p q =
        let a = sym (leaf_keys c m ks vs p) ∙ ap (λ (x : ℕ). key_words (node_at c x)) e ∙ leaf_keys c i ks' vs' q in
        let b = sym (leaf_values c m ks vs p) ∙ ap (λ (x : ℕ). value_words (node_at c x)) e ∙ leaf_values c i ks' vs' q in
        rw (e, a, b)
    one_tree (leaf m ks vs) (node i h f) e p q =
        absurd (inner_kind h
        (sym (read_kind c i (kind h) (routing f) (roots f) q.0) ∙ ap (λ (x : ℕ). kind_of (node_at c x)) (sym e) ∙ read_kind c m 1 ks vs p.0))
    one_tree (node m g f) (leaf i ks vs) e p q =
        absurd (inner_kind g
        (sym (read_kind c m (kind g) (routing f) (roots f) p.0) ∙ ap (λ (x : ℕ). kind_of (node_at c x)) e ∙ read_kind c i 1 ks vs q.0))
    one_tree (node m g f) (node i h f') e p q =
        let k = same_kind g h (sym (read_kind c m (kind g) (routing f) (roots f) p.0) ∙ ap (λ (x : ℕ). kind_of (node_at c x)) e ∙ read_kind c i (kind h) (routing f') (roots f') q.0) in
        let a : roots f ≡ roots f' = sym (node_children c m g f p) ∙ ap (λ (x : ℕ). children (node_at c x)) e ∙ node_children c i h f' q in
        let b : routing f ≡ routing f' = sym (node_routing c m g f p) ∙ ap (λ (x : ℕ). routing_keys (node_at c x)) e ∙ node_routing c i h f' q in
        let d = one_forest f f' a b p.1 q.1 in
        rw (e, k, d)

    pub one_forest : (f g : Forest) → roots f ≡ roots g → routing f ≡ routing g → RepresentsAll c f → RepresentsAll c g → f ≡ g
    one_forest (one s) (one t) e d p q = ap one (one_tree s t (head_same e).0 p q)
    one_forest (one s) (more t k g) e d p q = absurd (some_root g (sym (head_same e).1))
    one_forest (more s k f) (one t) e d p q = absurd (some_root f (head_same e).1)
    one_forest (more s k f) (more t i g) e d p q =
        let a = one_tree s t (head_same e).0 p.0 q.0 in
        let b = head_same d in
        let h = one_forest f g (head_same e).1 b.1 p.1 q.1 in
        rw (a, b.0, h)

  pub one_held : (s t : Tree) → Holds c s → Holds c t → s ≡ t
  one_held s t p q = one_tree s t (sym p.0 ∙ q.0) p.2 q.2
