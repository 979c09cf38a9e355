-- A change on trees reaches the part that it is about, on the way of its key, and leaves the context as it is.
use mathlib.Core.Path.{◌≡◌, refl}
use mathlib.Core.List.{List, [], ◌∷◌}
use mathlib.Core.Bool.{Bool, true, false}
use Prim.Native.Nat.{ℕ, ◌+◌, ◌≤◌, ◌<◌}
use native.Mathlib.Omega.{arith}
use borrow.Author.Tests.{lt-ltb, le-ltb}
use Rattle.theory_shapes.proofs.Bare.{bare_left, bare_right, bare_context}
use Rattle.theory_shapes.proofs.Next.{apart, mend_at, tagged_in, repaired_by, repaired_in, changed_by, changed_in}
use Rattle.theory_tree.proofs.Path.{Past, Short, own_violation}
use Rattle.theory_tree.specs.Violations.{violations, forest_violations}
use Rattle.theory_tree.specs.Tree.{Tree, leaf, node}
use Rattle.theory_tree.proofs.Tree.{Left, Right, fill, Context, plug, rightmost, followed, top, down}

-- the key leads to the hole of the context
abbrev pub Reaches : ℕ → Context → Type 0
Reaches key top = Unit
Reaches key (down C m g l r) = Past key l × Short key r × Reaches key C

pub bare_past : (key : ℕ) (l : Left) → Past key l → Past key (bare_left l)
bare_past key [] p = tt
bare_past key (a ∷ l) p = (p.0, bare_past key l p.1)

pub bare_short : (key : ℕ) (r : Right) → Short key r → Short key (bare_right r)
bare_short key rightmost p = tt
bare_short key (followed k f) p = p

pub bare_reaches : (key : ℕ) (C : Context) → Reaches key C → Reaches key (bare_context C)
bare_reaches key top p = tt
bare_reaches key (down C m g l r) p = (bare_past key l p.0, bare_short key r p.1, bare_reaches key C p.2)

pub bare_tagged_in : (C : Context) → tagged_in (bare_context C) ≡ tagged_in C
bare_tagged_in top = refl
bare_tagged_in (down C m g l r) = refl

-- the violations left of a hole
abbrev pub left_violations : Left → ℕ
left_violations [] = 0
left_violations (a ∷ l) = violations a.0 + left_violations l

pub violations_fill : (l : Left) (s : Tree) (r : Right) → left_violations l + violations s ≤ forest_violations (fill l s r)
violations_fill [] s rightmost = omega arith
violations_fill [] s (followed k f) = omega arith
violations_fill (a ∷ l) s r = omega (arith, violations_fill l s r)

-- the violation is inside, none is left of it, and no node above it is itself one
abbrev pub Calm : Context → Tree → Type 0
Calm top s = Unit
Calm (down C m g l r) s = (own_violation s ≡ 0) × (left_violations l ≡ 0) × (0 < violations s) × Calm C (node m g (fill l s r))

pub apart_fill : (l : Left) (s : Tree) (r : Right) → left_violations l ≡ 0 → 0 < violations s → apart (fill l s r) ≡ record { left = l; child = s; right = r }
unfolding apart
apart_fill [] s rightmost z o = refl
apart_fill [] s (followed k f) z o = rw (lt-ltb 0 (violations s) o)
apart_fill (a ∷ l) s r z o = rw (le-ltb 0 (violations a.0) (omega arith), apart_fill l s r (omega arith) o)

repaired_fill : (l : Left) (s : Tree) (r : Right) → left_violations l ≡ 0 → 0 < violations s → repaired_in (fill l s r) ≡ fill l (repaired_by true s) r
unfolding repaired_in
repaired_fill [] s rightmost z o = refl
repaired_fill [] s (followed k f) z o = rw (lt-ltb 0 (violations s) o)
repaired_fill (a ∷ l) s r z o = rw (le-ltb 0 (violations a.0) (omega arith), repaired_fill l s r (omega arith) o)

repaired_through : (below : Bool) (m : ℕ) (g : Bool) (l : Left) (s s' : Tree) (r : Right) → left_violations l ≡ 0 → 0 < violations s
    → own_violation s ≡ 0 → repaired_by true s ≡ s' → repaired_by below (node m g (fill l s r)) ≡ node m g (fill l s' r)
unfolding repaired_by
repaired_through below m g l s s' r z o e₀ e = rw (apart_fill l s r z o, e₀, repaired_fill l s r z o, e)

-- the parent of the violation, wherever it stands
pub repaired_plug : (C : Context) (s s' : Tree) → Calm C s → repaired_by (tagged_in C) s ≡ s' → repaired_by false (plug C s) ≡ plug C s'
repaired_plug top s s' z e = e
repaired_plug (down C m g l r) s s' z e =
    repaired_plug C (node m g (fill l s r)) (node m g (fill l s' r)) z.3 (repaired_through (tagged_in C) m g l s s' r z.1 z.2 z.0 e)

pub repaired_here : (below : Bool) (m : ℕ) (g : Bool) (l : Left) (s : Tree) (r : Right)
    → left_violations l ≡ 0 → 0 < violations s → own_violation s ≡ 1 → repaired_by below (node m g (fill l s r)) ≡ mend_at below l s r
unfolding repaired_by
repaired_here below m g l s r z o e = rw (apart_fill l s r z o, e)

module _ (change : Bool → List ℕ → List ℕ → Tree) (key : ℕ) where
  changed_fill : (l : Left) (s : Tree) (r : Right) → Past key l → Short key r → changed_in change key (fill l s r) ≡ fill l (changed_by change key true s) r
  unfolding changed_in
  changed_fill [] s rightmost p q = refl
  changed_fill [] s (followed k f) p q = rw (lt-ltb key k q)
  changed_fill (a ∷ l) s r p q = rw (le-ltb key a.1 p.0, changed_fill l s r p.1 q)

  changed_through : (below : Bool) (m : ℕ) (g : Bool) (l : Left) (s s' : Tree) (r : Right) → Past key l → Short key r
      → changed_by change key true s ≡ s' → changed_by change key below (node m g (fill l s r)) ≡ node m g (fill l s' r)
  unfolding changed_by
  changed_through below m g l s s' r p q e = rw (changed_fill l s r p q, e)

  changed_plug : (C : Context) (s s' : Tree) → Reaches key C → changed_by change key (tagged_in C) s ≡ s' → changed_by change key false (plug C s) ≡ plug C s'
  changed_plug top s s' p e = e
  changed_plug (down C m g l r) s s' p e = changed_plug C (node m g (fill l s r)) (node m g (fill l s' r)) p.2 (changed_through (tagged_in C) m g l s s' r p.0 p.1 e)

  -- the leaf that the key leads to
  pub changed_leaf : (C : Context) (m : ℕ) (ks vs : List ℕ) → Reaches key C → changed_by change key false (plug C (leaf m ks vs)) ≡ plug C (change (tagged_in C) ks vs)
  unfolding changed_by
  changed_leaf C m ks vs p = changed_plug C (leaf m ks vs) (change (tagged_in C) ks vs) p refl
