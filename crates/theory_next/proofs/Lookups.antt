-- What a look-up in a list of pairs tells: the first pair, the others, and that a key which is found lies in the tree's range.
use mathlib.Core.Path.{◌≡◌, refl, sym, ◌∙◌}
use mathlib.Core.List.{List, [], ◌∷◌}
use mathlib.Core.Option.{some, none-ne-some}
use Prim.Native.Nat.{ℕ, ◌≤◌, ◌<◌}
use native.Mathlib.Omega.{arith}
use lib.ListN.{length}
use borrow.Author.Tests.{ne_eqb, eq-eqb}
use Rattle.theory_walk.proofs.Ranges.{held_in_range}
use Rattle.laws.proofs.Cases.{order}
use Rattle.laws.specs.Totals.{total}
use Rattle.theory_tree.specs.Pairs.{pairs, lookup, has_key}
use Rattle.theory_tree.proofs.Pairs.{lookup_none, InRange}
use Rattle.theory_tree.specs.Tree.{Tree}

module _ (p : ℕ × ℕ) (ps : List (ℕ × ℕ)) where
  pub lookup_head : lookup p.0 (p ∷ ps) ≡ some p.1
  lookup_head = rw (eq-eqb p.0 p.0 refl)

  pub lookup_tail : (x : ℕ) → (x ≡ p.0 → ⊥) → lookup x (p ∷ ps) ≡ lookup x ps
  lookup_tail x other = rw (ne_eqb x p.0 other)

pub some_pair : (ps : List (ℕ × ℕ)) → 1 ≤ length ps → (p : ℕ × ℕ) × (lookup p.0 ps ≡ some p.1)
some_pair [] h = absurd (omega arith)
some_pair (p ∷ ps) h = (p, lookup_head p ps)

some_counted : (k v : ℕ) (ps : List (ℕ × ℕ)) → lookup k ps ≡ some v → 0 < total (has_key k) ps
some_counted k v ps e = order 0 (total (has_key k) ps) (λ o. o) (λ o. absurd (none-ne-some v (sym (lookup_none k ps (omega arith)) ∙ e)))

pub found_in_range : (lo hi k v : ℕ) (t : Tree) → InRange lo hi t → lookup k (pairs t) ≡ some v → (lo ≤ k) × (k < hi)
found_in_range lo hi k v t i e = held_in_range lo hi k t i (some_counted k v (pairs t) e)
