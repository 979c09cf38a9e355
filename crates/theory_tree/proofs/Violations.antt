-- Laws of violations.
use mathlib.Core.Path.{◌≡◌, refl, ap}
use mathlib.Core.List.{[], ◌∷◌}
use Prim.Native.Nat.{ℕ, ◌+◌, ◌≤◌, ◌<◌}
use native.Mathlib.Omega.{arith}
use lib.ListN.{length, length-append}
use borrow.Author.Tests.{lt-ltb, le-ltb}
use Rattle.laws.proofs.Cases.{order}
use Rattle.theory_tree.proofs.Splice.{roots_splice}
use Rattle.theory_tree.specs.Tree.{Tree, Forest, roots, node, one, more}
use Rattle.theory_tree.proofs.Tree.{Left, Right, join, splice, fill, Context, plug, rightmost, followed, top, down}
use Rattle.theory_tree.specs.Violations.{few, violations, forest_violations, AllWidths, table_violations}

pub few_none : (n : ℕ) → 2 ≤ n → few n ≡ 0
unfolding few
few_none n h = rw (le-ltb n 2 h)

pub few_zero : (n : ℕ) → few n ≡ 0 → 2 ≤ n
unfolding few
few_zero n e = order n 2 (λ o. let z : ◌≡◌ {A = ℕ} 1 0 = rw (lt-ltb n 2 o) at e in absurd (omega arith)) (λ o. o)

pub few_one : (n : ℕ) → n < 2 → few n ≡ 1
unfolding few
few_one n h = rw (lt-ltb n 2 h)

pub few_le : (n : ℕ) → few n ≤ 1
few_le n = order n 2 (λ o. omega (arith, few_one n o)) (λ o. omega (arith, few_none n o))

pub few_below : (n : ℕ) → few n ≡ 1 → n < 2
few_below n e = order n 2 (λ o. o) (λ o. absurd (omega (arith, few_none n o)))

-- additive over joins and splices
pub violations_join : (f : Forest) (k : ℕ) (g : Forest) → forest_violations (join f k g) ≡ forest_violations f + forest_violations g
violations_join (one t) k g = refl
violations_join (more t x f) k g = omega (arith, violations_join f k g)

pub violations_splice : (l : Left) (f g : Forest) (r : Right) → forest_violations (splice l g r) + forest_violations f ≡ forest_violations (splice l f r) + forest_violations g
violations_splice [] f g rightmost = omega arith
violations_splice [] f g (followed k e) = omega (arith, violations_join f k e, violations_join g k e)
violations_splice (a ∷ l) f g r = omega (arith, violations_splice l f g r)

pub widths_splice : (l : Left) (f : Forest) (r : Right) → AllWidths (splice l f r) → AllWidths f × ((g : Forest) → AllWidths g → AllWidths (splice l g r))
widths_splice [] f rightmost i = (i, λ g j. j)
widths_splice [] f (followed k e) i = let u = unjoin f i in (u.0, λ g j. rejoin g j u.1)
  where
    unjoin : (f : Forest) → AllWidths (join f k e) → AllWidths f × AllWidths e
    unjoin (one t) i = i
    unjoin (more t x f) i = let u = unjoin f i.1 in ((i.0, u.0), u.1)

    rejoin : (f : Forest) → AllWidths f → AllWidths e → AllWidths (join f k e)
    rejoin (one t) i j = (i, j)
    rejoin (more t x f) i j = (i.0, rejoin f i.1 j)
widths_splice (a ∷ l) f r i = let u = widths_splice l f r i.1 in (u.0, λ g j. (i.0, u.1 g j))

pub size_splice : (l : Left) (f g : Forest) (r : Right) → length (roots (splice l g r)) + length (roots f) ≡ length (roots (splice l f r)) + length (roots g)
size_splice l f g r = simp (roots_splice, length-append) (omega arith)

-- another part in the hole leaves the number of children
pub fill_width : (l : Left) (s s' : Tree) (r : Right) → length (roots (fill l s' r)) ≡ length (roots (fill l s r))
fill_width l s s' r = omega (arith, size_splice l (one s) (one s') r)

pub violations_inside : (l : Left) (f : Forest) (r : Right) → forest_violations f ≤ forest_violations (splice l f r)
violations_inside [] f rightmost = omega arith
violations_inside [] f (followed k e) = omega (arith, violations_join f k e)
violations_inside (x ∷ l) f r = omega (arith, violations_inside l f r)

-- through a context, for a part that stands below the root
abbrev pub below : Context → Type 0
below top = ⊥
below (down C m g l r) = Unit

pub violations_plug : (C : Context) (s s' : Tree) → below C → table_violations (plug C s') + violations s ≡ table_violations (plug C s) + violations s'
violations_plug top s s' b = absurd b
violations_plug (down top m g l r) s s' b = violations_splice l (one s) (one s') r
violations_plug (down (down C m' g' l' r') m g l r) s s' b =
    let p = violations_plug (down C m' g' l' r') (node m g (fill l s r)) (node m g (fill l s' r)) tt in
    omega (arith, violations_splice l (one s) (one s') r, size_splice l (one s) (one s') r, ap few (fill_width l s s' r))
