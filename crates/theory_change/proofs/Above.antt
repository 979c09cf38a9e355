-- Document 01, "The changes": two new nodes "under a tagged node (internal if it is the root)".
use mathlib.Core.Path.{◌≡◌, refl}
use Prim.Native.Nat.{ℕ, suc, ◌≤◌}
use native.Mathlib.Omega.{arith}
use lib.ListN.{length}
use Rattle.theory_shapes.proofs.Next.{tagged_in}
use Rattle.theory_change.proofs.Rewrite.{Shape, violations_in, own_in, SameHeight}
use Rattle.theory_tree.specs.Height.{Height, AllHeight}
use Rattle.theory_tree.specs.Tree.{Forest, roots, node}
use Rattle.theory_tree.proofs.Tree.{Context, top, down}
use Rattle.theory_tree.proofs.Violations.{few_none}
use Rattle.theory_tree.specs.Violations.{forest_violations, AllWidths}

-- a tagged node is not counted in heights, and a new root makes the whole table one higher
pub above_height : (C : Context) (m h : ℕ) (f : Forest) → AllHeight h f → (h' : ℕ) × Height h' (node m (tagged_in C) f) × SameHeight C h h'
above_height top m h f i = (suc h, i, tt)
above_height (down C n g l r) m h f i = (h, i, refl)

pub above_shape : (C : Context) (m : ℕ) (f : Forest) → length (roots f) ≡ 2 → AllWidths f → Shape C (node m (tagged_in C) f)
above_shape top m f e w = (omega arith, omega arith, w)
above_shape (down C n g l r) m f e w = (e, w)

-- a tagged node is a violation, and the only one if there is none below it
pub above_settled : (C : Context) (m : ℕ) (f : Forest) → forest_violations f ≡ 0 → violations_in C (node m (tagged_in C) f) ≡ own_in C (node m (tagged_in C) f)
above_settled top m f z = z
above_settled (down C n g l r) m f z = omega arith

pub above_own : (C : Context) (m : ℕ) (f : Forest) → length (roots f) ≡ 2 → own_in C (node m (tagged_in C) f) ≤ 1
above_own top m f e = omega arith
above_own (down C n g l r) m f e = omega (arith, few_none (length (roots f)) (omega arith))
