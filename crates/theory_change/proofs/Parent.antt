-- The parent of the violation of a table: its children hold the only one, so that all else about them is in order.
use mathlib.Core.Path.{◌≡◌}
use mathlib.Core.Bool.{Bool, true, false}
use Prim.Native.Nat.{ℕ, ◌≤◌}
use native.Mathlib.Omega.{arith}
use lib.ListN.{length}
use Rattle.theory_change.proofs.Exchange.{OneViolation}
use Rattle.theory_change.proofs.Rewrite.{Shape, violations_in}
use Rattle.theory_tree.proofs.Path.{own_violation, own_violation_le}
use Rattle.theory_tree.specs.Tree.{Tree, Forest, roots, node, one}
use Rattle.theory_tree.proofs.Tree.{Left, Right, fill, Context, plug, top, down}
use Rattle.theory_tree.proofs.Violations.{few_zero, widths_splice, violations_inside}
use Rattle.theory_tree.specs.Violations.{forest_violations, AllWidths, RootOk, table_violations}

-- what is asked of a table holds of every part of it
pub shape_plug : (C : Context) (s : Tree) → RootOk (plug C s) → Shape C s
shape_plug top s h = h
shape_plug (down C m g l r) s h = (widths_splice l (one s) r (below_shape C m g (fill l s r) (shape_plug C (node m g (fill l s r)) h))).0
  where
    below_shape : (C : Context) (m : ℕ) (g : Bool) (f : Forest) → Shape C (node m g f) → AllWidths f
    below_shape top m true f h = absurd h
    below_shape top m false f h = h.2
    below_shape (down C i b l r) m g f h = h.1

pub forest_part : (C : Context) (m : ℕ) (g : Bool) (f : Forest) → forest_violations f ≤ violations_in C (node m g f)
forest_part top m g f = omega arith
forest_part (down C i b l r) m g f = omega arith

pub violations_part : (C : Context) (s : Tree) → violations_in C s ≤ table_violations (plug C s)
violations_part top s = omega arith
violations_part (down C m g l r) s = omega (arith, violations_inside l (one s) r, forest_part C m g (fill l s r), violations_part C (node m g (fill l s r)))

-- the children of an internal node that has the only violation of the table below it
pub violation_parent : (C : Context) (p : ℕ) (l : Left) (s : Tree) (r : Right) → RootOk (plug C (node p false (fill l s r)))
    → table_violations (plug C (node p false (fill l s r))) ≤ 1 → own_violation s ≡ 1 → OneViolation (fill l s r)
violation_parent C p l s r h t o =
    let v = violations_part C (node p false (fill l s r)) in
    let i = violations_inside l (one s) r in
    let j = own_violation_le s in
    of_shape C (fill l s r) (shape_plug C (node p false (fill l s r)) h) (omega arith) (omega arith)
  where
    of_shape : (C : Context) (f : Forest) → Shape C (node p false f) → violations_in C (node p false f) ≤ 1 → 1 ≤ forest_violations f → OneViolation f
    of_shape top f h t o = record { least = h.0; most = h.1; widths = h.2; single = omega arith }
    of_shape (down D m g i j) f h t o = record { least = few_zero (length (roots f)) (omega arith); most = h.0.1; widths = h.1; single = omega arith }
