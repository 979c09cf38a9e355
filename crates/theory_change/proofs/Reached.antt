-- The repair of a tree without numbers finds the violation that the table has, and puts the part due in its parent's place.
use mathlib.Core.Path.{◌≡◌, ap, ◌∙◌}
use mathlib.Core.Bool.{false}
use Prim.Native.Nat.{ℕ, ◌+◌, ◌≤◌}
use native.Mathlib.Omega.{arith}
use Rattle.theory_change.proofs.Parent.{violations_part, forest_part}
use Rattle.theory_shapes.proofs.Bare.{bare, bare_left, bare_right, bare_context, bare_splice, bare_plug, bare_own, bare_table_violations}
use Rattle.theory_shapes.proofs.Next.{mend_at, tagged_in, repaired_by}
use Rattle.theory_shapes.proofs.Ways.{violations_fill, Calm, bare_tagged_in, repaired_plug, repaired_here}
use Rattle.theory_tree.proofs.Path.{own_violation, own_violation_le}
use Rattle.theory_tree.specs.Tree.{Tree, Forest, node, one}
use Rattle.theory_tree.proofs.Tree.{Left, Right, fill, Context, plug, top, down}
use Rattle.theory_tree.specs.Violations.{violations, table_violations}

-- above a part with a violation inside, the only one of the table, no node is itself one
calm_above : (C : Context) (s : Tree) → own_violation s + 1 ≤ violations s → table_violations (plug C s) ≤ 1 → Calm C s
calm_above top s h t = tt
calm_above (down C m g l r) s h t =
    let v = violations_part (down C m g l r) s in
    let w = violations_part C (node m g (fill l s r)) in
    let u = violations_fill l s r in
    (omega arith, omega (arith, forest_part C m g (fill l s r)), omega arith, calm_above C (node m g (fill l s r)) (omega arith) t)

pub repair_reached : (C : Context) (p : ℕ) (l : Left) (s : Tree) (r : Right) → own_violation s ≡ 1 → table_violations (plug C (node p false (fill l s r))) ≤ 1
    → repaired_by false (bare (plug C (node p false (fill l s r)))) ≡ plug (bare_context C) (mend_at (tagged_in C) (bare_left l) (bare s) (bare_right r))
repair_reached C p l s r own few =
    let whole : bare (plug C (node p false (fill l s r))) ≡ plug (bare_context C) (node 0 false (fill (bare_left l) (bare s) (bare_right r))) =
    bare_plug C (node p false (fill l s r)) ∙ ap (λ (f : Forest). plug (bare_context C) (node 0 false f)) (bare_splice l (one s) r) in
    let few_bare : table_violations (plug (bare_context C) (node 0 false (fill (bare_left l) (bare s) (bare_right r)))) ≤ 1 =
    omega (arith, ap table_violations whole, bare_table_violations (plug C (node p false (fill l s r)))) in
    let u = violations_fill (bare_left l) (bare s) (bare_right r) in
    let whole_part = violations_part (bare_context C) (node 0 false (fill (bare_left l) (bare s) (bare_right r))) in
    let v = forest_part (bare_context C) 0 false (fill (bare_left l) (bare s) (bare_right r)) in
    let o = own_violation_le (bare s) in
    let own_bare : own_violation (bare s) ≡ 1 = bare_own s ∙ own in
    let here = repaired_here (tagged_in C) 0 false (bare_left l) (bare s) (bare_right r) (omega arith) (omega arith) own_bare in
    rw whole
    (repaired_plug (bare_context C) (node 0 false (fill (bare_left l) (bare s) (bare_right r))) (mend_at (tagged_in C) (bare_left l) (bare s) (bare_right r))
    (calm_above (bare_context C) (node 0 false (fill (bare_left l) (bare s) (bare_right r))) (omega arith) few_bare) (rw (bare_tagged_in C) here))
