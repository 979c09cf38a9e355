-- The room of a line is its limit less its own nodes. A repair leaves the room that its new part keeps in reserve, whatever the bits
-- count; and what it is given the bits have.
use mathlib.Core.Path.{◌≡◌, ap, ◌∙◌}
use mathlib.Core.List.{List}
use mathlib.Core.Bool.{Bool}
use Prim.Native.Nat.{ℕ, ◌+◌, ◌≤◌}
use native.Mathlib.Omega.{arith}
use lib.ListN.{length}
use Rattle.theory_change.proofs.Line.{size}
use Rattle.theory_change.proofs.Mending.{Planned}
use Rattle.theory_change.proofs.Rewrite.{numbers}
use Rattle.walk.specs.declared.Position.{Position}
use Rattle.laws.specs.Totals.{total}
use Rattle.laws.proofs.Totals.{total_length}
use Rattle.theory_tree.proofs.Path.{reserve}
use Rattle.theory_tree.specs.Tree.{Tree}
use Rattle.theory_tree.proofs.Tree.{Context, plug, total_plug}

pub room_kept : {c : List ℕ} {n : ℕ} {pos : Position} {free : List Bool} {last : ℕ} {C : Context} {o : Tree} {spare : ℕ} {due : Tree}
    (p : Planned c n pos free last C o spare due) (ms : List ℕ) (limit : ℕ) → length ms ≡ p.given
    → size (plug C o) + (3 + spare) ≤ limit → size (plug C (p.part ms)) + (3 + reserve C (p.part ms)) ≤ limit
room_kept {C = C} {o = o} p ms limit e h =
    let R = (p.rewrites ms).same_numbers (λ m. 1) in
    let given : total (λ m. 1) (numbers (p.nodes ms)) ≡ p.given = ap (total (λ m. 1)) (p.in_order ms e) ∙ total_length ms ∙ e in
    omega (arith, p.budget ms, total_plug (λ m. 1) C o, total_plug (λ m. 1) C (p.part ms), total_length p.out)
