-- "Repairs go on until balanced": the tree without numbers that a whole repair comes to, and how far a tree still is from it.
use mathlib.Core.Path.{◌≡◌, ap, ◌∙◌}
use mathlib.Core.Bool.{false}
use Prim.Native.Nat.{ℕ, zero, suc, ◌≤◌, ◌<◌}
use native.Mathlib.Omega.{arith}
use lib.Dec.{eqb}
use borrow.Author.Tests.{ne_eqb, eq-eqb}
use Rattle.laws.specs.Cases.{pick}
use Rattle.theory_shapes.proofs.Next.{repaired_by}
use Rattle.theory_tree.specs.Tree.{Tree}
use Rattle.theory_tree.specs.Violations.{table_violations}

-- so many repairs at most, none where there is nothing to repair
unfoldable pub settled_by : ℕ → Tree → Tree
settled_by zero t = t
settled_by (suc k) t = pick (eqb (table_violations t) 0) t (settled_by k (repaired_by false t))

-- a violation so deep, and repairs enough for it, lead to the goal
pub record Heads (deep : ℕ) (t goal : Tree) : Type 0 where
  pub repairs : ℕ
  pub enough : deep ≤ repairs
  pub reaches : settled_by repairs t ≡ goal

pub heads_done : {deep : ℕ} {t goal : Tree} → Heads deep t goal → table_violations t ≡ 0 → t ≡ goal
unfolding settled_by
heads_done {deep} {t} {goal} h z = at h.repairs h.reaches
  where
    at : (k : ℕ) → settled_by k t ≡ goal → t ≡ goal
    at zero e = e
    at (suc k) e = rw (eq-eqb (table_violations t) 0 z) at e

pub heads_on : {deep : ℕ} {t goal : Tree} (less : ℕ) (t' : Tree) → Heads deep t goal → table_violations t ≡ 1 → less < deep → t' ≡ repaired_by false t → Heads less t' goal
unfolding settled_by
heads_on {deep} {t} {goal} less t' h one l e = at h.repairs h.enough h.reaches
  where
    at : (k : ℕ) → deep ≤ k → settled_by k t ≡ goal → Heads less t' goal
    at zero b r = absurd (omega arith)
    at (suc k) b r = record { repairs = k; enough = omega arith; reaches = ap (settled_by k) e ∙ (rw (ne_eqb (table_violations t) 0 (omega arith)) at r) }
