-- The way of a key through a tree, as a context: what the key passes and where it stops.
use mathlib.Core.Path.{◌≡◌, refl}
use mathlib.Core.List.{[], ◌∷◌}
use mathlib.Core.Bool.{true, false}
use Prim.Native.Nat.{ℕ, suc, ◌+◌, ◌≤◌, ◌<◌}
use lib.ListN.{length}
use Rattle.card.specs.Layout.{slot_pairs, run_below}
use Rattle.laws.specs.Bits.{bit}
use Rattle.theory_tree.specs.Tree.{Tree, roots, leaf, node}
use Rattle.theory_tree.proofs.Tree.{Left, Right, Context, plug, rightmost, followed, top, down, fill}
use Rattle.theory_tree.proofs.Violations.{below}
use Rattle.theory_tree.specs.Violations.{few, violations}
use native.Mathlib.Omega.{arith}

abbrev pub Past : ℕ → Left → Type 0
Past k [] = Unit
Past k (a ∷ l) = (a.1 ≤ k) × Past k l

abbrev pub Short : ℕ → Right → Type 0
Short k rightmost = Unit
Short k (followed x f) = k < x

-- the key leads to the hole of the context, past nodes that are not tagged
abbrev pub OnPath : ℕ → Context → Type 0
OnPath k top = Unit
OnPath k (down C m g l r) = (g ≡ false) × Past k l × Short k r × OnPath k C

-- how many internal nodes stand above the hole
abbrev pub depth_of : Context → ℕ
depth_of top = 0
depth_of (down C m g l r) = suc (depth_of C)

abbrev pub right_size : Right → ℕ
right_size rightmost = 0
right_size (followed k f) = length (roots f)

-- how many children the node above the hole has
abbrev pub width_of : Left → Right → ℕ
width_of l r = length l + suc (right_size r)

-- "the 11-child nodes without a break straight above" the hole
unfoldable pub full_run : Context → ℕ
full_run top = 0
full_run (down C m g l r) = run_below (width_of l r) (full_run C)

-- the violation of a tree's root node itself, where it is not the root of the table
abbrev pub own_violation : Tree → ℕ
own_violation (leaf m ks vs) = few (length (slot_pairs ks vs))
own_violation (node m g f) = bit g + few (length (roots f))

-- how many free nodes must be kept besides three: those that splits above a tagged node will need
abbrev pub reserve : Context → Tree → ℕ
reserve C (leaf m ks vs) = 0
reserve C (node m true f) = full_run C
reserve C (node m false f) = 0

-- the violation of a table, and a key that leads to it
pub record Violation (t : Tree) (key : ℕ) : Type 0 where
  pub context : Context
  pub part : Tree
  pub is_tree : t ≡ plug context part
  pub inside : below context
  pub own : own_violation part ≡ 1
  pub on_path : OnPath key context

-- ---- laws

pub width_fill : (l : Left) (s : Tree) (r : Right) → length (roots (fill l s r)) ≡ width_of l r
width_fill [] s rightmost = refl
width_fill [] s (followed x f) = omega arith
width_fill (a ∷ l) s r = omega (arith, width_fill l s r)

pub own_violation_le : (s : Tree) → own_violation s ≤ violations s
own_violation_le (leaf m ks vs) = omega arith
own_violation_le (node m g f) = omega arith
