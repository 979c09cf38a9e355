-- What an update makes of a tree without numbers: its first change, and what the repairs after it come to.
use mathlib.Core.Path.{◌≡◌}
use mathlib.Core.Bool.{false}
use mathlib.Core.Option.{Option, none, some}
use Prim.Native.Nat.{ℕ}
use Rattle.card.specs.Layout.{depth_limit}
use Rattle.demands.specs.Book.{Update, put, remove}
use Rattle.theory_shapes.proofs.Bare.{bare, bare_pairs}
use Rattle.theory_shapes.proofs.Next.{changed_by, put_in, take_out}
use Rattle.theory_shapes.proofs.Whole.{settled_by}
use Rattle.theory_tree.specs.Pairs.{pairs, lookup}
use Rattle.theory_tree.specs.Tree.{Tree}

unfoldable pub first_shape : Update → Tree → Tree
first_shape (put key value) t = changed_by (put_in key value) key false t
first_shape (remove key) t = changed_by (take_out key) key false t

abbrev pub key_of : Update → ℕ
key_of (put key value) = key
key_of (remove key) = key

-- an update that has a change to make, by what its key finds
abbrev pub changes : Update → Option ℕ → Tree → Tree → Tree
changes (put key value) (some v) t goal = t
changes (put key value) none t goal = goal
changes (remove key) (some v) t goal = goal
changes (remove key) none t goal = t

-- THE WHOLE UPDATE
unfoldable pub after_shape : Update → Tree → Tree
after_shape u t = changes u (lookup (key_of u) (pairs t)) t (settled_by depth_limit (first_shape u t))

pub after_by_map : (u : Update) (t : Tree) → after_shape u (bare t) ≡ changes u (lookup (key_of u) (pairs t)) (bare t) (settled_by depth_limit (first_shape u (bare t)))
unfolding after_shape
after_by_map u t = rw (bare_pairs t)
