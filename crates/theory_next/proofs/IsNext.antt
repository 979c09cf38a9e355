-- Document 02, W-201, of a list of pairs: "the pair with the smallest key greater than it, or "none" exactly when the table
-- holds no such key".
use mathlib.Core.Path.{◌≡◌}
use mathlib.Core.List.{List}
use mathlib.Core.Option.{none, some}
use Prim.Native.Nat.{ℕ, ◌<◌}
use Rattle.walk_next.specs.Next.{Successor}
use Rattle.walk_next.specs.Next.{Pair, Nothing, Refused}
use Rattle.theory_tree.specs.Pairs.{lookup}

abbrev pub IsNext : List (ℕ × ℕ) → ℕ → Successor → Type 0
IsNext ps after (Pair key value) = (after < key) × (lookup key ps ≡ some value) × ((x : ℕ) → after < x → x < key → lookup x ps ≡ none)
IsNext ps after Nothing = (x : ℕ) → after < x → lookup x ps ≡ none
IsNext ps after (Refused r) = ⊥
