-- Laws of what `list` lays out.
use mathlib.Core.Path.{◌≡◌, refl, sym}
use mathlib.Core.List.{List}
use Prim.Native.Nat.{ℕ, zero, suc, ◌+◌, ◌-◌, ◌≤◌, ◌<◌}
use native.Mathlib.Omega.{arith}
use lib.ListN.{length, set}
use borrow.Author.Tests.{lt-ltb, le-ltb}
use Rattle.walk_next.specs.Successor.{next_of, on_next, walk_from}
use Rattle.walk_next.specs.Next.{Pair, Nothing, Refused}
use Rattle.list_pairs.specs.Listing.{Laid, laid, lay_pair, lay_pairs}

-- ---- one pair

module _ (p : ℕ × ℕ) (at : ℕ) (words : List ℕ) where
  pub pair_short : at ≤ length words → length words - at < 2 → laid at words ≡ lay_pair p (laid at words)
  unfolding lay_pair
  pair_short h s = sym (rw (le-ltb (at + 1) (length words) (omega arith)))

  pub pair_stored : 2 ≤ length words - at → laid (at + 2) (set (set words at p.0) (at + 1) p.1) ≡ lay_pair p (laid at words)
  unfolding lay_pair
  pair_stored s = sym (rw (lt-ltb (at + 1) (length words) (omega arith)))

-- ---- the walk, by what the next pair is

module _ (greatest : ℕ) (card : List ℕ) (after : ℕ) (l : Laid) where
  pub walk_out : (left : ℕ) → left ≡ 0 → l ≡ lay_pairs (walk_from greatest 1 left card after) l
  unfolding walk_from lay_pairs
  walk_out left e = rw e

  -- where there is no next pair
  pub walk_none : (left : ℕ) → next_of greatest 1 card after ≡ Nothing → l ≡ lay_pairs (walk_from greatest 1 left card after) l
  unfolding walk_from on_next lay_pairs
  walk_none zero e = refl
  walk_none (suc left) e = rw e

  pub walk_refused : (left r : ℕ) → next_of greatest 1 card after ≡ Refused r → l ≡ lay_pairs (walk_from greatest 1 left card after) l
  unfolding walk_from on_next lay_pairs
  walk_refused zero r e = refl
  walk_refused (suc left) r e = rw e

  pub walk_goes_on : (left key value : ℕ) → 0 < left → next_of greatest 1 card after ≡ Pair key value
      → lay_pairs (walk_from greatest 1 left card after) l ≡ lay_pairs (walk_from greatest 1 (left - 1) card key) (lay_pair (key, value) l)
  unfolding walk_from on_next lay_pairs
  walk_goes_on zero key value h e = absurd (omega arith)
  walk_goes_on (suc left) key value h e = let q : suc left - 1 ≡ left = omega arith in rw (e, q)
