-- "On a table formatted or opened by these calls and worked by them alone": what demands 2 and 3 speak of.
use Rattle.std.specs.Prelude.{◌≡◌, List, ℕ, length}
use Rattle.std.proofs.Math.Option.{Option, none, some}
use Rattle.card.specs.Replies.{Reply, holds, absent}
use Rattle.theory_tree.specs.Pairs.{pairs, lookup}
use Rattle.theory_tree.specs.Tree.{Tree}
use Rattle.theory_tree.specs.WellFormed.{Balanced}
use Rattle.demands.specs.Table.{Table}
use Rattle.demands.specs.Events.{Event, World, run, Words, Begins}
use Rattle.demands.specs.Book.{Book, book, kept, empty}

-- what the dictionary answers, to a find, an insert and a delete alike: the value held under the key, or "absent"
unfoldable pub dictionary : Option ℕ → Reply
dictionary none = absent
dictionary (some v) = holds v

-- What is claimed of every card, state and book that a list leaves. Power may go anywhere in the list (`cut`), also while a repair
-- runs, and as often as it likes.
abbrev pub Always : (T : Table) → (World T → Book → Type 0) → Type 0
Always T Claim = (w : World T) (l : List (ℕ × ℕ)) → Begins T w l → (es : List Event) → Words es → Claim (run T es w) (kept T es w (book l empty))

-- "the table is then balanced, its map exactly the pairs": every key has the same value in both or is in neither, and there are
-- as many pairs
pub record BalancedWith (c : List ℕ) (l : List (ℕ × ℕ)) : Type 0 where
  pub table : Tree
  pub balanced : Balanced c table
  pub alike : (key : ℕ) → lookup key (pairs table) ≡ lookup key l
  pub as_many : length (pairs table) ≡ length l
