-- A rewrite: the part o of a table, in the context C, gives way to the part s, whose root and some nodes below it are new.
-- Each change of document 01 is one; this record holds what is to be shown of it, and no more.
use mathlib.Core.Path.{◌≡◌}
use mathlib.Core.List.{List, [], ◌∷◌}
use Prim.Native.Nat.{ℕ, ◌+◌, ◌≤◌, ◌<◌}
use lib.ListN.{length}
use Rattle.card.specs.Stores.{NewNode}
use Rattle.card.proofs.Stores.{AllHaveWords}
use Rattle.laws.specs.Totals.{total}
use Rattle.theory_tree.specs.Pairs.{pairs}
use Rattle.theory_tree.proofs.Pairs.{InRange}
use Rattle.theory_tree.proofs.Path.{own_violation}
use Rattle.theory_tree.specs.Represent.{Represents}
use Rattle.theory_tree.specs.Height.{Height}
use Rattle.theory_tree.specs.Tree.{Tree, node_total}
use Rattle.theory_tree.proofs.Tree.{Context, top, down}
use Rattle.theory_tree.specs.Violations.{violations, Widths, RootOk, table_violations}

-- the widths of a part, as the root of the table or below it
abbrev pub Shape : Context → Tree → Type 0
Shape top s = RootOk s
Shape (down C m g l r) s = Widths s

-- the violations of a part, as the root of the table or below it
abbrev pub violations_in : Context → Tree → ℕ
violations_in top s = table_violations s
violations_in (down C m g l r) s = violations s

-- and those of its root node itself
abbrev pub own_in : Context → Tree → ℕ
own_in top s = 0
own_in (down C m g l r) s = own_violation s

-- heights stay, but that of the whole table may change
abbrev pub SameHeight : Context → ℕ → ℕ → Type 0
SameHeight top h h' = Unit
SameHeight (down C m g l r) h h' = h' ≡ h

abbrev pub AllFew : List NewNode → Type 0
AllFew [] = Unit
AllFew (X ∷ Xs) = ((length X.keys ≤ 11) × (length X.values ≤ 11)) × AllFew Xs

abbrev pub numbers : List NewNode → List ℕ
numbers [] = []
numbers (X ∷ Xs) = X.number ∷ numbers Xs

pub record Rewrite (C : Context) (o s : Tree) (nodes : List NewNode) (cut : List ℕ) : Type 0 where
  -- it holds the same pairs, in the same range
  pub range : (a b : ℕ) → 0 < a → InRange a b o → InRange a b s
  pub same_pairs : (w : ℕ × ℕ → ℕ) → total w (pairs s) ≡ total w (pairs o)
  pub height : (h : ℕ) → Height h o → (h' : ℕ) × Height h' s × SameHeight C h h'
  pub shape : Shape C s
  -- no violation is left but that of its root, if that is one
  pub settled : violations_in C s ≡ own_in C s
  pub at_most_one : own_in C s ≤ 1
  -- its nodes are those of o without the ones cut out, and the new ones
  pub same_numbers : (w : ℕ → ℕ) → node_total w s + total w cut ≡ node_total w o + total w (numbers nodes)
  pub few : AllFew nodes
  -- where the old nodes still stand and the new ones are written, the card represents it
  pub represented : (c : List ℕ) → Represents c o → AllHaveWords c nodes → Represents c s
