-- The height of a card's table is one number: a tree has no two heights, and every tree that the card's words represent soundly
-- has the one that the check gives back. Document 02, W-214, calls it the depth of the line.
use mathlib.Core.Path.{◌≡◌, ap, sym, ◌∙◌}
use mathlib.Core.List.{List}
use mathlib.Core.Bool.{true, false}
use mathlib.Core.Option.{some, some-injective}
use Prim.Native.Nat.{ℕ, zero, suc, ◌+◌, ◌*◌, ◌≤◌}
use native.Mathlib.Omega.{arith}
use lib.ListN.{length}
use Rattle.card.specs.Layout.{greatest_nodes}
use Rattle.card_check.specs.Check.{Findings, table_check}
use Rattle.theory_check.proofs.Facts.{Facts}
use Rattle.theory_check.proofs.Soundness.{sound_accepted}
use Rattle.theory_tree.specs.Height.{Height, AllHeight}
use Rattle.theory_tree.specs.Tree.{Tree, Forest, leaf, node, one, more}
use Rattle.theory_tree.specs.WellFormed.{WellFormed}

mutual
  pub one_height : (h k : ℕ) (t : Tree) → Height h t → Height k t → h ≡ k
  one_height h k (leaf m ks vs) i j = omega arith
  one_height h k (node m true f) i j = one_heights h k f i j
  one_height zero k (node m false f) i j = absurd i
  one_height (suc h) zero (node m false f) i j = absurd j
  one_height (suc h) (suc k) (node m false f) i j = ap suc (one_heights h k f i j)

  pub one_heights : (h k : ℕ) (f : Forest) → AllHeight h f → AllHeight k f → h ≡ k
  one_heights h k (one t) i j = one_height h k t i j
  one_heights h k (more t x f) i j = one_height h k t i.0 j.0

pub same_height : (c : List ℕ) (n : ℕ) → length c ≡ 8 + 24 * n → n ≤ greatest_nodes → (s t : Tree) → WellFormed c s → WellFormed c t → (h k : ℕ) → Height h s → Height k t → h ≡ k
same_height c n len small s t v w h k i j = go (sound_accepted c n len small s v) (sound_accepted c n len small t w)
  where
    go : ((a : ℕ) × (f : Findings) × (table_check c n ≡ some (a, f)) × Facts c n s a f) → ((b : ℕ) × (g : Findings) × (table_check c n ≡ some (b, g)) × Facts c n t b g) → h ≡ k
    go (a, f, e, x) (b, g, q, y) =
        let same : a ≡ b = ap (λ (r : ℕ × Findings). r.0) (some-injective (a, f) (b, g) (sym e ∙ q)) in
        one_height h a s i x.level ∙ same ∙ one_height b k t y.level j
