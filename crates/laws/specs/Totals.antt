-- Totals of a weight over a list. With the indicator of a number as the weight, a total counts how often that number
-- is there, so that "each once", "none" and "the same ones" are facts of arithmetic.
use Rattle.std.specs.Prelude.{List, [], ◌∷◌, ℕ, ◌+◌, eqb}
use Rattle.laws.specs.Cases.{pick}

-- 1 where the two are equal, else 0
unfoldable pub indicator : ℕ → ℕ → ℕ
indicator x y = pick (eqb x y) 1 0

module _ {A : Type 0} where
  abbrev pub total : (A → ℕ) → List A → ℕ
  total w [] = 0
  total w (x ∷ xs) = w x + total w xs
