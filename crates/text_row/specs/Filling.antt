-- A row of bytes that is being filled. These are definitions.
use Rattle.std.specs.Prelude.{List, [], ◌∷◌, ℕ, suc, set}

-- where the next byte goes, and the row
pub record Filled : Type 0 where
  pub at : ℕ
  pub row : List ℕ

abbrev pub filled : ℕ → List ℕ → Filled
filled at row = record { at = at; row = row }

-- one byte after the other
unfoldable pub fill : List ℕ → Filled → Filled
fill [] f = f
fill (byte ∷ bytes) f = fill bytes (filled (suc f.at) (set f.row f.at byte))
