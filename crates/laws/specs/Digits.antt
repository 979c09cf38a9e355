-- The binary digits of a number, and what the operations of a machine word do to each of them. Assumes nothing.
use Rattle.std.specs.Prelude.{Bool, List, [], ◌∷◌, ℕ, zero, suc, ◌/◌, ◌%◌, eqb}

-- the k lowest digits of n, lowest first: true for 1
unfoldable pub digits_of : ℕ → ℕ → List Bool
digits_of zero n = []
digits_of (suc k) n = eqb (n % 2) 1 ∷ digits_of k (n / 2)
