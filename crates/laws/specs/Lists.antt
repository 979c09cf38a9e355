-- Lists of numbers: padded with 0 to a length, read before the first 0, taken apart at a seam.
use Rattle.std.specs.Prelude.{List, [], ◌∷◌, ◌++◌, Bool, true, ◌&&◌, ℕ, zero, suc, ◌-◌, length, replicate, eqb}

-- the list, followed by as many 0 as make it n long
abbrev pub pad : ℕ → List ℕ → List ℕ
pad n l = l ++ replicate (n - length l) 0

-- the numbers before the first 0
abbrev pub before_zero : List ℕ → List ℕ
before_zero [] = []
before_zero (zero ∷ l) = []
before_zero (suc x ∷ l) = suc x ∷ before_zero l

-- all 0; all 0 from the n-th on
abbrev pub all_zero : List ℕ → Bool
all_zero [] = true
all_zero (x ∷ l) = eqb x 0 && all_zero l

abbrev pub zero_after : ℕ → List ℕ → Bool
zero_after zero l = all_zero l
zero_after (suc n) [] = true
zero_after (suc n) (x ∷ l) = zero_after n l
