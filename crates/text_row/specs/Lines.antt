-- NUMBERS AND LINES AS TEXT, byte by byte: what the lines of `list` and `insert_check` are made of.
use Rattle.std.specs.Prelude.{List, [], ◌∷◌, ◌++◌, ℕ, zero, suc, ◌^◌, ltb}
use Rattle.io.specs.Digits.{last_digits}
use Rattle.laws.specs.Cases.{pick}

-- ---- a number in decimal

-- the least number of digits, from k on, that hold n; the first number bounds the search, and n is enough (DecimalLaws,
-- `count_fewest`)
unfoldable pub digits_from : ℕ → ℕ → ℕ → ℕ
digits_from zero k n = k
digits_from (suc more) k n = pick (ltb n (10 ^ k)) k (digits_from more (suc k) n)

-- no zeros in front, and 0 is one digit
unfoldable pub digit_count : ℕ → ℕ
digit_count n = digits_from n 1 n

-- the bytes of a number in decimal, the most significant digit first
unfoldable pub decimal : ℕ → List ℕ
decimal n = last_digits 10 (digit_count n) n

-- ---- the lines

-- "Every line ends with one line feed."
unfoldable pub line_feed : List ℕ
line_feed = 10 ∷ []

-- " free "
unfoldable pub free_word : List ℕ
free_word = 32 ∷ 102 ∷ 114 ∷ 101 ∷ 101 ∷ 32 ∷ []

-- "refused "
unfoldable pub refused_word : List ℕ
refused_word = 114 ∷ 101 ∷ 102 ∷ 117 ∷ 115 ∷ 101 ∷ 100 ∷ 32 ∷ []

-- a line of a word, with the space after it, and a number
unfoldable pub number_line : List ℕ → ℕ → List ℕ
number_line word number = (word ++ decimal number) ++ line_feed

-- "Refused, it prints `refused ` and the number only."
unfoldable pub refusal_line : ℕ → List ℕ
refusal_line number = number_line refused_word number
