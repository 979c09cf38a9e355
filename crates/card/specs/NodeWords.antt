-- What a node's 24 words hold, word by word, and what a store does to it.
use Rattle.std.specs.Prelude.{◌≡◌, List, ℕ, ◌+◌, ◌*◌, ◌≤◌, ◌<◌, length, get_or}
use Rattle.card.specs.Layout.{word}

-- node m lies on the card
pub record OnCard (c : List ℕ) (m : ℕ) : Type 0 where
  pub pos : 0 < m
  pub fits : 8 + 24 * m ≤ length c

-- the 24 words of node m: kind k, eleven words of a, eleven of b (0 past the ends), and 0
pub record NodeWords (c : List ℕ) (m k : ℕ) (a b : List ℕ) : Type 0 where
  pub on : OnCard c m
  pub kind : word c m 0 ≡ k
  pub low : (j : ℕ) → j < 11 → word c m (1 + j) ≡ get_or a j 0
  pub high : (j : ℕ) → j < 11 → word c m (12 + j) ≡ get_or b j 0
  pub last : word c m 23 ≡ 0
