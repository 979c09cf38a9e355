-- Document 02, W-207, "Turkeys and layers on one card": "A second form of card carries mark 2: word 5 is the second line's root, words 6
-- and 7 the most nodes each line may use. Each line has its own tree".
use Rattle.std.specs.Prelude.{Bool, ◌&&◌, ◌||◌, List, [], ◌∷◌, ◌++◌, ℕ, ◌+◌, ◌≤◌, get_or, drop, eqb}
use Rattle.laws.specs.Cases.{pick}
use Rattle.card.specs.Layout.{root_place}

-- "line number not one the card has": with mark 1 a card has line 1, with mark 2 lines 1 and 2
unfoldable pub has_line : List ℕ → ℕ → Bool
has_line card line = eqb line 1 || (eqb line 2 && eqb (get_or card 0 0) 2)

-- a line's number, 1 or 2
pub record IsLine (line : ℕ) : Type 0 where
  pub from : 1 ≤ line
  pub to : line ≤ 2

-- the word of a line's root: word 4, and word 5 of the second line
abbrev pub root_of : ℕ → ℕ
root_of line = 3 + line

-- A line's table as one of its own: the card with the line's root in word 4, under the header that document 01 gives a card. Nothing
-- below a call looks at any other word of the header.
abbrev pub header_for : ℕ → List ℕ → List ℕ
header_for line card = 1 ∷ get_or card 1 0 ∷ get_or card 2 0 ∷ get_or card 3 0 ∷ get_or card (root_of line) 0 ∷ 0 ∷ 0 ∷ 0 ∷ []

unfoldable pub seen : ℕ → List ℕ → List ℕ
seen line card = header_for line card ++ drop 8 card

-- where a store of that table stands on the card
unfoldable pub on_line : ℕ → ℕ → ℕ
on_line line place = pick (eqb place root_place) (root_of line) place
