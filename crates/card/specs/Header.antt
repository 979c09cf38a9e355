-- Document 01, "The card" and rows 1 to 3 of "Refusal by place".
use Rattle.std.specs.Prelude.{List, ℕ, ◌+◌, ◌-◌, ◌*◌, ◌/◌, ◌%◌, ◌≤◌, length, get_or, eqb, ltb, ◌≡◌}
use Rattle.laws.specs.Cases.{pick}
use Rattle.card.specs.Layout.{least_nodes, greatest_nodes, limited}

-- N for a length of 8 + 24 × N words, N 4 to the greatest; 0 for any other length. "1: length not 8 + 24 × N, N 4 to 600"
unfoldable pub nodes_of_length : ℕ → ℕ → ℕ
nodes_of_length greatest len =
    pick (ltb len (8 + 24 * least_nodes)) 0 (pick (ltb (8 + 24 * limited greatest) len) 0 (pick (eqb ((len - 8) % 24) 0) ((len - 8) / 24) 0))

-- word i is v, or the refusal is r
abbrev pub must : List ℕ → ℕ → ℕ → ℕ → ℕ → ℕ
must card i v r next = pick (eqb (get_or card i 0) v) next r

-- "2: word 0 not 1. 3: words 1, 2, 3 or 5 to 7 not as above"; 0 where neither is due
unfoldable pub header_refusal : List ℕ → ℕ → ℕ
header_refusal card n = must card 0 1 2 (must card 1 n 3 (must card 2 8 3 (must card 3 24 3 (must card 5 0 3 (must card 6 0 3 (must card 7 0 3 0))))))

-- the refusals 1, 2 and 3 of a call on a card, in this order; 0 where none is due
unfoldable pub card_refusal : ℕ → List ℕ → ℕ
card_refusal greatest card = pick (eqb (nodes_of_length greatest (length card)) 0) 1 (header_refusal card (nodes_of_length greatest (length card)))

-- a card of so many words has n nodes, which are no more than the greatest N
pub record Sized (greatest len n : ℕ) : Type 0 where
  pub words : len ≡ 8 + 24 * n
  pub least : least_nodes ≤ n
  pub most : n ≤ greatest_nodes
  pub within : n ≤ greatest

-- words 0 to 3 and 5 to 7 of a formatted card with n nodes
pub record Formatted (card : List ℕ) (n : ℕ) : Type 0 where
  pub mark : get_or card 0 0 ≡ 1
  pub nodes : get_or card 1 0 ≡ n
  pub first : get_or card 2 0 ≡ 8
  pub each : get_or card 3 0 ≡ 24
  pub five : get_or card 5 0 ≡ 0
  pub six : get_or card 6 0 ≡ 0
  pub seven : get_or card 7 0 ≡ 0
