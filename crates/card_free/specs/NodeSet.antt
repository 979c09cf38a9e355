-- The free nodes as a list of Bools, of which place m tells of node m, and the next free node. Assumes nothing: these are definitions.
use Rattle.std.specs.Prelude.{Bool, true, false, List, [], ◌∷◌, ◌++◌, ℕ, suc, ◌+◌, ◌-◌, ◌*◌, drop, replicate, Option, Some, None}
use Rattle.std.specs.Option.{option_or}
use Rattle.laws.specs.Digits.{digits_of}

-- How many words of 32 bits a set has; the code's `WORDS` says the same.
abbrev pub word_count : ℕ
word_count = 82

-- How many bits that makes. There is no node 0: its bit only spares a subtraction.
abbrev pub capacity : ℕ
capacity = word_count * 32

-- "The free nodes are one bit each": the bits of all words, lowest first.
unfoldable pub nodes_of : List ℕ → List Bool
nodes_of [] = []
nodes_of (word ∷ words) = digits_of 32 word ++ nodes_of words

-- Nodes 0 to n.
unfoldable pub up_to : ℕ → List Bool
up_to n = replicate (suc n) true ++ replicate (capacity - 1 - n) false

-- Nodes 1 to n.
unfoldable pub all_nodes : ℕ → List Bool
all_nodes n = false ∷ replicate n true ++ replicate (capacity - 1 - n) false

-- How many nodes are free: "Steps and refusal 8 go by these bits."
unfoldable pub count_true : List Bool → ℕ
count_true [] = 0
count_true (true ∷ bits) = suc (count_true bits)
count_true (false ∷ bits) = count_true bits

-- the first true of a list whose first place has the number a
unfoldable pub first_true : List Bool → ℕ → Option ℕ
first_true [] a = None
first_true (true ∷ bits) a = Some a
first_true (false ∷ bits) a = first_true bits (suc a)

-- the first free node at or after a
unfoldable pub first_from : List Bool → ℕ → Option ℕ
first_from bits a = first_true (drop a bits) a

-- "A change takes the next free node after the one given last, going round from N to 1".
-- Nodes above N are never free, so the search need not know N.
unfoldable pub next_free : List Bool → ℕ → Option ℕ
next_free bits last = option_or (first_from bits (last + 1)) (first_from bits 1)
