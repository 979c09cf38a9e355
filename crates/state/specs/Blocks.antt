-- The words of a block after a call, by those before it. These are definitions.
use Rattle.std.specs.Prelude.{Bool, List, [], ◌∷◌, ◌++◌, ℕ, zero, suc, ◌+◌, ◌*◌, length, set, take, drop, replicate}
use Rattle.laws.specs.Bits.{bit}
use Rattle.card_free.specs.NodeSet.{word_count}
use Rattle.state.specs.Memory.{Memory}
use Rattle.state.specs.declared.Doing.{Doing}
use Rattle.state.specs.Begun.{Begun}
use Rattle.state.specs.Begun.{Idle as OpenedIdle, Started, Refused}
use Rattle.state.specs.Block.{depth_at, back_at, rest_words, doing_words}

-- a block with other words from word `from` on
abbrev pub over : List ℕ → ℕ → List ℕ → List ℕ
over block from words = take from block ++ (words ++ drop (from + length words) block)

-- the number of which these are the binary digits, lowest first
unfoldable pub number_of : List Bool → ℕ
number_of [] = 0
number_of (b ∷ bits) = bit b + 2 * number_of bits

-- "The free nodes are one bit each": so many words, of 32 bits each
unfoldable pub words_of : ℕ → List Bool → List ℕ
words_of zero bits = []
words_of (suc k) bits = number_of (take 32 bits) ∷ words_of k (drop 32 bits)

-- all words of a state with no change planned, which has these words of free nodes: N, the node given last, what is being done, no
-- store made or planned, no node cut out, rows of zeros, no depth, and these totals with all words after them
unfoldable pub resting_words : ℕ → List ℕ → ℕ → List ℕ → Doing → List ℕ
resting_words n free last totals doing = n ∷ last ∷ doing_words doing ++ (0 ∷ 0 ∷ 0 ∷ 0 ∷ 0 ∷ free ++ (replicate rest_words 0 ++ totals))

-- after opening and starting to format a card with one line: the words after the 0 that says so stand
unfoldable pub resting_block : List ℕ → Memory → List ℕ
resting_block before m = resting_words m.nodes (words_of word_count m.free) m.last (m.totals ++ 0 ∷ drop back_at before) m.doing

-- something else is being done: words 2 to 5
unfoldable pub begun_block : List ℕ → Doing → List ℕ
begun_block block doing = over block 2 (doing_words doing)

-- after starting an update, which passed so many internal nodes: "A refusal .. hands the state back unchanged", every word of it
unfoldable pub started_block : Begun → List ℕ → Doing → ℕ → List ℕ
started_block OpenedIdle block doing depth = set (begun_block block doing) depth_at depth
started_block Started block doing depth = set (begun_block block doing) depth_at depth
started_block (Refused r) block doing depth = block
