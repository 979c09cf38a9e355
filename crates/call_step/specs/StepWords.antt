-- Every word of the state block after a step, by the words before it and by what the step is due to leave. These are definitions.
use Rattle.std.specs.Prelude.{List, [], ◌∷◌, ◌++◌, map, ℕ, suc, length, get_or, set, drop, eqb}
use Rattle.laws.specs.Cases.{pick}
use Rattle.laws.specs.Lists.{pad}
use Rattle.card.specs.Stores.{Store}
use Rattle.card_free.specs.NodeSet.{word_count}
use Rattle.state.specs.Memory.{Memory}
use Rattle.state.specs.Steps.{Step}
use Rattle.state.specs.Block.{depth_at, places_at, values_at, block_word, part, memory_in, doing_words}
use Rattle.state.specs.Blocks.{over, words_of}
use Rattle.state.specs.Answer.{Answer}
use Rattle.state.specs.Answer.{Stored, Ready, Absent, Value, Refused}
use Rattle.call_step.specs.StepBlocks.{idled_block, settled_word, totalled, at_front}

-- a store of the change in hand, which leaves this state: word 6 counts it; after the last one word 5 says that a first change is
-- made, no node is cut out, and the free nodes and the totals are those of the state
unfoldable pub hand_words : List ℕ → Memory → List Store → List ℕ
hand_words b m (s ∷ rest) = set b 6 (suc (block_word b 6))
hand_words b m [] =
    totalled (over (set (set b 6 (suc (block_word b 6))) 5 (settled_word (block_word b 5))) 8 (0 ∷ 0 ∷ 0 ∷ words_of word_count m.free)) m.totals

-- the first of these stores, which leaves this state: its words up to the free nodes, the stores at the front of the two rows, the depth
-- that was there, and its totals
unfoldable pub first_words : List ℕ → List Store → Memory → List ℕ
first_words b stores m =
    totalled (block_word b 0 ∷ m.last ∷ doing_words m.doing
    ++ (1 ∷ length stores ∷ pad 3 m.cut
    ++ (words_of word_count m.free
    ++ (at_front (map (λ s. s.0) stores) (part b places_at 73) ++ (at_front (map (λ s. s.1) stores) (part b values_at 73) ++ drop depth_at b)))))
    m.totals

-- a store that leaves this state, where these were to come: none, so that it is the first of a change planned just now
unfoldable pub stored_words : List ℕ → Store → Memory → List Store → List ℕ
stored_words b s m [] = first_words b (s ∷ m.rest) m
stored_words b s m (next ∷ rest) = hand_words b m m.rest

-- by the answer. A store is the word that then stands in its place; of formatting word 3 counts it. "A refusal .. hands the state
-- back unchanged", every word of it.
unfoldable pub step_words : List ℕ → Step → Answer → List ℕ
step_words b due (Stored place) =
    pick (eqb (block_word b 2) 1) (set b 3 (suc (block_word b 3)))
    (stored_words b (place, get_or due.card place 0) due.memory (memory_in b).rest)
step_words b due Ready = idled_block b
step_words b due Absent = idled_block b
step_words b due (Value v) = idled_block b
step_words b due (Refused r) = b
