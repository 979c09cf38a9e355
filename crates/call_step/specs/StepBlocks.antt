-- The words of the state block after a step, by those before it. These are definitions.
use Rattle.std.specs.Prelude.{List, [], ◌∷◌, ◌++◌, map, Bool, ℕ, suc, length, set, take, drop, replicate, eqb}
use Rattle.laws.specs.Cases.{pick}
use Rattle.laws.specs.Lists.{before_zero, pad}
use Rattle.card.specs.Stores.{Store}
use Rattle.card_family.specs.Families.{family_count}
use Rattle.card_free.specs.NodeSet.{word_count, nodes_of}
use Rattle.change_plan.specs.Planning.{refused, balanced, prepared, with_all, without_all, last_of}
use Rattle.change_decide.specs.declared.Decision.{Decision}
use Rattle.change_layout.specs.LayOut.{needed, stores_by, cut_by}
use Rattle.call_change.specs.Updates.{FirstChange, next_change}
use Rattle.state.specs.Memory.{Memory, settled_totals}
use Rattle.state.specs.Steps.{held_by}
use Rattle.state.specs.Block.{depth_at, free_at, places_at, totals_at, values_at, block_word, part, doing_in, memory_in, doing_words}
use Rattle.state.specs.Blocks.{over, words_of}
use Rattle.state.specs.declared.Doing.{Doing}
use Rattle.state.specs.declared.Held.{Held}
use Rattle.state.specs.declared.Held.TheVariants.{Nothing, Formatting, Task as HeldTask}
use Rattle.state.specs.Answer.{Answer}
use Rattle.state.specs.Answer.{Stored, Ready, Absent, Value, Refused}

-- "or gives the final answer and makes the state idle": nothing is being done, made, planned or cut out; the rows stand
unfoldable pub idled_block : List ℕ → List ℕ
idled_block b = over b 2 (replicate 9 0)

-- word 5 after the last store of a change: where a first change was in hand, the call is decided
abbrev pub settled_word : ℕ → ℕ
settled_word w = pick (eqb w 1) 2 w

-- a block with other totals
abbrev pub totalled : List ℕ → List ℕ → List ℕ
totalled b totals = over b totals_at totals

-- a change is made: word 5, and the totals, where that was a first change ("changed at the very step that puts a pair in or takes it out":
-- document 02, W-204)
unfoldable pub settled_block : List ℕ → List ℕ
settled_block b =
    totalled (set b 5 (settled_word (block_word b 5)))
    (settled_totals (doing_in (block_word b 2) (block_word b 3) (block_word b 4) (block_word b 5)) (part b totals_at family_count))

-- so many stores of the plan are made, and these are to come; after the last one "nodes cut out of the tree are free"
unfoldable pub played_block : List ℕ → ℕ → List Store → List ℕ
played_block b made (s ∷ rest) = set b 6 made
played_block b made [] =
    totalled (over (set (set b 6 made) 5 (settled_word (block_word b 5))) 8
    (0 ∷ 0 ∷ 0 ∷ words_of word_count (with_all (before_zero (part b 8 3)) (nodes_of (part b free_at word_count)))))
    (settled_totals (memory_in b).doing (memory_in b).totals)

-- words at the front of a row, over those that were there
abbrev pub at_front : List ℕ → List ℕ → List ℕ
at_front words row = words ++ drop (length words) row

-- a change is planned: the node given last, what is being done, no store made, how many there are, what they cut out, the nodes free
-- then, the places and values of the stores, and the depth and the totals that were there
unfoldable pub planned_block : List ℕ → Doing → List Store → List Bool → ℕ → List ℕ → List ℕ
planned_block b doing stores free last cut =
    block_word b 0 ∷ last ∷ doing_words doing
    ++ (0 ∷ length stores ∷ pad 3 cut
    ++ (words_of word_count free
    ++ (at_front (map (λ s. s.0) stores) (part b places_at 73) ++ (at_front (map (λ s. s.1) stores) (part b values_at 73) ++ drop depth_at b))))

-- a change that is decided, planned over the nodes given
unfoldable pub planned_over : List ℕ → List ℕ → Doing → Decision → List ℕ → List ℕ
planned_over card b doing d nodes =
    planned_block b doing (stores_by card d nodes) (without_all (take (needed d) nodes) (nodes_of (part b free_at word_count)))
    (last_of (block_word b 1) (take (needed d) nodes)) (cut_by card d)

-- planned, and its first store made
unfoldable pub first_stored : List ℕ → FirstChange → List ℕ
first_stored b f =
    elim f.preparation [
      | refused ↦ b
      | balanced ↦ b
      | prepared stores free last cut ↦ played_block (planned_block b f.doing stores free last cut) 1 (drop 1 stores)
    ]

-- a store made: of formatting, of a change planned just now, or of the change in hand
unfoldable pub stored_block : List ℕ → List ℕ → Memory → Held → List Store → List ℕ
stored_block card b m Nothing rest = b
stored_block card b m (Formatting made) rest = set b 3 (suc made)
stored_block card b m (HeldTask task) [] = first_stored b (next_change card m.nodes m.free m.last m.doing task)
stored_block card b m (HeldTask task) (s ∷ rest) = played_block b (suc (block_word b 6)) rest

-- by the answer: "A refusal .. hands the state back unchanged", every word of it
unfoldable pub step_block : List ℕ → List ℕ → Answer → List ℕ
step_block card b (Stored place) = stored_block card b (memory_in b) (held_by (memory_in b).doing) (memory_in b).rest
step_block card b Ready = idled_block b
step_block card b Absent = idled_block b
step_block card b (Value v) = idled_block b
step_block card b (Refused r) = b
