-- Document 01, "Dumps and the list program": "opens and repairs it in memory".
use Rattle.std.specs.Prelude.{List, ◌++◌, ℕ, zero, suc, length, drop}
use Rattle.laws.specs.Cases.{pick}
use Rattle.state.specs.Memory.{Memory}
use Rattle.state.specs.Steps.{is_idle}
use Rattle.state.specs.Block.{memory_in}
use Rattle.call_open.specs.Opening.{open_of}
use Rattle.call_step.specs.Calls.{step_of, repair_steps}
use Rattle.card_dump.specs.Dump.{words_for, dump_words, read_answer}
use Rattle.card_dump.specs.Answer.{Answer}
use Rattle.card_dump.specs.Answer.{Length, Refused as ReadRefused}

-- the card and the state after a repair
pub record Repaired : Type 0 where
  pub card : List ℕ
  pub memory : Memory

-- steps, at most so many, until the state is idle. Of each definition the first number is the greatest N
unfoldable pub repaired_card : ℕ → ℕ → List ℕ → Memory → Repaired
repaired_card greatest zero card m = record { card = card; memory = m }
repaired_card greatest (suc k) card m = pick (is_idle m.doing) (record { card = card; memory = m }) (repaired_card greatest k (step_of greatest 1 card m).card (step_of greatest 1 card m).memory)

-- a card that was opened, once its repair is done
unfoldable pub opened_card : ℕ → List ℕ → Repaired
opened_card greatest card = repaired_card greatest repair_steps card (open_of greatest card).memory

-- the card and the state block as they are in code
unfoldable pub left_by : List ℕ → List ℕ → Repaired
left_by card block = record { card = card; memory = memory_in block }

-- the words that a program for cards up to some greatest N has a dump read into
abbrev pub card_room : ℕ → ℕ
card_room greatest = words_for greatest

-- the words that a dump of a card up to some greatest N was read into, once its card was opened and repaired: "those of the lent slice beyond it are untouched"
unfoldable pub opened_read : ℕ → List ℕ → List ℕ → Answer → List ℕ
opened_read greatest dump lent (ReadRefused r) = lent
opened_read greatest dump lent (Length size) = (opened_card greatest (dump_words size dump)).card ++ drop size lent

unfoldable pub opened_over : ℕ → List ℕ → List ℕ → List ℕ
opened_over greatest dump lent = opened_read greatest dump lent (read_answer greatest dump (length lent))
