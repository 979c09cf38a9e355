-- Document 01, "The changes", insert and delete: what an update decides in the leaf that its key leads to. `lay_out` makes the change of
-- it, so that what is decided says nothing of free nodes (`next_decided`, proofs/Decided).
use Rattle.std.specs.Prelude.{Bool, List, ℕ, ◌+◌, get_or, Option, Some, None}
use Rattle.card.specs.Layout.{node_at}
use Rattle.change_layout.specs.LayOut.{lay_out}
use Rattle.change_decide.specs.Decide.{decided_repair}
use Rattle.change_decide.specs.declared.Decision.{Decision}
use Rattle.change_decide.specs.declared.Decision.TheVariants.{Refused, Balanced, PutPair, ClearKey, SplitLeaf}
use Rattle.walk.specs.Descent.{slot_of}
use Rattle.state.specs.declared.Doing.{Doing}
use Rattle.state.specs.declared.Doing.TheVariants.{Inserting, Deleting}
use Rattle.state.specs.declared.Phase.TheVariants.{InHand}
use Rattle.state.specs.declared.Task.{Task}
use Rattle.state.specs.declared.Task.TheVariants.{PutIn, TakeOut, Repair}
use Rattle.state.specs.Answer.{given}
use Rattle.state.specs.declared.Answer.{Answer}
use Rattle.state.specs.declared.Answer.TheVariants.{Absent, Value}
use Rattle.call_change.specs.Updates.{landing, Reason, held, slot, full, insert_reason, FirstChange}
use Rattle.call_change.specs.declared.First.{First}
use Rattle.walk.specs.declared.Landing.{Landing}

-- the pair goes into an empty slot of leaf m, or the leaf is split; nothing where the key is held
unfoldable pub placed : ℕ → ℕ → ℕ → ℕ → Reason → Decision
placed key value m link (held v) = Balanced
placed key value m link (slot i) = PutPair m i key value
placed key value m link full = SplitLeaf m link key value

-- "Insert, key held: answers the held value, no store .. Key absent: answers absent once done."
unfoldable pub insert_answer : Reason → Answer
insert_answer (held v) = Value v
insert_answer (slot i) = Absent
insert_answer full = Absent

abbrev pub insert_decided : ℕ → ℕ → ℕ → ℕ → Reason → First
insert_decided key value m link reason = record { doing = Inserting key value InHand; answer = insert_answer reason; decision = placed key value m link reason }

-- "Delete: key word to 0, answers the value; absent and no store if not held."
unfoldable pub delete_decided : ℕ → ℕ → List ℕ → Option ℕ → First
delete_decided key m leaf (Some i) =
    record { doing = Deleting key InHand (get_or leaf (12 + i) 0); answer = Value (get_or leaf (12 + i) 0); decision = ClearKey m i }
delete_decided key m leaf None = record { doing = Deleting key InHand 0; answer = Absent; decision = Balanced }

-- in the leaf that the key leads to; where the way down is refused the step is refused too
unfoldable pub decided_in : List ℕ → Doing → (ℕ → ℕ → List ℕ → First) → Option Landing → First
decided_in card doing in_leaf None = record { doing = doing; answer = Absent; decision = Refused }
decided_in card doing in_leaf (Some l) = in_leaf l.node l.link (node_at card l.node)

abbrev pub insert_at : ℕ → ℕ → ℕ → ℕ → List ℕ → First
insert_at key value m link leaf = insert_decided key value m link (insert_reason leaf key)

abbrev pub delete_at : ℕ → ℕ → ℕ → List ℕ → First
delete_at key m link leaf = delete_decided key m leaf (slot_of leaf key)

-- what the next step of a task decides, for a state that is doing this
unfoldable pub decided : List ℕ → ℕ → Doing → Task → First
decided card n doing (PutIn key value) = decided_in card doing (insert_at key value) (landing card n key)
decided card n doing (TakeOut key) = decided_in card doing (delete_at key) (landing card n key)
decided card n doing (Repair key answer) = record { doing = doing; answer = answer; decision = decided_repair card n key }

-- the change of it, over the nodes that are free and the one given last
abbrev pub laid_first : List ℕ → First → List Bool → ℕ → FirstChange
laid_first card f free last = record { doing = f.doing; final = given f.answer; preparation = lay_out card f.decision free last }
