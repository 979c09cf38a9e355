-- Document 01, "The changes", insert and delete: what an update makes of the leaf that its key leads to.
use Rattle.std.specs.Prelude.{Bool, true, not, List, [], ◌∷◌, ℕ, ◌+◌, get_or, ltb, Option, Some, None}
use Rattle.laws.specs.Sorting.{sort}
use Rattle.card.specs.Layout.{place, node_at, leaf_pairs}
use Rattle.walk.specs.Descent.{slot_of, way, landing_of}
use Rattle.change_plan.specs.Change.{split_leaf}
use Rattle.change_plan.specs.Planning.{Preparation, refused, balanced, prepared, giving, first, second, third}
use Rattle.change_layout.specs.Mending.{next_repair}
use Rattle.state.specs.declared.Doing.{Doing}
use Rattle.state.specs.declared.Doing.TheVariants.{Inserting, Deleting}
use Rattle.state.specs.declared.Phase.TheVariants.{InHand}
use Rattle.state.specs.declared.Task.{Task}
use Rattle.state.specs.declared.Task.TheVariants.{PutIn, TakeOut, Repair}
use Rattle.state.specs.Answer.{Answer, Absent, Value, given}
use Rattle.walk.specs.declared.Landing.{Landing}

-- the leaf that a key leads to
unfoldable pub landing : List ℕ → ℕ → ℕ → Option Landing
landing card n key = landing_of card (way card n key)

-- What an insert finds in its leaf: the key with its value, an empty slot ("the lowest empty slot"), or neither.
pub data Reason : Type 0 where
  held : ℕ → Reason
  slot : ℕ → Reason
  full : Reason

unfoldable pub empty_reason : Option ℕ → Reason
empty_reason (Some i) = slot i
empty_reason None = full

unfoldable pub reason_in : List ℕ → Option ℕ → Reason
reason_in node (Some i) = held (get_or node (12 + i) 0)
reason_in node None = empty_reason (slot_of node 0)

unfoldable pub insert_reason : List ℕ → ℕ → Reason
insert_reason node key = reason_in node (slot_of node key)

-- the next change, what is being done from then on, and the final answer where there is nothing to change
pub record FirstChange : Type 0 where
  pub doing : Doing
  pub final : Answer
  pub preparation : Preparation

-- "Insert, key held: answers the held value, no store." "With an empty slot: value first, then key". "Leaf full: the 12 pairs .."
unfoldable pub insert_change : ℕ → ℕ → List Bool → ℕ → ℕ → ℕ → List ℕ → Reason → FirstChange
insert_change key value free last m link node (held v) = record { doing = Inserting key value InHand; final = Value v; preparation = balanced }
insert_change key value free last m link node (slot i) =
    record { doing = Inserting key value InHand; final = Absent; preparation = prepared ((place m (12 + i), value) ∷ (place m (1 + i), key) ∷ []) free last [] }
insert_change key value free last m link node full =
    record { doing = Inserting key value InHand; final = Absent; preparation = giving 3 free last (λ ms. split_leaf m link (sort ((key, value) ∷ leaf_pairs node)) (first ms) (second ms) (third ms)) }

-- "Delete: key word to 0, answers the value; absent and no store if not held."
unfoldable pub delete_change : ℕ → List Bool → ℕ → ℕ → List ℕ → Option ℕ → FirstChange
delete_change key free last m node (Some i) =
    record { doing = Deleting key InHand (get_or node (12 + i) 0); final = Value (get_or node (12 + i) 0); preparation = prepared ((place m (1 + i), 0) ∷ []) free last [] }
delete_change key free last m node None = record { doing = Deleting key InHand 0; final = Absent; preparation = balanced }

-- what the two make of the leaf that their key leads to
abbrev pub insert_in : ℕ → ℕ → List Bool → ℕ → ℕ → ℕ → List ℕ → FirstChange
insert_in key value free last m link leaf = insert_change key value free last m link leaf (insert_reason leaf key)

abbrev pub delete_in : ℕ → List Bool → ℕ → ℕ → ℕ → List ℕ → FirstChange
delete_in key free last m link leaf = delete_change key free last m leaf (slot_of leaf key)

-- where the way down is refused no change can be planned, and nothing is answered
unfoldable pub no_way : Doing → FirstChange
no_way doing = record { doing = doing; final = Absent; preparation = refused }

-- the first change of an update, in that leaf
unfoldable pub in_leaf : List ℕ → Doing → (ℕ → ℕ → List ℕ → FirstChange) → Option Landing → FirstChange
in_leaf card doing change None = no_way doing
in_leaf card doing change (Some l) = change l.node l.link (node_at card l.node)

-- the next change of a task, for a state that is doing this; "Repairs go on until balanced", and then the answer is given
unfoldable pub next_change : List ℕ → ℕ → List Bool → ℕ → Doing → Task → FirstChange
next_change card n free last doing (PutIn key value) = in_leaf card doing (insert_in key value free last) (landing card n key)
next_change card n free last doing (TakeOut key) = in_leaf card doing (delete_in key free last) (landing card n key)
next_change card n free last doing (Repair key answer) = record { doing = doing; final = given answer; preparation = next_repair card n key free last }

-- "A splitting insert needs j + 5 free nodes."
abbrev pub split_need : ℕ → ℕ
split_need j = j + 5

-- whether an insert has the free nodes that it needs, where there are so many, by what it finds in its leaf
unfoldable pub room_for : ℕ → ℕ → Reason → Bool
room_for room run (held v) = true
room_for room run (slot i) = true
room_for room run full = not (ltb room (split_need run))

unfoldable pub start_room : List ℕ → ℕ → ℕ → Option Landing → Bool
start_room card key room None = true
start_room card key room (Some l) = room_for room l.run (insert_reason (node_at card l.node) key)
