-- The first step of an update, by what its leaf holds.
use mathlib.Core.Path.{◌≡◌}
use mathlib.Core.List.{List, [], ◌∷◌}
use mathlib.Core.Bool.{Bool, true, false, not}
use Prim.Native.Nat.{ℕ, ◌+◌, ◌≤◌, ◌<◌}
use lib.ListN.{length, get_or}
use lib.Dec.{ltb}
use borrow.Author.Tests.{lt-ltb}
use Rattle.card.specs.Layout.{place, node_at, leaf_pairs}
use Rattle.change_plan.specs.Change.{split_leaf}
use Rattle.change_plan.specs.Planning.{giving, first, second, third, balanced, prepared}
use Rattle.walk.specs.Descent.{slot_of}
use Rattle.laws.proofs.Cases.{order, impossible}
use Rattle.laws.specs.Sorting.{sort}
use Rattle.demands.specs.Way.{leaf_full}
use Rattle.demands.proofs.WayDown.{slot_found, full_is}
use Rattle.card.specs.Header.{Sized}
use Rattle.call_step.specs.Calls.{step_prepared, step_begin}
use Rattle.state.specs.Memory.{Memory}
use Rattle.call_change.specs.Updates.{landing, empty_reason, reason_in, insert_reason, insert_change, delete_change, split_need, room_for, start_room, in_leaf, next_change}
use Rattle.state.specs.declared.Doing.TheVariants.{Inserting, Deleting}
use Rattle.state.specs.declared.Phase.TheVariants.{NotBegun, InHand}
use Rattle.state.specs.declared.Task.TheVariants.{PutIn, TakeOut}
use Rattle.state.specs.Answer.{Absent, Value}
use Rattle.std.specs.Prelude.{Some, None}
use Rattle.walk.proofs.DescentLaws.{landing_at}

module _ (greatest : ℕ) (c : List ℕ) (n key : ℕ) (m link run : ℕ) (land : landing c n key ≡ landing_at m link run) where
  module _ (value : ℕ) (free : List Bool) (last : ℕ) (mem : Memory) where
    pub put_held : (i : ℕ) → slot_of (node_at c m) key ≡ Some i
        → step_begin c mem (next_change c n free last (Inserting key value NotBegun) (PutIn key value))
        ≡ step_prepared c mem (Inserting key value InHand) (Value (get_or (node_at c m) (12 + i) 0)) balanced
    unfolding step_begin next_change in_leaf insert_reason reason_in insert_change
    put_held i e = rw (land, e)

    pub put_slot : (i : ℕ) → slot_of (node_at c m) key ≡ None → slot_of (node_at c m) 0 ≡ Some i
        → step_begin c mem (next_change c n free last (Inserting key value NotBegun) (PutIn key value))
        ≡ step_prepared c mem (Inserting key value InHand) Absent (prepared ((place m (12 + i), value) ∷ (place m (1 + i), key) ∷ []) free last [])
    unfolding step_begin next_change in_leaf insert_reason reason_in empty_reason insert_change
    put_slot i e z = rw (land, e, z)

    pub put_full : slot_of (node_at c m) key ≡ None → slot_of (node_at c m) 0 ≡ None
        → step_begin c mem (next_change c n free last (Inserting key value NotBegun) (PutIn key value))
        ≡ step_prepared c mem (Inserting key value InHand) Absent
        (giving 3 free last (λ ms. split_leaf m link (sort ((key, value) ∷ leaf_pairs (node_at c m))) (first ms) (second ms) (third ms)))
    unfolding step_begin next_change in_leaf insert_reason reason_in empty_reason insert_change
    put_full e z = rw (land, e, z)

    pub remove_held : (i : ℕ) → slot_of (node_at c m) key ≡ Some i
        → step_begin c mem (next_change c n free last (Deleting key NotBegun value) (TakeOut key))
        ≡ step_prepared c mem (Deleting key InHand (get_or (node_at c m) (12 + i) 0)) (Value (get_or (node_at c m) (12 + i) 0))
        (prepared ((place m (1 + i), 0) ∷ []) free last [])
    unfolding step_begin next_change in_leaf delete_change
    remove_held i e = rw (land, e)

    pub remove_absent : slot_of (node_at c m) key ≡ None
        → step_begin c mem (next_change c n free last (Deleting key NotBegun value) (TakeOut key))
        ≡ step_prepared c mem (Deleting key InHand 0) Absent balanced
    unfolding step_begin next_change in_leaf delete_change
    remove_absent e = rw (land, e)

  -- "A splitting insert needs j + 5 free nodes."
  pub room_full : (room : ℕ) → slot_of (node_at c m) key ≡ None → slot_of (node_at c m) 0 ≡ None → start_room c key room (landing c n key) ≡ true → split_need run ≤ room
  unfolding start_room room_for insert_reason reason_in empty_reason
  room_full room e z r = let q : not (ltb room (split_need run)) ≡ true = rw (land, e, z) at r in order room (split_need run) (λ o. absurd (never o q)) (λ o. o)
    where
      never : room < split_need run → not (ltb room (split_need run)) ≡ true → ⊥
      never o q = let k : ◌≡◌ {A = Bool} false true = rw (lt-ltb room (split_need run) o) at q in impossible (cc)

  pub flag_slot : Sized greatest (length c) n → (i : ℕ) → slot_of (node_at c m) 0 ≡ Some i → leaf_full c key ≡ false
  unfolding slot_found
  flag_slot s i e = full_is greatest c n key m link run (Some i) s land e

  pub flag_full : Sized greatest (length c) n → slot_of (node_at c m) 0 ≡ None → leaf_full c key ≡ true
  unfolding slot_found
  flag_full s e = full_is greatest c n key m link run None s land e
