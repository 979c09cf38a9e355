-- The room of an insert, by what it finds in its leaf.
use mathlib.Core.Path.{◌≡◌, refl, ap}
use mathlib.Core.List.{List}
use mathlib.Core.Bool.{true, false}
use Prim.Native.Nat.{ℕ, ◌≤◌, ◌<◌}
use borrow.Author.Tests.{lt-ltb, le-ltb}
use Rattle.card.specs.Layout.{node_at}
use Rattle.call_start.specs.Starts.{start_accepted}
use Rattle.state.specs.Memory.{Memory}
use Rattle.call_change.specs.Updates.{Reason, held, slot, full, landing, insert_reason, split_need, room_for, start_room}
use Rattle.state.specs.declared.Doing.{Doing}
use Rattle.state.specs.Begun.{Started}
use Rattle.walk.proofs.DescentLaws.{landing_at}

pub room_at : (c : List ℕ) (n key : ℕ) (room : ℕ) (leaf link j : ℕ) → landing c n key ≡ landing_at leaf link j
    → start_room c key room (landing c n key) ≡ room_for room j (insert_reason (node_at c leaf) key)
unfolding start_room
room_at c n key room leaf link j e = ap (start_room c key room) e

pub room_enough : (room : ℕ) (j : ℕ) (x : Reason) → x ≡ full → split_need j ≤ room → room_for room j x ≡ true
unfolding room_for
room_enough room j x e h = rw (e, le-ltb room (split_need j) h)

pub room_short : (room : ℕ) (j : ℕ) (x : Reason) → x ≡ full → room < split_need j → room_for room j x ≡ false
unfolding room_for
room_short room j x e h = rw (e, lt-ltb room (split_need j) h)

pub room_other : (room : ℕ) (j : ℕ) (x : Reason) → (x ≡ full → ⊥) → room_for room j x ≡ true
unfolding room_for
room_other room j (held v) e = refl
room_other room j (slot i) e = refl
room_other room j full e = absurd (e refl)

pub begun_started : (m : Memory) (doing : Doing) (depth : ℕ) → (start_accepted m doing depth).begun ≡ Started
unfolding start_accepted
begun_started m doing depth = refl
