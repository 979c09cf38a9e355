-- What the answers in code say, in the terms of Updates. These are definitions.
use Rattle.std.specs.Prelude.{◌≡◌, ℕ, true, Option, Some, None}
use Rattle.change_plan.specs.Planning.{Preparation, refused, balanced, prepared}
use Rattle.state.specs.Results.{more_to_store}
use Rattle.call_change.specs.declared.Arrival.{Arrival}
use Rattle.walk.specs.declared.Landing.{Landing}

-- a change that is prepared has a store
unfoldable pub Storing : Preparation → Type 0
Storing refused = Unit {0}
Storing balanced = Unit {0}
Storing (prepared stores free last cut) = more_to_store stores ≡ true

-- where the way of an update's key ends: at the landing, whatever the 11-child nodes above it
unfoldable pub Arrives : Option Arrival → Option Landing → Type 0
Arrives None l = l ≡ None
Arrives (Some a) l = (run : ℕ) × (l ≡ Some (record { node = a.node; link = a.link; run = run }))
