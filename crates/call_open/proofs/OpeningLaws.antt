-- Laws of opening: one for each branch of the code.
use mathlib.Core.Path.{◌≡◌}
use mathlib.Core.List.{List}
use mathlib.Core.Bool.{true, false}
use Prim.Native.Nat.{ℕ, ◌+◌, ◌≤◌, ◌<◌}
use lib.ListN.{length}
use borrow.Author.Tests.{lt-ltb, le-ltb, ne_eqb, eq-eqb}
use Rattle.card.specs.Header.{nodes_of_length, card_refusal}
use Rattle.card.specs.Layout.{search_start}
use Rattle.card_free.specs.NodeSet.{count_true}
use Rattle.card_check.specs.Check.{Findings, table_check}
use Rattle.card_check.specs.Counting.{table_counted}
use Rattle.call_open.specs.Opening.{open_sound, open_checked, open_of}
use Rattle.state.specs.Steps.{no_beginning}
use Rattle.state.specs.Memory.{resting}
use Rattle.state.specs.declared.Doing.TheVariants.{Idle, Repairing}
use Rattle.state.specs.Begun.{Idle as OpenedIdle, Started}

pub open_refused : (greatest : ℕ) (card : List ℕ) → (card_refusal greatest card ≡ 0 → ⊥) → open_of greatest card ≡ no_beginning (card_refusal greatest card)
unfolding open_of
open_refused greatest card p = simp (ne_eqb (card_refusal greatest card) 0 p)

module _ (n last : ℕ) (totals : List ℕ) (f : Findings) where
  pub open_scarce : count_true f.free < 3 + f.run → open_sound n last totals f ≡ no_beginning 5
  unfolding open_sound
  open_scarce h = simp (lt-ltb (count_true f.free) (3 + f.run) h)

  pub open_repair : 3 + f.run ≤ count_true f.free → f.violated ≡ true → open_sound n last totals f ≡ record { begun = Started; memory = resting n f.free last totals (Repairing f.key) }
  unfolding open_sound
  open_repair h v = simp (le-ltb (count_true f.free) (3 + f.run) h, v)

  pub open_idle : 3 + f.run ≤ count_true f.free → f.violated ≡ false → open_sound n last totals f ≡ record { begun = OpenedIdle; memory = resting n f.free last totals Idle }
  unfolding open_sound
  open_idle h v = simp (le-ltb (count_true f.free) (3 + f.run) h, v)

pub open_unrefused : (greatest : ℕ) (card : List ℕ) → card_refusal greatest card ≡ 0 → open_of greatest card
    ≡ open_checked (nodes_of_length greatest (length card)) (search_start card) (table_counted card) (table_check card (nodes_of_length greatest (length card)))
unfolding open_of
open_unrefused greatest card r = simp (eq-eqb (card_refusal greatest card) 0 r)
