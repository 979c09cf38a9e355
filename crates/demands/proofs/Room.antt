-- What room there is: on an idle state an insert is started unless its leaf is full and fewer than j + 5 nodes are free.
use mathlib.Core.Path.{◌≡◌, ap, ◌∙◌}
use mathlib.Core.Bool.{Bool, true, false}
use Prim.Native.Nat.{ℕ, ◌≤◌, ◌<◌}
use Rattle.card.specs.Lines.{seen}
use Rattle.call_start.proofs.StartLaws.{room_seen}
use Rattle.theory_change.proofs.Line.{only}
use Rattle.state.specs.Steps.{Handed}
use Rattle.call_start.specs.Starts.{start_depth, start_refused, start_accepted, insert_of, room_of}
use Rattle.call_change.specs.Updates.{full, landing, insert_reason, split_need, start_room}
use Rattle.state.specs.declared.Doing.TheVariants.{Idle, Inserting}
use Rattle.state.specs.declared.Phase.TheVariants.{NotBegun}
use Rattle.state.specs.Begun.{Started}
use Rattle.card.specs.Layout.{lowest_key, key_limit, node_at}
use Rattle.card_free.specs.NodeSet.{count_true}
use Rattle.laws.specs.Cases.{pick}
use Rattle.demands.proofs.Invariant.{Inv}
use Rattle.demands.proofs.RoomLaws.{room_at, room_enough, room_short, room_other, begun_started}
use Rattle.demands.proofs.Starting.{lands, room_decides}
use Rattle.demands.specs.Book.{Book}
use Rattle.demands.specs.Events.{World}
use Rattle.demands.specs.RationTable.{ration_table}
use Rattle.walk.proofs.DescentLaws.{landing_at}

-- the leaf that a key leads to, and j, "the number of 11-child nodes without a break straight above" it
abbrev pub LeadsTo : (greatest : ℕ) → World (ration_table greatest) → ℕ → ℕ → ℕ → Type 0
LeadsTo greatest w key leaf j = (link : ℕ) × (landing w.card w.state.nodes key ≡ landing_at leaf link j)

module _ (greatest : ℕ) {n steps : ℕ} {w : World (ration_table greatest)} {b : Book} (i : Inv greatest (only n) steps w b) (key : ℕ) (low : lowest_key ≤ key) (high : key < key_limit) where
  -- the leaf that a key leads to, at any moment
  pub key_leads : (leaf : ℕ) × (j : ℕ) × LeadsTo greatest w key leaf j
  key_leads = let g = lands greatest (only n) steps w b i key low high in (g.0, g.2, (g.1, g.3))

  module _ (idle : w.state.doing ≡ Idle) (value : ℕ) where
    -- an insert's start, by its room
    insert_decided_lem : (r : Bool) → start_room w.card key (room_of w.state) (landing w.card w.state.nodes key) ≡ r
        → insert_of greatest 1 w.card w.state key value ≡ pick r (start_accepted w.state (Inserting key value NotBegun) (start_depth 1 w.card w.state key)) (start_refused 8 w.state)
    unfolding insert_of
    insert_decided_lem r e =
        room_decides greatest (only n) steps w b i key (Inserting key value NotBegun) (start_room (seen 1 w.card) key (room_of w.state)) idle low high
        ∙ rw (room_seen 1 w.card key (room_of w.state) (landing w.card w.state.nodes key), e)

    insert_starts : start_room w.card key (room_of w.state) (landing w.card w.state.nodes key) ≡ true → (insert_of greatest 1 w.card w.state key value).begun ≡ Started
    insert_starts e = ap (λ (x : Handed). x.begun) (insert_decided_lem true e) ∙ begun_started _ (Inserting key value NotBegun) _

    module _ (leaf j : ℕ) (leads : LeadsTo greatest w key leaf j) where
      -- "A splitting insert needs j + 5 free nodes", and with them it is started
      pub splitting_insert_starts : insert_reason (node_at w.card leaf) key ≡ full → split_need j ≤ count_true w.state.free → (insert_of greatest 1 w.card w.state key value).begun ≡ Started
      splitting_insert_starts e h = insert_starts (room_at _ _ key _ leaf leads.0 j leads.1 ∙ room_enough _ j _ e h)

      -- "8: key absent, leaf full, free nodes fewer than j + 5"
      pub splitting_insert_refused : insert_reason (node_at w.card leaf) key ≡ full → count_true w.state.free < split_need j
          → insert_of greatest 1 w.card w.state key value ≡ start_refused 8 w.state
      splitting_insert_refused e h = insert_decided_lem false (room_at _ _ key _ leaf leads.0 j leads.1 ∙ room_short _ j _ e h)

      -- a key that is held, or a leaf with an empty slot, needs no room
      pub other_insert_starts : (insert_reason (node_at w.card leaf) key ≡ full → ⊥) → (insert_of greatest 1 w.card w.state key value).begun ≡ Started
      other_insert_starts e = insert_starts (room_at _ _ key _ leaf leads.0 j leads.1 ∙ room_other _ j _ e)
