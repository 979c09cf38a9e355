-- A repair in one call is a run of steps, and leaves a balanced table with the same map and an idle state.
use mathlib.Core.Path.{◌≡◌, refl, ap, sym, ◌∙◌}
use mathlib.Core.List.{List}
use mathlib.Core.Bool.{true}
use Prim.Native.Nat.{ℕ, zero, suc}
use native.Mathlib.Omega.{arith}
use lib.ListN.{length, replicate}
use Rattle.theory_change.proofs.Line.{only}
use Rattle.laws.proofs.Cases.{bool_cases, impossible}
use Rattle.card.specs.Header.{nodes_of_length, card_refusal, Sized}
use Rattle.call_repair.specs.Repairing.{Repaired, repaired_card, opened_card}
use Rattle.demands.specs.Book.{book, empty}
use Rattle.demands.specs.Events.{Event, World, opened, happens, run, Words, LeftUncut, steps_in, Opens, step}
use Rattle.demands.specs.RationTable.{ration_table}
use Rattle.demands.proofs.Finishing.{MapIs}
use Rattle.demands.proofs.Invariant.{Inv}
use Rattle.demands.proofs.PowerLoss.{opened_inv, at_rest, repair_ends, map_is}
use Rattle.demands.proofs.Reopen.{card_accepted, table_well_formed}
use Rattle.demands.proofs.Steps.{idle_world}
use Rattle.state.specs.Steps.{is_idle}
use Rattle.call_open.specs.Opening.{open_of}
use Rattle.call_step.specs.Calls.{step_of, repair_steps}
use Rattle.state.specs.Memory.{Memory}
use Rattle.state.specs.declared.Doing.{Doing}
use Rattle.state.specs.declared.Doing.TheVariants.{Idle, Formatting, Inserting, Deleting, Repairing}
use Rattle.theory_tree.specs.Pairs.{pairs}
use Rattle.theory_tree.specs.Tree.{Tree}
use Rattle.theory_tree.specs.WellFormed.{WellFormed, Balanced}

-- so many steps
abbrev pub steps : ℕ → List Event
steps k = replicate k step

rests : (greatest : ℕ) (k : ℕ) (w : World (ration_table greatest)) → w.state.doing ≡ Idle → run (ration_table greatest) (steps k) w ≡ w
unfolding run
rests greatest zero w e = refl
rests greatest (suc k) w e = ap (run (ration_table greatest) (steps k)) (idle_world greatest w e) ∙ rests greatest k w e

pub is_idle_lem : (d : Doing) → is_idle d ≡ true → d ≡ Idle
unfolding is_idle
is_idle_lem Idle e = refl
is_idle_lem (Formatting made) e = impossible (cc)
is_idle_lem (Inserting key value phase) e = impossible (cc)
is_idle_lem (Deleting key phase value) e = impossible (cc)
is_idle_lem (Repairing key) e = impossible (cc)

-- the card and the state that a repair leaves
abbrev pub world_from : (greatest : ℕ) → Repaired → World (ration_table greatest)
world_from greatest r = record { card = r.card; state = r.memory }

-- the loop that stops when the state is idle is the run of all the steps
repair_run : (greatest : ℕ) (k : ℕ) (c : List ℕ) (m : Memory) → world_from greatest (repaired_card greatest k c m) ≡ run (ration_table greatest) (steps k) (record { card = c; state = m })
unfolding repaired_card run happens
repair_run greatest zero c m = refl
repair_run greatest (suc k) c m = bool_cases (is_idle m.doing) (λ q. rw q (stays q)) (λ q. rw q (repair_run greatest k (step_of greatest 1 c m).card (step_of greatest 1 c m).memory))
  where
    stays : is_idle m.doing ≡ true → record { card = c; state = m } ≡ run (ration_table greatest) (steps (suc k)) (record { card = c; state = m })
    stays q = sym (rests greatest (suc k) (record { card = c; state = m }) (is_idle_lem m.doing q))

-- a card that was opened, once its repair is done
pub opened_run : (greatest : ℕ) (c : List ℕ) → world_from greatest (opened_card greatest c) ≡ run (ration_table greatest) (steps repair_steps) (opened (ration_table greatest) c)
unfolding opened_card
opened_run greatest c = repair_run greatest repair_steps c (open_of greatest c).memory

pub all_words : (k : ℕ) → Words (steps k)
all_words zero = tt
all_words (suc k) = all_words k

pub steps_uncut : (greatest : ℕ) (k : ℕ) (w : World (ration_table greatest)) → LeftUncut (ration_table greatest) (steps k) w
unfolding LeftUncut
steps_uncut greatest zero w = tt
steps_uncut greatest (suc k) w = (tt, steps_uncut greatest k (happens (ration_table greatest) step w))

pub count_steps : (k : ℕ) → steps_in (steps k) ≡ k
count_steps zero = refl
count_steps (suc k) = ap suc (count_steps k)

-- after the repair: a balanced table, with the map that the card had when it was opened, and an idle state
pub record After (greatest : ℕ) (c : List ℕ) (t : Tree) : Type 0 where
  pub table : Tree
  pub sized : Sized greatest (length (opened_card greatest c).card) (nodes_of_length greatest (length c))
  pub accepted : card_refusal greatest (opened_card greatest c).card ≡ 0
  pub balanced : Balanced (opened_card greatest c).card table
  pub map : MapIs table (pairs t)
  pub idle : (opened_card greatest c).memory.doing ≡ Idle

module _ (greatest : ℕ) (c : List ℕ) (t : Tree) (a : Opens (ration_table greatest) c) (w : WellFormed c t) where
  ended : Inv greatest (only (nodes_of_length greatest (length c))) 0 (run (ration_table greatest) (steps repair_steps) (opened (ration_table greatest) c)) (book (pairs t) empty)
  ended =
      let i = opened_inv greatest c t a w in
      (repair_ends greatest (only (nodes_of_length greatest (length c))) (pairs t) (steps repair_steps) repair_steps (opened (ration_table greatest) c)
      (steps_uncut greatest repair_steps (opened (ration_table greatest) c)) (omega (arith, count_steps repair_steps)) (i.0, i.2)).0

  pub repaired : After greatest c t
  repaired =
      let r = ap (λ (x : World (ration_table greatest)). x.card) (opened_run greatest c) in
      let rest = at_rest greatest (only (nodes_of_length greatest (length c))) 0
      (run (ration_table greatest) (steps repair_steps) (opened (ration_table greatest) c)) (book (pairs t) empty) refl ended in
      record {
        table = ended.tree;
        sized = rw r ended.table.sized;
        accepted = rw r (card_accepted greatest ended.table.sized ended.table.header).0;
        balanced = rw r (record { well_formed = table_well_formed greatest ended.table; none = rest.1 });
        map = map_is greatest ended;
        idle = ap (λ (x : World (ration_table greatest)). x.state.doing) (opened_run greatest c) ∙ rest.0;
      }
