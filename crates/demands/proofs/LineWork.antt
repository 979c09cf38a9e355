-- The work in hand on a line of a card: the line's table goes on as one of its own, and the other line's holds the tree that it held
-- ("A call on one line stores nothing in the other line's nodes or root word").
use mathlib.Core.Path.{◌≡◌, refl, sym, ap, ap₂, subst, ◌∙◌}
use mathlib.Core.Bool.{Bool, true}
use mathlib.Core.List.{List}
use mathlib.Core.Logic.{◌⊎◌, inl, inr}
use Prim.Native.Nat.{ℕ, suc, ◌≤◌, ◌<◌}
use native.Mathlib.Omega.{arith}
use lib.ListN.{length, get_or, set, drop, length-append, length-drop}
use lib.Seq.{get_or-set_same}
use lib.Dec.{eqb}
use Rattle.laws.specs.Cases.{pick}
use Rattle.laws.proofs.Cases.{impossible}
use Rattle.laws.specs.Totals.{indicator, total}
use Rattle.card.specs.Header.{header_refusal, Sized, Formatted}
use Rattle.card.specs.Lines.{IsLine, has_line, header_for, seen, on_line}
use Rattle.card.proofs.HeaderLaws.{formatted_header}
use Rattle.card.proofs.LineLaws.{seen_length, seen_sized, line_one}
use Rattle.theory_change.proofs.Line.{Line, Own}
use Rattle.theory_change.proofs.TwoLines.{stored_on, other_stands}
use Rattle.theory_tree.specs.Represent.{Holds}
use Rattle.theory_tree.specs.Tree.{Tree, node_total}
use Rattle.state.specs.Memory.{Memory}
use Rattle.state.specs.Steps.{Handed, Step, is_idle, held_by, step_refused}
use Rattle.state.specs.Answer.{Answer}
use Rattle.state.specs.Answer.{Stored, Ready, Absent, Value, Refused}
use Rattle.state.specs.declared.Doing.{Doing}
use Rattle.state.specs.declared.Doing.TheVariants.{Idle}
use Rattle.walk.specs.Descent.{way, leaf_of, depth_of}
use Rattle.call_change.specs.Updates.{landing}
use Rattle.call_start.specs.Starts.{start_refused, start_landed, start_checked, start_of}
use Rattle.call_step.specs.Calls.{placed_on, on_card, step_held, step_of}
use Rattle.call_step.proofs.LineSteps.{on_memory}
use Rattle.call_step.proofs.StepLaws.{step_sized, task_on_line, task_due, idle_refused}
use Rattle.demands.specs.Book.{Book, Hand, feed, told}
use Rattle.demands.specs.Events.{World, happens, step}
use Rattle.demands.specs.RationTable.{ration_table}
use Rattle.demands.proofs.BookLaws.{IsFinal}
use Rattle.demands.proofs.Invariant.{Stage, Inv, Toward, stage_idle, stage_put, stage_remove, stage_first, stage_between, stage_within}
use Rattle.demands.proofs.Starting.{nodes_same, start_checked_lem}
use Rattle.demands.proofs.Steps.{Busy, job_busy, put_busy, remove_busy, idle_refused as idle_step}
use Rattle.demands.proofs.Stepping.{Right, Moves, was_idle, ends_now, goes_further, kept_step}
use Rattle.std.specs.Prelude.{Option}
use Rattle.walk.specs.declared.Landing.{Landing}

-- nothing is being done, or a task is held
stage_work : {c : List ℕ} {line : Line} {t goal : Tree} {steps : ℕ} {m : Memory} {h : Hand} {due : Answer} → Stage c line t goal steps m h due → (m.doing ≡ Idle) ⊎ Busy m.doing
stage_work (stage_idle z r x e) = inl refl
stage_work (stage_put {key = key} {value = value} room z r x low high q k few e) = inr (put_busy key value)
stage_work (stage_remove {key = key} z r x low high few e) = inr (remove_busy key 0)
stage_work (stage_first j p e count few hd) = inr (job_busy j)
stage_work (stage_between j e deep r x few hd) = inr (job_busy j)
stage_work (stage_within j e p s few hd) = inr (job_busy j)

-- a step that stores nothing leaves the card
still_on : (line : ℕ) (c : List ℕ) (s : Step) (a : Answer) → s.answer ≡ a → ((p : ℕ) → a ≡ Stored p → ⊥) → (on_card line c s).card ≡ c
unfolding on_card placed_on
still_on line c s (Stored p) e n = absurd (n p refl)
still_on line c s Ready e n = ap (λ (a : Answer). (placed_on line c s a).card) e
still_on line c s Absent e n = ap (λ (a : Answer). (placed_on line c s a).card) e
still_on line c s (Value v) e n = ap (λ (a : Answer). (placed_on line c s a).card) e
still_on line c s (Refused r) e n = ap (λ (a : Answer). (placed_on line c s a).card) e

refused_placed : (line : ℕ) (c table : List ℕ) (m : Memory) → step_refused 10 c m ≡ on_card line c (step_refused 10 table m)
unfolding on_card placed_on step_refused
refused_placed line c table m = refl

-- and one that stores a word stores it in the card's word for it
stored_on_card : (line : ℕ) (c table : List ℕ) (s : Step) (p v : ℕ) → s.answer ≡ Stored p → s.card ≡ set table p v → p < length table → (on_card line c s).card ≡ set c (on_line line p) v
unfolding on_card placed_on
stored_on_card line c table s p v e f h =
    ap (λ (a : Answer). (placed_on line c s a).card) e ∙ ap (set c (on_line line p)) (ap (λ (x : List ℕ). get_or x p 0) f ∙ get_or-set_same table p v 0 h)

module _ (greatest : ℕ) (own : Line) (line : ℕ) (is : IsLine line) (c : List ℕ) (m : Memory) (b : Book) where
  -- the line's table as one of its own
  abbrev table : List ℕ
  table = seen line c

  abbrev alone : World (ration_table greatest)
  alone = record { card = table; state = m }

  abbrev on_table : Step
  on_table = step_of greatest 1 table m

  module _ {k : ℕ} (i : Inv greatest own k alone b) where
    nodes_are : m.nodes ≡ own.nodes
    nodes_are = nodes_same greatest own k alone b i

    -- the line's table has its length and its header, and so the card its length
    pub sized_there : Sized greatest (length table) m.nodes
    sized_there = subst (Sized greatest (length table)) (sym nodes_are) i.table.sized

    pub header_there : header_refusal table m.nodes ≡ 0
    header_there = formatted_header table m.nodes (subst (Formatted table) (sym nodes_are) i.table.header)

    pub long : 8 ≤ length c
    unfolding seen
    long = omega (arith, sized_there.words, sized_there.least, length-append (header_for line c) (drop 8 c), length-drop 8 c)

    pub sized_here : Sized greatest (length c) m.nodes
    sized_here = subst (λ (j : ℕ). Sized greatest j m.nodes) (seen_length line c long) sized_there

  module _ (steps : ℕ) (i : Inv greatest own (suc steps) alone b) (right : header_refusal c m.nodes ≡ 0) where
    -- a step on the card is the step on the line's table
    pub on_line_lem : step_of greatest line c m ≡ on_card line c on_table
    unfolding held_by
    on_line_lem = go (stage_work i.stage)
      where
        go : (m.doing ≡ Idle) ⊎ Busy m.doing → step_of greatest line c m ≡ on_card line c on_table
        go (inl idle) =
            step_sized greatest line c m (sized_here i) ∙ ap (step_held line c m) (ap held_by idle) ∙ idle_refused line c m right
            ∙ refused_on_card
            ∙ sym (ap (on_card line c) (step_sized greatest 1 table m (sized_there i) ∙ ap (step_held 1 table m) (ap held_by idle) ∙ idle_refused 1 table m (header_there i)))
          where
            refused_on_card : step_refused 10 c m ≡ on_card line c (step_refused 10 table m)
            refused_on_card = refused_placed line c table m
        go (inr busy) =
            step_sized greatest line c m (sized_here i) ∙ ap (step_held line c m) busy.held ∙ task_on_line line c m right busy.task
            ∙ sym (ap (on_card line c) (step_sized greatest 1 table m (sized_there i) ∙ ap (step_held 1 table m) busy.held
            ∙ task_due table m (omega (arith, (sized_there i).words)) (header_there i) busy.task))

    kept : Toward greatest i.goal i.due own steps (happens (ration_table greatest) step alone) (feed (told (ration_table greatest) step alone) b)
        × Right on_table.answer i.due × Moves own table m on_table
    kept = kept_step greatest own steps alone b i

    -- what it stores
    pub data StoresOwn : Type 0 where
      none : (step_of greatest line c m).card ≡ c → on_table.card ≡ table → StoresOwn
      one : (p v : ℕ) → Own own p → (step_of greatest line c m).card ≡ set c (on_line line p) v → on_table.card ≡ set table p v → StoresOwn

    pub stores_own : StoresOwn
    unfolding held_by step_refused
    stores_own = go kept.2
      where
        go : Moves own table m on_table → StoresOwn
        go (was_idle e) =
            let rest = idle_step greatest table m e in
            none (ap (λ (x : Step). x.card) on_line_lem ∙ still_on line c on_table (Refused rest.0) (ap (λ (x : Step). x.answer) rest.1) (λ p z. impossible (cc)))
            (ap (λ (x : Step). x.card) rest.1)
        go (ends_now f same idle) = none (ap (λ (x : Step). x.card) on_line_lem ∙ still_on line c on_table on_table.answer refl (λ p z. subst IsFinal z f)) same
        go (goes_further o busy) =
            one o.place o.value o.storable.own
            (ap (λ (x : Step). x.card) on_line_lem ∙ stored_on_card line c table on_table o.place o.value o.told o.stored o.storable.inside) o.stored

    seen_after : seen line (step_of greatest line c m).card ≡ on_table.card
    seen_after = go stores_own
      where
        go : StoresOwn → seen line (step_of greatest line c m).card ≡ on_table.card
        go (none e f) = ap (seen line) e ∙ sym f
        go (one p v o e f) = ap (seen line) e ∙ stored_on own line is c (long i) p v o ∙ sym f

    -- THE LINE'S TABLE goes on as one of its own
    pub line_kept : Inv greatest own steps (record { card = seen line (step_of greatest line c m).card; state = (step_of greatest line c m).memory })
        (feed (told (ration_table greatest) step alone) b)
    unfolding happens
    line_kept =
        subst (λ (w : World (ration_table greatest)). Inv greatest own steps w (feed (told (ration_table greatest) step alone) b)) same kept.0.0
      where
        same : happens (ration_table greatest) step alone ≡ record { card = seen line (step_of greatest line c m).card; state = (step_of greatest line c m).memory }
        same =
            ap₂ (λ (x : List ℕ) (y : Memory). record { card = x; state = y }) (sym seen_after) (sym (ap (λ (x : Step). x.memory) on_line_lem ∙ on_memory line c on_table))

    -- THE OTHER LINE'S TABLE holds the tree that it held
    pub other_kept : (other : ℕ) → IsLine other → (line ≡ other → ⊥) → (s : Tree) → ((j : ℕ) → node_total (indicator j) s ≤ total (indicator j) own.others)
        → Holds (seen other c) s → Holds (seen other (step_of greatest line c m).card) s
    other_kept other is' apart s among h = go stores_own
      where
        go : StoresOwn → Holds (seen other (step_of greatest line c m).card) s
        go (none e f) = subst (λ (d : List ℕ). Holds (seen other d) s) (sym e) h
        go (one p v o e f) = subst (λ (d : List ℕ). Holds (seen other d) s) (sym e) (other_stands own line is c (long i) p v other is' apart s among o h)

-- ---- starts

pub seen_again : (line : ℕ) (c : List ℕ) → seen 1 (seen line c) ≡ seen line c
unfolding seen
seen_again line c = refl

module _ (greatest line : ℕ) (c : List ℕ) (m : Memory) (key : ℕ) (doing : Doing) (room : Option Landing → Bool) (has : has_line c line ≡ true) where
  -- what is due on the line's table, seen once or twice
  abbrev landed : List ℕ → Handed
  landed table = start_landed m doing (depth_of (leaf_of (way table m.nodes key))) (room (landing table m.nodes key)) (landing table m.nodes key)

  checked_on_line : start_checked line c m key doing room ≡ start_checked 1 (seen line c) m key doing room
  unfolding start_checked
  checked_on_line =
      ap₂ (λ (x : Bool) (y : Handed). pick (is_idle m.doing) (pick x (pick (eqb key 0) (start_refused 6 m) y) (start_refused 18 m)) (start_refused 7 m))
      (has ∙ sym (line_one (seen line c))) (ap landed (sym (seen_again line c)))

  -- a start on a line of the card is the start on the line's table
  pub start_on_line : Sized greatest (length c) m.nodes → header_refusal c m.nodes ≡ 0 → header_refusal (seen line c) m.nodes ≡ 0
      → start_of greatest line c m key doing room ≡ start_of greatest 1 (seen line c) m key doing room
  start_on_line s h k = start_checked_lem greatest line c m key doing room s h ∙ checked_on_line ∙ sym (start_checked_lem greatest 1 (seen line c) m key doing room (seen_sized line c s) k)
