-- Laws of the steps that plan a change: one for each branch of the code.
use mathlib.Core.Path.{◌≡◌, refl, sym, ap, ap₂, subst, ◌∙◌}
use mathlib.Core.Bool.{Bool, true}
use mathlib.Core.List.{List, [], ◌∷◌}
use mathlib.Core.Option.{none, some}
use Prim.Native.Nat.{ℕ, ◌≤◌, ◌<◌}
use native.Mathlib.Omega.{arith}
use lib.ListN.{length, get_or, take, drop, set}
use Rattle.laws.proofs.Cases.{order}
use Rattle.card.specs.Header.{Sized}
use Rattle.card.specs.Layout.{greatest_nodes}
use Rattle.card.specs.Lines.{seen, on_line}
use Rattle.card.proofs.LineLaws.{seen_long, seen_sized, on_node}
use Rattle.card.specs.Stores.{Store}
use Rattle.card_free.specs.NodeSet.{word_count, nodes_of}
use Rattle.card_free.proofs.NodeSetLaws.{length_nodes}
use Rattle.change_decide.specs.Places.{Fits}
use Rattle.change_decide.proofs.LinePlaces.{fits_seen}
use Rattle.change_decide.specs.declared.Decision.{Decision}
use Rattle.change_plan.specs.Planning.{Preparation, prepared, take_numbers, without_all, last_of}
use Rattle.change_plan.specs.declared.Outcome.TheVariants.{Refused as NoStep, Balanced as NoChange, Prepared}
use Rattle.change_plan.proofs.NumberLaws.{given_within}
use Rattle.change_layout.specs.declared.Size.{Size}
use Rattle.change_layout.specs.LayOut.{size_of, lay_out, outcome_of, needed, store_count, cut_by, places_by, words_by, stores_by}
use Rattle.change_layout.proofs.LayOutLaws.{laid_none, laid_given, laid_refused, laid_balanced, laid_from, first_on_card, first_in_node, length_by}
use Rattle.change_layout.proofs.LineLayOut.{lay_out_seen}
use Rattle.change_layout.proofs.Bounds.{WithinBounds, laid_bounds}
use Rattle.call_change.specs.Results.{Storing}
use Rattle.call_change.specs.Updates.{FirstChange, next_change}
use Rattle.call_change.specs.Decided.{laid_first, decided}
use Rattle.call_change.specs.declared.First.{First}
use Rattle.call_change.proofs.Decided.{next_decided, decided_fits}
use Rattle.call_change.proofs.Preparations.{laid_stores}
use Rattle.state.specs.Memory.{Memory, advanced}
use Rattle.state.specs.Results.{more_to_store}
use Rattle.state.specs.Steps.{Step, held_by, step_store}
use Rattle.state.specs.Block.{free_at, places_at, values_at, state_words, block_word, part, memory_in}
use Rattle.state.specs.Answer.{Answer, given}
use Rattle.state.specs.Answer.{Stored, Ready, Absent, Value, Refused}
use Rattle.state.specs.declared.Doing.{Doing}
use Rattle.state.specs.declared.Task.{Task}
use Rattle.state.specs.declared.Held.TheVariants.{Task as HeldTask}
use Rattle.state.proofs.Blocks.{free_span}
use Rattle.state.proofs.StepLaws.{store_outside, store_inside}
use Rattle.state.proofs.Tasks.{task_of}
use Rattle.call_step.specs.Calls.{planning, step_prepared, step_begin, step_task}
use Rattle.call_step.specs.StepBlocks.{idled_block, played_block, planned_block, planned_over, first_stored, stored_block, step_block}
use Rattle.call_step.specs.Clauses.{MadeOn, Changes}
use Rattle.call_step.proofs.PlayLaws.{planned, plan_next, part_word}
use Rattle.call_step.proofs.PlanLaws.{zip_first}
use Rattle.call_step.proofs.StepBlockLaws.{Plannable, planned_length, planned_stores}
use Rattle.call_step.proofs.StepMemory.{Ends, next_ends, first_prepared}
use Rattle.call_step.proofs.ContractLaws.{made_by, made_refused, made_final}
use Rattle.call_step.proofs.LineSteps.{Still, made_still, made_stored}

-- ---- a change

module _ (greatest : ℕ) (card b : List ℕ) (long : length b ≡ state_words) (doing : Doing) (d : Decision) (fits : Fits card d) (some_change : outcome_of d ≡ Prepared) where
  abbrev m : Memory
  m = memory_in b

  abbrev free : List Bool
  free = nodes_of (part b free_at word_count)

  abbrev last : ℕ
  last = block_word b 1

  -- what is due on the table of a line, for which the step makes this change
  module _ (line : ℕ) (ch : Changes (seen line card) b doing d) where
    abbrev table : List ℕ
    table = seen line card

    abbrev due_by : Answer → Preparation → Step
    due_by final p = step_prepared table m doing final p

    abbrev due_for : Answer → Step
    due_for final = due_by final (lay_out table d m.free m.last)

    -- "or too few free nodes"
    pub change_none : take_numbers (needed d) free last ≡ none → (final : Answer) → MadeOn line card b card b (Refused 9) (due_for final)
    unfolding memory_in step_prepared Still
    change_none e final = made_still line card b (made_refused table b 9 (ap (due_by final) (sym (laid_none table d free last e)))) tt

  module _ (n : ℕ) (size : Sized greatest (length card) n) (l r a : ℕ)
      (taken : take_numbers (needed d) free last ≡ some (take (needed d) (l ∷ r ∷ a ∷ []))) where
    -- "or its store is outside the card"
    pub change_outside : (needed d ≡ 0 → l ≡ 0) → n < l → (line : ℕ) (ch : Changes (seen line card) b doing d) (final : Answer)
        → MadeOn line card b card b (Refused 9) (due_for line ch final)
    unfolding memory_in step_prepared Still
    change_outside z h line ch final =
        let new : 0 < needed d = order 0 (needed d) (λ k. k) (λ k. absurd (omega (arith, z (omega arith)))) in
        let f = laid_from (seen line card) d l r a free last new taken in
        made_still line card b
        (made_refused (seen line card) b 9
        (ap (due_by line ch final) f.is
        ∙ store_outside (seen line card) m (get_or f.stores 0 (0, 0)) _ (omega (arith, f.first, size.words, seen_long line card size)))) tt

    module _ (count : length (words_by card d (l ∷ r ∷ a ∷ [])) ≡ store_count d) (p : List ℕ)
        (is_planned : p ≡ planned_over card b doing d (l ∷ r ∷ a ∷ [])) where
      abbrev stores : List Store
      stores = stores_by card d (l ∷ r ∷ a ∷ [])

      abbrev free_then : List Bool
      free_then = without_all (take (needed d) (l ∷ r ∷ a ∷ [])) free

      abbrev last_then : ℕ
      last_then = last_of last (take (needed d) (l ∷ r ∷ a ∷ []))

      abbrev change : Preparation
      change = prepared stores free_then last_then (cut_by card d)

      laid : lay_out card d free last ≡ change
      laid = laid_given card d (l ∷ r ∷ a ∷ []) free last refl some_change count taken

      some_stores : more_to_store stores ≡ true
      unfolding Storing
      some_stores = subst Storing laid (laid_stores free last card d)

      plannable : Plannable stores free_then (cut_by card d)
      unfolding WithinBounds
      plannable =
          let w = subst (WithinBounds free) laid (laid_bounds card d free last fits) in
          record {
            short = w.short;
            full = w.same ∙ omega (arith, length_nodes (part b free_at word_count), free_span b [] long);
            few = w.few;
            readable = w.readable;
          }

      planned_is : p ≡ planned_block b doing stores free_then last_then (cut_by card d)
      unfolding planned_over
      planned_is = is_planned

      pub change_length_lem : length p ≡ state_words
      change_length_lem = ap length planned_is ∙ planned_length b doing stores free_then last_then (cut_by card d) long plannable

      stores_are : planned p ≡ stores
      stores_are = ap planned planned_is ∙ planned_stores b doing stores free_then last_then (cut_by card d) long plannable

      first_is : stores ≡ (block_word p places_at, block_word p values_at) ∷ drop 1 (planned p)
      first_is = sym stores_are ∙ plan_next p change_length_lem 0 (ap more_to_store stores_are ∙ some_stores)

      -- the place of the first store
      place_is : block_word p places_at ≡ get_or (places_by d (l ∷ r ∷ a ∷ [])) 0 0
      place_is =
          ap (λ (s : Store). s.0)
          (sym (ap (λ (ss : List Store). get_or ss 0 (0, 0)) first_is)
          ∙ zip_first (places_by d (l ∷ r ∷ a ∷ [])) (words_by card d (l ∷ r ∷ a ∷ [])) (length_by d (l ∷ r ∷ a ∷ []) refl ∙ sym count))

      pub change_on_card : l ≤ n → block_word p places_at < length card
      change_on_card h =
          subst (λ (k : ℕ). k < length card) (sym place_is)
          (first_on_card card d l r a n fits some_change size.words
          (given_within (part b free_at word_count) (l ∷ r ∷ a ∷ []) (needed d) last (free_span b [] long) taken) h)

      module _ (line : ℕ) (ch : Changes (seen line card) b doing d) where
        laid_there : lay_out (seen line card) d free last ≡ change
        laid_there = lay_out_seen line card d free last ∙ laid

        block_first : (at : ℕ) → step_block (seen line card) b (Stored at) ≡ played_block p 1 (drop 1 (planned p))
        unfolding step_block stored_block memory_in
        block_first at =
            ap₂ (stored_block (seen line card) b m) ch.holds ch.none
            ∙ ap (first_stored b) ch.next
            ∙ first_prepared b (record { doing = doing; final = ch.final; preparation = lay_out (seen line card) d free last }) laid_there
            ∙ ap₂ (λ (x : List ℕ) (ss : List Store). played_block x 1 (drop 1 ss)) (sym planned_is) (sym stores_are)

        pub change_made : {card_after after : List ℕ} (at : ℕ) → at ≡ block_word p places_at → at < length card
            → card_after ≡ set card at (get_or (part p values_at 73) 0 0) → after ≡ played_block p 1 (drop 1 (planned p))
            → (final : Answer) → MadeOn line card b card_after after (Stored (block_word p places_at)) (due_for line ch final)
        unfolding memory_in step_prepared
        change_made at e h s w final =
            let place = block_word p places_at in
            let value = block_word p values_at in
            let next : Memory = advanced (planning m doing free_then last_then (cut_by card d)) (drop 1 stores) in
            let first : get_or stores 0 (0, 0) ≡ (place, value) = ap (λ (ss : List Store). get_or ss 0 (0, 0)) first_is in
            let inside : place < length (seen line card) = omega (arith, e, h, seen_long line card size) in
            let there : on_line line place ≡ place = on_node line place (λ z. omega (arith, z, place_is, first_in_node d l r a some_change)) in
            made_stored line card b place value inside
            (made_by (seen line card) b (record { answer = Stored place; card = set (seen line card) place value; memory = next })
            (ap (due_by line ch final) laid_there ∙ ap (λ (x : Store). step_store (seen line card) m x next) first
            ∙ store_inside (seen line card) m (place, value) next inside)
            refl refl (w ∙ sym (block_first place)))
            (ap Stored (sym there)) (s ∙ ap₂ (set card) (e ∙ sym there) (part_word p values_at 73 0 (omega arith)))

-- ---- what is decided

module _ (line : ℕ) (card b : List ℕ) (long : length b ≡ state_words) (task : Task) (holds : held_by (memory_in b).doing ≡ HeldTask task)
    (n : ℕ) (doing : Doing) (count : n ≡ block_word b 0) (now : doing ≡ (memory_in b).doing)
    (next : First) (found : next ≡ decided (seen line card) n doing task) (size : Size) (sized : size ≡ size_of next.decision) where
  abbrev state : Memory
  state = memory_in b

  abbrev own : List ℕ
  own = seen line card

  is : next ≡ decided own state.nodes state.doing task
  unfolding memory_in
  is = found ∙ ap₂ (λ (k : ℕ) (d : Doing). decided own k d task) count now

  outcome_is : outcome_of next.decision ≡ size.outcome
  unfolding size_of
  outcome_is = sym (ap (λ (z : Size). z.outcome) sized)

  next_is : next_change own state.nodes state.free state.last state.doing task ≡ laid_first own next state.free state.last
  next_is =
      next_decided own state.free state.last state.nodes state.doing task
      ∙ ap (λ (f : First). laid_first own f state.free state.last) (sym is)

  task_prepares : step_task own state task []
      ≡ step_prepared own state next.doing (given next.answer) (lay_out own next.decision state.free state.last)
  unfolding step_task step_begin
  task_prepares = ap (step_begin own state) next_is

  pub task_refused : size.outcome ≡ NoStep → MadeOn line card b card b (Refused 9) (step_task own state task [])
  unfolding step_prepared Still
  task_refused o =
      made_still line card b
      (made_refused own b 9
      (task_prepares ∙ ap (step_prepared own state next.doing (given next.answer)) (laid_refused own next.decision state.free state.last (outcome_is ∙ o)))) tt

  block_ends : (a : Answer) → Ends a → (step_block own b a ≡ idled_block b) × Still a
  unfolding Ends Still step_block
  block_ends (Stored place) e = absurd e
  block_ends Ready e = (refl, tt)
  block_ends Absent e = (refl, tt)
  block_ends (Value v) e = (refl, tt)
  block_ends (Refused r) e = absurd e

  pub task_ended : {after : List ℕ} → size.outcome ≡ NoChange → after ≡ idled_block b
      → MadeOn line card b card after (given next.answer) (step_task own state task [])
  unfolding step_prepared
  task_ended o w =
      let ends =
      block_ends (given next.answer)
      (subst Ends (ap (λ (f : FirstChange). f.final) next_is)
      (next_ends greatest_nodes own state.nodes state.free state.last state.doing task (task_of state.doing task holds))) in
      made_still line card b
      (made_final own b {answer = given next.answer}
      (task_prepares ∙ ap (step_prepared own state next.doing (given next.answer)) (laid_balanced own next.decision state.free state.last (outcome_is ∙ o))) ends.0 w)
      ends.1

  module _ (size_is : Sized greatest_nodes (length card) (block_word b 0)) (o : size.outcome ≡ Prepared) where
    fits_there : Fits own next.decision
    unfolding memory_in
    fits_there = subst (λ (f : First). Fits own f.decision) (sym is) (decided_fits greatest_nodes own state.nodes (seen_sized line card size_is) state.doing task)

    pub task_fits : Fits card next.decision
    task_fits = fits_seen line card (seen_long line card size_is) next.decision fits_there

    pub task_some : outcome_of next.decision ≡ Prepared
    task_some = outcome_is ∙ o

    -- the change is made, and so the step
    pub task_changed : state.rest ≡ [] → {card_after after : List ℕ} {answer : Answer}
        → ((l : ℕ) → Changes (seen l card) b next.doing next.decision → (final : Answer)
        → MadeOn l card b card_after after answer (step_prepared (seen l card) state next.doing final (lay_out (seen l card) next.decision state.free state.last)))
        → MadeOn line card b card_after after answer (step_task own state task [])
    task_changed no_rest {card_after} {after} {answer} change =
        subst (MadeOn line card b card_after after answer) (sym task_prepares)
        (change line
        (record { task = task; final = given next.answer; holds = holds; none = no_rest; next = next_is; fits = fits_there; some = task_some })
        (given next.answer))
