-- Laws of what a step leaves: one for each way that it ends.
use mathlib.Core.Path.{◌≡◌, refl, sym, ap, ap₂, subst, ◌∙◌}
use mathlib.Core.Bool.{Bool, true, false, not, ◌&&◌}
use mathlib.Core.List.{List, ◌∷◌}
use mathlib.Core.Option.{Option, none, some}
use Prim.Native.Nat.{ℕ, suc, ◌+◌, ◌≤◌, ◌<◌}
use native.Mathlib.Numerals.{add-one}
use lib.ListN.{length, get_or, drop, set}
use Rattle.card.specs.Stores.{Store}
use Rattle.state.specs.Memory.{advanced}
use Rattle.state.specs.Results.{more_to_store}
use Rattle.state.specs.Steps.{formatted_word, format_store, is_idle, Step, held_by, step_refused, step_final, formatting_from, step_format, step_store}
use Rattle.state.specs.Block.{places_at, values_at, state_words, block_word, part, doing_in, memory_in}
use Rattle.state.specs.Answer.{Answer, given}
use Rattle.state.specs.declared.Answer.{Answer as Given}
use Rattle.state.specs.declared.Answer.TheVariants.{Stored as GivenStored}
use Rattle.state.specs.Answer.{Stored, Ready, Absent, Value, Refused}
use Rattle.state.proofs.Blocks.{idle_none, idle_other}
use borrow.Author.Tests.{lt-ltb, le-ltb}
use Rattle.state.proofs.StepLaws.{store_outside, store_inside, format_first, format_middle, format_last, format_end}
use Rattle.laws.proofs.Cases.{order}
use native.Mathlib.Omega.{arith}
use Rattle.call_step.specs.StepBlocks.{idled_block, played_block, stored_block, step_block}
use Rattle.call_step.specs.Clauses.{StepMade, HoldsTask}
use Rattle.call_step.proofs.PlayLaws.{planned, plan_next, plan_below, part_word}

-- whether the next step makes a store of the change in hand, by the number of what is being done
module _ (b : List ℕ) where
  abbrev MakesStore : Bool → Type 0
  MakesStore t = t ≡ not (is_idle (memory_in b).doing) && more_to_store (memory_in b).rest

  pub idle_stores : block_word b 2 ≡ 0 → MakesStore false
  idle_stores z = ap (λ (t : Bool). not t && more_to_store (memory_in b).rest) (idle_none b z)

  pub unknown_stores : (block_word b 2 ≡ 0 → ⊥) → 4 < block_word b 2 → MakesStore false
  unknown_stores p h = ap (λ (t : Bool). not t && more_to_store (memory_in b).rest) (sym (lt-ltb 4 (block_word b 2) h) ∙ idle_other b p)

  pub held_stores : (block_word b 2 ≡ 0 → ⊥) → block_word b 2 ≤ 4 → (more : Bool) (made : ℕ) → made ≡ block_word b 6
      → more ≡ more_to_store (drop made (planned b)) → MakesStore more
  unfolding memory_in
  held_stores p h more made e m =
      m ∙ ap (λ (k : ℕ). more_to_store (drop k (planned b))) e
      ∙ ap (λ (t : Bool). not t && more_to_store (memory_in b).rest) (sym (le-ltb 4 (block_word b 2) h) ∙ idle_other b p)

-- formatting: the words of the block do not go by the card
block_format : (card b : List ℕ) (place : ℕ) → block_word b 2 ≡ 1 → step_block card b (Stored place) ≡ set b 3 (suc (block_word b 3))
unfolding step_block stored_block memory_in doing_in held_by
block_format card b place e =
    ap (λ (what : ℕ). stored_block card b (memory_in b) (held_by (doing_in what (block_word b 3) (block_word b 4) (block_word b 5))) (memory_in b).rest) e

pub format_any : (other card b : List ℕ) {card_after after : List ℕ} {answer : Answer} {due : Step} → block_word b 2 ≡ 1 → StepMade other b card_after after answer due
    → StepMade card b card_after after answer due
unfolding step_block
format_any other card b {due = due} e s = record { answered = s.answered; stored = s.stored; words = s.words ∙ any_block due.answer }
  where
    any_block : (a : Answer) → step_block other b a ≡ step_block card b a
    any_block (Stored place) = block_format other b place e ∙ sym (block_format card b place e)
    any_block Ready = refl
    any_block Absent = refl
    any_block (Value v) = refl
    any_block (Refused r) = refl

module _ (card b : List ℕ) where
  -- what is due, by an equal step
  pub made_by : {card_after after : List ℕ} {answer : Answer} (step : Step) {due : Step} → due ≡ step → answer ≡ step.answer → card_after ≡ step.card
      → after ≡ step_block card b step.answer → StepMade card b card_after after answer due
  made_by {card_after} {after} {answer} step e a s w =
      subst (StepMade card b card_after after answer) (sym e) (record { answered = a; stored = s; words = w })

  -- refused: nothing is stored, and every word of the block stands; by the card that has a line, too, whose table this is
  pub refused_on_lem : (whole : List ℕ) (r : ℕ) {due : Step} → due ≡ step_refused r whole (memory_in b) → StepMade card b whole b (Refused r) due
  unfolding step_refused step_block
  refused_on_lem whole r e = made_by (step_refused r whole (memory_in b)) e refl refl refl

  pub made_refused : (r : ℕ) {due : Step} → due ≡ step_refused r card (memory_in b) → StepMade card b card b (Refused r) due
  made_refused r e = refused_on_lem card r e

  -- the final answer
  pub made_final : {after : List ℕ} {answer : Answer} {due : Step} → due ≡ step_final answer card (memory_in b) → step_block card b answer ≡ idled_block b
      → after ≡ idled_block b → StepMade card b card after answer due
  unfolding step_final
  made_final {answer = answer} e i w = made_by (step_final answer card (memory_in b)) e refl refl (w ∙ sym i)

  -- formatting
  made_format : {card_after after : List ℕ} {answer : Answer} {store : Option Store} (place word : ℕ) → store ≡ some (place, word) → block_word b 2 ≡ 1
      → answer ≡ Stored place → card_after ≡ set card place word → after ≡ set b 3 (suc (block_word b 3))
      → StepMade card b card_after after answer (step_format card (memory_in b) (block_word b 3) store)
  unfolding step_format
  made_format place word e f a s w =
      made_by (record { answer = Stored place; card = set card place word; memory = formatting_from (memory_in b) (suc (block_word b 3)) })
      (ap (step_format card (memory_in b) (block_word b 3)) e) a s (w ∙ sym (block_format card b place f))

  made_formatted : {after : List ℕ} {store : Option Store} → store ≡ none → after ≡ idled_block b
      → StepMade card b card after Ready (step_format card (memory_in b) (block_word b 3) store)
  unfolding step_format step_block
  made_formatted e w = made_final {answer = Ready} (ap (step_format card (memory_in b) (block_word b 3)) e) refl w

  -- a step of formatting, by how many stores are made
  abbrev Formats : List ℕ → List ℕ → Answer → Type 0
  Formats card_after after answer =
      StepMade card b card_after after answer
      (step_format card (memory_in b) (block_word b 3) (format_store (block_word b 0) (length card) (block_word b 3)))

  module _ (what : block_word b 2 ≡ 1) (made : ℕ) (e : made ≡ block_word b 3) {after : List ℕ} where
    module _ {card_after : List ℕ} (answer : Given) (w : after ≡ set b 3 (suc (block_word b 3))) where
      pub formats_first : made ≡ 0 → answer ≡ GivenStored 0 → card_after ≡ set card 0 0 → Formats card_after after (given answer)
      formats_first z a s = made_format 0 0 (format_first (block_word b 0) (length card) (block_word b 3) (sym e ∙ z)) what (ap given a) s w

      pub formats_middle : (made ≡ 0 → ⊥) → made < length card → (n word : ℕ) → n ≡ block_word b 0 → word ≡ formatted_word n made
          → answer ≡ GivenStored (block_word b 3) → card_after ≡ set card (block_word b 3) word → Formats card_after after (given answer)
      formats_middle p h n word f g a s =
          made_format (block_word b 3) (formatted_word (block_word b 0) (block_word b 3))
          (format_middle (block_word b 0) (length card) (block_word b 3) (λ z. p (e ∙ z)) (omega (arith, e))) what (ap given a)
          (s ∙ ap (set card (block_word b 3)) (g ∙ ap₂ formatted_word f e)) w

      pub formats_last : (made ≡ 0 → ⊥) → made ≡ length card → answer ≡ GivenStored 0 → card_after ≡ set card 0 1 → Formats card_after after (given answer)
      formats_last p h a s = made_format 0 1 (format_last (block_word b 0) (length card) (block_word b 3) (λ z. p (e ∙ z)) (sym e ∙ h)) what (ap given a) s w

    pub formats_end : length card ≤ made → (made ≡ length card → ⊥) → after ≡ idled_block b → Formats card after Ready
    formats_end h p w =
        made_formatted
        (format_end (block_word b 0) (length card) (block_word b 3) (omega (arith, e, (order (length card) made (λ l. l) (λ l. absurd (p (omega (arith, h, l))))))))
        w

  -- a store of the change in hand
  block_store : (place : ℕ) (s : Store) (rest : List Store) → HoldsTask (memory_in b).doing → (memory_in b).rest ≡ s ∷ rest
      → step_block card b (Stored place) ≡ played_block b (suc (block_word b 6)) rest
  unfolding step_block stored_block
  block_store place s rest (task, holds) e = ap₂ (stored_block card b (memory_in b)) holds e

  rest_in : (memory_in b).rest ≡ drop (block_word b 6) (planned b)
  unfolding memory_in
  rest_in = refl

  module _ (long : length b ≡ state_words) (more : more_to_store (memory_in b).rest ≡ true) (k : ℕ) (e : k ≡ block_word b 6) where
    abbrev store : Store
    store = (block_word b (places_at + k), block_word b (values_at + k))

    abbrev later : List Store
    later = drop (k + 1) (planned b)

    left : more_to_store (drop k (planned b)) ≡ true
    left = ap (λ (i : ℕ). more_to_store (drop i (planned b))) e ∙ ap more_to_store (sym rest_in) ∙ more

    pub next_below : k < 73
    next_below = (plan_below b long k left).1

    pub next_in_block : places_at + k < length b
    next_in_block = omega (arith, next_below, long)

    rest_is : (memory_in b).rest ≡ store ∷ later
    rest_is = rest_in ∙ ap (λ (i : ℕ). drop i (planned b)) (sym e) ∙ plan_next b long k left

    abbrev due_of : List Store → Step
    due_of rest = step_store card (memory_in b) (get_or rest 0 (0, 0)) (advanced (memory_in b) (drop 1 rest))

    pub store_refused : length card ≤ block_word b (places_at + k) → StepMade card b card b (Refused 9) (due_of (memory_in b).rest)
    store_refused h = made_refused 9 (ap due_of rest_is ∙ store_outside card (memory_in b) store (advanced (memory_in b) later) h)

    pub store_made : {card_after after : List ℕ} (at : ℕ) → HoldsTask (memory_in b).doing → at ≡ block_word b (places_at + k) → at < length card
        → card_after ≡ set card at (get_or (part b values_at 73) k 0) → after ≡ played_block b (k + 1) later
        → StepMade card b card_after after (Stored (block_word b (places_at + k))) (due_of (memory_in b).rest)
    store_made at holds f h s w =
        let place = block_word b (places_at + k) in
        made_by (record { answer = Stored place; card = set card place (block_word b (values_at + k)); memory = advanced (memory_in b) later })
        (ap due_of rest_is ∙ store_inside card (memory_in b) store (advanced (memory_in b) later) (subst (λ (x : ℕ). x < length card) f h)) refl
        (s ∙ ap₂ (set card) f (part_word b values_at 73 k next_below))
        (w ∙ ap (λ (i : ℕ). played_block b i later) (add-one k ∙ ap suc e) ∙ sym (block_store (block_word b (places_at + k)) store later holds rest_is))
