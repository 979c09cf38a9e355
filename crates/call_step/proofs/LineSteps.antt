-- A step of a line's own table, on the card: where its store stands; and on a card with one line it is the card's own step.
use mathlib.Core.Path.{◌≡◌, refl, sym, ap, ap₂, subst, ◌∙◌}
use mathlib.Core.Bool.{Bool, true, false}
use mathlib.Core.List.{List, [], ◌∷◌}
use mathlib.Core.Logic.{by_cases}
use Prim.Native.Nat.{ℕ, ◌+◌, ◌≤◌, ◌<◌}
use native.Mathlib.Omega.{arith}
use native.Mathlib.Decide.{ℕ_discrete}
use lib.ListN.{length, get_or, set, drop}
use lib.Seq.{set-get_or, get_or-set_same}
use lib.Dec.{ltb}
use borrow.Author.Tests.{ltb-true}
use Rattle.laws.proofs.Cases.{bool_cases}
use Rattle.card.specs.Header.{header_refusal}
use Rattle.card.specs.Layout.{root_place}
use Rattle.card.specs.Lines.{IsLine, seen, on_line}
use Rattle.card.specs.Stores.{Store}
use Rattle.card.proofs.HeaderLaws.{header_formatted}
use Rattle.card.proofs.LineLaws.{seen_length, seen_only, on_root, on_node, on_first}
use Rattle.change_plan.specs.Planning.{Preparation, refused, balanced, prepared}
use Rattle.state.specs.Block.{places_at, values_at, state_words, block_word, part, memory_in}
use Rattle.state.specs.Blocks.{over, words_of}
use Rattle.card_free.specs.NodeSet.{word_count}
use Rattle.state.specs.Memory.{Memory, advanced}
use Rattle.state.specs.Results.{more_to_store}
use Rattle.state.specs.Steps.{Step, step_refused, step_final, step_store}
use Rattle.state.specs.Answer.{Answer}
use Rattle.state.specs.Answer.{Stored, Ready, Absent, Value, Refused}
use Rattle.state.specs.declared.Doing.{Doing}
use Rattle.state.specs.declared.Task.{Task}
use Rattle.call_step.specs.Calls.{planning, step_prepared, step_begin, step_task, placed_on, on_card}
use Rattle.call_step.specs.StepBlocks.{settled_block, played_block, step_block}
use Rattle.call_step.specs.Clauses.{StepMade, MadeOn, HoldsTask}
use Rattle.call_step.proofs.ContractLaws.{store_refused, store_made}
use Rattle.call_step.proofs.PlayLaws.{planned, freed_nodes, played_on, ended}

-- an answer that is not "stored"
unfoldable pub Still : Answer → Type 0
Still (Stored place) = ⊥
Still Ready = Unit {0}
Still Absent = Unit {0}
Still (Value v) = Unit {0}
Still (Refused r) = Unit {0}

module _ (line : ℕ) (card : List ℕ) where
  still_placed : (s : Step) (a : Answer) → Still a → placed_on line card s a ≡ record { answer = a; card = card; memory = s.memory }
  unfolding Still placed_on
  still_placed s (Stored place) q = absurd q
  still_placed s Ready q = refl
  still_placed s Absent q = refl
  still_placed s (Value v) q = refl
  still_placed s (Refused r) q = refl

  -- what is handed back is the table's own
  pub on_memory : (s : Step) → (on_card line card s).memory ≡ s.memory
  unfolding on_card placed_on
  on_memory s = go s.answer
    where
      go : (a : Answer) → (placed_on line card s a).memory ≡ s.memory
      go (Stored place) = refl
      go Ready = refl
      go Absent = refl
      go (Value v) = refl
      go (Refused r) = refl

  module _ (b : List ℕ) where
    -- nothing is stored
    pub made_still : {table_after after : List ℕ} {answer : Answer} {due : Step} → StepMade (seen line card) b table_after after answer due → Still answer
        → MadeOn line card b card after answer due
    unfolding on_card
    made_still {answer = answer} {due} s q =
        let is : placed_on line card due due.answer ≡ record { answer = answer; card = card; memory = due.memory } =
        ap (placed_on line card due) (sym s.answered) ∙ still_placed due answer q in
        record { answered = sym (ap (λ (x : Step). x.answer) is); stored = sym (ap (λ (x : Step). x.card) is); words = s.words }

    -- a word is stored, in the card's word for it
    pub made_stored : {card_after after : List ℕ} {answer : Answer} {due : Step} (p v : ℕ) → p < length (seen line card)
        → StepMade (seen line card) b (set (seen line card) p v) after (Stored p) due → answer ≡ Stored (on_line line p) → card_after ≡ set card (on_line line p) v
        → MadeOn line card b card_after after answer due
    unfolding on_card placed_on
    made_stored {due = due} p v h s e f =
        let is : placed_on line card due due.answer ≡ placed_on line card due (Stored p) = ap (placed_on line card due) (sym s.answered) in
        let value : get_or due.card p 0 ≡ v = sym (ap (λ (x : List ℕ). get_or x p 0) s.stored) ∙ get_or-set_same (seen line card) p v 0 h in
        record {
          answered = e ∙ sym (ap (λ (x : Step). x.answer) is);
          stored = f ∙ ap (set card (on_line line p)) (sym value) ∙ sym (ap (λ (x : Step). x.card) is);
          words = s.words;
        }

    -- as a part of the call
    same_block : (s : Step) (a : Answer) → step_block (seen line card) b a ≡ step_block (seen line card) b (placed_on line card s a).answer
    unfolding placed_on step_block
    same_block s (Stored place) = refl
    same_block s Ready = refl
    same_block s Absent = refl
    same_block s (Value v) = refl
    same_block s (Refused r) = refl

    pub as_made : {card_after after : List ℕ} {answer : Answer} {due whole : Step} → whole ≡ on_card line card due → MadeOn line card b card_after after answer due
        → StepMade (seen line card) b card_after after answer whole
    unfolding on_card
    as_made {card_after} {after} {answer} {due} e s =
        subst (StepMade (seen line card) b card_after after answer) (sym e)
        (record { answered = s.answered; stored = s.stored; words = s.words ∙ same_block due due.answer })

-- whether a place is on the card, for the line and in its table
pub on_outside : (line len p : ℕ) → IsLine line → 8 ≤ len → len ≤ on_line line p → len ≤ p
on_outside line len p is h k =
    by_cases (ℕ_discrete p root_place) (λ e. absurd (omega (arith, k, on_root line p e, is.to))) (λ d. omega (arith, k, on_node line p d))

pub on_inside : (line len p : ℕ) → IsLine line → 8 ≤ len → on_line line p < len → p < len
on_inside line len p is h k = by_cases (ℕ_discrete p root_place) (λ e. omega (arith, e)) (λ d. omega (arith, k, on_node line p d))

-- a store of the change in hand
module _ (line : ℕ) (card b : List ℕ) (is : IsLine line) (big : 8 ≤ length card) (long : length b ≡ state_words) (more : more_to_store (memory_in b).rest ≡ true) (k : ℕ)
    (e : k ≡ block_word b 6) where
  abbrev next_due : Step
  next_due = step_store (seen line card) (memory_in b) (get_or (memory_in b).rest 0 (0, 0)) (advanced (memory_in b) (drop 1 (memory_in b).rest))

  -- the place is looked at before the store
  module _ (place at : ℕ) (named : place ≡ on_line line (block_word b (places_at + k))) (same : at ≡ place) where
    pub next_refused : length card ≤ at → MadeOn line card b card b (Refused 9) next_due
    unfolding Still
    next_refused h =
        let asked = block_word b (places_at + k) in
        made_still line card b
        (store_refused (seen line card) b long more k e (omega (arith, on_outside line (length card) asked is big (omega (arith, h, same, named)), seen_length line card big))) tt

    module _ {card_after after : List ℕ} (holds : HoldsTask (memory_in b).doing) (h : at < length card)
        (s : card_after ≡ set card at (get_or (part b values_at 73) k 0)) where
      next_made : after ≡ played_block b (k + 1) (drop (k + 1) (planned b)) → MadeOn line card b card_after after (Stored place) next_due
      next_made w =
          let asked = block_word b (places_at + k) in
          let inside : asked < length (seen line card) = omega (arith, on_inside line (length card) asked is big (omega (arith, h, same, named)), seen_length line card big) in
          made_stored line card b asked (get_or (part b values_at 73) k 0) inside
          (store_made (seen line card) b long more k e asked holds refl inside refl w) (ap Stored named)
          (s ∙ ap (λ (x : ℕ). set card x (get_or (part b values_at 73) k 0)) (same ∙ named))

      -- another store is to come of the plan, or none
      module _ (again : Bool) (left : again ≡ more_to_store (drop (k + 1) (planned b))) where
        pub next_goes_on : again ≡ true → after ≡ set b 6 (k + 1) → MadeOn line card b card_after after (Stored place) next_due
        next_goes_on t w = next_made (w ∙ played_on b long (k + 1) (drop (k + 1) (planned b)) (sym left ∙ t))

        pub next_ends : again ≡ false → (counted : List ℕ) → counted ≡ set b 6 (k + 1)
            → after ≡ settled_block (over (over counted 11 (words_of word_count (freed_nodes counted))) 8 (0 ∷ 0 ∷ 0 ∷ [])) → MadeOn line card b card_after after (Stored place) next_due
        next_ends t counted w q = next_made (ended b long (k + 1) (drop (k + 1) (planned b)) (sym left ∙ t) w q)

-- ---- the first line of a card

module _ (card : List ℕ) where
  first_placed : (s : Step) (a : Answer) → s.answer ≡ a → ((p : ℕ) → s.answer ≡ Stored p → set card p (get_or s.card p 0) ≡ s.card) → (Still a → card ≡ s.card) → placed_on 1 card s a ≡ s
  unfolding placed_on Still
  first_placed s (Stored p) e h k =
      ap₂ (λ (q : ℕ) (c : List ℕ). record { answer = Stored q; card = c; memory = s.memory }) (on_first p)
      (ap (λ (q : ℕ). set card q (get_or s.card p 0)) (on_first p) ∙ h p e)
      ∙ ap (λ (a : Answer). record { answer = a; card = s.card; memory = s.memory }) (sym e)
  first_placed s Ready e h k = ap₂ (λ (a : Answer) (c : List ℕ). record { answer = a; card = c; memory = s.memory }) (sym e) (k tt)
  first_placed s Absent e h k = ap₂ (λ (a : Answer) (c : List ℕ). record { answer = a; card = c; memory = s.memory }) (sym e) (k tt)
  first_placed s (Value v) e h k = ap₂ (λ (a : Answer) (c : List ℕ). record { answer = a; card = c; memory = s.memory }) (sym e) (k tt)
  first_placed s (Refused r) e h k = ap₂ (λ (a : Answer) (c : List ℕ). record { answer = a; card = c; memory = s.memory }) (sym e) (k tt)

  first_still : (s : Step) → s.card ≡ card → on_card 1 card s ≡ s
  unfolding on_card
  first_still s e = first_placed s s.answer refl (λ p f. ap (λ (c : List ℕ). set card p (get_or c p 0)) e ∙ set-get_or card p 0 ∙ sym e) (λ q. sym e)

  module _ (m : Memory) where
    first_store : (s : Store) (next : Memory) → on_card 1 card (step_store card m s next) ≡ step_store card m s next
    unfolding step_store step_refused on_card placed_on Still
    first_store s next =
        bool_cases (ltb s.0 (length card))
        (λ t. rw t (first_placed (record { answer = Stored s.0; card = set card s.0 s.1; memory = next }) (Stored s.0) refl
        (λ p e. let same : s.0 ≡ p = cc in
        subst (λ (q : ℕ). set card q (get_or (set card s.0 s.1) q 0) ≡ set card s.0 s.1) same (ap (set card s.0) (get_or-set_same card s.0 s.1 0 (ltb-true _ _ t))))
        (λ q. absurd q)))
        (λ t. rw t refl)

    first_prepared : (doing : Doing) (final : Answer) (p : Preparation) → on_card 1 card (step_prepared card m doing final p) ≡ step_prepared card m doing final p
    unfolding step_prepared step_refused step_final
    first_prepared doing final refused = first_still _ refl
    first_prepared doing final balanced = first_still _ refl
    first_prepared doing final (prepared stores free last cut) = first_store (get_or stores 0 (0, 0)) (advanced (planning m doing free last cut) (drop 1 stores))

    first_task : (task : Task) (rest : List Store) → on_card 1 card (step_task card m task rest) ≡ step_task card m task rest
    unfolding step_task step_begin
    first_task task [] = first_prepared _ _ _
    first_task task (s ∷ rest) = first_store s (advanced m rest)

    -- a step of the first line's table is the card's own
    pub first_line_lem : (task : Task) (rest : List Store) → 8 ≤ length card → header_refusal card m.nodes ≡ 0
        → on_card 1 card (step_task (seen 1 card) m task rest) ≡ step_task card m task rest
    first_line_lem task rest h w =
        ap (λ (c : List ℕ). on_card 1 card (step_task c m task rest)) (seen_only card m.nodes h (header_formatted card m.nodes w)) ∙ first_task task rest
