-- What the block holds after a step is what the step hands back, whatever words the block had; and its words are those that the
-- contract names (StepWords).
use mathlib.Core.Path.{◌≡◌, refl, sym, ap, ap₂, subst, ◌∙◌}
use mathlib.Core.Bool.{Bool, true, false}
use mathlib.Core.List.{List, [], ◌∷◌}
use mathlib.Core.Option.{Option as Maybe, none, some}
use mathlib.Core.Logic.{by_cases}
use Prim.Native.Nat.{ℕ, suc, ◌≤◌, ◌<◌}
use native.Mathlib.Omega.{arith}
use native.Mathlib.Decide.{ℕ_discrete}
use native.Mathlib.Numerals.{add-one}
use lib.Dec.{eqb, ltb}
use lib.ListN.{length, get_or, set, drop, length-take, length-drop}
use lib.Seq.{drop-drop, get_or-set_same}
use borrow.Author.Tests.{eqb-true, eqb-false, eq-eqb, ne_eqb, ltb-true}
use Rattle.laws.specs.Cases.{pick}
use Rattle.laws.proofs.Cases.{impossible}
use Rattle.card.specs.Header.{Sized, nodes_of_length, header_refusal}
use Rattle.card.proofs.HeaderLaws.{nodes_sized}
use Rattle.card.specs.Lines.{seen, on_line}
use Rattle.card.proofs.LineLaws.{seen_long, seen_sized, on_node}
use Rattle.card.specs.Layout.{node_at}
use Rattle.card.specs.Stores.{Store}
use Rattle.card_free.specs.NodeSet.{word_count, capacity}
use Rattle.card_free.proofs.NodeSetLaws.{length_nodes}
use Rattle.walk.specs.Descent.{slot_of}
use Rattle.change_plan.specs.Plan.{stores_of}
use Rattle.change_plan.specs.Planning.{Preparation, refused, balanced, prepared}
use Rattle.change_layout.proofs.Bounds.{WithinBounds, laid_bounds}
use Rattle.call_change.specs.Updates.{landing, Reason, held, slot, full, insert_reason, FirstChange, insert_change, delete_change, insert_in, delete_in, no_way, in_leaf, next_change}
use Rattle.call_change.specs.Decided.{decided}
use Rattle.call_change.proofs.Decided.{next_decided, decided_fits}
use Rattle.state.specs.Memory.{Memory, advanced}
use Rattle.state.specs.Steps.{Step, held_by, step_refused, step_final, format_store, formatting_from, step_format, step_store}
use Rattle.state.specs.Block.{free_at, places_at, values_at, state_words, block_word, part, phase_in, doing_in, memory_in}
use Rattle.state.specs.declared.Doing.{Doing}
use Rattle.state.specs.declared.Doing.TheVariants.{Idle, Formatting, Inserting, Deleting, Repairing}
use Rattle.state.specs.declared.Phase.TheVariants.{NotBegun, InHand, Decided}
use Rattle.state.specs.declared.Task.{Task}
use Rattle.state.specs.declared.Held.{Held}
use Rattle.state.specs.declared.Held.TheVariants.{Nothing, Formatting as HeldFormatting, Task as HeldTask}
use Rattle.state.specs.Answer.{Answer}
use Rattle.state.specs.Answer.{Stored, Ready, Absent, Value, Refused}
use Rattle.state.proofs.Tasks.{TaskOf, putting, taking, put, taken, opened, task_of}
use Rattle.call_step.specs.Calls.{planning, step_prepared, step_begin, step_task, placed_on, on_card, step_checked, step_held, step_of}
use Rattle.call_step.specs.StepBlocks.{played_block, planned_block, first_stored, stored_block, step_block}
use Rattle.call_step.specs.StepWords.{stored_words, step_words}
use Rattle.call_step.proofs.StepBlockLaws.{Plannable, memory_idled, memory_formatting, memory_played, memory_first_stored}
use Rattle.call_step.proofs.StepWordsLaws.{hand_words_lem, first_words_lem}
use Rattle.std.specs.Prelude.{Option, Some, None}
use Rattle.walk.specs.declared.Landing.{Landing}

-- ---- the final answers

-- "gives the final answer": neither a store nor a refusal
unfoldable pub Ends : Answer → Type 0
Ends (Stored place) = ⊥
Ends Ready = Unit {0}
Ends Absent = Unit {0}
Ends (Value v) = Unit {0}
Ends (Refused r) = ⊥

module _ (greatest : ℕ) (card : List ℕ) (n : ℕ) (free : List Bool) (last : ℕ) where
  insert_ends : (key value m link : ℕ) (node : List ℕ) (reason : Reason) → Ends (insert_change key value free last m link node reason).final
  unfolding insert_change Ends
  insert_ends key value m link node (held v) = tt
  insert_ends key value m link node (slot i) = tt
  insert_ends key value m link node full = tt

  delete_ends : (key m : ℕ) (node : List ℕ) (found : Option ℕ) → Ends (delete_change key free last m node found).final
  unfolding delete_change Ends
  delete_ends key m node (Some i) = tt
  delete_ends key m node None = tt

  put_ends : (doing : Doing) (key value : ℕ) (l : Option Landing) → Ends (in_leaf card doing (insert_in key value free last) l).final
  unfolding in_leaf no_way Ends
  put_ends doing key value None = tt
  put_ends doing key value (Some l) = insert_ends key value l.node l.link (node_at card l.node) (insert_reason (node_at card l.node) key)

  take_ends : (doing : Doing) (key : ℕ) (l : Option Landing) → Ends (in_leaf card doing (delete_in key free last) l).final
  unfolding in_leaf no_way Ends
  take_ends doing key None = tt
  take_ends doing key (Some l) = delete_ends key l.node (node_at card l.node) (slot_of (node_at card l.node) key)

  pub next_ends : (doing : Doing) (task : Task) → TaskOf doing task → Ends (next_change card n free last doing task).final
  unfolding next_change Ends
  next_ends _ _ (putting {key} {value}) = put_ends (Inserting key value NotBegun) key value (landing card n key)
  next_ends _ _ (taking {key} {value}) = take_ends (Deleting key NotBegun value) key (landing card n key)
  next_ends _ _ (put h) = tt
  next_ends _ _ (taken h) = tt
  next_ends _ _ opened = tt

  -- what is prepared is within the bounds of a plan
  next_bounds : (doing : Doing) (task : Task) → Sized greatest (length card) n → WithinBounds free (next_change card n free last doing task).preparation
  next_bounds doing task s =
      subst (WithinBounds free) (sym (ap (λ (f : FirstChange). f.preparation) (next_decided card free last n doing task)))
      (laid_bounds card (decided card n doing task).decision free last (decided_fits greatest card n s doing task))

-- ---- what is being done

pub held_formatting : (d : Doing) (k : ℕ) → held_by d ≡ HeldFormatting k → d ≡ Formatting k
unfolding held_by
held_formatting Idle k e = impossible (cc)
held_formatting (Formatting made) k e = cc
held_formatting (Inserting key value NotBegun) k e = impossible (cc)
held_formatting (Inserting key value InHand) k e = impossible (cc)
held_formatting (Inserting key value Decided) k e = impossible (cc)
held_formatting (Deleting key NotBegun value) k e = impossible (cc)
held_formatting (Deleting key InHand value) k e = impossible (cc)
held_formatting (Deleting key Decided value) k e = impossible (cc)
held_formatting (Repairing key) k e = impossible (cc)

-- number 1 alone is formatting
pub formatting_word : (what a b c k : ℕ) → doing_in what a b c ≡ Formatting k → what ≡ 1
unfolding doing_in
formatting_word what a b c k e =
    by_cases (ℕ_discrete what 1) (λ z. z) (λ p. absurd (go (eqb what 2) (eqb what 3) (eqb what 4) (rw (ne_eqb what 1 p) at e)))
  where
    go : (x y z : Bool) → pick x (Inserting a b (phase_in c)) (pick y (Deleting a (phase_in c) b) (pick z (Repairing a) Idle)) ≡ Formatting k → ⊥
    go true y z f = impossible (cc)
    go false true z f = impossible (cc)
    go false false true f = impossible (cc)
    go false false false f = impossible (cc)

formatting_count : (what a b c k : ℕ) → doing_in what a b c ≡ Formatting k → a ≡ k
unfolding doing_in
formatting_count what a b c k e = same_count a k (subst (λ (w : ℕ). doing_in w a b c ≡ Formatting k) (formatting_word what a b c k e) e)
  where
    same_count : (x y : ℕ) → Formatting x ≡ Formatting y → x ≡ y
    same_count x y e = cc

-- an update or a repair has another number
task_word : (what a b c : ℕ) (task : Task) → held_by (doing_in what a b c) ≡ HeldTask task → what ≡ 1 → ⊥
unfolding doing_in held_by
task_word what a b c task e one = no_task (subst (λ (w : ℕ). held_by (doing_in w a b c) ≡ HeldTask task) one e)
  where
    no_task : HeldFormatting a ≡ HeldTask task → ⊥
    no_task e = impossible (cc)

-- ---- a step

pick_either : (P : Step → Type 0) (t : Bool) (x y : Step) → (t ≡ true → P x) → (t ≡ false → P y) → P (pick t x y)
pick_either P true x y h k = h refl
pick_either P false x y h k = k refl

pub first_prepared : (b : List ℕ) (f : FirstChange) {stores : List Store} {free : List Bool} {last : ℕ} {cut : List ℕ}
    → f.preparation ≡ prepared stores free last cut
    → first_stored b f ≡ played_block (planned_block b f.doing stores free last cut) 1 (drop 1 stores)
unfolding first_stored
first_prepared b f e =
    ap
    (λ (p : Preparation). elim p [
      | refused ↦ b
      | balanced ↦ b
      | prepared stores free last cut ↦ played_block (planned_block b f.doing stores free last cut) 1 (drop 1 stores)
    ]) e

drop_next : (k : ℕ) (ss : List Store) (s : Store) (rest : List Store) → drop k ss ≡ s ∷ rest → rest ≡ drop (suc k) ss
drop_next k ss s rest e = sym (ap (drop 1) e) ∙ drop-drop 1 k ss ∙ ap (λ (i : ℕ). drop i ss) (add-one k)

module _ (greatest line : ℕ) (card b : List ℕ) (l : length b ≡ state_words) where
  abbrev m : Memory
  m = memory_in b

  -- the line's own table
  abbrev table : List ℕ
  table = seen line card

  -- the block that a step leaves holds what it hands back, in the words named
  abbrev Right : Step → Type 0
  Right s = (memory_in (step_block table b s.answer) ≡ s.memory) × (step_block table b s.answer ≡ step_words b s s.answer)

  refused_right : (c : List ℕ) (r : ℕ) → Right (step_refused r c m)
  unfolding step_refused step_block step_words
  refused_right c r = (refl, refl)

  final_right : (c : List ℕ) (a : Answer) → Ends a → Right (step_final a c m)
  unfolding step_final step_block step_words Ends
  final_right c (Stored place) e = absurd e
  final_right c Ready e = (memory_idled b l, refl)
  final_right c Absent e = (memory_idled b l, refl)
  final_right c (Value v) e = (memory_idled b l, refl)
  final_right c (Refused r) e = absurd e

  abbrev stored : List ℕ
  stored = stored_block table b m (held_by m.doing) m.rest

  -- a store that leaves this state, where these were to come
  abbrev named : Store → Memory → List Store → List ℕ
  named s next rest = pick (eqb (block_word b 2) 1) (set b 3 (suc (block_word b 3))) (stored_words b s next rest)

  store_right : (s : Store) (next : Memory) → memory_in stored ≡ next → stored ≡ named s next m.rest → Right (step_store table m s next)
  unfolding step_store step_block step_words
  store_right s next e w =
      pick_either Right (ltb s.0 (length table)) _ _
      (λ t. (e, w ∙ ap (λ (v : ℕ). named (s.0, v) next m.rest) (sym (get_or-set_same table s.0 s.1 0 (ltb-true _ _ t))))) (λ t. refused_right table 9)

  checked_right : (due : Step) → Right due → Right (step_checked card m due)
  unfolding step_checked
  checked_right due h = pick_either Right (eqb (header_refusal card m.nodes) 0) _ _ (λ t. h) (λ t. refused_right card _)

  -- formatting
  format_right : (made : ℕ) → held_by m.doing ≡ HeldFormatting made → (next : Maybe Store) → Right (step_format card m made next)
  unfolding step_format step_block step_words stored_block memory_in Ends
  format_right made e none = final_right card Ready tt
  format_right made e (some s) =
      let doing = held_formatting m.doing made e in
      let one : block_word b 2 ≡ 1 = formatting_word _ _ _ _ made doing in
      let count : block_word b 3 ≡ made = formatting_count _ _ _ _ made doing in
      let elsewhere : List ℕ = stored_words b (s.0, get_or (set card s.0 s.1) s.0 0) (formatting_from m (suc made)) m.rest in (
        ap (λ (h : Held). memory_in (stored_block table b m h m.rest)) e ∙ memory_formatting b (suc made) l one,
        ap (λ (h : Held). stored_block table b m h m.rest) e
            ∙ ap (λ (k : ℕ). set b 3 (suc k)) (sym count)
            ∙ sym (ap (λ (t : Bool). pick t (set b 3 (suc (block_word b 3))) elsewhere) (eq-eqb (block_word b 2) 1 one)),
      )

  -- an update or a repair
  module _ (task : Task) (e : held_by m.doing ≡ HeldTask task) where
    -- it is not formatting
    on_task : (s : Store) (next : Memory) (rest : List Store) → named s next rest ≡ stored_words b s next rest
    unfolding memory_in
    on_task s next rest =
        ap (λ (t : Bool). pick t (set b 3 (suc (block_word b 3))) (stored_words b s next rest)) (ne_eqb (block_word b 2) 1 (task_word _ _ _ _ task e))

    in_hand_right : (s : Store) (rest : List Store) → m.rest ≡ s ∷ rest → Right (step_store table m s (advanced m rest))
    unfolding stored_block memory_in stored_words
    in_hand_right s rest r =
        store_right s (advanced m rest)
        (ap₂ (λ (h : Held) (x : List Store). memory_in (stored_block table b m h x)) e r
        ∙ memory_played b (suc (block_word b 6)) rest l
        (drop_next (block_word b 6) (stores_of (part b places_at 73) (part b values_at 73) (block_word b 7)) s rest r))
        (ap₂ (λ (h : Held) (x : List Store). stored_block table b m h x) e r
        ∙ hand_words_lem b rest
        ∙ ap (stored_words b s (advanced m rest)) (sym r)
        ∙ sym (on_task s (advanced m rest) m.rest))

    abbrev next : FirstChange
    next = next_change table m.nodes m.free m.last m.doing task

    free_full : length m.free ≡ capacity
    unfolding memory_in
    free_full = omega (arith, length_nodes (part b free_at word_count), length-take word_count (drop 11 b), length-drop 11 b)

    prepared_right : m.rest ≡ [] → (p : Preparation) → next.preparation ≡ p → WithinBounds m.free p
        → Right (step_prepared table m next.doing next.final p)
    unfolding step_prepared WithinBounds stored_block stored_words
    prepared_right r refused f w = refused_right table 9
    prepared_right r balanced f w =
        final_right table next.final (next_ends greatest table m.nodes m.free m.last m.doing task (task_of m.doing task e))
    prepared_right r (prepared stores free last cut) f w =
        let plan : Plannable stores free cut = record { short = w.short; full = w.same ∙ free_full; few = w.few; readable = w.readable } in
        let then : Memory = advanced (planning m next.doing free last cut) (drop 1 stores) in
        store_right (get_or stores 0 (0, 0)) then
        (ap₂ (λ (h : Held) (x : List Store). memory_in (stored_block table b m h x)) e r
        ∙ ap memory_in (first_prepared b next f)
        ∙ memory_first_stored b next.doing stores free last cut l plan)
        (ap₂ (λ (h : Held) (x : List Store). stored_block table b m h x) e r
        ∙ first_prepared b next f
        ∙ first_words_lem b next.doing free last cut stores w.some l plan
        ∙ ap (stored_words b (get_or stores 0 (0, 0)) then) (sym r)
        ∙ sym (on_task (get_or stores 0 (0, 0)) then m.rest))

    -- the line's table is as long as the card
    module _ (size : Sized greatest (length card) m.nodes) where
      bounds : WithinBounds m.free next.preparation
      bounds = next_bounds greatest table m.nodes m.free m.last m.doing task (seen_sized line card size)

      task_right : (rest : List Store) → m.rest ≡ rest → Right (step_task table m task rest)
      unfolding step_task step_begin
      task_right [] r = prepared_right r next.preparation refl bounds
      task_right (x ∷ rest) r = in_hand_right x rest r

      -- the words named by the store on the card: those of a first store, which is in a node, name its place; the others do not
      abbrev Named : Step → Type 0
      Named s = (p : ℕ) → s.answer ≡ Stored p
          → stored_words b (on_line line p, get_or (set card (on_line line p) (get_or s.card p 0)) (on_line line p) 0) s.memory m.rest
          ≡ stored_words b (p, get_or s.card p 0) s.memory m.rest

      on_card_right : (s : Step) → Named s → Right s → Right (on_card line card s)
      unfolding on_card placed_on step_block step_words
      on_card_right s h r = go s.answer refl
        where
          go : (a : Answer) → s.answer ≡ a → Right (placed_on line card s a)
          go (Stored p) e =
              let q = subst (λ (a : Answer). (memory_in (step_block table b a) ≡ s.memory) × (step_block table b a ≡ step_words b s a)) e r in
              (q.0, q.1 ∙ ap (pick (eqb (block_word b 2) 1) (set b 3 (suc (block_word b 3)))) (sym (h p e)))
          go Ready e = subst (λ (a : Answer). (memory_in (step_block table b a) ≡ s.memory) × (step_block table b a ≡ step_words b s a)) e r
          go Absent e = subst (λ (a : Answer). (memory_in (step_block table b a) ≡ s.memory) × (step_block table b a ≡ step_words b s a)) e r
          go (Value v) e = subst (λ (a : Answer). (memory_in (step_block table b a) ≡ s.memory) × (step_block table b a ≡ step_words b s a)) e r
          go (Refused x) e = subst (λ (a : Answer). (memory_in (step_block table b a) ≡ s.memory) × (step_block table b a ≡ step_words b s a)) e r

      hand_named : (x : Store) (rest : List Store) → m.rest ≡ x ∷ rest → (s : Step) → Named s
      unfolding stored_words
      hand_named x rest r s p e = rw r refl

      -- a store in a node
      node_named : (s : Step) → ((p : ℕ) → s.answer ≡ Stored p → (8 ≤ p) × (p < length table)) → Named s
      node_named s h p e =
          let at = h p e in
          let same : on_line line p ≡ p = on_node line p (λ z. omega (arith, at.0)) in
          ap (λ (x : Store). stored_words b x s.memory m.rest)
          (ap (λ (q : ℕ). (q, get_or (set card q (get_or s.card p 0)) q 0)) same
          ∙ ap (λ (v : ℕ). (p, v)) (get_or-set_same card p (get_or s.card p 0) 0 (omega (arith, at.1, seen_long line card size))))

      store_in : (s : Store) (then : Memory) → 8 ≤ s.0 → (p : ℕ) → (step_store table m s then).answer ≡ Stored p → (8 ≤ p) × (p < length table)
      unfolding step_store step_refused
      store_in s then h p =
          pick_either (λ x. x.answer ≡ Stored p → (8 ≤ p) × (p < length table)) (ltb s.0 (length table)) _ _
          (λ t e. let same : s.0 ≡ p = cc in (omega (arith, same), omega (arith, same, ltb-true s.0 (length table) t))) (λ t e. impossible (cc))

      prepared_in : (prep : Preparation) → WithinBounds m.free prep → (p : ℕ) → (step_prepared table m next.doing next.final prep).answer ≡ Stored p
          → (8 ≤ p) × (p < length table)
      unfolding step_prepared WithinBounds step_refused step_final Ends
      prepared_in refused w p f = impossible (cc)
      prepared_in balanced w p f =
          absurd (subst Ends f (next_ends greatest table m.nodes m.free m.last m.doing task (task_of m.doing task e)))
      prepared_in (prepared stores free last cut) w p f =
          store_in (get_or stores 0 (0, 0)) (advanced (planning m next.doing free last cut) (drop 1 stores)) w.in_node p f

      task_on_card : (rest : List Store) → m.rest ≡ rest → Right (on_card line card (step_task table m task rest))
      unfolding step_task step_begin
      task_on_card [] r =
          let s = step_task table m task [] in
          on_card_right s (node_named s (prepared_in next.preparation bounds)) (task_right [] r)
      task_on_card (x ∷ rest) r =
          let s = step_task table m task (x ∷ rest) in
          on_card_right s (hand_named x rest r s) (task_right (x ∷ rest) r)

  held_right : Sized greatest (length card) m.nodes → (h : Held) → held_by m.doing ≡ h → Right (step_held line card m h)
  unfolding step_held
  held_right s Nothing e = checked_right _ (refused_right card 10)
  held_right s (HeldFormatting made) e = format_right made e (format_store m.nodes (length card) made)
  held_right s (HeldTask task) e = checked_right _ (task_on_card task e s m.rest refl)

  pub step_right : Right (step_of greatest line card m)
  unfolding step_of
  step_right =
      pick_either Right (eqb (nodes_of_length greatest (length card)) 0) _ _ (λ t. refused_right card 1)
      (λ t. pick_either Right (eqb (nodes_of_length greatest (length card)) m.nodes) _ _
      (λ u. held_right (subst (Sized greatest (length card)) (eqb-true _ _ u) (nodes_sized greatest (length card) (eqb-false _ _ t))) (held_by m.doing) refl)
      (λ u. refused_right card 1))
