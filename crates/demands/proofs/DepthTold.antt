-- W-203, of the ration table: what is told beside the answers is the number of internal nodes on the number's way when the call began.
use mathlib.Core.Path.{◌≡◌, refl, ap, ap₂, ◌∙◌}
use mathlib.Core.Bool.{Bool, true}
use mathlib.Core.List.{List, [], ◌∷◌}
use mathlib.Core.Option.{Option as Maybe, none, some}
use Prim.Native.Nat.{ℕ, ◌<◌}
use native.Mathlib.Omega.{arith}
use lib.ListN.{length, get_or, drop}
use lib.Dec.{eqb, ltb}
use Rattle.card.specs.Lines.{seen}
use Rattle.card.proofs.LineLaws.{seen_only}
use Rattle.call_step.proofs.LineSteps.{on_memory}
use Rattle.card.proofs.LineLaws.{line_one}
use Rattle.card.specs.Lines.{seen}
use Rattle.theory_change.proofs.Line.{only}
use Rattle.laws.proofs.Cases.{bool_cases}
use Rattle.card.specs.Header.{nodes_of_length, card_refusal, header_refusal, Sized}
use Rattle.card.specs.Layout.{root_place, depth_limit, key_limit, node_at}
use Rattle.card.specs.Replies.{started}
use Rattle.card.specs.Stores.{Store}
use Rattle.card.proofs.HeaderLaws.{sized_nodes}
use Rattle.change_plan.specs.Planning.{Preparation, refused, balanced, prepared}
use Rattle.walk.specs.Descent.{way, root_position, leaf_of, depth_of, slot_of}
use Rattle.call_find.specs.Answers.{found_reply}
use Rattle.call_find.specs.Find.{found_in, found_at, find_of, find_depth, find_in, depth_in}
use Rattle.call_find.proofs.FindLaws.{depth_only}
use Rattle.walk_next.proofs.SuccessorLaws.{depth_only as next_depth_only}
use Rattle.walk_next.specs.Successor.{next_of, next_reply, carried, next_depth}
use Rattle.walk_next.specs.Next.{Successor}
use Rattle.walk_next.specs.Next.{Pair, Nothing as NoNext, Refused as NextRefused}
use Rattle.state.specs.Answers.{step_reply, told_depth, start_reply}
use Rattle.state.specs.Memory.{Memory, idled, advanced}
use Rattle.state.specs.Steps.{held_by, Step, Handed, step_refused, step_final, step_format, step_store, formatting_from}
use Rattle.state.specs.Answer.{Answer}
use Rattle.state.specs.Answer.{Stored, Ready, Absent, Value, Refused}
use Rattle.state.specs.declared.Doing.{Doing}
use Rattle.state.specs.declared.Doing.TheVariants.{Inserting, Deleting}
use Rattle.state.specs.declared.Phase.TheVariants.{NotBegun}
use Rattle.state.specs.declared.Held.{Held}
use Rattle.state.specs.declared.Held.TheVariants.{Nothing, Formatting, Task as HeldTask}
use Rattle.state.specs.declared.Task.{Task}
use Rattle.call_change.specs.Updates.{start_room}
use Rattle.call_start.specs.Starts.{start_accepted, start_depth, start_of, insert_of, delete_of, room_of}
use Rattle.call_step.specs.Calls.{planning, step_prepared, step_begin, step_task, step_checked, step_held, step_of}
use Rattle.call_step.proofs.StepLaws.{step_sized, step_unsized}
use Rattle.theory_tree.specs.Passed.{passed_in}
use Rattle.theory_tree.specs.Pairs.{pairs}
use Rattle.theory_tree.specs.Tree.{Tree}
use Rattle.theory_tree.specs.WellFormed.{WellFormed}
use Rattle.theory_walk.proofs.Depth.{way_depth_lem, passed_levels}
use Rattle.theory_next.proofs.IsNext.{IsNext}
use Rattle.theory_next.proofs.Next.{next_right}
use Rattle.demands.specs.Book.{Book}
use Rattle.demands.specs.Events.{Event, World, reply_to, happens, run, LeftUncut, ask, insert, delete, step, cut}
use Rattle.demands.specs.RationTable.{ration_table}
use Rattle.demands.specs.Refusals.{Idle}
use Rattle.demands.specs.Table.{Refused as IsRefused}
use Rattle.demands.specs.Worked.{dictionary}
use Rattle.demands.specs.W203.{TellsStart, Rested, W203}
use Rattle.demands.specs.W214.{Line}
use Rattle.demands.proofs.FirstRows.{sized?}
use Rattle.demands.proofs.Invariant.{Table}
use Rattle.demands.proofs.PowerCuts.{Covered, always}
use Rattle.demands.proofs.PowerLoss.{insert_same, delete_same}
use Rattle.demands.proofs.Reopen.{table_depth_limited, card_accepted, well_formed_table}
use Rattle.demands.proofs.AnswerNumbers.{start_small, SmallAnswer, step_small}
use Rattle.demands.proofs.ReplyLaws.{code_of, begun_started}
use Rattle.demands.proofs.Starting.{nodes_same}
use Rattle.demands.proofs.StartRows.{started_is}
use Rattle.std.specs.Prelude.{Option, Some, None}
use Rattle.walk.specs.declared.Landing.{Landing}
use Rattle.walk.specs.declared.Reached.{Reached}

-- what the step on this card and state tells
abbrev pub step_depth : ℕ → List ℕ → Memory → ℕ
step_depth greatest c m = told_depth (step_of greatest 1 c m).memory.depth (step_of greatest 1 c m).answer

-- ---- the way on the card and through the tree

passes : (greatest : ℕ) (c : List ℕ) (n : ℕ) (t : Tree) → Table greatest c n t → (key : ℕ) → depth_of (leaf_of (way c n key)) ≡ passed_in key t
unfolding way depth_of root_position
passes greatest c n t b key =
    ap depth_of (way_depth_lem c n key b.sized.words depth_limit t b.holds.2 (table_depth_limited greatest b) (root_position (get_or c root_place 0)) b.holds.0).1

module _ (greatest : ℕ) (w : World (ration_table greatest)) (b : Book) (v : Covered greatest w b) where
  -- every tree that the card's words hold soundly
  standing : (t : Tree) → WellFormed w.card t → Table greatest w.card v.size t
  standing t k = well_formed_table greatest v.inv.table.sized v.inv.table.header k

  accepted : card_refusal greatest w.card ≡ 0
  accepted = (card_accepted greatest v.inv.table.sized v.inv.table.header).0

  on_card_lem : nodes_of_length greatest (length w.card) ≡ v.size
  on_card_lem = sized_nodes greatest (length w.card) v.size v.inv.table.sized

  find_tells : (t : Tree) → WellFormed w.card t → (key : ℕ) → 0 < key → key < key_limit → find_depth greatest 1 w.card key ≡ passed_in key t
  find_tells t k key low high =
      depth_only greatest w.card key accepted (λ z. omega arith) ∙ ap (λ (n : ℕ). depth_of (leaf_of (way w.card n key))) on_card_lem ∙ passes greatest w.card v.size t (standing t k) key

  next_tells : (t : Tree) → WellFormed w.card t → (number : ℕ) → number < key_limit → next_depth greatest 1 w.card number ≡ passed_in number t
  unfolding carried
  next_tells t k number high =
      next_depth_only greatest w.card number accepted
      ∙ go (next_of greatest 1 w.card number) (next_right greatest w.card t number k accepted high)
      ∙ ap (λ (n : ℕ). depth_of (leaf_of (way w.card n number))) on_card_lem ∙ passes greatest w.card v.size t (standing t k) number
    where
      go : (s : Successor) → IsNext (pairs t) number s → carried (depth_of (leaf_of (way w.card (nodes_of_length greatest (length w.card)) number))) s
          ≡ depth_of (leaf_of (way w.card (nodes_of_length greatest (length w.card)) number))
      go (Pair key value) i = refl
      go NoNext i = refl
      go (NextRefused r) i = absurd i

  rest_tells : Idle (ration_table greatest) w.state → (l : Line w.card b.held) → (number : ℕ) → number < key_limit → Rested (find_depth greatest 1) (next_depth greatest 1) w.card l number
  rest_tells idle l number high =
      let k = l.right.balanced.well_formed in
      let levels = passed_levels number l.depth l.right.table k.widths l.right.balanced.none l.level in
      record {
        found = λ low. find_tells l.right.table k number low high ∙ levels;
        next = next_tells l.right.table k number high ∙ levels;
        updated = levels;
      }

-- ---- a step, on any card and state, leaves the depth as it was

module _ (greatest : ℕ) (c : List ℕ) (m : Memory) where
  advanced_depth : (x : Memory) (rest : List Store) → (advanced x rest).depth ≡ x.depth
  unfolding advanced
  advanced_depth x [] = refl
  advanced_depth x (s ∷ rest) = refl

  store_depth : (s : Store) (next : Memory) → next.depth ≡ m.depth → (step_store c m s next).memory.depth ≡ m.depth
  unfolding step_store step_refused
  store_depth s next e = bool_cases (ltb s.0 (length c)) (λ q. rw q e) (λ q. rw q)

  prepared_depth : (doing : Doing) (final : Answer) (p : Preparation) → (step_prepared c m doing final p).memory.depth ≡ m.depth
  unfolding step_prepared step_refused step_final idled planning
  prepared_depth doing final refused = refl
  prepared_depth doing final balanced = refl
  prepared_depth doing final (prepared ss free last out) = store_depth _ _ (advanced_depth _ (drop 1 ss))

  task_depth : (task : Task) (rest : List Store) → (step_task c m task rest).memory.depth ≡ m.depth
  unfolding step_task step_begin
  task_depth task [] = prepared_depth _ _ _
  task_depth task (s ∷ rest) = store_depth s (advanced m rest) (advanced_depth m rest)

module _ (greatest : ℕ) (c : List ℕ) (m : Memory) where
  checked_depth : (due : Step) → due.memory.depth ≡ m.depth → (step_checked c m due).memory.depth ≡ m.depth
  unfolding step_checked step_refused
  checked_depth due e = bool_cases (eqb (header_refusal c m.nodes) 0) (λ q. rw q e) (λ q. rw q)

  format_depth : (made : ℕ) (o : Maybe Store) → (step_format c m made o).memory.depth ≡ m.depth
  unfolding step_format step_final idled formatting_from
  format_depth made none = refl
  format_depth made (some s) = refl

  held_depth : (held : Held) → (step_held 1 c m held).memory.depth ≡ m.depth
  unfolding step_held step_refused
  held_depth Nothing = checked_depth _ refl
  held_depth (Formatting made) = format_depth made _
  held_depth (HeldTask task) = checked_depth _ (ap (λ (x : Memory). x.depth) (on_memory 1 c (step_task (seen 1 c) m task m.rest)) ∙ task_depth greatest (seen 1 c) m task m.rest)

  step_keeps : (step_of greatest 1 c m).memory.depth ≡ m.depth
  unfolding step_refused
  step_keeps = go (sized? greatest (length c) m.nodes)
    where
      go : Dec (Sized greatest (length c) m.nodes) → (step_of greatest 1 c m).memory.depth ≡ m.depth
      go (yes s) = ap (λ (x : Step). x.memory.depth) (step_sized greatest 1 c m s) ∙ held_depth (held_by m.doing)
      go (no p) = ap (λ (x : Step). x.memory.depth) (step_unsized greatest 1 c m p)

run_keeps : (greatest : ℕ) (qs : List Event) (w : World (ration_table greatest)) → LeftUncut (ration_table greatest) qs w → (run (ration_table greatest) qs w).state.depth ≡ w.state.depth
unfolding LeftUncut run happens
run_keeps greatest [] w u = refl
run_keeps greatest (ask q ∷ qs) w u = run_keeps greatest qs w u.1
run_keeps greatest (insert key value ∷ qs) w u =
    run_keeps greatest qs (happens (ration_table greatest) (insert key value) w) u.1 ∙ ap (λ (x : World (ration_table greatest)). x.state.depth) (insert_same greatest key value w u.0)
run_keeps greatest (delete key ∷ qs) w u =
    run_keeps greatest qs (happens (ration_table greatest) (delete key) w) u.1
    ∙ ap (λ (x : World (ration_table greatest)). x.state.depth) (delete_same greatest key w u.0)
run_keeps greatest (step ∷ qs) w u = run_keeps greatest qs (happens (ration_table greatest) step w) u.1 ∙ step_keeps greatest w.card w.state
run_keeps greatest (cut ∷ qs) w u = absurd u.0

-- ---- the final answer tells it

told_final : (depth : ℕ) (a : Answer) (held : Maybe ℕ) → SmallAnswer a → step_reply a ≡ dictionary held → told_depth depth a ≡ depth
unfolding step_reply told_depth dictionary
told_final depth (Stored place) none s e = absurd (omega (arith, code_of e))
told_final depth (Stored place) (some v) s e = absurd (omega (arith, code_of e))
told_final depth Ready none s e = absurd (omega (arith, code_of e))
told_final depth Ready (some v) s e = absurd (omega (arith, code_of e))
told_final depth Absent held s e = refl
told_final depth (Value v) held s e = refl
told_final depth (Refused r) none s e = absurd (omega (arith, s, code_of e))
told_final depth (Refused r) (some v) s e = absurd (omega (arith, s, code_of e))

-- and no other answer does
told_others : (depth : ℕ) (a : Answer) → ((held : Maybe ℕ) → step_reply a ≡ dictionary held → ⊥) → told_depth depth a ≡ 0
unfolding step_reply told_depth dictionary
told_others depth (Stored place) n = refl
told_others depth Ready n = refl
told_others depth Absent n = absurd (n none refl)
told_others depth (Value v) n = absurd (n (some v) refl)
told_others depth (Refused r) n = refl

-- ---- an update tells the depth that its start kept

module _ (greatest : ℕ) (w : World (ration_table greatest)) (b : Book) (v : Covered greatest w b) where
  -- the depth of the key's way on the card as it is now
  now_passed : (t : Tree) → WellFormed w.card t → (key : ℕ) → start_depth 1 w.card w.state key ≡ passed_in key t
  now_passed t k key =
      ap₂ (λ (c : List ℕ) (n : ℕ). depth_of (leaf_of (way c n key)))
      (seen_only w.card v.size (omega (arith, v.inv.table.sized.words)) v.inv.table.header) (nodes_same greatest
      (only v.size) v.steps w b v.inv) ∙ passes greatest w.card v.size t (standing greatest w b v t k) key

  -- after a start that works, whatever calls come before the final answer
  begun_tells : (key : ℕ) (doing : Doing) (room : Option Landing → Bool) (t : Tree) → WellFormed w.card t
      → start_reply (start_of greatest 1 w.card w.state key doing room).begun ≡ started
      → (u : World (ration_table greatest)) → u ≡ record { card = w.card; state = (start_of greatest 1 w.card w.state key doing room).memory }
      → (qs : List Event) → LeftUncut (ration_table greatest) qs u → (held : Maybe ℕ) → reply_to (ration_table greatest) step (run (ration_table greatest) qs u) ≡ dictionary held
      → step_depth greatest (run (ration_table greatest) qs u).card (run (ration_table greatest) qs u).state ≡ passed_in key t
  unfolding start_accepted reply_to
  begun_tells key doing room t k e u is qs left held r =
      let is_started = begun_started (start_of greatest 1 w.card w.state key doing room).begun (start_small greatest w.card w.state key doing room) e in
      let kept : u.state.depth ≡ start_depth 1 w.card w.state key = ap (λ (x : World (ration_table greatest)). x.state.depth) is
      ∙ ap (λ (h : Handed). h.memory.depth) (started_is greatest w.card w.state doing room key is_started) in
      told_final _ _ held (step_small greatest (run (ration_table greatest) qs u).card (run (ration_table greatest) qs u).state) r
      ∙ step_keeps greatest (run (ration_table greatest) qs u).card (run (ration_table greatest) qs u).state ∙ run_keeps greatest qs u left ∙ kept ∙ now_passed t k key

-- ---- "A refusal carries none"

found_not : (node : List ℕ) (s : Option ℕ) → IsRefused (found_reply (found_in node s)) → ⊥
unfolding found_reply found_in
found_not node (Some i) h = omega arith
found_not node None h = omega arith

refused_depth : (c : List ℕ) (key : ℕ) (x : Option Reached) → IsRefused (found_reply (found_at c key x)) → depth_of x ≡ 0
unfolding found_at depth_of
refused_depth c key None h = refl
refused_depth c key (Some l) h = absurd (found_not (node_at c l.node) (slot_of (node_at c l.node) key) h)

carried_none : (depth : ℕ) (s : Successor) → IsRefused (next_reply s) → carried depth s ≡ 0
unfolding carried next_reply
carried_none depth (Pair key value) h = absurd (omega arith)
carried_none depth NoNext h = absurd (omega arith)
carried_none depth (NextRefused r) h = refl

find_refused : (greatest : ℕ) (c : List ℕ) (key : ℕ) → IsRefused (found_reply (find_of greatest 1 c key)) → find_depth greatest 1 c key ≡ 0
unfolding find_of find_in find_depth depth_in
find_refused greatest c key =
    bool_cases (eqb (card_refusal greatest c) 0)
    (λ q. bool_cases (eqb key 0) (λ z. rw (q, line_one c, z) (λ h. refl)) (λ z. rw (q, line_one c, z) (at (leaf_of (way (seen 1 c) (nodes_of_length greatest (length c)) key)))))
    (λ q. rw q (λ h. refl))
  where
    at : (x : Option Reached) → IsRefused (found_reply (found_at (seen 1 c) key x)) → depth_of x ≡ 0
    at x h = refused_depth (seen 1 c) key x h

next_refused : (greatest : ℕ) (c : List ℕ) (number : ℕ) → IsRefused (next_reply (next_of greatest 1 c number)) → next_depth greatest 1 c number ≡ 0
unfolding next_depth
next_refused greatest c number = at (next_of greatest 1 c number)
  where
    at : (s : Successor) → IsRefused (next_reply s) → carried (depth_of (leaf_of (way (seen 1 c) (nodes_of_length greatest (length c)) number))) s ≡ 0
    at s h = carried_none _ s h

pub w_203 : (greatest : ℕ) → W203 (ration_table greatest) (find_depth greatest 1) (next_depth greatest 1) (step_depth greatest)
unfolding happens insert_of delete_of reply_to
w_203 greatest =
    record {
      finds = always greatest (λ w b. (t : Tree) → WellFormed w.card t → (key : ℕ) → 0 < key → key < key_limit → find_depth greatest 1 w.card key ≡ passed_in key t) (find_tells greatest);
      nexts = always greatest (λ w b. (t : Tree) → WellFormed w.card t → (number : ℕ) → number < key_limit → next_depth greatest 1 w.card number ≡ passed_in number t) (next_tells greatest);
      inserts = always greatest (λ w b. (key value : ℕ) → key < key_limit → TellsStart (ration_table greatest) (step_depth greatest) (insert key value) key w)
          (λ w b v key value high t k e qs left held r. begun_tells greatest w b v key (Inserting key value NotBegun)
          (start_room (seen 1 w.card) key (room_of w.state)) t k e _ refl qs left held r);
      deletes = always greatest (λ w b. (key : ℕ) → key < key_limit → TellsStart (ration_table greatest) (step_depth greatest) (delete key) key w)
          (λ w b v key high t k e qs left held r. begun_tells greatest w b v key (Deleting key NotBegun 0) (λ l. true) t k e _ refl qs left held r);
      find_refused = find_refused greatest;
      next_refused = next_refused greatest;
      others = λ c m n. told_others (step_of greatest 1 c m).memory.depth (step_of greatest 1 c m).answer n;
      rests = always greatest (λ w b. Idle (ration_table greatest) w.state → (l : Line w.card b.held) → (number : ℕ)
          → number < key_limit → Rested (find_depth greatest 1) (next_depth greatest 1) w.card l number)
          (rest_tells greatest);
    }
