-- What holds of every card, state and book that a list leaves; DEMAND 3.
use mathlib.Core.Path.{◌≡◌, refl, ap, sym, ◌∙◌}
use mathlib.Core.Bool.{false}
use mathlib.Core.List.{List, [], ◌∷◌}
use mathlib.Core.Logic.{◌⊎◌, inl, inr, ⊎_map}
use mathlib.Core.Option.{Option, none, some}
use Prim.Native.Nat.{ℕ, suc, ◌≤◌, ◌<◌}
use native.Mathlib.Omega.{arith}
use Rattle.theory_change.proofs.Line.{Line, only}
use Rattle.demands.proofs.BookLaws.{dictionary_answer}
use Rattle.demands.proofs.Invariant.{Inv}
use Rattle.demands.proofs.WayDown.{sized_on}
use Rattle.demands.specs.Events.{Event, World, opened, reply_to, happens, run, LeftUncut, steps_in, SaysReady, Opens, ask, insert, delete, step, cut}
use Rattle.demands.specs.Book.{Book, book, feed, outcome, told, kept, empty}
use Rattle.demands.specs.RationTable.{ration_table}
use Rattle.card.specs.Replies.{ready, idle}
use Rattle.demands.specs.Worked.{dictionary, Always, BalancedWith}
use Rattle.demands.specs.Demand3.{most_repair_steps, Ended, Survives, Demand3}
use Rattle.demands.specs.Way.{nodes_on}
use Rattle.demands.proofs.Finished.{inv_rests}
use Rattle.demands.proofs.Finishing.{Rests}
use Rattle.demands.proofs.PowerLoss.{loosen, reopened_inv, reopened_due, kept_from, repair_ends, empty_fed, ask_same, insert_same, delete_same, idle_not_busy}
use Rattle.demands.proofs.Reopen.{reopened}
use Rattle.demands.proofs.ReplyLaws.{code_of}
use Rattle.demands.proofs.Starting.{nodes_same, same_lookup}
use Rattle.demands.proofs.Accepting.{find_answers}
use Rattle.laws.proofs.Cases.{impossible}
use Rattle.call_find.specs.Answers.{found_reply}
use Rattle.call_find.specs.Find.{find_of}
use Rattle.card.specs.Layout.{key_limit}
use Rattle.call_open.specs.Opening.{open_of}
use Rattle.theory_tree.specs.Pairs.{pairs, lookup}
use Rattle.demands.proofs.Steps.{idle_world}
use Rattle.demands.proofs.Stepping.{Moves, kept_step, was_idle, ends_now, goes_further}
use Rattle.state.specs.Answers.{step_reply, start_reply}
use Rattle.state.specs.Steps.{is_idle}
use Rattle.state.specs.Begun.{Idle as OpenedIdle, Started}
use Rattle.state.specs.declared.Doing.TheVariants.{Idle}
use Rattle.call_step.specs.Calls.{step_of, repair_steps}

pub dictionary_same : (o : Option ℕ) → step_reply (dictionary_answer o) ≡ dictionary o
unfolding step_reply dictionary_answer dictionary
dictionary_same none = refl
dictionary_same (some v) = refl

-- the invariant, whatever the number of nodes and of the steps left
pub record Covered (greatest : ℕ) (w : World (ration_table greatest)) (b : Book) : Type 0 where
  pub size : ℕ
  pub steps : ℕ
  pub inv : Inv greatest (only size) steps w b

pub covered_nodes : (greatest : ℕ) {w : World (ration_table greatest)} {b : Book} (v : Covered greatest w b) → nodes_on w.card ≡ w.state.nodes
covered_nodes greatest {w} {b} v = sized_on greatest w.card v.size v.inv.table.sized ∙ sym (nodes_same greatest (only v.size) v.steps w b v.inv)

-- what holds of covered tables holds always
pub always : (greatest : ℕ) (Claim : World (ration_table greatest) → Book → Type 0)
    → ((w : World (ration_table greatest)) (b : Book) → Covered greatest w b → Claim w b) → Always (ration_table greatest) Claim
always greatest Claim claim w l s es u =
    let k = kept_from greatest w l s es u in
    claim (run (ration_table greatest) es w) (kept (ration_table greatest) es w (book l empty)) (record { size = k.0; steps = k.1; inv = k.2 })

-- ---- opening's repair keeps the invariant, and is idle from its "ready" on

module _ (greatest : ℕ) (line : Line) (k : ℕ) (l : List (ℕ × ℕ)) where
  abbrev Held : World (ration_table greatest) → Type 0
  Held w = Inv greatest line k w (book l empty)

  step_held_lem : (w : World (ration_table greatest)) → Held w → Held (happens (ration_table greatest) step w) × Moves line w.card w.state (step_of greatest 1 w.card w.state)
  unfolding feed told
  step_held_lem w i =
      let q = kept_step greatest line k w (book l empty) (loosen greatest line k (suc k) w (book l empty) (omega arith) i) in
      (rw (empty_fed (outcome (reply_to (ration_table greatest) step w)) l) at q.0.0, q.2)

  -- a run without a cut keeps it
  run_held : (qs : List Event) (w : World (ration_table greatest)) → LeftUncut (ration_table greatest) qs w → Held w → Held (run (ration_table greatest) qs w)
  unfolding LeftUncut run
  run_held [] w u i = i
  run_held (ask question ∷ qs) w u i = run_held qs (happens (ration_table greatest) (ask question) w) u.1 (rw (ask_same greatest question w) i)
  run_held (insert key value ∷ qs) w u i = run_held qs (happens (ration_table greatest) (insert key value) w) u.1 (rw (insert_same greatest key value w u.0) i)
  run_held (delete key ∷ qs) w u i = run_held qs (happens (ration_table greatest) (delete key) w) u.1 (rw (delete_same greatest key w u.0) i)
  run_held (step ∷ qs) w u i = run_held qs (happens (ration_table greatest) step w) u.1 (step_held_lem w i).0
  run_held (cut ∷ qs) w u i = absurd u.0

  held_finds : (w : World (ration_table greatest)) → Held w → (key : ℕ) → 0 < key → key < key_limit → found_reply (find_of greatest 1 w.card key) ≡ dictionary (lookup key l)
  held_finds w i key low high = find_answers greatest w.card line.nodes i.tree key i.table low high ∙ dictionary_same (lookup key (pairs i.tree)) ∙ ap dictionary
      (same_lookup greatest i key)

  ready_idle : (w : World (ration_table greatest)) → Moves line w.card w.state (step_of greatest 1 w.card w.state)
      → reply_to (ration_table greatest) step w ≡ ready → (happens (ration_table greatest) step w).state.doing ≡ Idle
  unfolding happens reply_to step_reply
  ready_idle w (was_idle e) r = ap (λ (x : World (ration_table greatest)). x.state.doing) (idle_world greatest w e) ∙ e
  ready_idle w (ends_now f same e) r = e
  ready_idle w (goes_further s e) r = absurd (omega (arith, code_of (sym (ap step_reply s.told) ∙ r)))

  -- a step that says "ready" leaves an idle state, and an idle state stays so
  step_idle : (w : World (ration_table greatest)) → Moves line w.card w.state (step_of greatest 1 w.card w.state)
      → (w.state.doing ≡ Idle) ⊎ (reply_to (ration_table greatest) step w ≡ ready) → (happens (ration_table greatest) step w).state.doing ≡ Idle
  step_idle w m (inl e) = ap (λ (x : World (ration_table greatest)). x.state.doing) (idle_world greatest w e) ∙ e
  step_idle w m (inr r) = ready_idle w m r

  no_step : {e : Event} {A B : Type 0} → (e ≡ step → ⊥) → ((e ≡ step) × A) ⊎ B → B
  no_step d (inl z) = absurd (d z.0)
  no_step d (inr z) = z

  rest_idle : (qs : List Event) (w : World (ration_table greatest)) → LeftUncut (ration_table greatest) qs w → Held w
      → (w.state.doing ≡ Idle) ⊎ SaysReady (ration_table greatest) qs w → Held (run (ration_table greatest) qs w) × ((run (ration_table greatest) qs w).state.doing ≡ Idle)
  unfolding run LeftUncut SaysReady
  rest_idle [] w u i (inl e) = (i, e)
  rest_idle [] w u i (inr r) = absurd r
  rest_idle (step ∷ qs) w u i (inl e) = let q = step_held_lem w i in rest_idle qs (happens (ration_table greatest) step w) u.1 q.0 (inl (step_idle w q.1 (inl e)))
  rest_idle (step ∷ qs) w u i (inr (inl r)) = let q = step_held_lem w i in rest_idle qs (happens (ration_table greatest) step w) u.1 q.0 (inl (step_idle w q.1 (inr r.1)))
  rest_idle (step ∷ qs) w u i (inr (inr r)) = rest_idle qs (happens (ration_table greatest) step w) u.1 (step_held_lem w i).0 (inr r)
  rest_idle (ask question ∷ qs) w u i r =
      let e = ask_same greatest question w in
      rest_idle qs (happens (ration_table greatest) (ask question) w) u.1 (rw e i) (⊎_map (λ z. rw e z) (no_step (λ z. impossible (cc))) r)
  rest_idle (insert key value ∷ qs) w u i r =
      let e = insert_same greatest key value w u.0 in
      rest_idle qs (happens (ration_table greatest) (insert key value) w) u.1 (rw e i) (⊎_map (λ z. rw e z) (no_step (λ z. impossible (cc))) r)
  rest_idle (delete key ∷ qs) w u i r =
      let e = delete_same greatest key w u.0 in
      rest_idle qs (happens (ration_table greatest) (delete key) w) u.1 (rw e i) (⊎_map (λ z. rw e z) (no_step (λ z. impossible (cc))) r)
  rest_idle (cut ∷ qs) w u i r = absurd u.0

-- ---- the demand

abbrev pub rests_right : (greatest : ℕ) → {w : World (ration_table greatest)} {l : List (ℕ × ℕ)} → Rests greatest w l → BalancedWith w.card l
rests_right greatest r = record { table = r.table; balanced = r.balanced; alike = r.map.alike; as_many = r.map.as_many }

module _ (greatest : ℕ) (w : World (ration_table greatest)) (b : Book) (v : Covered greatest w b) where
  -- what opening hands back
  abbrev Hands : Type 0
  Hands =
      (((open_of greatest w.card).begun ≡ OpenedIdle) × ((open_of greatest w.card).memory.doing ≡ Idle))
      ⊎ (((open_of greatest w.card).begun ≡ Started) × (is_idle (open_of greatest w.card).memory.doing ≡ false))

  hands : Hands
  hands = (reopened greatest w.card v.size v.inv.tree v.inv.table v.inv.openable).hands

  opens_now : Opens (ration_table greatest) w.card
  unfolding start_reply
  opens_now = ⊎_map (λ z. ap start_reply z.0) (λ z. ap start_reply z.0) hands

  -- an idle state was handed back exactly with the reply "idle"
  idle_said : (open_of greatest w.card).memory.doing ≡ Idle → ((ration_table greatest).open_card w.card).reply ≡ idle
  unfolding start_reply
  idle_said e = at hands
    where
      at : Hands → start_reply (open_of greatest w.card).begun ≡ idle
      at (inl z) = ap start_reply z.0
      at (inr z) = absurd (idle_not_busy (open_of greatest w.card).memory.doing e z.1)

  said_idle : ((ration_table greatest).open_card w.card).reply ≡ idle → (open_of greatest w.card).memory.doing ≡ Idle
  unfolding start_reply
  said_idle e = at hands
    where
      at : Hands → (open_of greatest w.card).memory.doing ≡ Idle
      at (inl z) = z.1
      at (inr z) = absurd (omega (arith, code_of (sym (ap start_reply z.0) ∙ e)))

  -- the repair that opening starts, at its beginning
  abbrev begun : Inv greatest (only v.size) repair_steps (opened (ration_table greatest) w.card) (book b.held empty)
  begun = reopened_inv greatest v.size w.card v.inv.tree b.held v.inv.table v.inv.openable v.inv.same

  ends_in_time : (qs : List Event) → LeftUncut (ration_table greatest) qs (opened (ration_table greatest) w.card) → most_repair_steps ≤ steps_in qs → Ended (ration_table greatest) w.card qs
  ends_in_time qs u h =
      let due = reopened_due greatest v.size w.card v.inv.tree b.held v.inv.table v.inv.openable v.inv.same in
      ⊎_map idle_said (λ r. r) (repair_ends greatest (only v.size) b.held qs repair_steps (opened (ration_table greatest) w.card) u h (begun, due)).1

  ends_right : (qs : List Event) → LeftUncut (ration_table greatest) qs (opened (ration_table greatest) w.card) → Ended (ration_table greatest) w.card qs
      → BalancedWith (run (ration_table greatest) qs (opened (ration_table greatest) w.card)).card b.held
  ends_right qs u e =
      let q = rest_idle greatest (only v.size) repair_steps b.held qs (opened (ration_table greatest) w.card) u begun (⊎_map said_idle (λ r. r) e) in
      rests_right greatest (inv_rests greatest v.size repair_steps (run (ration_table greatest) qs (opened (ration_table greatest) w.card)) (book b.held empty) q.0 q.1)

  finds_throughout : (qs : List Event) → LeftUncut (ration_table greatest) qs (opened (ration_table greatest) w.card) → (key : ℕ) → 0 < key → key < key_limit
      → (ration_table greatest).find (run (ration_table greatest) qs (opened (ration_table greatest) w.card)).card key ≡ dictionary (lookup key b.held)
  finds_throughout qs u =
      held_finds greatest (only v.size) repair_steps b.held (run (ration_table greatest) qs (opened (ration_table greatest) w.card))
      (run_held greatest (only v.size) repair_steps b.held qs (opened (ration_table greatest) w.card) u begun)

-- DEMAND 3 of the ration table
pub demand_3 : (greatest : ℕ) → Demand3 (ration_table greatest)
demand_3 greatest =
    always greatest (λ w b. Survives (ration_table greatest) w.card b.held)
    (λ w b v. record { opens = opens_now greatest w b v; ends = ends_in_time greatest w b v; right = ends_right greatest w b v; finds = finds_throughout greatest w b v })
