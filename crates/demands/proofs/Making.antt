-- The stores of a change, made one a step on a table that is worked: what the state and the card are at each of them.
use mathlib.Core.Path.{◌≡◌, refl, ap, sym, subst, ◌∙◌}
use mathlib.Core.List.{List, [], ◌∷◌}
use mathlib.Core.Logic.{◌⊎◌, inl, inr}
use Prim.Native.Nat.{ℕ, zero, suc, ◌+◌, ◌≤◌, ◌<◌}
use native.Mathlib.Omega.{arith}
use lib.ListN.{length, get_or, set, drop}
use Rattle.theory_change.proofs.Line.{only}
use Rattle.card.specs.Stores.{Store}
use Rattle.demands.specs.Events.{Event, World, reply_to, happens, run, LeftUncut, steps_in, ask, insert, delete, step, cut}
use Rattle.demands.specs.Book.{Hand, Book, feed, told}
use Rattle.demands.specs.Demand2.{StoresNow}
use Rattle.demands.specs.RationTable.{ration_table}
use Rattle.demands.proofs.PowerCuts.{Covered}
use Rattle.demands.proofs.StepRows.{advanced_rest}
use Rattle.demands.proofs.Invariant.{Stage, Table, stage_idle, stage_put, stage_remove, stage_first, stage_between, stage_within}
use Rattle.demands.proofs.BookLaws.{IsStored}
use Rattle.demands.proofs.Kept.{first_storable}
use Rattle.demands.proofs.PowerLoss.{loosen, loosen_due, at_rest, ask_same, insert_same, delete_same}
use Rattle.demands.proofs.Stepping.{kept_step}
use Rattle.demands.proofs.Steps.{job_busy, step_stores, idle_refused}
use Rattle.state.specs.Answers.{step_reply}
use Rattle.state.specs.Memory.{Memory, advanced}
use Rattle.state.specs.Steps.{step_refused}
use Rattle.state.specs.Answer.{Answer}
use Rattle.state.specs.Answer.{Stored, Refused as WasRefused}
use Rattle.state.specs.declared.Doing.TheVariants.{Idle}
use Rattle.call_step.specs.Calls.{step_of}
use Rattle.theory_tree.specs.Tree.{Tree}
use Rattle.laws.proofs.Cases.{impossible}

-- A table that is worked, at most so many steps from the end of what is being done, with this final answer due.
pub record Nears (greatest : ℕ) (final : Answer) (most : ℕ) (w : World (ration_table greatest)) : Type 0 where
  pub book_now : Book
  pub covered : Covered greatest w book_now
  pub soon : covered.steps ≤ most
  pub is_due : covered.inv.due ≡ final

-- a store brings it one step nearer
pub nearer : (greatest : ℕ) (final : Answer) (most : ℕ) (w : World (ration_table greatest)) → Nears greatest final most w → IsStored (step_of greatest 1 w.card w.state).answer
    → (few : ℕ) × (most ≡ suc few) × Nears greatest final few (happens (ration_table greatest) step w)
unfolding step_refused
nearer greatest final zero w x e = absurd (never (idle_refused greatest w.card w.state rested))
  where
    v : Covered greatest w x.book_now
    v = x.covered

    rested : w.state.doing ≡ Idle
    rested = (at_rest greatest (only v.size) v.steps w x.book_now (omega (arith, x.soon)) v.inv).0

    never : ((r : ℕ) × (step_of greatest 1 w.card w.state ≡ step_refused r w.card w.state)) → ⊥
    never (r, q) = let y : ◌≡◌ {A = Answer} (WasRefused r) (Stored e.0) = sym (ap (λ z. z.answer) q) ∙ e.1 in impossible (cc)
nearer greatest final (suc few) w x e =
    let v = x.covered in
    let q = kept_step greatest (only v.size) few w x.book_now (loosen greatest (only v.size) v.steps (suc few) w x.book_now x.soon v.inv) in (
      few,
      refl,
      record {
        book_now = feed (told (ration_table greatest) step w) x.book_now;
        covered = record { size = v.size; steps = few; inv = q.0.0 };
        soon = omega arith;
        is_due = q.0.2 ∙ loosen_due greatest (only v.size) v.steps (suc few) w x.book_now x.soon v.inv ∙ x.is_due;
      },
    )

-- ---- one store of the change in hand

-- store number i of a list
abbrev pub store_at : List Store → ℕ → Store
store_at stores i = get_or stores i (0, 0)

-- the next store of the plan is made
abbrev Storing : ℕ → List ℕ → Memory → Type 0
Storing greatest c m = (s : Store) × (rest : List Store) × (m.rest ≡ s ∷ rest) × (step_of greatest 1 c m ≡ record { answer = Stored s.0; card = set c s.0 s.1; memory = advanced m rest })

stage_storing : (greatest : ℕ) {c : List ℕ} {n : ℕ} {t goal : Tree} {steps : ℕ} {m : Memory} {h : Hand} {due : Answer}
    → Table greatest c n t → Stage c (only n) t goal steps m h due → (m.rest ≡ []) ⊎ Storing greatest c m
stage_storing greatest b (stage_idle z r x g) = inl refl
stage_storing greatest b (stage_put room z r x low high enough below q g) = inl refl
stage_storing greatest b (stage_remove z r x low high q g) = inl refl
stage_storing greatest {c} {n} b (stage_first {free} {last} {depth} {doing = doing} {cut = out} {s = s} {rest = rest} {totals = totals} j p en count few hd) =
    inr (s, rest, refl, step_stores greatest c n b.sized b.header free last depth totals doing (job_busy j) out s rest (first_storable p.plays).inside)
stage_storing greatest b (stage_between j en deep k x few hd) = inl refl
stage_storing greatest {c} {n} b (stage_within {free} {last} {depth} {doing = doing} {cut = out} {s = s} {rest = rest} {totals = totals} j en p e few hd) =
    inr (s, rest, refl, step_stores greatest c n b.sized b.header free last depth totals doing (job_busy j) out s rest (first_storable p.plays).inside)

advanced_twice : (m : Memory) (s : Store) (rest more : List Store) → advanced (advanced m (s ∷ rest)) more ≡ advanced m more
unfolding advanced
advanced_twice m s rest [] = refl
advanced_twice m s rest (x ∷ more) = refl

-- where the stores still to come are those of a plan, the next step makes the first of them
pub makes_next : (greatest : ℕ) (w : World (ration_table greatest)) (b : Book) → Covered greatest w b → (m : Memory) (s : Store) (rest : List Store) → w.state ≡ advanced m (s ∷ rest)
    → step_of greatest 1 w.card w.state ≡ record { answer = Stored s.0; card = set w.card s.0 s.1; memory = advanced m rest }
makes_next greatest w b v m s rest e = at (stage_storing greatest v.inv.table v.inv.stage)
  where
    is_rest : w.state.rest ≡ s ∷ rest
    is_rest = ap (λ (x : Memory). x.rest) e ∙ advanced_rest m (s ∷ rest)

    at : (w.state.rest ≡ []) ⊎ Storing greatest w.card w.state → step_of greatest 1 w.card w.state
        ≡ record { answer = Stored s.0; card = set w.card s.0 s.1; memory = advanced m rest }
    at (inl q) = let y : ◌≡◌ {A = List Store} [] (s ∷ rest) = sym q ∙ is_rest in impossible (cc)
    at (inr (x, r, q, k)) =
        let y : (x ∷ r) ≡ (s ∷ rest) = sym q ∙ is_rest in
        let ex : x ≡ s = cc in
        let er : r ≡ rest = cc in
        k ∙ rw (ex, er, e, advanced_twice m s rest rest)

-- ---- all stores that are left, with finds and refused calls between

-- the plan m, of which the stores ss are still to come
module _ (greatest : ℕ) (final : Answer) (m : Memory) where
  pub record Left (most : ℕ) (ss : List Store) (w : World (ration_table greatest)) : Type 0 where
    pub nears : Nears greatest final most w
    pub is_left : w.state ≡ advanced m ss

  stored_step : (w : World (ration_table greatest)) (s : Store) (rest : List Store)
      → step_of greatest 1 w.card w.state ≡ record { answer = Stored s.0; card = set w.card s.0 s.1; memory = advanced m rest }
      → (StoresNow (ration_table greatest) w s) × ((happens (ration_table greatest) step w).state ≡ advanced m rest)
  unfolding reply_to happens step_reply
  stored_step w s rest e = (record { reply_given = rw e; one_store = rw e }, rw e)

  one_less : {most : ℕ} {w : World (ration_table greatest)} (s : Store) (rest : List Store) → Left most (s ∷ rest) w
      → (few : ℕ) × (most ≡ suc few) × Left few rest (happens (ration_table greatest) step w)
  one_less {most} {w} s rest x =
      let e = makes_next greatest w x.nears.book_now x.nears.covered m s rest x.is_left in
      let q = nearer greatest final most w x.nears (s.0, ap (λ z. z.answer) e) in
      (q.0, q.1, record { nears = q.2; is_left = (stored_step w s rest e).1 })

  -- what is left after a run without a cut
  pub run_left : (most : ℕ) (ss : List Store) (w : World (ration_table greatest)) → Left most ss w → (qs : List Event) → LeftUncut (ration_table greatest) qs w
      → steps_in qs ≤ length ss → (few : ℕ) × (few + steps_in qs ≡ most) × Left few (drop (steps_in qs) ss) (run (ration_table greatest) qs w)
  unfolding LeftUncut run
  run_left most ss w x [] u h = (most, omega arith, x)
  run_left most ss w x (ask question ∷ qs) u h = rw (ask_same greatest question w) (run_left most ss w x qs (rw (ask_same greatest question w) at u.1) h)
  run_left most ss w x (insert key value ∷ qs) u h = let e = insert_same greatest key value w u.0 in rw e (run_left most ss w x qs (rw e at u.1) h)
  run_left most ss w x (delete key ∷ qs) u h = let e = delete_same greatest key w u.0 in rw e (run_left most ss w x qs (rw e at u.1) h)
  run_left most [] w x (step ∷ qs) u h = absurd (omega arith)
  run_left most (s ∷ rest) w x (step ∷ qs) u h =
      let q = one_less s rest x in
      let r = run_left q.0 rest (happens (ration_table greatest) step w) q.2 qs u.1 (omega arith) in
      (r.0, omega (arith, q.1, r.1), r.2)
  run_left most ss w x (cut ∷ qs) u h = absurd u.0

  next_stored : (most : ℕ) (ss : List Store) (w : World (ration_table greatest)) → Left most ss w → 0 < length ss → StoresNow (ration_table greatest) w (store_at ss 0)
  next_stored most [] w x h = absurd (omega arith)
  next_stored most (s ∷ rest) w x h = (stored_step w s rest (makes_next greatest w x.nears.book_now x.nears.covered m s rest x.is_left)).0

  drop_more : (ss : List Store) (k : ℕ) → k < length ss → (0 < length (drop k ss)) × (store_at (drop k ss) 0 ≡ store_at ss k)
  drop_more [] k h = absurd (omega arith)
  drop_more (s ∷ ss) zero h = (omega arith, refl)
  drop_more (s ∷ ss) (suc k) h = drop_more ss k (omega arith)

  pub stores_each : (most : ℕ) (ss : List Store) (w : World (ration_table greatest)) → Left most ss w → (qs : List Event)
      → LeftUncut (ration_table greatest) qs w → steps_in qs < length ss → StoresNow (ration_table greatest) (run (ration_table greatest) qs w) (store_at ss (steps_in qs))
  stores_each most ss w x qs u h =
      let r = run_left most ss w x qs u (omega arith) in
      let d = drop_more ss (steps_in qs) h in
      subst (StoresNow (ration_table greatest) (run (ration_table greatest) qs w)) d.1 (next_stored r.0 (drop (steps_in qs) ss) (run (ration_table greatest) qs w) r.2 d.0)
