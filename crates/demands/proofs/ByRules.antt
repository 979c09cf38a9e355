-- Updates and repairs on a table that is worked go by the tree's rules: change after change, each store the rule's, and then the
-- final answer.
use mathlib.Core.Path.{◌≡◌, refl, ap, sym, subst, ◌∙◌}
use mathlib.Core.Bool.{Bool, true, false}
use mathlib.Core.List.{List, [], ◌∷◌}
use mathlib.Core.Logic.{◌⊎◌, inl, inr}
use mathlib.Core.Option.{Option}
use Prim.Native.Nat.{ℕ, zero, suc, ◌-◌, ◌≤◌, ◌<◌}
use native.Mathlib.Omega.{arith}
use lib.ListN.{length, get_or, set, drop, length-append}
use Rattle.theory_change.proofs.Line.{only, exact_only}
use Rattle.card.specs.Stores.{Store}
use Rattle.demands.specs.Events.{Event, World, reply_to, happens, run, LeftUncut, steps_in, ask, insert, delete, step, cut}
use Rattle.demands.specs.Demand2.{StoresNow, Makes, Between, Repairs, Updates, done, mends as mends_by, no_change, changes}
use Rattle.demands.specs.Rules.{Given, marked}
use Rattle.demands.specs.RationTable.{ration_table}
use Rattle.demands.proofs.Making.{Nears, nearer, store_at, Left, run_left, stores_each}
use Rattle.change_plan.specs.Planning.{Preparation, last_of, with_all, refused, balanced, prepared}
use Rattle.state.specs.Answers.{step_reply}
use Rattle.state.specs.Memory.{Memory, settled as settledDoing, advanced}
use Rattle.state.specs.Answer.{Answer}
use Rattle.state.specs.Answer.{Stored}
use Rattle.state.specs.declared.Doing.{Doing}
use Rattle.state.specs.declared.Doing.TheVariants.{Idle, Inserting, Deleting}
use Rattle.state.specs.declared.Phase.{Phase}
use Rattle.state.specs.declared.Phase.TheVariants.{NotBegun, Decided}
use Rattle.state.proofs.Tasks.{in_hand_lem, decided}
use Rattle.demands.proofs.PlannedNumbers.{ByRule, cut_marked}
use Rattle.demands.proofs.PlannedRepairs.{repair_by_rule}
use Rattle.state.specs.Steps.{is_idle, step_refused, step_final, step_store}
use Rattle.call_step.specs.Calls.{planning, step_prepared, step_begin, step_of}
use Rattle.call_change.specs.Updates.{FirstChange, next_change}
use Rattle.call_change.specs.Results.{Storing}
use Rattle.state.specs.Results.{more_to_store}
use Rattle.state.specs.declared.Task.TheVariants.{PutIn, TakeOut}
use Rattle.demands.proofs.Work.{true_false}
use Rattle.demands.proofs.StepRows.{advanced_last, Final}
use Rattle.laws.proofs.Cases.{order, impossible}
use borrow.Author.Tests.{lt-ltb, le-ltb}
use Rattle.change_layout.specs.Mending.{next_repair}
use Rattle.theory_change.proofs.Plays.{Openable, pending_changing}
use Rattle.theory_change.proofs.Repaired.{Repaired, settled, violated}
use Rattle.demands.proofs.Invariant.{Table, Stage, Job, stage_idle, stage_put, stage_remove, stage_first, stage_between, stage_within, job_repair, job_insert, job_delete}
use Rattle.demands.proofs.BookLaws.{IsFinal}
use Rattle.demands.specs.Book.{Update, Hand}
use Rattle.demands.proofs.Kept.{first_storable}
use Rattle.demands.proofs.Reopen.{table_well_formed}
use Rattle.demands.proofs.Starting.{nodes_same}
use Rattle.demands.proofs.PowerCuts.{Covered}
use Rattle.demands.proofs.Stepping.{Right, right_final, kept_step, mends, rests}
use Rattle.demands.proofs.PowerLoss.{loosen, loosen_due, ask_same, insert_same, delete_same}
use Rattle.demands.proofs.Finished.{work_not_refused}
use Rattle.demands.proofs.Steps.{memory, job_settled, step_repairs, prepared_ready, prepared_first, step_puts, step_removes}
use Rattle.theory_tree.proofs.Path.{depth_of}
use Rattle.theory_tree.specs.FreeNodes.{Exact}
use Rattle.theory_tree.specs.Tree.{Tree}
use Rattle.theory_tree.specs.Violations.{table_violations}

-- a run without a cut either has no step and leaves the world, or goes on from its first step
first_step : (greatest : ℕ) (w : World (ration_table greatest)) (qs : List Event) → LeftUncut (ration_table greatest) qs w
    → ((steps_in qs ≡ 0) × (run (ration_table greatest) qs w ≡ w))
    ⊎ ((rest : List Event) × LeftUncut (ration_table greatest) rest (happens (ration_table greatest) step w) × (steps_in qs ≡ suc (steps_in rest))
    × (run (ration_table greatest) qs w ≡ run (ration_table greatest) rest (happens (ration_table greatest) step w)))
unfolding LeftUncut run
first_step greatest w [] u = inl (refl, refl)
first_step greatest w (ask question ∷ qs) u = rw (ask_same greatest question w) (first_step greatest w qs (rw (ask_same greatest question w) at u.1))
first_step greatest w (insert key value ∷ qs) u = let e = insert_same greatest key value w u.0 in rw e (first_step greatest w qs (rw e at u.1))
first_step greatest w (delete key ∷ qs) u = let e = delete_same greatest key w u.0 in rw e (first_step greatest w qs (rw e at u.1))
first_step greatest w (step ∷ qs) u = inr (qs, u.1, refl, refl)
first_step greatest w (cut ∷ qs) u = absurd u.0

advanced_free : (m : Memory) (ss : List Store) → 0 < length ss → (advanced m ss).free ≡ m.free
unfolding advanced
advanced_free m [] h = absurd (omega arith)
advanced_free m (s ∷ ss) h = refl

advanced_all : (m : Memory) → (advanced m []).free ≡ with_all m.cut m.free
unfolding advanced
advanced_all m = refl

advanced_none : (m : Memory) → (advanced m []).rest ≡ []
unfolding advanced
advanced_none m = refl

advanced_doing : (m : Memory) → (advanced m []).doing ≡ settledDoing m.doing
unfolding advanced
advanced_doing m = refl

drop_all : (ss : List Store) (k : ℕ) → k ≡ length ss → drop k ss ≡ []
drop_all [] zero e = refl
drop_all [] (suc k) e = absurd (omega arith)
drop_all (s ∷ ss) zero e = absurd (omega arith)
drop_all (s ∷ ss) (suc k) e = drop_all ss k (omega arith)

drop_some : (ss : List Store) (k : ℕ) → k < length ss → 0 < length (drop k ss)
drop_some [] k h = absurd (omega arith)
drop_some (s ∷ ss) zero h = omega arith
drop_some (s ∷ ss) (suc k) h = drop_some ss k (omega arith)

-- A change whose first store the next step makes, with m the plan and the rest of the stores to come.
module _ (greatest : ℕ) (final : Answer) (most : ℕ) (w : World (ration_table greatest)) (x : Nears greatest final most w) (m : Memory) (s : Store) (rest : List Store)
    (first : step_of greatest 1 w.card w.state ≡ record { answer = Stored s.0; card = set w.card s.0 s.1; memory = advanced m rest })
  where
    first_stored_lem : StoresNow (ration_table greatest) w s
    unfolding reply_to happens step_reply
    first_stored_lem = record { reply_given = rw first; one_store = rw first }

    then_left : (few : ℕ) × (most ≡ suc few) × Left greatest final m few rest (happens (ration_table greatest) step w)
    unfolding happens
    then_left =
        let q = nearer greatest final most w x (s.0, ap (λ z. z.answer) first) in
        (q.0, q.1, record { nears = q.2; is_left = ap (λ z. z.memory) first })

    pub all_left : (qs : List Event) → LeftUncut (ration_table greatest) qs w → steps_in qs ≡ suc (length rest)
        → (few : ℕ) × (few < most) × Left greatest final m few [] (run (ration_table greatest) qs w)
    all_left qs u h = at (first_step greatest w qs u)
      where
        at : ((steps_in qs ≡ 0) × (run (ration_table greatest) qs w ≡ w))
            ⊎ ((more : List Event) × LeftUncut (ration_table greatest) more (happens (ration_table greatest) step w) × (steps_in qs ≡ suc (steps_in more))
            × (run (ration_table greatest) qs w ≡ run (ration_table greatest) more (happens (ration_table greatest) step w)))
            → (few : ℕ) × (few < most) × Left greatest final m few [] (run (ration_table greatest) qs w)
        at (inl (z, e)) = absurd (omega (arith, z, h))
        at (inr (more, v, k, e)) =
            let l = then_left in
            let r = run_left greatest final m l.0 rest (happens (ration_table greatest) step w) l.2 more v (omega (arith, k, h)) in
            let d = drop_all rest (steps_in more) (omega (arith, k, h)) in
            (r.0, omega (arith, r.1, l.1), rw e (subst (λ (y : List Store). Left greatest final m r.0 y (run (ration_table greatest) more (happens (ration_table greatest) step w))) d r.2))

    module _ (short : suc (length rest) ≤ 73) (given out : List ℕ) (taken : Given w.state.free w.state.last given)
        (is_free : m.free ≡ marked false given w.state.free) (is_last : m.last ≡ get_or given (length given - 1) w.state.last)
        (is_cut : m.cut ≡ out) (freed : with_all out m.free ≡ marked true out m.free) where
      pub change_made : Makes (ration_table greatest) w given out (s ∷ rest)
      change_made = record { short = short; taken = taken; last_taken = last; each = each; free_within = within; free_after = after }
        where
          each : (qs : List Event) → LeftUncut (ration_table greatest) qs w → steps_in qs < suc (length rest)
              → StoresNow (ration_table greatest) (run (ration_table greatest) qs w) (store_at (s ∷ rest) (steps_in qs))
          each qs u h = at (first_step greatest w qs u)
            where
              at : ((steps_in qs ≡ 0) × (run (ration_table greatest) qs w ≡ w))
                  ⊎ ((more : List Event) × LeftUncut (ration_table greatest) more (happens (ration_table greatest) step w) × (steps_in qs ≡ suc (steps_in more))
                  × (run (ration_table greatest) qs w ≡ run (ration_table greatest) more (happens (ration_table greatest) step w)))
                  → StoresNow (ration_table greatest) (run (ration_table greatest) qs w) (store_at (s ∷ rest) (steps_in qs))
              at (inl (z, e)) = rw (z, e) first_stored_lem
              at (inr (more, v, k, e)) = rw (k, e) (stores_each greatest final m then_left.0 rest (happens (ration_table greatest) step w) then_left.2 more v (omega (arith, k, h)))

          state_at : (qs : List Event) → LeftUncut (ration_table greatest) qs w → 0 < steps_in qs → steps_in qs ≤ suc (length rest)
              → (k : ℕ) × (steps_in qs ≡ suc k) × ((run (ration_table greatest) qs w).state ≡ advanced m (drop k rest))
          state_at qs u p h = at (first_step greatest w qs u)
            where
              at : ((steps_in qs ≡ 0) × (run (ration_table greatest) qs w ≡ w))
                  ⊎ ((more : List Event) × LeftUncut (ration_table greatest) more (happens (ration_table greatest) step w) × (steps_in qs ≡ suc (steps_in more))
                  × (run (ration_table greatest) qs w ≡ run (ration_table greatest) more (happens (ration_table greatest) step w)))
                  → (k : ℕ) × (steps_in qs ≡ suc k) × ((run (ration_table greatest) qs w).state ≡ advanced m (drop k rest))
              at (inl (z, e)) = absurd (omega (arith, z, p))
              at (inr (more, v, k, e)) = (
                steps_in more,
                k,
                rw e (run_left greatest final m then_left.0 rest
                    (happens (ration_table greatest) step w) then_left.2 more v (omega (arith, k, h))).2.is_left,
              )

          last : (qs : List Event) → LeftUncut (ration_table greatest) qs w → 0 < steps_in qs → steps_in qs ≤ suc (length rest)
              → (run (ration_table greatest) qs w).state.last ≡ get_or given (length given - 1) w.state.last
          last qs u p h = let a = state_at qs u p h in ap (λ (y : Memory). y.last) a.2 ∙ advanced_last m (drop a.0 rest) ∙ is_last

          within : (qs : List Event) → LeftUncut (ration_table greatest) qs w → 0 < steps_in qs → steps_in qs < suc (length rest)
              → (run (ration_table greatest) qs w).state.free ≡ marked false given w.state.free
          within qs u p h =
              let a = state_at qs u p (omega arith) in
              ap (λ (y : Memory). y.free) a.2 ∙ advanced_free m (drop a.0 rest) (drop_some rest a.0 (omega (arith, a.1, h))) ∙ is_free

          after : (qs : List Event) → LeftUncut (ration_table greatest) qs w → steps_in qs ≡ suc (length rest)
              → (run (ration_table greatest) qs w).state.free ≡ marked true out (marked false given w.state.free)
          after qs u h =
              let a = state_at qs u (omega arith) (omega arith) in
              ap (λ (y : Memory). y.free) (a.2 ∙ ap (advanced m) (drop_all rest a.0 (omega (arith, a.1, h)))) ∙ advanced_all m
              ∙ ap (λ (y : List ℕ). with_all y m.free) is_cut ∙ freed ∙ ap (marked true out) is_free

-- ---- between two changes

last_same : (last : ℕ) (ms : List ℕ) → last_of last ms ≡ get_or ms (length ms - 1) last
unfolding last_of
last_same last [] = refl
last_same last (m ∷ []) = refl
last_same last (m ∷ x ∷ ms) =
    let there : suc (length ms) - 1 ≡ length ms = omega arith in
    let one_on : suc (length ms) ≡ suc (suc (length ms)) - 1 = omega arith in
    last_same last (x ∷ ms) ∙ ap (λ (k : ℕ). get_or (x ∷ ms) k last) there ∙ ap (λ (k : ℕ). get_or (m ∷ x ∷ ms) k last) one_on

-- the work in hand has had its first change planned: an update that has, or a repair of opening's
abbrev pub Begun : Doing → Type 0
Begun doing = (phase : Phase) × (key : ℕ) × (final : Answer) × (u : Option Update) × Job phase doing key final u

-- and so it stays
begun_settled : {doing : Doing} → Begun doing → Begun (settledDoing doing)
begun_settled (phase, key, final, u, j) = (Decided, key, final, u, job_settled j)

-- the next change of a repair
record RepairNext (greatest : ℕ) (c : List ℕ) (n : ℕ) (m : Memory) : Type 0 where
  pub key : ℕ
  pub first : Store
  pub rest : List Store
  pub then_free : List Bool
  pub then_last : ℕ
  pub out : List ℕ
  pub planned : next_repair c n key m.free m.last ≡ prepared (first ∷ rest) then_free then_last out
  pub short : suc (length rest) ≤ 73
  pub first_made : step_of greatest 1 c m ≡ record {
    answer = Stored first.0;
    card = set c first.0 first.1;
    memory = advanced (memory n then_free then_last m.depth m.totals m.doing [] out) rest;
  }

-- the final answer, or the next change
abbrev Turns : ℕ → List ℕ → ℕ → Tree → Memory → Answer → Type 0
Turns greatest c n t m due = Exact n m.free t × (((table_violations t ≡ 0) × ((step_of greatest 1 c m).answer ≡ due)) ⊎ RepairNext greatest c n m)

idle_no_job : {phase : Phase} {doing : Doing} {key : ℕ} {final : Answer} {u : Option Update} → Job phase doing key final u → doing ≡ Idle → ⊥
idle_no_job job_repair e = impossible (cc)
idle_no_job (job_insert p) e = impossible (cc)
idle_no_job (job_delete p) e = impossible (cc)

put_no_job : (k v : ℕ) {phase : Phase} {doing : Doing} {key : ℕ} {final : Answer} {u : Option Update} → Job phase doing key final u → doing ≡ Inserting k v NotBegun → ⊥
put_no_job k v job_repair e = impossible (cc)
put_no_job k v (job_insert in_hand_lem) e = impossible (cc)
put_no_job k v (job_insert decided) e = impossible (cc)
put_no_job k v (job_delete p) e = impossible (cc)

remove_no_job : (k : ℕ) {phase : Phase} {doing : Doing} {key : ℕ} {final : Answer} {u : Option Update} → Job phase doing key final u → doing ≡ Deleting k NotBegun 0 → ⊥
remove_no_job k job_repair e = impossible (cc)
remove_no_job k (job_insert p) e = impossible (cc)
remove_no_job k (job_delete in_hand_lem) e = impossible (cc)
remove_no_job k (job_delete decided) e = impossible (cc)

turns_at : (greatest : ℕ) {c : List ℕ} {n : ℕ} {t goal : Tree} {steps : ℕ} {m : Memory} {h : Hand} {due : Answer} → Table greatest c n t → Openable n t
    → Stage c (only n) t goal steps m h due → m.rest ≡ [] → Begun m.doing → Turns greatest c n t m due
turns_at greatest b o (stage_idle z r x g) e k = absurd (idle_no_job k.4 refl)
turns_at greatest b o (stage_put {key = key} {value = value} room z r x low high enough below q g) e k = absurd (put_no_job key value k.4 refl)
turns_at greatest b o (stage_remove {key = key} z r x low high q g) e k = absurd (remove_no_job key k.4 refl)
turns_at greatest b o (stage_first {s = s} {rest = rest} j p en count few hd) e k = let y : ◌≡◌ {A = List Store} (s ∷ rest) [] = e in impossible (cc)
turns_at greatest b o (stage_within {s = s} {rest = rest} j en p q few hd) e k = let y : ◌≡◌ {A = List Store} (s ∷ rest) [] = e in impossible (cc)
turns_at greatest {c} {n} {t} {due = due} b o (stage_between {free} {last} {depth} {key} {doing} {totals = totals} j en deep (settled z r) x few hd) e k = (
  exact_only n free t x,
  inl (
    z,
    ap (λ y. y.answer) (step_repairs greatest c n b.sized b.header free last depth totals j
        ∙ prepared_ready c (memory n free last depth totals doing [] []) doing due (next_repair c n key free last) (rests greatest c n key t free last b z)),
  ),
)
turns_at greatest {c} {n} {t} {due = due} b o (stage_between {free} {last} {depth} {key} {doing} {totals = totals} j en deep (violated v w r) x few hd) e k =
    (exact_only n free t x, inr (apply (mends greatest c (only n) key t free last b x v w r)))
  where
    apply : Repaired c (only n) key t free last (depth_of v.context) → RepairNext greatest c n (memory n free last depth totals doing [] [])
    apply q = split q.stores refl
      where
        split : (ss : List Store) → q.stores ≡ ss → RepairNext greatest c n (memory n free last depth totals doing [] [])
        split [] e₁ = let z = ap length (sym e₁ ∙ q.pending.is_rest) in absurd (omega (arith, simp length-append at z))
        split (s ∷ rest) e₁ =
            let planned : next_repair c n key free last ≡ prepared (s ∷ rest) q.free_then q.last_then q.cut = rw e₁ at q.planned in
            let p = pending_changing b.holds b.sound o (rw e₁ at q.pending) in
            record {
              key = key;
              first = s;
              rest = rest;
              then_free = q.free_then;
              then_last = q.last_then;
              out = q.cut;
              planned = planned;
              short = rw e₁ at q.short;
              first_made = step_repairs greatest c n b.sized b.header free last depth totals j ∙ prepared_first c (memory n free last depth totals doing [] []) doing due
                  (next_repair c n key free last) s rest q.free_then q.last_then q.cut planned (first_storable p.0.plays).inside;
            }

-- one turn of a repair, where all that come after it are by the rules
repair_next : (greatest : ℕ) (final : Answer) (most : ℕ) (w : World (ration_table greatest)) (x : Nears greatest final most w) → Begun w.state.doing
    → Turns greatest w.card x.covered.size x.covered.inv.tree w.state x.covered.inv.due
    → ((few : ℕ) (v : World (ration_table greatest)) → few < most → Nears greatest final few v → v.state.rest ≡ [] → Begun v.state.doing
    → Repairs (ration_table greatest) (step_reply final) v) → Repairs (ration_table greatest) (step_reply final) w
unfolding reply_to
repair_next greatest final most w x k (exact, turn) later = at turn
  where
    v : Covered greatest w x.book_now
    v = x.covered

    between : Between (ration_table greatest) w v.inv.tree
    between =
        record {
          sound = table_well_formed greatest v.inv.table;
          free_exact = subst (λ y. Exact y w.state.free v.inv.tree) (sym (nodes_same greatest (only v.size) v.steps w x.book_now v.inv)) exact;
        }

    at : ((table_violations v.inv.tree ≡ 0) × ((step_of greatest 1 w.card w.state).answer ≡ v.inv.due))
        ⊎ RepairNext greatest w.card v.size w.state → Repairs (ration_table greatest) (step_reply final) w
    at (inl (z, a)) = done v.inv.tree between z (ap step_reply (a ∙ x.is_due))
    at (inr q) =
        let r = repair_by_rule w.card v.size q.key q.planned in
        let m = memory v.size q.then_free q.then_last w.state.depth w.state.totals w.state.doing [] q.out in
        mends_by v.inv.tree between r.rule
        (change_made greatest final most w x m q.first q.rest q.first_made q.short r.given q.out r.in_turn r.left
        (r.given_last ∙ last_same w.state.last r.given) refl (cut_marked q.out q.then_free))
        (λ qs u n. let l = all_left greatest final most w x m q.first q.rest q.first_made qs u n in
        later l.0 (run (ration_table greatest) qs w) l.1 l.2.nears (ap (λ (y : Memory). y.rest) l.2.is_left ∙ advanced_none m)
        (subst Begun (sym (ap (λ (y : Memory). y.doing) l.2.is_left ∙ advanced_doing m)) (begun_settled k)))

-- "Repairs go on until balanced": as many changes as there are steps left, at most
pub repairs_by_rules : (greatest : ℕ) (final : Answer) (bound most : ℕ) (w : World (ration_table greatest)) → most < bound → Nears greatest final most w → w.state.rest ≡ []
    → Begun w.state.doing → Repairs (ration_table greatest) (step_reply final) w
repairs_by_rules greatest final zero most w h x e k = absurd (omega arith)
repairs_by_rules greatest final (suc bound) most w h x e k =
    repair_next greatest final most w x k (turns_at greatest x.covered.inv.table x.covered.inv.openable x.covered.inv.stage e k)
    (λ few v l y e' k'. repairs_by_rules greatest final bound few v (omega (arith, l, h)) y e' k')

-- ---- the first change of an update

-- a final answer is one that the book counts as final
final_counts : (a : Answer) → Final a → IsFinal a
final_counts a (inl e) = rw e tt
final_counts a (inr (inl (v, e))) = rw e tt
final_counts a (inr (inr e)) = rw e tt

-- The first step of an update: what is planned is by the rule, or there is nothing to change.
module _ (greatest : ℕ) (final : Answer) (most : ℕ) (w : World (ration_table greatest)) (x : Nears greatest final most w)
    (busy : is_idle w.state.doing ≡ false) (Nothing : Type 0) (Rule : List ℕ → List ℕ → List Store → Type 0)
    (short : (given out : List ℕ) (ss : List Store) → Rule given out ss → length ss ≤ 73)
  where
    not_refused : (r : ℕ) → step_of greatest 1 w.card w.state ≡ step_refused r w.card w.state → ⊥
    unfolding step_refused
    not_refused r e = let v = x.covered in work_not_refused greatest (only v.size) v.steps w x.book_now v.inv busy r (ap (λ y. y.answer) e)

    ends_due : (a : Answer) → Final a → step_of greatest 1 w.card w.state ≡ step_final a w.card w.state → a ≡ final
    unfolding step_final
    ends_due a f e =
        let v = x.covered in
        let i = loosen greatest (only v.size) v.steps (suc v.steps) w x.book_now (omega arith) v.inv in
        let q = kept_step greatest (only v.size) v.steps w x.book_now i in
        right_final (subst (λ y. Right y i.due) (ap (λ y. y.answer) e) q.1) (final_counts a f)
        ∙ loosen_due greatest (only v.size) v.steps (suc v.steps) w x.book_now (omega arith) v.inv ∙ x.is_due

    pub first_by_rules : (f : FirstChange) → step_of greatest 1 w.card w.state ≡ step_begin w.card w.state f → Final f.final
        → Storing f.preparation → (f.preparation ≡ balanced → f.final ≡ final → Nothing)
        → ((ss : List Store) (fewer : List Bool) (now : ℕ) (out : List ℕ) → f.preparation ≡ prepared ss fewer now out
        → ByRule Rule w.state.free w.state.last ss fewer now out × Begun f.doing)
        → Updates (ration_table greatest) Nothing Rule (step_reply final) w
    unfolding step_begin step_prepared step_store planning reply_to step_final Storing more_to_store
    first_by_rules f e fin stores none_due rule = at f.preparation refl stores
      where
        at : (p : Preparation) → f.preparation ≡ p → Storing p → Updates (ration_table greatest) Nothing Rule (step_reply final) w
        at refused q st = absurd (not_refused 9 (e ∙ ap (step_prepared w.card w.state f.doing f.final) q))
        at balanced q st =
            let s : step_of greatest 1 w.card w.state ≡ step_final f.final w.card w.state = e ∙ ap (step_prepared w.card w.state f.doing f.final) q in
            no_change (none_due q (ends_due f.final fin s)) (ap (λ y. step_reply y.answer) s ∙ ap step_reply (ends_due f.final fin s))
        at (prepared [] fewer now out) q st = true_false (sym st)
        at (prepared (s ∷ rest) fewer now out) q st =
            order s.0 (length w.card) inside
            (λ o. absurd (not_refused 9 (e ∙ ap (step_prepared w.card w.state f.doing f.final) q ∙ rw (le-ltb s.0 (length w.card) o))))
          where
            m : Memory
            m = memory w.state.nodes fewer now w.state.depth w.state.totals f.doing [] out

            inside : s.0 < length w.card → Updates (ration_table greatest) Nothing Rule (step_reply final) w
            inside o =
                let first : step_of greatest 1 w.card w.state ≡ record {
                  answer = Stored s.0;
                  card = set w.card s.0 s.1;
                  memory = advanced (memory w.state.nodes fewer now w.state.depth w.state.totals f.doing [] out) rest;
                } = e ∙ ap (step_prepared w.card w.state f.doing f.final) q ∙ rw (lt-ltb s.0 (length w.card) o) in
                let r = rule (s ∷ rest) fewer now out q in
                changes r.0.rule
                (change_made greatest final most w x m s rest first (short r.0.given out (s ∷ rest) r.0.rule) r.0.given out
                r.0.in_turn r.0.left (r.0.given_last ∙ last_same w.state.last r.0.given) refl (cut_marked out fewer))
                (λ qs u n. let l = all_left greatest final most w x m s rest first qs u n in
                repairs_by_rules greatest final (suc l.0) l.0 (run (ration_table greatest) qs w) (omega arith) l.2.nears
                (ap (λ (y : Memory). y.rest) l.2.is_left ∙ advanced_none m)
                (subst Begun (sym (ap (λ (y : Memory). y.doing) l.2.is_left ∙ advanced_doing m)) (begun_settled r.1)))

-- where an update stands that has just been started
pub put_turns : (greatest : ℕ) {c : List ℕ} {n : ℕ} {t goal : Tree} {steps : ℕ} {m : Memory} {h : Hand} {due : Answer} (key value : ℕ) → Table greatest c n t
    → Stage c (only n) t goal steps m h due → m.doing ≡ Inserting key value NotBegun
    → step_of greatest 1 c m ≡ step_begin c m (next_change c n m.free m.last (Inserting key value NotBegun) (PutIn key value))
put_turns greatest key value b (stage_idle z r x g) e = impossible (cc)
put_turns greatest {c} {n} key value b (stage_put {free} {last} {depth} {key = k} {value = v} {totals = totals} room z r x low high enough below q g) e =
    let ek : k ≡ key = cc in
    let ev : v ≡ value = cc in
    rw (← ek, ← ev) (step_puts greatest c n b.sized b.header free last depth totals k v)
put_turns greatest key value b (stage_remove z r x low high q g) e = impossible (cc)
put_turns greatest key value b (stage_first j p en count few hd) e = absurd (put_no_job key value j e)
put_turns greatest key value b (stage_between j en deep k x few hd) e = absurd (put_no_job key value j e)
put_turns greatest key value b (stage_within j en p q few hd) e = absurd (put_no_job key value j e)

pub remove_turns : (greatest : ℕ) {c : List ℕ} {n : ℕ} {t goal : Tree} {steps : ℕ} {m : Memory} {h : Hand} {due : Answer} (key : ℕ)
    → Table greatest c n t → Stage c (only n) t goal steps m h due → m.doing ≡ Deleting key NotBegun 0
    → step_of greatest 1 c m ≡ step_begin c m (next_change c n m.free m.last (Deleting key NotBegun 0) (TakeOut key))
remove_turns greatest key b (stage_idle z r x g) e = impossible (cc)
remove_turns greatest key b (stage_put room z r x low high enough below q g) e = impossible (cc)
remove_turns greatest {c} {n} key b (stage_remove {free} {last} {depth} {key = k} {totals = totals} z r x low high q g) e =
    let ek : k ≡ key = cc in
    rw (← ek) (step_removes greatest c n b.sized b.header free last depth totals k)
remove_turns greatest key b (stage_first j p en count few hd) e = absurd (remove_no_job key j e)
remove_turns greatest key b (stage_between j en deep k x few hd) e = absurd (remove_no_job key j e)
remove_turns greatest key b (stage_within j en p q few hd) e = absurd (remove_no_job key j e)
