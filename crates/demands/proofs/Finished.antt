-- The work in hand finishes, no step of it is refused, and it leaves a balanced table with three free nodes or more: what the
-- invariant says about every step, put together.
use mathlib.Core.Path.{◌≡◌, refl, ap, sym, subst, ◌∙◌}
use mathlib.Core.List.{List, [], ◌∷◌}
use mathlib.Core.Bool.{Bool, false}
use mathlib.Core.Logic.{◌⊎◌, inl, inr}
use Prim.Native.Nat.{ℕ, zero, suc, ◌+◌, ◌≤◌, ◌<◌}
use native.Mathlib.Omega.{arith}
use Rattle.theory_change.proofs.Line.{Line, Partition, only, size, exact_only, count_only}
use Rattle.card.specs.Replies.{Reply, stored}
use Rattle.state.specs.Answers.{step_reply}
use Rattle.state.specs.Steps.{is_idle}
use Rattle.call_step.specs.Calls.{step_of}
use Rattle.state.specs.declared.Doing.TheVariants.{Idle}
use Rattle.state.specs.Answer.{Answer}
use Rattle.state.specs.Answer.{Stored, Refused}
use Rattle.demands.proofs.BookLaws.{IsFinal}
use Rattle.demands.proofs.Finishing.{Rests}
use Rattle.demands.proofs.Invariant.{Inv}
use Rattle.demands.specs.Book.{Book}
use Rattle.demands.specs.Events.{Event, World, reply_to, happens, run, LeftUncut, steps_in, ask, insert, delete, step, cut}
use Rattle.demands.specs.RationTable.{ration_table}
use Rattle.demands.proofs.PowerLoss.{loosen, at_rest, after_step, ask_same, insert_same, delete_same, idle_not_busy, map_is}
use Rattle.demands.proofs.Reopen.{table_well_formed}
use Rattle.demands.proofs.Starting.{idle_or_busy}
use Rattle.demands.proofs.Stepping.{Right, right_final, Moves, kept_step, was_idle, ends_now, goes_further}
use Rattle.demands.proofs.Steps.{memory}
use Rattle.card.specs.Layout.{limited}
use Rattle.card.proofs.HeaderLaws.{limited_most, within_limited}
use Rattle.theory_check.proofs.Depth.{balanced_levels, nodes_within}
use Rattle.theory_shapes.proofs.Bare.{bare}
use Rattle.theory_tree.specs.Violations.{table_violations}
use Rattle.laws.proofs.Cases.{impossible}

-- so many steps that each store a word, and then one that gives the final answer
pub data Counted (greatest : ℕ) (final : Reply) : ℕ → World (ration_table greatest) → Type 0 where
  answers_now : {w : World (ration_table greatest)} → reply_to (ration_table greatest) step w ≡ final → Counted greatest final 0 w
  stores_first : {k : ℕ} {w : World (ration_table greatest)} → (place : ℕ) × (reply_to (ration_table greatest) step w ≡ stored place)
      → Counted greatest final k (happens (ration_table greatest) step w) → Counted greatest final (suc k) w

-- the work in hand takes fewer stores than it has steps left, and gives the answer due
pub counted : (greatest : ℕ) (line : Line) (steps : ℕ) (w : World (ration_table greatest)) (b : Book) (i : Inv greatest line steps w b)
    → is_idle w.state.doing ≡ false → (k : ℕ) × (k < steps) × Counted greatest (step_reply i.due) k w
unfolding reply_to step_reply
counted greatest line zero w b i busy = absurd (idle_not_busy w.state.doing (at_rest greatest line 0 w b refl i).0 busy)
counted greatest line (suc steps) w b i busy =
    let q = kept_step greatest line steps w b i in
    go q.2 q.1 (λ e. subst (λ (a : Answer). (k : ℕ) × (k < steps) × Counted greatest (step_reply a) k (happens (ration_table greatest) step w)) q.0.2
    (counted greatest line steps (happens (ration_table greatest) step w) _ q.0.0 (after_step greatest w e)))
  where
    go : Moves line w.card w.state (step_of greatest 1 w.card w.state) → Right (step_of greatest 1 w.card w.state).answer i.due
        → (is_idle (step_of greatest 1 w.card w.state).memory.doing ≡ false → (k : ℕ) × (k < steps)
        × Counted greatest (step_reply i.due) k (happens (ration_table greatest) step w)) → (k : ℕ) × (k < suc steps) × Counted greatest (step_reply i.due) k w
    go (was_idle e) r later = absurd (idle_not_busy w.state.doing e busy)
    go (ends_now f same idle) r later = (0, omega arith, answers_now (ap step_reply (right_final r f)))
    go (goes_further s e) r later = let q = later e in (suc q.0, omega (arith, q.1), stores_first (s.place, ap step_reply s.told) q.2)

-- what the count says of a run without a cut, by its steps
module _ (greatest : ℕ) {final : Reply} where
  pub each_stores : {k : ℕ} {w : World (ration_table greatest)} → Counted greatest final k w → (qs : List Event) → LeftUncut (ration_table greatest) qs w → steps_in qs < k
      → (place : ℕ) × (reply_to (ration_table greatest) step (run (ration_table greatest) qs w) ≡ stored place)
  unfolding run LeftUncut
  each_stores (answers_now a) [] u h = absurd (omega arith)
  each_stores (stores_first s c) [] u h = s
  each_stores {w = w} c (ask question ∷ qs) u h = let e = ask_same greatest question w in rw e (each_stores c qs (rw e at u.1) h)
  each_stores {w = w} c (insert key value ∷ qs) u h = let e = insert_same greatest key value w u.0 in rw e (each_stores c qs (rw e at u.1) h)
  each_stores {w = w} c (delete key ∷ qs) u h = let e = delete_same greatest key w u.0 in rw e (each_stores c qs (rw e at u.1) h)
  each_stores (answers_now a) (step ∷ qs) u h = absurd (omega arith)
  each_stores (stores_first {k = k} s c) (step ∷ qs) u h = each_stores {k = k} c qs u.1 (omega arith)
  each_stores c (cut ∷ qs) u h = absurd u.0

  pub then_answers : {k : ℕ} {w : World (ration_table greatest)} → Counted greatest final k w → (qs : List Event)
      → LeftUncut (ration_table greatest) qs w → steps_in qs ≡ k → reply_to (ration_table greatest) step (run (ration_table greatest) qs w) ≡ final
  unfolding run LeftUncut
  then_answers (answers_now a) [] u h = a
  then_answers (stores_first s c) [] u h = absurd (omega arith)
  then_answers {w = w} c (ask question ∷ qs) u h = let e = ask_same greatest question w in rw e (then_answers c qs (rw e at u.1) h)
  then_answers {w = w} c (insert key value ∷ qs) u h = let e = insert_same greatest key value w u.0 in rw e (then_answers c qs (rw e at u.1) h)
  then_answers {w = w} c (delete key ∷ qs) u h = let e = delete_same greatest key w u.0 in rw e (then_answers c qs (rw e at u.1) h)
  then_answers (answers_now a) (step ∷ qs) u h = absurd (omega arith)
  then_answers (stores_first {k = k} s c) (step ∷ qs) u h = then_answers {k = k} c qs u.1 (omega arith)
  then_answers c (cut ∷ qs) u h = absurd u.0

pub work_not_refused : (greatest : ℕ) (line : Line) (steps : ℕ) (w : World (ration_table greatest)) (b : Book) → Inv greatest line steps w b
    → is_idle w.state.doing ≡ false → (r : ℕ) → (step_of greatest 1 w.card w.state).answer ≡ Refused r → ⊥
work_not_refused greatest line steps w b i busy r e = at (kept_step greatest line steps w b (loosen greatest line steps (suc steps) w b (omega arith) i)).2
  where
    at : Moves line w.card w.state (step_of greatest 1 w.card w.state) → ⊥
    at (was_idle f) = idle_not_busy w.state.doing f busy
    at (ends_now f same idle) = subst IsFinal e f
    at (goes_further s f) = let z : ◌≡◌ {A = Answer} (Refused r) (Stored s.place) = sym e ∙ s.told in impossible (cc)

-- an idle state's table
pub inv_rests : (greatest : ℕ) (n steps : ℕ) (w : World (ration_table greatest)) (b : Book) → Inv greatest (only n) steps w b → w.state.doing ≡ Idle → Rests greatest w b.held
inv_rests greatest n steps w b i idle = go (idle_or_busy i.stage)
  where
    go : (w.state.nodes ≡ n)
        × ((is_idle w.state.doing ≡ false) ⊎ ((free : List Bool) × (last : ℕ) × (w.state ≡ memory n free last w.state.depth w.state.totals Idle [] [])
        × (table_violations i.tree ≡ 0) × (size i.tree + 3 ≤ n) × Partition (only n) free i.tree × (bare i.tree ≡ i.goal))) → Rests greatest w b.held
    go (e, inl busy) = absurd (idle_not_busy w.state.doing idle busy)
    go (e, inr (free, last, em, z, r, x, eg)) =
        record {
          table = i.tree;
          balanced = record { well_formed = table_well_formed greatest i.table; none = z };
          map = map_is greatest i;
          levels = λ h g. balanced_levels h (limited greatest) i.tree (limited_most greatest) g i.table.sound.widths z (omega (
            arith,
            nodes_within w.card n i.table.sized.words i.tree i.table.holds.2 i.table.sound.once,
            within_limited greatest n i.table.sized.within i.table.sized.most,
          ));
          free_exact = rw em (exact_only n free i.tree x);
          three_kept = rw em (omega (arith, r, count_only n free i.tree x (omega (arith, i.table.sized.most))));
        }
