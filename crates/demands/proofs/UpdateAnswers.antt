-- An update that is started, on a table worked by its calls alone: "an update stores at most 73 × 9 = 657 words", and at most
-- 73 × (h + 1) on a table of h levels; then it gives the answer of the dictionary by the pairs held when it was started.
use mathlib.Core.Path.{◌≡◌, subst}
use mathlib.Core.Bool.{false}
use Prim.Native.Nat.{ℕ, ◌+◌, ◌≤◌, ◌<◌}
use native.Mathlib.Omega.{arith}
use Rattle.theory_change.proofs.Line.{only}
use Rattle.card.specs.Layout.{key_limit}
use Rattle.card.specs.Replies.{Reply}
use Rattle.demands.proofs.BookLaws.{dictionary_answer}
use Rattle.demands.proofs.Finished.{Counted, counted, inv_rests}
use Rattle.demands.specs.Demand2.{most_stores}
use Rattle.demands.proofs.Finishing.{update_stores_at}
use Rattle.demands.proofs.Invariant.{Inv}
use Rattle.demands.proofs.Starting.{kept_insert, kept_delete}
use Rattle.demands.specs.Book.{Book}
use Rattle.demands.specs.Events.{World, happens, insert, delete}
use Rattle.demands.specs.RationTable.{ration_table}
use Rattle.call_start.specs.Starts.{insert_of, delete_of}
use Rattle.state.specs.Answers.{step_reply}
use Rattle.state.specs.Steps.{is_idle}
use Rattle.state.specs.Answer.{Answer}
use Rattle.state.specs.Begun.{Started}
use Rattle.state.specs.declared.Doing.TheVariants.{Idle}
use Rattle.theory_tree.specs.Height.{Height}
use Rattle.theory_tree.specs.Pairs.{lookup}
use Rattle.theory_tree.specs.Tree.{Tree}
use Rattle.theory_tree.specs.WellFormed.{WellFormed}

-- at most so many stores, and then the answer
abbrev pub Stores : (greatest : ℕ) → ℕ → Reply → World (ration_table greatest) → Type 0
Stores greatest most final w = (k : ℕ) × (k ≤ most) × Counted greatest final k w

work_stores : (greatest : ℕ) {n steps : ℕ} {w : World (ration_table greatest)} {b : Book} (i : Inv greatest (only n) steps w b)
    → is_idle w.state.doing ≡ false → (due : Answer) → i.due ≡ due → (most : ℕ) → steps ≤ most + 1 → Stores greatest most (step_reply due) w
work_stores greatest {n} {steps} {w} {b} i busy due e most h =
    let q = counted greatest (only n) steps w b i busy in
    (q.0, omega (arith, q.1), subst (λ (a : Answer). Counted greatest (step_reply a) q.0 w) e q.2)

module _ (greatest : ℕ) {n steps : ℕ} {w : World (ration_table greatest)} {b : Book} (i : Inv greatest (only n) steps w b) (key : ℕ) (high : key < key_limit) where
  -- "73 × (h + 1) stores, h being the depth when the call began" (document 02, W-214)
  pub insert_stores_by_depth : (value : ℕ) → (insert_of greatest 1 w.card w.state key value).begun ≡ Started → (t : Tree) → WellFormed w.card t → (h : ℕ) → Height h t
      → Stores greatest (update_stores_at h) (step_reply (dictionary_answer (lookup key b.held))) (happens (ration_table greatest) (insert key value) w)
  unfolding happens
  insert_stores_by_depth value e t sound h level =
      let q = kept_insert greatest n steps w b i key value high in
      work_stores greatest q.1 (q.2.busy e) (dictionary_answer (lookup key b.held)) (q.2.new_due e) (update_stores_at h) (q.2.steps_left e t sound h level)

  pub delete_stores_by_depth : (delete_of greatest 1 w.card w.state key).begun ≡ Started → (t : Tree) → WellFormed w.card t → (h : ℕ) → Height h t
      → Stores greatest (update_stores_at h) (step_reply (dictionary_answer (lookup key b.held))) (happens (ration_table greatest) (delete key) w)
  unfolding happens
  delete_stores_by_depth e t sound h level =
      let q = kept_delete greatest (only n) steps w b i key high in
      work_stores greatest q.1 (q.2.busy e) (dictionary_answer (lookup key b.held)) (q.2.new_due e) (update_stores_at h) (q.2.steps_left e t sound h level)

  -- "With 600 nodes a balanced tree has at most 8 internal levels"
  within_bound : {final : Reply} {v : World (ration_table greatest)} → w.state.doing ≡ Idle
      → ((t : Tree) → WellFormed w.card t → (h : ℕ) → Height h t → Stores greatest (update_stores_at h) final v) → Stores greatest (most_stores greatest) final v
  within_bound idle by_depth =
      let r = inv_rests greatest n steps w b i idle in
      let level = r.balanced.well_formed.level in
      let q = by_depth r.table r.balanced.well_formed level.0 level.1 in
      (q.0, omega (arith, q.1, r.levels level.0 level.1), q.2)

  pub insert_stores : (value : ℕ) → (insert_of greatest 1 w.card w.state key value).begun ≡ Started
      → Stores greatest (most_stores greatest) (step_reply (dictionary_answer (lookup key b.held))) (happens (ration_table greatest) (insert key value) w)
  insert_stores value e = within_bound ((kept_insert greatest n steps w b i key value high).2.idle_before e) (insert_stores_by_depth value e)

  pub delete_stores : (delete_of greatest 1 w.card w.state key).begun ≡ Started
      → Stores greatest (most_stores greatest) (step_reply (dictionary_answer (lookup key b.held))) (happens (ration_table greatest) (delete key) w)
  delete_stores e = within_bound ((kept_delete greatest (only n) steps w b i key high).2.idle_before e) (delete_stores_by_depth e)
