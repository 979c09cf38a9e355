-- W-204, of the ration table: what the question answers.
use mathlib.Core.Path.{◌≡◌, refl, ap, sym, subst}
use mathlib.Core.List.{List, [], ◌∷◌}
use mathlib.Core.Logic.{◌⊎◌, inl, inr}
use mathlib.Core.Option.{Option, none, some}
use Prim.Native.Nat.{ℕ, suc, ◌<◌}
use native.Mathlib.Omega.{arith}
use lib.ListN.{length, get_or}
use lib.Dec.{eqb}
use borrow.Author.Tests.{lt-ltb, le-ltb}
use Rattle.laws.proofs.Cases.{bool_cases}
use Rattle.laws.specs.Totals.{total}
use Rattle.card.specs.Header.{nodes_of_length, header_refusal}
use Rattle.card.specs.Replies.{totalled}
use Rattle.card.specs.Stores.{Store}
use Rattle.card_family.specs.Families.{family_count, of_family, no_totals}
use Rattle.card_family.proofs.FamilyLaws.{Totals, totals_none, totals_same}
use Rattle.call_open.specs.Opening.{open_of}
use Rattle.call_repair.proofs.RepairingLaws.{refused_none}
use Rattle.call_start.specs.Starts.{format_of}
use Rattle.call_step.specs.Calls.{step_checked, step_held, step_of}
use Rattle.state.specs.Answers.{total_of, total_reply, start_reply}
use Rattle.state.specs.Memory.{Memory, resting, no_memory, idled}
use Rattle.state.specs.Steps.{held_by, no_beginning, step_refused, step_final, format_store, formatting_from, step_format}
use Rattle.state.specs.Begun.{Begun}
use Rattle.state.specs.Begun.{Idle as OpenedIdle, Started, Refused as BegunRefused}
use Rattle.state.specs.declared.Held.{Held}
use Rattle.state.specs.declared.Doing.TheVariants.{Idle, Formatting}
use Rattle.theory_shapes.proofs.Unique.{one_held}
use Rattle.theory_tree.specs.Pairs.{pairs}
use Rattle.theory_tree.specs.Tree.{Tree}
use Rattle.theory_tree.specs.WellFormed.{WellFormed}
use Rattle.demands.specs.Book.{Book}
use Rattle.demands.specs.Events.{Event, World, happens, run, LeftUncut, format_begun, ask, insert, delete, step, cut}
use Rattle.demands.specs.RationTable.{ration_table}
use Rattle.demands.specs.Table.{Refused}
use Rattle.demands.specs.W204.{TellsAll, W204}
use Rattle.demands.proofs.PowerCuts.{Covered, always}
use Rattle.demands.proofs.PowerLoss.{ask_same, insert_same, delete_same}

told : (m : Memory) (l : List (ℕ × ℕ)) → Totals m.totals l → (family : ℕ) → family < family_count → total_reply (total_of m family) ≡ totalled (total (of_family family) l)
unfolding total_of total_reply
told m l k family h = rw (lt-ltb family family_count h) (ap totalled (k.each family h))

none_told : (m : Memory) → m.totals ≡ no_totals → (family : ℕ) → family < family_count → total_reply (total_of m family) ≡ totalled 0
none_told m e family h = told m [] (rw e totals_none) family h

-- ---- on a table as in demand 2

module _ (greatest : ℕ) (w : World (ration_table greatest)) (b : Book) (v : Covered greatest w b) where
  by_tree : (t : Tree) → WellFormed w.card t → (family : ℕ) → family < family_count → total_reply (total_of w.state family) ≡ totalled (total (of_family family) (pairs t))
  by_tree t k = told w.state (pairs t) (subst (λ (x : Tree). Totals w.state.totals (pairs x)) (one_held w.card v.inv.tree t v.inv.table.holds k.holds) v.inv.counted)

  by_book : (family : ℕ) → family < family_count → total_reply (total_of w.state family) ≡ totalled (total (of_family family) b.held)
  by_book = told w.state b.held (totals_same w.state.totals (pairs v.inv.tree) b.held v.inv.same.totals v.inv.counted)

-- ---- while formatting, and after it until an update is started

-- nothing is counted, and nothing but formatting is being done
pub record Uncounted (m : Memory) : Type 0 where
  pub zeros : m.totals ≡ no_totals
  pub formats : (m.doing ≡ Idle) ⊎ ((made : ℕ) × (m.doing ≡ Formatting made))

module _ (greatest : ℕ) (c : List ℕ) (m : Memory) (u : Uncounted m) where
  final_uncounted : Uncounted (idled m)
  unfolding idled
  final_uncounted = record { zeros = u.zeros; formats = inl refl }

  format_uncounted : (made : ℕ) (o : Option Store) → Uncounted (step_format c m made o).memory
  unfolding step_format step_final formatting_from
  format_uncounted made none = final_uncounted
  format_uncounted made (some s) = record { zeros = u.zeros; formats = inr (suc made, refl) }

  step_uncounted : Uncounted (step_of greatest 1 c m).memory
  unfolding step_of step_refused step_held step_checked held_by
  step_uncounted =
      bool_cases (eqb (nodes_of_length greatest (length c)) 0) (λ q. rw q u)
      (λ q. bool_cases (eqb (nodes_of_length greatest (length c)) m.nodes) (λ r. rw (q, r) (at u.formats)) (λ r. rw (q, r) u))
    where
      at : (m.doing ≡ Idle) ⊎ ((made : ℕ) × (m.doing ≡ Formatting made)) → Uncounted (step_held 1 c m (held_by m.doing)).memory
      at (inl e) = subst (λ (h : Held). Uncounted (step_held 1 c m h).memory) (sym (ap held_by e)) (bool_cases (eqb (header_refusal c m.nodes) 0) (λ h. rw h u) (λ h. rw h u))
      at (inr (made, e)) = subst (λ (h : Held). Uncounted (step_held 1 c m h).memory) (sym (ap held_by e)) (format_uncounted made (format_store m.nodes (length c) made))

-- the same of the event
stepped_uncounted : (greatest : ℕ) (w : World (ration_table greatest)) → Uncounted w.state → Uncounted (happens (ration_table greatest) step w).state
unfolding happens
stepped_uncounted greatest w u = step_uncounted greatest w.card w.state u

run_uncounted : (greatest : ℕ) (qs : List Event) (w : World (ration_table greatest)) → LeftUncut (ration_table greatest) qs w → Uncounted w.state
    → Uncounted (run (ration_table greatest) qs w).state
unfolding LeftUncut run
run_uncounted greatest [] w l u = u
run_uncounted greatest (ask q ∷ qs) w l u =
    let e = ask_same greatest q w in
    subst (λ (x : World (ration_table greatest)). Uncounted (run (ration_table greatest) qs x).state) (sym e)
    (run_uncounted greatest qs w (subst (LeftUncut (ration_table greatest) qs) e l.1) u)
run_uncounted greatest (insert key value ∷ qs) w l u =
    let e = insert_same greatest key value w l.0 in
    subst (λ (x : World (ration_table greatest)). Uncounted (run (ration_table greatest) qs x).state) (sym e)
    (run_uncounted greatest qs w (subst (LeftUncut (ration_table greatest) qs) e l.1) u)
run_uncounted greatest (delete key ∷ qs) w l u =
    let e = delete_same greatest key w l.0 in
    subst (λ (x : World (ration_table greatest)). Uncounted (run (ration_table greatest) qs x).state) (sym e)
    (run_uncounted greatest qs w (subst (LeftUncut (ration_table greatest) qs) e l.1) u)
run_uncounted greatest (step ∷ qs) w l u = run_uncounted greatest qs (happens (ration_table greatest) step w) l.1 (stepped_uncounted greatest w u)
run_uncounted greatest (cut ∷ qs) w l u = absurd l.0

begun_uncounted : (greatest : ℕ) (c : List ℕ) → Uncounted (format_of greatest c).memory
unfolding format_of no_beginning no_memory resting
begun_uncounted greatest c =
    bool_cases (eqb (nodes_of_length greatest (length c)) 0) (λ q. rw q (record { zeros = refl; formats = inl refl }))
    (λ q. rw q (record { zeros = refl; formats = inr (0, refl) }))

-- ---- for N = 0

none_opened : (greatest : ℕ) (c : List ℕ) → Refused (start_reply (open_of greatest c).begun) → (open_of greatest c).memory.totals ≡ no_totals
unfolding start_reply no_memory
none_opened greatest c = at (open_of greatest c).begun refl
  where
    at : (b : Begun) → (open_of greatest c).begun ≡ b → Refused (start_reply b) → (open_of greatest c).memory.totals ≡ no_totals
    at OpenedIdle e r = absurd (omega arith)
    at Started e r = absurd (omega arith)
    at (BegunRefused number) e r = ap (λ (m : Memory). m.totals) (refused_none greatest c number e)

pub w_204 : (greatest : ℕ) → W204 (ration_table greatest) (λ m family. total_reply (total_of m family))
unfolding total_of total_reply
w_204 greatest =
    record {
      moments = always greatest (λ w b. (t : Tree) → WellFormed w.card t → TellsAll (ration_table greatest) (λ m family. total_reply (total_of m family)) w.state (pairs t)) (by_tree greatest);
      booked = always greatest (λ w b. TellsAll (ration_table greatest) (λ m family. total_reply (total_of m family)) w.state b.held) (by_book greatest);
      formatting = λ c e qs u. let x = run_uncounted greatest qs (format_begun (ration_table greatest) c) u (begun_uncounted greatest c) in
          none_told (run (ration_table greatest) qs (format_begun (ration_table greatest) c)).state x.zeros;
      not_opened = λ c r. none_told (open_of greatest c).memory (none_opened greatest c r);
      not_formatted = λ c r. none_told (format_of greatest c).memory (begun_uncounted greatest c).zeros;
      above = λ m family h. rw (le-ltb family family_count h);
      answers = λ m family h. (get_or m.totals family 0, rw (lt-ltb family family_count h));
    }
