-- W-205, of the ration table: until a node is given, the root's is the one taken for given last.
use mathlib.Core.Path.{◌≡◌, refl, sym, ap, subst, ◌∙◌}
use mathlib.Core.Bool.{Bool, true, false}
use mathlib.Core.List.{List, [], ◌∷◌, ◌++◌}
use mathlib.Core.Logic.{◌⊎◌, inl, inr}
use mathlib.Core.Option.{Option as Maybe, none, some}
use Prim.Native.Nat.{ℕ, zero, suc, ◌≤◌, ◌<◌}
use native.Mathlib.Omega.{arith}
use native.Mathlib.Decide.{ℕ_discrete}
use lib.ListN.{length, get_or, set, take, drop, length-append}
use lib.Seq.{get_or-set_other}
use lib.Dec.{eqb, ltb}
use Rattle.card.specs.Lines.{has_line, seen}
use Rattle.card.proofs.LineLaws.{seen_sized}
use Rattle.call_step.proofs.LineSteps.{on_memory}
use Rattle.laws.proofs.Cases.{bool_cases, impossible}
use Rattle.laws.specs.Sorting.{key_at}
use Rattle.card.specs.Header.{nodes_of_length, header_refusal, Sized}
use Rattle.card.specs.Layout.{root_place, search_start, node_at, node_image}
use Rattle.card.specs.Stores.{Store, NewNode, new_node, node_stores}
use Rattle.change_plan.specs.Planning.{Preparation, refused, balanced, prepared, last_of}
use Rattle.state.specs.Memory.{Memory, resting, idled, advanced}
use Rattle.state.specs.Steps.{held_by, Step, step_refused, step_final, step_format, step_store, formatting_from, is_idle}
use Rattle.state.specs.declared.Doing.{Doing}
use Rattle.state.specs.declared.Task.{Task}
use Rattle.state.specs.declared.Task.TheVariants.{PutIn, TakeOut, Repair}
use Rattle.state.specs.declared.Held.{Held}
use Rattle.state.specs.declared.Held.TheVariants.{Nothing, Formatting, Task as HeldTask}
use Rattle.state.specs.Answer.{Answer}
use Rattle.call_change.specs.Updates.{next_change}
use Rattle.call_start.specs.Starts.{start_refused, start_accepted, start_landed, start_checked, start_of, insert_of, delete_of}
use Rattle.call_step.specs.Calls.{planning, step_prepared, step_begin, step_task, step_checked, step_held, step_of}
use Rattle.call_step.proofs.StepLaws.{step_sized, step_unsized}
use Rattle.theory_format.proofs.FreshTable.{format_fresh}
use Rattle.demands.specs.Events.{Event, World, happens, run, Begins, ask, insert, delete, step, cut, from_format, from_open}
use Rattle.demands.specs.RationTable.{ration_table}
use Rattle.demands.specs.Rules.{Given, none_given, then_given, marked, written, InsertRule, DeleteRule, RepairRule}
use Rattle.demands.specs.Rules.{leaf_holding, kind_under, keys_with, children_with, keys_left, routes, kids}
use Rattle.demands.specs.Rules.{in_slot, leaf_split, key_cleared, taken_in, parent_split, shared, merged, merged_root}
use Rattle.demands.specs.Way.{nodes_on}
use Rattle.demands.specs.W205.{NodesUntaken, W205}
use Rattle.demands.proofs.Accepting.{accepted_start}
use Rattle.demands.proofs.FirstRows.{sized?}
use Rattle.demands.proofs.WayDown.{sized_on}
use Rattle.demands.proofs.StepRows.{advanced_last}
use Rattle.demands.proofs.PowerLoss.{fresh_world}
use Rattle.demands.proofs.PlannedNumbers.{ByRule}
use Rattle.demands.proofs.PlannedRepairs.{repair_by_rule}
use Rattle.demands.proofs.PlannedUpdates.{insert_by_rule, delete_by_rule}
use Rattle.std.specs.Prelude.{Option, Some, None}
use Rattle.walk.specs.declared.Landing.{Landing}

-- ---- a node that is given is no longer free

cleared : (free : List Bool) (m : ℕ) → get_or (set free m false) m false ≡ false
cleared [] m = refl
cleared (b ∷ free) zero = refl
cleared (b ∷ free) (suc m) = cleared free m

stays_cleared : (ms : List ℕ) (free : List Bool) (m : ℕ) → get_or free m false ≡ false → get_or (marked false ms free) m false ≡ false
stays_cleared [] free m e = e
stays_cleared (x ∷ ms) free m e = stays_cleared ms (set free x false) m (go (ℕ_discrete m x))
  where
    go : Dec (m ≡ x) → get_or (set free x false) m false ≡ false
    go (yes z) = rw z (cleared free x)
    go (no d) = get_or-set_other free x m false false d ∙ e

-- so where the free bits are as they were no node was given
untaken : {free : List Bool} {last : ℕ} {ms : List ℕ} → Given free last ms → marked false ms free ≡ free → last_of last ms ≡ last
unfolding last_of
untaken none_given e = refl
untaken {free} (then_given {m = m} {ms = ms} x g) e =
    let is : get_or free m false ≡ true = x.is_free in
    let not : get_or free m false ≡ false = ap (λ (bits : List Bool). get_or bits m false) (sym e) ∙ stays_cleared ms (set free m false) m (cleared free m) in
    impossible (cc)

-- ---- a change that is given nodes has more than one store, so that none is freed at its first

first_stored_lem : (X : NewNode) (Xs : List NewNode) → 1 ≤ length (node_stores (X ∷ Xs))
unfolding node_image
first_stored_lem X Xs = omega arith

abbrev Several : List ℕ → List Store → Type 0
Several given stores = (given ≡ []) ⊎ (1 < length stores)

written_several : {given : List ℕ} (X : NewNode) (Xs : List NewNode) (link number : ℕ) → Several given (written (X ∷ Xs) link number)
written_several X Xs link number = inr (omega (arith, length-append (node_stores (X ∷ Xs)) ((link, number) ∷ []), first_stored_lem X Xs))

insert_several : {c : List ℕ} {key value : ℕ} {given out : List ℕ} {stores : List Store} → InsertRule c key value given out stores → Several given stores
insert_several (in_slot i l a f) = inl refl
insert_several (leaf_split {link = link} a b d twelve l k s) =
    written_several (leaf_holding a (take 6 twelve)) (leaf_holding b (drop 6 twelve) ∷ new_node d (kind_under link) (key_at 6 twelve ∷ []) (a ∷ b ∷ []) ∷ []) link d

delete_several : {c : List ℕ} {key : ℕ} {given out : List ℕ} {stores : List Store} → DeleteRule c key given out stores → Several given stores
delete_several (key_cleared i l f) = inl refl

repair_several : {c : List ℕ} {given out : List ℕ} {stores : List Store} → RepairRule c given out stores → Several given stores
repair_several {c} (taken_in {link} {p} {i} {t} a x f) =
    written_several (new_node a 2 (keys_with (node_at c p) i (node_at c t)) (children_with (node_at c p) i (node_at c t))) [] link a
repair_several (parent_split {link} a b d keys twelve x f k w) =
    written_several (new_node a 2 (take 5 keys) (take 6 twelve))
    (new_node b 2 (drop 6 keys) (drop 6 twelve) ∷ new_node d (kind_under link) (get_or keys 5 0 ∷ []) (a ∷ b ∷ []) ∷ []) link d
repair_several {c} (shared {link} {p} {j} {kind} {keys} {values} a b d h x y u t f k) =
    written_several (new_node a kind (take (keys_left kind h) keys) (take h values)) (
    new_node b kind (drop h keys) (drop h values)
    ∷ new_node d 2 (take j (routes c p) ++ get_or keys (keys_left kind h) 0 ∷ drop (suc j) (routes c p)) (take j (kids c p) ++ a ∷ b ∷ drop (suc (suc j)) (kids c p))
    ∷ []
    ) link d
repair_several {c} (merged {link} {p} {j} {kind} {keys} {values} a b x y u t f k) =
    written_several (new_node a kind keys values)
    (new_node b 2 (take j (routes c p) ++ drop (suc j) (routes c p)) (take j (kids c p) ++ a ∷ drop (suc (suc j)) (kids c p)) ∷ []) link b
repair_several (merged_root {kind = kind} {keys} {values} a x y u t f k) = written_several (new_node a kind keys values) [] root_place a

-- ---- a step, on any card and state

module _ (greatest : ℕ) (c : List ℕ) (m : Memory) where
  -- the node given last is as it was, if the free bits are
  abbrev Holds : Memory → Type 0
  Holds after = after.free ≡ m.free → after.last ≡ m.last

  store_holds : (s : Store) (next : Memory) → Holds next → Holds (step_store c m s next).memory
  unfolding step_store step_refused
  store_holds s next h = bool_cases (ltb s.0 (length c)) (λ q. rw q h) (λ q. rw q (λ e. refl))

  -- the first store of a change that is planned by a rule
  planned_holds : {Rule : List ℕ → List ℕ → List Store → Type 0} (doing : Doing) (ss : List Store) (fewer : List Bool) (now : ℕ) (out : List ℕ)
      → ByRule Rule m.free m.last ss fewer now out → ((given : List ℕ) → Rule given out ss → Several given ss)
      → Holds (advanced (planning m doing fewer now out) (drop 1 ss))
  unfolding advanced planning last_of
  planned_holds doing ss fewer now out r several e = advanced_last (planning m doing fewer now out) (drop 1 ss) ∙ r.given_last ∙ go (several r.given r.rule) ss refl e
    where
      go : Several r.given ss → (x : List Store) → ss ≡ x → (advanced (planning m doing fewer now out) (drop 1 x)).free ≡ m.free → last_of m.last r.given ≡ m.last
      go (inl z) x q e = ap (last_of m.last) z
      go (inr long) [] q e = absurd (omega (arith, long, ap length q))
      go (inr long) (s ∷ []) q e = absurd (omega (arith, long, ap length q))
      go (inr long) (s ∷ s₁ ∷ x) q e = untaken r.in_turn (sym r.left ∙ e)

  -- and whatever is planned
  prepared_holds : (doing : Doing) (final : Answer) (task : Task) (p : Preparation) → nodes_on c ≡ m.nodes
      → (next_change c m.nodes m.free m.last m.doing task).preparation ≡ p → Holds (step_prepared c m doing final p).memory
  unfolding step_prepared step_refused step_final idled next_change
  prepared_holds doing final task refused on q = λ e. refl
  prepared_holds doing final task balanced on q = λ e. refl
  prepared_holds doing final task (prepared ss fewer now out) on q = store_holds _ _ (by_task task q)
    where
      by_task : (task : Task) → (next_change c m.nodes m.free m.last m.doing task).preparation ≡ prepared ss fewer now out
          → Holds (advanced (planning m doing fewer now out) (drop 1 ss))
      by_task (PutIn key value) q = planned_holds doing ss fewer now out (insert_by_rule c m.nodes key on m.doing value q) (λ given r. insert_several r)
      by_task (TakeOut key) q = planned_holds doing ss fewer now out (delete_by_rule c m.nodes key on m.doing q) (λ given r. delete_several r)
      by_task (Repair key answer) q = planned_holds doing ss fewer now out (repair_by_rule c m.nodes key q) (λ given r. repair_several r)

  task_holds : (task : Task) (rest : List Store) → nodes_on c ≡ m.nodes → Holds (step_task c m task rest).memory
  unfolding step_task step_begin
  task_holds task [] on = prepared_holds _ _ task _ on refl
  task_holds task (s ∷ rest) on = store_holds s (advanced m rest) (λ e. advanced_last m rest)

module _ (greatest : ℕ) (c : List ℕ) (m : Memory) where
  abbrev Keeps : Memory → Type 0
  Keeps = Holds greatest c m

  checked_holds : (due : Step) → Keeps due.memory → Keeps (step_checked c m due).memory
  unfolding step_checked step_refused
  checked_holds due h = bool_cases (eqb (header_refusal c m.nodes) 0) (λ q. rw q h) (λ q. rw q (λ e. refl))

  format_holds : (made : ℕ) (o : Maybe Store) → Keeps (step_format c m made o).memory
  unfolding step_format step_final idled formatting_from
  format_holds made none = λ e. refl
  format_holds made (some s) = λ e. refl

  held_holds : (held : Held) → Sized greatest (length c) m.nodes → Keeps (step_held 1 c m held).memory
  unfolding step_held step_refused
  held_holds Nothing s = checked_holds _ (λ e. refl)
  held_holds (Formatting made) s = format_holds made _
  held_holds (HeldTask task) s =
      checked_holds _ (subst Keeps (sym (on_memory 1 c (step_task (seen 1 c) m task m.rest)))
      (task_holds greatest (seen 1 c) m task m.rest (sized_on greatest (seen 1 c) m.nodes (seen_sized 1 c s))))

  step_holds : Keeps (step_of greatest 1 c m).memory
  unfolding step_refused
  step_holds = go (sized? greatest (length c) m.nodes)
    where
      go : Dec (Sized greatest (length c) m.nodes) → Keeps (step_of greatest 1 c m).memory
      go (yes s) = rw (step_sized greatest 1 c m s) (held_holds (held_by m.doing) s)
      go (no p) = rw (step_unsized greatest 1 c m p) (λ e. refl)

  -- ---- a start, refused or not, keeps the node given last

  landed_last : (doing : Doing) (depth : ℕ) (room : Bool) (l : Option Landing) → (start_landed m doing depth room l).memory.last ≡ m.last
  unfolding start_landed start_refused start_accepted
  landed_last doing depth room None = refl
  landed_last doing depth room (Some l) = bool_cases room (λ q. rw q) (λ q. rw q)

  start_last : (key : ℕ) (doing : Doing) (room : Option Landing → Bool) → (start_of greatest 1 c m key doing room).memory.last ≡ m.last
  unfolding start_of start_checked start_refused has_line
  start_last key doing room =
      bool_cases (eqb (nodes_of_length greatest (length c)) 0) (λ q. rw q) (λ q. bool_cases (eqb (nodes_of_length greatest (length c)) m.nodes)
      (λ q₁. bool_cases (eqb (header_refusal c m.nodes) 0)
      (λ q₂. bool_cases (is_idle m.doing) (λ q₃. bool_cases (eqb key 0) (λ q₄. rw (q, q₁, q₂, q₃, q₄)) (λ q₄. rw (q, q₁, q₂, q₃, q₄) (landed_last doing _ _ _))) (λ q₃. rw (q, q₁, q₂, q₃)))
      (λ q₂. rw (q, q₁, q₂)))
      (λ q₁. rw (q, q₁)))

-- ---- over a list

untaken_last : (greatest : ℕ) (es : List Event) (w : World (ration_table greatest)) → NodesUntaken (ration_table greatest) es w
    → ((run (ration_table greatest) es w).state.last ≡ w.state.last) × ((run (ration_table greatest) es w).state.free ≡ w.state.free)
unfolding NodesUntaken run happens insert_of delete_of
untaken_last greatest [] w u = (refl, refl)
untaken_last greatest (ask q ∷ es) w u = untaken_last greatest es w u
untaken_last greatest (insert key value ∷ es) w u =
    let rest = untaken_last greatest es (happens (ration_table greatest) (insert key value) w) u.1 in
    (rest.0 ∙ start_last greatest w.card w.state key _ _, rest.1 ∙ u.0)
untaken_last greatest (delete key ∷ es) w u =
    let rest = untaken_last greatest es (happens (ration_table greatest) (delete key) w) u.1 in
    (rest.0 ∙ start_last greatest w.card w.state key _ _, rest.1 ∙ u.0)
untaken_last greatest (step ∷ es) w u =
    let rest = untaken_last greatest es (happens (ration_table greatest) step w) u.1 in
    (rest.0 ∙ step_holds greatest w.card w.state u.0, rest.1 ∙ u.0)
untaken_last greatest (cut ∷ es) w u = absurd u

-- where formatting and opening leave it
begins_there : (greatest : ℕ) (w : World (ration_table greatest)) (l : List (ℕ × ℕ)) → Begins (ration_table greatest) w l → w.state.last ≡ search_start w.card
unfolding resting
begins_there greatest w l (from_open c t a k) = accepted_start greatest c a
begins_there greatest w l (from_format c qs e u r) =
    let f = fresh_world greatest c qs e u r in
    rw f.1 (sym (format_fresh greatest c (nodes_of_length greatest (length c)) f.0).holds.0)

pub w_205 : (greatest : ℕ) → W205 (ration_table greatest)
w_205 greatest w l b =
    let there : (es : List Event) → NodesUntaken (ration_table greatest) es w → (run (ration_table greatest) es w).state.last ≡ search_start w.card =
    λ es u. (untaken_last greatest es w u).0 ∙ begins_there greatest w l b in
    record {
      search_there = there;
      first_given = λ es u given out stores m.
          subst (λ (last : ℕ). Given w.state.free last given) (there es u)
          (subst (λ (free : List Bool). Given free (run (ration_table greatest) es w).state.last given) (untaken_last greatest es w u).1 m.taken);
    }
