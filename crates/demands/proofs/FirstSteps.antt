-- DEMAND 1, of the first step of a change: 9 exactly when a first change's way is refused or has no nodes, or a repair cannot be made.
-- And DEMAND 1 whole.
use mathlib.Core.Path.{◌≡◌, refl, ap, sym, subst, ◌∙◌}
use mathlib.Core.Bool.{Bool, true, false}
use mathlib.Core.List.{List, [], ◌∷◌}
use mathlib.Core.Logic.{◌⊎◌, inl, inr}
use mathlib.Core.Option.{Option as Maybe, none, some}
use Prim.Native.Nat.{ℕ, ◌+◌, ◌≤◌, ◌<◌}
use native.Mathlib.Omega.{arith}
use lib.ListN.{length, get_or, drop}
use Rattle.card.specs.Header.{Sized}
use Rattle.card.specs.Layout.{place, node_at, key_words, leaf_pairs, node_image}
use Rattle.card.specs.Stores.{Store}
use Rattle.change_layout.specs.LayOut.{lay_out}
use Rattle.change_split.specs.Split.{absorb_at, split_parent_at, split_leaf_of}
use Rattle.change_layout.specs.Mending.{next_repair}
use Rattle.change_decide.specs.Decide.{decided_repair}
use Rattle.change_decide.specs.declared.Decision.{Decision}
use Rattle.change_decide.specs.declared.Decision.TheVariants.{Refused, Balanced, PutPair, ClearKey, SplitLeaf, Absorb, SplitParent, Share, Merge, MergeRoot}
use Rattle.card.proofs.NodeLaws.{length_node}
use Rattle.demands.specs.Demand1.{begun, Refuses, Demand1}
use Rattle.demands.specs.Table.{formatting}
use Rattle.demands.specs.Way.{nodes_on, leads_to, among}
use Rattle.demands.specs.Refusals.{ByRows, NoneGiven, Unmakeable, NoChange, step_rows, end, row}
use Rattle.demands.specs.Rules.{Given, FullLeaf}
use Rattle.demands.specs.RationTable.{has_begun, work_of, as_stepped, ration_table}
use Rattle.demands.proofs.CardRows.{none_some, finds, formats, opens}
use Rattle.demands.proofs.PlannedNumbers.{numbers_by_rule, numbers_counted, given_taken}
use Rattle.demands.proofs.StartRows.{one_leaf, inserts, deletes}
use Rattle.demands.proofs.StepRows.{Final, Works, refused_same, final_idle, advanced_nodes, advanced_work, store_inside}
use Rattle.demands.proofs.StepRows.{store_outside, formatting_rows, idle_rows, task_rows, in_hand_rows, none_refused}
use Rattle.demands.proofs.Work.{IdleOrTask, idle_or_task}
use Rattle.demands.proofs.WayDown.{landed, slot_found, slot_among, leads_is, sized_on}
use Rattle.walk.specs.Descent.{slot_of}
use Rattle.walk.proofs.DescentLaws.{slot_below}
use Rattle.laws.proofs.Cases.{order, impossible}
use Rattle.laws.specs.Sorting.{sort}
use Rattle.change_plan.specs.Change.{Change, change_stores, split_leaf, absorb, split_parent, halves, share, merge, merge_root}
use Rattle.change_plan.specs.Planning.{refused, balanced, prepared, take_numbers, over_numbers, giving, first, second, third}
use Rattle.demands.proofs.Begin.{put_held, put_slot, put_full, remove_held, remove_absent}
use Rattle.change_siblings.specs.Siblings.{share_at, merge_at, merge_root_at}
use Rattle.state.specs.Memory.{Memory, advanced}
use Rattle.state.specs.Steps.{Step, step_refused}
use Rattle.state.specs.declared.Doing.{Doing}
use Rattle.state.specs.declared.Doing.TheVariants.{Inserting, Deleting, Repairing}
use Rattle.state.specs.declared.Phase.TheVariants.{NotBegun, InHand, Decided}
use Rattle.state.specs.Answer.{Answer, given}
use Rattle.state.specs.Answer.{Absent, Value}
use Rattle.state.specs.declared.Answer.{Answer as GivenAnswer}
use Rattle.state.specs.declared.Answer.TheVariants.{Ready as GivenReady, Absent as GivenAbsent, Value as GivenValue}
use Rattle.state.specs.declared.Task.{Task}
use Rattle.state.specs.declared.Task.TheVariants.{PutIn, TakeOut, Repair}
use Rattle.state.proofs.Tasks.{in_hand_lem, decided, TaskOf, putting, taking, put, taken, opened, task_of}
use Rattle.call_step.specs.Calls.{planning, step_prepared, step_begin, step_task, step_of}
use Rattle.call_change.specs.Updates.{landing, no_way, in_leaf, next_change}
use Rattle.call_change.proofs.UpdateLaws.{landed as leaf_landed}
use Rattle.std.specs.Prelude.{Option, Some, None}
use Rattle.walk.proofs.DescentLaws.{landing_at}
use Rattle.walk.specs.declared.Landing.{Landing}

-- ---- the leaf

found : (node : List ℕ) (x i : ℕ) → slot_of node x ≡ Some i → among x (key_words node) ≡ true
unfolding slot_of slot_found
found node x i e = sym (slot_among (key_words node) x 0) ∙ ap slot_found e

missing : (node : List ℕ) (x : ℕ) → slot_of node x ≡ None → among x (key_words node) ≡ false
unfolding slot_of slot_found
missing node x e = sym (slot_among (key_words node) x 0) ∙ ap slot_found e

-- its slots are on the card
module _ (greatest : ℕ) (c : List ℕ) (n key m link run : ℕ) (sized : Sized greatest (length c) n) (lands : landing c n key ≡ landing_at m link run) where
  leaf_words : length (node_at c m) ≡ 24
  leaf_words = let k = leaf_landed greatest c n key m link run sized lands in length_node c m k.inside.one (omega (arith, k.inside.most, sized.words))

  on_card_lem : (x i j : ℕ) → slot_of (node_at c m) x ≡ Some i → j ≤ 12 + i → place m j < length c
  on_card_lem x i j e h =
      let k = leaf_landed greatest c n key m link run sized lands in
      omega (arith, k.inside.one, k.inside.most, sized.words, slot_below (node_at c m) x i leaf_words e)

module _ (greatest : ℕ) (c : List ℕ) (m : Memory) where
  -- refused 9 exactly when this is due
  abbrev Nine : Type 0 → Step → Type 0
  Nine due x = (due × Refuses (ration_table greatest) c m (as_stepped x) 9) ⊎ ((due → ⊥) × Works greatest c m x)

  same_nine : (P Q : Type 0) (x : Step) → (P → Q) → (Q → P) → Nine P x → Nine Q x
  same_nine P Q x f g (inl (p, r)) = inl (f p, r)
  same_nine P Q x f g (inr (p, w)) = inr (λ q. p (g q), w)

  -- what a preparation makes of the step
  module _ (doing : Doing) (a : Answer) where
    answers : Final a → Works greatest c m (step_prepared c m doing a balanced)
    unfolding step_prepared
    answers f = inr (final_idle greatest a c m f)

    refuses_none : Refuses (ration_table greatest) c m (as_stepped (step_prepared c m doing a refused)) 9
    unfolding step_prepared
    refuses_none = refused_same greatest 9 c m

    module _ (ss : List Store) (free : List Bool) (last : ℕ) (cut : List ℕ) where
      stores_first : work_of doing ≡ begun (work_of m.doing) → (get_or ss 0 (0, 0)).0 < length c
          → Works greatest c m (step_prepared c m doing a (prepared ss free last cut))
      unfolding step_prepared planning
      stores_first w o =
          let then = planning m doing free last cut in
          inl (store_inside greatest c m (get_or ss 0 (0, 0)) (advanced then (drop 1 ss)) (advanced_nodes then (drop 1 ss)) (advanced_work then (drop 1 ss) ∙ w) o)

      refuses_first : length c ≤ (get_or ss 0 (0, 0)).0 → Refuses (ration_table greatest) c m (as_stepped (step_prepared c m doing a (prepared ss free last cut))) 9
      unfolding step_prepared
      refuses_first o = store_outside greatest c m (get_or ss 0 (0, 0)) (advanced (planning m doing free last cut) (drop 1 ss)) o

  -- a change over so many new nodes, whose first store is the first word of the first of them
  module _ (doing : Doing) (a : Answer) (w : work_of doing ≡ begun (work_of m.doing)) where
    over_given : (k : ℕ) (change : List ℕ → Change) → ((ms : List ℕ) → (get_or (change_stores (change ms)) 0 (0, 0)).0 ≡ place (first ms) 0)
        → Nine (NoneGiven c m.free m.last k) (step_prepared c m doing a (giving k m.free m.last change))
    unfolding giving over_numbers
    over_given k change heads = go (take_numbers k m.free m.last) refl
      where
        given : (ms : List ℕ) → Given m.free m.last ms → length ms ≡ k → take_numbers k m.free m.last ≡ some ms
        given ms g n = subst (λ (x : ℕ). take_numbers x m.free m.last ≡ some ms) n (given_taken g)

        go : (o : Maybe (List ℕ)) → take_numbers k m.free m.last ≡ o
            → Nine (NoneGiven c m.free m.last k) (step_prepared c m doing a (over_numbers m.free m.last change o))
        go none t = inl (λ ms g n h. let u = given ms g n in impossible (cc), refuses_none doing a)
        go (some ms) t =
            order (place (first ms) 0) (length c)
            (λ o. inr (
              λ z. z ms (numbers_by_rule k m.free m.last ms t) (numbers_counted k m.free m.last ms t) o,
              stores_first doing a (change_stores (change ms)) _ _ _ w (omega (arith, o, heads ms)),
            ))
            (λ o. inl (
              λ ms' g n h. let u = given ms' g n in let z : ms' ≡ ms = cc in omega (arith, o, rw z at h),
              refuses_first doing a (change_stores (change ms)) _ _ _ (omega (arith, o, heads ms)),
            ))

-- ---- an insert

module _ (greatest : ℕ) (c : List ℕ) (m : Memory) (key value : ℕ) (d : m.doing ≡ Inserting key value NotBegun) where
  -- its leaf is full, and no three nodes are given to split it into
  abbrev NoNodes : Type 0
  NoNodes = (leaf : ℕ) × (j : ℕ) × FullLeaf c key leaf j × NoneGiven c m.free m.last 3

  abbrev InsertDue : Type 0
  InsertDue = (leads_to c key ≡ none) ⊎ NoNodes

  abbrev inserted : Step
  inserted = step_begin c m (next_change c m.nodes m.free m.last (Inserting key value NotBegun) (PutIn key value))

  insert_work : work_of (Inserting key value InHand) ≡ begun (work_of m.doing)
  unfolding work_of has_begun begun
  insert_work = rw d

  insert_no_way : landing c m.nodes key ≡ None → inserted ≡ step_refused 9 c m
  unfolding step_begin next_change in_leaf no_way step_prepared
  insert_no_way e = rw e

  module _ (s : Sized greatest (length c) m.nodes) (leaf link run : ℕ) (lands : landing c m.nodes key ≡ landing_at leaf link run) where
    leads : leads_to c key ≡ some (leaf, run)
    unfolding landed
    leads = sym (leads_is c m.nodes key (sized_on greatest c m.nodes s)) ∙ ap landed lands

    not_due : (NoNodes → ⊥) → InsertDue → ⊥
    not_due x (inl z) = none_some (leaf, run) (sym z ∙ leads)
    not_due x (inr r) = x r

    -- what is said of the leaf that the key leads to is said of this one
    in_leaf_lem : (r : NoNodes) (x : ℕ) → among x (key_words (node_at c r.0)) ≡ false → among x (key_words (node_at c leaf)) ≡ true → ⊥
    in_leaf_lem r x n y =
        let z : among x (key_words (node_at c leaf)) ≡ false = subst (λ (a : ℕ). among x (key_words (node_at c a)) ≡ false) (one_leaf c key r.0 r.1 leaf run r.2.leads leads).0 n in
        impossible (cc)

    given_there : InsertDue → NoneGiven c m.free m.last 3
    given_there (inl z) = absurd (none_some (leaf, run) (sym z ∙ leads))
    given_there (inr r) = r.3

    insert_slot : (k : Option ℕ) → slot_of (node_at c leaf) key ≡ k → (z : Option ℕ) → slot_of (node_at c leaf) 0 ≡ z → Nine greatest c m InsertDue inserted
    unfolding change_stores split_leaf node_image
    insert_slot (Some i) e z f =
        subst (Nine greatest c m InsertDue) (sym (put_held greatest c m.nodes key leaf link run lands value m.free m.last m i e))
        (inr (
          not_due (λ r. in_leaf_lem r key r.2.absent (found (node_at c leaf) key i e)),
          answers greatest c m (Inserting key value InHand) (Value (get_or (node_at c leaf) (12 + i) 0)) (inr (inl (get_or (node_at c leaf) (12 + i) 0, refl))),
        ))
    insert_slot None e (Some i) f =
        subst (Nine greatest c m InsertDue) (sym (put_slot greatest c m.nodes key leaf link run lands value m.free m.last m i e f))
        (inr (
          not_due (λ r. in_leaf_lem r 0 r.2.full (found (node_at c leaf) 0 i f)),
          stores_first greatest c m (Inserting key value InHand) Absent ((place leaf (12 + i), value) ∷ (place leaf (1 + i), key) ∷ []) m.free
              m.last [] insert_work (on_card_lem greatest c m.nodes key leaf link run s lands 0 i (12 + i) f (omega arith)),
        ))
    insert_slot None e None f =
        subst (Nine greatest c m InsertDue) (sym (put_full greatest c m.nodes key leaf link run lands value m.free m.last m e f))
        (same_nine greatest c m (NoneGiven c m.free m.last 3) InsertDue _
        (λ h. inr (leaf, run, record { leads = leads; absent = missing (node_at c leaf) key e; full = missing (node_at c leaf) 0 f }, h))
        given_there
        (over_given greatest c m (Inserting key value InHand) Absent insert_work 3
        (λ ms. split_leaf leaf link (sort ((key, value) ∷ leaf_pairs (node_at c leaf))) (first ms) (second ms) (third ms)) (λ ms. refl)))

  insert_at_lem : Sized greatest (length c) m.nodes → (l : Option Landing) → landing c m.nodes key ≡ l → Nine greatest c m InsertDue inserted
  unfolding landed
  insert_at_lem s None e = inl (inl (sym (leads_is c m.nodes key (sized_on greatest c m.nodes s)) ∙ ap landed e), rw (insert_no_way e) (refused_same greatest 9 c m))
  insert_at_lem s (Some l) e = insert_slot s l.node l.link l.run e (slot_of (node_at c l.node) key) refl (slot_of (node_at c l.node) 0) refl

-- ---- a delete

module _ (greatest : ℕ) (c : List ℕ) (m : Memory) (key before : ℕ) (d : m.doing ≡ Deleting key NotBegun before) where
  abbrev deleted : Step
  deleted = step_begin c m (next_change c m.nodes m.free m.last (Deleting key NotBegun before) (TakeOut key))

  delete_work : (value : ℕ) → work_of (Deleting key InHand value) ≡ begun (work_of m.doing)
  unfolding work_of has_begun begun
  delete_work value = rw d

  delete_no_way : landing c m.nodes key ≡ None → deleted ≡ step_refused 9 c m
  unfolding step_begin next_change in_leaf no_way step_prepared
  delete_no_way e = rw e

  delete_slot : Sized greatest (length c) m.nodes → (leaf link run : ℕ)
      → landing c m.nodes key ≡ landing_at leaf link run → (k : Option ℕ) → slot_of (node_at c leaf) key ≡ k → Works greatest c m deleted
  delete_slot s leaf link run lands (Some i) e =
      subst (Works greatest c m) (sym (remove_held greatest c m.nodes key leaf link run lands before m.free m.last m i e))
      (stores_first greatest c m (Deleting key InHand (get_or (node_at c leaf) (12 + i) 0)) (Value (get_or (node_at c leaf) (12 + i) 0))
      ((place leaf (1 + i), 0) ∷ []) m.free m.last [] (delete_work (get_or (node_at c leaf) (12 + i) 0))
      (on_card_lem greatest c m.nodes key leaf link run s lands key i (1 + i) e (omega arith)))
  delete_slot s leaf link run lands None e =
      subst (Works greatest c m) (sym (remove_absent greatest c m.nodes key leaf link run lands before m.free m.last m e))
      (answers greatest c m (Deleting key InHand 0) Absent (inr (inr refl)))

  delete_at_lem : Sized greatest (length c) m.nodes → (l : Option Landing) → landing c m.nodes key ≡ l → Nine greatest c m (leads_to c key ≡ none) deleted
  unfolding landed
  delete_at_lem s None e = inl (sym (leads_is c m.nodes key (sized_on greatest c m.nodes s)) ∙ ap landed e, rw (delete_no_way e) (refused_same greatest 9 c m))
  delete_at_lem s (Some l) e =
      inr (λ z. none_some (l.node, l.run) (sym z ∙ sym (leads_is c m.nodes key (sized_on greatest c m.nodes s)) ∙ ap landed e), delete_slot s l.node l.link l.run e (slot_of (node_at c l.node) key) refl)

-- ---- a repair

module _ (greatest : ℕ) (c : List ℕ) (m : Memory) (key : ℕ) (a : GivenAnswer) (f : Final (given a)) (w : work_of m.doing ≡ begun (work_of m.doing)) where
  -- a change without new nodes, by its first store
  over_one : (s : Store) (rest : List Store) → Nine greatest c m (length c ≤ s.0) (step_prepared c m m.doing (given a) (prepared (s ∷ rest) m.free m.last []))
  over_one s rest =
      order s.0 (length c)
      (λ o. inr (λ z. omega (arith, o, z), stores_first greatest c m m.doing (given a) (s ∷ rest) m.free m.last [] w o))
      (λ o. inl (o, refuses_first greatest c m m.doing (given a) (s ∷ rest) m.free m.last [] o))

  -- by the change decided
  repair_decided : (x : Decision) → Nine greatest c m (Unmakeable c m.free m.last x) (step_prepared c m m.doing (given a) (lay_out c x m.free m.last))
  unfolding Unmakeable lay_out change_stores split_leaf absorb split_parent share merge merge_root halves node_image
  repair_decided Refused = inl (tt, refuses_none greatest c m m.doing (given a))
  repair_decided Balanced = inr (λ z. z, answers greatest c m m.doing (given a) f)
  repair_decided (PutPair x i k v) = over_one (place x (12 + i), v) ((place x (1 + i), k) ∷ [])
  repair_decided (ClearKey x i) = over_one (place x (1 + i), 0) []
  repair_decided (SplitLeaf x link k v) = over_given greatest c m m.doing (given a) w 3 (split_leaf_of x link k v (node_at c x)) (λ ms. refl)
  repair_decided (Absorb p) = over_given greatest c m m.doing (given a) w 1 (absorb_at c p) (λ ms. refl)
  repair_decided (SplitParent p) = over_given greatest c m m.doing (given a) w 3 (split_parent_at c p) (λ ms. refl)
  repair_decided (Share p) = over_given greatest c m m.doing (given a) w 3 (share_at c p) (λ ms. refl)
  repair_decided (Merge p) = over_given greatest c m m.doing (given a) w 2 (merge_at c p) (λ ms. refl)
  repair_decided (MergeRoot p) = over_given greatest c m m.doing (given a) w 1 (merge_root_at c p) (λ ms. refl)

  repair_next : Sized greatest (length c) m.nodes → Nine greatest c m (Unmakeable c m.free m.last (decided_repair c (nodes_on c) key))
      (step_begin c m (next_change c m.nodes m.free m.last m.doing (Repair key a)))
  unfolding step_begin next_change next_repair
  repair_next s = rw (sized_on greatest c m.nodes s) (repair_decided (decided_repair c m.nodes key))

-- ---- any of them

module _ (greatest : ℕ) (c : List ℕ) (m : Memory) (s : Sized greatest (length c) m.nodes) where
  abbrev Begins : Doing → Task → Type 0
  Begins doing task = Nine greatest c m (NoChange c m.free m.last (work_of doing)) (step_begin c m (next_change c m.nodes m.free m.last doing task))

  repairs : (key : ℕ) (a : GivenAnswer) → Final (given a) → (doing : Doing) → m.doing ≡ doing → work_of doing ≡ begun (work_of doing)
      → Nine greatest c m (Unmakeable c m.free m.last (decided_repair c (nodes_on c) key)) (step_begin c m (next_change c m.nodes m.free m.last doing (Repair key a)))
  repairs key a f doing e w =
      subst (λ (x : Doing). Nine greatest c m (Unmakeable c m.free m.last (decided_repair c (nodes_on c) key)) (step_begin c m (next_change c m.nodes m.free m.last x (Repair key a)))) e
      (repair_next greatest c m key a f (subst (λ (x : Doing). work_of x ≡ begun (work_of x)) (sym e) w) s)

  begins : {doing : Doing} {task : Task} → TaskOf doing task → m.doing ≡ doing → Begins doing task
  unfolding NoChange work_of has_begun begun
  begins (putting {key} {value}) e = insert_at_lem greatest c m key value e s (landing c m.nodes key) refl
  begins (taking {key} {value}) e = delete_at_lem greatest c m key value e s (landing c m.nodes key) refl
  begins (put {key} {value} in_hand_lem) e = repairs key GivenAbsent (inr (inr refl)) (Inserting key value InHand) e refl
  begins (put {key} {value} decided) e = repairs key GivenAbsent (inr (inr refl)) (Inserting key value Decided) e refl
  begins (taken {key} {value} in_hand_lem) e = repairs key (GivenValue value) (inr (inl (value, refl))) (Deleting key InHand value) e refl
  begins (taken {key} {value} decided) e = repairs key (GivenValue value) (inr (inl (value, refl))) (Deleting key Decided value) e refl
  begins (opened {key}) e = repairs key GivenReady (inl refl) (Repairing key) e refl

change_rows : (greatest : ℕ) (c : List ℕ) (m : Memory) → m.rest ≡ [] → (work_of m.doing ≡ formatting → ⊥)
    → ByRows (step_rows greatest (ration_table greatest) c m (NoChange c m.free m.last (work_of m.doing)))
    (Refuses (ration_table greatest) c m (as_stepped (step_of greatest 1 c m))) (Works greatest c m (step_of greatest 1 c m))
unfolding ByRows step_task
change_rows greatest c m r q = go (idle_or_task m.doing q)
  where
    go : IdleOrTask m.doing → ByRows (step_rows greatest (ration_table greatest) c m (NoChange c m.free m.last (work_of m.doing)))
        (Refuses (ration_table greatest) c m (as_stepped (step_of greatest 1 c m))) (Works greatest c m (step_of greatest 1 c m))
    go (inl (e, w)) = idle_rows greatest c m e w (row 9 (NoChange c m.free m.last (work_of m.doing)) end) (Works greatest c m (step_of greatest 1 c m))
    go (inr (task, e, w)) =
        task_rows greatest c m task e w (row 9 (NoChange c m.free m.last (work_of m.doing)) end) (Works greatest c m (step_of greatest 1 c m))
        (λ s due. subst (Nine greatest c m (NoChange c m.free m.last (work_of m.doing))) (sym (due ∙ ap (step_task c m task) r)) (begins greatest c m s (task_of m.doing task e) refl))

-- DEMAND 1 of the ration table
pub demand_1 : (greatest : ℕ) → Demand1 greatest (ration_table greatest)
demand_1 greatest =
    record {
      finds = finds greatest;
      formats = formats greatest;
      opens = opens greatest;
      inserts = inserts greatest;
      deletes = deletes greatest;
      format_steps = formatting_rows greatest;
      steps_in_hand = in_hand_rows greatest;
      steps = change_rows greatest;
      none_refused = none_refused greatest;
    }
