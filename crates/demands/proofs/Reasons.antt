-- WHAT STANDS IN THE WAY OF A NEW NUMBER (document 02, W-209): "Proved: the reason handed over for printing is the one that holds, and
-- an insert of that key would be refused 8 exactly when `split` is printed with F below M."
use mathlib.Core.Path.{◌≡◌, refl, ap, sym, subst, ◌∙◌}
use mathlib.Core.List.{List}
use mathlib.Core.Option.{none, some}
use mathlib.Core.Logic.{◌↔◌}
use Prim.Native.Nat.{ℕ, ◌+◌, ◌≤◌, ◌<◌}
use native.Mathlib.Omega.{arith}
use lib.ListN.{length, get_or}
use Rattle.theory_change.proofs.Line.{only}
use Rattle.laws.proofs.Cases.{order}
use Rattle.card.specs.Header.{nodes_of_length, Sized}
use Rattle.card.proofs.HeaderLaws.{sized_nodes}
use Rattle.card.specs.Layout.{lowest_key, key_limit, node_at, leaf_pairs}
use Rattle.card.proofs.NodeLaws.{length_node}
use Rattle.walk.specs.Descent.{slot_of}
use Rattle.theory_walk.proofs.Find.{slot_answer}
use Rattle.theory_walk.proofs.Landing.{LandedAt, landing_found}
use Rattle.card_free.specs.NodeSet.{count_true}
use Rattle.reason.specs.InsertReason.{reason_for, reason_landed, reason_of}
use Rattle.reason.proofs.InsertReasonLaws.{of_opened, on_no_key, on_key}
use Rattle.reason.specs.Reason.{Reason}
use Rattle.reason.specs.Reason.{Refused, NoKey, Held, Slot as EmptySlot, Split}
use Rattle.demands.specs.Book.{book, kept, empty}
use Rattle.demands.specs.Events.{World, run, opened, Opens, from_open}
use Rattle.demands.specs.RationTable.{ration_table}
use Rattle.demands.proofs.Accepting.{not_refused}
use Rattle.demands.proofs.Invariant.{Inv}
use Rattle.demands.proofs.PowerLoss.{kept_from}
use Rattle.demands.proofs.Room.{LeadsTo, key_leads, splitting_insert_starts, splitting_insert_refused, other_insert_starts}
use Rattle.demands.proofs.Starting.{nodes_same}
use Rattle.call_repair.specs.Repairing.{opened_card}
use Rattle.demands.proofs.RepairedCard.{After, steps, all_words, world_from, opened_run, repaired}
use Rattle.theory_check.proofs.Depth.{well_formed_depth}
use Rattle.theory_check.proofs.Ranges.{root_in_range}
use Rattle.state.specs.Steps.{Handed}
use Rattle.state.specs.Begun.{Started}
use Rattle.state.specs.declared.Doing.TheVariants.{Idle}
use Rattle.call_step.specs.Calls.{repair_steps}
use Rattle.theory_tree.specs.Pairs.{pairs, lookup}
use Rattle.theory_tree.specs.Tree.{Tree}
use Rattle.theory_tree.specs.WellFormed.{WellFormed}
use Rattle.call_start.specs.Starts.{start_refused, insert_of}
use Rattle.call_change.proofs.UpdateLaws.{leaf_full_lem, landed}
use Rattle.call_change.specs.Updates.{landing, empty_reason, reason_in, insert_reason, split_need, held, slot, full, Reason as InLeaf}
use Rattle.walk.proofs.DescentLaws.{same_landing}
use Rattle.std.specs.Prelude.{Option, Some, None}

-- What each reason says of the card's map and of the card as the repair leaves it: the key's value; or that it has none and that the
-- leaf it leads to has an empty slot; or that it has none, that this leaf is full, how many 11-child nodes without a break stand
-- straight above it, how many nodes are free, and how many the split needs.
unfoldable pub ReasonHolds : ℕ → List ℕ → Tree → ℕ → Reason → Type 0
ReasonHolds greatest c t key (Refused r) = ⊥
ReasonHolds greatest c t key NoKey = ⊥
ReasonHolds greatest c t key (Held v) = lookup key (pairs t) ≡ some v
ReasonHolds greatest c t key EmptySlot =
    (lookup key (pairs t) ≡ none) × ((leaf : ℕ) × (j : ℕ) × (i : ℕ)
    × LeadsTo greatest (world_from greatest (opened_card greatest c)) key leaf j × (slot_of (node_at (opened_card greatest c).card leaf) 0 ≡ Some i))
ReasonHolds greatest c t key (Split j free need) =
    (lookup key (pairs t) ≡ none)
    × ((leaf : ℕ) × LeadsTo greatest (world_from greatest (opened_card greatest c)) key leaf j × (length (leaf_pairs (node_at (opened_card greatest c).card leaf)) ≡ 11))
    × (count_true (opened_card greatest c).memory.free ≡ free)
    × (need ≡ split_need j)

module _ (greatest : ℕ) (c : List ℕ) (t : Tree) (accepted : Opens (ration_table greatest) c) (well : WellFormed c t) where
  -- the card and the state that the repair leaves, as a run of steps
  abbrev after : World (ration_table greatest)
  after = run (ration_table greatest) (steps repair_steps) (opened (ration_table greatest) c)

  is_after : world_from greatest (opened_card greatest c) ≡ after
  is_after = opened_run greatest c

  left : After greatest c t
  left = repaired greatest c t accepted well

  -- the invariant then
  kept_after : (n : ℕ) × (k : ℕ) × Inv greatest (only n) k after (kept (ration_table greatest) (steps repair_steps) (opened (ration_table greatest) c) (book (pairs t) empty))
  kept_after = kept_from greatest (opened (ration_table greatest) c) (pairs t) (from_open c t accepted well) (steps repair_steps) (all_words repair_steps)

  -- the state's N is the card's
  counted : (opened_card greatest c).memory.nodes ≡ nodes_of_length greatest (length (opened_card greatest c).card)
  counted =
      let k = kept_after in
      let e = nodes_same greatest (only k.0) k.1 after _ k.2 in
      ap (λ (w : World (ration_table greatest)). w.state.nodes) is_after ∙ e
      ∙ sym (sized_nodes greatest _ k.0 k.2.table.sized)
      ∙ ap (λ (w : World (ration_table greatest)). nodes_of_length greatest (length w.card)) (sym is_after)

  same_nodes : (opened_card greatest c).memory.nodes ≡ nodes_of_length greatest (length c)
  same_nodes = counted ∙ sized_nodes greatest _ _ left.sized

  some_nodes : (opened_card greatest c).memory.nodes ≡ 0 → ⊥
  some_nodes z = omega (arith, same_nodes, left.sized.least)

  -- "prints `no key`" where the file has none: on a card that opens, key 0 has no other reason
  pub no_key : reason_of greatest c 0 ≡ NoKey
  no_key =
      of_opened greatest c 0 (not_refused greatest c accepted) ∙ on_no_key greatest (opened_card greatest c).card
      (opened_card greatest c).memory.free 0 (opened_card greatest c).memory.nodes counted some_nodes refl

  module _ (key : ℕ) (low : lowest_key ≤ key) (high : key < key_limit) where
    -- the leaf that the key leads to
    leads : (leaf : ℕ) × (j : ℕ) × LeadsTo greatest (world_from greatest (opened_card greatest c)) key leaf j
    leads = subst (λ (w : World (ration_table greatest)). (leaf : ℕ) × (j : ℕ) × LeadsTo greatest w key leaf j) (sym is_after) (key_leads greatest kept_after.2 key low high)

    abbrev leaf : ℕ
    leaf = leads.0

    abbrev run_above : ℕ
    run_above = leads.1

    abbrev leaf_reason : InLeaf
    leaf_reason = insert_reason (node_at (opened_card greatest c).card leaf) key

    -- the reason, by what the leaf holds
    reason_is : reason_of greatest c key ≡ reason_for leaf_reason run_above (count_true (opened_card greatest c).memory.free)
    unfolding reason_landed
    reason_is =
        of_opened greatest c key (not_refused greatest c accepted)
        ∙ on_key greatest (opened_card greatest c).card (opened_card greatest c).memory.free key (opened_card greatest c).memory.nodes counted some_nodes (λ z. omega arith)
        ∙ ap (reason_landed (opened_card greatest c).card (opened_card greatest c).memory.free key) leads.2.1

    -- what the leaf holds is what the map has
    answered : slot_answer (node_at (opened_card greatest c).card leaf) (slot_of (node_at (opened_card greatest c).card leaf) key) ≡ lookup key (pairs t)
    unfolding landing
    answered =
        subst (λ (m : ℕ). slot_answer (node_at (opened_card greatest c).card m) (slot_of (node_at (opened_card greatest c).card m) key)
        ≡ lookup key (pairs t)) same_leaf (found.answers ∙ left.map.alike key)
      where
        well_after : WellFormed (opened_card greatest c).card left.table
        well_after = left.balanced.well_formed

        found : LandedAt (opened_card greatest c).card (nodes_of_length greatest (length c)) key left.table
        found =
            landing_found (opened_card greatest c).card
            (nodes_of_length greatest (length c)) key left.sized.words lowest_key key_limit left.table well_after.holds
            (root_in_range lowest_key key_limit left.table well_after.sound well_after.widths) low high (omega arith)
            (well_formed_depth (opened_card greatest c).card (nodes_of_length greatest (length c)) left.sized.words left.table left.sized.most well_after)

        same_leaf : found.number ≡ leaf
        same_leaf =
            let e = sym found.landed ∙ ap (λ (n : ℕ). landing (opened_card greatest c).card n key) (sym same_nodes) ∙ leads.2.1 in
            (same_landing _ _ _ _ _ _ e).0

    -- what the leaf has of the key, by its reason
    leaf_held : (words : List ℕ) (k v : ℕ) → insert_reason words k ≡ held v → slot_answer words (slot_of words k) ≡ some v
    unfolding insert_reason reason_in empty_reason slot_answer
    leaf_held words k v = go (slot_of words k)
      where
        empty : (s : Option ℕ) → empty_reason s ≡ held v → ⊥
        empty (Some i) e = let z : ◌≡◌ {A = ℕ} 0 1 = cc in omega arith
        empty None e = let z : ◌≡◌ {A = ℕ} 0 1 = cc in omega arith

        go : (s : Option ℕ) → reason_in words s ≡ held v → slot_answer words s ≡ some v
        go (Some i) e = let z : get_or words (12 + i) 0 ≡ v = cc in ap some z
        go None e = absurd (empty (slot_of words 0) e)

    leaf_absent : (words : List ℕ) (k : ℕ) (s : Option ℕ) → insert_reason words k ≡ empty_reason s → slot_answer words (slot_of words k) ≡ none
    unfolding insert_reason reason_in empty_reason slot_answer
    leaf_absent words k s = go (slot_of words k) s
      where
        go : (q s : Option ℕ) → reason_in words q ≡ empty_reason s → slot_answer words q ≡ none
        go None s e = refl
        go (Some i) (Some m) e = let z : ◌≡◌ {A = ℕ} 0 1 = cc in absurd (omega arith)
        go (Some i) None e = let z : ◌≡◌ {A = ℕ} 0 1 = cc in absurd (omega arith)

    leaf_slot : (words : List ℕ) (k i : ℕ) → insert_reason words k ≡ slot i → slot_of words 0 ≡ Some i
    unfolding insert_reason reason_in empty_reason
    leaf_slot words k i = go (slot_of words k)
      where
        empty : (s : Option ℕ) → empty_reason s ≡ slot i → s ≡ Some i
        empty (Some m) e = let z : m ≡ i = cc in ap Some z
        empty None e = let z : ◌≡◌ {A = ℕ} 0 1 = cc in absurd (omega arith)

        go : (s : Option ℕ) → reason_in words s ≡ slot i → slot_of words 0 ≡ Some i
        go (Some m) e = let z : ◌≡◌ {A = ℕ} 0 1 = cc in absurd (omega arith)
        go None e = empty (slot_of words 0) e

    leaf_no_slot : (words : List ℕ) (k : ℕ) → insert_reason words k ≡ full → slot_of words 0 ≡ None
    unfolding insert_reason reason_in empty_reason
    leaf_no_slot words k = go (slot_of words k)
      where
        empty : (s : Option ℕ) → empty_reason s ≡ full → s ≡ None
        empty (Some m) e = let z : ◌≡◌ {A = ℕ} 0 1 = cc in absurd (omega arith)
        empty None e = refl

        go : (s : Option ℕ) → reason_in words s ≡ full → slot_of words 0 ≡ None
        go (Some m) e = let z : ◌≡◌ {A = ℕ} 0 1 = cc in absurd (omega arith)
        go None e = empty (slot_of words 0) e

    leaf_words : length (node_at (opened_card greatest c).card leaf) ≡ 24
    leaf_words =
        let whole : Sized greatest (length (opened_card greatest c).card) (opened_card greatest c).memory.nodes =
        subst (Sized greatest (length (opened_card greatest c).card)) (sym same_nodes) left.sized in
        let k = landed greatest (opened_card greatest c).card (opened_card greatest c).memory.nodes key leaf leads.2.0 run_above whole leads.2.1 in
        length_node (opened_card greatest c).card leaf k.inside.one (omega (arith, k.inside.most, whole.words))

    -- "the reason handed over for printing is the one that holds"
    pub reason_holds : ReasonHolds greatest c t key (reason_of greatest c key)
    unfolding ReasonHolds reason_for empty_reason
    reason_holds = subst (ReasonHolds greatest c t key) (sym reason_is) (go leaf_reason refl)
      where
        go : (r : InLeaf) → leaf_reason ≡ r → ReasonHolds greatest c t key (reason_for r run_above (count_true (opened_card greatest c).memory.free))
        go (held v) e = sym answered ∙ leaf_held (node_at (opened_card greatest c).card leaf) key v e
        go (slot i) e = (
          sym answered ∙ leaf_absent (node_at (opened_card greatest c).card leaf) key (Some i) e,
          (leaf, run_above, i, leads.2, leaf_slot (node_at (opened_card greatest c).card leaf) key i e),
        )
        go full e = (
          sym answered ∙ leaf_absent (node_at (opened_card greatest c).card leaf) key None e,
          (leaf, leads.2, leaf_full_lem (node_at (opened_card greatest c).card leaf) leaf_words (leaf_no_slot (node_at (opened_card greatest c).card leaf) key e)),
          refl,
          refl,
        )

    -- the insert of the key, with any value, after the repair
    abbrev insert_call : ℕ → Handed
    insert_call value = insert_of greatest 1 (opened_card greatest c).card (opened_card greatest c).memory key value

    leads_after : LeadsTo greatest after key leaf run_above
    leads_after = subst (λ (w : World (ration_table greatest)). LeadsTo greatest w key leaf run_above) is_after leads.2

    idle_after : after.state.doing ≡ Idle
    idle_after = ap (λ (w : World (ration_table greatest)). w.state.doing) (sym is_after) ∙ left.idle

    refused_eight : (value : ℕ) → leaf_reason ≡ full → count_true (opened_card greatest c).memory.free < split_need run_above → insert_call value ≡ start_refused 8 (opened_card greatest c).memory
    refused_eight value =
        subst (λ (w : World (ration_table greatest)). insert_reason (node_at w.card leaf) key ≡ full → count_true w.state.free < split_need run_above
        → insert_of greatest 1 w.card w.state key value ≡ start_refused 8 w.state) (sym is_after)
        (splitting_insert_refused greatest kept_after.2 key low high idle_after value leaf run_above leads_after)

    started_room : (value : ℕ) → leaf_reason ≡ full → split_need run_above ≤ count_true (opened_card greatest c).memory.free → (insert_call value).begun ≡ Started
    started_room value =
        subst (λ (w : World (ration_table greatest)). insert_reason (node_at w.card leaf) key ≡ full → split_need run_above ≤ count_true w.state.free
        → (insert_of greatest 1 w.card w.state key value).begun ≡ Started) (sym is_after)
        (splitting_insert_starts greatest kept_after.2 key low high idle_after value leaf run_above leads_after)

    started_other : (value : ℕ) → (leaf_reason ≡ full → ⊥) → (insert_call value).begun ≡ Started
    started_other value =
        subst (λ (w : World (ration_table greatest)). (insert_reason (node_at w.card leaf) key ≡ full → ⊥) → (insert_of greatest 1 w.card w.state key value).begun ≡ Started) (sym is_after)
        (other_insert_starts greatest kept_after.2 key low high idle_after value leaf run_above leads_after)

    not_started : (value : ℕ) → insert_call value ≡ start_refused 8 (opened_card greatest c).memory → (insert_call value).begun ≡ Started → ⊥
    unfolding start_refused
    not_started value e s = let z : ◌≡◌ {A = ℕ} 0 1 = cc (sym (ap (λ (h : Handed). h.begun) e) ∙ s) in omega arith

    -- "an insert of that key would be refused 8 exactly when `split` is printed with F below M": F and M as they are handed over
    pub refused_exactly : (value : ℕ) → (insert_call value ≡ start_refused 8 (opened_card greatest c).memory)
        ↔ ((j : ℕ) × (free : ℕ) × (need : ℕ) × (reason_of greatest c key ≡ Split j free need) × (free < need))
    unfolding reason_for
    refused_exactly value = (to leaf_reason refl, from leaf_reason refl)
      where
        to : (r : InLeaf) → leaf_reason ≡ r → insert_call value ≡ start_refused 8 (opened_card greatest c).memory
            → (j : ℕ) × (free : ℕ) × (need : ℕ) × (reason_of greatest c key ≡ Split j free need) × (free < need)
        to (held v) e q = absurd (not_started value q (started_other value (λ f. let z : ◌≡◌ {A = ℕ} 0 1 = cc in omega arith)))
        to (slot i) e q = absurd (not_started value q (started_other value (λ f. let z : ◌≡◌ {A = ℕ} 0 1 = cc in omega arith)))
        to full e q =
            order (count_true (opened_card greatest c).memory.free) (split_need run_above)
            (λ h. (
              run_above,
              count_true (opened_card greatest c).memory.free,
              split_need run_above,
              reason_is ∙ ap (λ (r : InLeaf). reason_for r run_above (count_true (opened_card greatest c).memory.free)) e,
              h,
            ))
            (λ h. absurd (not_started value q (started_room value e h)))

        from : (r : InLeaf) → leaf_reason ≡ r
            → ((j : ℕ) × (free : ℕ) × (need : ℕ) × (reason_of greatest c key ≡ Split j free need) × (free < need))
            → insert_call value ≡ start_refused 8 (opened_card greatest c).memory
        from (held v) e (j, free, need, s, h) =
            let z : ◌≡◌ {A = ℕ} 0 1 =
            cc (sym s ∙ reason_is ∙ ap (λ (r : InLeaf). reason_for r run_above (count_true (opened_card greatest c).memory.free)) e) in
            absurd (omega arith)
        from (slot i) e (j, free, need, s, h) =
            let z : ◌≡◌ {A = ℕ} 0 1 =
            cc (sym s ∙ reason_is ∙ ap (λ (r : InLeaf). reason_for r run_above (count_true (opened_card greatest c).memory.free)) e) in
            absurd (omega arith)
        from full e (j, free, need, s, h) =
            let q = sym s ∙ reason_is ∙ ap (λ (r : InLeaf). reason_for r run_above (count_true (opened_card greatest c).memory.free)) e in
            let b : free ≡ count_true (opened_card greatest c).memory.free = cc in
            let n : need ≡ split_need run_above = cc in
            refused_eight value e (omega (arith, b, n))
