-- Document 01, "The changes", insert and delete: the first change that the calls plan of an update is by the rules, on any card.
use mathlib.Core.Path.{◌≡◌, refl, sym, ap, ◌∙◌}
use mathlib.Core.Bool.{Bool, false}
use mathlib.Core.List.{List, [], ◌∷◌}
use mathlib.Core.Option.{some}
use Prim.Native.Nat.{ℕ, zero, suc, ◌+◌, ◌≤◌, ◌<◌}
use native.Mathlib.Omega.{arith}
use lib.ListN.{length, get_or, take, drop, length-take, length-drop, length-append}
use lib.Dec.{eqb}
use borrow.Author.Tests.{eqb-true, eqb-false}
use Rattle.card.specs.Layout.{node_at, key_words, leaf_pairs}
use Rattle.card.specs.Stores.{Store, new_node, node_stores}
use Rattle.card.proofs.NodeLaws.{leaf_few}
use Rattle.theory_change.proofs.LeafRows.{length_pair_keys, length_pair_values}
use Rattle.theory_change.proofs.Mended.{length_node_stores}
use Rattle.theory_change.proofs.Rewrite.{AllFew}
use Rattle.walk.specs.Descent.{first_equal, slot_of}
use Rattle.change_plan.specs.Change.{change_stores, kind_above, split_leaf}
use Rattle.change_plan.specs.Planning.{prepared}
use Rattle.call_change.specs.Updates.{landing, empty_reason, reason_in, insert_reason, insert_change, delete_change, insert_in, delete_in, no_way, in_leaf, next_change}
use Rattle.state.specs.declared.Doing.{Doing}
use Rattle.state.specs.declared.Task.TheVariants.{PutIn, TakeOut}
use Rattle.demands.specs.Way.{nodes_on, leads_to, among}
use Rattle.demands.specs.Rules.{leaf_holding, kind_under, InsertRule, in_slot, leaf_split, DeleteRule, key_cleared}
use Rattle.demands.proofs.PlannedNumbers.{ByRule, not_refused, not_balanced, giving_three, none_taken}
use Rattle.demands.proofs.Standing.{picked, landing_linked}
use Rattle.demands.proofs.WayDown.{landed, leads_is, slot_found, slot_among}
use Rattle.laws.proofs.Cases.{impossible}
use Rattle.laws.specs.Sorting.{key_at}
use Rattle.laws.proofs.Sorting.{length_sort}
use Rattle.std.specs.Prelude.{Option, Some, None}
use Rattle.walk.proofs.DescentLaws.{landing_at}
use Rattle.walk.specs.declared.Landing.{Landing}

-- ---- the slots of a leaf

-- the word stands at place i, and at none before it
record FirstAt (ws : List ℕ) (x i : ℕ) : Type 0 where
  within : i < length ws
  stands : get_or ws i 0 ≡ x
  first : (y : ℕ) → y < i → get_or ws y 0 ≡ x → ⊥

first_at : (ws : List ℕ) (x j i : ℕ) → first_equal ws x j ≡ Some i → (k : ℕ) × (i ≡ j + k) × FirstAt ws x k
unfolding first_equal
first_at [] x j i e = impossible (cc)
first_at (w ∷ ws) x j i e = go (λ z. first_at ws x (suc j) i z) e
  where
    later : (k : ℕ) → eqb w x ≡ false → FirstAt ws x k → (y : ℕ) → y < suc k → get_or (w ∷ ws) y 0 ≡ x → ⊥
    later k q f zero h s = eqb-false w x q s
    later k q f (suc y) h s = f.first y (omega arith) s

    go : (first_equal ws x (suc j) ≡ Some i → (k : ℕ) × (i ≡ suc j + k) × FirstAt ws x k) → first_equal (w ∷ ws) x j ≡ Some i → (k : ℕ) × (i ≡ j + k) × FirstAt (w ∷ ws) x k
    go ih e =
        picked (eqb w x) e
        (λ q z. let s : j ≡ i = cc in (0, omega arith, record { within = omega arith; stands = eqb-true w x q; first = λ y h s. absurd (omega arith) }))
        (λ q z. let r = ih z in (suc r.0, omega (arith, r.1), record { within = omega (arith, r.2.within); stands = r.2.stands; first = later r.0 q r.2 }))

slot_at : (node : List ℕ) (x i : ℕ) → slot_of node x ≡ Some i → FirstAt (key_words node) x i
unfolding slot_of
slot_at node x i e = let r = first_at (key_words node) x 0 i e in let s : r.0 ≡ i = omega (arith, r.1) in rw s at r.2

no_slot : (node : List ℕ) (x : ℕ) → slot_of node x ≡ None → among x (key_words node) ≡ false
unfolding slot_of slot_found
no_slot node x e = sym (slot_among (key_words node) x 0) ∙ ap slot_found e

slots_of_eleven : (node : List ℕ) → length (key_words node) < 12
unfolding key_words
slots_of_eleven node = omega (arith, length-take 11 (drop 1 node))

-- ---- the leaf that the key leads to

-- the demands' way down leads where the calls land
module _ (c : List ℕ) (n key m link run : ℕ) (on : nodes_on c ≡ n) (lands : landing c n key ≡ landing_at m link run) where
  leads : leads_to c key ≡ some (m, run)
  unfolding landed
  leads = sym (leads_is c n key on) ∙ ap landed lands

-- ---- the first change

module _ (c : List ℕ) (n key : ℕ) (on : nodes_on c ≡ n) {free : List Bool} {last : ℕ} {ss : List Store} {fewer : List Bool} {now : ℕ} {cut : List ℕ} where
  -- "With an empty slot: value first, then key, in the lowest empty slot. Leaf full: the 12 pairs go 6 and 6 into two leaves .."
  insert_in_lem : (value m link run : ℕ) → landing c n key ≡ landing_at m link run → among key (key_words (node_at c m)) ≡ false → (s : Option ℕ) → slot_of (node_at c m) 0 ≡ s
      → (insert_change key value free last m link (node_at c m) (empty_reason s)).preparation ≡ prepared ss fewer now cut → ByRule (InsertRule c key value) free last ss fewer now cut
  unfolding insert_change empty_reason change_stores split_leaf kind_above
  insert_in_lem value m link run l absent (Some i) f e =
      let slot = slot_at (node_at c m) 0 i f in
      none_taken (in_slot i (leads c n key m link run on l) absent (omega (arith, slot.within, slots_of_eleven (node_at c m)), slot.stands, slot.first)) e
  insert_in_lem value m link run l absent None f e =
      let there = landing_linked c n key m link run l in
      giving_three _ e (λ x y z. leaf_split x y z _ (record { leads = leads c n key m link run on l; absent = absent; full = no_slot (node_at c m) 0 f }) there.0 refl)

  pub insert_by_rule : (doing : Doing) (value : ℕ) → (next_change c n free last doing (PutIn key value)).preparation ≡ prepared ss fewer now cut
      → ByRule (InsertRule c key value) free last ss fewer now cut
  unfolding next_change in_leaf no_way insert_reason reason_in insert_change
  insert_by_rule doing value e = on_landing (landing c n key) refl e
    where
      on_slot : (m link run : ℕ) → landing c n key ≡ landing_at m link run → (s : Option ℕ) → slot_of (node_at c m) key ≡ s
          → (insert_change key value free last m link (node_at c m) (reason_in (node_at c m) s)).preparation ≡ prepared ss fewer now cut → ByRule (InsertRule c key value) free last ss fewer now cut
      on_slot m link run l (Some i) f z = absurd (not_balanced z)
      on_slot m link run l None f z = insert_in_lem value m link run l (no_slot (node_at c m) key f) (slot_of (node_at c m) 0) refl z

      on_landing : (l : Option Landing) → landing c n key ≡ l → (in_leaf c doing (insert_in key value free last) l).preparation ≡ prepared ss fewer now cut
          → ByRule (InsertRule c key value) free last ss fewer now cut
      on_landing None f z = absurd (not_refused z)
      on_landing (Some l) f z = on_slot l.node l.link l.run f (slot_of (node_at c l.node) key) refl z

  -- "Delete: key word to 0"
  pub delete_by_rule : (doing : Doing) → (next_change c n free last doing (TakeOut key)).preparation ≡ prepared ss fewer now cut
      → ByRule (DeleteRule c key) free last ss fewer now cut
  unfolding next_change in_leaf no_way delete_change
  delete_by_rule doing e = on_landing (landing c n key) refl e
    where
      on_slot : (m link run : ℕ) → landing c n key ≡ landing_at m link run → (s : Option ℕ) → slot_of (node_at c m) key ≡ s
          → (delete_change key free last m (node_at c m) s).preparation ≡ prepared ss fewer now cut → ByRule (DeleteRule c key) free last ss fewer now cut
      on_slot m link run l (Some i) f z =
          let slot = slot_at (node_at c m) key i f in
          none_taken (key_cleared i (leads c n key m link run on l) (omega (arith, slot.within, slots_of_eleven (node_at c m)), slot.stands, slot.first)) z
      on_slot m link run l None f z = absurd (not_balanced z)

      on_landing : (l : Option Landing) → landing c n key ≡ l → (in_leaf c doing (delete_in key free last) l).preparation ≡ prepared ss fewer now cut
          → ByRule (DeleteRule c key) free last ss fewer now cut
      on_landing None f z = absurd (not_refused z)
      on_landing (Some l) f z = on_slot l.node l.link l.run f (slot_of (node_at c l.node) key) refl z

-- ---- "So a change is at most 73 stores."

pub insert_short : {c : List ℕ} {key value : ℕ} {given cut : List ℕ} {ss : List Store} → InsertRule c key value given cut ss → length ss ≤ 73
insert_short (in_slot i l a f) = omega arith
insert_short {c} {key} {value} (leaf_split {m} {link = link} a b d twelve l k s) =
    let n : length twelve ≤ 12 = omega (arith, ap length s, length_sort ((key, value) ∷ leaf_pairs (node_at c m)), leaf_few (node_at c m)) in
    let left : length (take 6 twelve) ≤ 11 = simp length-take (omega arith) in
    let right : length (drop 6 twelve) ≤ 11 = simp length-drop (omega arith) in
    let nodes = leaf_holding a (take 6 twelve) ∷ leaf_holding b (drop 6 twelve) ∷ new_node d (kind_under link) (key_at 6 twelve ∷ []) (a ∷ b ∷ []) ∷ [] in
    let few : AllFew nodes = (
      (omega (arith, length_pair_keys (take 6 twelve)), omega (arith, length_pair_values (take 6 twelve))),
      ((omega (arith, length_pair_keys (drop 6 twelve)), omega (arith, length_pair_values (drop 6 twelve))), ((omega arith, omega arith), tt)),
    ) in
    omega (arith, length-append (node_stores nodes) ((link, d) ∷ []), length_node_stores nodes few)

pub delete_short : {c : List ℕ} {key : ℕ} {given cut : List ℕ} {ss : List Store} → DeleteRule c key given cut ss → length ss ≤ 73
delete_short (key_cleared i l f) = omega arith
