-- A step keeps the invariant, feeds the book rightly, and gives the answer that is due.
use mathlib.Core.Path.{◌≡◌, refl, ap, sym, ◌∙◌}
use mathlib.Core.List.{List, [], ◌∷◌, ◌++◌}
use mathlib.Core.Bool.{Bool, true, false}
use mathlib.Core.Option.{Option as Maybe, none, some, none-ne-some}
use Prim.Native.Nat.{ℕ, suc, ◌+◌, ◌*◌, ◌≤◌, ◌<◌}
use native.Mathlib.Omega.{arith}
use lib.ListN.{length, set, get_or, length-append}
use Rattle.card.specs.Layout.{lowest_key, key_limit, depth_limit, place, node_at, slot_pairs, leaf_pairs}
use Rattle.card.specs.Stores.{Store, node_stores}
use Rattle.change_plan.specs.Change.{split_leaf}
use Rattle.change_plan.specs.Planning.{Preparation, take_numbers, without_all, last_of, giving, first, second, third, balanced, prepared}
use Rattle.change_plan.proofs.NumberLaws.{giving_some}
use Rattle.change_layout.specs.Mending.{next_repair}
use Rattle.change_layout.proofs.Mending.{repair_balanced}
use Rattle.theory_change.proofs.Line.{Line, Partition, size, room_in_bits, zero_taken, Apart}
use Rattle.theory_change.proofs.LeafSplit.{with_pair, split_nodes, split_change}
use Rattle.theory_change.proofs.Mended.{change_stores_lem, mended}
use Rattle.theory_change.proofs.Mending.{rewrite_at, giving_same}
use Rattle.theory_change.proofs.Numbers.{Given, numbers_given}
use Rattle.theory_change.proofs.Plays.{Openable, Changing, pending_changing, Storable}
use Rattle.theory_change.proofs.Repaired.{Mendable, Repaired, settled, violated}
use Rattle.theory_change.proofs.Rewritten.{Sound}
use Rattle.walk.specs.Descent.{slot_of, first_equal}
use Rattle.demands.proofs.Shapes.{first_shape, changes, after_shape, after_by_map}
use Rattle.theory_shapes.proofs.Bare.{bare, bare_table_violations}
use Rattle.theory_shapes.proofs.Whole.{settled_by, Heads, heads_done, heads_on}
use Rattle.theory_walk.proofs.Find.{slot_answer}
use Rattle.theory_walk.proofs.Landing.{LandedAt, landing_found}
use Rattle.theory_walk.proofs.Routing.{Leads}
use Rattle.theory_walk.proofs.Seek.{seek_balanced}
use Rattle.theory_walk.proofs.Way.{depth_plug}
use Rattle.laws.proofs.Cases.{order}
use Rattle.laws.specs.Sorting.{sort}
use Rattle.laws.specs.Totals.{total}
use Rattle.demands.proofs.Begin.{put_held, put_slot, put_full, remove_held, remove_absent, room_full, flag_slot, flag_full}
use Rattle.demands.specs.Way.{leaf_full}
use Rattle.state.specs.Answers.{step_reply}
use borrow.Author.Tests.{le-ltb, ne_eqb}
use Rattle.demands.proofs.FirstChanges.{slot_changing, slot_level, slot_enters, delete_changing, delete_level, delete_enters}
use Rattle.demands.proofs.FirstChanges.{slot_shaped, delete_shaped, split_shaped, split_changing, split_level, split_enters}
use Rattle.demands.proofs.FirstChanges.{split_count, First}
use Rattle.demands.proofs.Invariant.{told_of, taken_up, Toward, Table, Job, Entered, UpdateSteps, Stage, Inv, job_repair, job_insert}
use Rattle.demands.proofs.Invariant.{job_delete, no_update, updated, stage_idle, stage_put, stage_remove, stage_first, stage_between}
use Rattle.demands.proofs.Invariant.{stage_within}
use Rattle.card_family.proofs.FamilyLaws.{Totals}
use Rattle.demands.proofs.Kept.{first_storable, repair_stored, update_stored}
use Rattle.demands.specs.Book.{Update, Hand, Book, book, entered, fed_start, fed_step, feed, outcome, told, put, remove, an_insert, final, goes_on, empty, holding}
use Rattle.demands.proofs.BookLaws.{Changes, Same, IsFinal, final_told, dictionary_answer, enters_held, enters_gone}
use Rattle.demands.specs.Events.{World, reply_to, happens, step}
use Rattle.demands.specs.RationTable.{ration_table}
use Rattle.demands.proofs.Reopen.{table_depth_limited}
use Rattle.demands.proofs.Slots.{slot_holds, slots_full}
use Rattle.demands.proofs.Steps.{memory, Busy, job_busy, step_idle, step_stores, prepared_ready, prepared_first, step_repairs, step_puts, step_removes}
use Rattle.demands.proofs.Work.{settled_idle}
use Rattle.theory_check.proofs.Depth.{table_depth}
use Rattle.state.specs.Steps.{Step, step_refused, is_idle}
use Rattle.call_step.specs.Calls.{step_prepared, step_of}
use Rattle.state.specs.Memory.{Memory, idled, advanced}
use Rattle.call_change.specs.Updates.{landing, split_need, start_room}
use Rattle.state.specs.declared.Doing.{Doing}
use Rattle.state.specs.declared.Doing.TheVariants.{Idle, Inserting, Deleting}
use Rattle.state.specs.declared.Phase.TheVariants.{NotBegun, InHand, Decided}
use Rattle.state.proofs.Tasks.{in_hand_lem}
use Rattle.state.specs.Answer.{Answer}
use Rattle.state.specs.Answer.{Stored, Absent, Value, Refused}
use Rattle.theory_tree.proofs.Cut.{cut}
use Rattle.theory_tree.proofs.Lookup.{absent_counted}
use Rattle.theory_tree.specs.Pairs.{pairs, lookup, has_key}
use Rattle.theory_tree.proofs.Pairs.{lookup_none, depth}
use Rattle.theory_tree.proofs.Path.{depth_of, full_run, reserve, Violation}
use Rattle.theory_tree.proofs.Reading.{read_length, leaf_keys, leaf_pairs_lem}
use Rattle.theory_tree.proofs.Represent.{link_place}
use Rattle.theory_tree.specs.Represent.{Holds}
use Rattle.theory_tree.specs.Tree.{Tree, leaf}
use Rattle.theory_tree.proofs.Tree.{Context, plug}
use Rattle.theory_tree.specs.Violations.{few, table_violations}
use Rattle.std.specs.Prelude.{Option, Some, None}
use Rattle.walk.proofs.DescentLaws.{landing_at}

-- a table with a violation has its next change planned
pub mends : (greatest : ℕ) (c : List ℕ) (line : Line) (key : ℕ) (t : Tree) (free : List Bool) (last : ℕ) → Table greatest c line.nodes t → Partition line free t
    → (v : Violation t key) → table_violations t ≡ 1 → size t + (3 + reserve v.context v.part) ≤ line.limit
    → Repaired c line key t free last (depth_of v.context)
mends greatest c line key t free last b x v single room =
    mended c line key t free last b.sized.words (omega (arith, b.sized.most)) b.holds b.sound
    (table_depth_limited greatest b) x v single room

-- a balanced table needs none
pub rests : (greatest : ℕ) (c : List ℕ) (n key : ℕ) (t : Tree) (free : List Bool) (last : ℕ) → Table greatest c n t → table_violations t ≡ 0 → next_repair c n key free last ≡ balanced
rests greatest c n key t free last b z = repair_balanced c n free last key (seek_balanced c n key b.sized.words depth_limit t b.holds b.sound.widths z (table_depth_limited greatest b))

-- a store of the line's own: in its root word, or in a node that the other line has not
pub record OwnStore (line : Line) (c : List ℕ) (s : Step) : Type 0 where
  pub place : ℕ
  pub value : ℕ
  pub told : s.answer ≡ Stored place
  pub stored : s.card ≡ set c place value
  pub storable : Storable line c place

-- where a step leaves what was being done: it was idle; "Each step then either stores one word or gives the final answer and
-- makes the state idle."
pub data Moves (line : Line) (c : List ℕ) (m : Memory) (s : Step) : Type 0 where
  was_idle : m.doing ≡ Idle → Moves line c m s
  ends_now : IsFinal s.answer → s.card ≡ c → s.memory.doing ≡ Idle → Moves line c m s
  goes_further : OwnStore line c s → is_idle s.memory.doing ≡ false → Moves line c m s

-- a store leaves the work in hand
busy_after : {doing : Doing} (n : ℕ) (free : List Bool) (last depth : ℕ) (totals : List ℕ) (z : List Store) (cut : List ℕ) → Busy doing → (rest : List Store)
    → is_idle (advanced (memory n free last depth totals doing z cut) rest).doing ≡ false
unfolding advanced
busy_after {doing} n free last depth totals z cut b [] = settled_idle doing ∙ b.not_idle
busy_after n free last depth totals z cut b (s ∷ rest) = b.not_idle

-- the answer is the one due, or none: a store, or the refusal of an idle state
pub data Right : Answer → Answer → Type 0 where
  no_answer : {place : ℕ} {due : Answer} → Right (Stored place) due
  no_call : {r : ℕ} {due : Answer} → Right (Refused r) due
  final_answer : {due : Answer} → Right due due

pub right_final : {a due : Answer} → Right a due → IsFinal a → a ≡ due
right_final no_answer e = absurd e
right_final no_call e = absurd e
right_final final_answer e = refl

module _ (greatest : ℕ) (line : Line) (steps : ℕ) (c : List ℕ) (t : Tree) (b : Table greatest c line.nodes t) (o : Openable line.limit t) (apart : Apart line t) (l : List (ℕ × ℕ))
    (same : Same (pairs t) l) (goal : Tree) where
  -- what a step must leave
  abbrev Goal : Memory → Hand → Answer → Type 0
  Goal m h due =
      Toward greatest goal due line steps (record { card = (step_of greatest 1 c m).card; state = (step_of greatest 1 c m).memory })
      (fed_step (outcome (step_reply (step_of greatest 1 c m).answer)) l h) × Right (step_of greatest 1 c m).answer due × Moves line c m (step_of greatest 1 c m)

  stored_goal : (m m' : Memory) (place value : ℕ) (h : Hand) (due : Answer) → Storable line c place
      → step_of greatest 1 c m ≡ record { answer = Stored place; card = set c place value; memory = m' } → is_idle m'.doing ≡ false
      → Toward greatest goal due line steps (record { card = set c place value; state = m' }) (fed_step goes_on l h) → Goal m h due
  unfolding outcome step_reply
  stored_goal m m' place value h due s e busy i =
      rw e (i, no_answer, goes_further (record { place = place; value = value; told = refl; stored = refl; storable = s }) busy)

  final_goal : (m m' : Memory) (a : Answer) (h : Hand) (due : Answer)
      → step_of greatest 1 c m ≡ record { answer = a; card = c; memory = m' } → m'.doing ≡ Idle → IsFinal a
      → Toward greatest goal due line steps (record { card = c; state = m' }) (fed_step final l h) → Right a due → Goal m h due
  final_goal m m' a h due e idle f i r = rw (e, final_told a f) (i, r, ends_now f refl idle)

  module _ (totals : List ℕ) (counted : Totals totals (pairs t)) where
    -- the state idle again
    idle_inv : (due : Answer) (free : List Bool) (last depth : ℕ) (l' : List (ℕ × ℕ)) → Same (pairs t) l'
        → table_violations t ≡ 0 → size t + 3 ≤ line.limit → Partition line free t → bare t ≡ goal
        → Toward greatest goal due line steps (record { card = c; state = memory line.nodes free last depth totals Idle [] [] }) (book l' empty)
    idle_inv due free last depth l' s z r x eg = (
      record { tree = t; goal = goal; due = due; table = b; openable = o; same = s; apart = apart; counted = counted; stage = stage_idle z r x eg },
      refl,
      refl,
    )

    -- a repair that has nothing left to do gives its final answer
    ended : {doing : Doing} {key : ℕ} {due : Answer} {u : Maybe Update} {h : Hand} (free : List Bool) (last depth : ℕ)
        → Job Decided doing key due u → Entered u h → table_violations t ≡ 0 → size t + 3 ≤ line.limit → Partition line free t → bare t ≡ goal
        → Goal (memory line.nodes free last depth totals doing [] []) h due
    unfolding idled outcome step_reply fed_step
    ended {doing} {key} {due} {u} {h} free last depth j en z r x eg =
        final_goal (memory line.nodes free last depth totals doing [] []) (memory line.nodes free last depth totals Idle [] []) due h due
        (step_repairs greatest c line.nodes b.sized b.header free last depth totals j
        ∙ prepared_ready c (memory line.nodes free last depth totals doing [] []) doing due (next_repair c line.nodes key free last) (rests greatest c line.nodes key t free last b z)) refl
        (is_final j) (entered_inv en) final_answer
      where
        is_final : {doing : Doing} {key : ℕ} {due : Answer} {u : Maybe Update} → Job Decided doing key due u → IsFinal due
        is_final job_repair = tt
        is_final (job_insert p) = tt
        is_final (job_delete p) = tt

        entered_inv : {u : Maybe Update} {h : Hand} → Entered u h
            → Toward greatest goal due line steps (record { card = c; state = memory line.nodes free last depth totals Idle [] [] }) (fed_step final l h)
        entered_inv no_update = idle_inv due free last depth l same z r x eg
        entered_inv (updated {deciding = deciding} {count = count} e) = rw (le-ltb count deciding e) (idle_inv due free last depth l same z r x eg)

    -- an entered update, or opening's repair, leaves the pairs as they are
    entered_on : {u : Maybe Update} {h : Hand} → Entered u h → (h' : Hand) × (fed_step goes_on l h ≡ book l h') × Entered u h'
    unfolding fed_step
    entered_on no_update = (empty, refl, no_update)
    entered_on (updated {u} {deciding} {count} e) = (
      holding u deciding (suc count),
      rw (ne_eqb (suc count) deciding (λ q. omega (arith, q, e))),
      updated {deciding = deciding} {count = suc count} (omega arith),
    )

    -- a repair that goes on
    repaired : {doing : Doing} {key : ℕ} {due : Answer} {u : Maybe Update} {h : Hand} (free : List Bool) (last depth deep : ℕ) → Job Decided
        doing key due u → Entered u h → Mendable key line.limit t deep → Partition line free t → 73 * deep + 1 ≤ suc steps → Heads deep (bare t) goal
        → Goal (memory line.nodes free last depth totals doing [] []) h due
    repaired free last depth deep j en (settled z r) x few hd = ended free last depth j en z r x (heads_done hd (bare_table_violations t ∙ z))
    repaired {doing} {key} {due} {u} {h} free last depth deep j en (violated v w r) x few hd = apply (mends greatest c line key t free last b x v w r)
      where
        apply : Repaired c line key t free last (depth_of v.context) → Goal (memory line.nodes free last depth totals doing [] []) h due
        apply q = split q.stores refl
          where
            split : (s : List Store) → q.stores ≡ s → Goal (memory line.nodes free last depth totals doing [] []) h due
            split [] e = let z = ap length (sym e ∙ q.pending.is_rest) in absurd (omega (arith, simp length-append at z))
            split (s ∷ rest) e =
                let k : next_repair c line.nodes key free last ≡ prepared (s ∷ rest) q.free_then q.last_then q.cut = rw e at q.planned in
                let short : suc (length rest) ≤ 73 = rw e at q.short in
                let p = pending_changing b.holds b.sound o (rw e at q.pending) in
                let g = entered_on en in
                stored_goal (memory line.nodes free last depth totals doing [] []) _ s.0 s.1 h due (first_storable p.0.plays)
                (step_repairs greatest c line.nodes b.sized b.header free last depth totals j ∙ prepared_first c (memory line.nodes free last depth totals doing [] []) doing due
                (next_repair c line.nodes key free last) s rest q.free_then q.last_then q.cut k (first_storable p.0.plays).inside)
                (busy_after line.nodes q.free_then q.last_then depth totals [] q.cut (job_busy j) rest)
                (rw g.1 (repair_stored greatest q.last_then depth steps totals [] l b same counted apart j g.2 p.0 (record { totals = p.1 }) (omega (arith, p.2))
                (heads_on p.0.level (bare p.0.next) hd (bare_table_violations t ∙ w) p.2 p.3)))

    -- the first store of an update's first change
    begins : {doing : Doing} {key : ℕ} {due : Answer} {u : Update} (d : ℕ) (m : Memory) → Totals m.totals (pairs t)
        → (s : Store) (rest : List Store) (free : List Bool) (last : ℕ) (cut : List ℕ) → Job InHand doing key due (some u)
        → step_of greatest 1 c m ≡ record { answer = Stored s.0; card = set c s.0 s.1; memory = advanced (memory line.nodes free last m.depth m.totals doing [] cut) rest }
        → (p : Changing c line key t (s ∷ rest) free cut) → Changes u (pairs t) (pairs p.next) → suc (length rest) ≡ d
        → length rest + (73 * p.level + 1) ≤ steps → Heads p.level (bare p.next) goal → Goal m (holding u d 0) due
    begins {due = due} {u = u} d m k s rest free last cut j e p en count few hd =
        let q : 0 + suc (length rest) ≡ d = omega arith in
        stored_goal m _ s.0 s.1 (holding u d 0) due (first_storable p.plays) e (busy_after line.nodes free last m.depth m.totals [] cut (job_busy j) rest)
        (update_stored greatest d 0 last m.depth steps m.totals [] l b same k apart j p en q few hd)

    -- the leaf that a key leads to
    lands : (key : ℕ) → lowest_key ≤ key → key < key_limit → LandedAt c line.nodes key t
    lands key low high = landing_found c line.nodes key b.sized.words lowest_key key_limit t b.holds b.sound.range low high (omega arith) (table_depth_limited greatest b)

    landed : (key : ℕ) (g : LandedAt c line.nodes key t) → landing c line.nodes key ≡ landing_at g.number (link_place g.context) (full_run g.context)
    unfolding landing
    landed key g = g.landed

    -- the way to it is no longer than a balanced table is high, so that the steps are enough
    way_short : (key : ℕ) (g : LandedAt c line.nodes key t) → table_violations t ≡ 0 → UpdateSteps t (suc steps) → 73 + 73 * depth_of g.context ≤ steps
    way_short key g z few =
        let d = table_depth few.height t few.level b.sound.widths in
        let e : depth (plug g.context (leaf g.number g.keys g.values)) ≡ depth t = ap depth g.is_tree in
        omega (arith, depth_plug g.context (leaf g.number g.keys g.values), few.enough)

    way_limited : (key : ℕ) (g : LandedAt c line.nodes key t) → depth_of g.context ≤ depth_limit
    way_limited key g = omega (arith, ap depth g.is_tree, depth_plug g.context (leaf g.number g.keys g.values), table_depth_limited greatest b)

    -- the slot that the row of keys has
    row_slot : (key k : ℕ) (g : LandedAt c line.nodes key t) → first_equal g.keys k 0 ≡ slot_of (node_at c g.number) k
    unfolding slot_of
    row_slot key k g = ap (λ (q : List ℕ). first_equal q k 0) (sym (leaf_keys c g.number g.keys g.values g.on_card_lem))

    -- an update that has a change to make comes to what its first change does; one that has none, to nothing
    goal_put : (key value : ℕ) → lookup key (pairs t) ≡ none → after_shape (put key value) (bare t) ≡ goal → settled_by depth_limit (first_shape (put key value) (bare t)) ≡ goal
    goal_put key value e eg = sym (after_by_map (put key value) t ∙ ap (λ (f : Maybe ℕ). changes (put key value) f (bare t) (settled_by depth_limit (first_shape (put key value) (bare t)))) e) ∙ eg

    goal_held : (key value v : ℕ) → lookup key (pairs t) ≡ some v → after_shape (put key value) (bare t) ≡ goal → bare t ≡ goal
    goal_held key value v e eg = sym (after_by_map (put key value) t ∙ ap (λ (f : Maybe ℕ). changes (put key value) f (bare t) (settled_by depth_limit (first_shape (put key value) (bare t)))) e) ∙ eg

    goal_remove : (key v : ℕ) → lookup key (pairs t) ≡ some v → after_shape (remove key) (bare t) ≡ goal → settled_by depth_limit (first_shape (remove key) (bare t)) ≡ goal
    goal_remove key v e eg = sym (after_by_map (remove key) t ∙ ap (λ (f : Maybe ℕ). changes (remove key) f (bare t) (settled_by depth_limit (first_shape (remove key) (bare t)))) e) ∙ eg

    goal_absent : (key : ℕ) → lookup key (pairs t) ≡ none → after_shape (remove key) (bare t) ≡ goal → bare t ≡ goal
    goal_absent key e eg = sym (after_by_map (remove key) t ∙ ap (λ (f : Maybe ℕ). changes (remove key) f (bare t) (settled_by depth_limit (first_shape (remove key) (bare t)))) e) ∙ eg

    -- no step of an insert was counted: its final answer enters it
    entered_at_end : (key value : ℕ) (full : Bool) → fed_step final l (taken_up (an_insert key value goes_on full)) ≡ book (entered (put key value) l) empty
    unfolding feed fed_start fed_step
    entered_at_end key value true = refl
    entered_at_end key value false = refl

    -- "Insert, key held: answers the held value, no store."
    put_answers : (free : List Bool) (last depth key value i : ℕ) → table_violations t ≡ 0 → size t + 3 ≤ line.limit → Partition line free t
        → (g : LandedAt c line.nodes key t) → slot_of (node_at c g.number) key ≡ Some i → (full : Bool) → after_shape (put key value) (bare t) ≡ goal
        → Goal (memory line.nodes free last depth totals (Inserting key value NotBegun) [] []) (taken_up (an_insert key value goes_on full)) (dictionary_answer (lookup key (pairs t)))
    unfolding idled outcome step_reply fed_step slot_answer dictionary_answer
    put_answers free last depth key value i z r x g e full eg =
        let m = memory line.nodes free last depth totals (Inserting key value NotBegun) [] [] in
        let v = get_or (node_at c g.number) (12 + i) 0 in
        let found : lookup key (pairs t) ≡ some (get_or (node_at c g.number) (12 + i) 0) = sym g.answers ∙ ap (slot_answer (node_at c g.number)) e in
        final_goal (memory line.nodes free last depth totals (Inserting key value NotBegun) [] []) (memory line.nodes free last depth totals Idle [] []) (Value v)
        (taken_up (an_insert key value goes_on full)) (dictionary_answer (lookup key (pairs t)))
        (step_puts greatest c line.nodes b.sized b.header free last depth totals key value ∙ put_held greatest c line.nodes key g.number (link_place g.context)
        (full_run g.context) (landed key g) value free last m i e ∙ prepared_ready c m (Inserting key value InHand) (Value v) balanced refl)
        refl tt
        (rw (entered_at_end key value full) (idle_inv _ free last depth (entered (put key value) l)
        ((enters_held key value (pairs t) (held_positive key (get_or (node_at c g.number) (12 + i) 0) (pairs t) found)).to l same) z r x
        (goal_held key value (get_or (node_at c g.number) (12 + i) 0) found eg)))
        (rw found final_answer)
      where
        held_positive : (k v : ℕ) (ps : List (ℕ × ℕ)) → lookup k ps ≡ some v → 0 < total (has_key k) ps
        held_positive k v ps q = order 0 (total (has_key k) ps) (λ a. a) (λ a. absurd (none-ne-some v (sym (lookup_none k ps (omega arith)) ∙ q)))

    -- the first change is planned, and its first store made
    first_made : {doing : Doing} {key : ℕ} {due : Answer} {u : Update} (d : ℕ) (m : Memory) → Totals m.totals (pairs t) → (prep : Preparation) (s : Store)
        (rest : List Store) (free : List Bool) (last : ℕ) (cut : List ℕ) (deep : ℕ) → m.nodes ≡ line.nodes → Job InHand doing key due (some u)
        → step_of greatest 1 c m ≡ step_prepared c m doing due prep → prep ≡ prepared (s ∷ rest) free last cut
        → First c line key t (s ∷ rest) free cut u deep → suc (length rest) ≡ d → length rest + (73 * deep + 1) ≤ steps → deep ≤ depth_limit
        → settled_by depth_limit (first_shape u (bare t)) ≡ goal → Goal m (holding u d 0) due
    first_made {doing} {key} {due} {u} d m k prep s rest free last cut deep en j e e₁ p count few lim eg =
        let q = p.shallow in
        begins d m k s rest free last cut j
        (e ∙ prepared_first c m doing due prep s rest free last cut e₁ (first_storable p.changing.plays).inside ∙ rw en) p.changing p.enters count (omega arith)
        (record { repairs = depth_limit; enough = omega arith; reaches = ap (settled_by depth_limit) p.shaped ∙ eg })

    -- "With an empty slot: value first, then key, in the lowest empty slot."
    put_into_slot : (free : List Bool) (last depth key value i : ℕ) → table_violations t ≡ 0
        → size t + 3 ≤ line.limit → Partition line free t → lowest_key ≤ key → key < key_limit → UpdateSteps t (suc steps) → (g : LandedAt c line.nodes key t)
        → slot_of (node_at c g.number) key ≡ None → slot_of (node_at c g.number) 0 ≡ Some i → after_shape (put key value) (bare t) ≡ goal
        → Goal (memory line.nodes free last depth totals (Inserting key value NotBegun) [] []) (taken_up (told_of (put key value) c goes_on)) (dictionary_answer (lookup key (pairs t)))
    unfolding slot_answer dictionary_answer feed fed_start
    put_into_slot free last depth key value i z r x low high few g e e₀ eg =
        let m = memory line.nodes free last depth totals (Inserting key value NotBegun) [] [] in
        let none_there : lookup key (pairs t) ≡ none = sym g.answers ∙ ap (slot_answer (node_at c g.number)) e in
        let words = read_length c g.number 1 g.keys g.values g.on_card_lem.0 in
        let s = slot_holds (node_at c g.number) 0 i words e₀ in
        let empty_slot : get_or g.keys i 0 ≡ 0 = ap (λ (q : List ℕ). get_or q i 0) (sym (leaf_keys c g.number g.keys g.values g.on_card_lem)) ∙ s.1 in
        let flag = flag_slot greatest c line.nodes key g.number (link_place g.context) (full_run g.context) (landed key g) b.sized i e₀ in
        let none_held = absent_counted key (pairs t) none_there in
        let is = g.is_tree in
        let way = way_short key g z few in
        let p : First c line key (plug g.context (leaf g.number g.keys g.values))
        ((place g.number (12 + i), value) ∷ (place g.number (1 + i), key) ∷ []) free [] (put key value) (depth_of g.context) =
        at_slot g.context g.number g.keys g.values i (rw is b.holds)
        (rw is b.sound) (rw is z) (rw is x) (rw is r) g.leads low high value s.0 empty_slot (rw is none_held) (row_slot key 0 g ∙ e₀) in
        rw (none_there, flag)
        (first_made _ m counted _ (place g.number (12 + i), value) ((place g.number (1 + i), key) ∷ []) free last [] (depth_of g.context) refl (job_insert in_hand_lem)
        (step_puts greatest c line.nodes b.sized b.header free last depth totals key value
        ∙ put_slot greatest c line.nodes key g.number (link_place g.context) (full_run g.context) (landed key g) value free last m i e e₀) refl
        (rw is at p) refl (omega arith) (way_limited key g) (goal_put key value none_there eg))
      where
        at_slot : (C : Context) (m : ℕ) (ks vs : List ℕ) (i : ℕ) → Holds c (plug C (leaf m ks vs)) → Sound (plug C (leaf m ks vs))
            → table_violations (plug C (leaf m ks vs)) ≡ 0
            → Partition line free (plug C (leaf m ks vs)) → size (plug C (leaf m ks vs)) + 3 ≤ line.limit → Leads key C → lowest_key ≤ key → key < key_limit
            → (v : ℕ) → i < 11 → get_or ks i 0 ≡ 0 → total (has_key key) (pairs (plug C (leaf m ks vs))) ≡ 0 → first_equal ks 0 0 ≡ Some i
            → First c line key (plug C (leaf m ks vs)) ((place m (12 + i), v) ∷ (place m (1 + i), key) ∷ []) free [] (put key v) (depth_of C)
        at_slot C m ks vs i h s z x r w lo hi v small e₁ a e₂ =
            record {
              changing = slot_changing c line key free C m ks vs h s z x r w lo hi i v small e₁ a;
              enters = slot_enters c line key free C m ks vs h s z x r w lo hi i v small e₁ a;
              shallow = slot_level c line key free C m ks vs h s z x r w lo hi i v small e₁ a;
              shaped = slot_shaped c line key free C m ks vs h s z x r w lo hi i v small e₁ a e₂;
            }

    -- "Delete: key word to 0, answers the value"
    remove_from_slot : (free : List Bool) (last depth key i : ℕ) → table_violations t ≡ 0
        → size t + 3 ≤ line.limit → Partition line free t → lowest_key ≤ key → key < key_limit → UpdateSteps t (suc steps) → (g : LandedAt c line.nodes key t)
        → slot_of (node_at c g.number) key ≡ Some i → after_shape (remove key) (bare t) ≡ goal
        → Goal (memory line.nodes free last depth totals (Deleting key NotBegun 0) [] []) (taken_up (told_of (remove key) c goes_on)) (dictionary_answer (lookup key (pairs t)))
    unfolding slot_answer dictionary_answer feed fed_start
    remove_from_slot free last depth key i z r x low high few g e eg =
        let m = memory line.nodes free last depth totals (Deleting key NotBegun 0) [] [] in
        let found : lookup key (pairs t) ≡ some (get_or (node_at c g.number) (12 + i) 0) = sym g.answers ∙ ap (slot_answer (node_at c g.number)) e in
        let words = read_length c g.number 1 g.keys g.values g.on_card_lem.0 in
        let s = slot_holds (node_at c g.number) key i words e in
        let held_slot : get_or g.keys i 0 ≡ key = ap (λ (q : List ℕ). get_or q i 0) (sym (leaf_keys c g.number g.keys g.values g.on_card_lem)) ∙ s.1 in
        let is = g.is_tree in
        let way = way_short key g z few in
        let p : First c line key (plug g.context (leaf g.number g.keys g.values)) ((place g.number (1 + i), 0) ∷ []) free [] (remove key) (depth_of g.context) =
        at_slot g.context g.number g.keys g.values (rw is b.holds) (rw is b.sound) (rw is z) (rw is x) (rw is r) g.leads low high s.0 held_slot (row_slot key key g ∙ e) in
        rw found
        (first_made _ m counted _ (place g.number (1 + i), 0) [] free last [] (depth_of g.context) refl (job_delete in_hand_lem)
        (step_removes greatest c line.nodes b.sized b.header free last depth totals key
        ∙ remove_held greatest c line.nodes key g.number (link_place g.context) (full_run g.context) (landed key g) 0 free last m i e) refl
        (rw is at p) refl (omega arith) (way_limited key g) (goal_remove key (get_or (node_at c g.number) (12 + i) 0) found eg))
      where
        at_slot : (C : Context) (m : ℕ) (ks vs : List ℕ) → Holds c (plug C (leaf m ks vs)) → Sound (plug C (leaf m ks vs))
            → table_violations (plug C (leaf m ks vs)) ≡ 0
            → Partition line free (plug C (leaf m ks vs)) → size (plug C (leaf m ks vs)) + 3 ≤ line.limit → Leads key C → lowest_key ≤ key → key < key_limit
            → i < 11 → get_or ks i 0 ≡ key → first_equal ks key 0 ≡ Some i → First c line key (plug C (leaf m ks vs)) ((place m (1 + i), 0) ∷ []) free [] (remove key) (depth_of C)
        at_slot C m ks vs h s z x r w lo hi small e₁ e₂ =
            record {
              changing = delete_changing c line key free C m ks vs h s z x r w lo hi i small e₁;
              enters = delete_enters c line key free C m ks vs h s z x r w lo hi i small e₁;
              shallow = delete_level c line key free C m ks vs h s z x r w lo hi i small e₁;
              shaped = delete_shaped c line key free C m ks vs h s z x r w lo hi i small e₁ e₂;
            }

    -- "absent and no store if not held"
    remove_answers : (free : List Bool) (last depth key : ℕ) → table_violations t ≡ 0 → size t + 3 ≤ line.limit → Partition line free t
        → (g : LandedAt c line.nodes key t) → slot_of (node_at c g.number) key ≡ None → after_shape (remove key) (bare t) ≡ goal
        → Goal (memory line.nodes free last depth totals (Deleting key NotBegun 0) [] []) (taken_up (told_of (remove key) c goes_on)) (dictionary_answer (lookup key (pairs t)))
    unfolding idled outcome step_reply fed_step slot_answer dictionary_answer feed fed_start
    remove_answers free last depth key z r x g e eg =
        let m = memory line.nodes free last depth totals (Deleting key NotBegun 0) [] [] in
        let none_there : lookup key (pairs t) ≡ none = sym g.answers ∙ ap (slot_answer (node_at c g.number)) e in
        final_goal (memory line.nodes free last depth totals (Deleting key NotBegun 0) [] []) (memory line.nodes free last depth totals Idle [] []) Absent
        (taken_up (told_of (remove key) c goes_on)) (dictionary_answer (lookup key (pairs t)))
        (step_removes greatest c line.nodes b.sized b.header free last depth totals key ∙ remove_absent greatest c line.nodes key g.number (link_place g.context)
        (full_run g.context) (landed key g) 0 free last m e ∙ prepared_ready c m (Deleting key InHand 0) Absent balanced refl)
        refl tt
        (idle_inv _ free last depth (entered (remove key) l) ((enters_gone key (pairs t) (absent_counted key (pairs t) none_there)).to l same) z r x (goal_absent key none_there eg))
        (rw none_there final_answer)

    -- "Leaf full: the 12 pairs go 6 and 6 into two leaves under a tagged node"
    put_by_split : (free : List Bool) (last depth key value : ℕ) → table_violations t ≡ 0 → size t + 3 ≤ line.limit → Partition line free t → lowest_key ≤ key
        → key < key_limit → UpdateSteps t (suc steps) → (room : ℕ) → start_room c key room (landing c line.nodes key) ≡ true → size t + room ≤ line.limit → (g : LandedAt c line.nodes key t)
        → slot_of (node_at c g.number) key ≡ None → slot_of (node_at c g.number) 0 ≡ None → after_shape (put key value) (bare t) ≡ goal
        → Goal (memory line.nodes free last depth totals (Inserting key value NotBegun) [] []) (taken_up (told_of (put key value) c goes_on)) (dictionary_answer (lookup key (pairs t)))
    unfolding slot_answer dictionary_answer feed fed_start
    put_by_split free last depth key value z r x low high few room enough below g e e₀ eg =
        let none_there : lookup key (pairs t) ≡ none = sym g.answers ∙ ap (slot_answer (node_at c g.number)) e in
        let flag = flag_full greatest c line.nodes key g.number (link_place g.context) (full_run g.context) (landed key g) b.sized e₀ in
        let eleven = slots_full (node_at c g.number) g.keys g.values (leaf_keys c g.number g.keys g.values g.on_card_lem) g.on_card_lem.1 g.on_card_lem.2 e₀ in
        let spare = room_full greatest c line.nodes key g.number (link_place g.context) (full_run g.context) (landed key g) room e e₀ enough in
        let none_held = absent_counted key (pairs t) none_there in
        let is = g.is_tree in
        rw (none_there, flag)
        (go (numbers_given 3 free last (zero_taken line free t x) (omega (arith, room_in_bits line free t x (omega (arith, b.sized.most)))))
        (way_short key g z few) eleven (omega (arith, spare)) none_held (goal_put key value none_there eg))
      where
        stores : List ℕ → List Store
        stores ms = node_stores (split_nodes g.context (first ms) (second ms) (third ms) (with_pair key value g.keys g.values)) ++ (link_place g.context, third ms) ∷ []

        planned_as : (ms : List ℕ) → take_numbers 3 free last ≡ some ms
            → giving 3 free last (λ ms. split_leaf g.number (link_place g.context) (sort ((key, value) ∷ leaf_pairs (node_at c g.number)))
            (first ms) (second ms) (third ms)) ≡ prepared (stores ms) (without_all ms free) (last_of last ms) (g.number ∷ [])
        planned_as ms e₁ =
            giving_same 3 free last _ (λ ms. rewrite_at g.context (split_nodes g.context (first ms) (second ms) (third ms) (with_pair key value g.keys g.values)) (third ms) (g.number ∷ []))
            (λ ms. ap (λ (q : List (ℕ × ℕ)). split_leaf g.number (link_place g.context) (sort ((key, value) ∷ q)) (first ms) (second ms) (third ms))
            (leaf_pairs_lem c g.number g.keys g.values g.on_card_lem)
            ∙ split_change g.context g.number (with_pair key value g.keys g.values) (first ms) (second ms) (third ms))
            ∙ giving_some 3 free last _ ms e₁
            ∙ ap (λ (q : List Store). prepared q (without_all ms free) (last_of last ms) (g.number ∷ [])) (change_stores_lem g.context _ (third ms) (g.number ∷ []))

        go : ((ms : List ℕ) × (take_numbers 3 free last ≡ some ms) × (length ms ≡ 3) × Given free ms) → 73 + 73 * depth_of g.context ≤ steps
            → length (slot_pairs g.keys g.values) ≡ 11 → size t + split_need (full_run g.context) ≤ line.limit
            → total (has_key key) (pairs t) ≡ 0 → settled_by depth_limit (first_shape (put key value) (bare t)) ≡ goal
            → Goal (memory line.nodes free last depth totals (Inserting key value NotBegun) [] []) (taken_up (an_insert key value goes_on true)) Absent
        go (ms, e₁, three, gv) way eleven spare none_held reach = split (stores ms) refl
          where
            p : First c line key (plug g.context (leaf g.number g.keys g.values)) (stores ms) (without_all ms free) (g.number ∷ []) (put key value) (depth_of g.context)
            p =
                at g.context g.number g.keys g.values (rw g.is_tree b.holds) (rw g.is_tree b.sound)
                (rw g.is_tree z) (rw g.is_tree x) (rw g.is_tree r) g.leads eleven (rw g.is_tree none_held) (rw g.is_tree spare) (row_slot key 0 g ∙ e₀)
              where
                at : (C : Context) (m : ℕ) (ks vs : List ℕ) → Holds c (plug C (leaf m ks vs)) → Sound (plug C (leaf m ks vs))
                    → table_violations (plug C (leaf m ks vs)) ≡ 0
                    → Partition line free (plug C (leaf m ks vs)) → size (plug C (leaf m ks vs)) + 3 ≤ line.limit → Leads key C → length (slot_pairs ks vs) ≡ 11
                    → total (has_key key) (pairs (plug C (leaf m ks vs))) ≡ 0 → size (plug C (leaf m ks vs)) + split_need (full_run C) ≤ line.limit → first_equal ks 0 0 ≡ None
                    → First c line key (plug C (leaf m ks vs))
                    (node_stores (split_nodes C (first ms) (second ms) (third ms) (with_pair key value ks vs)) ++ (link_place C, third ms) ∷ [])
                    (without_all ms free) (m ∷ []) (put key value) (depth_of C)
                at C m ks vs h s z x r w full_leaf a sp e₂ =
                    record {
                      changing = split_changing c line key free C m ks vs h s z x r w low high value ms three gv b.sized.words (omega (arith, b.sized.most)) full_leaf a sp;
                      enters = split_enters c line key free C m ks vs h s z x r w low high value ms three gv b.sized.words (omega (arith, b.sized.most)) full_leaf a sp;
                      shallow = split_level c line key free C m ks vs h s z x r w low high value ms three gv b.sized.words (omega (arith, b.sized.most)) full_leaf a sp;
                      shaped = split_shaped c line key free C m ks vs h s z x r w low high value ms three gv b.sized.words (omega (arith, b.sized.most)) full_leaf a sp e₂;
                    }

            count : length (stores ms) ≡ 73
            count =
                split_count c line key free g.context g.number g.keys g.values (rw g.is_tree b.holds)
                (rw g.is_tree b.sound) (rw g.is_tree z) (rw g.is_tree x) (rw g.is_tree r) g.leads low high value ms three gv b.sized.words
                (omega (arith, b.sized.most)) eleven (rw g.is_tree none_held) (rw g.is_tree spare)

            split : (q : List Store) → stores ms ≡ q → Goal (memory line.nodes free last depth totals (Inserting key value NotBegun) [] []) (taken_up (an_insert key value goes_on true)) Absent
            split [] q = absurd (omega (arith, count, ap length q))
            split (s ∷ rest) q =
                let l₁ : suc (length rest) ≡ 73 = sym (ap length q) ∙ count in
                let p₁ : First c line key t (s ∷ rest) (without_all ms free) (g.number ∷ []) (put key value) (depth_of g.context) = rw (g.is_tree, q) at p in
                first_made _ (memory line.nodes free last depth totals (Inserting key value NotBegun) [] []) counted _ s rest
                (without_all ms free) (last_of last ms) (g.number ∷ []) (depth_of g.context) refl (job_insert in_hand_lem)
                (step_puts greatest c line.nodes b.sized b.header free last depth totals key value
                ∙ put_full greatest c line.nodes key g.number (link_place g.context) (full_run g.context) (landed key g) value free last
                (memory line.nodes free last depth totals (Inserting key value NotBegun) [] []) e e₀)
                (planned_as ms e₁ ∙ ap (λ (q : List Store). prepared q (without_all ms free) (last_of last ms) (g.number ∷ [])) q) p₁ l₁ (omega arith) (way_limited key g) reach

    -- by what its leaf holds
    put_begins : (free : List Bool) (last depth key value : ℕ) → table_violations t ≡ 0 → size t + 3 ≤ line.limit → Partition line free t → lowest_key ≤ key → key
        < key_limit → UpdateSteps t (suc steps) → (room : ℕ) → start_room c key room (landing c line.nodes key) ≡ true → size t + room ≤ line.limit → after_shape (put key value) (bare t) ≡ goal
        → Goal (memory line.nodes free last depth totals (Inserting key value NotBegun) [] []) (taken_up (told_of (put key value) c goes_on)) (dictionary_answer (lookup key (pairs t)))
    put_begins free last depth key value z r x low high few room enough below eg = go (lands key low high)
      where
        go : (g : LandedAt c line.nodes key t) → Goal (memory line.nodes free last depth totals (Inserting key value NotBegun) [] [])
            (taken_up (told_of (put key value) c goes_on)) (dictionary_answer (lookup key (pairs t)))
        go g = at (slot_of (node_at c g.number) key) refl
          where
            empty_at : (s : Option ℕ) → slot_of (node_at c g.number) 0 ≡ s → slot_of (node_at c g.number) key ≡ None
                → Goal (memory line.nodes free last depth totals (Inserting key value NotBegun) [] [])
                (taken_up (told_of (put key value) c goes_on)) (dictionary_answer (lookup key (pairs t)))
            empty_at (Some i) e₀ e = put_into_slot free last depth key value i z r x low high few g e e₀ eg
            empty_at None e₀ e = put_by_split free last depth key value z r x low high few room enough below g e e₀ eg

            at : (s : Option ℕ) → slot_of (node_at c g.number) key ≡ s → Goal (memory line.nodes free last depth totals (Inserting key value NotBegun) [] [])
                (taken_up (told_of (put key value) c goes_on)) (dictionary_answer (lookup key (pairs t)))
            at (Some i) e = put_answers free last depth key value i z r x g e (leaf_full c key) eg
            at None e = empty_at (slot_of (node_at c g.number) 0) refl e

    remove_begins : (free : List Bool) (last depth key : ℕ) → table_violations t ≡ 0 → size t + 3 ≤ line.limit → Partition line free t
        → lowest_key ≤ key → key < key_limit → UpdateSteps t (suc steps) → after_shape (remove key) (bare t) ≡ goal
        → Goal (memory line.nodes free last depth totals (Deleting key NotBegun 0) [] []) (taken_up (told_of (remove key) c goes_on)) (dictionary_answer (lookup key (pairs t)))
    remove_begins free last depth key z r x low high few eg = go (lands key low high)
      where
        go : (g : LandedAt c line.nodes key t)
            → Goal (memory line.nodes free last depth totals (Deleting key NotBegun 0) [] []) (taken_up (told_of (remove key) c goes_on)) (dictionary_answer (lookup key (pairs t)))
        go g = at (slot_of (node_at c g.number) key) refl
          where
            at : (s : Option ℕ) → slot_of (node_at c g.number) key ≡ s → Goal (memory line.nodes free last depth totals (Deleting key NotBegun 0) [] [])
                (taken_up (told_of (remove key) c goes_on)) (dictionary_answer (lookup key (pairs t)))
            at (Some i) e = remove_from_slot free last depth key i z r x low high few g e eg
            at None e = remove_answers free last depth key z r x g e eg

  -- a step at any stage
  pub stage_steps : (m : Memory) (h : Hand) (due : Answer) → Totals m.totals (pairs t) → Stage c line t goal (suc steps) m h due → Goal m h due
  unfolding step_refused outcome step_reply fed_step
  stage_steps m h due k (stage_idle {free} {last} {depth} {totals = totals} z r x eg) =
      rw (step_idle greatest c line.nodes b.sized b.header free last depth totals) (idle_inv totals k due free last depth l same z r x eg, no_call, was_idle refl)
  stage_steps m h due k (stage_put {free} {last} {depth} {key} {value} {totals} room z r x low high enough below few eg) =
      put_begins totals k free last depth key value z r x low high few room enough below eg
  stage_steps m h due k (stage_remove {free} {last} {depth} {key} {totals} z r x low high few eg) = remove_begins totals k free last depth key z r x low high few eg
  stage_steps m h due k (stage_first {free} {last} {depth} {key} {doing} {u = u} {deciding = deciding} {count = i} {cut = cut} {s = s} {rest = rest} {totals = totals} j p en count few hd) =
      stored_goal (memory line.nodes free last depth totals doing (s ∷ rest) cut) _ s.0 s.1 (holding u deciding i) due (first_storable p.plays)
      (step_stores greatest c line.nodes b.sized b.header free last depth totals doing (job_busy j) cut s rest (first_storable p.plays).inside)
      (busy_after line.nodes free last depth totals (s ∷ rest) cut (job_busy j) rest) (update_stored greatest
      deciding i last depth steps totals (s ∷ rest) l b same k apart j p en count (omega arith) hd)
  stage_steps m h due k (stage_between {free} {last} {depth} {totals = totals} j en deep r x few hd) = repaired totals k free last depth deep j en r x few hd
  stage_steps m h due k (stage_within {free} {last} {depth} {key} {doing} {cut = cut} {s = s} {rest = rest} {totals = totals} j en p e few hd) =
      let g = entered_on totals k en in
      stored_goal (memory line.nodes free last depth totals doing (s ∷ rest) cut) _ s.0 s.1 h due (first_storable p.plays)
      (step_stores greatest c line.nodes b.sized b.header free last depth totals doing (job_busy j) cut s rest (first_storable p.plays).inside)
      (busy_after line.nodes free last depth totals (s ∷ rest) cut (job_busy j) rest)
      (rw g.1 (repair_stored greatest last depth steps totals (s ∷ rest) l b same k apart j g.2 p e (omega arith) hd))

-- THE STEP: the invariant is kept, and an answer given is the one due
pub kept_step : (greatest : ℕ) (line : Line) (steps : ℕ) (w : World (ration_table greatest)) (b : Book) (i : Inv greatest line (suc steps) w b)
    → Toward greatest i.goal i.due line steps (happens (ration_table greatest) step w) (feed (told (ration_table greatest) step w) b)
    × Right (step_of greatest 1 w.card w.state).answer i.due × Moves line w.card w.state (step_of greatest 1 w.card w.state)
unfolding happens feed told reply_to
kept_step greatest line steps w b i =
    stage_steps greatest line steps w.card i.tree i.table
    i.openable i.apart b.held i.same i.goal w.state b.in_hand i.due i.counted i.stage
