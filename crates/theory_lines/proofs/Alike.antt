-- Whole calls: each update runs to its end before the next, without cuts. What it answers or refuses, and the tree that it leaves, up
-- to node numbers, depend on N and on the tree before it up to node numbers, and on nothing else.
use mathlib.Core.Path.{◌≡◌, refl, ap, ap₂, sym, subst, ◌∙◌}
use mathlib.Core.List.{List, [], ◌∷◌}
use mathlib.Core.Bool.{Bool, true, false, not}
use mathlib.Core.Option.{Option as Maybe, none, some}
use mathlib.Core.Logic.{◌⊎◌, inl, inr}
use Prim.Native.Nat.{ℕ, suc, ◌+◌, ◌≤◌, ◌<◌}
use native.Mathlib.Omega.{arith}
use lib.Dec.{ltb}
use borrow.Author.Tests.{lt-ltb, le-ltb}
use Rattle.card.specs.Lines.{seen}
use Rattle.call_start.proofs.StartLaws.{room_seen}
use Rattle.theory_change.proofs.Line.{Line, Partition, only, size, count_only}
use Rattle.card.specs.Layout.{lowest_key, key_limit, node_at}
use Rattle.walk.specs.Descent.{slot_of, first_equal}
use Rattle.theory_walk.proofs.Find.{slot_answer}
use Rattle.theory_walk.proofs.Landing.{LandedAt, landing_found}
use Rattle.card_free.specs.NodeSet.{count_true}
use Rattle.laws.specs.Cases.{pick}
use Rattle.laws.proofs.Cases.{order, bool_cases, impossible}
use Rattle.demands.proofs.BookLaws.{IsStored, IsFinal, dictionary_answer}
use Rattle.demands.proofs.FirstChanges.{leads_reach}
use Rattle.demands.proofs.Invariant.{Inv}
use Rattle.demands.specs.Book.{Update, Book, put, remove}
use Rattle.demands.specs.Events.{Event, World, happens, insert, delete, step}
use Rattle.demands.specs.RationTable.{ration_table}
use Rattle.demands.proofs.PowerLoss.{loosen, loosen_goal, loosen_due, after_step, idle_not_busy}
use Rattle.demands.proofs.Reopen.{table_depth_limited}
use Rattle.demands.proofs.RoomLaws.{room_at}
use Rattle.demands.proofs.Shapes.{key_of, after_shape}
use Rattle.demands.proofs.Starting.{idle_or_busy, same_lookup, nodes_same, room_decides, kept_insert, kept_delete}
use Rattle.demands.proofs.Stepping.{right_final, Moves, kept_step, was_idle, ends_now, goes_further}
use Rattle.demands.proofs.Steps.{memory}
use Rattle.theory_shapes.proofs.Bare.{bare, bare_pairs, bare_size}
use Rattle.theory_shapes.proofs.Need.{leaf_need, need_of, need_leaf}
use Rattle.call_start.specs.Starts.{insert_of, delete_of, start_accepted, start_depth, start_refused, room_of}
use Rattle.call_start.proofs.StartLaws.{started_no_refusal}
use Rattle.state.specs.Steps.{Handed, is_idle}
use Rattle.state.specs.Answer.{Answer}
use Rattle.state.specs.Begun.{Begun}
use Rattle.state.specs.Begun.{Started, Refused as BegunRefused}
use Rattle.state.specs.declared.Doing.TheVariants.{Idle, Inserting, Deleting}
use Rattle.state.specs.declared.Phase.TheVariants.{NotBegun}
use Rattle.call_step.specs.Calls.{step_of}
use Rattle.theory_tree.specs.Pairs.{pairs, lookup}
use Rattle.theory_tree.proofs.Path.{full_run}
use Rattle.theory_tree.proofs.Reading.{leaf_keys}
use Rattle.theory_tree.proofs.Represent.{link_place}
use Rattle.theory_tree.specs.Tree.{Tree, node_total}
use Rattle.theory_tree.specs.Violations.{table_violations}
use Rattle.call_change.specs.Updates.{landing, insert_reason, reason_in, empty_reason, split_need, room_for, start_room}
use Rattle.std.specs.Prelude.{Option, Some, None}
use Rattle.walk.proofs.DescentLaws.{landing_at}

-- what a whole call comes to
pub data Outcome : Type 0 where
  refused : ℕ → Outcome
  answered : Answer → Outcome

abbrev pub starts : (greatest : ℕ) → Update → World (ration_table greatest) → Begun
starts greatest (put key value) w = (insert_of greatest 1 w.card w.state key value).begun
starts greatest (remove key) w = (delete_of greatest 1 w.card w.state key).begun

abbrev pub event : Update → Event
event (put key value) = insert key value
event (remove key) = delete key

-- steps that store, and then the one that gives the final answer
pub data Ends (greatest : ℕ) : World (ration_table greatest) → World (ration_table greatest) → Answer → Type 0 where
  ends_here : {w : World (ration_table greatest)} {a : Answer} → (step_of greatest 1 w.card w.state).answer ≡ a → IsFinal a → Ends greatest w (happens (ration_table greatest) step w) a
  stores_first : {w v : World (ration_table greatest)} {a : Answer} → IsStored (step_of greatest 1 w.card w.state).answer
      → Ends greatest (happens (ration_table greatest) step w) v a → Ends greatest w v a

-- a whole call, and a list of them: "each call .. runs to its end before the next, without cuts"
pub data Whole (greatest : ℕ) (u : Update) : World (ration_table greatest) → World (ration_table greatest) → Outcome → Type 0 where
  not_begun : {w : World (ration_table greatest)} (r : ℕ) → starts greatest u w ≡ BegunRefused r → Whole greatest u w w (refused r)
  worked : {w v : World (ration_table greatest)} {a : Answer} → starts greatest u w ≡ Started → Ends greatest (happens (ration_table greatest) (event u) w) v a → Whole greatest u w v (answered a)

pub data Runs (greatest : ℕ) : List Update → World (ration_table greatest) → World (ration_table greatest) → List Outcome → Type 0 where
  no_more : {w : World (ration_table greatest)} → Runs greatest [] w w []
  one_more : {u : Update} {us : List Update} {w v x : World (ration_table greatest)} {o : Outcome} {os : List Outcome}
      → Whole greatest u w v o → Runs greatest us v x os → Runs greatest (u ∷ us) w x (o ∷ os)

-- ---- the function: what is refused, answered and left, by the tree without numbers

abbrev pub is_absent : Maybe ℕ → Bool
is_absent none = true
is_absent (some v) = false

abbrev pub both : Bool → Bool → Bool
both true b = b
both false b = false

unfoldable pub refuses : ℕ → Update → Tree → Bool
refuses n (put key value) t = both (is_absent (lookup key (pairs t))) (ltb n (node_total (λ m. 1) t + need_of key 0 t))
refuses n (remove key) t = false

unfoldable pub outcome : ℕ → Update → Tree → Outcome
outcome n u t = pick (refuses n u t) (refused 8) (answered (dictionary_answer (lookup (key_of u) (pairs t))))

unfoldable pub leaves : ℕ → Update → Tree → Tree
leaves n u t = pick (refuses n u t) t (after_shape u t)

-- ---- an idle table of N nodes whose tree, without numbers, is t

pub record Resting (greatest : ℕ) (line : Line) (w : World (ration_table greatest)) (t : Tree) : Type 0 where
  pub steps : ℕ
  pub book : Book
  pub inv : Inv greatest line steps w book
  pub idle : w.state.doing ≡ Idle
  pub goal : inv.goal ≡ t

after_idle : (greatest : ℕ) (w : World (ration_table greatest)) → (step_of greatest 1 w.card w.state).memory.doing ≡ Idle → (happens (ration_table greatest) step w).state.doing ≡ Idle
unfolding happens
after_idle greatest w e = e

-- the work in hand ends with the answer due, and at its goal
pub ends_at : (greatest : ℕ) {w v : World (ration_table greatest)} {a : Answer} → Ends greatest w v a → (line : Line) (steps : ℕ) (b : Book) (i : Inv greatest line steps w b) (goal : Tree)
    → i.goal ≡ goal → is_idle w.state.doing ≡ false → (a ≡ i.due) × Resting greatest line v goal
ends_at greatest {w} {v} {a} (ends_here e f) line steps b i goal eg busy =
    let q = kept_step greatest line steps w b (loosen greatest line steps (suc steps) w b (omega arith) i) in
    let f' : IsFinal (step_of greatest 1 w.card w.state).answer = subst IsFinal (sym e) f in (
      sym e ∙ right_final q.1 f' ∙ loosen_due greatest line steps (suc steps) w b (omega arith) i,
      record { steps = steps; book = _; inv = q.0.0; idle = after_idle greatest w (at q.2 f'); goal = q.0.1 ∙ loosen_goal greatest line steps (suc steps) w b (omega arith) i ∙ eg },
    )
  where
    at : Moves line w.card w.state (step_of greatest 1 w.card w.state)
        → IsFinal (step_of greatest 1 w.card w.state).answer → (step_of greatest 1 w.card w.state).memory.doing ≡ Idle
    at (was_idle d) g = absurd (idle_not_busy w.state.doing d busy)
    at (ends_now d same idle) g = idle
    at (goes_further s d) g = absurd (subst IsFinal s.told g)
ends_at greatest {w} {v} {a} (stores_first e rest) line steps b i goal eg busy =
    let q = kept_step greatest line steps w b (loosen greatest line steps (suc steps) w b (omega arith) i) in
    let r = ends_at greatest rest line steps _ q.0.0 goal (q.0.1 ∙ loosen_goal greatest line steps (suc steps) w b (omega arith) i ∙ eg) (at q.2) in
    (r.0 ∙ q.0.2 ∙ loosen_due greatest line steps (suc steps) w b (omega arith) i, r.1)
  where
    at : Moves line w.card w.state (step_of greatest 1 w.card w.state) → is_idle (happens (ration_table greatest) step w).state.doing ≡ false
    at (was_idle d) = absurd (idle_not_busy w.state.doing d busy)
    at (ends_now d same idle) = absurd (subst IsFinal e.1 d)
    at (goes_further s d) = after_step greatest w d

-- ---- the start, by the room

-- of a line's table, with as many free nodes as its limit leaves
module _ (greatest : ℕ) (line : Line) (steps : ℕ) (w : World (ration_table greatest)) (b : Book) (i : Inv greatest line steps w b) (room : ℕ)
    (exact : room + node_total (λ m. 1) (bare i.tree) ≡ line.limit) where
  abbrev shape : Tree
  shape = bare i.tree

  landed : (key : ℕ) (g : LandedAt w.card line.nodes key i.tree) → landing w.card w.state.nodes key ≡ landing_at g.number (link_place g.context) (full_run g.context)
  unfolding landing
  landed key g = rw (nodes_same greatest line steps w b i) g.landed

  row_slot : (key k : ℕ) (g : LandedAt w.card line.nodes key i.tree) → first_equal g.keys k 0 ≡ slot_of (node_at w.card g.number) k
  unfolding slot_of
  row_slot key k g = ap (λ (q : List ℕ). first_equal q k 0) (sym (leaf_keys w.card g.number g.keys g.values g.on_card_lem))

  pub room_by_tree : (key value : ℕ) → lowest_key ≤ key → key < key_limit → start_room w.card key room (landing w.card w.state.nodes key) ≡ not (refuses line.limit (put key value) shape)
  unfolding refuses room_for insert_reason reason_in empty_reason slot_answer leaf_need
  room_by_tree key value low high =
      go (landing_found w.card line.nodes key i.table.sized.words lowest_key key_limit i.tree i.table.holds
      i.table.sound.range low high (omega arith) (table_depth_limited greatest i.table))
    where
      go : LandedAt w.card line.nodes key i.tree → start_room w.card key room (landing w.card w.state.nodes key) ≡ not (refuses line.limit (put key value) shape)
      go g =
          room_at w.card w.state.nodes key room g.number (link_place g.context) (full_run g.context) (landed key g)
          ∙ by_key (slot_of (node_at w.card g.number) key) refl
        where
          found : (s : Option ℕ) → slot_of (node_at w.card g.number) key ≡ s → lookup key (pairs shape) ≡ slot_answer (node_at w.card g.number) s
          found s e = ap (lookup key) (bare_pairs i.tree) ∙ sym g.answers ∙ ap (slot_answer (node_at w.card g.number)) e

          row : (k : ℕ) → first_equal g.keys k 0 ≡ slot_of (node_at w.card g.number) k
          row k = row_slot key k g

          need : (s : Option ℕ) → slot_of (node_at w.card g.number) 0 ≡ s → need_of key 0 shape ≡ leaf_need s (full_run g.context)
          need s e =
              ap (λ (x : Tree). need_of key 0 (bare x)) (sym g.is_tree)
              ∙ need_leaf key g.context g.number g.keys g.values (leads_reach key g.context g.leads)
              ∙ ap (λ (x : Option ℕ). leaf_need x (full_run g.context)) (row 0 ∙ e)

          by_empty : (s : Option ℕ) → slot_of (node_at w.card g.number) 0 ≡ s → slot_of (node_at w.card g.number) key ≡ None
              → room_for room (full_run g.context) (insert_reason (node_at w.card g.number) key)
              ≡ not (both (is_absent (lookup key (pairs shape))) (ltb line.limit (node_total (λ m. 1) shape + need_of key 0 shape)))
          by_empty (Some j) e₀ e = rw (e, e₀, found None e, need (Some j) e₀, le-ltb line.limit (node_total (λ m. 1) shape + 0) (omega (arith, exact)))
          by_empty None e₀ e =
              rw (e, e₀, found None e, need None e₀)
              (ap not (order (room) (split_need (full_run g.context))
              (λ o. lt-ltb (room) (split_need (full_run g.context)) o ∙ sym (lt-ltb line.limit (node_total (λ m. 1) shape + (split_need (full_run g.context))) (omega arith)))
              (λ o. le-ltb (room) (split_need (full_run g.context)) o ∙ sym (le-ltb line.limit (node_total (λ m. 1) shape + (split_need (full_run g.context))) (omega arith)))))

          by_key : (s : Option ℕ) → slot_of (node_at w.card g.number) key ≡ s
              → room_for room (full_run g.context) (insert_reason (node_at w.card g.number) key)
              ≡ not (both (is_absent (lookup key (pairs shape))) (ltb line.limit (node_total (λ m. 1) shape + need_of key 0 shape)))
          by_key (Some j) e = rw (e, found (Some j) e)
          by_key None e = by_empty (slot_of (node_at w.card g.number) 0) refl e

module _ (greatest : ℕ) (n steps : ℕ) (w : World (ration_table greatest)) (b : Book) (i : Inv greatest (only n) steps w b) (idle : w.state.doing ≡ Idle) where
  abbrev t : Tree
  t = bare i.tree

  -- the tree at rest is the goal, and the bits count the room
  pub resting_goal : (bare i.tree ≡ i.goal) × (count_true w.state.free + node_total (λ m. 1) (bare i.tree) ≡ n)
  resting_goal = at (idle_or_busy i.stage).1
    where
      at : (is_idle w.state.doing ≡ false) ⊎ ((free : List Bool) × (last : ℕ) × (w.state ≡ memory n free last w.state.depth w.state.totals Idle [] [])
          × (table_violations i.tree ≡ 0) × (size i.tree + 3 ≤ n) × Partition (only n) free i.tree × (bare i.tree ≡ i.goal))
          → (bare i.tree ≡ i.goal) × (count_true w.state.free + node_total (λ m. 1) (bare i.tree) ≡ n)
      at (inl q) = absurd (idle_not_busy w.state.doing idle q)
      at (inr (free, last, em, z, r, x, eg)) =
          (eg, rw em (omega (arith, bare_size i.tree, count_only n free i.tree x (omega (arith, i.table.sized.most)))))

  -- an update starts, or is refused 8
  pub start_decided : (u : Update) → lowest_key ≤ key_of u → key_of u < key_limit → (r : Bool) → refuses n u t ≡ r → starts greatest u w ≡ pick r (BegunRefused 8) Started
  unfolding refuses insert_of delete_of start_accepted start_refused
  start_decided (put key value) low high r e =
      let d = room_decides greatest (only n) steps w b i key (Inserting key value NotBegun) (start_room (seen 1 w.card) key (room_of w.state)) idle low high in
      let q : start_room (seen 1 w.card) key (room_of w.state) (landing w.card w.state.nodes key) ≡ not r =
      room_seen 1 w.card key (room_of w.state) (landing w.card w.state.nodes key)
      ∙ room_by_tree greatest (only n) steps w b i (room_of w.state) resting_goal.1 key value low high ∙ ap not e in
      ap (λ (x : Handed). x.begun) (d ∙ ap (λ (x : Bool). pick x
      (start_accepted w.state (Inserting key value NotBegun) (start_depth 1 w.card w.state key)) (start_refused 8 w.state)) q) ∙ at r
    where
      at : (r : Bool) → (pick (not r) (start_accepted w.state (Inserting key value NotBegun) (start_depth 1 w.card w.state key))
          (start_refused 8 w.state)).begun ≡ pick r (BegunRefused 8) Started
      at true = refl
      at false = refl
  start_decided (remove key) low high true e = impossible (cc)
  start_decided (remove key) low high false e = ap (λ (x : Handed). x.begun) (room_decides greatest (only n) steps w b i key (Deleting key NotBegun 0) (λ x. true) idle low high)

  -- what a start that is not refused leaves
  pub begun_right : (u : Update) → key_of u < key_limit → starts greatest u w ≡ Started
      → (k : ℕ) × (l : Book) × (j : Inv greatest (only n) k (happens (ration_table greatest) (event u) w) l) × (j.goal ≡ after_shape u i.goal)
      × (j.due ≡ dictionary_answer (lookup (key_of u) (pairs t))) × (is_idle (happens (ration_table greatest) (event u) w).state.doing ≡ false)
  unfolding happens
  begun_right (put key value) high e =
      let q = kept_insert greatest n steps w b i key value high in
      (q.0, _, q.1, q.2.new_goal e, q.2.new_due e ∙ ap dictionary_answer (sym (same_lookup greatest i key) ∙ ap (lookup key) (sym (bare_pairs i.tree))), q.2.busy e)
  begun_right (remove key) high e =
      let q = kept_delete greatest (only n) steps w b i key high in
      (q.0, _, q.1, q.2.new_goal e, q.2.new_due e ∙ ap dictionary_answer (sym (same_lookup greatest i key) ∙ ap (lookup key) (sym (bare_pairs i.tree))), q.2.busy e)

refused_same : {r s : ℕ} → ◌≡◌ {A = Begun} (BegunRefused r) (BegunRefused s) → r ≡ s
refused_same e = cc

outcome_refused : (n : ℕ) (u : Update) (t : Tree) → refuses n u t ≡ true → (outcome n u t ≡ refused 8) × (leaves n u t ≡ t)
unfolding outcome leaves
outcome_refused n u t e = (rw e, rw e)

outcome_answered : (n : ℕ) (u : Update) (t : Tree) → refuses n u t ≡ false → (outcome n u t ≡ answered (dictionary_answer (lookup (key_of u) (pairs t)))) × (leaves n u t ≡ after_shape u t)
unfolding outcome leaves
outcome_answered n u t e = (rw e, rw e)

-- ONE WHOLE UPDATE: its outcome, and what it leaves, are functions of N and of the tree without numbers
pub one_whole : (greatest : ℕ) {u : Update} {w v : World (ration_table greatest)} {o : Outcome} → Whole greatest u w v o → (n : ℕ) (t : Tree) → Resting greatest (only n) w t
    → lowest_key ≤ key_of u → key_of u < key_limit → (o ≡ outcome n u t) × Resting greatest (only n) v (leaves n u t)
one_whole greatest {u} (not_begun {w} r e) n t x low high =
    let i = x.inv in
    let now : bare i.tree ≡ t = (resting_goal greatest n x.steps w x.book i x.idle).0 ∙ x.goal in
    bool_cases (refuses n u t)
    (λ d. let s = start_decided greatest n x.steps w x.book i x.idle u low high true (ap (refuses n u) now ∙ d) in
    let z = outcome_refused n u t d in (ap refused (refused_same (sym e ∙ s)) ∙ sym z.0, rw z.1 x))
    (λ d. let s = start_decided greatest n x.steps w x.book i x.idle u low high false (ap (refuses n u) now ∙ d) in absurd (started_no_refusal _ (sym s ∙ e)))
one_whole greatest {u} (worked {w} {v} {a} e ends) n t x low high =
    let i = x.inv in
    let now : bare i.tree ≡ t = (resting_goal greatest n x.steps w x.book i x.idle).0 ∙ x.goal in
    bool_cases (refuses n u t)
    (λ d. let s = start_decided greatest n x.steps w x.book i x.idle u low high true (ap (refuses n u) now ∙ d) in absurd (started_no_refusal _ (sym e ∙ s)))
    (λ d. let q = begun_right greatest n x.steps w x.book i x.idle u high e in
    let z = outcome_answered n u t d in
    let y = ends_at greatest ends (only n) q.0 q.1 q.2 (after_shape u t) (q.3 ∙ ap (after_shape u) x.goal) q.5 in
    (ap answered (y.0 ∙ q.4 ∙ ap (λ (p : Tree). dictionary_answer (lookup (key_of u) (pairs p))) now) ∙ sym z.0, rw z.1 y.1))

-- ---- lists of calls

abbrev pub outcomes : ℕ → List Update → Tree → List Outcome
outcomes n [] t = []
outcomes n (u ∷ us) t = outcome n u t ∷ outcomes n us (leaves n u t)

abbrev pub shape_left : ℕ → List Update → Tree → Tree
shape_left n [] t = t
shape_left n (u ∷ us) t = shape_left n us (leaves n u t)

abbrev pub Keys : List Update → Type 0
Keys [] = Unit
Keys (u ∷ us) = (lowest_key ≤ key_of u) × (key_of u < key_limit) × Keys us

pub whole_runs : (greatest : ℕ) {us : List Update} {w v : World (ration_table greatest)} {os : List Outcome} → Runs greatest us w v os
    → (n : ℕ) (t : Tree) → Resting greatest (only n) w t → Keys us → (os ≡ outcomes n us t) × Resting greatest (only n) v (shape_left n us t)
whole_runs greatest no_more n t x k = (refl, x)
whole_runs greatest (one_more {u} {us} c rest) n t x k =
    let p = one_whole greatest c n t x k.0 k.1 in
    let q = whole_runs greatest rest n (leaves n u t) p.1 k.2 in
    (ap₂ (λ (o : Outcome) (os : List Outcome). o ∷ os) p.0 q.0, q.1)

-- NODE NUMBERS DO NOT MATTER: two tables of the same N whose trees are alike give the same outcomes to the same calls, and stay alike
pub same_outcomes : (greatest : ℕ) {us : List Update} {w v w' v' : World (ration_table greatest)} {os os' : List Outcome}
    → Runs greatest us w v os → Runs greatest us w' v' os' → (n : ℕ) (t : Tree) → Resting greatest (only n) w t → Resting greatest (only n) w' t → Keys us
    → (os ≡ os') × (s : Tree) × Resting greatest (only n) v s × Resting greatest (only n) v' s
same_outcomes greatest {us} a b n t x y k = let p = whole_runs greatest a n t x k in let q = whole_runs greatest b n t y k in (p.0 ∙ sym q.0, shape_left n us t, p.1, q.1)
