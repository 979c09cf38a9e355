-- Every list of calls and cuts keeps the invariant, from where it begins; a run left uncut comes to rest.
use mathlib.Core.Path.{◌≡◌, refl, ap, sym, subst, ◌∙◌}
use mathlib.Core.List.{List, [], ◌∷◌}
use mathlib.Core.Bool.{Bool, true, false}
use mathlib.Core.Logic.{◌⊎◌, inl, inr, ⊎_map, ⊎_elim}
use Prim.Native.Nat.{ℕ, zero, suc, ◌+◌, ◌≤◌}
use native.Mathlib.Omega.{arith}
use native.Mathlib.Decide.{ℕ_discrete}
use lib.ListN.{length}
use lib.Dec.{eqb}
use Rattle.card.specs.Lines.{has_line, seen}
use Rattle.theory_change.proofs.Line.{Line, only, size, partition_only, only_apart}
use Rattle.card.specs.Replies.{refusal, ready, stored, started as startedReply}
use Rattle.state.specs.Answers.{step_reply, start_reply}
use Rattle.state.specs.Steps.{no_beginning, is_idle, step_refused, format_store}
use Rattle.call_start.specs.Starts.{start_depth, format_of, start_refused, start_accepted, start_landed, start_checked, start_of, insert_of, delete_of, room_of}
use Rattle.call_step.specs.Calls.{step_of, repair_steps}
use Rattle.state.specs.Memory.{Memory, resting}
use Rattle.call_change.specs.Updates.{landing, start_room}
use Rattle.state.specs.declared.Doing.{Doing}
use Rattle.state.specs.declared.Doing.TheVariants.{Idle, Inserting, Deleting}
use Rattle.state.specs.declared.Phase.TheVariants.{NotBegun}
use Rattle.state.specs.Answer.{Answer}
use Rattle.state.specs.Answer.{Ready}
use Rattle.state.specs.Begun.{Refused as BegunRefused}
use Rattle.card.specs.Header.{nodes_of_length, header_refusal, Sized}
use Rattle.card.proofs.HeaderLaws.{nodes_sized}
use Rattle.theory_change.proofs.Plays.{Openable}
use Rattle.theory_change.proofs.Repaired.{settled}
use Rattle.theory_format.proofs.FormatCard.{place_of, format_card, format_untouched}
use Rattle.theory_format.proofs.FormatSteps.{fresh_nodes, format_memory, fresh_memory, format_starts, format_refused, format_step_stores, format_step_ready}
use Rattle.theory_format.proofs.FreshTable.{fresh_tree, FreshTable, format_fresh}
use Rattle.laws.proofs.Cases.{bool_cases, order, impossible}
use Rattle.laws.specs.Totals.{total}
use Rattle.demands.proofs.Accepting.{accepted_card, accepted_openable}
use Rattle.demands.proofs.ReplyLaws.{code_of, is_refused}
use Rattle.demands.proofs.Invariant.{Table, UpdateSteps, Stage, Inv, stage_idle, stage_put, stage_remove, stage_first, stage_between, stage_within}
use Rattle.demands.specs.Book.{Outcome, Hand, Book, book, fed_step, feed, told, outcome, kept, empty}
use Rattle.demands.proofs.BookLaws.{Same, same_refl}
use Rattle.demands.specs.Events.{Question, Event, World, opened, reply_to, happens, run, Words, LeftUncut, steps_in, SaysReady, format_begun}
use Rattle.demands.specs.Events.{Opens, Begins, ask, insert, delete, step, cut, from_format, from_open}
use Rattle.demands.specs.RationTable.{ration_table}
use Rattle.demands.specs.Table.{Refused}
use Rattle.demands.proofs.Finishing.{MapIs}
use Rattle.demands.proofs.Reopen.{well_formed_table, reopened, table_well_formed}
use Rattle.demands.proofs.Starting.{same_lookup, kept_insert, kept_delete}
use Rattle.card_family.proofs.FamilyLaws.{totals_none}
use Rattle.theory_check.proofs.Families.{table_totals}
use Rattle.demands.proofs.Steps.{step_idle}
use Rattle.demands.proofs.Stepping.{Right, right_final, Moves, kept_step, was_idle, ends_now, goes_further}
use Rattle.theory_tree.proofs.InPlace.{length_total}
use Rattle.theory_tree.specs.Pairs.{pairs}
use Rattle.theory_tree.specs.Tree.{Tree}
use Rattle.theory_shapes.proofs.Bare.{bare}
use Rattle.card.specs.Layout.{depth_limit, formatted_root}
use Rattle.theory_shapes.proofs.Whole.{settled_by}
use Rattle.theory_tree.specs.WellFormed.{WellFormed}
use Rattle.theory_tree.specs.Violations.{few, table_violations}
use Rattle.std.specs.Prelude.{Option, Some, None}
use Rattle.walk.specs.declared.Landing.{Landing}

-- ---- a refused start changes nothing

start_landed_unchanged : (m : Memory) (doing : Doing) (depth : ℕ) (room : Bool) (x : Option Landing) (r : ℕ) → (start_landed m doing depth room x).begun ≡ BegunRefused r
    → (start_landed m doing depth room x).memory ≡ m
unfolding start_landed start_refused start_accepted
start_landed_unchanged m doing depth room None r e = refl
start_landed_unchanged m doing depth true (Some l) r e = impossible (cc)
start_landed_unchanged m doing depth false (Some l) r e = refl

start_unchanged : (greatest : ℕ) (c : List ℕ) (m : Memory) (key : ℕ) (doing : Doing) (room : Option Landing → Bool) (r : ℕ)
    → (start_of greatest 1 c m key doing room).begun ≡ BegunRefused r → (start_of greatest 1 c m key doing room).memory ≡ m
unfolding start_of start_checked start_refused start_accepted has_line
start_unchanged greatest c m key doing room r e =
    bool_cases (eqb (nodes_of_length greatest (length c)) 0) (λ q. rw q) (λ q.
    bool_cases (eqb (nodes_of_length greatest (length c)) m.nodes) (λ q₁.
    bool_cases (eqb (header_refusal c m.nodes) 0) (λ q₂.
    bool_cases (is_idle m.doing) (λ q₃.
    bool_cases (eqb key 0) (λ q₄. rw (q, q₁, q₂, q₃, q₄)) (λ q₄. rw (q, q₁, q₂, q₃, q₄) (landed_unchanged (landing (seen 1 c) m.nodes key) (rw (q, q₁, q₂, q₃, q₄) at e))))
    (λ q₃. rw (q, q₁, q₂, q₃))) (λ q₂. rw (q, q₁, q₂))) (λ q₁. rw (q, q₁)))
  where
    landed_unchanged : (x : Option Landing) → (start_landed m doing (start_depth 1 c m key) (room (landing (seen 1 c) m.nodes key)) x).begun ≡ BegunRefused r
        → (start_landed m doing (start_depth 1 c m key) (room (landing (seen 1 c) m.nodes key)) x).memory ≡ m
    landed_unchanged x e = start_landed_unchanged m doing (start_depth 1 c m key) (room (landing (seen 1 c) m.nodes key)) x r e

same_world : (greatest : ℕ) (w : World (ration_table greatest)) (m : Memory) → m ≡ w.state → ◌≡◌ {A = World (ration_table greatest)} (record { card = w.card; state = m }) w
same_world greatest w m e = ap (λ (x : Memory). record { card = w.card; state = x }) e

pub insert_same : (greatest : ℕ) (key value : ℕ) (w : World (ration_table greatest))
    → Refused (reply_to (ration_table greatest) (insert key value) w) → happens (ration_table greatest) (insert key value) w ≡ w
unfolding happens reply_to insert_of
insert_same greatest key value w h =
    let r = is_refused (insert_of greatest 1 w.card w.state key value).begun h in
    same_world greatest w _ (start_unchanged greatest w.card w.state key (Inserting key value NotBegun) (start_room (seen 1 w.card) key (room_of w.state)) r.0 r.1)

pub delete_same : (greatest : ℕ) (key : ℕ) (w : World (ration_table greatest)) → Refused (reply_to (ration_table greatest) (delete key) w) → happens (ration_table greatest) (delete key) w ≡ w
unfolding happens reply_to delete_of
delete_same greatest key w h =
    let r = is_refused (delete_of greatest 1 w.card w.state key).begun h in
    same_world greatest w _ (start_unchanged greatest w.card w.state key (Deleting key NotBegun 0) (λ l. true) r.0 r.1)

pub ask_same : (greatest : ℕ) (question : Question) (w : World (ration_table greatest)) → happens (ration_table greatest) (ask question) w ≡ w
unfolding happens
ask_same greatest question w = refl

-- ---- more steps than needed are enough; a cut; any events

pub loosen : (greatest : ℕ) (line : Line) (few many : ℕ) (w : World (ration_table greatest)) (b : Book) → few ≤ many → Inv greatest line few w b → Inv greatest line many w b
loosen greatest line few many w b h i =
    record {
      tree = i.tree;
      goal = i.goal;
      due = i.due;
      table = i.table;
      openable = i.openable;
      same = i.same;
      apart = i.apart;
      counted = i.counted;
      stage = at i.stage;
    }
  where
    more : UpdateSteps i.tree few → UpdateSteps i.tree many
    more q = record { height = q.height; level = q.level; enough = omega (arith, q.enough) }

    at : {m : Memory} {x : Hand} {d : Answer} → Stage w.card line i.tree i.goal few m x d → Stage w.card line i.tree i.goal many m x d
    at (stage_idle z r x g) = stage_idle z r x g
    at (stage_put room z r x low high enough below q g) = stage_put room z r x low high enough below (more q) g
    at (stage_remove z r x low high q g) = stage_remove z r x low high (more q) g
    at (stage_first j p en count q g) = stage_first j p en count (omega arith) g
    at (stage_between j en deep r x q g) = stage_between j en deep r x (omega arith) g
    at (stage_within j en p e q g) = stage_within j en p e (omega arith) g

pub loosen_goal : (greatest : ℕ) (line : Line) (few many : ℕ) (w : World (ration_table greatest)) (b : Book) (h : few ≤ many) (i : Inv greatest line few w b)
    → (loosen greatest line few many w b h i).goal ≡ i.goal
unfolding loosen
loosen_goal greatest line few many w b h i = refl

pub loosen_due : (greatest : ℕ) (line : Line) (few many : ℕ) (w : World (ration_table greatest)) (b : Book) (h : few ≤ many) (i : Inv greatest line few w b)
    → (loosen greatest line few many w b h i).due ≡ i.due
unfolding loosen
loosen_due greatest line few many w b h i = refl

pub reopened_inv : (greatest : ℕ) (n : ℕ) (c : List ℕ) (t : Tree) (l : List (ℕ × ℕ)) → Table greatest c n t → Openable n t → Same (pairs t) l
    → Inv greatest (only n) repair_steps (opened (ration_table greatest) c) (book l empty)
reopened_inv greatest n c t l b o s =
    let r = reopened greatest c n t b o in
    loosen greatest (only n) r.steps repair_steps (opened (ration_table greatest) c) (book l empty) r.few_steps
    (record {
      tree = t;
      goal = r.goal;
      due = Ready;
      table = b;
      openable = o;
      same = s;
      apart = only_apart n t b.sound.once;
      counted = rw r.rebuilt (table_totals c n t b.sized.words b.sized.most (table_well_formed greatest b));
      stage = r.stage;
    })

module _ (greatest : ℕ) (n : ℕ) (c : List ℕ) (t : Tree) (l : List (ℕ × ℕ)) (b : Table greatest c n t) (o : Openable n t) (s : Same (pairs t) l) where
  pub reopened_goal : (reopened_inv greatest n c t l b o s).goal ≡ settled_by depth_limit (bare t)
  unfolding reopened_inv loosen
  reopened_goal = (reopened greatest c n t b o).goal_is

  pub reopened_due : (reopened_inv greatest n c t l b o s).due ≡ Ready
  unfolding reopened_inv loosen
  reopened_due = refl

ask_keeps : (greatest : ℕ) (line : Line) (steps : ℕ) (w : World (ration_table greatest)) (b : Book) (question : Question) → Inv greatest line steps w b
    → Inv greatest line steps (happens (ration_table greatest) (ask question) w) (feed (told (ration_table greatest) (ask question) w) b)
unfolding happens feed told
ask_keeps greatest line steps w b question i = i

cut_keeps : (greatest : ℕ) (n steps : ℕ) (w : World (ration_table greatest)) (b : Book) → Inv greatest (only n) steps w b
    → Inv greatest (only n) repair_steps (happens (ration_table greatest) cut w) (feed (told (ration_table greatest) cut w) b)
unfolding happens feed told
cut_keeps greatest n steps w b i = reopened_inv greatest n w.card i.tree b.held i.table i.openable i.same

pub inv_kept : (greatest : ℕ) (n : ℕ) (es : List Event) (steps : ℕ) (w : World (ration_table greatest)) (b : Book) → Words es
    → Inv greatest (only n) steps w b → (k : ℕ) × Inv greatest (only n) k (run (ration_table greatest) es w) (kept (ration_table greatest) es w b)
unfolding run kept
inv_kept greatest n [] steps w b u i = (steps, i)
inv_kept greatest n (ask question ∷ es) steps w b u i = inv_kept greatest n es steps _ _ u (ask_keeps greatest (only n) steps w b question i)
inv_kept greatest n (insert key value ∷ es) steps w b u i = let q = kept_insert greatest n steps w b i key value u.0 in inv_kept greatest n es q.0 _ _ u.1 q.1
inv_kept greatest n (delete key ∷ es) steps w b u i = let q = kept_delete greatest (only n) steps w b i key u.0 in inv_kept greatest n es q.0 _ _ u.1 q.1
inv_kept greatest n (step ∷ es) steps w b u i = inv_kept greatest n es steps _ _ u (kept_step greatest (only n) steps w b (loosen greatest (only n) steps (suc steps) w b (omega arith) i)).0.0
inv_kept greatest n (cut ∷ es) steps w b u i = inv_kept greatest n es repair_steps _ _ u (cut_keeps greatest n steps w b i)

-- ---- where the list begins

format_starts_sized : (greatest : ℕ) (c : List ℕ) → start_reply (format_of greatest c).begun ≡ startedReply → nodes_of_length greatest (length c) ≡ 0 → ⊥
unfolding no_beginning start_reply
format_starts_sized greatest c e z = omega (arith, code_of (rw (format_refused greatest c z) at e))

begun_world : (greatest : ℕ) (c : List ℕ) (n : ℕ) → Sized greatest (length c) n → ◌≡◌ {A = World (ration_table greatest)}
    (record { card = c; state = (format_of greatest c).memory }) (record { card = format_card n c 0; state = format_memory n 0 })
begun_world greatest c n s = rw (format_starts greatest c n s, format_untouched n c)

-- the fresh table is idle, with no pair
fresh_inv : (greatest : ℕ) (n : ℕ) (c : List ℕ) → FreshTable greatest c n → Inv greatest (only n) repair_steps (record { card = c; state = fresh_memory n }) (book [] empty)
unfolding resting
fresh_inv greatest n c f =
    let room : size fresh_tree + 3 ≤ n = omega (arith, f.sized.least) in
    record {
      tree = fresh_tree;
      goal = bare fresh_tree;
      due = Ready;
      table = record { sized = f.sized; header = f.formatted; holds = f.holds; sound = f.sound };
      openable = record { key = 0; deep = 0; ready = settled f.no_violations room };
      same = record { totals = λ w. ap (total w) f.no_pairs };
      apart = only_apart n fresh_tree f.sound.once;
      counted = rw f.no_pairs totals_none;
      stage = stage_idle f.no_violations room (partition_only c n (fresh_nodes n) fresh_tree f.sized.words f.holds.2 f.exact) refl;
    }

-- and no step says "ready" again while nothing is started
ready_once : (greatest : ℕ) (c : List ℕ) (n : ℕ) → FreshTable greatest c n → (qs : List Event) (w : World (ration_table greatest))
    → w ≡ record { card = c; state = fresh_memory n } → LeftUncut (ration_table greatest) qs w
    → reply_to (ration_table greatest) step (run (ration_table greatest) qs w) ≡ ready → ⊥
unfolding happens reply_to step_reply step_refused resting LeftUncut run
ready_once greatest c n f [] w e u q =
    let z : step_reply (step_of greatest 1 w.card w.state).answer ≡ refusal 10 = rw (e, step_idle greatest c n f.sized f.formatted (fresh_nodes n) formatted_root) in
    omega (arith, code_of (sym z ∙ q))
ready_once greatest c n f (step ∷ qs) w e u q =
    ready_once greatest c n f qs (happens (ration_table greatest) step w)
    (rw (e, step_idle greatest c n f.sized f.formatted (fresh_nodes n) formatted_root)) u.1 q
ready_once greatest c n f (ask question ∷ qs) w e u q = ready_once greatest c n f qs w e u.1 q
ready_once greatest c n f (insert key value ∷ qs) w e u q = ready_once greatest c n f qs (happens (ration_table greatest) (insert key value) w) (insert_same greatest key value w u.0 ∙ e) u.1 q
ready_once greatest c n f (delete key ∷ qs) w e u q = ready_once greatest c n f qs (happens (ration_table greatest) (delete key) w) (delete_same greatest key w u.0 ∙ e) u.1 q
ready_once greatest c n f (cut ∷ qs) w e u q = absurd u.0

-- formatting stores word after word, and is ready after the last
format_ready_inv : (greatest : ℕ) (c : List ℕ) (n made : ℕ) → Sized greatest (length c) n → (qs : List Event) (w : World (ration_table greatest))
    → w ≡ record { card = format_card n c made; state = format_memory n made } → made ≤ suc (length c)
    → LeftUncut (ration_table greatest) qs w → reply_to (ration_table greatest) step (run (ration_table greatest) qs w) ≡ ready
    → happens (ration_table greatest) step (run (ration_table greatest) qs w) ≡ record { card = format_card n c (suc (length c)); state = fresh_memory n }
unfolding happens reply_to step_reply LeftUncut run
format_ready_inv greatest c n made s [] w e h u q =
    order (length c) made
    (λ o. let m : made ≡ suc (length c) = omega arith in rw (e, m, format_step_ready greatest c n s))
    (λ o. let z : step_reply (step_of greatest 1 w.card w.state).answer ≡ stored (place_of (format_store n (length c) made)) = rw (
      e,
      format_step_stores greatest c n s made o,
    ) in absurd (omega (arith, code_of (sym z ∙ q))))
format_ready_inv greatest c n made s (step ∷ qs) w e h u q =
    order (length c) made
    (λ o. let m : made ≡ suc (length c) = omega arith in absurd (ready_once greatest
    (format_card n c (suc (length c))) n (format_fresh greatest c n s) qs (happens (ration_table greatest) step w) (ended m) u.1 q))
    (λ o. format_ready_inv greatest c n (suc made) s qs (happens (ration_table greatest) step w) (next o) (omega arith) u.1 q)
  where
    next : made ≤ length c → happens (ration_table greatest) step w ≡ record { card = format_card n c (suc made); state = format_memory n (suc made) }
    next o = rw (e, format_step_stores greatest c n s made o)

    ended : made ≡ suc (length c) → happens (ration_table greatest) step w ≡ record { card = format_card n c (suc (length c)); state = fresh_memory n }
    ended m = rw (e, m, format_step_ready greatest c n s)
format_ready_inv greatest c n made s (ask question ∷ qs) w e h u q = format_ready_inv greatest c n made s qs w e h u.1 q
format_ready_inv greatest c n made s (insert key value ∷ qs) w e h u q =
    format_ready_inv greatest c n made s qs
    (happens (ration_table greatest) (insert key value) w) (insert_same greatest key value w u.0 ∙ e) h u.1 q
format_ready_inv greatest c n made s (delete key ∷ qs) w e h u q =
    format_ready_inv greatest c n made s qs (happens (ration_table greatest) (delete key) w) (delete_same greatest key w u.0 ∙ e) h u.1 q
format_ready_inv greatest c n made s (cut ∷ qs) w e h u q = absurd u.0

-- the card and the state at "ready", whatever the card held before
pub fresh_world : (greatest : ℕ) (c : List ℕ) (qs : List Event) → ((ration_table greatest).format c).reply ≡ startedReply
    → LeftUncut (ration_table greatest) qs (format_begun (ration_table greatest) c)
    → reply_to (ration_table greatest) step (run (ration_table greatest) qs (format_begun (ration_table greatest) c)) ≡ ready
    → Sized greatest (length c) (nodes_of_length greatest (length c))
    × (happens (ration_table greatest) step (run (ration_table greatest) qs (format_begun (ration_table greatest) c))
    ≡ record { card = format_card (nodes_of_length greatest (length c)) c (suc (length c)); state = fresh_memory (nodes_of_length greatest (length c)) })
fresh_world greatest c qs e u r = go (ℕ_discrete (nodes_of_length greatest (length c)) 0)
  where
    go : Dec (nodes_of_length greatest (length c) ≡ 0) → Sized greatest (length c) (nodes_of_length greatest (length c))
        × (happens (ration_table greatest) step (run (ration_table greatest) qs (format_begun (ration_table greatest) c))
        ≡ record { card = format_card (nodes_of_length greatest (length c)) c (suc (length c)); state = fresh_memory (nodes_of_length greatest (length c)) })
    go (yes z) = absurd (format_starts_sized greatest c e z)
    go (no d) =
        let s = nodes_sized greatest (length c) d in (
          s,
          format_ready_inv greatest c (nodes_of_length greatest (length c)) 0 s qs (format_begun (ration_table greatest) c)
              (begun_world greatest c (nodes_of_length greatest (length c)) s) (omega arith) u r,
        )

pub begins_inv : (greatest : ℕ) (w : World (ration_table greatest)) (l : List (ℕ × ℕ)) → Begins (ration_table greatest) w l → (n : ℕ) × Inv greatest (only n) repair_steps w (book l empty)
begins_inv greatest w l (from_open c t a k) =
    let q = accepted_card greatest c a in
    let b : Table greatest c (nodes_of_length greatest (length c)) t = well_formed_table greatest q.1 q.2 k in
    (nodes_of_length greatest (length c), reopened_inv greatest (nodes_of_length greatest (length c)) c t (pairs t) b (accepted_openable greatest c t a k) (same_refl (pairs t)))
begins_inv greatest w l (from_format c qs e u r) =
    let f = fresh_world greatest c qs e u r in (
      nodes_of_length greatest (length c),
      rw f.1 (fresh_inv greatest (nodes_of_length greatest (length c)) (format_card (nodes_of_length greatest (length c)) c (suc (length c)))
          (format_fresh greatest c (nodes_of_length greatest (length c)) f.0)),
    )

-- a card just opened: the repair in hand, if there is one, comes to what the tree without numbers says
pub opened_inv : (greatest : ℕ) (c : List ℕ) (t : Tree) → Opens (ration_table greatest) c → WellFormed c t
    → (i : Inv greatest (only (nodes_of_length greatest (length c))) repair_steps (opened (ration_table greatest) c) (book (pairs t) empty))
    × (i.goal ≡ settled_by depth_limit (bare t)) × (i.due ≡ Ready)
opened_inv greatest c t a k =
    let q = accepted_card greatest c a in
    let n = nodes_of_length greatest (length c) in
    let b : Table greatest c (nodes_of_length greatest (length c)) t = well_formed_table greatest q.1 q.2 k in
    let o = accepted_openable greatest c t a k in
    let s = same_refl (pairs t) in
    (reopened_inv greatest n c t (pairs t) b o s, reopened_goal greatest n c t (pairs t) b o s, reopened_due greatest n c t (pairs t) b o s)

-- what holds after any list of events
pub kept_from : (greatest : ℕ) (w : World (ration_table greatest)) (l : List (ℕ × ℕ)) → Begins (ration_table greatest) w l → (es : List Event) → Words es
    → (n : ℕ) × (k : ℕ) × Inv greatest (only n) k (run (ration_table greatest) es w) (kept (ration_table greatest) es w (book l empty))
kept_from greatest w l s es u =
    let b = begins_inv greatest w l s in
    let k = inv_kept greatest b.0 es repair_steps w (book l empty) u b.1 in
    (b.0, k.0, k.1)

-- ---- at rest

-- no steps are left only where nothing is being done
pub at_rest : (greatest : ℕ) (line : Line) (steps : ℕ) (w : World (ration_table greatest)) (b : Book) → steps ≡ 0 → (i : Inv greatest line steps w b)
    → (w.state.doing ≡ Idle) × (table_violations i.tree ≡ 0)
at_rest greatest line steps w b none_left i = at i.stage
  where
    at : {m : Memory} {h : Hand} {d : Answer} → Stage w.card line i.tree i.goal steps m h d → (m.doing ≡ Idle) × (table_violations i.tree ≡ 0)
    at (stage_idle z r x g) = (refl, z)
    at (stage_put room z r x low high enough below q g) = absurd (omega arith)
    at (stage_remove z r x low high q g) = absurd (omega arith)
    at (stage_first j p en count q g) = absurd (omega arith)
    at (stage_between j en deep r x q g) = absurd (omega arith)
    at (stage_within j en p e q g) = absurd (omega arith)

-- a step with an empty hand leaves it empty, whatever it answers
pub empty_fed : (o : Outcome) (l : List (ℕ × ℕ)) → fed_step o l empty ≡ book l empty
unfolding fed_step
empty_fed o l = refl

pub after_step : (greatest : ℕ) (w : World (ration_table greatest)) → is_idle (step_of greatest 1 w.card w.state).memory.doing ≡ false
    → is_idle (happens (ration_table greatest) step w).state.doing ≡ false
unfolding happens
after_step greatest w e = e

pub idle_not_busy : (d : Doing) → d ≡ Idle → is_idle d ≡ false → ⊥
unfolding is_idle
idle_not_busy d e q = let z : ◌≡◌ {A = Bool} true false = rw e at q in impossible (cc)

-- ---- opening's repair, in a run left uncut

-- nothing but opening's repair is in hand, if anything is
abbrev pub Repairs : (greatest : ℕ) → Line → List (ℕ × ℕ) → ℕ → World (ration_table greatest) → Type 0
Repairs greatest line l steps w = (i : Inv greatest line steps w (book l empty)) × (i.due ≡ Ready)

repair_loosened : (greatest : ℕ) (line : Line) (l : List (ℕ × ℕ)) (few many : ℕ) (w : World (ration_table greatest)) → few ≤ many → Repairs greatest line l few w → Repairs greatest line l many w
repair_loosened greatest line l few many w h (i, d) = (loosen greatest line few many w (book l empty) h i, loosen_due greatest line few many w (book l empty) h i ∙ d)

-- one step of it
repair_step : (greatest : ℕ) (line : Line) (l : List (ℕ × ℕ)) (steps : ℕ) (w : World (ration_table greatest)) → Repairs greatest line l (suc steps) w
    → Repairs greatest line l steps (happens (ration_table greatest) step w) × ((w.state.doing ≡ Idle)
    ⊎ (((step_of greatest 1 w.card w.state).answer ≡ Ready) ⊎ (is_idle (happens (ration_table greatest) step w).state.doing ≡ false)))
unfolding feed told
repair_step greatest line l steps w (i, d) =
    let k = kept_step greatest line steps w (book l empty) i in
    (at k.0.0 (k.0.2 ∙ d), moves k.2 k.1)
  where
    at : (j : Inv greatest line steps (happens (ration_table greatest) step w) (fed_step (outcome (reply_to (ration_table greatest) step w)) l empty))
        → j.due ≡ Ready → Repairs greatest line l steps (happens (ration_table greatest) step w)
    at =
        subst (λ (b : Book). (j : Inv greatest line steps (happens (ration_table greatest) step w) b) → j.due ≡ Ready → Repairs greatest line l steps (happens (ration_table greatest) step w))
        (sym (empty_fed (outcome (reply_to (ration_table greatest) step w)) l)) (λ j e. (j, e))

    moves : Moves line w.card w.state (step_of greatest 1 w.card w.state) → Right (step_of greatest 1 w.card w.state).answer i.due
        → (w.state.doing ≡ Idle)
        ⊎ (((step_of greatest 1 w.card w.state).answer ≡ Ready) ⊎ (is_idle (happens (ration_table greatest) step w).state.doing ≡ false))
    moves (was_idle e) r = inl e
    moves (ends_now e same idle) r = inr (inl (right_final r e ∙ d))
    moves (goes_further stored e) r = inr (inr (after_step greatest w e))

still_ends : (greatest : ℕ) (w : World (ration_table greatest)) (qs : List Event)
    → ((happens (ration_table greatest) step w).state.doing ≡ Idle) ⊎ SaysReady (ration_table greatest) qs (happens (ration_table greatest) step w)
    → (w.state.doing ≡ Idle) ⊎ (((step_of greatest 1 w.card w.state).answer ≡ Ready) ⊎ (is_idle (happens (ration_table greatest) step w).state.doing ≡ false))
    → (w.state.doing ≡ Idle) ⊎ SaysReady (ration_table greatest) (step ∷ qs) w
unfolding SaysReady reply_to step_reply
still_ends greatest w qs q (inl e) = inl e
still_ends greatest w qs q (inr (inl e)) = inr (inl (refl, ap step_reply e))
still_ends greatest w qs q (inr (inr e)) = inr (inr (⊎_elim (λ z. absurd (idle_not_busy (happens (ration_table greatest) step w).state.doing z e)) (λ z. z) q))

-- a run without a cut comes to rest
pub repair_ends : (greatest : ℕ) (line : Line) (l : List (ℕ × ℕ)) (qs : List Event) (steps : ℕ) (w : World (ration_table greatest))
    → LeftUncut (ration_table greatest) qs w → steps ≤ steps_in qs → Repairs greatest line l steps w
    → Inv greatest line 0 (run (ration_table greatest) qs w) (book l empty) × ((w.state.doing ≡ Idle) ⊎ SaysReady (ration_table greatest) qs w)
unfolding run LeftUncut SaysReady
repair_ends greatest line l [] steps w u h r = (loosen greatest line steps 0 w (book l empty) (omega arith) r.0, inl (at_rest greatest line steps w (book l empty) (omega arith) r.0).0)
repair_ends greatest line l (ask question ∷ qs) steps w u h r =
    let e = ask_same greatest question w in
    let q = repair_ends greatest line l qs steps (happens (ration_table greatest) (ask question) w) u.1 h (rw e r) in
    (q.0, ⊎_map (λ z. rw e at z) (λ z. inr z) q.1)
repair_ends greatest line l (insert key value ∷ qs) steps w u h r =
    let e = insert_same greatest key value w u.0 in
    let q = repair_ends greatest line l qs steps (happens (ration_table greatest) (insert key value) w) u.1 h (rw e r) in
    (q.0, ⊎_map (λ z. rw e at z) (λ z. inr z) q.1)
repair_ends greatest line l (delete key ∷ qs) steps w u h r =
    let e = delete_same greatest key w u.0 in
    let q = repair_ends greatest line l qs steps (happens (ration_table greatest) (delete key) w) u.1 h (rw e r) in
    (q.0, ⊎_map (λ z. rw e at z) (λ z. inr z) q.1)
repair_ends greatest line l (step ∷ qs) zero w u h r =
    let k = repair_step greatest line l 0 w (repair_loosened greatest line l 0 1 w (omega arith) r) in
    let q = repair_ends greatest line l qs 0 (happens (ration_table greatest) step w) u.1 (omega arith) k.0 in
    (q.0, still_ends greatest w qs q.1 k.1)
repair_ends greatest line l (step ∷ qs) (suc steps) w u h r =
    let k = repair_step greatest line l steps w r in
    let q = repair_ends greatest line l qs steps (happens (ration_table greatest) step w) u.1 (omega arith) k.0 in
    (q.0, still_ends greatest w qs q.1 k.1)
repair_ends greatest line l (cut ∷ qs) steps w u h r = absurd u.0

-- the tree's map is the book's pairs
pub map_is : (greatest : ℕ) {line : Line} {steps : ℕ} {w : World (ration_table greatest)} {b : Book} (i : Inv greatest line steps w b) → MapIs i.tree b.held
map_is greatest {b = b} i = record { alike = same_lookup greatest i; as_many = length_total (pairs i.tree) ∙ i.same.totals (λ p. 1) ∙ sym (length_total b.held) }
