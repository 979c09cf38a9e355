-- Starting an update keeps the invariant: refused, nothing changes; not refused, the update is in hand and its answer due.
use mathlib.Core.Path.{◌≡◌, refl, ap, sym, subst, ◌∙◌}
use mathlib.Core.List.{List, []}
use mathlib.Core.Bool.{Bool, true, false}
use mathlib.Core.Logic.{◌⊎◌, inl, inr}
use Prim.Native.Nat.{ℕ, ◌+◌, ◌≤◌, ◌<◌}
use native.Mathlib.Omega.{arith}
use lib.ListN.{length}
use borrow.Author.Tests.{ne_eqb, eq-eqb, lt-ltb}
use Rattle.card.specs.Lines.{has_line, seen}
use Rattle.card.proofs.LineLaws.{seen_only}
use Rattle.call_start.proofs.StartLaws.{room_seen}
use Rattle.card.specs.Header.{Sized, header_refusal}
use Rattle.card.proofs.HeaderLaws.{sized_nodes, formatted_header}
use Rattle.card.specs.Layout.{lowest_key, key_limit}
use Rattle.theory_change.proofs.Line.{Line, Partition, only, size, count_only}
use Rattle.walk.specs.Descent.{way, landing_of}
use Rattle.theory_walk.proofs.Landing.{landing_found}
use Rattle.card_free.specs.NodeSet.{count_true}
use Rattle.laws.proofs.Cases.{bool_cases, order, impossible}
use Rattle.laws.specs.Cases.{pick}
use Rattle.demands.proofs.BookLaws.{dictionary_answer}
use Rattle.state.specs.Answers.{start_reply}
use Rattle.demands.proofs.Finishing.{update_stores_at}
use Rattle.demands.proofs.Invariant.{told_of, UpdateSteps, Stage, Inv, stage_idle, stage_put, stage_remove, stage_first, stage_between, stage_within}
use Rattle.demands.specs.Book.{Update, Hand, Book, fed_start, feed, outcome, told, put, remove}
use Rattle.demands.specs.Events.{World, reply_to, happens, insert, delete}
use Rattle.demands.specs.RationTable.{ration_table}
use Rattle.demands.proofs.Reopen.{table_well_formed, table_depth_limited}
use Rattle.demands.proofs.Steps.{memory, job_busy}
use Rattle.theory_check.proofs.Level.{same_height}
use Rattle.state.specs.Steps.{Handed, is_idle}
use Rattle.call_start.specs.Starts.{start_depth, start_refused, start_accepted, start_landed, start_checked, start_of, room_of, insert_of, delete_of}
use Rattle.state.specs.Memory.{Memory}
use Rattle.call_change.specs.Updates.{landing, start_room}
use Rattle.state.specs.declared.Doing.{Doing}
use Rattle.state.specs.declared.Doing.TheVariants.{Idle, Inserting, Deleting}
use Rattle.state.specs.declared.Phase.TheVariants.{NotBegun}
use Rattle.state.specs.Answer.{Answer}
use Rattle.state.specs.Begun.{Begun}
use Rattle.state.specs.Begun.{Started, Refused as BegunRefused}
use Rattle.theory_tree.proofs.Lookup.{key_once, lookup_same}
use Rattle.theory_tree.specs.Pairs.{pairs, lookup}
use Rattle.theory_tree.proofs.Path.{full_run}
use Rattle.theory_tree.proofs.Represent.{link_place}
use Rattle.theory_tree.specs.Height.{Height}
use Rattle.theory_tree.specs.Tree.{Tree}
use Rattle.demands.proofs.Shapes.{key_of, after_shape}
use Rattle.theory_shapes.proofs.Bare.{bare}
use Rattle.theory_tree.specs.Violations.{few, table_violations}
use Rattle.theory_tree.specs.WellFormed.{WellFormed}
use Rattle.std.specs.Prelude.{Option}
use Rattle.walk.proofs.DescentLaws.{landing_at}
use Rattle.walk.specs.declared.Landing.{Landing}

-- the checks 1, 2 and 3 are passed
pub start_checked_lem : (greatest line : ℕ) (c : List ℕ) (m : Memory) (key : ℕ) (doing : Doing) (room : Option Landing → Bool) → Sized greatest (length c) m.nodes
    → header_refusal c m.nodes ≡ 0 → start_of greatest line c m key doing room ≡ start_checked line c m key doing room
unfolding start_of
start_checked_lem greatest line c m key doing room s h =
    rw (sized_nodes greatest (length c) m.nodes s, ne_eqb m.nodes 0 (λ z. omega (arith, z, s.least)), eq-eqb m.nodes m.nodes refl, h)

start_busy : (c : List ℕ) (m : Memory) (key : ℕ) (doing : Doing) (room : Option Landing → Bool) → is_idle m.doing ≡ false → start_checked 1 c m key doing room ≡ start_refused 7 m
unfolding start_checked
start_busy c m key doing room e = rw e

start_zero : (c : List ℕ) (m : Memory) (key : ℕ) (doing : Doing) (room : Option Landing → Bool) → is_idle m.doing ≡ true → key ≡ 0 → start_checked 1 c m key doing room ≡ start_refused 6 m
unfolding start_checked has_line
start_zero c m key doing room e z = rw (e, eq-eqb key 0 z)

start_landed_lem : (c : List ℕ) (m : Memory) (key : ℕ) (doing : Doing) (room : Option Landing → Bool) (number link run : ℕ)
    → is_idle m.doing ≡ true → (key ≡ 0 → ⊥) → landing c m.nodes key ≡ landing_at number link run
    → seen 1 c ≡ c → start_checked 1 c m key doing room ≡ pick (room (landing c m.nodes key)) (start_accepted m doing (start_depth 1 c m key)) (start_refused 8 m)
unfolding start_checked start_landed has_line
start_landed_lem c m key doing room number link run e z l one =
    let there : landing (seen 1 c) m.nodes key ≡ landing c m.nodes key = ap (λ (x : List ℕ). landing x m.nodes key) one in
    rw (e, ne_eqb key 0 z)
    (ap (λ (x : Option Landing). start_landed m doing (start_depth 1 c m key) (room x) x) there ∙ ap (start_landed m doing (start_depth 1 c m key) (room (landing c m.nodes key))) l)

is_idle_lem : {doing : Doing} → doing ≡ Idle → is_idle doing ≡ true
unfolding is_idle
is_idle_lem e = rw e

landing_is : (c : List ℕ) (n key : ℕ) {x : Option Landing} → landing_of c (way c n key) ≡ x → landing c n key ≡ x
unfolding landing
landing_is c n key e = e

-- a state is idle, or some work is in progress
pub idle_or_busy : {c : List ℕ} {line : Line} {t goal : Tree} {steps : ℕ} {m : Memory} {h : Hand} {due : Answer} → Stage c line t goal steps m h due
    → (m.nodes ≡ line.nodes) × ((is_idle m.doing ≡ false) ⊎ ((free : List Bool) × (last : ℕ)
    × (m ≡ memory line.nodes free last m.depth m.totals Idle [] []) × (table_violations t ≡ 0) × (size t + 3 ≤ line.limit) × Partition line free t × (bare t ≡ goal)))
unfolding is_idle
idle_or_busy (stage_idle {free} {last} {depth} z r x g) = (refl, inr (free, last, refl, z, r, x, g))
idle_or_busy (stage_put room z r x low high enough below few g) = (refl, inl refl)
idle_or_busy (stage_remove z r x low high few g) = (refl, inl refl)
idle_or_busy (stage_first j p en count few g) = (refl, inl (job_busy j).not_idle)
idle_or_busy (stage_between j en deep r x few g) = (refl, inl (job_busy j).not_idle)
idle_or_busy (stage_within j en p e few g) = (refl, inl (job_busy j).not_idle)

-- a start that was not refused: the state was idle, and work is in hand, with so many steps left as the table's depth asks for, with the
-- update's goal, and with the dictionary's answer due
pub record Fresh (greatest : ℕ) {line : Line} {steps k : ℕ} {w v : World (ration_table greatest)} {b l : Book} (u : Update) (g : Handed) (i : Inv greatest line steps w b)
    (j : Inv greatest line k v l) : Type 0 where
  pub idle_before : g.begun ≡ Started → w.state.doing ≡ Idle
  pub steps_left : g.begun ≡ Started → (t : Tree) → WellFormed w.card t → (h : ℕ) → Height h t → k ≤ update_stores_at h + 1
  pub busy : g.begun ≡ Started → is_idle g.memory.doing ≡ false
  pub new_goal : g.begun ≡ Started → j.goal ≡ after_shape u i.goal
  pub new_due : g.begun ≡ Started → j.due ≡ dictionary_answer (lookup (key_of u) b.held)

-- what a start leaves, by the call's beginning
abbrev Goal : (greatest : ℕ) → {line : Line} {steps : ℕ} {w : World (ration_table greatest)} {b : Book} → Inv greatest line steps w b → Update → Handed → Type 0
Goal greatest {line} {steps} {w} {b} i u g =
    (k : ℕ)
    × (j : Inv greatest line k (record { card = w.card; state = g.memory }) (feed (told_of u w.card (outcome (start_reply g.begun))) b))
    × Fresh greatest u g i j

-- a refused start leaves the book as it is
refused_told : (u : Update) (c : List ℕ) (r : ℕ) (b : Book) → r < 64 → feed (told_of u c (outcome (start_reply (BegunRefused r)))) b ≡ b
unfolding start_reply outcome feed fed_start
refused_told (put key value) c r b h = rw (lt-ltb r 64 h)
refused_told (remove key) c r b h = rw (lt-ltb r 64 h)

refused_goal : (greatest : ℕ) {line : Line} {steps : ℕ} (w : World (ration_table greatest)) (b : Book) (i : Inv greatest line steps w b) (u : Update) (r : ℕ) → r < 64
    → Goal greatest i u (start_refused r w.state)
unfolding start_refused
refused_goal greatest {line} {steps} w b i u r h = at (feed (told_of u w.card (outcome (start_reply (BegunRefused r)))) b) (refused_told u w.card r b h)
  where
    not_started : {P : Type 0} → ◌≡◌ {A = Begun} (BegunRefused r) Started → P
    not_started e = impossible (cc)

    at : (l : Book) → l ≡ b → (k : ℕ) × (j : Inv greatest line k w l) × Fresh greatest u (start_refused r w.state) i j
    at l e =
        rw e
        (steps, i, record { idle_before = λ e. not_started e; steps_left = λ e. not_started e; busy = λ e. not_started e; new_goal = λ e. not_started e; new_due = λ e. not_started e })

-- the answer due by the book's pairs is that by the tree's
pub same_lookup : (greatest : ℕ) {line : Line} {steps : ℕ} {w : World (ration_table greatest)} {b : Book} (i : Inv greatest line steps w b) (key : ℕ)
    → lookup key (pairs i.tree) ≡ lookup key b.held
same_lookup greatest {b = b} i key = lookup_same key (pairs i.tree) b.held i.same.totals (key_once lowest_key key_limit key i.tree i.table.sound.range)

-- how many steps an update of the table may take. "h being the depth when the call began" (document 02, W-214) is that of every
-- tree that the card's words represent.
module _ (greatest : ℕ) {line : Line} {steps : ℕ} {w : World (ration_table greatest)} {b : Book} (i : Inv greatest line steps w b) where
  abbrev most_steps : ℕ
  most_steps = update_stores_at i.table.sound.level.0 + 1

  enough_steps : UpdateSteps i.tree most_steps
  enough_steps = record { height = i.table.sound.level.0; level = i.table.sound.level.1; enough = omega arith }

  steps_by_depth : (t : Tree) → WellFormed w.card t → (h : ℕ) → Height h t → most_steps ≤ update_stores_at h + 1
  steps_by_depth t v h j =
      omega (
        arith,
        same_height w.card line.nodes i.table.sized.words i.table.sized.most i.tree t
            (table_well_formed greatest i.table) v i.table.sound.level.0 h i.table.sound.level.1 j,
      )

-- started: the update is in hand, and its answer by the map is due
put_started : (greatest : ℕ) {line : Line} {steps : ℕ} (w : World (ration_table greatest)) (b : Book) (i : Inv greatest line steps w b) (free : List Bool) (last room key value : ℕ)
    → w.state ≡ memory line.nodes free last w.state.depth w.state.totals Idle [] [] → table_violations i.tree ≡ 0 → size i.tree + 3 ≤ line.limit → Partition line free i.tree
    → bare i.tree ≡ i.goal → lowest_key ≤ key → key < key_limit
    → start_room w.card key room (landing w.card w.state.nodes key) ≡ true → size i.tree + room ≤ line.limit → (depth : ℕ)
    → Goal greatest i (put key value) (start_accepted w.state (Inserting key value NotBegun) depth)
unfolding start_accepted start_reply outcome feed fed_start is_idle
put_started greatest {line} w b i free last room key value em z r x eg low high q below depth =
    let q' : start_room w.card key room (landing w.card line.nodes key) ≡ true = rw em at q in (
      most_steps greatest i,
      record {
        tree = i.tree;
        goal = after_shape (put key value) i.goal;
        due = dictionary_answer (lookup key (pairs i.tree));
        table = i.table;
        openable = i.openable;
        same = i.same;
        apart = i.apart;
        counted = i.counted;
        stage = rw em (stage_put {free = free} {last = last} room z r x low high q' below (enough_steps greatest i) (ap (after_shape (put key value)) eg));
      },
      record {
        idle_before = λ e. ap (λ (y : Memory). y.doing) em;
        steps_left = λ e. steps_by_depth greatest i;
        busy = λ e. refl;
        new_goal = λ e. refl;
        new_due = λ e. ap dictionary_answer (same_lookup greatest i key);
      },
    )

remove_started : (greatest : ℕ) {line : Line} {steps : ℕ} (w : World (ration_table greatest)) (b : Book) (i : Inv greatest line steps w b) (free : List Bool) (last key : ℕ)
    → w.state ≡ memory line.nodes free last w.state.depth w.state.totals Idle [] [] → table_violations i.tree ≡ 0 → size i.tree + 3 ≤ line.limit → Partition line free i.tree
    → bare i.tree ≡ i.goal → lowest_key ≤ key → key < key_limit
    → (depth : ℕ) → Goal greatest i (remove key) (start_accepted w.state (Deleting key NotBegun 0) depth)
unfolding start_accepted start_reply outcome feed fed_start is_idle
remove_started greatest w b i free last key em z r x eg low high depth = (
  most_steps greatest i,
  record {
    tree = i.tree;
    goal = after_shape (remove key) i.goal;
    due = dictionary_answer (lookup key (pairs i.tree));
    table = i.table;
    openable = i.openable;
    same = i.same;
    apart = i.apart;
    counted = i.counted;
    stage = rw em (stage_remove {free = free} {last = last} z r x low high (enough_steps greatest i) (ap (after_shape (remove key)) eg));
  },
  record {
    idle_before = λ e. ap (λ (y : Memory). y.doing) em;
    steps_left = λ e. steps_by_depth greatest i;
    busy = λ e. refl;
    new_goal = λ e. refl;
    new_due = λ e. ap dictionary_answer (same_lookup greatest i key);
  },
)

module _ (greatest : ℕ) (line : Line) (steps : ℕ) (w : World (ration_table greatest)) (b : Book) (i : Inv greatest line steps w b) where
  pub nodes_same : w.state.nodes ≡ line.nodes
  nodes_same = (idle_or_busy i.stage).0

  -- the leaf that a key leads to
  pub lands : (key : ℕ) → lowest_key ≤ key → key < key_limit → (leaf : ℕ) × (link : ℕ) × (above : ℕ) × (landing w.card w.state.nodes key ≡ landing_at leaf link above)
  lands key low high =
      let g = landing_found w.card line.nodes key i.table.sized.words lowest_key key_limit i.tree i.table.holds
      i.table.sound.range low high (omega arith) (table_depth_limited greatest i.table) in
      (g.number, link_place g.context, full_run g.context, rw nodes_same (landing_is w.card line.nodes key g.landed))

  -- the checks 1, 2 and 3 are passed
  passed : (key : ℕ) (doing : Doing) (room : Option Landing → Bool) → start_of greatest 1 w.card w.state key doing room ≡ start_checked 1 w.card w.state key doing room
  passed key doing room =
      start_checked_lem greatest 1 w.card w.state key doing room (rw nodes_same i.table.sized)
      (rw nodes_same (formatted_header w.card line.nodes i.table.header))

  -- on an idle state nothing but the room decides
  pub room_decides : (key : ℕ) (doing : Doing) (room : Option Landing → Bool) → w.state.doing ≡ Idle → lowest_key ≤ key → key < key_limit
      → start_of greatest 1 w.card w.state key doing room ≡ pick (room (landing w.card w.state.nodes key))
      (start_accepted w.state doing (start_depth 1 w.card w.state key)) (start_refused 8 w.state)
  room_decides key doing room idle low high =
      let g = lands key low high in
      passed key doing room ∙ start_landed_lem w.card w.state key doing room g.0 g.1 g.2 (is_idle_lem idle) (omega arith) g.3
      (seen_only w.card line.nodes (omega (arith, i.table.sized.words)) i.table.header)

  start_with : (key : ℕ) (doing : Doing) (room : Option Landing → Bool) (u : Update) → key < key_limit
      → ((free : List Bool) (last : ℕ) → w.state ≡ memory line.nodes free last w.state.depth w.state.totals Idle [] []
      → table_violations i.tree ≡ 0 → size i.tree + 3 ≤ line.limit → Partition line free i.tree → bare i.tree ≡ i.goal → lowest_key ≤ key
      → room (landing w.card w.state.nodes key) ≡ true → Goal greatest i u (start_accepted w.state doing (start_depth 1 w.card w.state key)))
      → Goal greatest i u (start_of greatest 1 w.card w.state key doing room)
  start_with key doing room u high begin = go (idle_or_busy i.stage).1
    where
      refused_with : (r : ℕ) → r < 64 → start_of greatest 1 w.card w.state key doing room ≡ start_refused r w.state → Goal greatest i u (start_of greatest 1 w.card w.state key doing room)
      refused_with r h e = subst (Goal greatest i u) (sym e) (refused_goal greatest w b i u r h)

      go : (is_idle w.state.doing ≡ false) ⊎ ((free : List Bool) × (last : ℕ) × (w.state ≡ memory line.nodes free last w.state.depth w.state.totals Idle [] [])
          × (table_violations i.tree ≡ 0) × (size i.tree + 3 ≤ line.limit) × Partition line free i.tree × (bare i.tree ≡ i.goal))
          → Goal greatest i u (start_of greatest 1 w.card w.state key doing room)
      go (inl q) = refused_with 7 (omega arith) (passed key doing room ∙ start_busy w.card w.state key doing room q)
      go (inr (free, last, em, z, r, x, eg)) =
          order key 1
          (λ o. refused_with 6 (omega arith) (passed key doing room ∙ start_zero w.card w.state key doing room (is_idle_lem idle) (omega arith)))
          (λ o. bool_cases (room (landing w.card w.state.nodes key))
          (λ q. subst (Goal greatest i u) (sym (room_decides key doing room idle o high ∙ rw q)) (begin free last em z r x eg o q))
          (λ q. refused_with 8 (omega arith) (room_decides key doing room idle o high ∙ rw q)))
        where
          idle : w.state.doing ≡ Idle
          idle = ap (λ (y : Memory). y.doing) em

  -- an insert that goes by so many free nodes, which are no more than the limit leaves
  pub started_insert : (room key value : ℕ) → key < key_limit → ((free : List Bool) → w.state.free ≡ free → Partition line free i.tree → size i.tree + room ≤ line.limit)
      → Goal greatest i (put key value) (start_of greatest 1 w.card w.state key (Inserting key value NotBegun) (start_room (seen 1 w.card) key room))
  started_insert room key value high below =
      start_with key (Inserting key value NotBegun) (start_room (seen 1 w.card) key room) (put key value) high
      (λ free last em z r x eg low q. put_started greatest w b i free last room key value em z r x eg low high (sym (room_seen 1 w.card key room _) ∙ q)
      (below free (ap (λ (y : Memory). y.free) em) x) (start_depth 1 w.card w.state key))

  -- a delete, which needs none
  pub started_delete : (key : ℕ) → key < key_limit → Goal greatest i (remove key) (start_of greatest 1 w.card w.state key (Deleting key NotBegun 0) (λ l. true))
  started_delete key high =
      start_with key (Deleting key NotBegun 0) (λ l. true) (remove key) high
      (λ free last em z r x eg low q. remove_started greatest w b i free last key em z r x eg low high (start_depth 1 w.card w.state key))

  pub kept_delete : (key : ℕ) → key < key_limit
      → (k : ℕ) × (j : Inv greatest line k (happens (ration_table greatest) (delete key) w) (feed (told (ration_table greatest) (delete key) w) b))
      × Fresh greatest (remove key) (delete_of greatest 1 w.card w.state key) i j
  unfolding happens told reply_to delete_of
  kept_delete key high = started_delete key high

-- "Starting an update stores nothing": on a card with one line an insert goes by the free bits
pub kept_insert : (greatest n steps : ℕ) (w : World (ration_table greatest)) (b : Book) (i : Inv greatest (only n) steps w b) (key value : ℕ) → key < key_limit
    → (k : ℕ) × (j : Inv greatest (only n) k (happens (ration_table greatest) (insert key value) w) (feed (told (ration_table greatest) (insert key value) w) b))
    × Fresh greatest (put key value) (insert_of greatest 1 w.card w.state key value) i j
unfolding happens told reply_to insert_of
kept_insert greatest n steps w b i key value high =
    started_insert greatest (only n) steps w b i (room_of w.state) key value high
    (λ free e x. omega (arith, count_only n free i.tree x (omega (arith, i.table.sized.most)), ap count_true e))
