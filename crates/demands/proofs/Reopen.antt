-- Opening a card that holds a sound table with enough free nodes succeeds, and hands back the state that the table asks for.
use mathlib.Core.Path.{◌≡◌, refl, ap, ◌∙◌}
use mathlib.Core.List.{List}
use mathlib.Core.Bool.{Bool, true, false}
use mathlib.Core.Option.{some}
use mathlib.Core.Logic.{◌⊎◌, inl, inr}
use Prim.Native.Nat.{ℕ, ◌+◌, ◌*◌, ◌≤◌}
use native.Mathlib.Omega.{arith}
use lib.ListN.{length}
use borrow.Author.Tests.{le-ltb, ne_eqb}
use Rattle.theory_change.proofs.Line.{Line, Partition, only, size, partition_only, count_only}
use Rattle.card.specs.Header.{nodes_of_length, header_refusal, card_refusal, Sized, Formatted}
use Rattle.card.proofs.HeaderLaws.{sized_nodes, formatted_header}
use Rattle.card.specs.Layout.{lowest_key, key_limit, depth_limit, search_start}
use Rattle.theory_tree.specs.FreeNodes.{Exact}
use Rattle.theory_change.proofs.Plays.{Openable}
use Rattle.theory_change.proofs.Repaired.{Mendable, settled, violated}
use Rattle.theory_change.proofs.Reserve.{reserve_total}
use Rattle.theory_walk.proofs.Way.{depth_plug}
use Rattle.card_free.specs.NodeSet.{count_true}
use Rattle.laws.proofs.Bits.{bit_true, bit_false}
use Rattle.laws.proofs.Cases.{bool_cases}
use Rattle.demands.proofs.Invariant.{Table, Stage, job_repair, no_update, stage_idle, stage_between}
use Rattle.demands.specs.Book.{empty}
use Rattle.card_check.specs.Check.{Findings, table_check}
use Rattle.card_check.specs.Counting.{table_counted}
use Rattle.theory_check.proofs.Depth.{well_formed_depth}
use Rattle.theory_check.proofs.Facts.{Facts}
use Rattle.theory_check.proofs.Ranges.{well_formed_in_range, range_sound}
use Rattle.theory_check.proofs.Soundness.{sound_accepted}
use Rattle.state.specs.Steps.{Handed, is_idle}
use Rattle.call_open.specs.Opening.{open_sound, open_checked, open_of}
use Rattle.state.specs.Memory.{Memory, resting}
use Rattle.state.specs.declared.Doing.{Doing}
use Rattle.state.specs.declared.Doing.TheVariants.{Idle, Repairing}
use Rattle.state.specs.Answer.{Ready}
use Rattle.state.specs.Begun.{Idle as OpenedIdle, Started}
use Rattle.theory_tree.proofs.Pairs.{depth}
use Rattle.theory_tree.proofs.Path.{depth_of, reserve, Violation}
use Rattle.theory_tree.specs.Tree.{Tree}
use Rattle.theory_shapes.proofs.Bare.{bare, bare_table_violations}
use Rattle.theory_shapes.proofs.Whole.{settled_by, heads_done}
use Rattle.theory_tree.specs.Violations.{table_violations}
use Rattle.theory_tree.specs.WellFormed.{WellFormed}

-- a sound tree on the card is a well-formed table, and the other way round
pub table_well_formed : (greatest : ℕ) {c : List ℕ} {n : ℕ} {t : Tree} → Table greatest c n t → WellFormed c t
table_well_formed greatest {c} {n} {t} b =
    record {
      holds = b.holds;
      once = b.sound.once;
      sound = range_sound lowest_key key_limit t b.sound.range;
      widths = b.sound.widths;
      level = b.sound.level;
      few_violations = b.sound.few_violations;
    }

pub well_formed_table : (greatest : ℕ) {c : List ℕ} {n : ℕ} {t : Tree} → Sized greatest (length c) n → Formatted c n → WellFormed c t → Table greatest c n t
well_formed_table greatest s f w =
    record {
      sized = s;
      header = f;
      holds = w.holds;
      sound = record { once = w.once; range = well_formed_in_range w; widths = w.widths; level = w.level; few_violations = w.few_violations };
    }

-- the way down is never too deep
pub table_depth_limited : (greatest : ℕ) {c : List ℕ} {n : ℕ} {t : Tree} → Table greatest c n t → depth t ≤ depth_limit
table_depth_limited greatest {c} {n} {t} b = well_formed_depth c n b.sized.words t b.sized.most (table_well_formed greatest b)

-- no refusal 1: what is left is the header's
pub length_accepted : (greatest : ℕ) (c : List ℕ) (n : ℕ) → Sized greatest (length c) n → card_refusal greatest c ≡ header_refusal c n
unfolding card_refusal
length_accepted greatest c n s = let e = sized_nodes greatest (length c) n s in rw (e, ne_eqb n 0 (omega (arith, s.least)))

-- no refusal 1, 2 or 3
pub card_accepted : (greatest : ℕ) {c : List ℕ} {n : ℕ} → Sized greatest (length c) n → Formatted c n → (card_refusal greatest c ≡ 0) × (nodes_of_length greatest (length c) ≡ n)
card_accepted greatest {c} {n} s f = (length_accepted greatest c n s ∙ formatted_header c n f, sized_nodes greatest (length c) n s)

-- opening, by what the check finds
module _ (greatest : ℕ) (c : List ℕ) (n h : ℕ) (f : Findings) (s : Sized greatest (length c) n) (k : Formatted c n) (e : table_check c n ≡ some (h, f)) where
  pub open_sound_lem : open_of greatest c ≡ open_sound n (search_start c) (table_counted c) f
  unfolding open_of open_checked
  open_sound_lem = let a = card_accepted greatest s k in rw (a.0, a.1, e)

module _ (greatest : ℕ) (c : List ℕ) (n h : ℕ) (f : Findings) (s : Sized greatest (length c) n) (k : Formatted c n) (e : table_check c n ≡ some (h, f)) (room : 3 + f.run ≤ count_true f.free) where
  pub open_repair : f.violated ≡ true → open_of greatest c ≡ record { begun = Started; memory = resting n f.free (search_start c) (table_counted c) (Repairing f.key) }
  unfolding open_sound
  open_repair v = open_sound_lem greatest c n h f s k e ∙ rw (le-ltb (count_true f.free) (3 + f.run) room, v)

  pub open_idle : f.violated ≡ false → open_of greatest c ≡ record { begun = OpenedIdle; memory = resting n f.free (search_start c) (table_counted c) Idle }
  unfolding open_sound
  open_idle v = open_sound_lem greatest c n h f s k e ∙ rw (le-ltb (count_true f.free) (3 + f.run) room, v)

pub facts_exact : {c : List ℕ} {n h : ℕ} {t : Tree} {f : Findings} → Facts c n t h f → Exact n f.free t
facts_exact x = record { size = x.free_length; within = x.free_in; outside_none = x.free_out }

-- what opening hands back, and that it does not refuse
pub record Reopened (greatest : ℕ) (c : List ℕ) (n : ℕ) (t : Tree) : Type 0 where
  pub steps : ℕ
  pub few_steps : steps ≤ 73 * depth_limit + 1
  pub goal : Tree
  pub goal_is : goal ≡ settled_by depth_limit (bare t)
  pub stage : Stage c (only n) t goal steps (open_of greatest c).memory empty Ready
  pub rebuilt : (open_of greatest c).memory.totals ≡ table_counted c
  pub hands : (((open_of greatest c).begun ≡ OpenedIdle) × ((open_of greatest c).memory.doing ≡ Idle)) ⊎ (((open_of greatest c).begun ≡ Started) × (is_idle (open_of greatest c).memory.doing ≡ false))

repair_busy : (n last : ℕ) (totals : List ℕ) (free : List Bool) (key : ℕ) → is_idle (resting n free last totals (Repairing key)).doing ≡ false
unfolding resting is_idle
repair_busy n last totals free key = refl

-- the violation lies above the depth limit
violation_deep : (t : Tree) (key : ℕ) (v : Violation t key) → depth_of v.context ≤ depth t
violation_deep t key v = rw v.is_tree (omega (arith, depth_plug v.context v.part))

-- the stage of a table just opened, for a line whose free nodes these are
pub record OpenedStage (c : List ℕ) (line : Line) (t : Tree) (m : Memory) : Type 0 where
  pub steps : ℕ
  pub few_steps : steps ≤ 73 * depth_limit + 1
  pub goal : Tree
  pub goal_is : goal ≡ settled_by depth_limit (bare t)
  pub stage : Stage c line t goal steps m empty Ready

module _ (greatest : ℕ) (c : List ℕ) (line : Line) (t : Tree) (b : Table greatest c line.nodes t) (o : Openable line.limit t) where
  -- the nodes kept are enough, for whichever key leads to the violation
  pub room_for : (key : ℕ) (v : Violation t key) → table_violations t ≡ 1 → size t + (3 + reserve v.context v.part) ≤ line.limit
  room_for key v w = at o.deep o.ready
    where
      at : (d : ℕ) → Mendable o.key line.limit t d → size t + (3 + reserve v.context v.part) ≤ line.limit
      at d (settled z r) = absurd (omega arith)
      at d (violated v₀ w₀ r) = omega (arith, reserve_total t o.key b.sound.widths w v₀, reserve_total t key b.sound.widths w v)

  pub room_idle : table_violations t ≡ 0 → size t + 3 ≤ line.limit
  room_idle z = at o.deep o.ready
    where
      at : (d : ℕ) → Mendable o.key line.limit t d → size t + 3 ≤ line.limit
      at d (settled z r) = r
      at d (violated v₀ w₀ r) = absurd (omega arith)

  module _ (free : List Bool) (x : Partition line free t) (last : ℕ) (totals : List ℕ) where
    -- "or one with the repair in progress"
    pub opened_broken : (key : ℕ) (v : Violation t key) → table_violations t ≡ 1 → OpenedStage c line t (resting line.nodes free last totals (Repairing key))
    unfolding resting
    opened_broken key v w =
        let deep : depth_of v.context ≤ depth_limit = omega (arith, violation_deep t key v, table_depth_limited greatest b) in
        record {
          steps = 73 * depth_of v.context + 1;
          few_steps = omega (arith, deep);
          goal = settled_by depth_limit (bare t);
          goal_is = refl;
          stage = stage_between job_repair no_update (depth_of v.context) (violated v w (room_for key v w)) x (omega arith)
              (record { repairs = depth_limit; enough = deep; reaches = refl });
        }

    -- "an idle state"
    pub opened_whole : table_violations t ≡ 0 → OpenedStage c line t (resting line.nodes free last totals Idle)
    unfolding resting
    opened_whole z =
        record {
          steps = 0;
          few_steps = omega arith;
          goal = bare t;
          goal_is = heads_done {deep = 0} (record { repairs = depth_limit; enough = omega arith; reaches = refl }) (bare_table_violations t ∙ z);
          stage = stage_idle z (room_idle z) x refl;
        }

pub totals_in : (n last : ℕ) (totals : List ℕ) (doing : Doing) (free : List Bool) → (resting n free last totals doing).totals ≡ totals
unfolding resting
totals_in n last totals doing free = refl

idle_in : (n last : ℕ) (totals : List ℕ) (free : List Bool) → (resting n free last totals Idle).doing ≡ Idle
unfolding resting
idle_in n last totals free = refl

pub reopened : (greatest : ℕ) (c : List ℕ) (n : ℕ) (t : Tree) → Table greatest c n t → Openable n t → Reopened greatest c n t
reopened greatest c n t b o = go (sound_accepted c n b.sized.words b.sized.most t (table_well_formed greatest b))
  where
    -- the free nodes found are those that the limit leaves
    part_of : (f : Findings) (h : ℕ) → Facts c n t h f → Partition (only n) f.free t
    part_of f h x = partition_only c n f.free t b.sized.words b.holds.2 (facts_exact x)

    counted : (f : Findings) (h : ℕ) → Facts c n t h f → count_true f.free + size t ≡ n
    counted f h x = count_only n f.free t (part_of f h x) (omega (arith, b.sized.most))

    go : ((h : ℕ) × (f : Findings) × (table_check c n ≡ some (h, f)) × Facts c n t h f) → Reopened greatest c n t
    go (h, f, e, x) = bool_cases f.violated broken whole
      where
        broken : f.violated ≡ true → Reopened greatest c n t
        broken q =
            let w : table_violations t ≡ 1 = omega (arith, x.violated, bit_true f.violated q) in
            let v = x.violation q in
            let room = room_for greatest c (only n) t b o f.key v.0 w in
            let is = open_repair greatest c n h f b.sized b.header e (omega (arith, v.1, room, counted f h x)) q in
            let work = opened_broken greatest c (only n) t b o f.free (part_of f h x) (search_start c) (table_counted c) f.key v.0 w in
            record {
              steps = work.steps;
              few_steps = work.few_steps;
              stage = rw is work.stage;
              goal = work.goal;
              goal_is = work.goal_is;
              hands = inr (ap (λ (x : Handed). x.begun) is, ap (λ (x : Handed). is_idle x.memory.doing) is ∙ repair_busy n (search_start c) (table_counted c) f.free f.key);
              rebuilt = ap (λ (x : Handed). x.memory.totals) is ∙ totals_in n (search_start c) (table_counted c) (Repairing f.key) f.free;
            }

        whole : f.violated ≡ false → Reopened greatest c n t
        whole q =
            let z : table_violations t ≡ 0 = omega (arith, x.violated, bit_false f.violated q) in
            let r : f.run ≡ 0 = x.no_run q in
            let is = open_idle greatest c n h f b.sized b.header e (omega (arith, room_idle greatest c (only n) t b o z, counted f h x)) q in
            let work = opened_whole greatest c (only n) t b o f.free (part_of f h x) (search_start c) (table_counted c) z in
            record {
              steps = work.steps;
              few_steps = work.few_steps;
              stage = rw is work.stage;
              goal = work.goal;
              goal_is = work.goal_is;
              hands = inl (ap (λ (x : Handed). x.begun) is, ap (λ (x : Handed). x.memory.doing) is ∙ idle_in n (search_start c) (table_counted c) f.free);
              rebuilt = ap (λ (x : Handed). x.memory.totals) is ∙ totals_in n (search_start c) (table_counted c) Idle f.free;
            }
