-- A card of two lines that is opened (document 02, W-207): at every moment of the work on it, wherever power goes, the two checks of an
-- opening pass, and what they find is the invariant of two lines again.
use mathlib.Core.Path.{◌≡◌, sym, ap, subst, ◌∙◌}
use mathlib.Core.List.{List}
use mathlib.Core.Bool.{Bool, true, false}
use mathlib.Core.Logic.{◌⊎◌, inl, inr, by_cases}
use mathlib.Core.Option.{some}
use Prim.Native.Nat.{ℕ, ◌+◌, ◌*◌, ◌≤◌, ◌<◌}
use native.Mathlib.Omega.{arith}
use native.Mathlib.Decide.{ℕ_discrete}
use lib.ListN.{length, get_or}
use Rattle.laws.specs.Bits.{bit}
use Rattle.laws.proofs.Cases.{order}
use Rattle.laws.proofs.Bits.{bit_zero}
use Rattle.laws.specs.Totals.{indicator}
use Rattle.laws.proofs.Totals.{total_length}
use Rattle.card.specs.Layout.{greatest_nodes}
use Rattle.card.specs.Lines.{seen}
use Rattle.card.proofs.LineLaws.{seen_length}
use Rattle.card_check.specs.Check.{Findings, start}
use Rattle.card_family.proofs.FamilyLaws.{Totals}
use Rattle.card_free.specs.NodeSet.{capacity, all_nodes}
use Rattle.card_free.proofs.NodeSetLaws.{length_all, all_zero_lem, all_get, all_above}
use Rattle.theory_change.proofs.Line.{Line, Partition, size}
use Rattle.theory_change.proofs.NumbersIn.{numbers_in, numbers_total}
use Rattle.theory_change.proofs.ExactOver.{ExactOver}
use Rattle.theory_change.proofs.TwoLines.{beside}
use Rattle.theory_check.proofs.Facts.{Learnt}
use Rattle.theory_check.proofs.TwoTrees.{line_check, SoundLines, lines_accepted}
use Rattle.theory_tree.proofs.Path.{reserve, Violation}
use Rattle.theory_tree.specs.Pairs.{pairs}
use Rattle.theory_tree.specs.Tree.{Tree, node_total}
use Rattle.theory_tree.specs.Violations.{table_violations}
use Rattle.theory_tree.specs.WellFormed.{WellFormed}
use Rattle.state.specs.Memory.{Memory, resting}
use Rattle.state.specs.Answer.{Ready}
use Rattle.state.specs.declared.Doing.TheVariants.{Idle, Repairing}
use Rattle.call_step.specs.Calls.{repair_steps}
use Rattle.demands.specs.Book.{Book, book, empty}
use Rattle.demands.proofs.BothLines.{Side, alone, Both}
use Rattle.demands.proofs.LineWork.{long}
use Rattle.demands.proofs.PowerLoss.{loosen}
use Rattle.demands.proofs.Reopen.{table_well_formed, OpenedStage, room_for, room_idle, opened_broken, opened_whole, totals_in}

module _ (greatest n : ℕ) (l l' : Side) (steps : ℕ) (c : List ℕ) (m : Memory) (at_rest : List ℕ) (b : Book) (others : List (ℕ × ℕ))
    (x : Both greatest n l l' steps c m at_rest b others) where
  abbrev t : Tree
  t = x.inv.tree

  abbrev s : Tree
  s = x.resting

  -- AT EVERY MOMENT both trees are sound, no node is in both, and at most one has a fault
  apart_nodes : (i : ℕ) → node_total (indicator i) t + node_total (indicator i) s ≤ 1
  apart_nodes i = omega (arith, x.inv.apart i, numbers_total (indicator i) s)

  pub both_sound : (l.number ≡ 1) × (l'.number ≡ 2) → SoundLines c t s
  both_sound (e, e') =
      record {
        first = subst (λ (k : ℕ). WellFormed (seen k c) t) e (table_well_formed greatest x.inv.table);
        second = subst (λ (k : ℕ). WellFormed (seen k c) s) e' (table_well_formed greatest x.table);
        apart = apart_nodes;
        one_fault = omega (arith, x.inv.table.sound.few_violations, x.balanced);
      }

  pub both_sound_turned : (l.number ≡ 2) × (l'.number ≡ 1) → SoundLines c s t
  both_sound_turned (e, e') =
      record {
        first = subst (λ (k : ℕ). WellFormed (seen k c) s) e' (table_well_formed greatest x.table);
        second = subst (λ (k : ℕ). WellFormed (seen k c) t) e (table_well_formed greatest x.inv.table);
        apart = λ i. omega (arith, apart_nodes i);
        one_fault = omega (arith, x.inv.table.sound.few_violations, x.balanced);
      }

  -- the line in hand is 1 and the other 2, or the other way round
  pub which : ((l.number ≡ 1) × (l'.number ≡ 2)) ⊎ ((l.number ≡ 2) × (l'.number ≡ 1))
  which =
      by_cases (ℕ_discrete l.number 1)
      (λ e. by_cases (ℕ_discrete l'.number 2) (λ e'. inl (e, e')) (λ d. absurd (x.apart (omega (arith, e, other l'.number d l'.is.from l'.is.to)))))
      (λ d. by_cases (ℕ_discrete l'.number 1) (λ e'. inr (second l.number d l.is.from l.is.to, e'))
      (λ d'. absurd (x.apart (second l.number d l.is.from l.is.to ∙ sym (second l'.number d' l'.is.from l'.is.to)))))
    where
      second : (k : ℕ) → (k ≡ 1 → ⊥) → 1 ≤ k → k ≤ 2 → k ≡ 2
      second k d a b = by_cases (ℕ_discrete k 2) (λ e. e) (λ d₂. absurd (d (omega (arith, a, b, d₂))))

      other : (k : ℕ) → (k ≡ 2 → ⊥) → 1 ≤ k → k ≤ 2 → k ≡ 1
      other k d a b = by_cases (ℕ_discrete k 1) (λ e. e) (λ d₁. absurd (d (second k d₁ a b)))

  -- AFTER A CUT: with the free nodes and the totals that an opening finds
  module _ (free : List Bool) (exact : ExactOver n free (λ i. node_total (indicator i) t + node_total (indicator i) s)) (last : ℕ) (totals rest : List ℕ)
      (counted : Totals totals (pairs t)) (counted_rest : Totals rest (pairs s)) where
    abbrev Opened : Memory → Type 0
    Opened after = Both greatest n l l' repair_steps c after rest (book b.held empty) others

    partition : Partition (beside n l.limit s) free t
    partition =
        record {
          exact = record {
            size = exact.size;
            within = λ i a b. omega (arith, exact.within i a b, numbers_total (indicator i) s);
            outside_none = λ i o. let z = exact.outside_none i o in (z.0, omega (arith, z.1, numbers_total (indicator i) s));
          };
          fits = omega (arith, x.limits, x.room, numbers_total (λ k. 1) s, total_length (numbers_in s));
        }

    opened : (after : Memory) → after.totals ≡ totals → OpenedStage (seen l.number c) (beside n l.limit s) t after → Opened after
    opened after e w =
        record {
          apart = x.apart;
          limits = x.limits;
          resting = s;
          table = x.table;
          balanced = x.balanced;
          room = x.room;
          same = x.same;
          counted = counted_rest;
          inv = loosen greatest (beside n l.limit s) w.steps repair_steps (alone greatest l c after) (book b.held empty) w.few_steps
              (record {
                tree = t;
                table = x.inv.table;
                openable = x.inv.openable;
                same = x.inv.same;
                apart = x.inv.apart;
                counted = subst (λ (k : List ℕ). Totals k (pairs t)) (sym e) counted;
                goal = w.goal;
                due = Ready;
                stage = w.stage;
              });
        }

    -- the fault of the call that was cut is repaired first, by a key that leads to it
    pub cut_broken : (key : ℕ) → Violation t key → table_violations t ≡ 1 → Opened (resting n free last totals (Repairing key))
    cut_broken key v w =
        opened (resting n free last totals (Repairing key)) (totals_in n last totals (Repairing key) free)
        (opened_broken greatest (seen l.number c) (beside n l.limit s) t x.inv.table x.inv.openable free partition last totals key v w)

    pub cut_whole : table_violations t ≡ 0 → Opened (resting n free last totals Idle)
    cut_whole z =
        opened (resting n free last totals Idle) (totals_in n last totals Idle free)
        (opened_whole greatest (seen l.number c) (beside n l.limit s) t x.inv.table x.inv.openable free partition last totals z)

-- what the two checks leave free are the nodes of neither tree
learnt_exact : (n : ℕ) (t s : Tree) (h g : ℕ) (f e : Findings) → n < capacity → Learnt (start n) t h f → Learnt f s g e
    → ExactOver n e.free (λ i. node_total (indicator i) t + node_total (indicator i) s)
learnt_exact n t s h g f e small a b =
    record {
      size = b.free_length ∙ a.free_length ∙ length_all n small;
      within = λ i from to. omega (arith, a.free_in i, b.free_in i, ap bit (all_get n i from to small));
      outside_none = λ i o. let z = none_there i o in (bit_zero (get_or e.free i false) (omega (arith, a.free_in i, b.free_in i, z)), omega (arith, a.free_in i, b.free_in i, z));
    }
  where
    none_there : (i : ℕ) → (i ≡ 0) ⊎ (n < i) → bit (get_or (all_nodes n) i false) ≡ 0
    none_there i (inl e) = ap bit (ap (λ (j : ℕ). get_or (all_nodes n) j false) e ∙ all_zero_lem n)
    none_there i (inr h) = ap bit (all_above n i h)

module _ (greatest n : ℕ) (l l' : Side) (steps : ℕ) (c : List ℕ) (m : Memory) (at_rest : List ℕ) (b : Book) (others : List (ℕ × ℕ))
    (x : Both greatest n l l' steps c m at_rest b others) where
  -- what an opening finds, wherever power goes: its checks pass, and the invariant holds of what it hands back, with the repair of the
  -- fault in hand or idle
  pub record Reopens : Type 0 where
    pub height : ℕ
    pub first : Findings
    pub height_second : ℕ
    pub found : Findings
    pub passed_first : line_check 1 c n (start n) ≡ some (height, first)
    pub passed_second : line_check 2 c n first ≡ some (height_second, found)
    -- "5 for either line": neither is short of nodes, the 11-child nodes asked only of the line that they stand in
    pub room : size x.inv.tree + (3 + found.run) ≤ l.limit
    pub room_rest : size x.resting + 3 ≤ l'.limit
    pub broken : (last : ℕ) (totals rest : List ℕ) → Totals totals (pairs x.inv.tree) → Totals rest (pairs x.resting) → found.violated ≡ true
        → Both greatest n l l' repair_steps c (resting n found.free last totals (Repairing found.key)) rest (book b.held empty) others
    pub whole : (last : ℕ) (totals rest : List ℕ) → Totals totals (pairs x.inv.tree) → Totals rest (pairs x.resting) → found.violated ≡ false
        → Both greatest n l l' repair_steps c (resting n found.free last totals Idle) rest (book b.held empty) others

  abbrev own : Line
  own = beside n l.limit x.resting

  few : n ≤ greatest_nodes
  few = omega (arith, x.table.sized.most)

  words : length c ≡ 8 + 24 * n
  words =
      sym (seen_length l.number c (long greatest own l.number l.is c m b x.inv))
      ∙ x.inv.table.sized.words

  -- the run that was found is the one that the repair's nodes were kept for
  room_found : (key run : ℕ) → (table_violations x.inv.tree ≡ 1 → (v : Violation x.inv.tree key) × (run ≡ reserve v.context v.part))
      → (table_violations x.inv.tree ≡ 0 → run ≡ 0) → size x.inv.tree + (3 + run) ≤ l.limit
  room_found key run one none =
      order (table_violations x.inv.tree) 1
      (λ o. let z : table_violations x.inv.tree ≡ 0 = omega arith in
      omega (arith, none z, room_idle greatest (seen l.number c) own x.inv.tree x.inv.table x.inv.openable z))
      (λ o. let w : table_violations x.inv.tree ≡ 1 = omega (arith, x.inv.table.sound.few_violations) in
      let v = one w in omega (arith, v.1, room_for greatest (seen l.number c) own x.inv.tree x.inv.table x.inv.openable key v.0 w))

  -- THE CUT of a card with two lines
  pub both_reopens : Reopens
  both_reopens = go (which greatest n l l' steps c m at_rest b others x)
    where
      go : ((l.number ≡ 1) × (l'.number ≡ 2)) ⊎ ((l.number ≡ 2) × (l'.number ≡ 1)) → Reopens
      go (inl e) =
          let k = lines_accepted c n words few x.inv.tree x.resting (both_sound greatest n l l' steps c m at_rest b others x e) in
          let exact = learnt_exact n x.inv.tree x.resting k.height k.height_second k.found_first k.found_both (omega (arith, few)) k.learnt_first k.learnt_second in
          let faults : bit k.found_both.violated ≡ table_violations x.inv.tree = omega (arith, k.learnt_first.violated, k.learnt_second.violated, x.balanced) in
          record {
            height = k.height;
            first = k.found_first;
            height_second = k.height_second;
            found = k.found_both;
            passed_first = k.passed_first;
            passed_second = k.passed_second;
            room = room_found k.found_first.key k.found_both.run
                (λ w. let v = k.learnt_first.violation w in (v.0, (k.learnt_second.unchanged x.balanced).1 ∙ v.1))
                (λ z. (k.learnt_second.unchanged x.balanced).1 ∙ (k.learnt_first.unchanged z).1);
            room_rest = x.room;
            broken = λ last totals rest ct cr q.
                let w : table_violations x.inv.tree ≡ 1 = sym faults ∙ ap bit q in
                cut_broken greatest n l l' steps c m at_rest b others x k.found_both.free exact last totals rest ct cr k.found_both.key
                (subst (Violation x.inv.tree) (sym (k.learnt_second.unchanged x.balanced).0) (k.learnt_first.violation w).0) w;
            whole = λ last totals rest ct cr q.
                cut_whole greatest n l l' steps c m at_rest b others x k.found_both.free exact last totals rest ct cr (sym faults ∙ ap bit q);
          }
      go (inr e) =
          let k = lines_accepted c n words few x.resting x.inv.tree (both_sound_turned greatest n l l' steps c m at_rest b others x e) in
          let turned = learnt_exact n x.resting x.inv.tree k.height k.height_second k.found_first k.found_both (omega (arith, few)) k.learnt_first k.learnt_second in
          let exact = exact_turned turned in
          let faults : bit k.found_both.violated ≡ table_violations x.inv.tree = omega (arith, k.learnt_first.violated, k.learnt_second.violated, x.balanced) in
          record {
            height = k.height;
            first = k.found_first;
            height_second = k.height_second;
            found = k.found_both;
            passed_first = k.passed_first;
            passed_second = k.passed_second;
            room = room_found k.found_both.key k.found_both.run (λ w. let v = k.learnt_second.violation w in (v.0, v.1))
                (λ z. (k.learnt_second.unchanged z).1 ∙ (k.learnt_first.unchanged x.balanced).1);
            room_rest = x.room;
            broken = λ last totals rest ct cr q.
                let w : table_violations x.inv.tree ≡ 1 = sym faults ∙ ap bit q in
                cut_broken greatest n l l' steps c m at_rest b others x k.found_both.free exact last totals rest ct cr k.found_both.key (k.learnt_second.violation w).0 w;
            whole = λ last totals rest ct cr q.
                cut_whole greatest n l l' steps c m at_rest b others x k.found_both.free exact last totals rest ct cr (sym faults ∙ ap bit q);
          }
        where
          exact_turned : {free : List Bool} → ExactOver n free (λ i. node_total (indicator i) x.resting + node_total (indicator i) x.inv.tree)
              → ExactOver n free (λ i. node_total (indicator i) x.inv.tree + node_total (indicator i) x.resting)
          exact_turned y =
              record {
                size = y.size;
                within = λ i a b. omega (arith, y.within i a b);
                outside_none = λ i o. let z = y.outside_none i o in (z.0, omega (arith, z.1));
              }
