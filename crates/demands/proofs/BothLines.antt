-- The invariant of a card with two lines (document 02, W-207): the line in hand with its work, on its own table, and the other at rest.
-- "At most one call is in hand on the whole card".
use mathlib.Core.Path.{◌≡◌, refl, sym, ap, subst, ◌∙◌}
use mathlib.Core.List.{List, [], ◌++◌}
use mathlib.Core.Logic.{◌⊎◌, inl, inr}
use mathlib.Core.Bool.{Bool, true, false}
use Prim.Native.Nat.{ℕ, suc, ◌+◌, ◌-◌, ◌≤◌, ◌<◌}
use native.Mathlib.Omega.{arith}
use lib.ListN.{length, get_or, set, length-set, length-append}
use lib.Seq.{get_or-set_other}
use Rattle.laws.specs.Totals.{indicator, total}
use Rattle.laws.proofs.Totals.{total_append, total_length}
use Rattle.card.specs.Header.{header_refusal, Sized, Formatted}
use Rattle.card.specs.Lines.{IsLine, has_line, seen, on_line}
use Rattle.card.specs.Layout.{key_limit}
use Rattle.card.proofs.LineLaws.{seen_length, seen_formatted, on_root, on_node}
use Rattle.card_family.proofs.FamilyLaws.{Totals}
use Rattle.card_free.specs.NodeSet.{capacity, count_true}
use Rattle.theory_change.proofs.Line.{Line, Partition, Own, size, partition_apart}
use Rattle.theory_change.proofs.NumbersIn.{numbers_in, numbers_total}
use Rattle.theory_change.proofs.ExactOver.{over_count}
use Rattle.theory_change.proofs.Repaired.{settled}
use Rattle.theory_change.proofs.TwoLines.{beside, partition_swap, among_numbers, other_stands}
use Rattle.theory_shapes.proofs.Bare.{bare}
use Rattle.theory_tree.specs.Pairs.{pairs}
use Rattle.theory_tree.specs.Tree.{Tree, node_total}
use Rattle.theory_tree.specs.Violations.{table_violations}
use Rattle.state.specs.Memory.{Memory}
use Rattle.state.specs.Answers.{start_reply}
use Rattle.state.specs.Steps.{Handed, is_idle}
use Rattle.state.specs.Answer.{Absent}
use Rattle.state.specs.declared.Doing.{Doing}
use Rattle.state.specs.declared.Doing.TheVariants.{Idle, Inserting, Deleting}
use Rattle.state.specs.declared.Phase.TheVariants.{NotBegun}
use Rattle.call_change.specs.Updates.{start_room}
use Rattle.call_start.specs.Starts.{start_of, delete_of}
use Rattle.state.proofs.Blocks.{with_totals}
use Rattle.call_step.specs.Calls.{step_of}
use Rattle.demands.specs.Book.{Update, Book, book, put, remove, empty, outcome, feed, told}
use Rattle.demands.specs.Events.{World, step}
use Rattle.demands.specs.RationTable.{ration_table}
use Rattle.demands.proofs.BookLaws.{Same}
use Rattle.demands.proofs.Invariant.{Table, Inv, told_of, stage_idle}
use Rattle.demands.proofs.LineWork.{StoresOwn, none, one, stores_own, long, sized_here, header_there, line_kept, seen_again, start_on_line}
use Rattle.demands.proofs.PowerLoss.{idle_not_busy}
use Rattle.demands.proofs.Starting.{idle_or_busy, started_insert, started_delete}
use Rattle.demands.proofs.Steps.{memory}
use Rattle.std.specs.Prelude.{Option}
use Rattle.walk.specs.declared.Landing.{Landing}

-- one of the two: its number, and the most nodes that it may use
pub record Side : Type 0 where
  pub number : ℕ
  pub limit : ℕ
  pub is : IsLine number

-- a line's table as one of its own, with this state
abbrev pub alone : (greatest : ℕ) → Side → List ℕ → Memory → World (ration_table greatest)
alone greatest l c m = record { card = seen l.number c; state = m }

-- The line l is in hand, with its work, and the book of it; l' is at rest, with its totals and its pairs.
pub record Both (greatest n : ℕ) (l l' : Side) (steps : ℕ) (c : List ℕ) (m : Memory) (at_rest : List ℕ) (b : Book) (others : List (ℕ × ℕ)) : Type 0 where
  pub apart : l.number ≡ l'.number → ⊥
  pub limits : l.limit + l'.limit ≤ n
  pub resting : Tree
  pub table : Table greatest (seen l'.number c) n resting
  pub balanced : table_violations resting ≡ 0
  pub room : size resting + 3 ≤ l'.limit
  pub same : Same (pairs resting) others
  pub counted : Totals at_rest (pairs resting)
  pub inv : Inv greatest (beside n l.limit resting) steps (alone greatest l c m) b

-- a store of a line's own is behind the words of the header that both lines have
past_header : (own : Line) (line p : ℕ) → IsLine line → Own own p → 3 < on_line line p
past_header own line p is (inl e) = omega (arith, on_root line p e, is.from)
past_header own line p is (inr k) = omega (arith, on_node line p (λ z. omega (arith, z, k.is)), k.is)

header_words : (line : ℕ) (c : List ℕ) (n : ℕ) → Formatted (seen line c) n → (get_or c 1 0 ≡ n) × (get_or c 2 0 ≡ 8) × (get_or c 3 0 ≡ 24)
unfolding seen
header_words line c n f = (f.nodes, f.first, f.each)

with_totals_lem : {n : ℕ} {totals at_rest : List ℕ} (m : Memory) (free : List Bool) (last : ℕ) → m ≡ memory n free last m.depth totals Idle [] []
    → with_totals m at_rest ≡ memory n free last m.depth at_rest Idle [] []
unfolding with_totals
with_totals_lem {at_rest = at_rest} m free last e = ap (λ (y : Memory). with_totals y at_rest) e

module _ (greatest n : ℕ) (l l' : Side) (c : List ℕ) (at_rest : List ℕ) (others : List (ℕ × ℕ)) where
  -- the line in hand has other work, on the same card
  pub both_with : {m m' : Memory} {b b' : Book} {steps k : ℕ} (x : Both greatest n l l' steps c m at_rest b others)
      → Inv greatest (beside n l.limit x.resting) k (alone greatest l c m') b' → Both greatest n l l' k c m' at_rest b' others
  both_with x i =
      record {
        apart = x.apart;
        limits = x.limits;
        resting = x.resting;
        table = x.table;
        balanced = x.balanced;
        room = x.room;
        same = x.same;
        counted = x.counted;
        inv = i;
      }

  module _ (m : Memory) (b : Book) where
    -- A STEP of the line in hand
    pub both_step : (steps : ℕ) (x : Both greatest n l l' (suc steps) c m at_rest b others) → header_refusal c m.nodes ≡ 0
        → Both greatest n l l' steps (step_of greatest l.number c m).card (step_of greatest l.number c m).memory at_rest
        (feed (told (ration_table greatest) step (alone greatest l c m)) b) others
    both_step steps x h =
        record {
          apart = x.apart;
          limits = x.limits;
          resting = x.resting;
          table = stands (stores_own greatest own l.number l.is c m b steps x.inv h);
          balanced = x.balanced;
          room = x.room;
          same = x.same;
          counted = x.counted;
          inv = line_kept greatest own l.number l.is c m b steps x.inv h;
        }
      where
        own : Line
        own = beside n l.limit x.resting

        -- the other line's table after a store of this one's own
        stored : (p v : ℕ) → Own own p → 8 ≤ length c → Table greatest (seen l'.number (set c (on_line l.number p) v)) n x.resting
        stored p v o long =
            record {
              sized = subst (λ (k : ℕ). Sized greatest k n)
                  (seen_length l'.number c long ∙ sym (length-set c at v) ∙ sym (seen_length l'.number (set c at v) (omega (arith, length-set c at v)))) x.table.sized;
              header = seen_formatted l'.number (set c at v) n (word 1 (omega arith) ∙ words.0) (word 2 (omega arith) ∙ words.1) (word 3 (omega arith) ∙ words.2);
              holds = other_stands own l.number l.is c long p v l'.number l'.is x.apart x.resting (among_numbers x.resting) o x.table.holds;
              sound = x.table.sound;
            }
          where
            at : ℕ
            at = on_line l.number p

            words : (get_or c 1 0 ≡ n) × (get_or c 2 0 ≡ 8) × (get_or c 3 0 ≡ 24)
            words = header_words l'.number c n x.table.header

            word : (j : ℕ) → j ≤ 3 → get_or (set c at v) j 0 ≡ get_or c j 0
            word j k = get_or-set_other c at j v 0 (λ z. omega (arith, z, k, past_header own l.number p l.is o))

        stands : StoresOwn greatest own l.number l.is c m b steps x.inv h → Table greatest (seen l'.number (step_of greatest l.number c m).card) n x.resting
        stands (none e f) = subst (λ (d : List ℕ). Table greatest (seen l'.number d) n x.resting) (sym e) x.table
        stands (one p v o e f) =
            subst (λ (d : List ℕ). Table greatest (seen l'.number d) n x.resting) (sym e)
            (stored p v o (long greatest own l.number l.is c m b x.inv))

    -- A TURN: nothing is in hand, and the line at rest is worked next
    pub both_turn : (steps : ℕ) (x : Both greatest n l l' steps c m at_rest b others) → m.doing ≡ Idle
        → Both greatest n l' l steps c (with_totals m at_rest) m.totals (book others empty) b.held
    both_turn steps x idle = go (idle_or_busy x.inv.stage).1
      where
        own : Line
        own = beside n l.limit x.resting

        t : Tree
        t = x.inv.tree

        go : (is_idle m.doing ≡ false) ⊎ ((free : List Bool) × (last : ℕ) × (m ≡ memory n free last m.depth m.totals Idle [] []) × (table_violations t ≡ 0)
            × (size t + 3 ≤ l.limit) × Partition own free t × (bare t ≡ x.inv.goal))
            → Both greatest n l' l steps c (with_totals m at_rest) m.totals (book others empty) b.held
        go (inl q) = absurd (idle_not_busy m.doing idle q)
        go (inr (free, last, em, z, r, p, g)) =
            record {
              apart = λ e. x.apart (sym e);
              limits = omega (arith, x.limits);
              resting = t;
              table = x.inv.table;
              balanced = z;
              room = r;
              same = x.inv.same;
              counted = x.inv.counted;
              inv = subst (λ (y : Memory). Inv greatest (beside n l'.limit t) steps (alone greatest l' c y) (book others empty)) (sym turned) (
                  record {
                    tree = x.resting;
                    table = x.table;
                    openable = record { key = 0; deep = 0; ready = settled x.balanced x.room };
                    same = x.same;
                    apart = partition_apart (swapped p r);
                    counted = x.counted;
                    goal = bare x.resting;
                    due = Absent;
                    stage = stage_idle x.balanced x.room (swapped p r) refl;
                  }
                  );
            }
          where
            swapped : Partition own free t → size t + 3 ≤ l.limit → Partition (beside n l'.limit t) free x.resting
            swapped p r = partition_swap n l.limit l'.limit free t x.resting x.limits (omega (arith, r)) p

            turned : with_totals m at_rest ≡ memory n free last m.depth at_rest Idle [] []
            turned = with_totals_lem m free last em

-- ---- starts

-- a line's room: the free nodes less those that it may not use, which are what its limit and the other line's own nodes leave of N
pub room_below : (n limit back : ℕ) (free : List Bool) (t s : Tree) → n < capacity → size t ≤ limit → Partition (beside n limit s) free t → back + (limit + size s) ≡ n
    → size t + (count_true free - back) ≤ limit
room_below n limit back free t s few fits x e =
    let all = over_count n free (λ m. node_total (indicator m) t + total (indicator m) (numbers_in s)) x.exact (numbers_in t ++ numbers_in s) few
    (λ i. omega (arith, total_append (indicator i) (numbers_in t) (numbers_in s), numbers_total (indicator i) t)) in
    omega (
      arith,
      all,
      e,
      fits,
      length-append (numbers_in t) (numbers_in s),
      numbers_total (λ m. 1) t,
      numbers_total (λ m. 1) s,
      total_length (numbers_in t),
      total_length (numbers_in s),
    )

module _ (greatest n : ℕ) (l l' : Side) (c : List ℕ) (m : Memory) (at_rest : List ℕ) (b : Book) (others : List (ℕ × ℕ)) (steps : ℕ)
    (x : Both greatest n l l' steps c m at_rest b others) (has : has_line c l.number ≡ true) (right : header_refusal c m.nodes ≡ 0) (key : ℕ) (high : key < key_limit) where
  abbrev own : Line
  own = beside n l.limit x.resting

  abbrev table : List ℕ
  table = seen l.number c

  -- a start on the card is the start on the line's table
  here : (doing : Doing) (room : Option Landing → Bool) → start_of greatest l.number c m key doing room ≡ start_of greatest 1 table m key doing room
  here doing room =
      start_on_line greatest l.number c m key doing room has (sized_here greatest own l.number l.is c m b x.inv) right
      (header_there greatest own l.number l.is c m b x.inv)

  -- what a start hands back, refused or not, on the line in hand
  abbrev Started : Update → Handed → Type 0
  Started u g = (k : ℕ) × Both greatest n l l' k c g.memory at_rest (feed (told_of u table (outcome (start_reply g.begun))) b) others

  -- A START of an insert, which goes by so many free nodes as the limit allows
  pub both_insert : (value room : ℕ) → ((free : List Bool) → m.free ≡ free → Partition own free x.inv.tree → size x.inv.tree + room ≤ l.limit)
      → Started (put key value) (start_of greatest l.number c m key (Inserting key value NotBegun) (start_room table key room))
  both_insert value room below =
      let g = started_insert greatest own steps (alone greatest l c m) b x.inv room key value high below in
      let same = here (Inserting key value NotBegun) (start_room table key room)
      ∙ ap (λ (d : List ℕ). start_of greatest 1 table m key (Inserting key value NotBegun) (start_room d key room)) (sym (seen_again l.number c)) in
      subst (Started (put key value)) (sym same) (g.0, both_with greatest n l l' c at_rest others x g.1)

  -- A START of a delete
  pub both_delete : Started (remove key) (delete_of greatest l.number c m key)
  unfolding delete_of
  both_delete =
      let g = started_delete greatest own steps (alone greatest l c m) b x.inv key high in
      subst (Started (remove key)) (sym (here (Deleting key NotBegun 0) (λ y. true))) (g.0, both_with greatest n l l' c at_rest others x g.1)
