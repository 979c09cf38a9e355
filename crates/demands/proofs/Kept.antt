-- Every event keeps the invariant; a step uses one of the steps that are left.
use mathlib.Core.Path.{◌≡◌, refl, ◌∙◌, sym}
use mathlib.Core.List.{List, [], ◌∷◌}
use mathlib.Core.Bool.{Bool}
use mathlib.Core.Option.{Option, some}
use mathlib.Core.Logic.{◌≢◌, ⊎_elim}
use Prim.Native.Nat.{ℕ, suc, ◌+◌, ◌*◌, ◌≤◌}
use native.Mathlib.Omega.{arith}
use lib.ListN.{length, set, get_or, length-set}
use lib.Seq.{get_or-set_other}
use borrow.Author.Tests.{ne_eqb, eq-eqb}
use Rattle.card.specs.Header.{Formatted}
use Rattle.card.specs.Stores.{Store}
use Rattle.theory_change.proofs.Line.{Line, Own, Apart, partition_apart}
use Rattle.theory_change.proofs.Plays.{Openable, Storable, Plays, Changing, last_store, store_then}
use Rattle.theory_change.proofs.Rewritten.{Sound}
use Rattle.demands.proofs.Invariant.{Toward, Table, Job, Entered, updated, stage_first, stage_between, stage_within}
use Rattle.demands.specs.Book.{Update, Hand, book, fed_step, goes_on, holding}
use Rattle.demands.proofs.BookLaws.{Changes, Same, same_over, same_back, changes_from}
use Rattle.demands.proofs.FamilyTotals.{few_pairs_lem, decided_totals, changed_totals}
use Rattle.card_family.proofs.FamilyLaws.{Totals, totals_same}
use Rattle.demands.proofs.Steps.{memory, job_settled}
use Rattle.state.specs.Memory.{advanced}
use Rattle.state.specs.declared.Doing.{Doing}
use Rattle.state.specs.declared.Phase.TheVariants.{InHand, Decided}
use Rattle.state.specs.Answer.{Answer}
use Rattle.theory_shapes.proofs.Bare.{bare}
use Rattle.theory_shapes.proofs.Whole.{Heads}
use Rattle.theory_tree.proofs.Cut.{cut}
use Rattle.theory_tree.specs.Pairs.{pairs}
use Rattle.theory_tree.specs.Represent.{Holds}
use Rattle.laws.specs.Totals.{indicator}
use Rattle.theory_tree.specs.Tree.{Tree, node_total}
use Rattle.theory_tree.specs.Violations.{few}

-- ---- one store of the change in hand

formatted_set : (c : List ℕ) (n p v : ℕ) (line : Line) → Own line p → Formatted c n → Formatted (set c p v) n
formatted_set c n p v line o f =
    record {
      mark = keep 0 (⊎_elim (λ e. omega arith) (λ e. omega (arith, e.is)) o) f.mark;
      nodes = keep 1 (⊎_elim (λ e. omega arith) (λ e. omega (arith, e.is)) o) f.nodes;
      first = keep 2 (⊎_elim (λ e. omega arith) (λ e. omega (arith, e.is)) o) f.first;
      each = keep 3 (⊎_elim (λ e. omega arith) (λ e. omega (arith, e.is)) o) f.each;
      five = keep 5 (⊎_elim (λ e. omega arith) (λ e. omega (arith, e.is)) o) f.five;
      six = keep 6 (⊎_elim (λ e. omega arith) (λ e. omega (arith, e.is)) o) f.six;
      seven = keep 7 (⊎_elim (λ e. omega arith) (λ e. omega (arith, e.is)) o) f.seven;
    }
  where
    keep : (i : ℕ) → i ≢ p → {x : ℕ} → get_or c i 0 ≡ x → get_or (set c p v) i 0 ≡ x
    keep i d e = get_or-set_other c p i v 0 d ∙ e

-- the table after a store that leads to the tree u
table_set : (greatest : ℕ) {c : List ℕ} {line : Line} {t u : Tree} (p v : ℕ) → Storable line c p → Table greatest c line.nodes t → Holds (set c p v) u
    → Sound u → Table greatest (set c p v) line.nodes u
table_set greatest {c} {line} p v s b h k = record { sized = rw (length-set c p v) b.sized; header = formatted_set c line.nodes p v line s.own b.header; holds = h; sound = k }

-- the first place to store to is on the card
pub first_storable : {line : Line} {next : Tree} {c : List ℕ} {t : Tree} {s : Store} {rest : List Store} → Plays line next c t (s ∷ rest) → Storable line c s.0
first_storable (last_store s h) = s
first_storable (store_then u s h k o e a p) = s

-- what one store of a change leaves: the rest of it, on a table with the same pairs, or the next tree
pub data Left (greatest : ℕ) (line : Line) (key : ℕ) (c : List ℕ) (t : Tree) (free : List Bool) (cut : List ℕ) (next : Tree) (level : ℕ) (s : Store) : List Store → Type 0 where
  all_made : Table greatest (set c s.0 s.1) line.nodes next → Left greatest line key c t free cut next level s []
  some_left : {x : Store} {rest : List Store} (u : Tree) → Table greatest (set c s.0 s.1) line.nodes u → Openable line.limit u → Same (pairs u) (pairs t)
      → ((i : ℕ) → node_total (indicator i) u ≡ node_total (indicator i) t) → (p : Changing (set c s.0 s.1) line key u (x ∷ rest) free cut) → p.next ≡ next → p.level ≡ level
      → Left greatest line key c t free cut next level s (x ∷ rest)

one_store : (greatest : ℕ) {c : List ℕ} {line : Line} {key : ℕ} {t : Tree} {s : Store} {rest : List Store} {free : List Bool} {cut : List ℕ} → Table greatest c line.nodes t
    → (p : Changing c line key t (s ∷ rest) free cut) → Left greatest line key c t free cut p.next p.level s rest
one_store greatest {c} {line} {key} {t} {free = free} {cut = cut} b p = at p.plays
  where
    at : {s : Store} {rest : List Store} → Plays line p.next c t (s ∷ rest) → Left greatest line key c t free cut p.next p.level s rest
    at (last_store {p = a} {v = v} s h) = all_made (table_set greatest a v s b h p.sound)
    at (store_then {p = a} {v = v} u s h k o e same q) =
        some_left u (table_set greatest a v s b h k) o (record { totals = e }) same
        (record { next = p.next; plays = q; sound = p.sound; exact = p.exact; level = p.level; ready = p.ready }) refl refl

-- a store of a repair's change
pub repair_stored : (greatest : ℕ) {c : List ℕ} {line : Line} {key : ℕ} {t : Tree} {s : Store} {rest : List Store} {free : List Bool} {cut : List ℕ} {doing : Doing}
    {due : Answer} {u : Option Update} {h : Hand} {goal : Tree} (last depth steps : ℕ) (totals : List ℕ) (z : List Store) (l : List (ℕ × ℕ)) → Table greatest c line.nodes t
    → Same (pairs t) l → Totals totals (pairs t) → Apart line t
    → Job Decided doing key due u → Entered u h → (p : Changing c line key t (s ∷ rest) free cut) → Same (pairs p.next) (pairs t)
    → length rest + (73 * p.level + 1) ≤ steps → Heads p.level (bare p.next) goal
    → Toward greatest goal due line steps (record { card = set c s.0 s.1; state = advanced (memory line.nodes free last depth totals doing z cut) rest }) (book l h)
unfolding advanced
repair_stored greatest {c} {line} {key} {t} {s} {rest} {free} {cut} {doing} {due} {h = h} {goal = goal} last depth steps totals z l b same counted apart j en p e few hd = at rest
    (one_store greatest b p) few
  where
    at : (rest : List Store) → Left greatest line key c t free cut p.next p.level s rest → length rest + (73 * p.level + 1) ≤ steps
        → Toward greatest goal due line steps (record { card = set c s.0 s.1; state = advanced (memory line.nodes free last depth totals doing z cut) rest }) (book l h)
    at rest (all_made b') few = (
      record {
        tree = p.next;
        goal = goal;
        due = due;
        table = b';
        openable = record { key = key; deep = p.level; ready = p.ready };
        same = same_over e same;
        apart = partition_apart p.exact;
        counted = rw (decided_totals j totals) (totals_same totals (pairs t) (pairs p.next) (λ w. sym (e.totals w)) counted);
        stage = stage_between (job_settled j) en p.level p.ready p.exact (omega arith) hd;
      },
      refl,
      refl,
    )
    at rest (some_left v b' o e₁ nodes q en₁ el) few = (
      record {
        tree = v;
        goal = goal;
        due = due;
        table = b';
        openable = o;
        same = same_over e₁ same;
        apart = λ i. omega (arith, nodes i, apart i);
        counted = totals_same totals (pairs t) (pairs v) (λ w. sym (e₁.totals w)) counted;
        stage = stage_within j en q (same_over (rw en₁ e) (same_back e₁)) (rw el few) (rw (en₁, el) hd);
      },
      refl,
      refl,
    )

-- a store of an update's first change: the last one enters it
pub update_stored : (greatest : ℕ) {c : List ℕ} {line : Line} {key : ℕ} {t : Tree} {s : Store} {rest : List Store} {free : List Bool} {cut : List ℕ} {doing : Doing}
    {due : Answer} {u : Update} {goal : Tree} (deciding k last depth steps : ℕ) (totals : List ℕ) (z : List Store) (l : List (ℕ × ℕ))
    → Table greatest c line.nodes t → Same (pairs t) l → Totals totals (pairs t) → Apart line t
    → Job InHand doing key due (some u) → (p : Changing c line key t (s ∷ rest) free cut) → Changes u (pairs t) (pairs p.next)
    → k + suc (length rest) ≡ deciding → length rest + (73 * p.level + 1) ≤ steps → Heads p.level (bare p.next) goal
    → Toward greatest goal due line steps (record { card = set c s.0 s.1; state = advanced (memory line.nodes free last depth totals doing z cut) rest })
    (fed_step goes_on l (holding u deciding k))
unfolding advanced fed_step
update_stored greatest {c} {line} {key} {t} {s} {rest} {free} {cut} {doing} {due} {u} {goal}
    deciding k last depth steps totals z l b same counted apart j p e count few hd =
    at rest (one_store greatest b p) count few
  where
    at : (rest : List Store) → Left greatest line key c t free cut p.next p.level s rest → k + suc (length rest) ≡ deciding → length rest + (73 * p.level + 1) ≤ steps
        → Toward greatest goal due line steps (record { card = set c s.0 s.1; state = advanced (memory line.nodes free last depth totals doing z cut) rest })
        (fed_step goes_on l (holding u deciding k))
    at rest (all_made b') count few =
        rw (eq-eqb (suc k) deciding (omega arith)) (
          record {
            tree = p.next;
            goal = goal;
            due = due;
            table = b';
            openable = record { key = key; deep = p.level; ready = p.ready };
            same = e.enters.to l same;
            apart = partition_apart p.exact;
            counted = changed_totals j totals (pairs t) (pairs p.next) (few_pairs_lem greatest b) (few_pairs_lem greatest b') e counted;
            stage = stage_between (job_settled j) (updated {deciding = deciding} {count = suc k} (omega arith)) p.level p.ready p.exact (omega arith) hd;
          },
          refl,
          refl,
        )
    at rest (some_left {rest = r} v b' o e₁ nodes q en el) count few =
        let q' : suc k + suc (length r) ≡ deciding = omega arith in
        rw (ne_eqb (suc k) deciding (omega arith)) (
          record {
            tree = v;
            goal = goal;
            due = due;
            table = b';
            openable = o;
            same = same_over e₁ same;
            apart = λ i. omega (arith, nodes i, apart i);
            counted = totals_same totals (pairs t) (pairs v) (λ w. sym (e₁.totals w)) counted;
            stage = stage_first {count = suc k} j q (changes_from (same_back e₁) (rw en e)) q' (rw el few) (rw (en, el) hd);
          },
          refl,
          refl,
        )
