-- What the findings of an accepted table say: the free nodes are those from 1 to n that the tree has not, the violation is noted
-- exactly where there is one, and the key that is noted leads to it.
use mathlib.Core.Path.{◌≡◌, ap, ◌∙◌}
use mathlib.Core.List.{List}
use mathlib.Core.Bool.{true, false}
use mathlib.Core.Logic.{◌⊎◌, inl, inr, ◌≢◌}
use Prim.Native.Nat.{ℕ, suc, ◌+◌, ◌*◌, ◌≤◌, ◌<◌}
use native.Mathlib.Omega.{arith}
use lib.ListN.{length, get_or}
use Rattle.card.specs.Layout.{lowest_key, key_limit, greatest_nodes, depth_limit, root_place}
use Rattle.card_free.specs.NodeSet.{capacity, all_nodes}
use Rattle.card_free.proofs.NodeSetLaws.{all_zero_lem, length_all, all_get, all_above}
use Rattle.laws.specs.Bits.{bit}
use Rattle.laws.proofs.Bits.{bit_le, bit_zero}
use Rattle.laws.proofs.Cases.{order}
use Rattle.laws.specs.Totals.{indicator}
use Rattle.laws.proofs.Totals.{indicator_other}
use Rattle.card_check.specs.Check.{Findings, start}
use Rattle.theory_check.proofs.Depth.{represents_upto, well_formed_depth}
use Rattle.theory_check.proofs.Found.{found, is_free, AllFree, found_free, found_length, found_violated, found_same}
use Rattle.theory_check.proofs.Noted.{table_told}
use Rattle.theory_check.proofs.Parts.{SoundPart}
use Rattle.theory_check.proofs.Ranges.{well_formed_in_range, range_sound}
use Rattle.theory_tree.proofs.Counting.{Upto, Uptos}
use Rattle.theory_tree.proofs.Pairs.{depth}
use Rattle.theory_tree.proofs.Path.{reserve, Violation}
use Rattle.theory_tree.specs.Height.{Height}
use Rattle.theory_tree.specs.Tree.{Tree, Forest, root, node_total, node_totals, leaf, node, one, more}
use Rattle.theory_tree.specs.Violations.{table_violations}
use Rattle.theory_tree.specs.WellFormed.{WellFormed}

pub record Facts (c : List ℕ) (n : ℕ) (t : Tree) (h : ℕ) (f : Findings) : Type 0 where
  -- the height that the check gives back
  pub level : Height h t
  pub free_length : length f.free ≡ capacity
  -- a number from 1 to n is free or the tree's, not both
  pub free_in : (m : ℕ) → 1 ≤ m → m ≤ n → bit (get_or f.free m false) + node_total (indicator m) t ≡ 1
  pub free_out : (m : ℕ) → (m ≡ 0) ⊎ (n < m) → get_or f.free m false ≡ false
  pub violated : bit f.violated ≡ table_violations t
  -- a violation, with a key that leads to it and the free nodes that its repair needs besides three
  pub violation : f.violated ≡ true → (v : Violation t f.key) × (f.run ≡ reserve v.context v.part) × (lowest_key ≤ f.key) × (f.key < key_limit)
  pub no_run : f.violated ≡ false → f.run ≡ 0
  pub deep : depth t ≤ depth_limit

-- a whole table as a sound part
abbrev pub SoundTable : List ℕ → ℕ → ℕ → Tree → Type 0
SoundTable c n h t = SoundPart c true lowest_key key_limit h (suc depth_limit) (start n) t

start_out : (n m : ℕ) → (m ≡ 0) ⊎ (n < m) → is_free (start n) m ≡ 0
start_out n m (inl e) = ap bit (ap (λ (x : ℕ). get_or (all_nodes n) x false) e ∙ all_zero_lem n)
start_out n m (inr h) = ap bit (all_above n m h)

-- what the check of a tree adds to what was learnt before it
pub record Learnt (before : Findings) (t : Tree) (h : ℕ) (f : Findings) : Type 0 where
  pub level : Height h t
  pub free_length : length f.free ≡ length before.free
  -- the tree's nodes were free, and are so no longer
  pub free_in : (m : ℕ) → is_free f m + node_total (indicator m) t ≡ is_free before m
  pub violated : bit f.violated ≡ bit before.violated + table_violations t
  pub violation : table_violations t ≡ 1 → (v : Violation t f.key) × (f.run ≡ reserve v.context v.part) × (lowest_key ≤ f.key) × (f.key < key_limit)
  pub unchanged : table_violations t ≡ 0 → (f.key ≡ before.key) × (f.run ≡ before.run)
  pub deep : depth t ≤ depth_limit

pub part_learnt : (c : List ℕ) (h : ℕ) (t : Tree) (f : Findings) → SoundPart c true lowest_key key_limit h (suc depth_limit) f t → Learnt f t h (found true 0 lowest_key t f)
part_learnt c h t f p =
    record {
      level = p.height;
      free_length = found_length true 0 lowest_key t f;
      free_in = λ m. found_free true 0 lowest_key t f p.free m;
      violated = found_violated true 0 lowest_key t f p.widths p.once_violated;
      violation = λ e. let a = table_told lowest_key key_limit t f p.widths p.range (omega (arith, p.once_violated)) e in (a.violation, a.run, a.above, a.under);
      unchanged = λ e. let a = found_same true 0 lowest_key t f p.widths e in (a.key, a.run);
      deep = omega (arith, p.deep);
    }

pub sound_facts : (c : List ℕ) (n h : ℕ) (t : Tree) → n ≤ greatest_nodes → SoundTable c n h t → Facts c n t h (found true 0 lowest_key t (start n))
sound_facts c n h t small p =
    let l = part_learnt c h t (start n) p in
    record {
      level = l.level;
      free_length = l.free_length ∙ length_all n (omega arith);
      free_in = λ m a b. omega (arith, l.free_in m, ap bit (all_get n m a b (omega arith)));
      free_out = λ m o. bit_zero (get_or (found true 0 lowest_key t (start n)).free m false) (omega (arith, l.free_in m, start_out n m o));
      violated = omega (arith, l.violated);
      violation = λ e. l.violation (omega (arith, l.violated, ap bit e));
      no_run = λ e. (l.unchanged (omega (arith, l.violated, ap bit e))).1;
      deep = l.deep;
    }

-- ---- sound tables in document 01's words

-- a number that is not 1 to n is nowhere in the tree
apart : (n i m : ℕ) → (i ≡ 0) ⊎ (n < i) → 0 < m → m ≤ n → i ≢ m
apart n i m (inl e) a b = omega arith
apart n i m (inr e) a b = omega arith

mutual
  no_number : (n i : ℕ) (t : Tree) → (i ≡ 0) ⊎ (n < i) → Upto n t → node_total (indicator i) t ≡ 0
  no_number n i (leaf m ks vs) o u = indicator_other i m (apart n i m o u.0 u.1)
  no_number n i (node m g k) o u = omega (arith, indicator_other i m (apart n i m o u.0 u.1), no_numbers n i k o u.2)

  no_numbers : (n i : ℕ) (k : Forest) → (i ≡ 0) ⊎ (n < i) → Uptos n k → node_totals (indicator i) k ≡ 0
  no_numbers n i (one t) o u = no_number n i t o u
  no_numbers n i (more t x k) o u = omega (arith, no_number n i t o u.0, no_numbers n i k o u.1)

pub all_free : (n : ℕ) (t : Tree) → n ≤ greatest_nodes → Upto n t → ((i : ℕ) → node_total (indicator i) t ≤ 1) → AllFree (start n) t
all_free n t small u once i =
    order i 1 (λ a. omega (arith, no_number n i t (inl (omega arith)) u))
    (λ a. order n i (λ b. omega (arith, no_number n i t (inr b) u)) (λ b. omega (arith, once i, ap bit (all_get n i a b (omega arith)))))

pub well_formed_part : (c : List ℕ) (n : ℕ) (t : Tree) → length c ≡ 8 + 24 * n → n ≤ greatest_nodes → (w : WellFormed c t) → SoundTable c n w.level.0 t
well_formed_part c n t len small w =
    record {
      represents = w.holds.2;
      range = well_formed_in_range w;
      widths = w.widths;
      height = w.level.1;
      once_violated = omega (arith, w.few_violations);
      free = all_free n t small (represents_upto c n len t w.holds.2) w.once;
      deep = omega (arith, well_formed_depth c n len t small w);
    }

pub part_well_formed : (c : List ℕ) (n h : ℕ) (t : Tree) → length c ≡ 8 + 24 * n → get_or c root_place 0 ≡ root t → SoundTable c n h t → WellFormed c t
part_well_formed c n h t len e p =
    record {
      holds = (e, omega arith, p.represents);
      once = λ i. omega (arith, p.free i, bit_le (get_or (all_nodes n) i false));
      sound = range_sound lowest_key key_limit t p.range;
      widths = p.widths;
      level = (h, p.height);
      few_violations = omega (arith, p.once_violated);
    }
