-- A sound part of a table, in terms of the findings with which its check begins: its numbers are free, and with its violations
-- there is still at most one. How a part is put together from its root and its children, and taken apart again.
use mathlib.Core.Path.{◌≡◌, refl}
use mathlib.Core.List.{List}
use mathlib.Core.Bool.{Bool, true, false}
use Prim.Native.Nat.{ℕ, zero, suc, ◌+◌, ◌≤◌, ◌<◌}
use native.Mathlib.Omega.{arith}
use lib.ListN.{length}
use lib.Dec.{ltb}
use borrow.Author.Tests.{ltb-false, le-ltb, eqb-true, eq-eqb, not-true}
use Rattle.card.specs.NodeWords.{NodeWords}
use Rattle.laws.specs.Bits.{bit}
use Rattle.laws.specs.Cases.{pick}
use Rattle.laws.specs.Totals.{indicator}
use Rattle.laws.proofs.Cases.{impossible}
use Rattle.card_check.specs.Check.{Findings, inner_sound}
use Rattle.theory_check.proofs.Found.{one_of, taken, violates, at_root, found, is_free, AllFree, root_free, found_free, WidthsAt, violations_at, widths_below, note_one, own_at, found_violated}
use Rattle.theory_tree.proofs.Pairs.{InRange, AllInRange, depth, depths}
use Rattle.theory_tree.specs.Represent.{kind, Represents, RepresentsAll}
use Rattle.theory_tree.specs.Height.{Height, AllHeight}
use Rattle.theory_tree.specs.Tree.{Tree, Forest, roots, routing, node_totals, node, one, more}
use Rattle.theory_tree.specs.Violations.{forest_violations, AllWidths}

-- a tree below `bound` levels that the check accepts, beginning with the findings f; and a forest of such trees, side by side
pub record SoundPart (c : List ℕ) (is_root : Bool) (low high h bound : ℕ) (f : Findings) (t : Tree) : Type 0 where
  pub represents : Represents c t
  pub range : InRange low high t
  pub widths : WidthsAt is_root t
  pub height : Height h t
  pub once_violated : bit f.violated + violations_at is_root t ≤ 1
  pub free : AllFree f t
  pub deep : depth t < bound

pub record SoundParts (c : List ℕ) (low high h bound : ℕ) (f : Findings) (k : Forest) : Type 0 where
  pub represents : RepresentsAll c k
  pub ranges : AllInRange low high k
  pub widths : AllWidths k
  pub heights : AllHeight h k
  pub once_violated : bit f.violated + forest_violations k ≤ 1
  pub free : (i : ℕ) → node_totals (indicator i) k ≤ is_free f i
  pub deep : depths k < bound

pub part_one : {c : List ℕ} {low high h bound : ℕ} {f : Findings} {t : Tree} → SoundPart c false low high h bound f t → SoundParts c low high h bound f (one t)
part_one p = record { represents = p.represents; ranges = p.range; widths = p.widths; heights = p.height; once_violated = p.once_violated; free = p.free; deep = p.deep }

pub one_part : {c : List ℕ} {low high h bound : ℕ} {f : Findings} {t : Tree} → SoundParts c low high h bound f (one t) → SoundPart c false low high h bound f t
one_part p = record { represents = p.represents; range = p.ranges; widths = p.widths; height = p.heights; once_violated = p.once_violated; free = p.free; deep = p.deep }

pub part_first : {c : List ℕ} {low high h bound : ℕ} {f : Findings} {t : Tree} {x : ℕ} {k : Forest} → SoundParts c low high h bound f (more t x k) → SoundPart c false low x h bound f t
part_first p =
    record {
      represents = p.represents.0;
      range = p.ranges.0;
      widths = p.widths.0;
      height = p.heights.0;
      once_violated = omega (arith, p.once_violated);
      free = λ i. omega (arith, p.free i);
      deep = omega (arith, p.deep);
    }

-- the widths of an internal node
pub widths_node : (is_root : Bool) (m : ℕ) (g : Bool) (k : Forest) (n : ℕ) → n ≡ length (roots k) → inner_sound g is_root n ≡ true → 1 ≤ n → n ≤ 11 → AllWidths k → WidthsAt is_root (node m g k)
unfolding inner_sound
widths_node true m true k n e s a b w = impossible (cc)
widths_node false m true k n e s a b w = (omega (arith, eqb-true n 2 s), w)
widths_node true m false k n e s a b w = (omega (arith, ltb-false n 2 (not-true (ltb n 2) s)), omega arith, w)
widths_node false m false k n e s a b w = ((omega arith, omega arith), w)

pub node_widths : (is_root : Bool) (m : ℕ) (g : Bool) (k : Forest) → WidthsAt is_root (node m g k) → (inner_sound g is_root (length (roots k)) ≡ true) × (1 ≤ length (roots k))
unfolding inner_sound
node_widths true m true k w = absurd w
node_widths true m false k w = (rw (le-ltb (length (roots k)) 2 w.0), omega (arith, w.0))
node_widths false m true k w = (eq-eqb (length (roots k)) 2 w.0, omega (arith, w.0))
node_widths false m false k w = (refl, w.0.0)

height_up : (h m : ℕ) (g : Bool) (k : Forest) → AllHeight h k → Height (pick g h (suc h)) (node m g k)
height_up h m true k i = i
height_up h m false k i = i

height_down : (h m : ℕ) (g : Bool) (k : Forest) → Height h (node m g k) → (b : ℕ) × (h ≡ pick g b (suc b)) × AllHeight b k
height_down h m true k i = (h, refl, i)
height_down zero m false k i = absurd i
height_down (suc h) m false k i = (h, refl, i)

module _ {c : List ℕ} where
  -- the children after the first, with what its check found
  pub part_rest : (run : ℕ) {low high h bound : ℕ} {f : Findings} {t : Tree} {x : ℕ} {k : Forest}
      → SoundParts c low high h bound f (more t x k) → SoundParts c x high h bound (found false run low t f) k
  part_rest run {low} {high} {h} {bound} {f} {t} {x} {k} p =
      record {
        represents = p.represents.1;
        ranges = p.ranges.3;
        widths = p.widths.1;
        heights = p.heights.1;
        once_violated = omega (arith, found_violated false run low t f p.widths.0 (omega (arith, p.once_violated)), p.once_violated);
        free = λ i. omega (arith, found_free false run low t f (λ j. omega (arith, p.free j)) i, p.free i);
        deep = omega (arith, p.deep);
      }

  pub part_more : (run : ℕ) {low high h bound : ℕ} {f : Findings} {t : Tree} {x : ℕ} {k : Forest} → SoundPart c false low x h bound f t
      → low < x → x < high → SoundParts c x high h bound (found false run low t f) k → SoundParts c low high h bound f (more t x k)
  part_more run {low} {high} {h} {bound} {f} {t} {x} {k} p a b q =
      record {
        represents = (p.represents, q.represents);
        ranges = (p.range, a, b, q.ranges);
        widths = (p.widths, q.widths);
        heights = (p.height, q.heights);
        once_violated = omega (arith, found_violated false run low t f p.widths p.once_violated, q.once_violated);
        free = λ i. omega (arith, found_free false run low t f p.free i, q.free i);
        deep = omega (arith, p.deep, q.deep);
      }

  -- an internal node over its children, which are checked with what was found at the node
  module _ (is_root : Bool) (run m : ℕ) (g : Bool) {low high h bound : ℕ} {f : Findings} {k : Forest} where
    pub part_node : NodeWords c m (kind g) (routing k) (roots k) → length (roots k) ≤ 11 → WidthsAt is_root (node m g k)
        → (violates is_root (node m g k) ≡ true → f.violated ≡ false) → ((i : ℕ) → indicator i m ≤ is_free f i)
        → SoundParts c low high h bound (at_root is_root run low (node m g k) f) k → SoundPart c is_root low high (pick g h (suc h)) (suc bound) f (node m g k)
    part_node words n w v u q =
        let o = note_one (violates is_root (node m g k)) low (pick g run 0) (taken m f) (one_of f.violated (violates is_root (node m g k)) v) in
        record {
          represents = (words, q.represents, n);
          range = q.ranges;
          widths = w;
          height = height_up h m g k q.heights;
          once_violated = omega (arith, own_at is_root (node m g k) w, q.once_violated);
          free = λ i. omega (arith, root_free (violates is_root (node m g k)) low (pick g run 0) m f i (u i), q.free i);
          deep = omega (arith, q.deep);
        }

    pub node_part : SoundPart c is_root low high h (suc bound) f (node m g k) → (b : ℕ) × (h ≡ pick g b (suc b)) × SoundParts c low high b bound (at_root is_root run low (node m g k) f) k
    node_part p =
        let d = height_down h m g k p.height in
        let e = own_at is_root (node m g k) p.widths in
        let o = note_one (violates is_root (node m g k)) low (pick g run 0) (taken m f) (omega (arith, p.once_violated)) in (
          d.0,
          d.1,
          record {
            represents = p.represents.1;
            ranges = p.range;
            widths = widths_below is_root m g k p.widths;
            heights = d.2;
            once_violated = omega (arith, p.once_violated);
            free = λ i. omega (arith, root_free (violates is_root (node m g k)) low (pick g run 0) m f i (omega (arith, p.free i)), p.free i);
            deep = omega (arith, p.deep);
          },
        )
