-- Ranges in a tree ("a child's range runs from the routing key before it, included, to the one after it, excluded").
use mathlib.Core.Path.{◌≡◌, refl, ap}
use Prim.Native.Nat.{ℕ, suc, ◌-◌, ◌≤◌, ◌<◌}
use native.Mathlib.Omega.{arith}
use lib.ListN.{length}
use borrow.Author.Tests.{lt-ltb, le-ltb}
use Rattle.card.specs.Layout.{slot_pairs}
use Rattle.walk.specs.Descent.{passed}
use Rattle.laws.proofs.Cases.{order}
use Rattle.laws.proofs.Totals.{total_le}
use Rattle.theory_tree.specs.Pairs.{outside}
use Rattle.theory_tree.proofs.Pairs.{InRange, AllInRange, child}
use Rattle.theory_tree.proofs.Sorted.{outside_le}
use Rattle.theory_tree.specs.Tree.{Tree, Forest, routing, leaf, node, one, more}
use Rattle.theory_tree.specs.Violations.{Widths, AllWidths}

-- the range of the child that a key takes: all numbers of it take that child
pub record ChildRange (key lo hi : ℕ) (f : Forest) : Type 0 where
  pub low : ℕ
  pub high : ℕ
  pub from : low ≤ key
  pub until : key < high
  pub least : lo ≤ low
  pub most : high ≤ hi
  pub part : InRange low high (child key f)
  pub alike : (x : ℕ) → low ≤ x → x < high → child x f ≡ child key f
  pub number : (x : ℕ) → low ≤ x → x < high → passed (routing f) x ≡ passed (routing f) key
  -- it is the last child, or the one whose range begins where this one ends is the next
  pub last : high ≡ hi → passed (routing f) key ≡ length (routing f)
  pub next : high < hi → passed (routing f) high ≡ suc (passed (routing f) key)

-- where the range of all children begins, no routing key is passed
none_passed : (lo hi : ℕ) (f : Forest) → AllInRange lo hi f → passed (routing f) lo ≡ 0
unfolding passed
none_passed lo hi (one t) i = refl
none_passed lo hi (more t k f) i = rw (lt-ltb lo k i.1)

pub child_range : (key lo hi : ℕ) (f : Forest) → AllInRange lo hi f → lo ≤ key → key < hi → ChildRange key lo hi f
unfolding passed
child_range key lo hi (one t) i l h =
    record {
      low = lo;
      high = hi;
      from = l;
      until = h;
      least = omega arith;
      most = omega arith;
      part = i;
      alike = λ x a b. refl;
      number = λ x a b. refl;
      last = λ e. refl;
      next = λ a. absurd (omega arith);
    }
child_range key lo hi (more t k f) i l h =
    order key k
    (λ o. record {
      low = lo;
      high = k;
      from = l;
      until = o;
      least = omega arith;
      most = omega (arith, i.2);
      part = rw (lt-ltb key k o) i.0;
      alike = λ x a b. rw (lt-ltb key k o, lt-ltb x k b);
      number = λ x a b. rw (lt-ltb key k o, lt-ltb x k b);
      last = λ e. absurd (omega (arith, i.2));
      next = λ a. rw (lt-ltb key k o, le-ltb k k (omega arith)) (ap suc (none_passed k hi f i.3));
    })
    (λ o. let r = child_range key k hi f i.3 o h in
    record {
      low = r.low;
      high = r.high;
      from = r.from;
      until = r.until;
      least = omega (arith, i.1, r.least);
      most = r.most;
      part = rw (le-ltb key k o) r.part;
      alike = λ x a b. rw (le-ltb key k o, le-ltb x k (omega (arith, r.least))) (r.alike x a b);
      number = λ x a b. rw (le-ltb key k o, le-ltb x k (omega (arith, r.least))) (ap suc (r.number x a b));
      last = λ e. rw (le-ltb key k o) (ap suc (r.last e));
      next = λ a. rw (le-ltb key k o, le-ltb r.high k (omega (arith, r.until))) (ap suc (r.next a));
    })

-- the range after a child's begins where that one ends
pub next_low : (key lo hi : ℕ) (f : Forest) (d : ChildRange key lo hi f) → d.high < hi → (q : ChildRange d.high lo hi f) → q.low ≡ d.high
next_low key lo hi f d o q =
    order q.low d.high
    (λ l. absurd (omega (arith, d.number (d.high - 1) (omega (arith, d.from, d.until)) (omega (arith, d.until)), q.number (d.high - 1) (omega arith) (omega (arith, q.until)), d.next o)))
    (λ l. omega (arith, q.from))

pub child_widths : (key : ℕ) (f : Forest) → AllWidths f → Widths (child key f)
child_widths key (one t) w = w
child_widths key (more t k f) w = order key k (λ o. rw (lt-ltb key k o) w.0) (λ o. rw (le-ltb key k o) (child_widths key f w.1))

-- the low end of a range can be any lower number: so that 0, which is below all keys, leads to a leaf as well
mutual
  pub lower : (a lo hi : ℕ) → a ≤ lo → (t : Tree) → InRange lo hi t → InRange a hi t
  lower a lo hi h (leaf m ks vs) i =
      record { inside = omega (arith, total_le (outside a hi) (outside lo hi) (outside_le a lo hi h) (slot_pairs ks vs), i.inside); once = i.once }
  lower a lo hi h (node m g f) i = lowers a lo hi h f i

  lowers : (a lo hi : ℕ) → a ≤ lo → (f : Forest) → AllInRange lo hi f → AllInRange a hi f
  lowers a lo hi h (one t) i = lower a lo hi h t i
  lowers a lo hi h (more t k f) i = (lower a lo k h t i.0, omega (arith, i.1), i.2, i.3)
