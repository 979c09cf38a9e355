-- Two lines of one card: what a store of the one does to the card, to its own table and to the other's, and the nodes that they share out.
use mathlib.Core.Path.{◌≡◌, sym, subst, ◌∙◌}
use mathlib.Core.List.{List}
use mathlib.Core.Bool.{Bool}
use mathlib.Core.Logic.{inl, inr}
use Prim.Native.Nat.{ℕ, ◌+◌, ◌≤◌}
use native.Mathlib.Omega.{arith}
use lib.ListN.{length, set, length-set}
use lib.Seq.{get_or-set_other}
use Rattle.card.specs.Layout.{root_place}
use Rattle.card.specs.Lines.{IsLine, root_of, seen, on_line}
use Rattle.card.proofs.LineLaws.{seen_set, seen_other, seen_store, seen_store_link, on_root, on_node}
use Rattle.laws.specs.Totals.{indicator, total}
use Rattle.laws.proofs.Totals.{total_length}
use Rattle.theory_change.proofs.Line.{Line, Partition, Own, size}
use Rattle.theory_change.proofs.NumbersIn.{numbers_in, numbers_total}
use Rattle.theory_change.proofs.OtherTree.{other_kept}
use Rattle.theory_tree.specs.Represent.{Holds}
use Rattle.theory_tree.specs.Tree.{Tree, node_total}

module _ (own : Line) (line : ℕ) (is : IsLine line) (c : List ℕ) (long : 8 ≤ length c) (p v : ℕ) where
  -- a store of the line's table is one on the card
  pub stored_on : Own own p → seen line (set c (on_line line p) v) ≡ set (seen line c) p v
  stored_on (inl e) = subst (λ (q : ℕ). seen line (set c (on_line line q) v) ≡ set (seen line c) q v) (sym e) (seen_store_link line c v is.from (omega (arith, is.to)) long)
  stored_on (inr n) = seen_store line c p v is.from (omega (arith, is.to)) long (λ e. omega (arith, n.is)) (omega (arith, n.is))

  -- "A call on one line stores nothing in the other line's nodes or root word": its table holds the tree that it held
  pub other_stands : (other : ℕ) → IsLine other → (line ≡ other → ⊥) → (s : Tree) → ((i : ℕ) → node_total (indicator i) s ≤ total (indicator i) own.others) → Own own p
      → Holds (seen other c) s → Holds (seen other (set c (on_line line p) v)) s
  other_stands other is' apart s among (inl e) h =
      subst (λ (d : List ℕ). Holds d s) (sym (seen_other other c (on_line line p) v (omega (arith, at, is.from)) (omega (arith, at, is.to)) (λ z. apart (omega (arith, at, z))))) h
    where
      at : on_line line p ≡ root_of line
      at = on_root line p e
  other_stands other is' apart s among (inr n) h =
      subst (λ (d : List ℕ). Holds d s) (sym (go at)) (
        get_or-set_other (seen other c) p root_place v 0 (λ z. omega (arith, n.is, z)) ∙ h.0,
        omega (arith, h.1, length-set (seen other c) p v),
        other_kept own (seen other c) s p v among (inr n) h.2,
      )
    where
      at : on_line line p ≡ p
      at = on_node line p (λ z. omega (arith, n.is, z))

      go : on_line line p ≡ p → seen other (set c (on_line line p) v) ≡ set (seen other c) p v
      go e = subst (λ (q : ℕ). seen other (set c q v) ≡ set (seen other c) p v) (sym e) (seen_set other c p v (omega (arith, is'.to)) (omega (arith, n.is)))

-- the nodes of two trees, seen from either line
abbrev pub beside : ℕ → ℕ → Tree → Line
beside n limit other = record { nodes = n; limit = limit; others = numbers_in other }

pub partition_swap : (n limit limit' : ℕ) (free : List Bool) (t s : Tree) → limit + limit' ≤ n → size t ≤ limit
    → Partition (beside n limit s) free t → Partition (beside n limit' t) free s
partition_swap n limit limit' free t s h k x =
    record {
      exact = record {
        size = x.exact.size;
        within = λ m a b. omega (arith, x.exact.within m a b, numbers_total (indicator m) t, numbers_total (indicator m) s);
        outside_none = λ m o. let z = x.exact.outside_none m o in (z.0, omega (arith, z.1, numbers_total (indicator m) t, numbers_total (indicator m) s));
      };
      fits = omega (arith, numbers_total (λ m. 1) t, total_length (numbers_in t));
    }

-- the other tree's nodes are all that the line leaves alone
pub among_numbers : (s : Tree) (i : ℕ) → node_total (indicator i) s ≤ total (indicator i) (numbers_in s)
among_numbers s i = omega (arith, numbers_total (indicator i) s)
