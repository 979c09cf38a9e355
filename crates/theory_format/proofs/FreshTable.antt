-- The table that formatting makes: "root node 1, an empty leaf, all else 0". It is sound, balanced and holds no pair, and every
-- node but its root is free.
use mathlib.Core.Path.{◌≡◌, refl, sym, ◌∙◌}
use mathlib.Core.List.{List, []}
use mathlib.Core.Bool.{false}
use mathlib.Core.Logic.{◌⊎◌, ⊎_elim}
use Prim.Native.Nat.{ℕ, suc, ◌+◌, ◌-◌, ◌≤◌, ◌<◌}
use native.Mathlib.Omega.{arith}
use lib.ListN.{length, get_or, replicate, length-set, get_or-replicate}
use Rattle.card.specs.Header.{Sized, Formatted}
use Rattle.card.specs.NodeWords.{NodeWords}
use Rattle.card.specs.Layout.{least_nodes, greatest_nodes, place, word}
use Rattle.theory_tree.specs.FreeNodes.{Exact}
use Rattle.theory_change.proofs.Numbers.{free_bit, bit_removed}
use Rattle.theory_change.proofs.Rewritten.{Sound}
use Rattle.theory_format.proofs.FormatCard.{format_card, format_length, Finished, format_finished}
use Rattle.theory_format.proofs.FormatSteps.{fresh_nodes}
use Rattle.theory_format.proofs.FormatStores.{header_words, leaf_kind, other_words}
use Rattle.card_free.specs.NodeSet.{all_nodes, count_true}
use Rattle.card_free.proofs.NodeSetLaws.{all_zero_lem, count_remove, length_all, all_get, all_above, count_all}
use Rattle.laws.proofs.Bits.{bit_true, bit_false, bit_zero}
use Rattle.laws.specs.Totals.{indicator}
use Rattle.laws.proofs.Totals.{indicator_le}
use Rattle.theory_tree.specs.Pairs.{pairs}
use Rattle.theory_tree.specs.Represent.{Holds}
use Rattle.theory_tree.specs.Tree.{Tree, leaf}
use Rattle.theory_tree.specs.Violations.{table_violations}

abbrev pub fresh_tree : Tree
fresh_tree = leaf 1 (replicate 11 0) (replicate 11 0)

pub record FreshTable (greatest : ℕ) (card : List ℕ) (n : ℕ) : Type 0 where
  pub sized : Sized greatest (length card) n
  pub formatted : Formatted card n
  pub holds : Holds card fresh_tree
  pub sound : Sound fresh_tree
  pub no_violations : table_violations fresh_tree ≡ 0
  pub no_pairs : pairs fresh_tree ≡ []
  pub exact : Exact n (fresh_nodes n) fresh_tree
  pub room : count_true (fresh_nodes n) ≡ n - 1

module _ (greatest : ℕ) (n : ℕ) (card : List ℕ) (s : Sized greatest (length card) n) (f : Finished n (length card) card) where
  fresh_header : Formatted card n
  fresh_header =
      let h = header_words n in
      record {
        mark = f.mark;
        nodes = f.written 1 (omega arith) (omega (arith, s.words)) ∙ h.0;
        first = f.written 2 (omega arith) (omega (arith, s.words)) ∙ h.1;
        each = f.written 3 (omega arith) (omega (arith, s.words)) ∙ h.2;
        five = f.written 5 (omega arith) (omega (arith, s.words)) ∙ h.4;
        six = f.written 6 (omega arith) (omega (arith, s.words)) ∙ h.5;
        seven = f.written 7 (omega arith) (omega (arith, s.words)) ∙ h.6;
      }

  -- "an empty leaf, all else 0"
  empty_words : (i : ℕ) → 0 < i → i < 24 → word card 1 i ≡ 0
  empty_words i low high = f.written (place 1 i) (omega arith) (omega (arith, s.words, s.least)) ∙ other_words n (place 1 i) (omega arith)

  fresh_root : NodeWords card 1 1 (replicate 11 0) (replicate 11 0)
  fresh_root =
      record {
        on = record { pos = omega arith; fits = omega (arith, s.words, s.least) };
        kind = f.written 8 (omega arith) (omega (arith, s.words, s.least)) ∙ leaf_kind n;
        low = λ j h. empty_words (1 + j) (omega arith) (omega arith) ∙ sym (get_or-replicate 11 j 0 0 h);
        high = λ j h. empty_words (12 + j) (omega arith) (omega arith) ∙ sym (get_or-replicate 11 j 0 0 h);
        last = empty_words 23 (omega arith) (omega arith);
      }

  fresh_holds : Holds card fresh_tree
  fresh_holds = (f.written 4 (omega arith) (omega (arith, s.words)) ∙ (header_words n).3, omega (arith, s.words), (fresh_root, refl, refl))

fresh_sound : Sound fresh_tree
fresh_sound =
    record {
      once = λ i. indicator_le i 1;
      range = record { inside = refl; once = λ k. omega arith };
      widths = tt;
      level = (0, refl);
      few_violations = omega arith;
    }

module _ (n : ℕ) (least : least_nodes ≤ n) (most : n ≤ greatest_nodes) where
  fresh_exact : Exact n (fresh_nodes n) fresh_tree
  fresh_exact =
      let all_places = length_all n (omega arith) in
      let was_free = bit_true (get_or (all_nodes n) 1 false) (all_get n 1 (omega arith) (omega arith) (omega arith)) in
      let root_taken : (i : ℕ) → free_bit (fresh_nodes n) i + indicator i 1 ≡ free_bit (all_nodes n) i = λ i. bit_removed (all_nodes n) 1 i (omega arith) was_free in
      let none_out : (i : ℕ) → (i ≡ 0) ⊎ (n < i) → get_or (all_nodes n) i false ≡ false = λ i o. ⊎_elim (λ e. rw e (all_zero_lem n)) (λ h. all_above n i h) o in
      record {
        size = simp length-set all_places;
        within = λ m a b. omega (arith, root_taken m, bit_true (get_or (all_nodes n) m false) (all_get n m a b (omega arith)));
        outside_none = λ m o. bit_zero _ (omega (arith, root_taken m, bit_false (get_or (all_nodes n) m false) (none_out m o)));
      }

  fresh_room : count_true (fresh_nodes n) ≡ n - 1
  fresh_room = omega (arith, count_remove (all_nodes n) 1 (omega (arith, length_all n (omega arith))) (all_get n 1 (omega arith) (omega arith) (omega arith)), count_all n)

-- the card after the last store, whatever it held before
pub format_fresh : (greatest : ℕ) (c : List ℕ) (n : ℕ) → Sized greatest (length c) n → FreshTable greatest (format_card n c (suc (length c))) n
format_fresh greatest c n s =
    let made : ℕ = suc (length c) in
    let s' : Sized greatest (length (format_card n c made)) n = rw (format_length n c made) s in
    let f : Finished n (length (format_card n c made)) (format_card n c made) = rw (format_length n c made) (format_finished n c (omega (arith, s.words))) in
    record {
      sized = s';
      formatted = fresh_header greatest n (format_card n c made) s' f;
      holds = fresh_holds greatest n (format_card n c made) s' f;
      sound = fresh_sound;
      no_violations = refl;
      no_pairs = refl;
      exact = fresh_exact n s.least s.most;
      room = fresh_room n s.least s.most;
    }
