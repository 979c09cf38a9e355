-- Which change a repair comes to, where the tests on the card are decided. The theory of changes goes by these laws.
use mathlib.Core.Path.{◌≡◌, ap, ◌∙◌}
use mathlib.Core.Bool.{Bool, true, false, ◌&&◌}
use mathlib.Core.List.{List}
use Prim.Native.Nat.{ℕ, suc, ◌≤◌, ◌<◌}
use native.Mathlib.Omega.{arith}
use lib.ListN.{length, get_or}
use lib.Dec.{eqb}
use Rattle.card.specs.Layout.{root_place, depth_limit, kind_of, node_at, children}
use Rattle.walk.specs.Descent.{root_position, seek}
use Rattle.walk.specs.declared.Position.{Position}
use Rattle.walk.specs.declared.Search.TheVariants.{Balanced as SearchBalanced, Violation as SearchViolation}
use Rattle.change_decide.specs.Decide.{decide_siblings, decide_together, is_node, left_sibling, left_number, right_number, decide_at, on_search}
use Rattle.change_decide.specs.Decide.{decided_repair}
use Rattle.change_decide.specs.Places.{parent_at, left_at, right_at}
use Rattle.change_decide.specs.declared.Decision.{Decision}
use Rattle.change_decide.proofs.DecideLaws.{tagged_absorbed, tagged_split, together_shared, together_root, together_merged, underfull_both, decided_tagged, decided_underfull}
use Rattle.change_plan.specs.Change.{absorb, split_parent, share, merge, merge_root}
use Rattle.change_plan.specs.Planning.{Preparation, balanced, giving, first, second, third}
use Rattle.change_siblings.specs.Siblings.{together_at}
use Rattle.change_split.specs.Split.{keys_taken_in, children_taken_in}
use Rattle.change_layout.specs.LayOut.{lay_out}
use Rattle.change_layout.specs.Mending.{next_repair}

-- the repair of the violation at a position, decided and laid out
unfoldable pub mend : List ℕ → ℕ → Position → List Bool → ℕ → Preparation
mend card n p free last = lay_out card (decide_at card n p) free last

module _ (card : List ℕ) (n : ℕ) (free : List Bool) (last : ℕ) where
  decided : {d e : Decision} → d ≡ e → lay_out card d free last ≡ lay_out card e free last
  decided e = ap (λ (d : Decision). lay_out card d free last) e

  -- what the search on a key's way found
  pub repair_balanced : (key : ℕ) → seek card n key depth_limit (root_position (get_or card root_place 0)) ≡ SearchBalanced → next_repair card n key free last ≡ balanced
  unfolding next_repair decided_repair on_search lay_out
  repair_balanced key e = decided (ap (on_search card n) e)

  pub repair_mends : (key : ℕ) (p : Position) → seek card n key depth_limit (root_position (get_or card root_place 0)) ≡ SearchViolation p
      → next_repair card n key free last ≡ mend card n p free last
  unfolding next_repair decided_repair on_search mend
  repair_mends key p e = decided (ap (on_search card n) e)

  module _ (p : Position) where
    -- a tagged node
    module _ (inner : kind_of (parent_at card p) ≡ 2) (tagged : kind_of (node_at card p.node) ≡ 3) (two : length (children (node_at card p.node)) ≡ 2) where
      pub mend_absorbs : length (children (parent_at card p)) ≤ 10
          → mend card n p free last
          ≡ giving 1 free last (λ ms. absorb p (keys_taken_in card p) (children_taken_in card p) (first ms))
      unfolding mend lay_out
      mend_absorbs h = decided (decided_tagged card n p inner tagged ∙ tagged_absorbed p _ _ two h)

      pub mend_splits : 10 < length (children (parent_at card p))
          → mend card n p free last
          ≡ giving 3 free last (λ ms. split_parent p (keys_taken_in card p) (children_taken_in card p) (first ms) (second ms) (third ms))
      unfolding mend lay_out
      mend_splits h = decided (decided_tagged card n p inner tagged ∙ tagged_split p _ _ two h)

    -- two siblings on the card, of which one, not tagged, is the violation
    pub mend_siblings_lem : kind_of (parent_at card p) ≡ 2 → (kind_of (node_at card p.node) ≡ 3 → ⊥) → suc (left_sibling p) < length (children (parent_at card p))
        → is_node n (left_number (parent_at card p) p) ≡ true → is_node n (right_number (parent_at card p) p) ≡ true
        → mend card n p free last ≡ lay_out card (decide_siblings p (parent_at card p) (left_at card p) (right_at card p)) free last
    unfolding mend
    mend_siblings_lem inner other beside x y = decided (decided_underfull card n p inner other ∙ underfull_both card n p (parent_at card p) beside x y)

    -- how many they have together decides: shared out, merged, or merged into the root
    module _ (count : ℕ) where
      pub share_due : 4 ≤ count → count ≤ 12
          → lay_out card (decide_together p (parent_at card p) count) free last
          ≡ giving 3 free last (λ ms. share p (parent_at card p) (left_sibling p) (together_at card p) (first ms) (second ms) (third ms))
      unfolding lay_out
      share_due h l = decided (together_shared p (parent_at card p) count l h)

      pub merge_root_due : count ≤ 3 → (eqb p.above root_place && eqb (length (children (parent_at card p))) 2) ≡ true
          → lay_out card (decide_together p (parent_at card p) count) free last
          ≡ giving 1 free last (λ ms. merge_root p (parent_at card p) (left_sibling p) (together_at card p) (first ms))
      unfolding lay_out
      merge_root_due h t = decided (together_root p (parent_at card p) count (omega arith) t)

      pub merge_due : count ≤ 3 → (eqb p.above root_place && eqb (length (children (parent_at card p))) 2) ≡ false
          → lay_out card (decide_together p (parent_at card p) count) free last
          ≡ giving 2 free last (λ ms. merge p (parent_at card p) (left_sibling p) (together_at card p) (first ms) (second ms))
      unfolding lay_out
      merge_due h t = decided (together_merged p (parent_at card p) count (omega arith) t)
