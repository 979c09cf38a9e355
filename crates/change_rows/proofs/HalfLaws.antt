-- Laws of what two nodes hold together, shared out.
use mathlib.Core.Path.{◌≡◌, ap, ap₂, sym}
use mathlib.Core.List.{List, ◌++◌, append-nil}
use mathlib.Core.Bool.{Bool, true, false}
use Prim.Native.Nat.{ℕ, ◌+◌, ◌-◌, ◌/◌, ◌≤◌, ◌<◌}
use native.Mathlib.Omega.{arith}
use lib.ListN.{length, get_or, take, drop}
use lib.Dec.{eqb}
use borrow.Author.Tests.{ne_eqb, eq-eqb}
use Rattle.laws.specs.Cases.{pick}
use Rattle.card.specs.Layout.{node_image}
use Rattle.change_plan.specs.Change.{Together, half, left_keys, key_between, halves}
use Rattle.change_rows.specs.Nodes.{new_words}
use Rattle.change_rows.specs.Halves.{together, keys_for, Whole, left_words, right_words, halves_words}
use Rattle.change_rows.proofs.RowLaws.{drop_end}

pub keys_leaf : (kind v : ℕ) → kind ≡ 1 → v ≡ keys_for kind v
unfolding keys_for
keys_leaf kind v e = rw (eq-eqb kind 1 e)

pub keys_inner : (kind v : ℕ) → (kind ≡ 1 → ⊥) → v - 1 ≡ keys_for kind v
unfolding keys_for
keys_inner kind v e = rw (ne_eqb kind 1 e)

pub keys_most : (kind v : ℕ) → keys_for kind v ≤ v
unfolding keys_for
keys_most kind v = go (eqb kind 1)
  where
    go : (b : Bool) → pick b v (v - 1) ≤ v
    go true = omega arith
    go false = omega arith

-- the left node gets fewer keys than there are, and the right one some
keys_shared : (kind n : ℕ) → 4 ≤ n
    → (keys_for kind ((n + 1) / 2) < keys_for kind n) × ((n + 1) / 2 ≤ keys_for kind n) × (keys_for kind n ≤ n) × (keys_for kind ((n + 1) / 2) ≤ (n + 1) / 2)
unfolding keys_for
keys_shared kind n h = go (eqb kind 1)
  where
    go : (b : Bool)
        → (pick b ((n + 1) / 2) ((n + 1) / 2 - 1) < pick b n (n - 1)) × ((n + 1) / 2 ≤ pick b n (n - 1)) × (pick b n (n - 1) ≤ n)
        × (pick b ((n + 1) / 2) ((n + 1) / 2 - 1) ≤ (n + 1) / 2)
    go true = (omega arith, omega arith, omega arith, omega arith)
    go false = (omega arith, omega arith, omega arith, omega arith)

-- the numbers that the code cuts the rows by
pub record Counts (kind : ℕ) (keys beside : List ℕ) (half taken : ℕ) : Type 0 where
  pub some : 0 < half
  pub few : half ≤ 6
  pub fewer : length beside - half ≤ 6
  pub within : half ≤ length beside
  pub keys_left : taken < length keys
  pub few_keys : taken ≤ 6
  pub keys_within : half ≤ length keys
  pub keys_right : length keys - half ≤ 6

pub whole_counts : (kind : ℕ) (keys beside : List ℕ) (k : ℕ) → Whole kind keys beside → k ≡ keys_for kind ((length beside + 1) / 2)
    → Counts kind keys beside ((length beside + 1) / 2) k
whole_counts kind keys beside k w e =
    let s = keys_shared kind (length beside) w.enough in
    let few : length beside ≤ 12 = w.few in
    let enough : 4 ≤ length beside = w.enough in
    let long : length keys ≡ keys_for kind (length beside) = w.keyed in
    record {
      some = omega arith;
      few = omega arith;
      fewer = omega arith;
      within = omega arith;
      keys_left = omega (arith, s.0);
      few_keys = omega (arith, s.3);
      keys_within = omega (arith, s.1);
      keys_right = omega (arith, s.2);
    }

-- what the code cuts out for the two, and the key between them
module _ (kind : ℕ) (keys beside : List ℕ) where
  pub left_cut : (k : ℕ) → k ≡ keys_for kind ((length beside + 1) / 2)
      → node_image kind (take k keys) (take ((length beside + 1) / 2) beside) ≡ left_words (together kind keys beside)
  unfolding left_words left_keys half keys_for
  left_cut k e = ap (λ (n : ℕ). node_image kind (take n keys) (take ((length beside + 1) / 2) beside)) e

  pub right_cut : node_image kind
      (take (length keys - (length beside + 1) / 2) (drop ((length beside + 1) / 2) keys))
      (take (length beside - (length beside + 1) / 2) (drop ((length beside + 1) / 2) beside))
      ≡ right_words (together kind keys beside)
  unfolding right_words half
  right_cut = ap₂ (node_image kind) (drop_end ((length beside + 1) / 2) keys) (drop_end ((length beside + 1) / 2) beside)

  pub key_read : (k : ℕ) → k ≡ keys_for kind ((length beside + 1) / 2) → get_or keys k 0 ≡ key_between (together kind keys beside)
  unfolding key_between left_keys half keys_for
  key_read k e = ap (λ (i : ℕ). get_or keys i 0) e

-- the words of the two are those of two new nodes, whatever their numbers
pub halves_words_lem : (both : Together) (a b : ℕ) → halves_words both ≡ new_words (halves both a b)
unfolding left_words right_words new_words halves
halves_words_lem both a b = ap (λ (l : List ℕ). left_words both ++ l) (sym (append-nil (right_words both)))
