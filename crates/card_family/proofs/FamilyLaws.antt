-- Laws of the totals: what counting a pair in or out does to them.
use Rattle.std.proofs.Common.{◌≡◌, ℕ, suc, ◌+◌, ◌*◌, ◌%◌, ◌^◌, ◌<◌, ◌≤◌, ◌≢◌, List, [], length, get_or, set, ap, ◌∙◌, arith, length-set, get_or-set_other, get_or-set_same, set-set}
use mathlib.Core.Logic.{by_cases}
use native.Mathlib.Decide.{ℕ_discrete}
use lib.ListN.{length-replicate, get_or-replicate}
use lib.Seq.{set-get_or}
use Rattle.laws.specs.Totals.{total}
use Rattle.laws.proofs.Totals.{indicator_same, indicator_other, indicator_le, total_le, total_length}
use Rattle.card_family.specs.Families.{family_count, family_size, family_of, of_family, no_totals, counted_in, counted_out, several_in}

-- "0 to 15"
pub family_below : (key : ℕ) → key < 2 ^ 32 → family_of key < family_count
unfolding family_of
family_below key h = omega arith

pub of_own : (p : ℕ × ℕ) → of_family (family_of p.0) p ≡ 1
unfolding of_family
of_own p = indicator_same (family_of p.0)

pub of_other : (f : ℕ) (p : ℕ × ℕ) → f ≢ family_of p.0 → of_family f p ≡ 0
unfolding of_family
of_other f p d = indicator_other f (family_of p.0) d

-- a family has at most all pairs
pub family_few : (f : ℕ) (l : List (ℕ × ℕ)) → total (of_family f) l ≤ length l
unfolding of_family
family_few f l = omega (arith, total_le (of_family f) (λ p. 1) (λ p. indicator_le f (family_of p.0)) l, total_length l)

-- a range that ends with the family of its low end has no other
pub one_family : (low high key : ℕ) → high ≤ (family_of low + 1) * family_size → low ≤ key → key < high → family_of key ≡ family_of low
unfolding family_of
one_family low high key e l h = omega arith

-- several at once are as many one by one
module _ (low : ℕ) (totals : List ℕ) where
  pub several_none : get_or totals (family_of low) 0 < 2 ^ 32 → several_in low 0 totals ≡ totals
  unfolding several_in
  several_none h =
      ap (set totals (family_of low)) (let z : (get_or totals (family_of low) 0 + 0) % 2 ^ 32 ≡ get_or totals (family_of low) 0 = omega arith in z)
      ∙ set-get_or totals (family_of low) 0

  pub several_more : (key count : ℕ) → family_of key ≡ family_of low → family_of low < length totals → counted_in key (several_in low count totals) ≡ several_in low (suc count) totals
  unfolding several_in
  several_more key count e h =
      let f : ℕ = family_of low in
      let x : ℕ = (get_or totals (family_of low) 0 + count) % 2 ^ 32 in
      rw e (ap (λ (y : ℕ). set (set totals f x) f ((y + 1) % 2 ^ 32)) (get_or-set_same totals f x 0 h)
      ∙ set-set totals f x ((x + 1) % 2 ^ 32) ∙ ap (set totals f) (let z : (x + 1) % 2 ^ 32 ≡ (get_or totals f 0 + suc count) % 2 ^ 32 = omega arith in z))

-- the totals are those of the pairs: "each total .. equals the pairs of that family in the map"
pub record Totals (totals : List ℕ) (l : List (ℕ × ℕ)) : Type 0 where
  pub words : length totals ≡ family_count
  pub each : (f : ℕ) → f < family_count → get_or totals f 0 ≡ total (of_family f) l

pub totals_none : Totals no_totals []
totals_none = record { words = length-replicate {A = ℕ} family_count 0; each = zeros }
  where
    zeros : (f : ℕ) → f < family_count → get_or no_totals f 0 ≡ 0
    zeros f h = get_or-replicate family_count f 0 0 h

pub totals_same : (totals : List ℕ) (a b : List (ℕ × ℕ)) → ((w : ℕ × ℕ → ℕ) → total w a ≡ total w b) → Totals totals a → Totals totals b
totals_same totals a b s k = record { words = k.words; each = λ f h. k.each f h ∙ s (of_family f) }

-- so many more in one family, and as many in each other
totals_by : (key by : ℕ) → key < 2 ^ 32 → (totals : List ℕ) (a b : List (ℕ × ℕ)) → Totals totals a
    → ((total (of_family (family_of key)) a + by) % 2 ^ 32 ≡ total (of_family (family_of key)) b)
    → ((f : ℕ) → f ≢ family_of key → total (of_family f) a ≡ total (of_family f) b) → Totals (several_in key by totals) b
unfolding several_in
totals_by key by h totals a b k own others =
    record {
      words = length-set totals (family_of key) _ ∙ k.words;
      each = λ f l. by_cases (ℕ_discrete f (family_of key))
          (λ e. rw e (get_or-set_same totals (family_of key) _ 0 (omega (arith, k.words, family_below key h))
          ∙ ap (λ (x : ℕ). (x + by) % 2 ^ 32) (k.each (family_of key) (family_below key h)) ∙ own))
          (λ d. get_or-set_other totals (family_of key) f _ 0 d ∙ k.each f l ∙ others f d);
    }

module _ (key value : ℕ) (h : key < 2 ^ 32) (totals : List ℕ) (a b : List (ℕ × ℕ)) (k : Totals totals a) where
  pub totals_in : ((w : ℕ × ℕ → ℕ) → total w b ≡ w (key, value) + total w a) → length b < 2 ^ 32 → Totals (counted_in key totals) b
  totals_in s few =
      totals_by key 1 h totals a b k (omega (arith, s (of_family (family_of key)), of_own (key, value), family_few (family_of key) b))
      (λ f d. omega (arith, s (of_family f), of_other f (key, value) d))

  pub totals_out : ((w : ℕ × ℕ → ℕ) → total w a ≡ w (key, value) + total w b) → length a < 2 ^ 32 → Totals (counted_out key totals) b
  totals_out s few =
      totals_by key 4294967295 h totals a b k (omega (arith, s (of_family (family_of key)), of_own (key, value), family_few (family_of key) a))
      (λ f d. omega (arith, s (of_family f), of_other f (key, value) d))
