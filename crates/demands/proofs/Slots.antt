-- What the look-up in a leaf tells about its rows.
use mathlib.Core.Path.{◌≡◌, refl, ap, sym, ◌∙◌}
use mathlib.Core.List.{List, [], ◌∷◌}
use Prim.Native.Nat.{ℕ, zero, suc, ◌+◌, ◌-◌, ◌≤◌, ◌<◌}
use native.Mathlib.Omega.{arith}
use lib.ListN.{length, get_or}
use lib.Dec.{eqb}
use borrow.Author.Tests.{eqb-true, eqb-false}
use Rattle.card.specs.Layout.{key_words, slot_pairs}
use Rattle.card.proofs.NodeLaws.{length_key_words}
use Rattle.walk.specs.Descent.{first_equal, slot_of}
use Rattle.laws.proofs.Cases.{bool_cases, impossible}
use Rattle.laws.specs.Totals.{indicator, total}
use Rattle.laws.proofs.Totals.{indicator_same, indicator_other}
use Rattle.std.specs.Prelude.{Option, Some, None}

first_hit : (ws : List ℕ) (x j i : ℕ) → first_equal ws x j ≡ Some i → (j ≤ i) × (i < j + length ws) × (get_or ws (i - j) 0 ≡ x)
unfolding first_equal
first_hit [] x j i e = impossible (cc)
first_hit (y ∷ ws) x j i e =
    bool_cases (eqb y x)
    (λ b. let q : ◌≡◌ {A = Option ℕ} (Some j) (Some i) = rw b at e in let k : j ≡ i = cc in let d : i - j ≡ 0 = omega arith in (omega arith, omega arith, rw d (eqb-true y x b)))
    (λ b. let r = first_hit ws x (suc j) i (rw b at e) in let d : i - j ≡ suc (i - suc j) = omega (arith, r.0) in (omega (arith, r.0), omega (arith, r.1), rw d r.2))

first_miss : (ws : List ℕ) (x j : ℕ) → first_equal ws x j ≡ None → total (indicator x) ws ≡ 0
unfolding first_equal
first_miss [] x j e = refl
first_miss (y ∷ ws) x j e =
    bool_cases (eqb y x)
    (λ b. let q : ◌≡◌ {A = Option ℕ} (Some j) None = rw b at e in impossible (cc))
    (λ b. omega (arith, first_miss ws x (suc j) (rw b at e), indicator_other x y (λ q. eqb-false y x b (sym q))))

-- the slot found holds the key
pub slot_holds : (words : List ℕ) (x i : ℕ) → length words ≡ 24 → slot_of words x ≡ Some i → (i < 11) × (get_or (key_words words) i 0 ≡ x)
unfolding slot_of
slot_holds words x i len e = let r = first_hit (key_words words) x 0 i e in let d : i - 0 ≡ i = omega arith in (omega (arith, r.1, length_key_words words len), rw d at r.2)

-- no slot is empty: eleven pairs
full_row : (ks vs : List ℕ) → length ks ≡ length vs → total (indicator 0) ks ≡ 0 → length (slot_pairs ks vs) ≡ length ks
full_row [] vs n z = refl
full_row (k ∷ ks) [] n z = absurd (omega arith)
full_row (zero ∷ ks) (v ∷ vs) n z = absurd (omega (arith, indicator_same 0))
full_row (suc k ∷ ks) (v ∷ vs) n z = ap suc (full_row ks vs (omega arith) (omega arith))

pub slots_full : (words ks vs : List ℕ) → key_words words ≡ ks → length ks ≡ 11 → length vs ≡ 11 → slot_of words 0 ≡ None → length (slot_pairs ks vs) ≡ 11
unfolding slot_of
slots_full words ks vs e lk lv n = full_row ks vs (omega arith) (ap (total (indicator 0)) (sym e) ∙ first_miss (key_words words) 0 0 n) ∙ lk
