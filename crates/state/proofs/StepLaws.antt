-- Laws of the stores: one for each branch of the code.
use mathlib.Core.Path.{◌≡◌, refl, ap, ap₂, sym, ◌∙◌}
use mathlib.Core.List.{List, [], ◌∷◌, zip, zip_with}
use mathlib.Core.Bool.{Bool, true, false}
use mathlib.Core.Option.{none, some}
use Prim.Native.Nat.{ℕ, zero, suc, ◌+◌, ◌≤◌, ◌<◌}
use native.Mathlib.Omega.{arith}
use native.Mathlib.Numerals.{add-one}
use lib.ListN.{length, set, get_or, take, drop, length-take, drop_of_length-le}
use lib.Seq.{drop-cons, get_or-take}
use lib.Dec.{ltb}
use borrow.Author.Tests.{ltb-true, lt-ltb, le-ltb, ne_eqb, eq-eqb}
use Rattle.card.specs.Stores.{Store}
use Rattle.change_plan.specs.Plan.{stores_of}
use Rattle.change_plan.specs.Planning.{with_all}
use Rattle.laws.proofs.Cases.{order, impossible}
use Rattle.laws.specs.Lists.{before_zero}
use Rattle.state.specs.Steps.{step_refused, formatted_word, format_store, step_store}
use Rattle.state.specs.Memory.{Memory, advanced}
use Rattle.state.specs.Results.{more_to_store}
use Rattle.state.specs.Answer.{Stored}

-- the stores of a plan, from one on
zip_nil : (xs : List ℕ) → zip {A = ℕ} {B = ℕ} xs [] ≡ []
unfolding zip zip_with
zip_nil [] = refl
zip_nil (x ∷ xs) = refl

zip_drop : (k : ℕ) (xs ys : List ℕ) → drop k (zip xs ys) ≡ zip (drop k xs) (drop k ys)
unfolding zip zip_with
zip_drop zero xs ys = refl
zip_drop (suc k) [] ys = refl
zip_drop (suc k) (x ∷ xs) [] = sym (zip_nil (drop k xs))
zip_drop (suc k) (x ∷ xs) (y ∷ ys) = zip_drop k xs ys

module _ (places values : List ℕ) (count k : ℕ) (lp : length places ≡ 73) (lv : length values ≡ 73) where
  pub store_at : k < count → k < 73 → drop k (stores_of places values count) ≡ (get_or places k 0, get_or values k 0) ∷ drop (k + 1) (stores_of places values count)
  unfolding stores_of zip zip_with
  store_at h l =
      let hp : k < length (take count places) = simp length-take (omega arith) in
      let hv : k < length (take count values) = simp length-take (omega arith) in
      zip_drop k (take count places) (take count values)
      ∙ ap₂ (λ (x y : List ℕ). zip x y) (drop-cons (take count places) k 0 hp) (drop-cons (take count values) k 0 hv)
      ∙ ap₂ (λ (x y : ℕ). (x, y) ∷ zip (drop (suc k) (take count places)) (drop (suc k) (take count values))) (get_or-take count places k 0 h) (get_or-take count values k 0 h)
      ∙ ap (λ (r : List Store). (get_or places k 0, get_or values k 0) ∷ r) (sym (zip_drop (suc k) (take count places) (take count values)))
      ∙ ap (λ (j : ℕ). (get_or places k 0, get_or values k 0) ∷ drop j (zip (take count places) (take count values))) (sym (add-one k))

  pub stores_full : 73 ≤ k → drop k (stores_of places values count) ≡ []
  unfolding stores_of zip zip_with
  stores_full h =
      zip_drop k (take count places) (take count values)
      ∙ ap (λ (x : List ℕ). zip x (drop k (take count values))) (drop_of_length-le (take count places) {i = k} (simp length-take (omega arith)))

  pub stores_end : count ≤ k → drop k (stores_of places values count) ≡ []
  unfolding stores_of zip zip_with
  stores_end h =
      zip_drop k (take count places) (take count values)
      ∙ ap (λ (x : List ℕ). zip x (drop k (take count values))) (drop_of_length-le (take count places) {i = k} (simp length-take (omega arith)))

  pub more_full : 73 ≤ k → more_to_store (drop k (stores_of places values count)) ≡ false
  unfolding more_to_store
  more_full h = ap more_to_store (stores_full h)

  pub more_test : k < 73 → more_to_store (drop k (stores_of places values count)) ≡ ltb k count
  unfolding more_to_store
  more_test l = order k count (λ o. ap more_to_store (store_at o l) ∙ sym (lt-ltb k count o)) (λ o. ap more_to_store (stores_end o) ∙ sym (le-ltb k count o))

  -- a store is to come exactly where it is below both ends
  pub more_below : more_to_store (drop k (stores_of places values count)) ≡ true → (k < count) × (k < 73)
  more_below e =
      order k 73 (λ l. (ltb-true k count (sym (more_test l) ∙ e), l))
      (λ o. let z : false ≡ true = sym (more_full o) ∙ e in impossible (cc))

pub more_none : (ss : List Store) → more_to_store ss ≡ false → ss ≡ []
unfolding more_to_store
more_none [] e = refl
more_none (s ∷ rest) e = impossible (cc)

-- the nodes that are cut out, one after the other
with_first : (x : ℕ) (l : List ℕ) (free : List Bool) → (x ≡ 0 → ⊥) → with_all (before_zero (x ∷ l)) free ≡ with_all (before_zero l) (set free x true)
unfolding with_all
with_first zero l free q = absurd (q refl)
with_first (suc x) l free q = refl

module _ (cut : List ℕ) (i : ℕ) where
  pub cut_end : length cut ≤ i → before_zero (drop i cut) ≡ []
  cut_end h = ap before_zero (drop_of_length-le cut {i = i} h)

  pub cut_zero : i < length cut → get_or cut i 0 ≡ 0 → before_zero (drop i cut) ≡ []
  cut_zero h z = ap before_zero (drop-cons cut i 0 h) ∙ ap (λ (x : ℕ). before_zero (x ∷ drop (suc i) cut)) z

  pub cut_next : (free : List Bool) → i < length cut → (get_or cut i 0 ≡ 0 → ⊥) → with_all (before_zero (drop i cut)) free ≡ with_all (before_zero (drop (i + 1) cut)) (set free (get_or cut i 0) true)
  unfolding with_all
  cut_next free h p =
      ap (λ (l : List ℕ). with_all (before_zero l) free) (drop-cons cut i 0 h) ∙ with_first (get_or cut i 0) (drop (suc i) cut) free p
      ∙ ap (λ (j : ℕ). with_all (before_zero (drop j cut)) (set free (get_or cut i 0) true)) (sym (add-one i))

pub no_cut : (free : List Bool) → with_all [] free ≡ free
unfolding with_all
no_cut free = refl

-- one store, by whether its place is on the card
module _ (card : List ℕ) (m : Memory) (s : Store) (next : Memory) where
  pub store_outside : length card ≤ s.0 → step_store card m s next ≡ step_refused 9 card m
  unfolding step_store
  store_outside h = simp (le-ltb s.0 (length card) h)

  pub store_inside : s.0 < length card → step_store card m s next ≡ record { answer = Stored s.0; card = set card s.0 s.1; memory = next }
  unfolding step_store
  store_inside h = simp (lt-ltb s.0 (length card) h)

-- the stores to come that a state tells of do not bear on the next state
pub advance_same : (m : Memory) (r ss : List Store)
    → advanced (record { nodes = m.nodes; free = m.free; last = m.last; doing = m.doing; rest = r; cut = m.cut; depth = m.depth; totals = m.totals }) ss
    ≡ advanced m ss
unfolding advanced
advance_same m r [] = refl
advance_same m r (s ∷ rest) = refl

-- formatting
module _ (n len made : ℕ) where
  pub format_first : made ≡ 0 → format_store n len made ≡ some (0, 0)
  unfolding format_store
  format_first z = simp (eq-eqb made 0 z)

  pub format_middle : (made ≡ 0 → ⊥) → made < len → format_store n len made ≡ some (made, formatted_word n made)
  unfolding format_store
  format_middle p h = simp (ne_eqb made 0 p, lt-ltb made len h)

  pub format_last : (made ≡ 0 → ⊥) → made ≡ len → format_store n len made ≡ some (0, 1)
  unfolding format_store
  format_last p h = simp (ne_eqb made 0 p, le-ltb made len (omega arith), eq-eqb made len h)

  pub format_end : len < made → format_store n len made ≡ none
  unfolding format_store
  format_end h = simp (ne_eqb made 0 (λ z. omega arith), le-ltb made len (omega arith), ne_eqb made len (λ z. omega arith))

-- the words of a formatted card that are 0
pub word_other : (n i : ℕ) → (i ≡ 1 → ⊥) → (i ≡ 2 → ⊥) → (i ≡ 3 → ⊥) → (i ≡ 4 → ⊥) → (i ≡ 8 → ⊥) → formatted_word n i ≡ 0
unfolding formatted_word
word_other n i a b c d e = simp (ne_eqb i 1 a, ne_eqb i 2 b, ne_eqb i 3 c, ne_eqb i 4 d, ne_eqb i 8 e)
