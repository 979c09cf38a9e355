-- Totals over the pairs whose keys are above a number: going on to the next pair takes just that pair out of them.
use mathlib.Core.Path.{◌≡◌, refl, ap, ap₂, sym, ◌∙◌}
use mathlib.Core.List.{List, [], ◌∷◌}
use mathlib.Core.Option.{some, none-ne-some, some-injective}
use mathlib.Core.Logic.{by_cases}
use Prim.Native.Nat.{ℕ, ◌+◌, ◌≤◌, ◌<◌}
use native.Mathlib.Omega.{arith}
use native.Mathlib.Decide.{ℕ_discrete}
use lib.Dec.{eqb, ltb}
use borrow.Author.Tests.{lt-ltb, le-ltb, ne_eqb, eq-eqb}
use Rattle.laws.proofs.Cases.{order}
use Rattle.laws.specs.Cases.{pick}
use Rattle.laws.proofs.Totals.{indicator_same, indicator_zero}
use Rattle.laws.specs.Totals.{total}
use Rattle.walk_next.specs.Next.{Pair, Nothing}
use Rattle.theory_next.proofs.IsNext.{IsNext}
use Rattle.theory_tree.proofs.Lookup.{absent_counted}
use Rattle.theory_tree.specs.Pairs.{lookup, has_key}

-- a weight, where the key is above a number, and where it is a certain one
abbrev pub above : ℕ → (ℕ × ℕ → ℕ) → ℕ × ℕ → ℕ
above after w p = pick (ltb after p.0) (w p) 0

abbrev at_key : ℕ → (ℕ × ℕ → ℕ) → ℕ × ℕ → ℕ
at_key k w p = pick (eqb k p.0) (w p) 0

module _ (w : ℕ × ℕ → ℕ) where
  -- keys are above 0
  pub above_all : (ps : List (ℕ × ℕ)) → total (has_key 0) ps ≡ 0 → total (above 0 w) ps ≡ total w ps
  above_all [] h = refl
  above_all (p ∷ ps) h =
      let other = indicator_zero 0 p.0 (omega arith) in
      rw (lt-ltb 0 p.0 (order 0 p.0 (λ o. o) (λ o. absurd (other (omega arith))))) (ap (λ (x : ℕ). w p + x) (above_all ps (omega arith)))

  above_none : (after : ℕ) (ps : List (ℕ × ℕ)) → ((x : ℕ) → after < x → total (has_key x) ps ≡ 0) → total (above after w) ps ≡ 0
  above_none after [] h = refl
  above_none after (p ∷ ps) h =
      order after p.0 (λ o. absurd (omega (arith, h p.0 o, indicator_same p.0)))
      (λ o. rw (le-ltb after p.0 o) (omega (arith, above_none after ps (λ x a. omega (arith, h x a)))))

  at_key_none : (k : ℕ) (ps : List (ℕ × ℕ)) → total (has_key k) ps ≡ 0 → total (at_key k w) ps ≡ 0
  at_key_none k [] h = refl
  at_key_none k (p ∷ ps) h = rw (ne_eqb k p.0 (λ e. indicator_zero k p.0 (omega arith) (sym e))) (omega (arith, at_key_none k ps (omega arith)))

  -- a key that is there once
  at_key_once : (k v : ℕ) (ps : List (ℕ × ℕ)) → total (has_key k) ps ≤ 1 → lookup k ps ≡ some v → total (at_key k w) ps ≡ w (k, v)
  at_key_once k v [] once e = absurd (none-ne-some v e)
  at_key_once k v (p ∷ ps) once e =
      by_cases (ℕ_discrete k p.0)
      (λ same. let b = eq-eqb k p.0 same in
      let value : p.1 ≡ v = some-injective p.1 v (rw b at e) in
      let is_pair : w p ≡ w (k, v) = ap₂ (λ (x y : ℕ). w (x, y)) (sym same) value in
      rw b (omega (arith, is_pair, at_key_none k ps (omega (arith, indicator_same k, ap (λ (x : ℕ). has_key k (x, 0)) same)))))
      (λ other. let b = ne_eqb k p.0 other in rw b (omega (arith, at_key_once k v ps (omega arith) (rw b at e))))

  -- with no key strictly between two numbers, above the one is at the other or above it
  above_head : (after k : ℕ) (p : ℕ × ℕ) → after < k → (after < p.0 → p.0 < k → ⊥) → above after w p ≡ at_key k w p + above k w p
  above_head after k p h between =
      order p.0 k
      (λ o. order after p.0 (λ q. absurd (between q o)) (λ q. rw (le-ltb after p.0 q, ne_eqb k p.0 (λ e. omega arith), le-ltb k p.0 (omega arith))))
      (λ o. by_cases (ℕ_discrete k p.0)
      (λ e. rw (lt-ltb after p.0 (omega arith), eq-eqb k p.0 e, le-ltb k p.0 (omega arith)) (omega arith))
      (λ e. rw (lt-ltb after p.0 (omega arith), ne_eqb k p.0 e, lt-ltb k p.0 (omega arith)) (omega arith)))

  above_split : (after k : ℕ) (ps : List (ℕ × ℕ)) → after < k → ((x : ℕ) → after < x → x < k → total (has_key x) ps ≡ 0) → total (above after w) ps ≡ total (at_key k w) ps + total (above k w) ps
  above_split after k [] h between = refl
  above_split after k (p ∷ ps) h between =
      let head = above_head after k p h (λ a b. omega (arith, between p.0 a b, indicator_same p.0)) in
      let tail = above_split after k ps h (λ x a b. omega (arith, between x a b)) in
      omega (arith, head, tail)

  -- the same of the next pair
  pub above_next : (after k v : ℕ) (ps : List (ℕ × ℕ)) → total (has_key k) ps ≤ 1 → IsNext ps after (Pair k v) → total (above after w) ps ≡ w (k, v) + total (above k w) ps
  above_next after k v ps once i =
      above_split after k ps i.0 (λ x a b. absent_counted x ps (i.2 x a b)) ∙ ap (λ (x : ℕ). x + total (above k w) ps) (at_key_once k v ps once i.1)

  pub above_last : (after : ℕ) (ps : List (ℕ × ℕ)) → IsNext ps after Nothing → total (above after w) ps ≡ 0
  above_last after ps i = above_none after ps (λ x a. absent_counted x ps (i x a))
