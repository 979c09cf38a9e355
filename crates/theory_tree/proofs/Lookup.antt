-- Lists of pairs that hold the same pairs answer every look-up alike.
use mathlib.Core.Path.{◌≡◌, refl, ap, sym}
use mathlib.Core.List.{List, [], ◌∷◌}
use mathlib.Core.Option.{Option, none, some, none-ne-some, some-injective}
use mathlib.Core.Logic.{inl, inr, by_cases}
use Prim.Native.Nat.{ℕ, ◌+◌, ◌≤◌, ◌<◌}
use native.Mathlib.Omega.{arith}
use native.Mathlib.Decide.{ℕ_discrete}
use lib.Dec.{eqb}
use borrow.Author.Tests.{eqb-false, ne_eqb, eq-eqb}
use Rattle.laws.proofs.Cases.{bool_cases, order}
use Rattle.laws.specs.Cases.{pick}
use Rattle.laws.specs.Totals.{indicator, total}
use Rattle.laws.proofs.Totals.{indicator_same, indicator_other, indicator_le, total_append, total_le}
use Rattle.theory_tree.specs.Pairs.{pairs, forest_pairs, lookup, has_key}
use Rattle.theory_tree.proofs.Pairs.{lookup_none, InRange, AllInRange, absent, absents}
use Rattle.theory_tree.specs.Tree.{Tree, Forest, leaf, node, one, more}

-- a key is at most once in a tree whose ranges are right
mutual
  pub key_once : (lo hi k : ℕ) (t : Tree) → InRange lo hi t → total (has_key k) (pairs t) ≤ 1
  key_once lo hi k (leaf m ks vs) i = i.once k
  key_once lo hi k (node m g f) i = keys_once lo hi k f i

  pub keys_once : (lo hi k : ℕ) (f : Forest) → AllInRange lo hi f → total (has_key k) (forest_pairs f) ≤ 1
  keys_once lo hi k (one t) i = key_once lo hi k t i
  keys_once lo hi k (more t x f) i =
      order k x (λ o. omega (arith, total_append (has_key k) (pairs t) (forest_pairs f), key_once lo x k t i.0, absents x hi k (inl o) f i.3))
      (λ o. omega (arith, total_append (has_key k) (pairs t) (forest_pairs f), absent lo x k (inr o) t i.0, keys_once x hi k f i.3))

-- 1 for the pair (k, v), else 0
is_pair : ℕ → ℕ → ℕ × ℕ → ℕ
is_pair k v p = pick (eqb k p.0) (indicator v p.1) 0

is_pair_key : (k v : ℕ) (p : ℕ × ℕ) → is_pair k v p ≤ has_key k p
unfolding is_pair
is_pair_key k v p =
    by_cases (ℕ_discrete k p.0)
    (λ e. rw (eq-eqb k p.0 e) (omega (arith, indicator_le v p.1, indicator_same k, ap (indicator k) e)))
    (λ d. rw (ne_eqb k p.0 d) (omega arith))

found_counted : (k v : ℕ) (l : List (ℕ × ℕ)) → lookup k l ≡ some v → 0 < total (is_pair k v) l
unfolding is_pair
found_counted k v [] e = absurd (none-ne-some v e)
found_counted k v (p ∷ l) e =
    bool_cases (eqb k p.0)
    (λ b. let q : p.1 ≡ v = some-injective p.1 v (rw b at e) in rw (b, q, indicator_same v) (omega arith))
    (λ b. rw b (omega (arith, found_counted k v l (rw b at e))))

counted_found : (k v : ℕ) (l : List (ℕ × ℕ)) → total (has_key k) l ≤ 1 → 0 < total (is_pair k v) l → lookup k l ≡ some v
unfolding is_pair
counted_found k v [] o h = absurd (omega arith)
counted_found k v (p ∷ l) o h =
    by_cases (ℕ_discrete k p.0)
    (λ e. let b = eq-eqb k p.0 e in
    let none_after : total (is_pair k v) l ≡ 0 = omega (arith, total_le (is_pair k v) (has_key k) (is_pair_key k v) l, o, indicator_same k, ap (indicator k) e) in
    let here : 0 < indicator v p.1 + total (is_pair k v) l = rw b at h in
    by_cases (ℕ_discrete v p.1) (λ q. rw (b, q)) (λ q. absurd (omega (arith, indicator_other v p.1 q))))
    (λ d. let b = ne_eqb k p.0 d in
    let later : 0 < 0 + total (is_pair k v) l = rw b at h in
    rw b (counted_found k v l (omega arith) (omega arith)))

pub absent_counted : (k : ℕ) (l : List (ℕ × ℕ)) → lookup k l ≡ none → total (has_key k) l ≡ 0
absent_counted k [] e = refl
absent_counted k (p ∷ l) e =
    bool_cases (eqb k p.0)
    (λ b. absurd (none-ne-some p.1 (sym (rw b at e))))
    (λ b. omega (arith, indicator_other k p.0 (eqb-false k p.0 b), absent_counted k l (rw b at e)))

-- the same pairs, each key at most once
pub lookup_same : (k : ℕ) (a b : List (ℕ × ℕ)) → ((w : ℕ × ℕ → ℕ) → total w a ≡ total w b) → total (has_key k) a ≤ 1 → lookup k a ≡ lookup k b
lookup_same k a b s o = go (lookup k b) refl
  where
    go : (x : Option ℕ) → lookup k b ≡ x → lookup k a ≡ x
    go none e = lookup_none k a (omega (arith, s (has_key k), absent_counted k b e))
    go (some v) e = counted_found k v a o (omega (arith, s (is_pair k v), found_counted k v b e))
