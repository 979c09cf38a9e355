-- Laws of exact free bits: what a change that takes and frees numbers leaves of them.
use mathlib.Core.Path.{◌≡◌, refl, sym, ◌∙◌}
use mathlib.Core.List.{List, [], ◌∷◌}
use mathlib.Core.Bool.{Bool, true, false}
use mathlib.Core.Logic.{◌⊎◌, inl, inr, ⊎_elim}
use Prim.Native.Nat.{ℕ, ◌+◌, ◌*◌, ◌≤◌, ◌<◌}
use native.Mathlib.Omega.{arith}
use lib.ListN.{length, set, get_or, length-set}
use lib.Seq.{ext_get_or}
use Rattle.card.specs.NodeWords.{OnCard}
use Rattle.change_plan.specs.Planning.{with_all}
use Rattle.theory_tree.specs.FreeNodes.{Exact}
use Rattle.theory_change.proofs.Numbers.{free_bit, bit_added}
use Rattle.card_free.specs.NodeSet.{count_true}
use Rattle.card_free.proofs.NodeSetLaws.{count_add}
use Rattle.laws.specs.Bits.{bit}
use Rattle.laws.proofs.Bits.{bit_zero}
use Rattle.laws.proofs.Cases.{order}
use Rattle.laws.specs.Totals.{indicator, total}
use Rattle.laws.proofs.Totals.{indicator_same, indicator_other}
use Rattle.theory_tree.specs.Represent.{Represents, RepresentsAll}
use Rattle.theory_tree.specs.Tree.{Tree, Forest, node_total, node_totals, leaf, node, one, more}

-- numbers that are not on the card are not in a tree that it represents
module _ (c : List ℕ) (n : ℕ) (len : length c ≡ 8 + 24 * n) (i : ℕ) (out : (i ≡ 0) ⊎ (n < i)) where
  not_here : (m : ℕ) → OnCard c m → indicator i m ≡ 0
  not_here m o = indicator_other i m (λ e. ⊎_elim (λ z. omega (arith, o.pos)) (λ z. omega (arith, o.fits, len)) out)

  mutual
    pub number_outside : (t : Tree) → Represents c t → node_total (indicator i) t ≡ 0
    number_outside (leaf m ks vs) r = not_here m r.0.on
    number_outside (node m g f) r = omega (arith, not_here m r.0.on, numbers_outside f r.1)

    pub numbers_outside : (f : Forest) → RepresentsAll c f → node_totals (indicator i) f ≡ 0
    numbers_outside (one t) r = number_outside t r
    numbers_outside (more t k f) r = omega (arith, number_outside t r.0, numbers_outside f r.1)

-- nodes freed, none of which was free
pub record Freed (free : List Bool) (ms : List ℕ) : Type 0 where
  pub now : (i : ℕ) → free_bit (with_all ms free) i ≡ free_bit free i + total (indicator i) ms
  pub counted : count_true (with_all ms free) ≡ count_true free + length ms
  pub kept_length : length (with_all ms free) ≡ length free

pub freed : (ms : List ℕ) (free : List Bool) → ((i : ℕ) → free_bit free i + total (indicator i) ms ≤ 1) → ((i : ℕ) → 0 < total (indicator i) ms → (1 ≤ i) × (i < length free)) → Freed free ms
unfolding with_all
freed [] free h b = record { now = λ i. omega arith; counted = omega arith; kept_length = refl }
freed (m ∷ ms) free h b =
    let p = b m (omega (arith, indicator_same m)) in
    let z : free_bit free m ≡ 0 = omega (arith, h m, indicator_same m) in
    let step : (i : ℕ) → free_bit (set free m true) i ≡ free_bit free i + indicator i m = λ i. bit_added free m i p.1 z in
    let len : length (set free m true) ≡ length free = simp length-set in
    let q : Freed (set free m true) ms = freed ms (set free m true) (λ i. omega (arith, h i, step i)) (λ i o. let r = b i (omega arith) in (r.0, omega arith)) in
    record {
      now = λ i. omega (arith, q.now i, step i);
      counted = omega (arith, q.counted, count_add free m p.1 (bit_zero (get_or free m false) z));
      kept_length = q.kept_length ∙ len;
    }

-- there is one set of free nodes for a tree
pub exact_same : (n : ℕ) (a b : List Bool) (t : Tree) → Exact n a t → Exact n b t → a ≡ b
exact_same n a b t x y = ext_get_or false a b (x.size ∙ sym y.size) (λ i h. at i)
  where
    bits : (p q : Bool) → bit p ≡ bit q → p ≡ q
    bits true true e = refl
    bits true false e = absurd (omega arith)
    bits false true e = absurd (omega arith)
    bits false false e = refl

    at : (i : ℕ) → get_or a i false ≡ get_or b i false
    at i =
        order i 1 (λ o. let z : i ≡ 0 = omega arith in x.outside_none i (inl z) ∙ sym (y.outside_none i (inl z)))
        (λ o. order n i (λ p. x.outside_none i (inr p) ∙ sym (y.outside_none i (inr p))) (λ p. bits _ _ (omega (arith, x.within i o p, y.within i o p))))
