-- Laws of a node's words: which stores leave them alone.
use mathlib.Core.Path.{◌≡◌, sym, ◌∙◌}
use mathlib.Core.List.{List}
use mathlib.Core.Logic.{◌⊎◌, inl, inr, ◌≢◌, by_cases}
use Prim.Native.Nat.{ℕ, ◌+◌, ◌≤◌, ◌<◌}
use native.Mathlib.Omega.{arith}
use native.Mathlib.Decide.{ℕ_discrete}
use lib.ListN.{length, get_or, set, length-set}
use lib.Seq.{get_or-set_other, get_or-set_same}
use Rattle.laws.proofs.Cases.{order}
use Rattle.laws.specs.Totals.{indicator}
use Rattle.laws.proofs.Totals.{indicator_zero}
use Rattle.card.specs.Layout.{place, word}
use Rattle.card.specs.NodeWords.{OnCard, NodeWords}

pub on_card_set : (c : List ℕ) (p v m : ℕ) → OnCard c m → OnCard (set c p v) m
on_card_set c p v m h = record { pos = h.pos; fits = rw (length-set) h.fits }

module _ (c : List ℕ) (m p v : ℕ) where
  -- a store outside node m
  pub node_words_outside : {k : ℕ} {a b : List ℕ} → (p < place m 0) ⊎ (place m 24 ≤ p) → NodeWords c m k a b → NodeWords (set c p v) m k a b
  node_words_outside outside w =
      record {
        on = on_card_set c p v m w.on;
        kind = keep 0 (omega arith) ∙ w.kind;
        low = λ j h. keep (1 + j) (omega arith) ∙ w.low j h;
        high = λ j h. keep (12 + j) (omega arith) ∙ w.high j h;
        last = keep 23 (omega arith) ∙ w.last;
      }
    where
      apart : (i : ℕ) → i < 24 → (p < place m 0) ⊎ (place m 24 ≤ p) → place m i ≢ p
      apart i h (inl o) = omega arith
      apart i h (inr o) = omega arith

      keep : (i : ℕ) → i < 24 → word (set c p v) m i ≡ word c m i
      keep i h = get_or-set_other c p (place m i) v 0 (apart i h outside)

-- two nodes share no word
pub place_apart : (m m' i : ℕ) → 0 < m → 0 < m' → m ≢ m' → i < 24 → (place m' i < place m 0) ⊎ (place m 24 ≤ place m' i)
place_apart m m' i h h' d hi = order m m' (λ o. inr (omega arith)) (λ o. inl (omega arith))

-- a store in word i of another node
pub node_words_other : (c : List ℕ) (m m' i v : ℕ) {k : ℕ} {a b : List ℕ} → 0 < m' → m ≢ m' → i < 24 → NodeWords c m k a b → NodeWords (set c (place m' i) v) m k a b
node_words_other c m m' i v h d hi w = node_words_outside c m (place m' i) v (place_apart m m' i w.on.pos h d hi) w

-- a store in a high word of the node itself
pub node_words_high : (c : List ℕ) (m i v : ℕ) {k : ℕ} {a b : List ℕ} → i < 11 → i < length b → NodeWords c m k a b → NodeWords (set c (place m (12 + i)) v) m k a (set b i v)
node_words_high c m i v {k} {a} {b} hi hb w =
    record {
      on = on_card_set c _ v m w.on;
      kind = keep 0 (omega arith) ∙ w.kind;
      low = λ j h. keep (1 + j) (omega arith) ∙ w.low j h;
      high = high';
      last = keep 23 (omega arith) ∙ w.last;
    }
  where
    keep : (j : ℕ) → place m j ≢ place m (12 + i) → word (set c (place m (12 + i)) v) m j ≡ word c m j
    keep j h = get_or-set_other c (place m (12 + i)) (place m j) v 0 h

    there : place m (12 + i) < length c
    there = omega (arith, w.on)

    go : (j : ℕ) → j < 11 → Dec (j ≡ i) → word (set c (place m (12 + i)) v) m (12 + j) ≡ get_or (set b i v) j 0
    go j h (yes e) = rw e (get_or-set_same c (place m (12 + i)) v 0 there ∙ sym (get_or-set_same b i v 0 hb))
    go j h (no d) = keep (12 + j) (omega arith) ∙ w.high j h ∙ sym (get_or-set_other b i j v 0 d)

    high' : (j : ℕ) → j < 11 → word (set c (place m (12 + i)) v) m (12 + j) ≡ get_or (set b i v) j 0
    high' j h = go j h (ℕ_discrete j i)

-- a store in a key word of the node itself
pub node_words_low : (c : List ℕ) (m i v : ℕ) {k : ℕ} {a b : List ℕ} → i < 11 → i < length a → NodeWords c m k a b → NodeWords (set c (place m (1 + i)) v) m k (set a i v) b
node_words_low c m i v {k} {a} {b} hi ha w =
    record {
      on = on_card_set c _ v m w.on;
      kind = keep 0 (omega arith) ∙ w.kind;
      low = λ j h. by_cases (ℕ_discrete j i)
          (λ e. rw e (get_or-set_same c (place m (1 + i)) v 0 (omega (arith, w.on)) ∙ sym (get_or-set_same a i v 0 ha)))
          (λ d. keep (1 + j) (omega arith) ∙ w.low j h ∙ sym (get_or-set_other a i j v 0 d));
      high = λ j h. keep (12 + j) (omega arith) ∙ w.high j h;
      last = keep 23 (omega arith) ∙ w.last;
    }
  where
    keep : (j : ℕ) → place m j ≢ place m (1 + i) → word (set c (place m (1 + i)) v) m j ≡ word c m j
    keep j h = get_or-set_other c (place m (1 + i)) (place m j) v 0 h

-- a card c' that keeps the nodes of weight 0
abbrev pub Keeps : List ℕ → List ℕ → (ℕ → ℕ) → Type 0
Keeps c c' w = (m k : ℕ) (a b : List ℕ) → w m ≡ 0 → NodeWords c m k a b → NodeWords c' m k a b

-- what a store in a node keeps; what a store in the header keeps
pub keeps_node : (c : List ℕ) (i w v : ℕ) → 0 < i → w < 24 → Keeps c (set c (place i w) v) (indicator i)
keeps_node c i w v hi hw m k a b e q = node_words_other c m i w v hi (indicator_zero i m e) hw q

pub keeps_head : (c : List ℕ) (p v : ℕ) → p < 8 → Keeps c (set c p v) (λ m. 0)
keeps_head c p v h m k a b e q = node_words_outside c m p v (inl (omega arith)) q
