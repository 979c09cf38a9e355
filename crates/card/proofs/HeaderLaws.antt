-- Laws of the header: which lengths are those of cards, and when no refusal is due.
use mathlib.Core.Path.{◌≡◌, refl, sym, ◌∙◌}
use mathlib.Core.List.{List}
use Prim.Native.Nat.{ℕ, suc, ◌+◌, ◌-◌, ◌*◌, ◌/◌, ◌%◌, ◌≤◌, ◌<◌}
use native.Mathlib.Omega.{arith}
use native.Mathlib.Decide.{dec_lt, ℕ_discrete}
use lib.ListN.{length, get_or}
use lib.Dec.{eqb}
use borrow.Author.Tests.{lt-ltb, le-ltb, eq-eqb, ne_eqb, eqb-true}
use Rattle.laws.proofs.Cases.{bool_cases, order}
use Rattle.card.specs.Layout.{least_nodes, greatest_nodes, limited}
use Rattle.card.specs.Header.{nodes_of_length, header_refusal, must, card_refusal, Sized, Formatted}

-- ---- the greatest N

pub limited_most : (greatest : ℕ) → limited greatest ≤ greatest_nodes
limited_most greatest = order greatest greatest_nodes (λ h. rw (lt-ltb greatest greatest_nodes h) (omega arith)) (λ h. rw (le-ltb greatest greatest_nodes h) (omega arith))

pub limited_within : (greatest : ℕ) → limited greatest ≤ greatest
limited_within greatest = order greatest greatest_nodes (λ h. rw (lt-ltb greatest greatest_nodes h) (omega arith)) (λ h. rw (le-ltb greatest greatest_nodes h) h)

pub within_limited : (greatest n : ℕ) → n ≤ greatest → n ≤ greatest_nodes → n ≤ limited greatest
within_limited greatest n w m = order greatest greatest_nodes (λ h. rw (lt-ltb greatest greatest_nodes h) w) (λ h. rw (le-ltb greatest greatest_nodes h) m)

-- ---- lengths

module _ (greatest : ℕ) where
  pub nodes_short : (len : ℕ) → len < 8 + 24 * least_nodes → nodes_of_length greatest len ≡ 0
  unfolding nodes_of_length
  nodes_short len h = simp (lt-ltb len (8 + 24 * least_nodes) h)

  pub nodes_long : (len : ℕ) → 8 + 24 * least_nodes ≤ len → 8 + 24 * limited greatest < len → nodes_of_length greatest len ≡ 0
  unfolding nodes_of_length
  nodes_long len l h = simp (le-ltb len (8 + 24 * least_nodes) l, lt-ltb (8 + 24 * limited greatest) len h)

  module _ (len : ℕ) (least : 8 + 24 * least_nodes ≤ len) (most : len ≤ 8 + 24 * limited greatest) where
    pub nodes_whole : (len - 8) % 24 ≡ 0 → nodes_of_length greatest len ≡ (len - 8) / 24
    unfolding nodes_of_length
    nodes_whole e = simp (le-ltb len (8 + 24 * least_nodes) least, le-ltb (8 + 24 * limited greatest) len most, eq-eqb ((len - 8) % 24) 0 e)

    pub nodes_odd : ((len - 8) % 24 ≡ 0 → ⊥) → nodes_of_length greatest len ≡ 0
    unfolding nodes_of_length
    nodes_odd e = simp (le-ltb len (8 + 24 * least_nodes) least, le-ltb (8 + 24 * limited greatest) len most, ne_eqb ((len - 8) % 24) 0 e)

  -- a length that is not refused is that of a card
  pub nodes_sized : (len : ℕ) → (nodes_of_length greatest len ≡ 0 → ⊥) → Sized greatest len (nodes_of_length greatest len)
  nodes_sized len p = go (dec_lt len (8 + 24 * least_nodes)) (dec_lt (8 + 24 * limited greatest) len) (ℕ_discrete ((len - 8) % 24) 0)
    where
      go : Dec (len < 8 + 24 * least_nodes) → Dec (8 + 24 * limited greatest < len) → Dec ((len - 8) % 24 ≡ 0) → Sized greatest len (nodes_of_length greatest len)
      go (yes a) b c = absurd (p (nodes_short len a))
      go (no a) (yes b) c = absurd (p (nodes_long len (omega arith) b))
      go (no a) (no b) (no c) = absurd (p (nodes_odd len (omega arith) (omega arith) c))
      go (no a) (no b) (yes c) =
          let e = nodes_whole len (omega arith) (omega arith) c in
          record { words = omega arith; least = omega arith; most = omega (arith, limited_most greatest); within = omega (arith, limited_within greatest) }

  -- and the length of a card is not refused
  pub sized_nodes : (len n : ℕ) → Sized greatest len n → nodes_of_length greatest len ≡ n
  sized_nodes len n s =
      nodes_whole len (omega (arith, s.words, s.least)) (omega (arith, s.words, within_limited greatest n s.within s.most)) (omega (arith, s.words))
      ∙ omega (arith, s.words)

-- a card of any greatest N is one of the greatest that there is
pub sized_any : {greatest len n : ℕ} → Sized greatest len n → Sized greatest_nodes len n
sized_any s = record { words = s.words; least = s.least; most = s.most; within = s.most }

must_zero : (card : List ℕ) (i v r next : ℕ) → must card i v (suc r) next ≡ 0 → (get_or card i 0 ≡ v) × (next ≡ 0)
must_zero card i v r next e =
    bool_cases (eqb (get_or card i 0) v)
    (λ t. (eqb-true (get_or card i 0) v t, rw t at e))
    (λ t. let z : suc r ≡ 0 = rw t at e in absurd (omega arith))

-- no refusal is due exactly on a formatted card
pub header_formatted : (card : List ℕ) (n : ℕ) → header_refusal card n ≡ 0 → Formatted card n
unfolding header_refusal
header_formatted card n e =
    let a = must_zero card 0 1 1 _ e in
    let b = must_zero card 1 n 2 _ a.1 in
    let c = must_zero card 2 8 2 _ b.1 in
    let d = must_zero card 3 24 2 _ c.1 in
    let f = must_zero card 5 0 2 _ d.1 in
    let g = must_zero card 6 0 2 _ f.1 in
    let h = must_zero card 7 0 2 _ g.1 in
    record { mark = a.0; nodes = b.0; first = c.0; each = d.0; five = f.0; six = g.0; seven = h.0 }

pub formatted_header : (card : List ℕ) (n : ℕ) → Formatted card n → header_refusal card n ≡ 0
unfolding header_refusal
formatted_header card n f =
    simp (
      eq-eqb (get_or card 0 0) 1 f.mark,
      eq-eqb (get_or card 1 0) n f.nodes,
      eq-eqb (get_or card 2 0) 8 f.first,
      eq-eqb (get_or card 3 0) 24 f.each,
      eq-eqb (get_or card 5 0) 0 f.five,
      eq-eqb (get_or card 6 0) 0 f.six,
      eq-eqb (get_or card 7 0) 0 f.seven,
    )

-- a wrong mark is refused first
module _ (card : List ℕ) (n : ℕ) where
  pub wrong_word0 : (get_or card 0 0 ≡ 1 → ⊥) → header_refusal card n ≡ 2
  unfolding header_refusal
  wrong_word0 wrong = simp (ne_eqb (get_or card 0 0) 1 wrong)

-- refusals 1, 2 and 3
module _ (greatest : ℕ) (card : List ℕ) (n : ℕ) (e : n ≡ nodes_of_length greatest (length card)) where
  pub card_no_length : n ≡ 0 → card_refusal greatest card ≡ 1
  unfolding card_refusal
  card_no_length z = simp (eq-eqb (nodes_of_length greatest (length card)) 0 (sym e ∙ z))

  pub card_header : (n ≡ 0 → ⊥) → card_refusal greatest card ≡ header_refusal card n
  unfolding card_refusal
  card_header p = simp (ne_eqb (nodes_of_length greatest (length card)) 0 (λ z. p (e ∙ z)), ← e)

  pub sized : (n ≡ 0 → ⊥) → Sized greatest (length card) n
  sized p = rw e (nodes_sized greatest (length card) (λ z. p (e ∙ z)))

pub card_sized : (greatest : ℕ) (card : List ℕ) → card_refusal greatest card ≡ 0 → nodes_of_length greatest (length card) ≡ 0 → ⊥
card_sized greatest card r z = let w = sym (card_no_length greatest card (nodes_of_length greatest (length card)) refl z) ∙ r in omega arith

-- on a card of n nodes the refusal is the header's
pub sized_header : {greatest n : ℕ} (card : List ℕ) → Sized greatest (length card) n → card_refusal greatest card ≡ header_refusal card n
sized_header {greatest} {n} card s =
    card_header greatest card n (sym (sized_nodes greatest (length card) n s)) (λ z. let k : least_nodes ≤ n = s.least in omega arith)
