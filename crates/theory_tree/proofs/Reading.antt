-- What is read off the card where it represents a tree: kind, children, routing keys, and the rows of a leaf.
use mathlib.Core.Path.{◌≡◌, ap, ap₂, sym, ◌∙◌}
use mathlib.Core.List.{List, append-nil}
use mathlib.Core.Bool.{Bool}
use Prim.Native.Nat.{ℕ, ◌+◌, ◌-◌, ◌≤◌, ◌<◌}
use native.Mathlib.Omega.{arith}
use lib.ListN.{length, take, replicate}
use lib.Seq.{ext_get_or, take_at}
use Rattle.card.specs.Layout.{node_at, kind_of, key_words, value_words, children, routing_keys, slot_pairs, leaf_pairs}
use Rattle.card.proofs.NodeLaws.{length_node, node_word, length_key_words, length_value_words, get_key_word, get_value_word}
use Rattle.card.specs.NodeWords.{OnCard, NodeWords}
use Rattle.laws.specs.Lists.{pad, before_zero}
use Rattle.laws.proofs.Lists.{length_pad, get_d_pad, before_zero_pad}
use Rattle.laws.specs.Totals.{indicator, total}
use Rattle.laws.proofs.Totals.{indicator_other}
use Rattle.theory_tree.proofs.Pairs.{root_positive, routing_roots}
use Rattle.theory_tree.specs.Represent.{kind, Represents, RepresentsAll}
use Rattle.theory_tree.specs.Tree.{Tree, Forest, root, roots, routing, leaf, node, one, more}

module _ (c : List ℕ) (m k : ℕ) (a b : List ℕ) (w : NodeWords c m k a b) where
  pub read_length : length (node_at c m) ≡ 24
  read_length = length_node c m w.on.pos w.on.fits

  pub read_kind : kind_of (node_at c m) ≡ k
  read_kind = node_word c m 0 (omega arith) ∙ w.kind

  pub read_key_words : length a ≤ 11 → key_words (node_at c m) ≡ pad 11 a
  read_key_words h =
      let len = length_key_words (node_at c m) read_length in
      ext_get_or 0 _ _ (len ∙ sym (length_pad 11 a h))
      (λ i g. let s : i < 11 = omega arith in get_key_word (node_at c m) i s ∙ node_word c m (1 + i) (omega arith) ∙ w.low i s ∙ sym (get_d_pad 11 a i s))

  pub read_value_words : length b ≤ 11 → value_words (node_at c m) ≡ pad 11 b
  read_value_words h =
      let len = length_value_words (node_at c m) read_length in
      ext_get_or 0 _ _ (len ∙ sym (length_pad 11 b h))
      (λ i g. let s : i < 11 = omega arith in get_value_word (node_at c m) i s ∙ node_word c m (12 + i) (omega arith) ∙ w.high i s ∙ sym (get_d_pad 11 b i s))

pad_full : (l : List ℕ) → length l ≡ 11 → pad 11 l ≡ l
pad_full l e = let z : 11 - length l ≡ 0 = omega arith in rw z (append-nil l)

-- a leaf's rows and pairs
module _ (c : List ℕ) (m : ℕ) (ks vs : List ℕ) (r : Represents c (leaf m ks vs)) where
  pub leaf_keys : key_words (node_at c m) ≡ ks
  leaf_keys = read_key_words c m 1 ks vs r.0 (omega (arith, r.1)) ∙ pad_full ks r.1

  pub leaf_values : value_words (node_at c m) ≡ vs
  leaf_values = read_value_words c m 1 ks vs r.0 (omega (arith, r.2)) ∙ pad_full vs r.2

  pub leaf_pairs_lem : leaf_pairs (node_at c m) ≡ slot_pairs ks vs
  unfolding leaf_pairs
  leaf_pairs_lem = ap₂ slot_pairs leaf_keys leaf_values

pub roots_nonzero : (c : List ℕ) (f : Forest) → RepresentsAll c f → total (indicator 0) (roots f) ≡ 0
roots_nonzero c (one t) r = omega (arith, indicator_other 0 (root t) (omega (arith, root_positive c t r)))
roots_nonzero c (more t k f) r = omega (arith, indicator_other 0 (root t) (omega (arith, root_positive c t r.0)), roots_nonzero c f r.1)

-- an internal node's children and routing keys
module _ (c : List ℕ) (m : ℕ) (g : Bool) (f : Forest) (r : Represents c (node m g f)) where
  pub node_children : children (node_at c m) ≡ roots f
  unfolding children
  node_children = ap before_zero (read_value_words c m (kind g) (routing f) (roots f) r.0 r.2) ∙ before_zero_pad (roots f) (11 - length (roots f)) (roots_nonzero c f r.1)

  pub node_routing : routing_keys (node_at c m) ≡ routing f
  unfolding routing_keys
  node_routing =
      ap₂ (λ (a b : List ℕ). take (length a - 1) b) node_children (read_key_words c m (kind g) (routing f) (roots f) r.0 (omega (arith, routing_roots f, r.2)))
      ∙ take_at (routing f) (replicate (11 - length (routing f)) 0) (length (roots f) - 1) (omega (arith, routing_roots f))

-- the root's number is on the card
pub root_on_card : (c : List ℕ) (t : Tree) → Represents c t → OnCard c (root t)
root_on_card c (leaf m ks vs) r = r.0.on
root_on_card c (node m g f) r = r.0.on
