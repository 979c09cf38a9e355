-- A change on a line's table is laid out as on the card: what the new nodes hold is read off nodes alone.
use mathlib.Core.Path.{◌≡◌, refl, ap, ap₂}
use mathlib.Core.Bool.{Bool}
use mathlib.Core.List.{List, zip}
use Prim.Native.Nat.{ℕ}
use Rattle.card.specs.Layout.{node_at}
use Rattle.card.specs.Lines.{seen}
use Rattle.card.proofs.LineLaws.{seen_node}
use Rattle.change_decide.specs.Decide.{left_sibling, left_number, right_number}
use Rattle.change_decide.specs.declared.Decision.{Decision}
use Rattle.change_decide.specs.declared.Decision.TheVariants.{Refused, Balanced, PutPair, ClearKey, SplitLeaf, Absorb, SplitParent, Share, Merge, MergeRoot}
use Rattle.change_plan.specs.Change.{Together, absorb, split_parent, joined_keys, joined_children, share, merge, merge_root}
use Rattle.change_plan.specs.Planning.{giving, first, second, third}
use Rattle.change_split.specs.Split.{split_leaf_of}
use Rattle.change_siblings.specs.Siblings.{together_at}
use Rattle.change_layout.specs.LayOut.{lay_out, cut_by, places_by, words_by, stores_by}
use Rattle.walk.specs.declared.Position.{Position}

module _ (line : ℕ) (card : List ℕ) where
  together_seen : (p : Position) → together_at (seen line card) p ≡ together_at card p
  unfolding together_at
  together_seen p =
      rw (seen_node line card p.parent, seen_node line card (left_number (node_at card p.parent) p), seen_node line card (right_number (node_at card p.parent) p))

  pub lay_out_seen : (d : Decision) (free : List Bool) (last : ℕ) → lay_out (seen line card) d free last ≡ lay_out card d free last
  unfolding lay_out
  lay_out_seen Refused free last = refl
  lay_out_seen Balanced free last = refl
  lay_out_seen (PutPair m i key value) free last = refl
  lay_out_seen (ClearKey m i) free last = refl
  lay_out_seen (SplitLeaf m link key value) free last = ap (λ (leaf : List ℕ). giving 3 free last (split_leaf_of m link key value leaf)) (seen_node line card m)
  lay_out_seen (Absorb p) free last =
      ap₂ (λ (a b : List ℕ). giving 1 free last (λ ms. absorb p (joined_keys a p.index b) (joined_children a p.index b) (first ms)))
      (seen_node line card p.parent) (seen_node line card p.node)
  lay_out_seen (SplitParent p) free last =
      ap₂ (λ (a b : List ℕ). giving 3 free last (λ ms. split_parent p (joined_keys a p.index b) (joined_children a p.index b) (first ms) (second ms) (third ms)))
      (seen_node line card p.parent) (seen_node line card p.node)
  lay_out_seen (Share p) free last =
      ap₂ (λ (a : List ℕ) (t : Together). giving 3 free last (λ ms. share p a (left_sibling p) t (first ms) (second ms) (third ms)))
      (seen_node line card p.parent) (together_seen p)
  lay_out_seen (Merge p) free last =
      ap₂ (λ (a : List ℕ) (t : Together). giving 2 free last (λ ms. merge p a (left_sibling p) t (first ms) (second ms))) (seen_node line card p.parent) (together_seen p)
  lay_out_seen (MergeRoot p) free last =
      ap₂ (λ (a : List ℕ) (t : Together). giving 1 free last (λ ms. merge_root p a (left_sibling p) t (first ms))) (seen_node line card p.parent) (together_seen p)

  pub words_seen : (d : Decision) (ms : List ℕ) → words_by (seen line card) d ms ≡ words_by card d ms
  unfolding words_by
  words_seen Refused ms = refl
  words_seen Balanced ms = refl
  words_seen (PutPair m i key value) ms = refl
  words_seen (ClearKey m i) ms = refl
  words_seen (SplitLeaf m link key value) ms = rw (seen_node line card m)
  words_seen (Absorb p) ms = rw (seen_node line card p.parent, seen_node line card p.node)
  words_seen (SplitParent p) ms = rw (seen_node line card p.parent, seen_node line card p.node)
  words_seen (Share p) ms = rw (seen_node line card p.parent, together_seen p)
  words_seen (Merge p) ms = rw (seen_node line card p.parent, together_seen p)
  words_seen (MergeRoot p) ms = rw (seen_node line card p.parent, together_seen p)

  pub stores_seen : (d : Decision) (ms : List ℕ) → stores_by (seen line card) d ms ≡ stores_by card d ms
  stores_seen d ms = ap (zip (places_by d ms)) (words_seen d ms)

  pub cut_seen : (d : Decision) → cut_by (seen line card) d ≡ cut_by card d
  unfolding cut_by
  cut_seen Refused = refl
  cut_seen Balanced = refl
  cut_seen (PutPair m i key value) = refl
  cut_seen (ClearKey m i) = refl
  cut_seen (SplitLeaf m link key value) = refl
  cut_seen (Absorb p) = refl
  cut_seen (SplitParent p) = refl
  cut_seen (Share p) = rw (seen_node line card p.parent)
  cut_seen (Merge p) = rw (seen_node line card p.parent)
  cut_seen (MergeRoot p) = rw (seen_node line card p.parent)
