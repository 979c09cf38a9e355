-- What a decision says of a line's table it says of the card: the nodes are the same.
use mathlib.Core.Path.{◌≡◌, ap, ap₂, sym, subst, ◌∙◌}
use mathlib.Core.List.{List}
use Prim.Native.Nat.{ℕ, suc, ◌≤◌, ◌<◌}
use native.Mathlib.Omega.{arith}
use lib.ListN.{length}
use Rattle.card.specs.Layout.{node_at, kind_of, children, leaf_pairs}
use Rattle.card.specs.Lines.{seen}
use Rattle.card.specs.NodeWords.{OnCard}
use Rattle.card.proofs.LineLaws.{seen_node}
use Rattle.walk.specs.declared.Position.{Position}
use Rattle.change_decide.specs.Decide.{left_sibling, left_number, right_number}
use Rattle.change_decide.specs.Places.{PositionWithin, parent_at, TaggedAt, left_at, right_at, count_together, together_count, SiblingsAt, LeafAt, Fits}
use Rattle.change_decide.specs.declared.Decision.{Decision}
use Rattle.change_decide.specs.declared.Decision.TheVariants.{Refused, Balanced, PutPair, ClearKey, SplitLeaf, Absorb, SplitParent, Share, Merge, MergeRoot}

module _ (line : ℕ) (card : List ℕ) (long : length (seen line card) ≡ length card) where
  on_seen : (m : ℕ) → OnCard (seen line card) m → OnCard card m
  on_seen m o = record { pos = o.pos; fits = omega (arith, o.fits, long) }

  leaf_seen : (m : ℕ) → LeafAt (seen line card) m → LeafAt card m
  leaf_seen m l = record { on = on_seen m l.on; most = l.most }

  module _ (p : Position) where
    parent_is : parent_at (seen line card) p ≡ parent_at card p
    parent_is = seen_node line card p.parent

    left_is : left_at (seen line card) p ≡ left_at card p
    left_is = seen_node line card _ ∙ ap (λ (x : List ℕ). node_at card (left_number x p)) parent_is

    right_is : right_at (seen line card) p ≡ right_at card p
    right_is = seen_node line card _ ∙ ap (λ (x : List ℕ). node_at card (right_number x p)) parent_is

    within_seen : (n : ℕ) → PositionWithin (seen line card) n p → PositionWithin card n p
    within_seen n w =
        record {
          size = sym long ∙ w.size;
          few = w.few;
          parent_from = w.parent_from;
          parent_to = w.parent_to;
          node_from = w.node_from;
          node_to = w.node_to;
          child = subst (λ (x : List ℕ). p.index < length (children x)) parent_is w.child;
          link = w.link;
        }

    tagged_seen : TaggedAt (seen line card) p → TaggedAt card p
    tagged_seen t =
        record {
          nodes = t.nodes;
          within = within_seen t.nodes t.within;
          two = sym (ap (λ (x : List ℕ). length (children x)) (seen_node line card p.node)) ∙ t.two;
        }

    together_is : together_count (seen line card) p ≡ together_count card p
    together_is = ap₂ count_together left_is right_is

    siblings_seen : SiblingsAt (seen line card) p → SiblingsAt card p
    siblings_seen s =
        record {
          nodes = s.nodes;
          within = within_seen s.nodes s.within;
          beside = subst (λ (x : List ℕ). suc (left_sibling p) < length (children x)) parent_is s.beside;
          left = subst (λ (x : List ℕ). OnCard card (left_number x p)) parent_is (on_seen _ s.left);
          right = subst (λ (x : List ℕ). OnCard card (right_number x p)) parent_is (on_seen _ s.right);
          inner = λ k. let i = s.inner (λ e. k (sym (ap kind_of left_is) ∙ e)) in (
            subst (λ (x : List ℕ). 0 < length (children x)) left_is i.0,
            subst (λ (x : List ℕ). 0 < length (children x)) right_is i.1,
          );
          few = subst (λ (k : ℕ). k ≤ 12) together_is s.few;
        }

  pub fits_seen : (d : Decision) → Fits (seen line card) d → Fits card d
  unfolding Fits
  fits_seen Refused f = tt
  fits_seen Balanced f = tt
  fits_seen (PutPair m i key value) f = (leaf_seen m f.0, f.1)
  fits_seen (ClearKey m i) f = (leaf_seen m f.0, f.1)
  fits_seen (SplitLeaf m link key value) f = (leaf_seen m f.0, f.1, sym (ap (λ (x : List ℕ). length (leaf_pairs x)) (seen_node line card m)) ∙ f.2)
  fits_seen (Absorb p) f = (tagged_seen p f.0, subst (λ (x : List ℕ). length (children x) ≤ 10) (parent_is p) f.1)
  fits_seen (SplitParent p) f = (tagged_seen p f.0, subst (λ (x : List ℕ). 10 < length (children x)) (parent_is p) f.1)
  fits_seen (Share p) f = (siblings_seen p f.0, subst (λ (k : ℕ). 4 ≤ k) (together_is p) f.1)
  fits_seen (Merge p) f = (siblings_seen p f.0, subst (λ (k : ℕ). k < 4) (together_is p) f.1)
  fits_seen (MergeRoot p) f = (siblings_seen p f.0, subst (λ (k : ℕ). k < 4) (together_is p) f.1)
