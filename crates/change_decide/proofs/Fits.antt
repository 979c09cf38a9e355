-- What a decision says of the card that it is made on holds there, so that it can be laid out.
use mathlib.Core.Path.{◌≡◌, refl}
use mathlib.Core.List.{List}
use mathlib.Core.Bool.{Bool, true, false, ◌&&◌}
use Prim.Native.Nat.{ℕ, suc, ◌+◌, ◌*◌, ◌≤◌, ◌<◌}
use native.Mathlib.Omega.{arith}
use lib.ListN.{length, get_or}
use lib.Dec.{eqb, ltb, leb}
use borrow.Author.Tests.{ltb-true, ltb-false, leb-true, leb-false, eqb-true, eq-eqb, ne_eqb}
use Rattle.laws.proofs.Cases.{and_true}
use Rattle.card.specs.Layout.{greatest_nodes, root_place, depth_limit, node_at, kind_of, children, leaf_pairs}
use Rattle.card.specs.NodeWords.{OnCard}
use Rattle.walk.specs.Descent.{root_position, seek}
use Rattle.walk.specs.declared.Position.{Position}
use Rattle.walk.specs.declared.Search.{Search}
use Rattle.walk.specs.declared.Search.TheVariants.{Refused as NoSearch, Balanced as SearchBalanced, Violation as SearchViolation}
use Rattle.change_decide.specs.Decide.{is_node, left_sibling, left_number, right_number}
use Rattle.change_decide.specs.Decide.{decide_tagged, decide_together, decide_siblings, decide_underfull, decide_at, on_search, decided_repair}
use Rattle.change_decide.specs.Places.{PositionWithin, parent_at, TaggedAt, left_at, right_at, count_together, together_count, SiblingsAt, Fits}
use Rattle.change_decide.specs.declared.Decision.{Decision}
use Rattle.change_decide.specs.declared.Decision.TheVariants.{Refused}
use Rattle.change_decide.proofs.DecideLaws.{node_numbered}
use Rattle.change_decide.proofs.Positions.{position_within}
use Rattle.laws.specs.Cases.{pick}

-- one of two decisions fits where each does that is made
fits_either : (card : List ℕ) (b : Bool) (d e : Decision) → (b ≡ true → Fits card d) → (b ≡ false → Fits card e) → Fits card (pick b d e)
fits_either card true d e f g = f refl
fits_either card false d e f g = g refl

no_change : (card : List ℕ) → Fits card Refused
unfolding Fits
no_change card = tt

-- how many there are together, by their kind
module _ (x y : List ℕ) where
  pub leaves_counted : kind_of x ≡ 1 → count_together x y ≡ length (leaf_pairs x) + length (leaf_pairs y)
  unfolding count_together
  leaves_counted k = rw (eq-eqb (kind_of x) 1 k)

  pub inners_counted : (kind_of x ≡ 1 → ⊥) → count_together x y ≡ length (children x) + length (children y)
  unfolding count_together
  inners_counted k = rw (ne_eqb (kind_of x) 1 k)

module _ (card : List ℕ) (n : ℕ) (p : Position) (w : PositionWithin card n p) where
  tagged_fits : Fits card (decide_tagged p (parent_at card p) (node_at card p.node))
  unfolding decide_tagged Fits
  tagged_fits =
      fits_either card (eqb (length (children (node_at card p.node))) 2) _ _
      (λ t. let at : TaggedAt card p = record { nodes = n; within = w; two = eqb-true _ 2 t } in
      fits_either card (leb (length (children (parent_at card p))) 10) _ _ (λ u. (at, leb-true _ 10 u)) (λ u. (at, leb-false _ 10 u)))
      (λ t. tt)

  together_fits : (count : ℕ) → (count ≤ 12 → SiblingsAt card p) → together_count card p ≡ count → Fits card (decide_together p (parent_at card p) count)
  unfolding decide_together Fits
  together_fits count at e =
      fits_either card (ltb 12 count) _ _ (λ t. tt)
      (λ t. let s = at (ltb-false 12 count t) in
      fits_either card (leb 4 count) _ _ (λ u. (s, rw e (leb-true 4 count u)))
      (λ u. let l : together_count card p < 4 = rw e (leb-false 4 count u) in
      fits_either card (eqb p.above root_place && eqb (length (children (parent_at card p))) 2) _ _ (λ r. (s, l)) (λ r. (s, l))))

  siblings_fit : suc (left_sibling p) < length (children (parent_at card p))
      → OnCard card (left_number (parent_at card p) p) → OnCard card (right_number (parent_at card p) p)
      → Fits card (decide_siblings p (parent_at card p) (left_at card p) (right_at card p))
  unfolding decide_siblings
  siblings_fit b x y =
      fits_either card (eqb (kind_of (left_at card p)) 1 && eqb (kind_of (right_at card p)) 1) _ _
      (λ t.
      let k = eqb-true _ 1 (and_true _ _ t).0 in
      let e = leaves_counted (left_at card p) (right_at card p) k in
      together_fits _ (λ few. record { nodes = n; within = w; beside = b; left = x; right = y; inner = λ no. absurd (no k); few = rw e few }) e)
      (λ t.
      fits_either card
      ((eqb (kind_of (left_at card p)) 2 && eqb (kind_of (right_at card p)) 2) && (ltb 0 (length (children (left_at card p))) && ltb 0 (length (children (right_at card p))))) _ _
      (λ u.
      let v = and_true (eqb (kind_of (left_at card p)) 2 && eqb (kind_of (right_at card p)) 2) _ u in
      let two = eqb-true (kind_of (left_at card p)) 2 (and_true _ _ v.0).0 in
      let some = and_true (ltb 0 (length (children (left_at card p)))) _ v.1 in
      let not_one : kind_of (left_at card p) ≡ 1 → ⊥ = λ e. omega (arith, e, two) in
      let e = inners_counted (left_at card p) (right_at card p) not_one in
      together_fits _
      (λ few. record {
        nodes = n;
        within = w;
        beside = b;
        left = x;
        right = y;
        inner = λ no. (ltb-true 0 _ some.0, ltb-true 0 _ some.1);
        few = rw e few;
      }) e)
      (λ u. no_change card))

  on_card_lem : (m : ℕ) → is_node n m ≡ true → OnCard card m
  on_card_lem m e = let g = node_numbered n m e in record { pos = g.0; fits = omega (arith, g.1, w.size) }

  underfull_fits : Fits card (decide_underfull card n p (parent_at card p))
  unfolding decide_underfull
  underfull_fits =
      fits_either card (ltb (suc (left_sibling p)) (length (children (parent_at card p)))) _ _
      (λ t.
      fits_either card (is_node n (left_number (parent_at card p) p) && is_node n (right_number (parent_at card p) p)) _ _
      (λ u. let v = and_true (is_node n (left_number (parent_at card p) p)) _ u in siblings_fit (ltb-true _ _ t) (on_card_lem _ v.0) (on_card_lem _ v.1))
      (λ u. no_change card))
      (λ t. no_change card)

  decided_fits : Fits card (decide_at card n p)
  unfolding decide_at
  decided_fits =
      fits_either card (eqb (kind_of (parent_at card p)) 2) _ _
      (λ t. fits_either card (eqb (kind_of (node_at card p.node)) 3) _ _ (λ u. tagged_fits) (λ u. underfull_fits))
      (λ t. no_change card)

-- the next change of a repair can be laid out
pub repair_fits : (card : List ℕ) (n key : ℕ) → length card ≡ 8 + 24 * n → n ≤ greatest_nodes → Fits card (decided_repair card n key)
unfolding decided_repair on_search Fits
repair_fits card n key size few = go (seek card n key depth_limit (root_position (get_or card root_place 0))) refl
  where
    go : (s : Search) → seek card n key depth_limit (root_position (get_or card root_place 0)) ≡ s → Fits card (on_search card n s)
    go NoSearch e = tt
    go SearchBalanced e = tt
    go (SearchViolation p) e = decided_fits card n p (position_within card n key size few depth_limit _ p e)
