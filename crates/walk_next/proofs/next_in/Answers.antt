use Rattle.std.proofs.Common.{◌≡◌, ℕ, List, length, refl, ap, ap₂, sym, ◌∙◌, arith, Option, None, is_some, false}
use mathlib.Core.Logic.{⊎_elim}
use Rattle.laws.proofs.Cases.{impossible}
use Rattle.card.specs.Layout.{depth_limit, node_at, leaf_pairs}
use Rattle.card.proofs.NodeLaws.{length_node}
use Rattle.walk.specs.Descent.{root_position, Way, way_from, leaf_of, beside_all, beside_by}
use Rattle.walk.proofs.Along.{beside_inside}
use Rattle.walk.proofs.DescentLaws.{leaf_beside, beside_refused, beside_told}
use Rattle.walk_next.specs.declared.Pair.{Pair as Least}
use Rattle.walk_next.specs.Next.{Nothing}
use Rattle.walk_next.specs.Successor.{least_of, least_above, found, next_in_leaf, in_next_leaf, next_along, carried}
use Rattle.walk_next.proofs.SuccessorLaws.{next_none, next_there, in_no_leaf, in_leaf, in_round, round_first, round_refused, round_pair, round_last, round_on, own_depth}
use Rattle.walk_next.proofs.next_in.Goals as goal

-- the number's own way
abbrev way_below : List ℕ → ℕ → ℕ → ℕ → Way
way_below card n key root = way_from card n key depth_limit (root_position root)

-- what a round's leaf answers, by what `find_beside` told of its way
module _ (card : List ℕ) (n after root key from : ℕ) (own : Option ℕ) (m beside depth : ℕ) (told : beside_by card key 0 (way_below card n key from) ≡ leaf_beside m beside depth) where
  module _ (round : next_along card n after (way_below card n after root)
      ≡ in_round own card n after (way_below card n after root) (next_in_leaf card after (leaf_of (way_below card n key from)))) where
    -- by the pair that it has
    answered : (node : List ℕ) → node ≡ node_at card m → (o l : Option Least) → l ≡ o → least_of l ≡ least_above after (leaf_pairs node)
        → next_along card n after (way_below card n after root) ≡ in_round own card n after (way_below card n after root) (found (least_of o))
    answered node same o l is least =
        round
        ∙ ap (in_round own card n after (way_below card n after root)) (in_leaf card after (way_below card n key from) m depth (beside_told _ _ _ _ m beside depth told).0 (least_of o)
        (ap (λ (x : List ℕ). least_above after (leaf_pairs x)) (sym same) ∙ sym least ∙ ap least_of is))

  -- what stands right after the own leaf's way
  own_beside : is_some own ≡ false → (from ≡ root) × (key ≡ after) → in_round own card n after (way_below card n after root) Nothing ≡ in_next_leaf card n after beside
  own_beside first at =
      round_on card n after (way_below card n after root) own first
      ∙ ap (in_next_leaf card n after)
      (ap₂ (λ (k r : ℕ). beside_all card k 0 (way_below card n k r).inner) (sym at.1) (sym at.0) ∙ (beside_told _ _ _ _ m beside depth told).1)

pub loop-leaf-init : goal.loop-leaf-init
loop-leaf-init c = (λ e. (refl, refl), round_first _ _ _ _, tt)

pub returns-in_default : goal.returns-in_default
unfolding carried
returns-in_default c =
    let l = c.loop-leaf in
    record {
      next = sym (l.invariant.1
          ∙ ap (in_round l.own c.args.card.now c.args.n c.args.after (way_below c.args.card.now c.args.n c.args.after c.args.root))
          (in_no_leaf c.args.card.now c.args.after _ (beside_refused _ _ _ _ (sym c.in_default.ensures))) ∙ round_refused _ _ _ _ _ 9);
      depth = refl;
    }

pub node_at-requires : goal.node_at-requires
node_at-requires c =
    let k = beside_inside _ c.args.n _ _ _ _ _ _ _ (sym c.in-Some.ensures) in
    (k.one, omega (arith, k.most, c.requires.most), omega (arith, k.most, c.requires.words))

pub least_above-requires : goal.least_above-requires
least_above-requires c =
    let k = beside_inside _ c.args.n _ _ _ _ _ _ _ (sym c.in-Some.ensures) in
    ap length c.node_at.ensures ∙ length_node c.args.card.now c.in-Some.leaf.node k.one (omega (arith, k.most, c.requires.words))

pub returns-in-Some-least_above : goal.returns-in-Some-least_above
unfolding found carried least_of
returns-in-Some-least_above c =
    let l = c.loop-leaf in
    record {
      next = sym (answered _ _ _ _ _ _ l.own _ _ _ (sym c.in-Some.ensures) l.invariant.1 _ c.node_at.ensures _ _ c.in-Some-least_above.is c.least_above.ensures
          ∙ round_pair _ _ _ _ _ _ _);
      depth = c.unwrap_or-told.ensures ∙ own_depth _ _ _ _ _ _ _ l.own l.invariant.0 l.invariant.2 _ (beside_told _ _ _ _ _ _ _ (sym c.in-Some.ensures)).0;
    }

pub returns-then-is_some : goal.returns-then-is_some
unfolding found carried least_of
returns-then-is_some c =
    let l = c.loop-leaf in
    let answer = answered _ _ _ _ _ _ l.own _ _ _ (sym c.in-Some.ensures) l.invariant.1 _ c.node_at.ensures None _ c.in_default-least_above.is c.least_above.ensures in
    record {
      next = ⊎_elim (λ second. sym (answer ∙ round_last _ _ _ _ l.own (sym c.is_some.ensures ∙ second)))
          (λ alone. sym (answer ∙ own_beside _ _ _ _ _ _ l.own _ _ _ (sym c.in-Some.ensures) (sym c.is_some.ensures ∙ alone.0)
          (l.invariant.0 (sym c.is_some.ensures ∙ alone.0)) ∙ next_none _ _ _ _ alone.1)) c.then-is_some.either;
      depth = c.unwrap_or-told.ensures ∙ own_depth _ _ _ _ _ _ _ l.own l.invariant.0 l.invariant.2 _ (beside_told _ _ _ _ _ _ _ (sym c.in-Some.ensures)).0;
    }

pub loop-leaf-preserved : goal.loop-leaf-preserved
unfolding found in_round least_of
loop-leaf-preserved c =
    let l = c.loop-leaf in
    let first = sym c.is_some.ensures ∙ c.if-is_some.false in (
      λ e. impossible (cc),
      answered _ _ _ _ _ _ l.own _ _ _ (sym c.in-Some.ensures) l.invariant.1 _ c.node_at.ensures None _ c.in_default-least_above.is c.least_above.ensures
          ∙ own_beside _ _ _ _ _ _ l.own _ _ _ (sym c.in-Some.ensures) first (l.invariant.0 first) ∙ next_there _ _ _ _ c.if-leaf-eq0.false,
      c.unwrap_or-told.ensures ∙ own_depth _ _ _ _ _ _ _ l.own l.invariant.0 l.invariant.2 _ (beside_told _ _ _ _ _ _ _ (sym c.in-Some.ensures)).0,
    )
