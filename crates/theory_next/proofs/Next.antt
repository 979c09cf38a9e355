-- Document 02, W-201, on a sound table: "the call answers the pair with the smallest key greater than it, or "none" exactly when
-- the table holds no such key". The leaf that the number leads to holds the next pair or none up to the end of its range; the
-- first leaf of the part that stands right after holds a pair above the number, since every leaf but a root holds one.
use mathlib.Core.Path.{◌≡◌, refl, ap, sym, ◌∙◌}
use mathlib.Core.List.{List}
use mathlib.Core.Bool.{true, false}
use mathlib.Core.Option.{Option, none, some, none-ne-some}
use mathlib.Core.Logic.{inr, by_cases}
use Prim.Native.Nat.{ℕ, ◌+◌, ◌*◌, ◌≤◌, ◌<◌}
use native.Mathlib.Omega.{arith}
use native.Mathlib.Decide.{ℕ_discrete}
use lib.ListN.{length, get_or}
use borrow.Author.Tests.{ne_eqb}
use Rattle.card.specs.Header.{card_refusal, nodes_of_length}
use Rattle.card.proofs.HeaderLaws.{sized, card_sized}
use Rattle.card.specs.Layout.{root_place, depth_limit, lowest_key, key_limit}
use Rattle.walk.specs.Descent.{root_position, Way, way_from, way, beside_all}
use Rattle.walk.proofs.DescentLaws.{root_node}
use Rattle.walk.specs.declared.Position.{Position}
use Rattle.theory_walk.proofs.Way.{way_at_leaf}
use Rattle.laws.proofs.Cases.{order}
use Rattle.theory_check.proofs.Depth.{well_formed_depth}
use Rattle.theory_check.proofs.Ranges.{well_formed_in_range}
use Rattle.walk_next.specs.Successor.{least_above, found, in_next_leaf, or_next_leaf, next_along, next_in, next_of}
use Rattle.walk_next.proofs.SuccessorLaws.{next_only}
use Rattle.walk_next.specs.Next.{Pair}
use Rattle.theory_next.proofs.ChildRange.{lower}
use Rattle.theory_next.proofs.IsNext.{IsNext}
use Rattle.theory_next.proofs.LeafOf.{Neighbour, LeafOf, leaf_of_lem}
use Rattle.theory_next.proofs.LeastAbove.{least_next}
use Rattle.theory_next.proofs.Lookups.{some_pair, found_in_range}
use Rattle.theory_tree.specs.Pairs.{pairs, lookup}
use Rattle.theory_tree.proofs.Pairs.{lookup_none, InRange, absent, depth, root_positive}
use Rattle.theory_tree.specs.Represent.{Represents}
use Rattle.theory_tree.specs.Tree.{Tree, root, leaf, node}
use Rattle.theory_tree.specs.Violations.{Widths, RootOk}
use Rattle.theory_tree.specs.WellFormed.{WellFormed}

-- ---- the leaf of the number, and the next one

-- a table with a part that stands after a way is no single leaf, so that no leaf of it is empty
not_one_leaf : (c : List ℕ) (n after : ℕ) → length c ≡ 8 + 24 * n → (t : Tree) → Represents c t → RootOk t → (p : Position) → p.node ≡ root t
    → (beside_all c after 0 (way_from c n after depth_limit p).inner ≡ 0 → ⊥) → Widths t
unfolding beside_all
not_one_leaf c n after len (leaf m ks vs) r ok p e h = absurd (h (ap (λ (w : Way). beside_all c after 0 w.inner) (way_at_leaf c n after len depth_limit m ks vs r p e)))
not_one_leaf c n after len (node m true f) r ok p e h = absurd ok
not_one_leaf c n after len (node m false f) r ok p e h = ((omega (arith, ok.0), ok.1), ok.2)

-- the next pair of a part is that of the tree, where the tree has no pair above the number that is before the part's range
part_next : (t part : Tree) (low high after k v : ℕ) → InRange low high part
    → ((x : ℕ) → low ≤ x → x < high → lookup x (pairs t) ≡ lookup x (pairs part))
    → ((x : ℕ) → after < x → x < low → lookup x (pairs t) ≡ none)
    → IsNext (pairs part) after (Pair k v) → IsNext (pairs t) after (Pair k v)
part_next t part low high after k v range answers before i =
    let within = found_in_range low high k v part range i.1 in (
      i.0,
      answers k within.0 within.1 ∙ i.1,
      λ x a b. order x low (λ o. before x a o) (λ o. answers x o (omega (arith, within.1)) ∙ i.2 x a b),
    )

module _ (c : List ℕ) (n : ℕ) (t : Tree) (len : length c ≡ 8 + 24 * n) (at_root_lem : get_or c root_place 0 ≡ root t) (r : Represents c t)
    (i : InRange 0 key_limit t) (deep : depth t ≤ depth_limit) (ok : RootOk t) (after : ℕ) (here : LeafOf c n after depth_limit 0 key_limit t) where
  -- where the number's way begins
  start : (root_position (get_or c root_place 0)).node ≡ root t
  start = root_node (get_or c root_place 0) ∙ at_root_lem

  -- the leaf of the number has no pair above it
  module _ (none_here : (x : ℕ) → after < x → lookup x (pairs here.reached) ≡ none) where
    none_before : (x : ℕ) → after < x → x < here.high → lookup x (pairs t) ≡ none
    none_before x a b = here.answers x (omega (arith, here.from)) b ∙ none_here x a

    none_at_all : here.high ≡ key_limit → (x : ℕ) → after < x → lookup x (pairs t) ≡ none
    none_at_all e x a = order x key_limit (λ o. none_before x a (omega arith)) (λ o. lookup_none x (pairs t) (absent 0 key_limit x (inr o) t i))

    -- the first leaf of what stands right after: it holds a pair, and all its pairs are above the number
    in_neighbour : (k : Neighbour c n depth_limit here.low here.high key_limit t) → Widths k.part → (there : LeafOf c n 0 depth_limit 0 k.end k.part)
        → (least : Option (ℕ × ℕ)) → IsNext (pairs there.reached) after (found least) → IsNext (pairs t) after (found least)
    unfolding found
    in_neighbour k w there none j =
        let q = some_pair (pairs there.reached) (there.filled w) in
        let within = found_in_range there.low there.high q.0.0 q.0.1 there.reached there.range q.1 in
        let above = found_in_range here.high k.end q.0.0 q.0.1 k.part k.range (there.answers q.0.0 within.0 within.1 ∙ q.1) in
        absurd (none-ne-some q.0.1 (sym (j q.0.0 (omega (arith, here.until, above.0))) ∙ q.1))
    in_neighbour k w there (some p) j =
        part_next t k.part here.high k.end after p.0 p.1 k.range k.answers none_before
        (part_next k.part there.reached there.low there.high after p.0 p.1 there.range there.answers (λ x a b. absurd (omega (arith, there.from))) j)

    in_next_leaf_lem : IsNext (pairs t) after (in_next_leaf c n after (beside_all c after 0 (way c n after).inner))
    unfolding in_next_leaf way
    in_next_leaf_lem =
        by_cases (ℕ_discrete here.high key_limit)
        (λ e. rw (here.last e after 0 (root_position (get_or c root_place 0)) start here.from here.until) (none_at_all e))
        (λ e. let k = here.neighbour (omega (arith, here.most)) in
        let stands = k.stands after 0 (root_position (get_or c root_place 0)) start here.from here.until in
        let is_there : root k.part ≡ 0 → ⊥ = λ z. omega (arith, root_positive c k.part k.represents) in
        let w = k.widths (not_one_leaf c n after len t r ok (root_position (get_or c root_place 0)) start (λ z. is_there (sym stands ∙ z))) in
        let there = leaf_of_lem c n 0 len depth_limit 0 k.end k.part k.represents (lower 0 here.high k.end (omega arith) k.part k.range)
        (omega arith) (omega (arith, k.above)) (omega (arith, k.shallow)) in
        let ps = pairs there.reached in
        rw (stands, ne_eqb (root k.part) 0 is_there, there.reads 0 after (root_position (root k.part)) (root_node (root k.part)) there.from there.until)
        (in_neighbour k w there (least_above after ps) (least_next after ps)))

  next_here : (least : Option (ℕ × ℕ)) → IsNext (pairs here.reached) after (found least) → IsNext (pairs t) after (or_next_leaf c n after (way c n after) (found least))
  unfolding or_next_leaf found
  next_here none j = in_next_leaf_lem j
  next_here (some p) j =
      part_next t here.reached here.low here.high after p.0 p.1 here.range here.answers (λ x a b. absurd (omega (arith, here.from))) j

  in_table : IsNext (pairs t) after (next_in c n after)
  unfolding next_in next_along way
  in_table =
      let ps = pairs here.reached in
      rw (here.reads after after (root_position (get_or c root_place 0)) start here.from here.until) (next_here (least_above after ps) (least_next after ps))

-- ---- the call

pub next_right : (greatest : ℕ) (c : List ℕ) (t : Tree) (after : ℕ) → WellFormed c t → card_refusal greatest c ≡ 0 → after < key_limit → IsNext (pairs t) after (next_of greatest 1 c after)
next_right greatest c t after w e h =
    let n = nodes_of_length greatest (length c) in
    let s = sized greatest c n refl (card_sized greatest c e) in
    let i = lower 0 lowest_key key_limit (omega arith) t (well_formed_in_range w) in
    let deep = well_formed_depth c n s.words t s.most w in
    let here = leaf_of_lem c n after s.words depth_limit 0 key_limit t w.holds.2 i (omega arith) h deep in
    rw (next_only greatest c after e) (in_table c n t s.words w.holds.0 w.holds.2 i deep w.widths after here)
