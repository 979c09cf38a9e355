-- "So a change is at most 73 stores": what is laid out of a decision that fits the card is within the bounds of a plan.
use mathlib.Core.Path.{◌≡◌, refl, sym, ap, subst, ◌∙◌}
use mathlib.Core.Bool.{Bool, true, false}
use mathlib.Core.List.{List, [], ◌∷◌, ◌++◌}
use mathlib.Core.Logic.{by_cases}
use mathlib.Core.Option.{Option, none, some}
use Prim.Native.Nat.{ℕ, suc, ◌+◌, ◌-◌, ◌*◌, ◌≤◌, ◌<◌}
use native.Mathlib.Omega.{arith}
use native.Mathlib.Decide.{ℕ_discrete}
use lib.Dec.{eqb}
use lib.ListN.{length, set, get_or, take, drop, length-append, length-map, length-take, length-drop, length-set}
use Rattle.laws.specs.Cases.{pick}
use Rattle.laws.specs.Lists.{pad, before_zero}
use Rattle.laws.specs.Sorting.{Pairs, sort, pair_keys, pair_values, key_at}
use Rattle.laws.proofs.Sorting.{length_sort}
use Rattle.card.specs.Layout.{place, node_at, node_image, kind_of, children, routing_keys, leaf_pairs}
use Rattle.card.specs.Stores.{Store, stores, NewNode, new_node, node_stores}
use Rattle.card.proofs.NodeLaws.{length_node, children_le, length_routing}
use Rattle.card.proofs.Stores.{length_node_image}
use Rattle.walk.specs.declared.Position.{Position}
use Rattle.change_decide.specs.Decide.{left_sibling}
use Rattle.change_decide.specs.Places.{parent_at, left_at, right_at, together_count, TaggedAt, SiblingsAt, Fits}
use Rattle.change_decide.specs.declared.Decision.{Decision}
use Rattle.change_decide.specs.declared.Decision.TheVariants.{Refused, Balanced, PutPair, ClearKey, SplitLeaf, Absorb, SplitParent, Share, Merge, MergeRoot}
use Rattle.change_plan.specs.Change.{Change, change_stores, kind_above, split_leaf, joined_keys, joined_children, absorb, split_parent, Together}
use Rattle.change_plan.specs.Change.{leaves_together, inners_together, half, left_values, left_keys, key_between, halves, copied, share, merge}
use Rattle.change_plan.specs.Change.{merge_root}
use Rattle.change_plan.specs.Planning.{Preparation, refused, balanced, prepared, take_numbers, without_all, over_numbers, giving, first, second, third}
use Rattle.change_siblings.specs.Siblings.{together_at, share_at, merge_at, merge_root_at}
use Rattle.change_siblings.proofs.SiblingLaws.{parent_words, left_words_lem, right_words_lem, leaves_together_lem, inners_together_lem, together_count_lem}
use Rattle.change_split.specs.Split.{split_leaf_of, absorb_at, split_parent_at}
use Rattle.change_layout.specs.LayOut.{lay_out, cut_by}
use Rattle.change_layout.proofs.LayOutLaws.{cut_read}

-- ---- nodes that have room for what they hold

pub record HasRoom (x : NewNode) : Type 0 where
  pub few_keys : length x.keys ≤ 11
  pub few_values : length x.values ≤ 11

has_room : (m kind : ℕ) (keys values : List ℕ) → length keys ≤ 11 → length values ≤ 11 → HasRoom (new_node m kind keys values)
has_room m kind keys values h k = record { few_keys = h; few_values = k }

data AllRoom : List NewNode → Type 0 where
  no_more : AllRoom []
  and_so : {x : NewNode} {xs : List NewNode} → HasRoom x → AllRoom xs → AllRoom (x ∷ xs)

length_stores : (p : ℕ) (ws : List ℕ) → length (stores p ws) ≡ length ws
length_stores p [] = refl
length_stores p (w ∷ ws) = ap suc (length_stores (suc p) ws)

node_count : (xs : List NewNode) → AllRoom xs → length (node_stores xs) ≡ 24 * length xs
node_count [] no_more = refl
node_count (x ∷ xs) (and_so r more) =
    let image : List ℕ = node_image x.kind x.keys x.values in
    let from : ℕ = place x.number 0 in
    omega (
      arith,
      length-append (stores from image) (node_stores xs),
      length_stores from image,
      length_node_image x.kind x.keys x.values r.few_keys r.few_values,
      node_count xs more,
    )

change_count : (ch : Change) → AllRoom ch.nodes → length ch.nodes ≤ 3 → (1 ≤ length (change_stores ch)) × (length (change_stores ch) ≤ 73)
unfolding change_stores
change_count ch r h =
    let all : length (change_stores ch) ≡ 24 * length ch.nodes + 1 =
    omega (arith, length-append (node_stores ch.nodes) ((ch.link, ch.top) ∷ []), node_count ch.nodes r) in
    (omega arith, omega arith)

-- "the 12 pairs go 6 and 6 into two leaves"
split_room : (m link : ℕ) (twelve : Pairs) (a b c : ℕ) → length twelve ≡ 12 → AllRoom (split_leaf m link twelve a b c).nodes
unfolding split_leaf
split_room m link twelve a b c l =
    let left : Pairs = take 6 twelve in
    let right : Pairs = drop 6 twelve in
    and_so
    (has_room a 1 (pair_keys left) (pair_values left) (omega (arith, length-map left (λ p. p.0), length-take 6 twelve))
    (omega (arith, length-map left (λ p. p.1), length-take 6 twelve)))
    (and_so
    (has_room b 1 (pair_keys right) (pair_values right) (omega (arith, length-map right (λ p. p.0), length-drop 6 twelve))
    (omega (arith, length-map right (λ p. p.1), length-drop 6 twelve)))
    (and_so (has_room c (kind_above link) (key_at 6 twelve ∷ []) (a ∷ b ∷ []) (omega arith) (omega arith)) no_more))

-- "a new copy of the parent takes its key and children in"
module _ (card : List ℕ) (p : Position) (t : TaggedAt card p) where
  abbrev parent : List ℕ
  parent = parent_at card p

  abbrev tagged : List ℕ
  tagged = node_at card p.node

  tagged_words : (length parent ≡ 24) × (length tagged ≡ 24)
  tagged_words = (
    length_node card p.parent t.within.parent_from (omega (arith, t.within.size, t.within.parent_to)),
    length_node card p.node t.within.node_from (omega (arith, t.within.size, t.within.node_to)),
  )

  keys_count : length (joined_keys parent p.index tagged) ≡ length (children parent)
  unfolding joined_keys
  keys_count =
      let rest : List ℕ = drop p.index (routing_keys parent) in
      omega (
        arith,
        t.two,
        t.within.child,
        length-append (take p.index (routing_keys parent)) (routing_keys tagged ++ rest),
        length-append (routing_keys tagged) rest,
        length-take p.index (routing_keys parent),
        length-drop p.index (routing_keys parent),
        length_routing parent tagged_words.0,
        length_routing tagged tagged_words.1,
      )

  kids_count : length (joined_children parent p.index tagged) ≡ suc (length (children parent))
  unfolding joined_children
  kids_count =
      let rest : List ℕ = drop (suc p.index) (children parent) in
      omega (
        arith,
        t.two,
        t.within.child,
        length-append (take p.index (children parent)) (children tagged ++ rest),
        length-append (children tagged) rest,
        length-take p.index (children parent),
        length-drop (suc p.index) (children parent),
      )

  absorb_room : (ms : List ℕ) → length (children parent) ≤ 10 → AllRoom (absorb_at card p ms).nodes
  unfolding absorb
  absorb_room ms h =
      and_so
      (has_room (first ms) 2 (joined_keys parent p.index tagged) (joined_children parent p.index tagged) (omega (arith, keys_count))
      (omega (arith, kids_count)))
      no_more

  split_parent_room : (ms : List ℕ) → AllRoom (split_parent_at card p ms).nodes
  unfolding split_parent
  split_parent_room ms =
      let keys : List ℕ = joined_keys parent p.index tagged in
      let kids : List ℕ = joined_children parent p.index tagged in
      and_so (has_room (first ms) 2 (take 5 keys) (take 6 kids) (omega (arith, length-take 5 keys)) (omega (arith, length-take 6 kids)))
      (and_so
      (has_room (second ms) 2 (drop 6 keys) (drop 6 kids) (omega (arith, length-drop 6 keys, keys_count, children_le parent))
      (omega (arith, length-drop 6 kids, kids_count, children_le parent)))
      (and_so (has_room (third ms) (kind_above p.above) (get_or keys 5 0 ∷ []) (first ms ∷ second ms ∷ []) (omega arith) (omega arith)) no_more))

-- a copy of the parent, with one key at most and two children in the place of the two
copied_room : (m : ℕ) (parent : List ℕ) (j : ℕ) (keys kids : List ℕ) → length parent ≡ 24
    → suc j < length (children parent) → length keys ≤ 1 → length kids ≤ 2
    → HasRoom (copied m parent j keys kids)
unfolding copied
copied_room m parent j keys kids l h hk hc =
    record {
      few_keys =
          omega (
            arith,
            length-append (take j (routing_keys parent)) (keys ++ drop (suc j) (routing_keys parent)),
            length-append keys (drop (suc j) (routing_keys parent)),
            length-take j (routing_keys parent),
            length-drop (suc j) (routing_keys parent),
            length_routing parent l,
            children_le parent,
          );
      few_values =
          omega (
            arith,
            length-append (take j (children parent)) (kids ++ drop (suc (suc j)) (children parent)),
            length-append kids (drop (suc (suc j)) (children parent)),
            length-take j (children parent),
            length-drop (suc (suc j)) (children parent),
            children_le parent,
          );
    }

-- what two siblings hold together has no more keys than values
left_keys_le : (both : Together) → left_keys both ≤ left_values both
unfolding left_keys
left_keys_le both = go (eqb both.kind 1)
  where
    go : (b : Bool) → pick b (left_values both) (left_values both - 1) ≤ left_values both
    go true = omega arith
    go false = omega arith

halves_room : (both : Together) (a b : ℕ) (xs : List NewNode) → length both.keys ≤ length both.values → 4 ≤ length both.values
    → length both.values ≤ 12 → AllRoom xs → AllRoom (halves both a b ++ xs)
unfolding halves half
halves_room both a b xs k least most more =
    and_so
    (has_room a both.kind (take (left_keys both) both.keys) (take (left_values both) both.values)
    (omega (arith, length-take (left_keys both) both.keys, left_keys_le both)) (omega (arith, length-take (left_values both) both.values)))
    (and_so
    (has_room b both.kind (drop (left_values both) both.keys) (drop (left_values both) both.values)
    (omega (arith, length-drop (left_values both) both.keys)) (omega (arith, length-drop (left_values both) both.values)))
    more)

module _ (card : List ℕ) (p : Position) (s : SiblingsAt card p) where
  abbrev both : Together
  both = together_at card p

  leaves_keys : (x y : List ℕ) → length (leaves_together x y).keys ≤ length (leaves_together x y).values
  unfolding leaves_together
  leaves_keys x y =
      omega (arith, length-map (sort (leaf_pairs x ++ leaf_pairs y)) (λ q. q.0), length-map (sort (leaf_pairs x ++ leaf_pairs y)) (λ q. q.1))

  inners_keys : (x : List ℕ) (key : ℕ) (y : List ℕ) → length x ≡ 24 → length y ≡ 24 → 0 < length (children x) → 0 < length (children y)
      → length (inners_together x key y).keys ≤ length (inners_together x key y).values
  unfolding inners_together
  inners_keys x key y lx ly hx hy =
      omega (
        arith,
        length-append (routing_keys x) (key ∷ routing_keys y),
        length-append (children x) (children y),
        length_routing x lx,
        length_routing y ly,
      )

  both_keys : length both.keys ≤ length both.values
  both_keys =
      by_cases (ℕ_discrete (kind_of (left_at card p)) 1)
      (λ k. subst (λ (t : Together). length t.keys ≤ length t.values) (sym (leaves_together_lem card p k)) (leaves_keys (left_at card p) (right_at card p)))
      (λ k. subst (λ (t : Together). length t.keys ≤ length t.values) (sym (inners_together_lem card p k))
      (inners_keys (left_at card p) _ (right_at card p) (left_words_lem card p s) (right_words_lem card p s) (s.inner k).0 (s.inner k).1))

  both_few : length both.values ≤ 12
  both_few = omega (arith, together_count_lem card p, s.few)

  share_room : (ms : List ℕ) → 4 ≤ together_count card p → AllRoom (share_at card p ms).nodes
  unfolding share
  share_room ms h =
      halves_room both _ _ _ both_keys (omega (arith, together_count_lem card p)) both_few
      (and_so
      (copied_room (third ms) (parent_at card p) (left_sibling p) (key_between both ∷ []) (first ms ∷ second ms ∷ []) (parent_words card p s) s.beside
      (omega arith) (omega arith))
      no_more)

  few_room : (a : ℕ) → together_count card p < 4 → HasRoom (new_node a both.kind both.keys both.values)
  few_room a h = record { few_keys = omega (arith, both_keys, together_count_lem card p); few_values = omega (arith, together_count_lem card p) }

  merge_room : (ms : List ℕ) → together_count card p < 4 → AllRoom (merge_at card p ms).nodes
  unfolding merge
  merge_room ms h =
      and_so (few_room (first ms) h)
      (and_so (copied_room (second ms) (parent_at card p) (left_sibling p) [] (first ms ∷ []) (parent_words card p s) s.beside
      (omega arith) (omega arith))
      no_more)

  merge_root_room : (ms : List ℕ) → together_count card p < 4 → AllRoom (merge_root_at card p ms).nodes
  unfolding merge_root
  merge_root_room ms h = and_so (few_room (first ms) h) no_more

-- ---- what is laid out

-- a change over nodes that were free before it: its stores, the nodes free after it, and those that it cuts out, which are read back
-- from the three words that hold them
pub record Bounded (before : List Bool) (stores : List Store) (after : List Bool) (cut : List ℕ) : Type 0 where
  pub some : 1 ≤ length stores
  pub short : length stores ≤ 73
  pub same : length after ≡ length before
  pub few : length cut ≤ 3
  pub readable : before_zero (pad 3 cut) ≡ cut
  -- its first store is in a node
  pub in_node : 8 ≤ (get_or stores 0 (0, 0)).0

unfoldable pub WithinBounds : List Bool → Preparation → Type 0
WithinBounds before refused = Unit {0}
WithinBounds before balanced = Unit {0}
WithinBounds before (prepared stores after last cut) = Bounded before stores after cut

length_without : (ms : List ℕ) (free : List Bool) → length (without_all ms free) ≡ length free
unfolding without_all
length_without [] free = refl
length_without (m ∷ ms) free = length_without ms (set free m false) ∙ length-set free m false

module _ (free : List Bool) (last : ℕ) (change : List ℕ → Change) where
  over_bounds : ((ms : List ℕ) → (1 ≤ length (change_stores (change ms))) × (length (change_stores (change ms)) ≤ 73)
      × (length (change ms).cut ≤ 3) × (before_zero (pad 3 (change ms).cut) ≡ (change ms).cut) × (8 ≤ (get_or (change_stores (change ms)) 0 (0, 0)).0))
      → (found : Option (List ℕ)) → WithinBounds free (over_numbers free last change found)
  unfolding over_numbers WithinBounds
  over_bounds h none = tt
  over_bounds h (some ms) = record { some = (h ms).0; short = (h ms).1; same = length_without ms free; few = (h ms).2; readable = (h ms).3; in_node = (h ms).4 }

  giving_bounds : (k : ℕ) → ((ms : List ℕ) → AllRoom (change ms).nodes) → ((ms : List ℕ) → length (change ms).nodes ≤ 3)
      → ((ms : List ℕ) → length (change ms).cut ≤ 3) → ((ms : List ℕ) → before_zero (pad 3 (change ms).cut) ≡ (change ms).cut)
      → ((ms : List ℕ) → (get_or (change_stores (change ms)) 0 (0, 0)).0 ≡ place (first ms) 0) → WithinBounds free (giving k free last change)
  unfolding giving
  giving_bounds k room few cut_few read from =
      over_bounds
      (λ ms. let count = change_count (change ms) (room ms) (few ms) in (count.0, count.1, cut_few ms, read ms, omega (arith, from ms))) (take_numbers k free last)

pub laid_bounds : (card : List ℕ) (d : Decision) (free : List Bool) (last : ℕ) → Fits card d → WithinBounds free (lay_out card d free last)
unfolding lay_out WithinBounds Fits cut_by change_stores split_leaf absorb split_parent share halves copied merge merge_root node_image
laid_bounds card Refused free last f = tt
laid_bounds card Balanced free last f = tt
laid_bounds card (PutPair m i key value) free last f = record { some = omega arith; short = omega arith; same = refl; few = omega arith; readable = refl; in_node = omega arith }
laid_bounds card (ClearKey m i) free last f = record { some = omega arith; short = omega arith; same = refl; few = omega arith; readable = refl; in_node = omega arith }
laid_bounds card (SplitLeaf m link key value) free last f =
    giving_bounds free last (split_leaf_of m link key value (node_at card m)) 3
    (λ ms. split_room m link (sort ((key, value) ∷ leaf_pairs (node_at card m))) (first ms) (second ms) (third ms)
    (length_sort ((key, value) ∷ leaf_pairs (node_at card m)) ∙ ap suc f.2)) (λ ms. omega arith) (λ ms. omega arith)
    (λ ms. cut_read card (SplitLeaf m link key value) f) (λ ms. refl)
laid_bounds card (Absorb p) free last f =
    giving_bounds free last (absorb_at card p) 1 (λ ms. absorb_room card p f.0 ms f.1) (λ ms. omega arith) (λ ms. omega arith)
    (λ ms. cut_read card (Absorb p) f) (λ ms. refl)
laid_bounds card (SplitParent p) free last f =
    giving_bounds free last (split_parent_at card p) 3 (split_parent_room card p f.0) (λ ms. omega arith) (λ ms. omega arith)
    (λ ms. cut_read card (SplitParent p) f) (λ ms. refl)
laid_bounds card (Share p) free last f =
    giving_bounds free last (share_at card p) 3 (λ ms. share_room card p f.0 ms f.1) (λ ms. omega arith) (λ ms. omega arith)
    (λ ms. cut_read card (Share p) f) (λ ms. refl)
laid_bounds card (Merge p) free last f =
    giving_bounds free last (merge_at card p) 2 (λ ms. merge_room card p f.0 ms f.1) (λ ms. omega arith) (λ ms. omega arith)
    (λ ms. cut_read card (Merge p) f) (λ ms. refl)
laid_bounds card (MergeRoot p) free last f =
    giving_bounds free last (merge_root_at card p) 1 (λ ms. merge_root_room card p f.0 ms f.1) (λ ms. omega arith) (λ ms. omega arith)
    (λ ms. cut_read card (MergeRoot p) f) (λ ms. refl)
