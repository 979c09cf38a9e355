-- Laws of a split, and of a parent that takes its tagged child in.
use mathlib.Core.Path.{◌≡◌, refl, ap, ap₂, sym, ◌∙◌}
use mathlib.Core.List.{List, [], ◌∷◌, ◌++◌}
use Prim.Native.Nat.{ℕ, suc, ◌+◌, ◌-◌, ◌≤◌, ◌<◌}
use native.Mathlib.Omega.{arith}
use native.Mathlib.Numerals.{add-one}
use lib.ListN.{length, get_or, take, drop, length-map, get_or-map}
use borrow.Author.Tests.{ne_eqb, eq-eqb}
use Rattle.laws.specs.Sorting.{Pairs, insert_pair, insert_all, sort, pair_keys, pair_values, key_at}
use Rattle.laws.proofs.Sorting.{length_sort, map_take, map_drop}
use Rattle.card.specs.Layout.{root_place, node_at, children, routing_keys}
use Rattle.card.proofs.NodeLaws.{length_node, length_routing, children_le}
use Rattle.change_siblings.proofs.SiblingLaws.{replaced_length}
use Rattle.walk.specs.declared.Position.{Position}
use Rattle.change_decide.specs.Places.{parent_at, TaggedAt}
use Rattle.change_rows.specs.Nodes.{change_words, change_length, words_laid}
use Rattle.change_rows.specs.Halves.{together, Whole}
use Rattle.change_rows.proofs.HalfLaws.{keys_leaf, keys_inner}
use Rattle.change_plan.specs.Change.{kind_above, split_leaf, joined_keys, joined_children, split_parent, half, left_keys, key_between, halves}
use Rattle.change_plan.specs.Planning.{first, second, third}
use Rattle.change_split.specs.Split.{under, keys_taken_in, children_taken_in}

-- ---- a split

pub kind_root : (link : ℕ) → link ≡ root_place → 2 ≡ kind_above link
unfolding kind_above
kind_root link e = rw (eq-eqb link root_place e)

pub kind_other : (link : ℕ) → (link ≡ root_place → ⊥) → 3 ≡ kind_above link
unfolding kind_above
kind_other link e = rw (ne_eqb link root_place e)

-- the split of a parent is that of its twelve children
pub split_parent_lem : (p : Position) (keys kids ms row : List ℕ) → length kids ≡ 12
    → words_laid (under p.above (together 2 keys kids) ms) row ≡ words_laid (split_parent p keys kids (first ms) (second ms) (third ms)) row
unfolding under change_words change_length split_parent halves key_between left_keys half
split_parent_lem p keys kids ms row e = simp (e)

-- the split of a leaf is that of its twelve pairs
pub split_leaf_lem : (m link : ℕ) (twelve : Pairs) (ms row : List ℕ) → length twelve ≡ 12
    → words_laid (under link (together 1 (pair_keys twelve) (pair_values twelve)) ms) row
    ≡ words_laid (split_leaf m link twelve (first ms) (second ms) (third ms)) row
unfolding under change_words change_length split_leaf halves key_between left_keys half
split_leaf_lem m link twelve ms row e =
    let count : length (pair_values twelve) ≡ 12 = length-map twelve (λ p. p.1) ∙ e in
    let key : get_or (pair_keys twelve) 6 0 ≡ key_at 6 twelve = get_or-map (λ (p : ℕ × ℕ). p.0) twelve 6 (0, 0) in
    simp (count, map_take, map_drop, key)

-- a leaf's pairs and one more, put in one after the other
module _ (leaf : Pairs) (pair : ℕ × ℕ) (none some all : Pairs) (e : none ≡ []) (f : some ≡ insert_all leaf none) where
  pub leaf_count : length some ≡ length leaf
  unfolding insert_all sort
  leaf_count = ap length (f ∙ ap (insert_all leaf) e) ∙ length_sort leaf

  pub leaf_and_pair : all ≡ insert_pair pair some → all ≡ sort (pair ∷ leaf)
  unfolding sort insert_all
  leaf_and_pair g = g ∙ ap (insert_pair pair) (f ∙ ap (insert_all leaf) e)

-- twelve pairs, and the twelve children of a parent, are enough to share out
pub pairs_whole : (twelve : Pairs) → length twelve ≡ 12 → Whole 1 (pair_keys twelve) (pair_values twelve)
pairs_whole twelve e =
    let a = length-map twelve (λ p. p.0) in
    let b = length-map twelve (λ p. p.1) in
    record { few = omega (arith, b); enough = omega (arith, b); keyed = a ∙ sym b ∙ keys_leaf 1 _ refl }

pub children_whole : (keys kids : List ℕ) → length keys ≡ 11 → length kids ≡ 12 → Whole 2 keys kids
children_whole keys kids a b =
    let k = keys_inner 2 (length kids) (λ e. absurd (omega arith)) in
    record { few = omega arith; enough = omega arith; keyed = omega (arith, k) }

-- ---- a parent that takes its tagged child in

module _ (parent tagged row part keys : List ℕ) (i : ℕ) where
  pub keys_joined : row ≡ routing_keys parent → part ≡ routing_keys tagged → keys ≡ take i row ++ (part ++ drop i row)
      → keys ≡ joined_keys parent i tagged
  unfolding joined_keys
  keys_joined e f h = h ∙ ap₂ (λ (l m : List ℕ). take i l ++ (m ++ drop i l)) e f

  pub children_joined : row ≡ children parent → part ≡ children tagged → keys ≡ take i row ++ (part ++ drop (i + 1) row)
      → keys ≡ joined_children parent i tagged
  unfolding joined_children
  children_joined e f h =
      h ∙ ap₂ (λ (l m : List ℕ). take i l ++ (m ++ drop (i + 1) l)) e f
      ∙ ap (λ (k : ℕ). take i (children parent) ++ (children tagged ++ drop k (children parent))) (add-one i)

-- what the code reads of the two nodes: the tagged one is a child of the other, and has two
pub record TaggedRead (p : Position) (parent tagged : List ℕ) : Type 0 where
  pub parent_words : length parent ≡ 24
  pub tagged_words : length tagged ≡ 24
  pub child : p.index < length (children parent)
  pub few : length (children parent) ≤ 11
  pub two : length (children tagged) ≡ 2
  pub keys : length (routing_keys parent) ≡ length (children parent) - 1
  pub one : length (routing_keys tagged) ≡ 1

pub tagged_read : {card : List ℕ} {p : Position} → TaggedAt card p → (parent tagged : List ℕ) → parent ≡ parent_at card p → tagged ≡ node_at card p.node
    → TaggedRead p parent tagged
tagged_read {card} {p} t parent tagged e f =
    let w = t.within in
    let a : length parent ≡ 24 = ap length e ∙ length_node card p.parent w.parent_from (omega (arith, w.size, w.parent_to)) in
    let b : length tagged ≡ 24 = ap length f ∙ length_node card p.node w.node_from (omega (arith, w.size, w.node_to)) in
    let two : length (children tagged) ≡ 2 = ap (λ (l : List ℕ). length (children l)) f ∙ t.two in
    record {
      parent_words = a;
      tagged_words = b;
      child = omega (arith, w.child, ap (λ (l : List ℕ). length (children l)) e);
      few = children_le parent;
      two = two;
      keys = length_routing parent a;
      one = length_routing tagged b ∙ omega (arith, two);
    }

-- how many keys and children the parent then has
module _ (card : List ℕ) (p : Position) (t : TaggedAt card p) where
  pub keys_count : length (keys_taken_in card p) ≡ length (children (parent_at card p))
  unfolding joined_keys
  keys_count =
      let r = tagged_read t _ _ refl refl in
      replaced_length (routing_keys (parent_at card p)) (routing_keys (node_at card p.node)) p.index p.index (omega (arith, r)) ∙ omega (arith, r)

  pub children_count : length (children_taken_in card p) ≡ length (children (parent_at card p)) + 1
  unfolding joined_children
  children_count =
      let r = tagged_read t _ _ refl refl in
      replaced_length (children (parent_at card p)) (children (node_at card p.node)) p.index (suc p.index) (omega (arith, r)) ∙ omega (arith, r)
