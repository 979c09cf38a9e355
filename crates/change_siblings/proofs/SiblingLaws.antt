-- Laws of what two siblings hold together, in code.
use mathlib.Core.Path.{◌≡◌, refl, ap, ap₂, sym, subst, ◌∙◌}
use mathlib.Core.List.{List, [], ◌∷◌, ◌++◌}
use mathlib.Core.Bool.{Bool, true, false}
use Prim.Native.Nat.{ℕ, zero, suc, ◌+◌, ◌-◌, ◌≤◌, ◌<◌}
use native.Mathlib.Omega.{arith}
use native.Mathlib.Numerals.{add-one}
use lib.ListN.{length, get_or, take, drop, length-append, length-drop, length-map}
use lib.Seq.{get_or-take, get_or-drop, length-take-le}
use lib.Dec.{eqb}
use borrow.Author.Tests.{ne_eqb, eq-eqb, eqb-true}
use Rattle.laws.specs.Cases.{pick}
use Rattle.laws.proofs.Cases.{bool_cases, impossible}
use Rattle.laws.specs.Lists.{before_zero}
use Rattle.laws.specs.Sorting.{Pairs, insert_all, sort}
use Rattle.laws.proofs.Sorting.{length_sort}
use Rattle.card.specs.Layout.{kind_of, value_words, node_image, children, routing_keys, leaf_pairs}
use Rattle.card.proofs.NodeLaws.{children_le, length_node, length_routing, routing_words}
use Rattle.walk.specs.declared.Position.{Position}
use Rattle.change_decide.specs.Decide.{left_sibling, left_number, right_number}
use Rattle.change_decide.proofs.DecideLaws.{child_read}
use Rattle.change_decide.specs.Places.{parent_at, left_at, right_at, count_together, together_count, SiblingsAt}
use Rattle.change_rows.specs.Nodes.{image_of}
use Rattle.change_rows.specs.Halves.{together, keys_for, Whole}
use Rattle.change_rows.proofs.PairLaws.{insert_all_append}
use Rattle.change_rows.proofs.HalfLaws.{keys_leaf, keys_inner, keys_most}
use Rattle.change_plan.proofs.NumberLaws.{three_numbers}
use Rattle.change_plan.specs.Change.{Together, leaves_together, inners_together, copied}
use Rattle.change_siblings.specs.Siblings.{together_at}

-- ---- what is held together

pub sorted_twice : (a b : Pairs) → insert_all a (insert_all b []) ≡ sort (a ++ b)
unfolding sort
sorted_twice a b = sym (insert_all_append a b [])

-- as many keys as go with the values
abbrev Keyed : Together → Type 0
Keyed both = length both.keys ≡ keys_for both.kind (length both.values)

module _ (x y : List ℕ) where
  pub leaves_count : length (leaves_together x y).values ≡ length (leaf_pairs x) + length (leaf_pairs y)
  unfolding leaves_together
  leaves_count = length-map (sort (leaf_pairs x ++ leaf_pairs y)) (λ p. p.1) ∙ length_sort (leaf_pairs x ++ leaf_pairs y) ∙ length-append (leaf_pairs x) (leaf_pairs y)

  pub inners_count : (key : ℕ) → length (inners_together x key y).values ≡ length (children x) + length (children y)
  unfolding inners_together
  inners_count key = length-append (children x) (children y)

  leaves_keyed : Keyed (leaves_together x y)
  unfolding leaves_together
  leaves_keyed =
      let all = sort (leaf_pairs x ++ leaf_pairs y) in
      length-map all (λ p. p.0) ∙ sym (length-map all (λ p. p.1)) ∙ keys_leaf 1 _ refl

  inners_keyed : (key : ℕ) → length x ≡ 24 → length y ≡ 24 → 0 < length (children x) → 0 < length (children y) → Keyed (inners_together x key y)
  unfolding inners_together
  inners_keyed key lx ly px py =
      omega (
        arith,
        length-append (routing_keys x) (key ∷ routing_keys y),
        length-append (children x) (children y),
        length_routing x lx,
        length_routing y ly,
        keys_inner 2 (length (children x ++ children y)) (λ e. absurd (omega arith)),
      )

-- ---- the siblings on the card

module _ (card : List ℕ) (p : Position) where
  -- the words of the parent and of the two
  pub parent_words : SiblingsAt card p → length (parent_at card p) ≡ 24
  parent_words s = length_node card p.parent s.within.parent_from (omega (arith, s.within.size, s.within.parent_to))

  pub left_words_lem : SiblingsAt card p → length (left_at card p) ≡ 24
  left_words_lem s = length_node card _ s.left.pos s.left.fits

  pub right_words_lem : SiblingsAt card p → length (right_at card p) ≡ 24
  right_words_lem s = length_node card _ s.right.pos s.right.fits

  -- what they are together, by their kind
  pub leaves_together_lem : kind_of (left_at card p) ≡ 1 → together_at card p ≡ leaves_together (left_at card p) (right_at card p)
  unfolding together_at
  leaves_together_lem k = rw (eq-eqb (kind_of (left_at card p)) 1 k)

  pub inners_together_lem : (kind_of (left_at card p) ≡ 1 → ⊥)
      → together_at card p ≡ inners_together (left_at card p) (get_or (routing_keys (parent_at card p)) (left_sibling p) 0) (right_at card p)
  unfolding together_at
  inners_together_lem k = rw (ne_eqb (kind_of (left_at card p)) 1 k)

  -- how many there are
  pub together_count_lem : length (together_at card p).values ≡ count_together (left_at card p) (right_at card p)
  unfolding together_at count_together
  together_count_lem = go (eqb (kind_of (left_at card p)) 1)
    where
      go : (b : Bool) → length (pick b (leaves_together (left_at card p) (right_at card p))
          (inners_together (left_at card p) (get_or (routing_keys (parent_at card p)) (left_sibling p) 0) (right_at card p))).values
          ≡ pick b (length (leaf_pairs (left_at card p)) + length (leaf_pairs (right_at card p))) (length (children (left_at card p)) + length (children (right_at card p)))
      go true = leaves_count (left_at card p) (right_at card p)
      go false = inners_count (left_at card p) (right_at card p) (get_or (routing_keys (parent_at card p)) (left_sibling p) 0)

  together_keyed : SiblingsAt card p → Keyed (together_at card p)
  together_keyed s =
      bool_cases (eqb (kind_of (left_at card p)) 1)
      (λ t. subst Keyed (sym (leaves_together_lem (eqb-true _ 1 t))) (leaves_keyed (left_at card p) (right_at card p)))
      (λ t.
      let other : kind_of (left_at card p) ≡ 1 → ⊥ = λ e. let z = eq-eqb _ 1 e in impossible (cc) in
      let some = s.inner other in
      subst Keyed (sym (inners_together_lem other))
      (inners_keyed (left_at card p) (right_at card p) _ (left_words_lem s) (right_words_lem s) some.0 some.1))

  -- what is gathered of them
  module _ (s : SiblingsAt card p) (kind : ℕ) (keys beside : List ℕ) (e : kind ≡ (together_at card p).kind) (f : keys ≡ (together_at card p).keys)
      (g : beside ≡ (together_at card p).values) where
    pub held_both : together kind keys beside ≡ together_at card p
    held_both = rw (e, f, g)

    keyed : length keys ≡ keys_for kind (length beside)
    keyed = subst Keyed (sym held_both) (together_keyed s)

    counted : length beside ≡ together_count card p
    counted = ap length g ∙ together_count_lem

    pub held_whole : 4 ≤ together_count card p → Whole kind keys beside
    held_whole enough = record { few = omega (arith, counted, s.few); enough = omega (arith, counted); keyed = keyed }

    -- few go into one node
    pub held_few : together_count card p < 4 → (length keys ≤ 11) × (length beside ≤ 11)
    held_few few = (omega (arith, keyed, counted, keys_most kind (length beside)), omega (arith, counted))

-- a routing key, as the code reads it
routing_read : (node : List ℕ) (i w : ℕ) → length node ≡ 24 → w ≡ 1 + i → suc i < length (children node) → get_or node w 0 ≡ get_or (routing_keys node) i 0
routing_read node i w l e h =
    sym (ap (λ (r : List ℕ). get_or r i 0) (routing_words node (length (children node)) refl)
    ∙ get_or-take (length (children node) - 1) (drop 1 node) i 0 (omega arith) ∙ get_or-drop 1 node i 0 ∙ ap (λ (a : ℕ). get_or node a 0) (sym e))

-- What the code reads of the parent's words, j being child or sibling, the left one: the numbers of the two, and the key between them.
pub record ParentRead (card : List ℕ) (p : Position) (node : List ℕ) (j : ℕ) : Type 0 where
  pub words : length node ≡ 24
  pub beside : suc j < length (children node)
  pub few : j < 10
  pub left : get_or node (12 + j) 0 ≡ left_number (parent_at card p) p
  pub right : get_or node (13 + j) 0 ≡ right_number (parent_at card p) p
  pub key : get_or node (1 + j) 0 ≡ get_or (routing_keys (parent_at card p)) (left_sibling p) 0

pub parent_read : {card : List ℕ} {p : Position} → SiblingsAt card p → (node : List ℕ) (j : ℕ) → node ≡ parent_at card p → j ≡ left_sibling p
    → ParentRead card p node j
parent_read {card} {p} s node j e f =
    let beside : suc j < length (children node) = omega (arith, f, ap (λ (l : List ℕ). length (children l)) e, s.beside) in
    let words : length node ≡ 24 = ap length e ∙ parent_words card p s in
    record {
      words = words;
      beside = beside;
      few = omega (arith, beside, children_le node);
      left = child_read node j (12 + j) refl (omega (arith, beside)) ∙ ap₂ (λ (l : List ℕ) (i : ℕ). get_or (children l) i 0) e f;
      right = child_read node (suc j) (13 + j) (omega arith) beside ∙ ap₂ (λ (l : List ℕ) (i : ℕ). get_or (children l) (suc i) 0) e f;
      key = routing_read node j (1 + j) words refl beside ∙ ap₂ (λ (l : List ℕ) (i : ℕ). get_or (routing_keys l) i 0) e f;
    }

pub inners_read : {x y : List ℕ} {a b : ℕ} {u v : List ℕ} → x ≡ y → a ≡ b → u ≡ v → inners_together x a u ≡ inners_together y b v
inners_read e f g = rw (e, f, g)

-- ---- a copy of the parent

-- how long a part is with other words in the place of some
pub replaced_length : (part others : List ℕ) (from to : ℕ) → from ≤ length part
    → length (take from part ++ (others ++ drop to part)) ≡ from + length others + (length part - to)
replaced_length part others from to h =
    simp (length-append, length-drop) (omega (arith, length-take-le from part h))

pub parent_copied : (m j : ℕ) (parent row kids keys others routing under : List ℕ) → row ≡ routing_keys parent → kids ≡ children parent
    → routing ≡ take j row ++ (keys ++ drop (j + 1) row) → under ≡ take j kids ++ (others ++ drop (j + 2) kids)
    → node_image 2 routing under ≡ image_of (copied m parent j keys others)
unfolding copied
parent_copied m j parent row kids keys others routing under e f g h =
    ap₂ (node_image 2)
    (g ∙ ap₂ (λ (l : List ℕ) (i : ℕ). take j l ++ (keys ++ drop i l)) e (add-one j))
    (h ∙ ap₂ (λ (l : List ℕ) (i : ℕ). take j l ++ (others ++ drop i l)) f (let z : j + 2 ≡ suc (suc j) = omega arith in z))

-- ---- the nodes that a change cuts out

pub cut_three : (a b c : ℕ) → 0 < a → 0 < b → 0 < c → before_zero (a ∷ b ∷ c ∷ []) ≡ a ∷ b ∷ c ∷ []
cut_three zero b c p q r = absurd (omega arith)
cut_three (suc a) zero c p q r = absurd (omega arith)
cut_three (suc a) (suc b) zero p q r = absurd (omega arith)
cut_three (suc a) (suc b) (suc c) p q r = refl

before_zero_positive : (l : List ℕ) (i : ℕ) → i < length (before_zero l) → 0 < get_or (before_zero l) i 0
before_zero_positive [] i h = absurd (omega arith)
before_zero_positive (zero ∷ l) i h = absurd (omega arith)
before_zero_positive (suc x ∷ l) zero h = omega arith
before_zero_positive (suc x ∷ l) (suc i) h = before_zero_positive l i (omega arith)

pub child_positive : (node : List ℕ) (i : ℕ) → i < length (children node) → 0 < get_or (children node) i 0
unfolding children
child_positive node i h = before_zero_positive (value_words node) i h

-- ---- what a change is laid out from

-- the first of three numbers
pub take_one : (l : List ℕ) → length l ≡ 3 → take 1 l ≡ get_or l 0 0 ∷ []
take_one l e = ap (take 1) (three_numbers l e)

pub take_two : (l : List ℕ) → length l ≡ 3 → take 2 l ≡ get_or l 0 0 ∷ get_or l 1 0 ∷ []
take_two l e = ap (take 2) (three_numbers l e)
