-- Find on the card is look-up in the map: the key leads to a leaf of the tree, and the slot there answers as the pairs of the whole
-- tree do.
use mathlib.Core.Path.{◌≡◌, refl, ap, sym, ◌∙◌}
use mathlib.Core.List.{List}
use mathlib.Core.Bool.{Bool}
use mathlib.Core.Option.{Option as Maybe, none, some}
use mathlib.Core.Logic.{by_cases}
use Prim.Native.Nat.{ℕ, zero, suc, ◌+◌, ◌≤◌, ◌<◌}
use native.Mathlib.Omega.{arith}
use native.Mathlib.Decide.{ℕ_discrete}
use lib.ListN.{length, get_or, drop, drop_of_length-le}
use lib.Seq.{drop-cons}
use borrow.Author.Tests.{ne_eqb, eq-eqb}
use Rattle.card.specs.Layout.{node_at, slot_pairs}
use Rattle.card.proofs.NodeLaws.{get_value_word}
use Rattle.walk.specs.Descent.{first_equal, slot_of}
use Rattle.walk.proofs.DescentLaws.{slot_below}
use Rattle.theory_walk.proofs.Routing.{Leads, Parted, parted}
use Rattle.theory_tree.specs.Pairs.{pairs, lookup}
use Rattle.theory_tree.proofs.Pairs.{InRange, AllInRange, child, lookup_child, depth, slot_pairs_head, child_in, child_represents, child_depth}
use Rattle.theory_tree.proofs.Reading.{read_length, leaf_keys, leaf_values}
use Rattle.theory_tree.specs.Represent.{Represents}
use Rattle.theory_tree.specs.Tree.{Tree, Forest, leaf, node}
use Rattle.theory_tree.proofs.Tree.{Context, plug, top, down}
use Rattle.std.specs.Prelude.{Option, Some, None}

-- what a leaf's words answer for a slot: the value beside the key, or nothing
-- ("In a leaf it is at the first slot whose key word equals the key.")
unfoldable pub slot_answer : List ℕ → Option ℕ → Maybe ℕ
slot_answer words None = none
slot_answer words (Some i) = some (get_or words (12 + i) 0)

row_answer : List ℕ → Option ℕ → Maybe ℕ
row_answer vs None = none
row_answer vs (Some i) = some (get_or vs i 0)

-- from slot j on, with so many slots left
row_lookup : (key : ℕ) (ks vs : List ℕ) → 0 < key → length ks ≡ length vs → (left j : ℕ) → j + left ≡ length ks
    → row_answer vs (first_equal (drop j ks) key j) ≡ lookup key (slot_pairs (drop j ks) (drop j vs))
unfolding first_equal row_answer
row_lookup key ks vs pos e zero j h = rw (drop_of_length-le ks {i = j} (omega arith))
row_lookup key ks vs pos e (suc left) j h =
    rw (
      drop-cons ks j 0 (omega arith),
      drop-cons vs j 0 (omega arith),
      slot_pairs_head key (get_or ks j 0) (get_or vs j 0) (drop (suc j) ks) (drop (suc j) vs) pos,
    )
    (by_cases (ℕ_discrete (get_or ks j 0) key)
    (λ q. rw (eq-eqb (get_or ks j 0) key q, eq-eqb key (get_or ks j 0) (sym q)))
    (λ q. rw (ne_eqb (get_or ks j 0) key q, ne_eqb key (get_or ks j 0) (λ z. q (sym z))) (row_lookup key ks vs pos e left (suc j) (omega arith))))

module _ (c : List ℕ) (key m : ℕ) (ks vs : List ℕ) (pos : 0 < key) (r : Represents c (leaf m ks vs)) where
  answer_row : (s : Option ℕ) → slot_of (node_at c m) key ≡ s → slot_answer (node_at c m) s ≡ row_answer vs s
  unfolding slot_answer row_answer
  answer_row None e = refl
  answer_row (Some i) e =
      let low = slot_below (node_at c m) key i (read_length c m _ _ _ r.0) e in
      ap some (sym (get_value_word (node_at c m) i low) ∙ ap (λ (l : List ℕ). get_or l i 0) (leaf_values c m ks vs r))

  -- the slot found in a leaf answers as the leaf's pairs do
  pub leaf_answer : slot_answer (node_at c m) (slot_of (node_at c m) key) ≡ lookup key (slot_pairs ks vs)
  unfolding slot_of
  leaf_answer =
      answer_row (slot_of (node_at c m) key) refl
      ∙ ap (λ (l : List ℕ). row_answer vs (first_equal l key 0)) (leaf_keys c m ks vs r)
      ∙ row_lookup key ks vs pos (r.1 ∙ sym r.2) 11 0 (sym r.1)

-- the leaf that a key leads to from the part s below the context C: where it stands, and that its words answer as the part's pairs do
pub record LeafFound (c : List ℕ) (key : ℕ) (C : Context) (s : Tree) : Type 0 where
  pub number : ℕ
  pub context : Context
  pub keys : List ℕ
  pub values : List ℕ
  pub is_tree : plug context (leaf number keys values) ≡ plug C s
  pub leads : Leads key C → Leads key context
  pub on_card_lem : Represents c (leaf number keys values)
  pub answers : slot_answer (node_at c number) (slot_of (node_at c number) key) ≡ lookup key (pairs s)

module _ (c : List ℕ) (key : ℕ) (pos : 0 < key) where
  -- a leaf is come to at once
  found_leaf : (C : Context) (m : ℕ) (ks vs : List ℕ) → Represents c (leaf m ks vs) → LeafFound c key C (leaf m ks vs)
  found_leaf C m ks vs r =
      record { number = m; context = C; keys = ks; values = vs; is_tree = refl; leads = λ p. p; on_card_lem = r; answers = leaf_answer c key m ks vs pos r }

  -- through an internal node, by the child that the key leads to
  found_child : (lo hi : ℕ) (C : Context) (m : ℕ) (g : Bool) (f : Forest) (p : Parted key f) → AllInRange lo hi f
      → LeafFound c key (down C m g p.left p.right) (child key f) → LeafFound c key C (node m g f)
  found_child lo hi C m g f p i s =
      record {
        number = s.number;
        context = s.context;
        keys = s.keys;
        values = s.values;
        is_tree = s.is_tree ∙ ap (λ (e : Forest). plug C (node m g e)) p.whole;
        leads = λ q. s.leads (p.past, p.short, q);
        on_card_lem = s.on_card_lem;
        answers = s.answers ∙ sym (lookup_child lo hi key f i);
      }

  find_from : (levels lo hi : ℕ) (C : Context) (s : Tree) → Represents c s → InRange lo hi s → lo ≤ key → key < hi → depth s ≤ levels → LeafFound c key C s
  find_from zero lo hi C (leaf m ks vs) r i l h d = found_leaf C m ks vs r
  find_from zero lo hi C (node m g f) r i l h d = absurd (omega arith)
  find_from (suc levels) lo hi C (leaf m ks vs) r i l h d = found_leaf C m ks vs r
  find_from (suc levels) lo hi C (node m g f) r i l h d =
      let p = parted key f in
      let range = child_in key lo hi f i l h in
      found_child lo hi C m g f p i
      (find_from levels range.0 range.1 (down C m g p.left p.right) (child key f) (child_represents c key f r.1) range.2 range.3 range.4 (omega (arith, child_depth key f)))

  -- FIND: the card answers every key by the map of its tree
  pub find_map : (lo hi : ℕ) (t : Tree) → Represents c t → InRange lo hi t → lo ≤ key → key < hi → LeafFound c key top t
  find_map lo hi t r i l h = find_from (depth t) lo hi top t r i l h (omega arith)
