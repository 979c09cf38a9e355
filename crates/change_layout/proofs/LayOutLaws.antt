-- Laws of a change that is laid out: its numbers, its rows, and the nodes that it cuts out.
use mathlib.Core.Path.{◌≡◌, refl, ap, sym, ◌∙◌}
use mathlib.Core.Bool.{Bool}
use mathlib.Core.List.{List, [], ◌∷◌, ◌++◌, zip, zip_with}
use mathlib.Core.Option.{none, some}
use Prim.Native.Nat.{ℕ, zero, suc, ◌+◌, ◌*◌, ◌≤◌, ◌<◌}
use native.Mathlib.Omega.{arith}
use lib.ListN.{length, get_or, take, drop, length-append}
use lib.Seq.{length-take-le}
use Rattle.laws.specs.Lists.{pad, before_zero}
use Rattle.laws.proofs.Cases.{order, impossible}
use Rattle.card.specs.Layout.{place, node_image, node_at}
use Rattle.card.specs.Stores.{Store}
use Rattle.walk.specs.declared.Position.{Position}
use Rattle.change_decide.specs.Decide.{left_sibling}
use Rattle.change_decide.specs.Places.{parent_at, TaggedAt, SiblingsAt, Fits}
use Rattle.change_decide.specs.declared.Decision.{Decision}
use Rattle.change_decide.specs.declared.Decision.TheVariants.{Refused, Balanced, PutPair, ClearKey, SplitLeaf, Absorb, SplitParent, Share, Merge, MergeRoot}
use Rattle.change_plan.specs.Change.{Change, siblings_cut, change_stores, split_leaf, absorb, split_parent, halves, copied, share, merge, merge_root}
use Rattle.change_plan.specs.Planning.{Preparation, take_numbers, without_all, last_of, giving, refused, balanced, prepared}
use Rattle.change_plan.specs.Plan.{Among}
use Rattle.change_plan.specs.declared.Outcome.TheVariants.{Refused as NoStep, Balanced as NoChange, Prepared}
use Rattle.change_plan.proofs.NumberLaws.{giving_none, giving_some}
use Rattle.change_rows.specs.Nodes.{Numbered, count_from, node_places, places_of, places_linked, change_places, change_words, change_length}
use Rattle.change_rows.proofs.NodeLaws.{length_places_of, change_stores_lem, front_length}
use Rattle.change_split.specs.Split.{split_leaf_of, absorb_at, split_parent_at}
use Rattle.change_siblings.proofs.SiblingLaws.{cut_three, child_positive}
use Rattle.change_siblings.specs.Siblings.{share_at, merge_at, merge_root_at}
use Rattle.change_layout.specs.LayOut.{lay_out, outcome_of, needed, store_count, cut_by, places_by, words_by}

-- ---- the numbers

-- without enough of them the change is refused
pub laid_none : (card : List ℕ) (d : Decision) (free : List Bool) (last : ℕ) → take_numbers (needed d) free last ≡ none → refused ≡ lay_out card d free last
unfolding needed lay_out take_numbers
laid_none card Refused free last e = refl
laid_none card Balanced free last e = impossible (cc)
laid_none card (PutPair m i key value) free last e = impossible (cc)
laid_none card (ClearKey m i) free last e = impossible (cc)
laid_none card (SplitLeaf m link key value) free last e = sym (giving_none 3 free last _ e)
laid_none card (Absorb p) free last e = sym (giving_none 1 free last _ e)
laid_none card (SplitParent p) free last e = sym (giving_none 3 free last _ e)
laid_none card (Share p) free last e = sym (giving_none 3 free last _ e)
laid_none card (Merge p) free last e = sym (giving_none 2 free last _ e)
laid_none card (MergeRoot p) free last e = sym (giving_none 1 free last _ e)

prepared_same : {s t : List Store} {f g : List Bool} {l m : ℕ} {c d : List ℕ} → s ≡ t → f ≡ g → l ≡ m → c ≡ d → prepared s f l c ≡ prepared t g m d
prepared_same e f g h = rw (e, f, g, h)

stored : {free : List Bool} {last : ℕ} (ch : Change) → length (change_words ch) ≡ change_length ch
    → prepared (zip (change_places ch) (change_words ch)) free last ch.cut ≡ prepared (change_stores ch) free last ch.cut
stored {free} {last} ch w = prepared_same {f = free} {l = last} (change_stores_lem ch w) refl refl refl

-- over the numbers given it is the change that is due, where its words are as many as they should be
over_three : (card : List ℕ) (d : Decision) (a b c : ℕ) (free : List Bool) (last : ℕ) → outcome_of d ≡ Prepared
    → length (words_by card d (a ∷ b ∷ c ∷ [])) ≡ store_count d → take_numbers (needed d) free last ≡ some (take (needed d) (a ∷ b ∷ c ∷ []))
    → prepared (zip (places_by d (a ∷ b ∷ c ∷ [])) (words_by card d (a ∷ b ∷ c ∷ []))) (without_all (take (needed d) (a ∷ b ∷ c ∷ [])) free)
    (last_of last (take (needed d) (a ∷ b ∷ c ∷ []))) (cut_by card d)
    ≡ lay_out card d free last
unfolding outcome_of needed store_count cut_by places_by words_by lay_out without_all last_of zip zip_with change_places change_length
    split_leaf absorb split_parent share halves copied merge merge_root
over_three card Refused a b c free last o w e = impossible (cc)
over_three card Balanced a b c free last o w e = impossible (cc)
over_three card (PutPair m i key value) a b c free last o w e = refl
over_three card (ClearKey m i) a b c free last o w e = refl
over_three card (SplitLeaf m link key value) a b c free last o w e =
    stored (split_leaf_of m link key value (node_at card m) (a ∷ b ∷ c ∷ [])) w ∙ sym (giving_some 3 free last _ (a ∷ b ∷ c ∷ []) e)
over_three card (Absorb p) a b c free last o w e = stored (absorb_at card p (a ∷ b ∷ c ∷ [])) w ∙ sym (giving_some 1 free last _ (a ∷ []) e)
over_three card (SplitParent p) a b c free last o w e = stored (split_parent_at card p (a ∷ b ∷ c ∷ [])) w ∙ sym (giving_some 3 free last _ (a ∷ b ∷ c ∷ []) e)
over_three card (Share p) a b c free last o w e = stored (share_at card p (a ∷ b ∷ c ∷ [])) w ∙ sym (giving_some 3 free last _ (a ∷ b ∷ c ∷ []) e)
over_three card (Merge p) a b c free last o w e = stored (merge_at card p (a ∷ b ∷ c ∷ [])) w ∙ sym (giving_some 2 free last _ (a ∷ b ∷ []) e)
over_three card (MergeRoot p) a b c free last o w e = stored (merge_root_at card p (a ∷ b ∷ c ∷ [])) w ∙ sym (giving_some 1 free last _ (a ∷ []) e)

pub laid_given : (card : List ℕ) (d : Decision) (ms : List ℕ) (free : List Bool) (last : ℕ) → length ms ≡ 3 → outcome_of d ≡ Prepared
    → length (words_by card d ms) ≡ store_count d → take_numbers (needed d) free last ≡ some (take (needed d) ms)
    → lay_out card d free last
    ≡ prepared (zip (places_by d ms) (words_by card d ms)) (without_all (take (needed d) ms) free) (last_of last (take (needed d) ms)) (cut_by card d)
laid_given card d [] free last l o w e = absurd (omega arith)
laid_given card d (a ∷ []) free last l o w e = absurd (omega arith)
laid_given card d (a ∷ b ∷ []) free last l o w e = absurd (omega arith)
laid_given card d (a ∷ b ∷ c ∷ []) free last l o w e = sym (over_three card d a b c free last o w e)
laid_given card d (a ∷ b ∷ c ∷ x ∷ ms) free last l o w e = absurd (omega arith)

pub all_numbered : (k : ℕ) (ms : List ℕ) → Among k ms → Numbered k ms
all_numbered k ms a i h = record { least = (a i h).0; most = omega (arith, (a i h).1) }

pub needed_few : (d : Decision) → needed d ≤ 3
unfolding needed
needed_few Refused = omega arith
needed_few Balanced = omega arith
needed_few (PutPair m i key value) = omega arith
needed_few (ClearKey m i) = omega arith
needed_few (SplitLeaf m link key value) = omega arith
needed_few (Absorb p) = omega arith
needed_few (SplitParent p) = omega arith
needed_few (Share p) = omega arith
needed_few (Merge p) = omega arith
needed_few (MergeRoot p) = omega arith

-- ---- the rows

length_linked : (ms : List ℕ) (link : ℕ) → length (places_linked ms link) ≡ 24 * length ms + 1
length_linked ms link = length-append (places_of ms) (link ∷ []) ∙ ap (λ (k : ℕ). k + 1) (length_places_of ms)

linked_count : (k : ℕ) (ms : List ℕ) (link : ℕ) → k ≤ length ms → length (places_linked (take k ms) link) ≡ 24 * k + 1
linked_count k ms link h = length_linked (take k ms) link ∙ ap (λ (i : ℕ). 24 * i + 1) (length-take-le k ms h)

pub length_by : (d : Decision) (ms : List ℕ) → length ms ≡ 3 → length (places_by d ms) ≡ store_count d
unfolding places_by store_count
length_by Refused ms l = refl
length_by Balanced ms l = refl
length_by (PutPair m i key value) ms l = refl
length_by (ClearKey m i) ms l = refl
length_by (SplitLeaf m link key value) ms l = linked_count 3 ms link (omega arith)
length_by (Absorb p) ms l = linked_count 1 ms p.above (omega arith)
length_by (SplitParent p) ms l = linked_count 3 ms p.above (omega arith)
length_by (Share p) ms l = linked_count 3 ms p.above (omega arith)
length_by (Merge p) ms l = linked_count 2 ms p.above (omega arith)
length_by (MergeRoot p) ms l = linked_count 1 ms p.above (omega arith)

count_few : (d : Decision) → store_count d ≤ 73
unfolding store_count
count_few Refused = omega arith
count_few Balanced = omega arith
count_few (PutPair m i key value) = omega arith
count_few (ClearKey m i) = omega arith
count_few (SplitLeaf m link key value) = omega arith
count_few (Absorb p) = omega arith
count_few (SplitParent p) = omega arith
count_few (Share p) = omega arith
count_few (Merge p) = omega arith
count_few (MergeRoot p) = omega arith

-- the words at the front of a row that is as long as before are as many as they should be
pub words_count : (card : List ℕ) (d : Decision) (ms row before : List ℕ) → row ≡ words_by card d ms ++ drop (store_count d) before
    → length row ≡ 73 → length before ≡ 73 → length (words_by card d ms) ≡ store_count d
words_count card d ms row before e l k = front_length row (words_by card d ms) before (store_count d) e (omega arith) (omega (arith, count_few d))

-- a decision that has nothing to give nodes for
pub laid_refused : (card : List ℕ) (d : Decision) (free : List Bool) (last : ℕ) → outcome_of d ≡ NoStep → lay_out card d free last ≡ refused
unfolding outcome_of lay_out
laid_refused card Refused free last e = refl
laid_refused card Balanced free last e = impossible (cc)
laid_refused card (PutPair m i key value) free last e = impossible (cc)
laid_refused card (ClearKey m i) free last e = impossible (cc)
laid_refused card (SplitLeaf m link key value) free last e = impossible (cc)
laid_refused card (Absorb p) free last e = impossible (cc)
laid_refused card (SplitParent p) free last e = impossible (cc)
laid_refused card (Share p) free last e = impossible (cc)
laid_refused card (Merge p) free last e = impossible (cc)
laid_refused card (MergeRoot p) free last e = impossible (cc)

pub laid_balanced : (card : List ℕ) (d : Decision) (free : List Bool) (last : ℕ) → outcome_of d ≡ NoChange → lay_out card d free last ≡ balanced
unfolding outcome_of lay_out
laid_balanced card Refused free last e = impossible (cc)
laid_balanced card Balanced free last e = refl
laid_balanced card (PutPair m i key value) free last e = impossible (cc)
laid_balanced card (ClearKey m i) free last e = impossible (cc)
laid_balanced card (SplitLeaf m link key value) free last e = impossible (cc)
laid_balanced card (Absorb p) free last e = impossible (cc)
laid_balanced card (SplitParent p) free last e = impossible (cc)
laid_balanced card (Share p) free last e = impossible (cc)
laid_balanced card (Merge p) free last e = impossible (cc)
laid_balanced card (MergeRoot p) free last e = impossible (cc)

-- ---- where the first store goes

-- "words 0 to 23 of each in order": word 0 of the first new node
first_new : (d : Decision) (a b c : ℕ) → 0 < needed d → get_or (places_by d (a ∷ b ∷ c ∷ [])) 0 0 ≡ place a 0
unfolding needed places_by places_of node_places count_from
first_new Refused a b c h = absurd (omega arith)
first_new Balanced a b c h = absurd (omega arith)
first_new (PutPair m i key value) a b c h = absurd (omega arith)
first_new (ClearKey m i) a b c h = absurd (omega arith)
first_new (SplitLeaf m link key value) a b c h = refl
first_new (Absorb p) a b c h = refl
first_new (SplitParent p) a b c h = refl
first_new (Share p) a b c h = refl
first_new (Merge p) a b c h = refl
first_new (MergeRoot p) a b c h = refl

-- the word of a leaf that a change without new nodes stores first is on the card
first_held : (card : List ℕ) (d : Decision) (ms : List ℕ) → Fits card d → outcome_of d ≡ Prepared → needed d ≡ 0 → get_or (places_by d ms) 0 0 < length card
unfolding Fits outcome_of needed places_by
first_held card Refused ms f o z = impossible (cc)
first_held card Balanced ms f o z = impossible (cc)
first_held card (PutPair m i key value) ms f o z = omega (arith, f.0.on.pos, f.0.on.fits, f.1)
first_held card (ClearKey m i) ms f o z = omega (arith, f.0.on.pos, f.0.on.fits, f.1)
first_held card (SplitLeaf m link key value) ms f o z = absurd (omega arith)
first_held card (Absorb p) ms f o z = absurd (omega arith)
first_held card (SplitParent p) ms f o z = absurd (omega arith)
first_held card (Share p) ms f o z = absurd (omega arith)
first_held card (Merge p) ms f o z = absurd (omega arith)
first_held card (MergeRoot p) ms f o z = absurd (omega arith)

-- where the first number given is a node of the card
pub first_on_card : (card : List ℕ) (d : Decision) (a b c n : ℕ) → Fits card d → outcome_of d ≡ Prepared → length card ≡ 8 + 24 * n
    → Among (needed d) (a ∷ b ∷ c ∷ []) → a ≤ n → get_or (places_by d (a ∷ b ∷ c ∷ [])) 0 0 < length card
first_on_card card d a b c n f o size among h =
    order 0 (needed d) (λ k. rw (first_new d a b c k) (omega (arith, (among 0 k).0))) (λ k. first_held card d (a ∷ b ∷ c ∷ []) f o (omega arith))

-- the first store is in a node
pub first_in_node : (d : Decision) (a b c : ℕ) → outcome_of d ≡ Prepared → 8 ≤ get_or (places_by d (a ∷ b ∷ c ∷ [])) 0 0
unfolding outcome_of needed places_by
first_in_node Refused a b c o = impossible (cc)
first_in_node Balanced a b c o = impossible (cc)
first_in_node (PutPair m i key value) a b c o = omega arith
first_in_node (ClearKey m i) a b c o = omega arith
first_in_node (SplitLeaf m link key value) a b c o = omega (arith, first_new (SplitLeaf m link key value) a b c (omega arith))
first_in_node (Absorb p) a b c o = omega (arith, first_new (Absorb p) a b c (omega arith))
first_in_node (SplitParent p) a b c o = omega (arith, first_new (SplitParent p) a b c (omega arith))
first_in_node (Share p) a b c o = omega (arith, first_new (Share p) a b c (omega arith))
first_in_node (Merge p) a b c o = omega (arith, first_new (Merge p) a b c (omega arith))
first_in_node (MergeRoot p) a b c o = omega (arith, first_new (MergeRoot p) a b c (omega arith))

-- a change with new nodes, laid out: its first store goes to word 0 of the first of them
pub record LaidFrom (p : Preparation) (at : ℕ) : Type 0 where
  pub stores : List Store
  pub free : List Bool
  pub last : ℕ
  pub cut : List ℕ
  pub is : p ≡ prepared stores free last cut
  pub first : (get_or stores 0 (0, 0)).0 ≡ at

from_change : (k : ℕ) (free : List Bool) (last : ℕ) (change : List ℕ → Change) (ms : List ℕ) (at : ℕ) → take_numbers k free last ≡ some ms
    → (get_or (change_stores (change ms)) 0 (0, 0)).0 ≡ at → LaidFrom (giving k free last change) at
from_change k free last change ms at e f =
    record { stores = _; free = _; last = _; cut = _; is = giving_some k free last change ms e; first = f }

pub laid_from : (card : List ℕ) (d : Decision) (a b c : ℕ) (free : List Bool) (last : ℕ) → 0 < needed d
    → take_numbers (needed d) free last ≡ some (take (needed d) (a ∷ b ∷ c ∷ [])) → LaidFrom (lay_out card d free last) (place a 0)
unfolding needed lay_out change_stores split_leaf absorb split_parent share halves merge merge_root node_image
laid_from card Refused a b c free last h e = absurd (omega arith)
laid_from card Balanced a b c free last h e = absurd (omega arith)
laid_from card (PutPair m i key value) a b c free last h e = absurd (omega arith)
laid_from card (ClearKey m i) a b c free last h e = absurd (omega arith)
laid_from card (SplitLeaf m link key value) a b c free last h e = from_change 3 free last (split_leaf_of m link key value (node_at card m)) _ _ e refl
laid_from card (Absorb p) a b c free last h e = from_change 1 free last (absorb_at card p) _ _ e refl
laid_from card (SplitParent p) a b c free last h e = from_change 3 free last (split_parent_at card p) _ _ e refl
laid_from card (Share p) a b c free last h e = from_change 3 free last (share_at card p) _ _ e refl
laid_from card (Merge p) a b c free last h e = from_change 2 free last (merge_at card p) _ _ e refl
laid_from card (MergeRoot p) a b c free last h e = from_change 1 free last (merge_root_at card p) _ _ e refl

-- ---- the nodes that a change cuts out

cut_one : (m : ℕ) → 1 ≤ m → before_zero (m ∷ 0 ∷ 0 ∷ []) ≡ m ∷ []
cut_one zero h = absurd (omega arith)
cut_one (suc m) h = refl

cut_two : (a b : ℕ) → 1 ≤ a → 1 ≤ b → before_zero (a ∷ b ∷ 0 ∷ []) ≡ a ∷ b ∷ []
cut_two zero b p q = absurd (omega arith)
cut_two (suc a) zero p q = absurd (omega arith)
cut_two (suc a) (suc b) p q = refl

cut_tagged : (card : List ℕ) (p : Position) → TaggedAt card p → before_zero (p.parent ∷ p.node ∷ 0 ∷ []) ≡ p.parent ∷ p.node ∷ []
cut_tagged card p t = cut_two _ _ t.within.parent_from t.within.node_from

cut_siblings : (card : List ℕ) (p : Position) → SiblingsAt card p
    → before_zero (siblings_cut p (parent_at card p) (left_sibling p)) ≡ siblings_cut p (parent_at card p) (left_sibling p)
cut_siblings card p s =
    cut_three _ _ _ (omega (arith, s.within.parent_from)) (child_positive (parent_at card p) (left_sibling p) (omega (arith, s.beside)))
    (child_positive (parent_at card p) (suc (left_sibling p)) s.beside)

-- none of them is 0, so that they are read back from the words that hold them
pub cut_read : (card : List ℕ) (d : Decision) → Fits card d → before_zero (pad 3 (cut_by card d)) ≡ cut_by card d
unfolding Fits cut_by
cut_read card Refused f = refl
cut_read card Balanced f = refl
cut_read card (PutPair m i key value) f = refl
cut_read card (ClearKey m i) f = refl
cut_read card (SplitLeaf m link key value) f = cut_one m f.0.on.pos
cut_read card (Absorb p) f = cut_tagged card p f.0
cut_read card (SplitParent p) f = cut_tagged card p f.0
cut_read card (Share p) f = cut_siblings card p f.0
cut_read card (Merge p) f = cut_siblings card p f.0
cut_read card (MergeRoot p) f = cut_siblings card p f.0
