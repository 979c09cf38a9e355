-- Document 01, "The changes": a change that is decided, laid out. Its nodes are given here, and what they hold is read off the card.
use Rattle.std.specs.Prelude.{Bool, ℕ, ◌+◌, take}
use mathlib.Core.List.{List, [], ◌∷◌, zip}
use Rattle.card.specs.Layout.{place, node_at}
use Rattle.card.specs.Stores.{Store}
use Rattle.change_decide.specs.Decide.{left_sibling}
use Rattle.change_decide.specs.Places.{parent_at, Fits}
use Rattle.change_decide.specs.declared.Decision.{Decision}
use Rattle.change_decide.specs.declared.Decision.TheVariants.{Refused, Balanced, PutPair, ClearKey, SplitLeaf, Absorb, SplitParent, Share, Merge, MergeRoot}
use Rattle.change_rows.specs.Nodes.{places_linked, change_words}
use Rattle.change_split.specs.Split.{split_leaf_of, absorb_at, split_parent_at}
use Rattle.change_plan.specs.Change.{siblings_cut}
use Rattle.change_plan.specs.Planning.{Preparation, refused, balanced, prepared, giving}
use Rattle.change_plan.specs.declared.Outcome.{Outcome}
use Rattle.change_plan.specs.declared.Outcome.TheVariants.{Refused as NoStep, Balanced as NoChange, Prepared}
use Rattle.change_siblings.specs.Siblings.{share_at, merge_at, merge_root_at}
use Rattle.change_layout.specs.declared.Size.{Size}

-- "With an empty slot: value first, then key"; "Delete: key word to 0"; "or too few free nodes": refused too, by `giving`
unfoldable pub lay_out : List ℕ → Decision → List Bool → ℕ → Preparation
lay_out card Refused free last = refused
lay_out card Balanced free last = balanced
lay_out card (PutPair m i key value) free last = prepared ((place m (12 + i), value) ∷ (place m (1 + i), key) ∷ []) free last []
lay_out card (ClearKey m i) free last = prepared ((place m (1 + i), 0) ∷ []) free last []
lay_out card (SplitLeaf m link key value) free last = giving 3 free last (split_leaf_of m link key value (node_at card m))
lay_out card (Absorb p) free last = giving 1 free last (absorb_at card p)
lay_out card (SplitParent p) free last = giving 3 free last (split_parent_at card p)
lay_out card (Share p) free last = giving 3 free last (share_at card p)
lay_out card (Merge p) free last = giving 2 free last (merge_at card p)
lay_out card (MergeRoot p) free last = giving 1 free last (merge_root_at card p)

-- ---- in parts, as the code has them: what each decision alone says, and its places and words over the numbers given

-- whether there is a change at all
unfoldable pub outcome_of : Decision → Outcome
outcome_of Refused = NoStep
outcome_of Balanced = NoChange
outcome_of (PutPair m i key value) = Prepared
outcome_of (ClearKey m i) = Prepared
outcome_of (SplitLeaf m link key value) = Prepared
outcome_of (Absorb p) = Prepared
outcome_of (SplitParent p) = Prepared
outcome_of (Share p) = Prepared
outcome_of (Merge p) = Prepared
outcome_of (MergeRoot p) = Prepared

-- how many new nodes a change has
unfoldable pub needed : Decision → ℕ
needed Refused = 0
needed Balanced = 0
needed (PutPair m i key value) = 0
needed (ClearKey m i) = 0
needed (SplitLeaf m link key value) = 3
needed (Absorb p) = 1
needed (SplitParent p) = 3
needed (Share p) = 3
needed (Merge p) = 2
needed (MergeRoot p) = 1

-- and how many stores
unfoldable pub store_count : Decision → ℕ
store_count Refused = 0
store_count Balanced = 0
store_count (PutPair m i key value) = 2
store_count (ClearKey m i) = 1
store_count (SplitLeaf m link key value) = 73
store_count (Absorb p) = 25
store_count (SplitParent p) = 73
store_count (Share p) = 73
store_count (Merge p) = 49
store_count (MergeRoot p) = 25

-- the three in one, as the code has them
abbrev pub change_of : ℕ → ℕ → Size
change_of nodes stores = record { outcome = Prepared; nodes = nodes; stores = stores }

abbrev pub no_change : Outcome → Size
no_change outcome = record { outcome = outcome; nodes = 0; stores = 0 }

unfoldable pub size_of : Decision → Size
size_of d = record { outcome = outcome_of d; nodes = needed d; stores = store_count d }

-- the nodes that the last store cuts out
unfoldable pub cut_by : List ℕ → Decision → List ℕ
cut_by card Refused = []
cut_by card Balanced = []
cut_by card (PutPair m i key value) = []
cut_by card (ClearKey m i) = []
cut_by card (SplitLeaf m link key value) = m ∷ []
cut_by card (Absorb p) = p.parent ∷ p.node ∷ []
cut_by card (SplitParent p) = p.parent ∷ p.node ∷ []
cut_by card (Share p) = siblings_cut p (parent_at card p) (left_sibling p)
cut_by card (Merge p) = siblings_cut p (parent_at card p) (left_sibling p)
cut_by card (MergeRoot p) = siblings_cut p (parent_at card p) (left_sibling p)

-- the places of the stores, by the numbers given and the link alone
unfoldable pub places_by : Decision → List ℕ → List ℕ
places_by Refused ms = []
places_by Balanced ms = []
places_by (PutPair m i key value) ms = place m (12 + i) ∷ place m (1 + i) ∷ []
places_by (ClearKey m i) ms = place m (1 + i) ∷ []
places_by (SplitLeaf m link key value) ms = places_linked (take 3 ms) link
places_by (Absorb p) ms = places_linked (take 1 ms) p.above
places_by (SplitParent p) ms = places_linked (take 3 ms) p.above
places_by (Share p) ms = places_linked (take 3 ms) p.above
places_by (Merge p) ms = places_linked (take 2 ms) p.above
places_by (MergeRoot p) ms = places_linked (take 1 ms) p.above

-- the words that go there
unfoldable pub words_by : List ℕ → Decision → List ℕ → List ℕ
words_by card Refused ms = []
words_by card Balanced ms = []
words_by card (PutPair m i key value) ms = value ∷ key ∷ []
words_by card (ClearKey m i) ms = 0 ∷ []
words_by card (SplitLeaf m link key value) ms = change_words (split_leaf_of m link key value (node_at card m) ms)
words_by card (Absorb p) ms = change_words (absorb_at card p ms)
words_by card (SplitParent p) ms = change_words (split_parent_at card p ms)
words_by card (Share p) ms = change_words (share_at card p ms)
words_by card (Merge p) ms = change_words (merge_at card p ms)
words_by card (MergeRoot p) ms = change_words (merge_root_at card p ms)

-- the stores: each place with its word
abbrev pub stores_by : List ℕ → Decision → List ℕ → List Store
stores_by card d ms = zip (places_by d ms) (words_by card d ms)

-- a decision that is made on some card
abbrev pub FitsSome : Decision → Type 0
FitsSome d = (card : List ℕ) × Fits card d
