-- What a step finds that has no store left to make, by cases: what holds of a refusal, of nothing to change, of stores that need no
-- node and of every change over nodes given holds of whatever is decided; and a change that is prepared has a store.
use mathlib.Core.Path.{◌≡◌, refl, ap, sym, subst}
use mathlib.Core.List.{List, [], ◌∷◌, ◌++◌}
use mathlib.Core.Bool.{Bool, true}
use mathlib.Core.Option.{Option, none, some}
use Prim.Native.Nat.{ℕ}
use Rattle.card.specs.Stores.{Store, node_stores}
use Rattle.change_plan.specs.Change.{Change, change_stores}
use Rattle.change_plan.specs.Planning.{Preparation, refused, balanced, prepared, over_numbers, take_numbers, giving}
use Rattle.change_decide.specs.declared.Decision.{Decision}
use Rattle.change_decide.specs.declared.Decision.TheVariants.{Refused, Balanced, PutPair, ClearKey, SplitLeaf, Absorb, SplitParent, Share, Merge, MergeRoot}
use Rattle.change_layout.specs.LayOut.{lay_out}
use Rattle.state.specs.Results.{more_to_store}
use Rattle.state.specs.declared.Doing.{Doing}
use Rattle.state.specs.declared.Task.{Task}
use Rattle.call_change.specs.Updates.{FirstChange, next_change}
use Rattle.call_change.specs.Decided.{decided}
use Rattle.call_change.specs.Results.{Storing}
use Rattle.call_change.proofs.Decided.{next_decided}

-- ---- whatever is decided

module _ (P : Preparation → Type 0) (free : List Bool) (last : ℕ) where
  -- what a claim needs that holds of every preparation: it holds of a refusal, of nothing to change, of stores that need no node
  -- (there is one at least), and of a change over nodes given
  pub record Preserved : Type 0 where
    pub none_planned : P refused
    pub nothing : P balanced
    pub no_nodes : (s : Store) (ss : List Store) → P (prepared (s ∷ ss) free last [])
    pub given : (k : ℕ) (change : List ℕ → Change) → P (giving k free last change)

  pub laid_by : Preserved → (card : List ℕ) (decision : Decision) → P (lay_out card decision free last)
  unfolding lay_out
  laid_by h card Refused = h.none_planned
  laid_by h card Balanced = h.nothing
  laid_by h card (PutPair m i key value) = h.no_nodes _ _
  laid_by h card (ClearKey m i) = h.no_nodes _ _
  laid_by h card (SplitLeaf m link key value) = h.given 3 _
  laid_by h card (Absorb p) = h.given 1 _
  laid_by h card (SplitParent p) = h.given 3 _
  laid_by h card (Share p) = h.given 3 _
  laid_by h card (Merge p) = h.given 2 _
  laid_by h card (MergeRoot p) = h.given 1 _

  pub next_by : Preserved → (card : List ℕ) (n : ℕ) (doing : Doing) (task : Task) → P (next_change card n free last doing task).preparation
  next_by h card n doing task =
      subst P (sym (ap (λ (f : FirstChange). f.preparation) (next_decided card free last n doing task))) (laid_by h card (decided card n doing task).decision)

-- ---- a change that is prepared has a store: its link, or a pair's key

more_end : (ss : List Store) (s : Store) → more_to_store (ss ++ s ∷ []) ≡ true
unfolding more_to_store
more_end [] s = refl
more_end (x ∷ ss) s = refl

module _ (free : List Bool) (last : ℕ) where
  over_stores : (change : List ℕ → Change) (found : Option (List ℕ)) → Storing (over_numbers free last change found)
  unfolding over_numbers Storing change_stores
  over_stores change none = tt
  over_stores change (some ms) = more_end (node_stores (change ms).nodes) ((change ms).link, (change ms).top)

  giving_stores : (k : ℕ) (change : List ℕ → Change) → Storing (giving k free last change)
  unfolding giving
  giving_stores k change = over_stores change (take_numbers k free last)

  storing : Preserved Storing free last
  unfolding Storing more_to_store
  storing = record { none_planned = tt; nothing = tt; no_nodes = λ s ss. refl; given = giving_stores }

  pub next_stores : (card : List ℕ) (n : ℕ) (doing : Doing) (task : Task) → Storing (next_change card n free last doing task).preparation
  next_stores = next_by Storing free last storing

  pub laid_stores : (card : List ℕ) (decision : Decision) → Storing (lay_out card decision free last)
  laid_stores = laid_by Storing free last storing
