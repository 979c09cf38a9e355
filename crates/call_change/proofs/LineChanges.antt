-- The next change on a line's table is the card's from the line's root.
use mathlib.Core.Path.{◌≡◌, refl, ap, ◌∙◌}
use mathlib.Core.Bool.{Bool, false}
use mathlib.Core.List.{List}
use Prim.Native.Nat.{ℕ}
use lib.ListN.{get_or}
use Rattle.card.specs.Layout.{depth_limit}
use Rattle.card.specs.Lines.{root_of, seen}
use Rattle.card.proofs.LineLaws.{seen_node}
use Rattle.walk.specs.Descent.{root_position, seek, Way, way_from, run_over, end_of, landed_at, landing_of}
use Rattle.walk.proofs.DescentLaws.{unsought_none, unsought_leaf}
use Rattle.walk.specs.declared.Position.{Position}
use Rattle.walk.specs.declared.End.TheVariants.{Leaf as EndLeaf}
use Rattle.walk.proofs.LineWays.{way_seen, run_seen}
use Rattle.change_decide.specs.Decide.{on_search}
use Rattle.change_decide.specs.declared.Decision.{Decision}
use Rattle.change_decide.proofs.LineDecisions.{repair_seen}
use Rattle.change_layout.proofs.LineLayOut.{lay_out_seen}
use Rattle.change_plan.specs.Planning.{Preparation}
use Rattle.state.specs.Answer.{given}
use Rattle.state.specs.declared.Doing.{Doing}
use Rattle.state.specs.declared.Task.{Task}
use Rattle.state.specs.declared.Task.TheVariants.{PutIn, TakeOut, Repair}
use Rattle.call_change.specs.Updates.{landing, next_change}
use Rattle.call_change.specs.Decided.{decided_in, insert_at, delete_at, decided, laid_first}
use Rattle.call_change.specs.declared.First.{First}
use Rattle.call_change.proofs.Decided.{next_decided}
use Rattle.std.specs.Prelude.{Option, Some, None}
use Rattle.walk.proofs.DescentLaws.{landing_at}
use Rattle.walk.specs.declared.Landing.{Landing}

-- where a key leads below a root
abbrev pub landing_below : List ℕ → ℕ → ℕ → ℕ → Option Landing
landing_below card n root key = landing_of card (way_from card n key depth_limit (root_position root))

-- what the next step of a task decides below a root
abbrev pub decided_below : List ℕ → ℕ → ℕ → Doing → Task → First
decided_below card n root doing (PutIn key value) = decided_in card doing (insert_at key value) (landing_below card n root key)
decided_below card n root doing (TakeOut key) = decided_in card doing (delete_at key) (landing_below card n root key)
decided_below card n root doing (Repair key answer) = record { doing = doing; answer = answer; decision = on_search card n (seek card n key depth_limit (root_position root)) }

module _ (line : ℕ) (card : List ℕ) (n : ℕ) where
  pub landing_seen : (key : ℕ) → landing (seen line card) n key ≡ landing_below card n (get_or card (root_of line) 0) key
  unfolding landing landing_of
  landing_seen key =
      let w = way_from card n key depth_limit (root_position (get_or card (root_of line) 0)) in
      ap (landing_of (seen line card)) (way_seen line card n key) ∙ ap (λ (run : ℕ). landed_at run w.leaf) (run_seen line card n 0 w.inner)

  -- what the walk from the line's root tells of it
  abbrev below : ℕ → Way
  below key = way_from card n key depth_limit (root_position (get_or card (root_of line) 0))

  pub land_none : (key : ℕ) → ((p : Position) (depth : ℕ) → end_of card false (below key) ≡ EndLeaf p depth → ⊥) → landing (seen line card) n key ≡ None
  unfolding landing_of landed_at
  land_none key h = landing_seen key ∙ ap (landed_at _) (unsought_none card (below key) h)

  pub land_leaf : (key : ℕ) (p : Position) (depth : ℕ) → end_of card false (below key) ≡ EndLeaf p depth
      → landing (seen line card) n key ≡ landing_at p.node p.link (run_over card 0 (below key).inner)
  unfolding landing_of landed_at
  land_leaf key p depth e = landing_seen key ∙ ap (landed_at _) (unsought_leaf card (below key) p depth e)

  in_leaf_seen : (doing : Doing) (in_leaf : ℕ → ℕ → List ℕ → First) (l : Option Landing) → decided_in (seen line card) doing in_leaf l ≡ decided_in card doing in_leaf l
  unfolding decided_in
  in_leaf_seen doing in_leaf None = refl
  in_leaf_seen doing in_leaf (Some l) = ap (in_leaf l.node l.link) (seen_node line card l.node)

  pub decided_seen : (doing : Doing) (task : Task) → decided (seen line card) n doing task ≡ decided_below card n (get_or card (root_of line) 0) doing task
  unfolding decided
  decided_seen doing (PutIn key value) = in_leaf_seen doing (insert_at key value) _ ∙ ap (decided_in card doing (insert_at key value)) (landing_seen key)
  decided_seen doing (TakeOut key) = in_leaf_seen doing (delete_at key) _ ∙ ap (decided_in card doing (delete_at key)) (landing_seen key)
  decided_seen doing (Repair key answer) = ap (λ (d : Decision). record { doing = doing; answer = answer; decision = d }) (repair_seen line card n key)

  pub next_change_seen : (free : List Bool) (last : ℕ) (doing : Doing) (task : Task)
      → next_change (seen line card) n free last doing task ≡ laid_first card (decided_below card n (get_or card (root_of line) 0) doing task) free last
  next_change_seen free last doing task =
      let f = decided_below card n (get_or card (root_of line) 0) doing task in
      next_decided (seen line card) free last n doing task
      ∙ ap (λ (g : First). laid_first (seen line card) g free last) (decided_seen doing task)
      ∙ ap (λ (x : Preparation). record { doing = f.doing; final = given f.answer; preparation = x }) (lay_out_seen line card f.decision free last)
