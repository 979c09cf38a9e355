-- THE PROMISE, on a card of one line: of two tables as in demand 2, at rest, with the same N, whose trees differ in node numbers
-- alone, the same whole calls have the same outcomes, and the trees that they leave differ in node numbers alone.
use mathlib.Core.Path.{◌≡◌, ap, sym, ◌∙◌, subst}
use mathlib.Core.List.{List}
use Prim.Native.Nat.{ℕ}
use Rattle.theory_change.proofs.Line.{only}
use Rattle.theory_lines.proofs.Alike.{Outcome, Ends, ends_at, Runs, Keys, Resting, resting_goal, same_outcomes}
use Rattle.demands.proofs.Invariant.{Inv}
use Rattle.demands.specs.Book.{Update, book, kept, empty}
use Rattle.demands.specs.Events.{Event, World, opened, run, Words, Opens, Begins}
use Rattle.demands.specs.RationTable.{ration_table}
use Rattle.demands.proofs.PowerLoss.{kept_from, opened_inv}
use Rattle.demands.proofs.Starting.{nodes_same}
use Rattle.theory_shapes.proofs.Bare.{bare, Alike}
use Rattle.theory_shapes.proofs.Unique.{one_held}
use Rattle.card.specs.Layout.{depth_limit}
use Rattle.card.specs.Header.{nodes_of_length}
use Rattle.call_open.specs.Opening.{open_of}
use Rattle.theory_shapes.proofs.Whole.{settled_by}
use Rattle.state.specs.Steps.{is_idle}
use Rattle.state.specs.Answer.{Answer}
use Rattle.state.specs.Answer.{Ready}
use Rattle.theory_tree.specs.WellFormed.{WellFormed}
use lib.ListN.{length}
use mathlib.Core.Bool.{false}
use Rattle.state.specs.declared.Doing.TheVariants.{Idle}
use Rattle.theory_tree.specs.Represent.{Holds}
use Rattle.theory_tree.specs.Tree.{Tree}

-- a table worked by its calls alone up to now, cuts and finds included, and idle
pub record AtRest (greatest : ℕ) (w : World (ration_table greatest)) : Type 0 where
  pub begin : World (ration_table greatest)
  pub map : List (ℕ × ℕ)
  pub begins : Begins (ration_table greatest) begin map
  pub events : List Event
  pub words : Words events
  pub now : run (ration_table greatest) events begin ≡ w
  pub idle : w.state.doing ≡ Idle

pub at_rest_resting : (greatest : ℕ) {w : World (ration_table greatest)} → AtRest greatest w → (t : Tree) → Holds w.card t → Resting greatest (only w.state.nodes) w (bare t)
at_rest_resting greatest {w} a t h = go (rw a.now at (kept_from greatest a.begin a.map a.begins a.events a.words))
  where
    go : ((n : ℕ) × (k : ℕ) × Inv greatest (only n) k w (kept (ration_table greatest) a.events a.begin (book a.map empty))) → Resting greatest (only w.state.nodes) w (bare t)
    go (n, k, i) =
        let e = nodes_same greatest (only n) k w _ i in
        let r : Resting greatest (only n) w (bare t) =
        record {
          steps = k;
          book = _;
          inv = i;
          idle = a.idle;
          goal = sym (resting_goal greatest n k w _ i a.idle).0 ∙ ap bare (one_held w.card i.tree t i.table.holds h);
        } in
        subst (λ (x : ℕ). Resting greatest (only x) w (bare t)) (sym e) r

-- what stands on the card then
resting_held : (greatest : ℕ) {n : ℕ} {w : World (ration_table greatest)} {s : Tree} → Resting greatest (only n) w s → (t : Tree) × Holds w.card t × (bare t ≡ s)
resting_held greatest {n} {w} x = (x.inv.tree, x.inv.table.holds, (resting_goal greatest n x.steps w x.book x.inv x.idle).0 ∙ x.goal)

pub same_answers : (greatest : ℕ) {w w' v v' : World (ration_table greatest)} {us : List Update} {os os' : List Outcome} → AtRest greatest w → AtRest greatest w'
    → w.state.nodes ≡ w'.state.nodes → (t t' : Tree) → Holds w.card t → Holds w'.card t' → Alike t t' → Keys us
    → Runs greatest us w v os → Runs greatest us w' v' os' → (os ≡ os') × (s : Tree) × (s' : Tree) × Holds v.card s × Holds v'.card s' × Alike s s'
same_answers greatest {w} {w'} a a' en t t' h h' e k r r' =
    let q =
    same_outcomes greatest r r' w.state.nodes (bare t) (at_rest_resting greatest a t h) (subst (λ (x : ℕ). Resting greatest (only x) w' (bare t)) (sym en)
    (subst (λ (s : Tree). Resting greatest (only w'.state.nodes) w' s) (sym e) (at_rest_resting greatest a' t' h'))) k in
    let x = resting_held greatest q.2 in
    let y = resting_held greatest q.3 in
    (q.0, x.0, y.0, x.1, y.1, x.2 ∙ sym y.2)

-- a card just opened whose repair runs to its end: "ready", and the tree left, up to node numbers, is that of the tree opened
pub repair_alike : (greatest : ℕ) (c : List ℕ) (t : Tree) → Opens (ration_table greatest) c → WellFormed c t
    → {v : World (ration_table greatest)} {a : Answer}
    → Ends greatest (opened (ration_table greatest) c) v a → is_idle (open_of greatest c).memory.doing ≡ false
    → (a ≡ Ready) × Resting greatest (only (nodes_of_length greatest (length c))) v (settled_by depth_limit (bare t))
repair_alike greatest c t q k e busy =
    let i = opened_inv greatest c t q k in
    let r = ends_at greatest e (only (nodes_of_length greatest (length c))) _ _ i.0 (settled_by depth_limit (bare t)) i.1 busy in
    (r.0 ∙ i.2, r.1)
