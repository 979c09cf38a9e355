-- What an update decides: the next change is what is laid out of it, and it can be laid out on the card that it is made on.
use mathlib.Core.Path.{◌≡◌, refl}
use mathlib.Core.List.{List}
use mathlib.Core.Bool.{Bool}
use Prim.Native.Nat.{ℕ, ◌^◌, ◌<◌}
use native.Mathlib.Omega.{arith}
use lib.ListN.{length}
use Rattle.card.specs.Header.{Sized}
use Rattle.card.specs.Layout.{node_at}
use Rattle.card.proofs.NodeLaws.{length_node}
use Rattle.change_layout.specs.LayOut.{lay_out}
use Rattle.change_layout.specs.Mending.{next_repair}
use Rattle.change_decide.specs.Places.{LeafAt, Fits}
use Rattle.change_decide.proofs.Fits.{repair_fits}
use Rattle.walk.specs.Descent.{slot_of}
use Rattle.walk.proofs.DescentLaws.{slot_below}
use Rattle.state.specs.declared.Doing.{Doing}
use Rattle.state.specs.declared.Task.{Task}
use Rattle.state.specs.declared.Task.TheVariants.{PutIn, TakeOut, Repair}
use Rattle.call_change.specs.Updates.{landing, Reason, held, slot, full, empty_reason, reason_in, insert_reason, insert_change, delete_change, insert_in, delete_in, no_way, in_leaf, next_change}
use Rattle.call_change.specs.Decided.{placed, insert_answer, insert_decided, delete_decided, decided_in, insert_at, delete_at, decided, laid_first}
use Rattle.call_change.proofs.UpdateLaws.{leaf_full_lem, landed}
use Rattle.std.specs.Prelude.{Option, Some, None}
use Rattle.walk.proofs.DescentLaws.{landing_at}
use Rattle.walk.specs.declared.Landing.{Landing}

-- ---- the next change is what is laid out

module _ (card : List ℕ) (free : List Bool) (last : ℕ) where
  insert_laid : (key value m link : ℕ) (reason : Reason)
      → insert_change key value free last m link (node_at card m) reason ≡ laid_first card (insert_decided key value m link reason) free last
  unfolding insert_change placed insert_answer lay_out
  insert_laid key value m link (held v) = refl
  insert_laid key value m link (slot i) = refl
  insert_laid key value m link full = refl

  delete_laid : (key m : ℕ) (found : Option ℕ) → delete_change key free last m (node_at card m) found ≡ laid_first card (delete_decided key m (node_at card m) found) free last
  unfolding delete_change delete_decided lay_out
  delete_laid key m (Some i) = refl
  delete_laid key m None = refl

  insert_laid_at : (doing : Doing) (key value : ℕ) (l : Option Landing)
      → in_leaf card doing (insert_in key value free last) l ≡ laid_first card (decided_in card doing (insert_at key value) l) free last
  unfolding in_leaf no_way decided_in lay_out
  insert_laid_at doing key value None = refl
  insert_laid_at doing key value (Some l) = insert_laid key value l.node l.link (insert_reason (node_at card l.node) key)

  delete_laid_at : (doing : Doing) (key : ℕ) (l : Option Landing)
      → in_leaf card doing (delete_in key free last) l ≡ laid_first card (decided_in card doing (delete_at key) l) free last
  unfolding in_leaf no_way decided_in lay_out
  delete_laid_at doing key None = refl
  delete_laid_at doing key (Some l) = delete_laid key l.node (slot_of (node_at card l.node) key)

  pub next_decided : (n : ℕ) (doing : Doing) (task : Task) → next_change card n free last doing task ≡ laid_first card (decided card n doing task) free last
  unfolding next_change decided next_repair
  next_decided n doing (PutIn key value) = insert_laid_at doing key value (landing card n key)
  next_decided n doing (TakeOut key) = delete_laid_at doing key (landing card n key)
  next_decided n doing (Repair key answer) = refl

-- ---- and it can be laid out

module _ (card : List ℕ) (m : ℕ) (at : LeafAt card m) where
  leaf_words : length (node_at card m) ≡ 24
  leaf_words = length_node card m at.on.pos at.on.fits

  placed_empty : (key value link : ℕ) → link < 2 ^ 32 → (found : Option ℕ) → slot_of (node_at card m) 0 ≡ found → Fits card (placed key value m link (empty_reason found))
  unfolding placed empty_reason Fits
  placed_empty key value link l (Some i) e = (at, slot_below (node_at card m) 0 i leaf_words e)
  placed_empty key value link l None e = (at, l, leaf_full_lem (node_at card m) leaf_words e)

  placed_fits : (key value link : ℕ) → link < 2 ^ 32 → (found : Option ℕ) → Fits card (placed key value m link (reason_in (node_at card m) found))
  unfolding placed reason_in Fits
  placed_fits key value link l (Some i) = tt
  placed_fits key value link l None = placed_empty key value link l (slot_of (node_at card m) 0) refl

  cleared_fits : (key : ℕ) (found : Option ℕ) → slot_of (node_at card m) key ≡ found → Fits card (delete_decided key m (node_at card m) found).decision
  unfolding delete_decided Fits
  cleared_fits key (Some i) e = (at, slot_below (node_at card m) key i leaf_words e)
  cleared_fits key None e = tt

module _ (greatest : ℕ) (card : List ℕ) (n : ℕ) (fits : Sized greatest (length card) n) where
  leaf_at : (key m link run : ℕ) → landing card n key ≡ landing_at m link run → LeafAt card m
  leaf_at key m link run e =
      let k = landed greatest card n key m link run fits e in
      record { on = record { pos = k.inside.one; fits = omega (arith, k.inside.most, fits.words) }; most = omega (arith, k.inside.most, fits.most) }

  insert_fits : (doing : Doing) (key value : ℕ) (l : Option Landing) → landing card n key ≡ l → Fits card (decided_in card doing (insert_at key value) l).decision
  unfolding decided_in insert_reason Fits
  insert_fits doing key value None e = tt
  insert_fits doing key value (Some l) e =
      placed_fits card l.node (leaf_at key l.node l.link l.run e) key value l.link (landed greatest card n key l.node l.link l.run fits e).linked
      (slot_of (node_at card l.node) key)

  delete_fits : (doing : Doing) (key : ℕ) (l : Option Landing) → landing card n key ≡ l → Fits card (decided_in card doing (delete_at key) l).decision
  unfolding decided_in Fits
  delete_fits doing key None e = tt
  delete_fits doing key (Some l) e = cleared_fits card l.node (leaf_at key l.node l.link l.run e) key (slot_of (node_at card l.node) key) refl

  pub decided_fits : (doing : Doing) (task : Task) → Fits card (decided card n doing task).decision
  unfolding decided
  decided_fits doing (PutIn key value) = insert_fits doing key value (landing card n key) refl
  decided_fits doing (TakeOut key) = delete_fits doing key (landing card n key) refl
  decided_fits doing (Repair key answer) = repair_fits card n key fits.words fits.most
