-- Document 02, W-204: what the last store of a change does to the totals. That of a first change puts the update's pair in or takes it out;
-- that of a repair leaves the pairs as they are.
use mathlib.Core.Path.{◌≡◌, refl}
use mathlib.Core.List.{List}
use mathlib.Core.Option.{Option, some}
use Prim.Native.Nat.{ℕ, ◌^◌, ◌<◌}
use native.Mathlib.Omega.{arith}
use lib.ListN.{length}
use Rattle.card_family.proofs.FamilyLaws.{Totals, totals_in, totals_out}
use Rattle.state.specs.Memory.{settled_in, settled_out, settled_totals}
use Rattle.state.specs.Answer.{Answer}
use Rattle.state.specs.declared.Doing.{Doing}
use Rattle.state.specs.declared.Phase.TheVariants.{InHand, Decided}
use Rattle.state.proofs.Tasks.{in_hand_lem, decided}
use Rattle.theory_check.proofs.Depth.{well_formed_size}
use Rattle.theory_check.proofs.Rations.{pairs_le}
use Rattle.theory_tree.specs.Pairs.{pairs}
use Rattle.theory_tree.specs.Tree.{Tree}
use Rattle.demands.specs.Book.{Update}
use Rattle.demands.proofs.BookLaws.{Changes}
use Rattle.demands.proofs.Invariant.{Table, Job, job_repair, job_insert, job_delete}
use Rattle.demands.proofs.Reopen.{table_well_formed}

-- no card has so many pairs that a total leaves its word
pub few_pairs_lem : (greatest : ℕ) {c : List ℕ} {n : ℕ} {t : Tree} → Table greatest c n t → length (pairs t) < 2 ^ 32
few_pairs_lem greatest {c} {n} {t} b =
    let w = table_well_formed greatest b in
    omega (arith, pairs_le c t b.holds.2, well_formed_size c n b.sized.words t w, b.sized.most)

pub decided_totals : {doing : Doing} {key : ℕ} {due : Answer} {u : Option Update} → Job Decided doing key due u → (totals : List ℕ) → settled_totals doing totals ≡ totals
unfolding settled_totals settled_in settled_out
decided_totals job_repair totals = refl
decided_totals (job_insert decided) totals = refl
decided_totals (job_delete decided) totals = refl

pub changed_totals : {doing : Doing} {key : ℕ} {due : Answer} {u : Update} → Job InHand doing key due (some u) → (totals : List ℕ) (a b : List (ℕ × ℕ))
    → length a < 2 ^ 32 → length b < 2 ^ 32 → Changes u a b → Totals totals a → Totals (settled_totals doing totals) b
unfolding settled_totals settled_in settled_out
changed_totals (job_insert {key = key} {value = value} in_hand_lem) totals a b few_before few_after e k =
    totals_in key value (omega (arith, e.key_small)) totals a b k e.by_one few_after
changed_totals (job_delete {key = key} in_hand_lem) totals a b few_before few_after e k =
    totals_out key e.by_one.0 (omega (arith, e.key_small)) totals a b k e.by_one.1 few_before
