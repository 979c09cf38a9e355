-- The stores of a change, one after the other, each with the tree that the card then holds: every store but the last leaves a
-- sound table with the same pairs that can be opened; the last one puts the next tree there.
use mathlib.Core.Path.{◌≡◌, refl}
use mathlib.Core.List.{List, [], ◌∷◌, ◌++◌}
use mathlib.Core.Bool.{Bool, false}
use mathlib.Core.Logic.{inr}
use Prim.Native.Nat.{ℕ, ◌<◌}
use native.Mathlib.Omega.{arith}
use lib.ListN.{length, set, length-set}
use Rattle.card.specs.NodeWords.{OnCard}
use Rattle.card.proofs.NodeWords.{on_card_set}
use Rattle.card.specs.Stores.{Store}
use Rattle.card.proofs.Stores.{play, Within, done, also}
use Rattle.change_plan.specs.Planning.{with_all}
use Rattle.theory_change.proofs.Line.{Line, Partition, Own}
use Rattle.theory_change.proofs.Repaired.{Mendable, Pending}
use Rattle.theory_change.proofs.Rewritten.{Sound}
use Rattle.laws.specs.Totals.{indicator, total}
use Rattle.theory_shapes.proofs.Bare.{bare}
use Rattle.theory_shapes.proofs.Next.{repaired_by}
use Rattle.theory_tree.specs.Pairs.{pairs}
use Rattle.theory_tree.proofs.Replace.{holds_frame}
use Rattle.theory_tree.specs.Represent.{Holds}
use Rattle.theory_tree.specs.Tree.{Tree, node_total}

-- what opening must find: nodes enough below the limit, and where the violation is
pub record Openable (limit : ℕ) (t : Tree) : Type 0 where
  pub key : ℕ
  pub deep : ℕ
  pub ready : Mendable key limit t deep

-- a place on the card that is the root's number or in a node that the other line's tree has not
pub record Storable (line : Line) (c : List ℕ) (p : ℕ) : Type 0 where
  pub inside : p < length c
  pub own : Own line p

pub data Plays (line : Line) (next : Tree) : List ℕ → Tree → List Store → Type 0 where
  last_store : {c : List ℕ} {t : Tree} {p v : ℕ} → Storable line c p → Holds (set c p v) next → Plays line next c t ((p, v) ∷ [])
  store_then : {c : List ℕ} {t : Tree} {p v : ℕ} {s : Store} {rest : List Store} (u : Tree) → Storable line c p → Holds (set c p v) u → Sound u
      → Openable line.limit u → ((w : ℕ × ℕ → ℕ) → total w (pairs u) ≡ total w (pairs t))
      → ((i : ℕ) → node_total (indicator i) u ≡ node_total (indicator i) t) → Plays line next (set c p v) u (s ∷ rest)
      → Plays line next c t ((p, v) ∷ s ∷ rest)

-- stores in nodes that the tree has not, and then the link
pub writes_play : (line : Line) (next t : Tree) (w : ℕ → ℕ) (link value : ℕ) → Sound t → Openable line.limit t → node_total w t ≡ 0
    → Own line link → ((i : ℕ) → 0 < w i → total (indicator i) line.others ≡ 0) → (writes : List Store) (c : List ℕ) → Within w writes → Holds c t
    → ((i : ℕ) → 0 < w i → OnCard c i)
    → link < length c → Holds (set (play writes c) link value) next → Plays line next c t (writes ++ (link, value) ∷ [])
writes_play line next t w link value s o z a f [] c h b on l e = last_store (record { inside = l; own = a }) e
writes_play line next t w link value s o z a f (x ∷ writes) c h b on l e =
    first writes (within_one h) (writes_play line next t w link value s o z a f writes (set c x.0 x.1) (within_one h).1 kept
    (λ i q. on_card_set c x.0 x.1 i (on i q)) (rw (length-set c x.0 x.1) l) e)
  where
    within_one : {y : Store} {P : List Store} → Within w (y ∷ P) → Within w (y ∷ []) × Within w P × Storable line c y.0
    within_one (also i j v p q hi hj hw r) = (
      also i j v p q hi hj hw done,
      r,
      record {
        inside = omega (arith, (on i hw).fits, (on i hw).pos);
        own = inr (record { number = i; word = j; pos = hi; few = hj; is = q; own = f i hw });
      },
    )

    kept : Holds (set c x.0 x.1) t
    kept = holds_frame (within_one h).0 c t z b

    first : (P : List Store) → Within w (x ∷ []) × Within w P × Storable line c x.0 → Plays line next (set c x.0 x.1) t (P ++ (link, value) ∷ [])
        → Plays line next c t (x ∷ P ++ (link, value) ∷ [])
    first [] q r = store_then t q.2 kept s o (λ v. refl) (λ i. refl) r
    first (y ∷ P) q r = store_then t q.2 kept s o (λ v. refl) (λ i. refl) r

-- The change in hand: the stores still to come, and what holds of the tree that the last of them puts there.
pub record Changing (c : List ℕ) (line : Line) (key : ℕ) (t : Tree) (rest : List Store) (free : List Bool) (cut : List ℕ) : Type 0 where
  pub next : Tree
  pub plays : Plays line next c t rest
  pub sound : Sound next
  pub exact : Partition line (with_all cut free) next
  pub level : ℕ
  pub ready : Mendable key line.limit next level

-- a repair's change is one that keeps the pairs and comes nearer to the root
pub pending_changing : {c : List ℕ} {line : Line} {key : ℕ} {t : Tree} {rest : List Store} {free : List Bool} {cut : List ℕ} {deep : ℕ}
    → Holds c t → Sound t → Openable line.limit t → (p : Pending c line key t rest free cut deep)
    → (q : Changing c line key t rest free cut) × ((w : ℕ × ℕ → ℕ) → total w (pairs q.next) ≡ total w (pairs t)) × (q.level < deep) × (bare q.next ≡ repaired_by false (bare t))
pending_changing {c} {line} {key} {t} h s o p = (
  record {
    next = p.next;
    plays = rw p.is_rest (writes_play line p.next t p.weight p.link p.value s o p.fresh p.link_own p.own p.writes c p.inside h p.on_card_lem p.link_inside p.holds);
    sound = p.sound;
    exact = p.exact;
    level = p.level;
    ready = p.ready;
  },
  p.same_pairs,
  p.falls,
  p.shaped,
)
