-- Stores in a leaf that is in the tree: a value, a key, a key taken out.
use mathlib.Core.Path.{◌≡◌, refl, ap}
use mathlib.Core.List.{List, [], ◌∷◌}
use Prim.Native.Nat.{ℕ, zero, suc, ◌+◌, ◌≤◌, ◌<◌}
use native.Mathlib.Omega.{arith}
use lib.ListN.{length, set, get_or, length-set}
use lib.Seq.{get_or-set_other}
use Rattle.card.specs.Layout.{place, slot_pairs}
use Rattle.card.proofs.NodeWords.{node_words_high, node_words_low, keeps_node}
use Rattle.laws.specs.Totals.{indicator, total}
use Rattle.laws.proofs.Totals.{indicator_same}
use Rattle.theory_tree.proofs.Pairs.{slot_pairs_key}
use Rattle.theory_tree.specs.Represent.{Represents, Holds}
use Rattle.theory_tree.proofs.Represent.{frame_context, plugged, unplugged}
use Rattle.theory_tree.specs.Tree.{node_total, leaf}
use Rattle.theory_tree.proofs.Tree.{Context, plug, total_plug}

-- a store in word x of the leaf m turns it into the leaf with ks', vs'
placed : (c : List ℕ) (C : Context) (m x v : ℕ) (ks vs ks' vs' : List ℕ) → x < 24 → ((i : ℕ) → node_total (indicator i) (plug C (leaf m ks vs)) ≤ 1) → Holds c (plug C (leaf m ks vs))
    → (Represents c (leaf m ks vs) → Represents (set c (place m x) v) (leaf m ks' vs')) → Holds (set c (place m x) v) (plug C (leaf m ks' vs'))
placed c C m x v ks vs ks' vs' hx d w f =
    let u = unplugged c C (leaf m ks vs) w in
    let hm = u.1.0.on.pos in
    plugged (set c (place m x) v) C (leaf m ks' vs')
    (frame_context c _ (indicator m) (keeps_node c m x v hm hx) (get_or-set_other c (place m x) 4 v 0 (omega arith)) (simp length-set) C m
    (omega (arith, total_plug (indicator m) C (leaf m ks vs), d m, indicator_same m)) u.0)
    (f u.1)

pub value_stored : (c : List ℕ) (C : Context) (m i v : ℕ) (ks vs : List ℕ) → i < 11
    → ((j : ℕ) → node_total (indicator j) (plug C (leaf m ks vs)) ≤ 1) → Holds c (plug C (leaf m ks vs))
    → Holds (set c (place m (12 + i)) v) (plug C (leaf m ks (set vs i v)))
value_stored c C m i v ks vs hi d w = placed c C m (12 + i) v ks vs ks (set vs i v) (omega arith) d w (λ r. (node_words_high c m i v hi (omega (arith, r.2)) r.0, r.1, simp length-set r.2))

pub key_stored : (c : List ℕ) (C : Context) (m i v : ℕ) (ks vs : List ℕ) → i < 11
    → ((j : ℕ) → node_total (indicator j) (plug C (leaf m ks vs)) ≤ 1) → Holds c (plug C (leaf m ks vs))
    → Holds (set c (place m (1 + i)) v) (plug C (leaf m (set ks i v) vs))
key_stored c C m i v ks vs hi d w = placed c C m (1 + i) v ks vs (set ks i v) vs (omega arith) d w (λ r. (node_words_low c m i v hi (omega (arith, r.1)) r.0, simp length-set r.1, r.2))

-- a key taken out of its slot
pub slot_pairs_out : (w : ℕ × ℕ → ℕ) (ks vs : List ℕ) (i k : ℕ) → i < length ks → length ks ≡ length vs → get_or ks i 0 ≡ k → 0 < k
    → total w (slot_pairs ks vs) ≡ w (k, get_or vs i 0) + total w (slot_pairs (set ks i 0) vs)
slot_pairs_out w [] vs i k h n e p = absurd (omega arith)
slot_pairs_out w (x ∷ ks) [] i k h n e p = absurd (omega arith)
slot_pairs_out w (zero ∷ ks) (v ∷ vs) zero k h n e p = absurd (omega arith)
slot_pairs_out w (suc x ∷ ks) (v ∷ vs) zero k h n e p = ap (λ (z : ℕ). w (z, v) + total w (slot_pairs ks vs)) e
slot_pairs_out w (zero ∷ ks) (v ∷ vs) (suc i) k h n e p = slot_pairs_out w ks vs i k (omega arith) (omega arith) e p
slot_pairs_out w (suc x ∷ ks) (v ∷ vs) (suc i) k h n e p = omega (arith, slot_pairs_out w ks vs i k (omega arith) (omega arith) e p)

-- a key put into an empty slot
pub slot_pairs_in : (w : ℕ × ℕ → ℕ) (ks vs : List ℕ) (i k : ℕ) → get_or ks i 0 ≡ 0 → i < length ks → length ks ≡ length vs → 0 < k
    → total w (slot_pairs (set ks i k) vs) ≡ w (k, get_or vs i 0) + total w (slot_pairs ks vs)
slot_pairs_in w ks vs i zero e h n p = absurd (omega arith)
slot_pairs_in w ks vs i (suc k) e h n p = slot_pairs_key w ks vs i k e h n

-- a length is a total of ones
pub length_total : {A : Type 0} (l : List A) → length l ≡ total (λ a. 1) l
length_total [] = refl
length_total (x ∷ l) = omega (arith, length_total l)
