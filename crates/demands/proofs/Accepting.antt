-- What a card that opens shows: its header, its table, that it can be opened again; and what a find answers on a table.
use mathlib.Core.Path.{◌≡◌, refl, ap, subst, ◌∙◌}
use mathlib.Core.Logic.{inl, inr}
use mathlib.Core.List.{List}
use mathlib.Core.Bool.{true, false}
use mathlib.Core.Option.{Option as Maybe, none, some}
use Prim.Native.Nat.{ℕ, ◌+◌, ◌≤◌, ◌<◌}
use native.Mathlib.Omega.{arith}
use native.Mathlib.Decide.{ℕ_discrete}
use lib.ListN.{length}
use borrow.Author.Tests.{ne_eqb, eq-eqb, le-ltb}
use Rattle.call_find.proofs.FindLaws.{find_only}
use Rattle.theory_change.proofs.Line.{size, partition_only, count_only}
use Rattle.demands.proofs.BookLaws.{dictionary_answer}
use Rattle.call_find.specs.Answers.{found_reply}
use Rattle.state.specs.Answers.{step_reply, start_reply}
use Rattle.call_find.specs.Find.{found_in, found_at, find_of}
use Rattle.call_open.specs.Opening.{open_sound, open_checked, open_of}
use Rattle.call_open.proofs.OpeningLaws.{open_unrefused, open_scarce}
use Rattle.state.specs.Memory.{resting}
use Rattle.state.specs.Steps.{Handed, no_beginning}
use Rattle.card.specs.Header.{nodes_of_length, card_refusal, Sized, Formatted}
use Rattle.card.proofs.HeaderLaws.{nodes_sized, header_formatted}
use Rattle.card.specs.Layout.{lowest_key, key_limit, node_at, search_start}
use Rattle.theory_change.proofs.Plays.{Openable}
use Rattle.theory_change.proofs.Repaired.{settled, violated}
use Rattle.walk.specs.Descent.{slot_of, way, leaf_of}
use Rattle.theory_walk.proofs.Find.{slot_answer}
use Rattle.theory_walk.proofs.Landing.{landing_found}
use Rattle.card_free.specs.NodeSet.{count_true}
use Rattle.laws.proofs.Bits.{bit_true, bit_false}
use Rattle.laws.proofs.Cases.{bool_cases, order}
use Rattle.demands.proofs.Invariant.{Table}
use Rattle.demands.proofs.AnswerNumbers.{SmallBegun, open_small}
use Rattle.demands.proofs.ReplyLaws.{code_of}
use Rattle.demands.specs.Events.{Opens}
use Rattle.demands.specs.RationTable.{ration_table}
use Rattle.state.specs.Begun.{Begun}
use Rattle.state.specs.Begun.{Idle as OpenedIdle, Started, Refused as BegunRefused}
use Rattle.demands.proofs.Reopen.{table_depth_limited, card_accepted, facts_exact}
use Rattle.card_check.specs.Check.{Findings, table_check}
use Rattle.card_check.specs.Counting.{table_counted}
use Rattle.theory_check.proofs.Facts.{Facts}
use Rattle.theory_check.proofs.Soundness.{accepts_sound, sound_accepted}
use Rattle.theory_tree.specs.Pairs.{pairs, lookup}
use Rattle.theory_tree.proofs.Path.{depth_of}
use Rattle.theory_tree.specs.Tree.{Tree}
use Rattle.theory_tree.specs.WellFormed.{WellFormed}
use Rattle.std.specs.Prelude.{Option, Some, None}
use Rattle.walk.specs.declared.Reached.{Reached}

-- the reply of an opening tells whether it refused
small_refused : (b : Begun) (r : ℕ) → SmallBegun b → b ≡ BegunRefused r → (start_reply b).code < 64
unfolding start_reply
small_refused b r s e = let z : r < 64 = subst (λ x. SmallBegun x) e s in rw e z

pub not_refused : (greatest : ℕ) (c : List ℕ) → Opens (ration_table greatest) c → (r : ℕ) → (open_of greatest c).begun ≡ BegunRefused r → ⊥
unfolding start_reply
not_refused greatest c o r e = at (small_refused (open_of greatest c).begun r (open_small greatest c) e) o
  where
    at : (start_reply (open_of greatest c).begun).code < 64 → Opens (ration_table greatest) c → ⊥
    at h (inl z) = omega (arith, h, code_of z)
    at h (inr z) = omega (arith, h, code_of z)

pub opens_unrefused : (greatest : ℕ) (c : List ℕ) → ((r : ℕ) → (open_of greatest c).begun ≡ BegunRefused r → ⊥) → Opens (ration_table greatest) c
unfolding start_reply
opens_unrefused greatest c f = at (open_of greatest c).begun refl
  where
    at : (b : Begun) → (open_of greatest c).begun ≡ b → Opens (ration_table greatest) c
    at OpenedIdle e = inl (ap start_reply e)
    at Started e = inr (ap start_reply e)
    at (BegunRefused r) e = absurd (f r e)

refuses : (greatest : ℕ) (c : List ℕ) (r : ℕ) → open_of greatest c ≡ no_beginning r → Opens (ration_table greatest) c → ⊥
unfolding no_beginning
refuses greatest c r e a = not_refused greatest c a r (rw e)

pub accepted_card : (greatest : ℕ) (c : List ℕ) → Opens (ration_table greatest) c → (card_refusal greatest c ≡ 0)
    × Sized greatest (length c) (nodes_of_length greatest (length c)) × Formatted c (nodes_of_length greatest (length c))
unfolding open_of card_refusal
accepted_card greatest c a = go (ℕ_discrete (card_refusal greatest c) 0) (ℕ_discrete (nodes_of_length greatest (length c)) 0)
  where
    go : Dec (card_refusal greatest c ≡ 0) → Dec (nodes_of_length greatest (length c) ≡ 0) → (card_refusal greatest c ≡ 0)
        × Sized greatest (length c) (nodes_of_length greatest (length c)) × Formatted c (nodes_of_length greatest (length c))
    go (no d) q = absurd (refuses greatest c (card_refusal greatest c) (rw (ne_eqb (card_refusal greatest c) 0 d)) a)
    go (yes e) (yes z) = let k : ◌≡◌ {A = ℕ} 1 0 = rw (eq-eqb (nodes_of_length greatest (length c)) 0 z) at e in absurd (omega arith)
    go (yes e) (no d) = (e, nodes_sized greatest (length c) d, header_formatted c (nodes_of_length greatest (length c)) (rw (ne_eqb (nodes_of_length greatest (length c)) 0 d) at e))

open_some : (n last : ℕ) (totals : List ℕ) (h : ℕ) (f : Findings) → open_checked n last totals (some (h, f)) ≡ open_sound n last totals f
unfolding open_checked
open_some n last totals h f = refl

pub accepted_table : (greatest : ℕ) (c : List ℕ) → Opens (ration_table greatest) c → (t : Tree) × WellFormed c t
unfolding open_checked
accepted_table greatest c a = go (table_check c (nodes_of_length greatest (length c))) refl
  where
    k : (card_refusal greatest c ≡ 0) × Sized greatest (length c) (nodes_of_length greatest (length c)) × Formatted c (nodes_of_length greatest (length c))
    k = accepted_card greatest c a

    go : (x : Maybe (ℕ × Findings)) → table_check c (nodes_of_length greatest (length c)) ≡ x → (t : Tree) × WellFormed c t
    go none e = absurd (refuses greatest c 4 (open_unrefused greatest c k.0 ∙ rw e) a)
    go (some r) e = let s = accepts_sound c (nodes_of_length greatest (length c)) k.1.words k.1.most r.0 r.1 e in (s.0, s.1)

-- the root is then taken for the node given last
resting_last : (n last : ℕ) (totals : List ℕ) (f : Findings) → 3 + f.run ≤ count_true f.free → (open_sound n last totals f).memory.last ≡ last
unfolding open_sound resting
resting_last n last totals f room = bool_cases f.violated (λ q. rw (le-ltb (count_true f.free) (3 + f.run) room, q)) (λ q. rw (le-ltb (count_true f.free) (3 + f.run) room, q))

pub accepted_start : (greatest : ℕ) (c : List ℕ) → Opens (ration_table greatest) c → (open_of greatest c).memory.last ≡ search_start c
unfolding open_checked
accepted_start greatest c a = go (table_check c (nodes_of_length greatest (length c))) refl
  where
    k : (card_refusal greatest c ≡ 0) × Sized greatest (length c) (nodes_of_length greatest (length c)) × Formatted c (nodes_of_length greatest (length c))
    k = accepted_card greatest c a

    go : (x : Maybe (ℕ × Findings)) → table_check c (nodes_of_length greatest (length c)) ≡ x → (open_of greatest c).memory.last ≡ search_start c
    go none e = absurd (refuses greatest c 4 (open_unrefused greatest c k.0 ∙ rw e) a)
    go (some (h, f)) e =
        let is : open_of greatest c ≡ open_sound (nodes_of_length greatest (length c)) (search_start c) (table_counted c) f = open_unrefused greatest c k.0 ∙ rw e in
        order (count_true f.free) (3 + f.run)
        (λ o. absurd (refuses greatest c 5 (is ∙ open_scarce (nodes_of_length greatest (length c)) (search_start c) (table_counted c) f o) a))
        (λ o. ap (λ (x : Handed). x.memory.last) is ∙ resting_last (nodes_of_length greatest (length c)) (search_start c) (table_counted c) f o)

-- the table of a card that opens can be opened again
pub accepted_openable : (greatest : ℕ) (c : List ℕ) (t : Tree) → Opens (ration_table greatest) c → WellFormed c t → Openable (nodes_of_length greatest (length c)) t
accepted_openable greatest c t a w = go (sound_accepted c (nodes_of_length greatest (length c)) k.1.words k.1.most t w)
  where
    k : (card_refusal greatest c ≡ 0) × Sized greatest (length c) (nodes_of_length greatest (length c)) × Formatted c (nodes_of_length greatest (length c))
    k = accepted_card greatest c a

    go : ((h : ℕ) × (f : Findings) × (table_check c (nodes_of_length greatest (length c)) ≡ some (h, f))
        × Facts c (nodes_of_length greatest (length c)) t h f) → Openable (nodes_of_length greatest (length c)) t
    go (h, f, e, x) = bool_cases f.violated broken whole
      where
        room : 3 + f.run ≤ count_true f.free
        room =
            order (count_true f.free) (3 + f.run)
            (λ o. absurd (refuses greatest c 5 (open_unrefused greatest c k.0 ∙ ap (open_checked (nodes_of_length greatest (length c)) (search_start c) (table_counted c)) e
            ∙ open_some (nodes_of_length greatest (length c)) (search_start c) (table_counted c) h f
            ∙ open_scarce (nodes_of_length greatest (length c)) (search_start c) (table_counted c) f o) a)) (λ o. o)

        counted : count_true f.free + size t ≡ nodes_of_length greatest (length c)
        counted =
            count_only (nodes_of_length greatest (length c)) f.free t
            (partition_only c (nodes_of_length greatest (length c)) f.free t k.1.words w.holds.2 (facts_exact x)) (omega (arith, k.1.most))

        broken : f.violated ≡ true → Openable (nodes_of_length greatest (length c)) t
        broken q =
            let v = x.violation q in
            record {
              key = f.key;
              deep = depth_of v.0.context;
              ready = violated v.0 (omega (arith, x.violated, bit_true f.violated q)) (omega (arith, room, v.1, counted));
            }

        whole : f.violated ≡ false → Openable (nodes_of_length greatest (length c)) t
        whole q = record { key = f.key; deep = 0; ready = settled (omega (arith, x.violated, bit_false f.violated q)) (omega (arith, room, counted)) }

-- ---- finds

find_is : (greatest : ℕ) (c : List ℕ) (n key : ℕ) → card_refusal greatest c ≡ 0 → nodes_of_length greatest (length c) ≡ n → 0 < key → find_of greatest 1 c key ≡ found_at c key (leaf_of (way c n key))
find_is greatest c n key e en h = find_only greatest c key e (omega arith) ∙ ap (λ (m : ℕ). found_at c key (leaf_of (way c m key))) en

found_is : (words : List ℕ) (s : Option ℕ) → found_reply (found_in words s) ≡ step_reply (dictionary_answer (slot_answer words s))
unfolding found_in slot_answer found_reply step_reply dictionary_answer
found_is words (Some i) = refl
found_is words None = refl

pub find_answers : (greatest : ℕ) (c : List ℕ) (n : ℕ) (t : Tree) (key : ℕ) → Table greatest c n t → 0 < key → key < key_limit
    → found_reply (find_of greatest 1 c key) ≡ step_reply (dictionary_answer (lookup key (pairs t)))
unfolding found_at
find_answers greatest c n t key b h l =
    let a = card_accepted greatest b.sized b.header in
    let f = landing_found c n key b.sized.words lowest_key key_limit t b.holds b.sound.range (omega arith) l h (table_depth_limited greatest b) in
    ap found_reply (find_is greatest c n key a.0 a.1 h)
    ∙ ap (λ (x : Option Reached). found_reply (found_at c key x)) f.reached
    ∙ found_is (node_at c f.number) (slot_of (node_at c f.number) key)
    ∙ ap (λ (x : Maybe ℕ). step_reply (dictionary_answer x)) f.answers
