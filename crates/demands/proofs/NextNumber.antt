-- Document 02, W-201: the table's call `next`, which `walk_next::next_pair` is.
use mathlib.Core.Path.{◌≡◌, refl, ap, sym, ◌∙◌}
use mathlib.Core.List.{List, [], ◌∷◌}
use mathlib.Core.Logic.{inl, inr}
use Prim.Native.Nat.{ℕ, zero, suc, ◌<◌}
use native.Mathlib.Omega.{arith}
use lib.ListN.{length}
use Rattle.demands.specs.Book.{Book}
use Rattle.demands.specs.Events.{World}
use Rattle.demands.specs.Way.{nodes_on}
use Rattle.demands.specs.Refusals.{ByRows, card_rows, end}
use Rattle.demands.specs.W201.{AnswersNext, HeldTo, Rises, Walks, Walked, OnAnyCard, W201, ends, goes_on}
use Rattle.demands.specs.RationTable.{ration_table}
use Rattle.demands.proofs.PowerCuts.{Covered, always}
use Rattle.demands.proofs.FirstRows.{by_card, card_one}
use Rattle.card.specs.Header.{card_refusal}
use Rattle.card.specs.Layout.{lowest_key, key_limit}
use Rattle.card.specs.Replies.{refusal}
use Rattle.demands.proofs.PowerLoss.{map_is}
use Rattle.demands.proofs.Reopen.{length_accepted, card_accepted, table_well_formed}
use Rattle.theory_check.proofs.Ranges.{well_formed_in_range}
use Rattle.walk_next.proofs.SuccessorLaws.{next_refused}
use Rattle.walk_next.specs.Successor.{next_of, on_next, walk_from, next_reply}
use Rattle.walk_next.specs.Next.{Pair, Nothing, Refused}
use Rattle.walk_next.specs.Next.{Successor}
use Rattle.theory_next.proofs.AnyCard.{AboveOrNine, next_above}
use Rattle.theory_next.proofs.IsNext.{IsNext}
use Rattle.theory_next.proofs.Lookups.{found_in_range}
use Rattle.theory_next.proofs.Next.{next_right}
use Rattle.theory_next.proofs.Walk.{walk_rises, walk_lookup, walk_length}
use Rattle.theory_tree.proofs.Sorted.{Rising}
use Rattle.theory_tree.specs.Pairs.{pairs, lookup}
use Rattle.theory_tree.specs.Tree.{Tree}
use Rattle.theory_tree.specs.WellFormed.{WellFormed}

-- ---- the answer's numbers

answered : (l ps : List (ℕ × ℕ)) → ((key : ℕ) → lookup key ps ≡ lookup key l) → (number : ℕ) (s : Successor) → IsNext ps number s → AnswersNext l number (next_reply s)
unfolding next_reply
answered l ps same number (Pair key value) i =
    inl (key, value, record { greater = i.0; held = sym (same key) ∙ i.1; smallest = λ k a b. sym (same k) ∙ i.2 k (omega arith) b }, refl)
answered l ps same number Nothing i = inr (λ k a. sym (same k) ∙ i k a, refl)
answered l ps same number (Refused r) i = absurd i

held : (number : ℕ) (s : Successor) → AboveOrNine number s → HeldTo number (next_reply s)
unfolding next_reply
held number (Pair key value) a = inl (key, value, a, refl)
held number Nothing a = inr (inl refl)
held number (Refused r) a = inr (inr (ap (λ (x : ℕ). refusal x) a))

-- ---- the walk

pub rises : (number hi : ℕ) (l : List (ℕ × ℕ)) → Rising (suc number) hi l → Rises number l
rises number hi [] r = tt
rises number hi (p ∷ l) r = (omega (arith, r.0), rises p.0 hi l r.1)

module _ (greatest : ℕ) (c : List ℕ) (t : Tree) (w : WellFormed c t) (e : card_refusal greatest c ≡ 0) where
  -- a walk that ends before it may not go further has come to "none"
  walked_out : (most number : ℕ) → number < key_limit → length (walk_from greatest 1 most c number) < most → Walks (ration_table greatest) c number (walk_from greatest 1 most c number)
  unfolding walk_from on_next next_reply
  walked_out zero number h l = absurd (omega arith)
  walked_out (suc most) number h l = go (next_of greatest 1 c number) refl (next_right greatest c t number w e h) l (walked_out most)
    where
      go : (s : Successor) → next_of greatest 1 c number ≡ s → IsNext (pairs t) number s → length (on_next (walk_from greatest 1 most c) s) < suc most
          → ((k : ℕ) → k < key_limit → length (walk_from greatest 1 most c k) < most → Walks (ration_table greatest) c k (walk_from greatest 1 most c k))
          → Walks (ration_table greatest) c number (on_next (walk_from greatest 1 most c) s)
      go (Pair k v) q i l further = goes_on k v (ap next_reply q) (further k (found_in_range lowest_key key_limit k v t (well_formed_in_range w) i.1).1 (omega arith))
      go Nothing q i l further = ends (ap next_reply q)
      go (Refused r) q i l further = absurd i

  walked : (l : List (ℕ × ℕ)) → ((key : ℕ) → lookup key (pairs t) ≡ lookup key l) → length (pairs t) ≡ length l → Walked (ration_table greatest) c l
  walked l same as_many =
      let most = suc (length (pairs t)) in
      record {
        listed = walk_from greatest 1 most c 0;
        walk = walked_out most 0 (omega arith) (omega (arith, walk_length greatest c t w e most (omega arith)));
        rising = rises 0 key_limit (walk_from greatest 1 most c 0) (walk_rises greatest c t w e most);
        alike = λ key. walk_lookup greatest c t w e most (omega arith) key ∙ same key;
        as_many = walk_length greatest c t w e most (omega arith) ∙ as_many;
      }

-- ---- every card

on_any_card : (greatest : ℕ) (c : List ℕ) → card_refusal greatest c ≡ 0 → OnAnyCard (ration_table greatest) c
on_any_card greatest c e =
    record {
      held_to = λ number. held number (next_of greatest 1 c number) (next_above greatest c number e);
      exact = λ t w number h. answered (pairs t) (pairs t) (λ key. refl) number (next_of greatest 1 c number) (next_right greatest c t number w e h);
      walks = λ t w. walked greatest c t w e (pairs t) (λ key. refl) refl;
    }

refused : (greatest : ℕ) (c : List ℕ) (r : ℕ) → card_refusal greatest c ≡ r → (r ≡ 0 → ⊥) → (number : ℕ) → (ration_table greatest).next c number ≡ refusal r
unfolding next_reply
refused greatest c r e d number = rw (next_refused greatest 1 c number (λ z. d (sym e ∙ z)), e)

cards : (greatest : ℕ) (c : List ℕ) → ByRows (card_rows greatest c (nodes_on c) end) (λ r. (number : ℕ) → (ration_table greatest).next c number ≡ refusal r) (OnAnyCard (ration_table greatest) c)
unfolding ByRows
cards greatest c =
    by_card greatest end (λ r. (number : ℕ) → (ration_table greatest).next c number ≡ refusal r) (OnAnyCard (ration_table greatest) c) c (nodes_on c)
    (λ p. refused greatest c 1 (card_one greatest c p) (λ z. omega (arith, z)))
    (λ r s e d. refused greatest c r (length_accepted greatest c (nodes_on c) s ∙ e) d)
    (λ s f. on_any_card greatest c (card_accepted greatest s f).0)

-- ---- every moment

module _ (greatest : ℕ) (w : World (ration_table greatest)) (b : Book) (v : Covered greatest w b) where
  same_pairs : (key : ℕ) → lookup key (pairs v.inv.tree) ≡ lookup key b.held
  same_pairs key = (map_is greatest v.inv).alike key

  as_many_pairs : length (pairs v.inv.tree) ≡ length b.held
  as_many_pairs = (map_is greatest v.inv).as_many

  accepted : card_refusal greatest w.card ≡ 0
  accepted = (card_accepted greatest v.inv.table.sized v.inv.table.header).0

  moment : (number : ℕ) → number < key_limit → AnswersNext b.held number ((ration_table greatest).next w.card number)
  moment number h =
      answered b.held (pairs v.inv.tree) same_pairs number (next_of greatest 1 w.card number)
      (next_right greatest w.card v.inv.tree number (table_well_formed greatest v.inv.table) accepted h)

  walk_now : Walked (ration_table greatest) w.card b.held
  walk_now = walked greatest w.card v.inv.tree (table_well_formed greatest v.inv.table) accepted b.held same_pairs as_many_pairs

pub w_201 : (greatest : ℕ) → W201 greatest (ration_table greatest)
w_201 greatest =
    record {
      moments = always greatest (λ w b. (number : ℕ) → number < key_limit → AnswersNext b.held number ((ration_table greatest).next w.card number)) (moment greatest);
      walks = always greatest (λ w b. Walked (ration_table greatest) w.card b.held) (walk_now greatest);
      cards = cards greatest;
    }
