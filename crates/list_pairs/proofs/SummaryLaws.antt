-- Laws of what is answered: one for each branch of the code.
use mathlib.Core.Path.{◌≡◌, refl}
use mathlib.Core.List.{List}
use mathlib.Core.Option.{some}
use Prim.Native.Nat.{ℕ}
use lib.ListN.{length}
use borrow.Author.Tests.{ne_eqb}
use Rattle.card.specs.Header.{nodes_of_length}
use Rattle.card_dump.specs.Dump.{dump_words, read_answer}
use Rattle.card_dump.specs.Answer.{Length, Refused as ReadRefused}
use Rattle.card_free.specs.NodeSet.{count_true}
use Rattle.card_check.specs.Check.{Findings, table_check}
use Rattle.card_check.specs.Counting.{table_counted}
use Rattle.call_open.specs.Opening.{open_of}
use Rattle.state.specs.Begun.{Begun}
use Rattle.state.specs.Begun.{Idle, Started, Refused}
use Rattle.call_repair.specs.Repairing.{opened_card}
use Rattle.walk_next.specs.Successor.{walk_from}
use Rattle.list_pairs.specs.Listing.{most_pairs, refused, listed, list_checked, list_table, list_begun, list_card, list_read, list_dump}

-- ---- a table

module _ (greatest : ℕ) (card : List ℕ) (n : ℕ) where
  pub table_sound : (h : ℕ) (f : Findings) → (n ≡ 0 → ⊥) → table_check card n ≡ some (h, f)
      → list_table greatest card n
      ≡ listed (record { nodes = n; free = count_true f.free; levels = h; families = table_counted card; pairs = walk_from greatest 1 most_pairs card 0 })
  unfolding list_table list_checked
  table_sound h f d e = rw (ne_eqb n 0 d, e)

-- ---- a card, by what opening answers

module _ (greatest : ℕ) (card : List ℕ) where
  pub card_refused : (r : ℕ) → (open_of greatest card).begun ≡ Refused r → list_card greatest card ≡ refused r
  unfolding list_card list_begun
  card_refused r e = rw e

  -- where opening does not refuse
  pub card_listed : ((r : ℕ) → (open_of greatest card).begun ≡ Refused r → ⊥) → list_card greatest card ≡ list_table greatest (opened_card greatest card).card (nodes_of_length greatest (length card))
  unfolding list_card list_begun
  card_listed opens = go (open_of greatest card).begun opens
    where
      go : (b : Begun) → ((r : ℕ) → b ≡ Refused r → ⊥) → list_begun greatest card b ≡ list_table greatest (opened_card greatest card).card (nodes_of_length greatest (length card))
      go Idle f = refl
      go Started f = refl
      go (Refused r) f = absurd (f r refl)

-- ---- a dump

module _ (greatest : ℕ) (dump : List ℕ) (lent : ℕ) where
  pub dump_refused : (r : ℕ) → read_answer greatest dump lent ≡ ReadRefused r → list_dump greatest dump lent ≡ refused r
  unfolding list_dump list_read
  dump_refused r e = rw e

  pub dump_read : (size : ℕ) → read_answer greatest dump lent ≡ Length size → list_dump greatest dump lent ≡ list_card greatest (dump_words size dump)
  unfolding list_dump list_read
  dump_read size e = rw e
