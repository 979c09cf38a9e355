-- Laws of the refusals and of the answers: when each is due, and what an answer tells its caller.
use mathlib.Core.Path.{◌≡◌, refl, sym, ap, ◌∙◌}
use mathlib.Core.Bool.{Bool, true, false, not}
use mathlib.Core.List.{List, [], ◌∷◌, ◌++◌}
use Prim.Native.Nat.{ℕ, zero, suc, ◌*◌, ◌%◌, ◌≤◌, ◌<◌}
use native.Mathlib.Omega.{arith}
use native.Mathlib.Decide.{dec_lt, ℕ_discrete}
use lib.ListN.{length, get_or, drop}
use borrow.Author.Tests.{lt-ltb, le-ltb, ltb-false, eq-eqb, ne_eqb, eqb-true, not-false}
use Rattle.laws.proofs.Cases.{bool_cases, impossible}
use Rattle.laws.specs.Lists.{all_zero}
use Rattle.card.specs.Layout.{least_nodes, greatest_nodes, limited}
use Rattle.card.specs.Refusals.{number}
use Rattle.card.specs.declared.refusal.Refusal.{Refusal}
use Rattle.card.specs.Header.{nodes_of_length, card_refusal, Sized, Formatted}
use Rattle.card.proofs.HeaderLaws.{limited_most, limited_within, within_limited, nodes_sized, header_formatted, card_no_length, card_header}
use Rattle.card_dump.specs.Dump.{padded_length, dump_of, dump_words, words_for, greatest_dump, dump_nodes, faults, any, damaged}
use Rattle.card_dump.specs.Dump.{fitting_length, lent_after, read_answer, read_over, write_answer, write_over}
use Rattle.card_dump.specs.Answer.{Answer}
use Rattle.card_dump.specs.Answer.{Length, Refused}

-- ---- the padded length

pub padded_covers : (words : ℕ) → 4 * words ≤ padded_length words
unfolding padded_length
padded_covers words = omega arith

pub padded_whole : (words : ℕ) → padded_length words % 512 ≡ 0
unfolding padded_length
padded_whole words = omega arith

pub padded_most : (greatest : ℕ) (words : ℕ) → words ≤ words_for (limited greatest) → padded_length words ≤ greatest_dump greatest
unfolding padded_length
padded_most greatest words h = omega arith

-- "or above 57,856": no dump is longer than that of the greatest card that there is
pub greatest_dump_lem : (greatest : ℕ) → greatest_dump greatest ≤ greatest_dump greatest_nodes
unfolding padded_length
greatest_dump_lem greatest = omega (arith, limited_most greatest)

-- ---- refusal 11

any_one : (ts : List Bool) (k : ℕ) → get_or ts k false ≡ true → any ts ≡ true
any_one [] k e = e
any_one (true ∷ ts) k e = refl
any_one (false ∷ ts) zero e = absurd (impossible (cc))
any_one (false ∷ ts) (suc k) e = any_one ts k e

any_none : (ts : List Bool) (k : ℕ) → any ts ≡ false → get_or ts k false ≡ false
any_none [] k e = refl
any_none (true ∷ ts) k e = absurd (impossible (cc))
any_none (false ∷ ts) zero e = refl
any_none (false ∷ ts) (suc k) e = any_none ts k e

-- any one of the faults is enough
module _ (greatest : ℕ) (dump : List ℕ) where
  pub damaged_empty : length dump ≡ 0 → damaged greatest dump ≡ true
  unfolding damaged faults
  damaged_empty h = any_one (faults greatest dump) 0 (eq-eqb _ _ h)

  pub damaged_odd : (length dump % 512 ≡ 0 → ⊥) → damaged greatest dump ≡ true
  unfolding damaged faults
  damaged_odd h = any_one (faults greatest dump) 1 (ap not (ne_eqb _ _ h))

  pub damaged_long : greatest_dump greatest < length dump → damaged greatest dump ≡ true
  unfolding damaged faults
  damaged_long h = any_one (faults greatest dump) 2 (lt-ltb _ _ h)

  pub damaged_few : dump_nodes dump < least_nodes → damaged greatest dump ≡ true
  unfolding damaged faults
  damaged_few h = any_one (faults greatest dump) 3 (lt-ltb _ _ h)

  pub damaged_many : limited greatest < dump_nodes dump → damaged greatest dump ≡ true
  unfolding damaged faults
  damaged_many h = any_one (faults greatest dump) 4 (lt-ltb _ _ h)

  pub damaged_length : (padded_length (words_for (dump_nodes dump)) ≡ length dump → ⊥) → damaged greatest dump ≡ true
  unfolding damaged faults
  damaged_length h = any_one (faults greatest dump) 5 (ap not (ne_eqb _ _ h))

  pub damaged_padding : all_zero (drop (4 * words_for (dump_nodes dump)) dump) ≡ false → damaged greatest dump ≡ true
  unfolding damaged faults
  damaged_padding h = any_one (faults greatest dump) 6 (ap not h)

-- a dump that is not refused with 11
pub record Whole (greatest : ℕ) (dump : List ℕ) : Type 0 where
  pub least : least_nodes ≤ dump_nodes dump
  pub most : dump_nodes dump ≤ greatest_nodes
  pub within : dump_nodes dump ≤ greatest
  pub padded : padded_length (words_for (dump_nodes dump)) ≡ length dump
  pub zeros : all_zero (drop (4 * words_for (dump_nodes dump)) dump) ≡ true

pub undamaged_whole : (greatest : ℕ) (dump : List ℕ) → damaged greatest dump ≡ false → Whole greatest dump
unfolding damaged faults
undamaged_whole greatest dump e =
    let few : dump_nodes dump ≤ limited greatest = ltb-false _ _ (any_none (faults greatest dump) 4 e) in record {
      least = ltb-false _ _ (any_none (faults greatest dump) 3 e);
      most = omega (arith, few, limited_most greatest);
      within = omega (arith, few, limited_within greatest);
      padded = eqb-true _ _ (not-false _ (any_none (faults greatest dump) 5 e));
      zeros = not-false _ (any_none (faults greatest dump) 6 e);
    }

pub whole_covers : {greatest : ℕ} {dump : List ℕ} → Whole greatest dump → 4 * words_for (dump_nodes dump) ≤ length dump
whole_covers {dump = dump} w = omega (arith, padded_covers (words_for (dump_nodes dump)), w.padded)

-- the first three tests follow from the others
pub whole_undamaged : (greatest : ℕ) (dump : List ℕ) → Whole greatest dump → damaged greatest dump ≡ false
unfolding damaged faults
whole_undamaged greatest dump w =
    let covers = whole_covers w in
    let whole = padded_whole (words_for (dump_nodes dump)) in
    let most = padded_most greatest (words_for (dump_nodes dump)) (omega (arith, within_limited greatest _ w.within w.most)) in
    simp (
      ne_eqb (length dump) 0 (λ e. omega (arith, w.padded)),
      eq-eqb (length dump % 512) 0 (ap (λ (k : ℕ). k % 512) (sym w.padded) ∙ whole),
      le-ltb (greatest_dump greatest) (length dump) (omega (arith, w.padded)),
      le-ltb (dump_nodes dump) least_nodes w.least,
      le-ltb (limited greatest) (dump_nodes dump) (within_limited greatest _ w.within w.most),
      eq-eqb (padded_length (words_for (dump_nodes dump))) (length dump) w.padded,
      w.zeros,
    )

-- past the other tests the padding decides
pub padding_decides : (greatest : ℕ) (dump : List ℕ) → least_nodes ≤ dump_nodes dump → dump_nodes dump ≤ limited greatest
    → padded_length (words_for (dump_nodes dump)) ≡ length dump
    → (z : Bool) → z ≡ all_zero (drop (4 * words_for (dump_nodes dump)) dump) → not z ≡ damaged greatest dump
padding_decides greatest dump l m p true e =
    sym (whole_undamaged greatest dump (record { least = l; most = omega (arith, limited_most greatest); within = omega (arith, limited_within greatest); padded = p; zeros = sym e }))
padding_decides greatest dump l m p false e = sym (damaged_padding greatest dump (sym e))

-- ---- refusals 1, 2, 3 and 12

-- a card that is not refused
pub record Good (greatest : ℕ) (card : List ℕ) : Type 0 where
  pub sized : Sized greatest (length card) (nodes_of_length greatest (length card))
  pub header : Formatted card (nodes_of_length greatest (length card))

pub good_card : (greatest : ℕ) (card : List ℕ) → card_refusal greatest card ≡ 0 → Good greatest card
good_card greatest card e = go (ℕ_discrete (nodes_of_length greatest (length card)) 0)
  where
    go : Dec (nodes_of_length greatest (length card) ≡ 0) → Good greatest card
    go (yes z) = absurd (omega (arith, card_no_length greatest card _ refl z))
    go (no z) = record { sized = nodes_sized greatest (length card) z; header = header_formatted card _ (sym (card_header greatest card _ refl z) ∙ e) }

pub room_short : (size lent : ℕ) → lent < size → fitting_length size lent ≡ Refused 12
unfolding fitting_length
room_short size lent h = simp (lt-ltb lent size h)

pub room_long : (size lent : ℕ) → size ≤ lent → fitting_length size lent ≡ Length size
unfolding fitting_length
room_long size lent h = simp (le-ltb lent size h)

room_length : (size lent n : ℕ) → fitting_length size lent ≡ Length n → (n ≡ size) × (n ≤ lent)
room_length size lent n e = go (dec_lt lent size)
  where
    go : Dec (lent < size) → (n ≡ size) × (n ≤ lent)
    go (yes h) = let w = room_short size lent h in impossible (cc)
    go (no h) =
        let w = room_long size lent (omega arith) in
        let same : n ≡ size = cc in
        (same, omega arith)

-- ---- reading

module _ (greatest : ℕ) (dump : List ℕ) (lent : ℕ) where
  pub read_damaged : damaged greatest dump ≡ true → read_answer greatest dump lent ≡ Refused 11
  unfolding read_answer
  read_damaged h = rw h

  pub read_whole : damaged greatest dump ≡ false → read_answer greatest dump lent ≡ fitting_length (words_for (dump_nodes dump)) lent
  unfolding read_answer
  read_whole h = rw h

-- what the lent words become, from the answer
read_stores : (greatest : ℕ) (dump words : List ℕ) (a : Answer) → read_answer greatest dump (length words) ≡ a
    → read_over greatest dump words ≡ lent_after a (dump_words (words_for (dump_nodes dump)) dump) words
unfolding read_over
read_stores greatest dump words a e = ap (λ (x : Answer). lent_after x (dump_words (words_for (dump_nodes dump)) dump) words) e

-- a dump that is read is whole, and its result is a card's length and fits
pub record Read (greatest : ℕ) (dump : List ℕ) (lent n : ℕ) : Type 0 where
  pub whole : Whole greatest dump
  pub sized : Sized greatest n (dump_nodes dump)
  pub room : n ≤ lent

pub read_sized : (greatest : ℕ) (dump : List ℕ) (lent n : ℕ) → read_answer greatest dump lent ≡ Length n → Read greatest dump lent n
read_sized greatest dump lent n e =
    bool_cases (damaged greatest dump)
    (λ h. let w = read_damaged greatest dump lent h in impossible (cc))
    (λ h.
    let w = undamaged_whole greatest dump h in
    let r = room_length _ lent n (sym (read_whole greatest dump lent h) ∙ e) in
    record { whole = w; sized = record { words = r.0; least = w.least; most = w.most; within = w.within }; room = r.1 })

-- the lent words then begin with those of the dump; refused, they are as they were
module _ (greatest : ℕ) (dump words : List ℕ) where
  pub read_words : (n : ℕ) → read_answer greatest dump (length words) ≡ Length n → read_over greatest dump words ≡ dump_words n dump ++ drop n words
  read_words n e =
      read_stores greatest dump words (Length n) e
      ∙ ap (λ (k : ℕ). dump_words k dump ++ drop n words) (sym (read_sized greatest dump (length words) n e).sized.words)

  pub read_refused : (r : ℕ) → read_answer greatest dump (length words) ≡ Refused r → read_over greatest dump words ≡ words
  read_refused r e = read_stores greatest dump words (Refused r) e

-- ---- writing

-- a refusal's number is not 0
pub refusal_some : (r : Refusal) → number r ≡ 0 → ⊥
refusal_some r e = grind arith

module _ (greatest : ℕ) (card : List ℕ) (lent : ℕ) where
  pub write_refuses : (r : ℕ) → card_refusal greatest card ≡ r → (r ≡ 0 → ⊥) → write_answer greatest card lent ≡ Refused r
  unfolding write_answer
  write_refuses r e h = rw (ne_eqb (card_refusal greatest card) 0 (λ z. h (sym e ∙ z))) (ap Refused e)

  pub write_good : card_refusal greatest card ≡ 0 → write_answer greatest card lent ≡ fitting_length (padded_length (length card)) lent
  unfolding write_answer
  write_good e = simp (eq-eqb (card_refusal greatest card) 0 e)

-- what the lent bytes become, from the answer
write_stores : (greatest : ℕ) (card bytes : List ℕ) (a : Answer) → write_answer greatest card (length bytes) ≡ a → write_over greatest card bytes ≡ lent_after a (dump_of card) bytes
unfolding write_over
write_stores greatest card bytes a e = ap (λ (x : Answer). lent_after x (dump_of card) bytes) e

-- a card that is written is a formatted one, and its dump fits
pub record Written (greatest : ℕ) (card : List ℕ) (lent n : ℕ) : Type 0 where
  pub good : Good greatest card
  pub size : n ≡ padded_length (length card)
  pub room : n ≤ lent

pub write_sized : (greatest : ℕ) (card : List ℕ) (lent n : ℕ) → write_answer greatest card lent ≡ Length n → Written greatest card lent n
write_sized greatest card lent n e = go (ℕ_discrete (card_refusal greatest card) 0)
  where
    go : Dec (card_refusal greatest card ≡ 0) → Written greatest card lent n
    go (no h) = let w = write_refuses greatest card lent (card_refusal greatest card) refl h in impossible (cc)
    go (yes h) =
        let r = room_length _ lent n (sym (write_good greatest card lent h) ∙ e) in
        record { good = good_card greatest card h; size = r.0; room = r.1 }

-- the lent bytes then begin with the dump; refused, they are as they were
module _ (greatest : ℕ) (card bytes : List ℕ) where
  pub write_bytes : (n : ℕ) → write_answer greatest card (length bytes) ≡ Length n → write_over greatest card bytes ≡ dump_of card ++ drop n bytes
  write_bytes n e = write_stores greatest card bytes (Length n) e

  pub write_refused : (r : ℕ) → write_answer greatest card (length bytes) ≡ Refused r → write_over greatest card bytes ≡ bytes
  write_refused r e = write_stores greatest card bytes (Refused r) e
