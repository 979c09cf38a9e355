-- Laws of the text: a turn of the loops over the pairs and over the families, and what `list_pairs::list_dump` hands over.
use mathlib.Core.Path.{◌≡◌, refl, ap, ap₂, ◌∙◌}
use mathlib.Core.List.{List, [], ◌∷◌, ◌++◌}
use Prim.Native.Nat.{ℕ, zero, suc, ◌+◌, ◌-◌, ◌*◌, ◌/◌, ◌^◌, ◌≤◌, ◌<◌}
use native.Mathlib.Omega.{arith}
use native.Mathlib.Numerals.{add-one}
use lib.ListN.{length, get_or, set, take, drop, length-append, length-drop, length-set, length-replicate}
use lib.Seq.{drop-cons, drop-drop, get_or-drop, get_or-take, length-take-le}
use Rattle.std.specs.Simd.{first_chunks}
use borrow.Author.Tests.{lt-ltb, le-ltb, eq-eqb, ne_eqb}
use lib.Dec.{eqb}
use Rattle.laws.proofs.Cases.{order, bool_cases}
use Rattle.card_family.specs.Families.{family_count}
use Rattle.list_pairs.specs.Listing.{Listed, refused, listed, list_dump, Laid, laid, lay_pair, lay_pairs, lay_listed}
use Rattle.list_pairs.specs.Summaries.{Summary, summarized, summary_of}
use Rattle.list_text.specs.Text.{
  space,
  family_word,
  first_line,
  pair_line,
  pair_lines,
  family_line,
  family_shown,
  family_lines_from,
  family_lines,
  list_text,
  pairs_of_words,
  listing_told,
  pair_room,
  zeros,
  listing_handed,
}
use Rattle.call_repair.specs.Repairing.{card_room}
use Rattle.text_row.specs.Lines.{decimal, line_feed, refusal_line}
use Rattle.text_row.proofs.DecimalLaws.{word_short}
use Rattle.text_row.specs.Filling.{filled, fill}
use Rattle.text_row.proofs.FillingLaws.{fill_append}

-- a pair's line
pub pair_short : (key value : ℕ) → key < 2 ^ 32 → value < 2 ^ 32 → length (pair_line key value) ≤ 22
unfolding pair_line space line_feed
pair_short key value k v =
    omega (
      arith,
      length-append (decimal key ++ (space ++ decimal value)) line_feed,
      length-append (decimal key) (space ++ decimal value),
      length-append space (decimal value),
      word_short key k,
      word_short value v,
    )

-- ---- the pairs in a slice of words

pairs_next : (words : List ℕ) (i : ℕ) → i + 1 < length words → pairs_of_words (drop i words) ≡ (get_or words i 0, get_or words (i + 1) 0) ∷ pairs_of_words (drop (i + 2) words)
unfolding pairs_of_words
pairs_next words i h =
    let e : i + 2 ≡ suc (suc i) = omega arith in
    rw (drop-cons words i 0 (omega arith), drop-cons words (suc i) 0 (omega arith), add-one i, e)

pairs_end : (words : List ℕ) (i : ℕ) → length words ≤ i + 1 → pairs_of_words (drop i words) ≡ []
unfolding pairs_of_words
pairs_end words i h = few (drop i words) (omega (arith, length-drop i words))
  where
    few : (ws : List ℕ) → length ws ≤ 1 → pairs_of_words ws ≡ []
    few [] l = refl
    few (key ∷ []) l = refl
    few (key ∷ value ∷ ws) l = absurd (omega arith)

-- the words in twos
two_at : (n i : ℕ) (words : List ℕ) → i < n → get_or (first_chunks 2 n words) i [] ≡ take 2 (drop (2 * i) words)
two_at zero i words h = absurd (omega arith)
two_at (suc n) zero words h = refl
two_at (suc n) (suc i) words h =
    two_at n i (drop 2 words) (omega arith)
    ∙ ap (take 2) (drop-drop (2 * i) 2 words ∙ ap (λ (k : ℕ). drop k words) (let z : 2 + 2 * i ≡ 2 * suc i = omega arith in z))

pub two_words : (words : List ℕ) (twos : List (List ℕ)) (i : ℕ) → twos ≡ first_chunks 2 (length words / 2) words → i < length words / 2
    → (get_or (get_or twos i []) 0 0 ≡ get_or words (2 * i) 0) × (get_or (get_or twos i []) 1 0 ≡ get_or words (2 * i + 1) 0)
two_words words twos i e h =
    let two : get_or twos i [] ≡ take 2 (drop (2 * i) words) = ap (λ (l : List (List ℕ)). get_or l i []) e ∙ two_at (length words / 2) i words h in (
      ap (λ (l : List ℕ). get_or l 0 0) two ∙ get_or-take 2 (drop (2 * i) words) 0 0 (omega arith) ∙ get_or-drop (2 * i) words 0 0
          ∙ ap (λ (k : ℕ). get_or words k 0) (let z : 2 * i + 0 ≡ 2 * i = omega arith in z),
      ap (λ (l : List ℕ). get_or l 1 0) two ∙ get_or-take 2 (drop (2 * i) words) 1 0 (omega arith) ∙ get_or-drop (2 * i) words 1 0,
    )

pub lines_next : (words : List ℕ) (i at : ℕ) (row : List ℕ) {r : ℕ} {after : List ℕ} → i + 1 < length words
    → filled r after ≡ fill (pair_line (get_or words i 0) (get_or words (i + 1) 0)) (filled at row)
    → fill (pair_lines (pairs_of_words (drop i words))) (filled at row) ≡ fill (pair_lines (pairs_of_words (drop (i + 2) words))) (filled r after)
unfolding pair_lines
lines_next words i at row h e =
    rw (pairs_next words i h, e) (fill_append (pair_line (get_or words i 0) (get_or words (i + 1) 0)) (pair_lines (pairs_of_words (drop (i + 2) words))) (filled at row))

pub lines_end : (words : List ℕ) (i at : ℕ) (row : List ℕ) → length words ≤ i + 1 → fill (pair_lines (pairs_of_words (drop i words))) (filled at row) ≡ filled at row
unfolding pair_lines fill
lines_end words i at row h = rw (pairs_end words i h)

count_pairs : (words : List ℕ) → length (pairs_of_words words) ≡ length words / 2
unfolding pairs_of_words
count_pairs [] = omega arith
count_pairs (key ∷ []) = omega arith
count_pairs (key ∷ value ∷ words) = omega (arith, count_pairs words)

-- ---- the families

-- a family's line
pub family_short : (f n : ℕ) → f < 2 ^ 32 → n < 2 ^ 32 → length (family_shown f n) ≤ 29
unfolding family_shown family_line family_word
family_short f n h k =
    bool_cases (eqb n 0) (λ e. rw e (omega arith)) (λ e. rw e (omega (arith, length-append family_word (pair_line f n), pair_short f n h k)))

module _ (f n : ℕ) where
  pub family_hidden : n ≡ 0 → family_shown f n ≡ []
  unfolding family_shown
  family_hidden e = rw (eq-eqb n 0 e)

  pub nothing_put : (at : ℕ) (row : List ℕ) → n ≡ 0 → filled at row ≡ fill (family_shown f n) (filled at row)
  unfolding fill
  nothing_put at row e = rw (family_hidden e)

  pub family_shown_lem : (n ≡ 0 → ⊥) → family_shown f n ≡ family_line f n
  unfolding family_shown
  family_shown_lem d = rw (ne_eqb n 0 d)

module _ (totals : List ℕ) (i at : ℕ) (row : List ℕ) where
  pub families_next : {r : ℕ} {after : List ℕ} → i < family_count → filled r after ≡ fill (family_shown i (get_or totals i 0)) (filled at row)
      → fill (family_lines_from i (family_count - i) totals) (filled at row) ≡ fill (family_lines_from (i + 1) (family_count - (i + 1)) totals) (filled r after)
  unfolding family_lines_from
  families_next h e =
      let left : family_count - i ≡ suc (family_count - (i + 1)) = omega arith in
      rw (left, add-one i, e) (fill_append (family_shown i (get_or totals i 0)) (family_lines_from (suc i) (family_count - suc i) totals) (filled at row))

  pub families_end : family_count ≤ i → fill (family_lines_from i (family_count - i) totals) (filled at row) ≡ filled at row
  unfolding family_lines_from fill
  families_end h = let none_left : family_count - i ≡ 0 = omega arith in rw none_left

-- ---- what is handed over

-- the words of a summary lie inside the words lent
pair_length : (p : ℕ × ℕ) (l : Laid) → length (lay_pair p l).words ≡ length l.words
unfolding lay_pair
pair_length p l =
    order (l.at + 1) (length l.words) (λ h. rw (lt-ltb (l.at + 1) (length l.words) h) (length-set (set l.words l.at p.0) (l.at + 1) p.1 ∙ length-set l.words l.at p.0))
    (λ h. rw (le-ltb (l.at + 1) (length l.words) h))

pair_within : (p : ℕ × ℕ) (l : Laid) → l.at ≤ length l.words → (lay_pair p l).at ≤ length (lay_pair p l).words
unfolding lay_pair
pair_within p l h = rw (pair_length p l) inside
  where
    inside : (lay_pair p l).at ≤ length l.words
    inside = order (l.at + 1) (length l.words) (λ k. rw (lt-ltb (l.at + 1) (length l.words) k) (omega arith)) (λ k. rw (le-ltb (l.at + 1) (length l.words) k) h)

lay_within : (ps : List (ℕ × ℕ)) (l : Laid) → l.at ≤ length l.words → (lay_pairs ps l).at ≤ length l.words
unfolding lay_pairs
lay_within [] l h = h
lay_within (p ∷ ps) l h = rw (pair_length p l) at (lay_within ps (lay_pair p l) (pair_within p l h))

words_within : (l : Listed) (lent : List ℕ) → (summary_of l lent).words ≤ length lent
unfolding summary_of summarized lay_listed
words_within (refused number) lent = omega arith
words_within (listed l) lent = lay_within l.pairs (laid 0 lent) (omega arith)

module _ (s : Summary) (words : List ℕ) where
  pub told_refused : (s.refusal ≡ 0 → ⊥) → refusal_line s.refusal ≡ list_text (listing_told s words)
  unfolding listing_told list_text
  told_refused d = rw (ne_eqb s.refusal 0 d)

  pub told_listed : s.refusal ≡ 0 → s.words ≤ length words
      → first_line s.nodes s.free s.levels (s.words / 2) ++ family_lines s.families ++ pair_lines (pairs_of_words (take s.words words))
      ≡ list_text (listing_told s words)
  unfolding listing_told list_text
  told_listed e h =
      let count : length (pairs_of_words (take s.words words)) ≡ s.words / 2 = count_pairs (take s.words words) ∙ ap (λ (n : ℕ). n / 2) (length-take-le s.words words h) in
      rw (eq-eqb s.refusal 0 e, count)

-- the call of `list_pairs::list_dump` on rows of zeros
module _ (greatest : ℕ) (dump : List ℕ) (s : Summary) (e : s ≡ summary_of (list_dump greatest dump (length (zeros (card_room greatest)))) (zeros (pair_room greatest))) where
  pub handed_is : (after : List ℕ)
      → after ≡ (lay_listed (list_dump greatest dump (length (zeros (card_room greatest)))) (zeros (pair_room greatest))).words
      → listing_told s after ≡ listing_handed greatest dump
  unfolding listing_handed
  handed_is after w =
      let size : length (zeros (card_room greatest)) ≡ card_room greatest = length-replicate {A = ℕ} (card_room greatest) 0 in
      ap₂ listing_told (e ∙ ap (λ (k : ℕ). summary_of (list_dump greatest dump k) (zeros (pair_room greatest))) size)
      (w ∙ ap (λ (k : ℕ). (lay_listed (list_dump greatest dump k) (zeros (pair_room greatest))).words) size)

  pub words_fit : s.words ≤ pair_room greatest
  words_fit =
      omega (
        arith,
        ap (λ (x : Summary). x.words) e,
        words_within (list_dump greatest dump (length (zeros (card_room greatest)))) (zeros (pair_room greatest)),
        length-replicate {A = ℕ} (pair_room greatest) 0,
      )
