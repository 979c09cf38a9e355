-- The words of the block with a change planned and its first store made, as StepWords has them.
use mathlib.Core.Path.{◌≡◌, refl, sym, ap, ap₂, ◌∙◌}
use mathlib.Core.Bool.{Bool}
use mathlib.Core.List.{List, [], ◌∷◌, ◌++◌}
use Prim.Native.Nat.{ℕ, suc, ◌+◌, ◌-◌, ◌≤◌}
use native.Mathlib.Omega.{arith}
use lib.ListN.{length, get_or, set, take, drop, replicate, length-append, length-replicate, length-set}
use lib.Seq.{take_at, drop_at, drop-drop}
use Rattle.laws.specs.Lists.{pad, before_zero}
use Rattle.card.specs.Stores.{Store}
use Rattle.card_family.specs.Families.{family_count}
use Rattle.card_free.specs.NodeSet.{capacity, word_count, nodes_of}
use Rattle.change_plan.specs.Planning.{with_all}
use Rattle.state.specs.Memory.{Memory, settled_phase, settled, settled_totals, advanced}
use Rattle.state.specs.Block.{depth_at, free_at, places_at, totals_at, values_at, state_words, block_word, part, memory_in, phase_word, doing_words}
use Rattle.state.specs.Blocks.{over, words_of}
use Rattle.state.specs.declared.Doing.{Doing}
use Rattle.state.specs.declared.Doing.TheVariants.{Idle, Formatting, Inserting, Deleting, Repairing}
use Rattle.state.specs.declared.Phase.TheVariants.{NotBegun, InHand, Decided}
use Rattle.state.proofs.Blocks.{by_head, nodes_words, length_words}
use Rattle.call_step.specs.Calls.{planning}
use Rattle.call_step.specs.StepBlocks.{settled_word, totalled, played_block, at_front, planned_block}
use Rattle.call_step.specs.StepWords.{hand_words, first_words}
use Rattle.call_step.proofs.StepBlockLaws.{Plannable, planned_length, memory_planned}
use Rattle.call_step.proofs.PlayLaws.{totals_again}

-- a store of the change in hand
pub hand_words_lem : (b : List ℕ) (rest : List Store)
    → played_block b (suc (block_word b 6)) rest ≡ hand_words b (advanced (memory_in b) rest) (advanced (memory_in b) rest).rest
unfolding played_block hand_words advanced memory_in
hand_words_lem b [] = refl
hand_words_lem b (s ∷ rest) = refl

-- the totals do not go by how many stores are made
one_made : (x : List ℕ) → 11 ≤ length x → part (set x 6 1) totals_at family_count ≡ (memory_in x).totals
unfolding memory_in
one_made x k = by_head (λ (y : List ℕ). part (set y 6 1) totals_at family_count ≡ (memory_in y).totals) x k (λ a b c d e f g i j q m rest. refl)

-- the first eight words, by what is being done
module _ (n last : ℕ) (more : List ℕ) where
  abbrev block : Doing → ℕ → List ℕ
  block doing made = n ∷ last ∷ doing_words doing ++ (made ∷ more)

  made_one : (doing : Doing) → set (block doing 0) 6 1 ≡ block doing 1
  unfolding doing_words
  made_one Idle = refl
  made_one (Formatting made) = refl
  made_one (Inserting key value phase) = refl
  made_one (Deleting key phase value) = refl
  made_one (Repairing key) = refl

  made_last : (doing : Doing) → set (set (block doing 0) 6 1) 5 (settled_word (block_word (block doing 0) 5)) ≡ block (settled doing) 1
  unfolding doing_words settled settled_phase phase_word
  made_last Idle = refl
  made_last (Formatting made) = refl
  made_last (Inserting key value NotBegun) = refl
  made_last (Inserting key value InHand) = refl
  made_last (Inserting key value Decided) = refl
  made_last (Deleting key NotBegun value) = refl
  made_last (Deleting key InHand value) = refl
  made_last (Deleting key Decided value) = refl
  made_last (Repairing key) = refl

  after_seven : (doing : Doing) (made : ℕ) → drop 7 (block doing made) ≡ more
  unfolding doing_words
  after_seven Idle made = refl
  after_seven (Formatting k) made = refl
  after_seven (Inserting key value phase) made = refl
  after_seven (Deleting key phase value) made = refl
  after_seven (Repairing key) made = refl

before_eight : (n last count : ℕ) (more : List ℕ) (doing : Doing) (made : ℕ)
    → take 8 (block n last (count ∷ more) doing made) ≡ block n last (count ∷ []) doing made
unfolding doing_words
before_eight n last count more Idle made = refl
before_eight n last count more (Formatting k) made = refl
before_eight n last count more (Inserting key value phase) made = refl
before_eight n last count more (Deleting key phase value) made = refl
before_eight n last count more (Repairing key) made = refl

joined : (n last count : ℕ) (more : List ℕ) (doing : Doing) (made : ℕ)
    → block n last (count ∷ []) doing made ++ more ≡ block n last (count ∷ more) doing made
unfolding doing_words
joined n last count more Idle made = refl
joined n last count more (Formatting k) made = refl
joined n last count more (Inserting key value phase) made = refl
joined n last count more (Deleting key phase value) made = refl
joined n last count more (Repairing key) made = refl

-- three words, those of the free nodes, and the rows
module _ (cut free rows : List ℕ) (lc : length cut ≡ 3) (lf : length free ≡ word_count) where
  abbrev tail : List ℕ
  tail = cut ++ (free ++ rows)

  tail_cut : take 3 tail ≡ cut
  tail_cut = take_at cut (free ++ rows) 3 lc

  tail_free : take word_count (drop 3 tail) ≡ free
  tail_free = ap (take word_count) (drop_at cut (free ++ rows) 3 lc) ∙ take_at free rows word_count lf

  tail_rows : drop (3 + word_count) tail ≡ rows
  tail_rows = sym (drop-drop word_count 3 tail) ∙ ap (drop word_count) (drop_at cut (free ++ rows) 3 lc) ∙ drop_at free rows word_count lf

module _ (b : List ℕ) (doing : Doing) (free : List Bool) (last : ℕ) (cut : List ℕ) where
  cut_long : length cut ≤ 3 → length (pad 3 cut) ≡ 3
  cut_long h = omega (arith, length-append cut (replicate (3 - length cut) 0), length-replicate {A = ℕ} (3 - length cut) 0)

  -- the only store of a change
  module _ (rows : List ℕ) (few : length cut ≤ 3) (readable : before_zero (pad 3 cut) ≡ cut) (full : length free ≡ capacity) where
    abbrev n : ℕ
    n = block_word b 0

    abbrev words : List ℕ
    words = words_of word_count free

    abbrev more : List ℕ
    more = pad 3 cut ++ (words ++ rows)

    abbrev before : List ℕ
    before = block n last (1 ∷ more) doing 0

    cut_read : part before 8 3 ≡ pad 3 cut
    cut_read =
        ap (take 3) (sym (drop-drop 1 7 before) ∙ ap (drop 1) (after_seven n last (1 ∷ more) doing 0))
        ∙ tail_cut (pad 3 cut) words rows (cut_long few) (length_words word_count free)

    free_read : part before free_at word_count ≡ words
    free_read =
        ap (take word_count) (sym (drop-drop 4 7 before) ∙ ap (drop 4) (after_seven n last (1 ∷ more) doing 0))
        ∙ tail_free (pad 3 cut) words rows (cut_long few) (length_words word_count free)

    abbrev after : List Bool
    after = with_all cut free

    freed : with_all (before_zero (part before 8 3)) (nodes_of (part before free_at word_count)) ≡ after
    freed =
        ap₂ (λ (c f : List ℕ). with_all (before_zero c) (nodes_of f)) cut_read free_read
        ∙ ap₂ (λ (c : List ℕ) (f : List Bool). with_all c f) readable (nodes_words word_count free full)

    over_three : (bits : List ℕ) → length bits ≡ word_count → (made : Doing)
        → over (block n last (1 ∷ more) made 1) 8 (0 ∷ 0 ∷ 0 ∷ bits) ≡ block n last (1 ∷ (0 ∷ 0 ∷ 0 ∷ (bits ++ rows))) made 1
    over_three bits l made =
        let start : List ℕ = block n last (1 ∷ more) made 1 in
        let long : 8 + length (0 ∷ 0 ∷ 0 ∷ bits) ≡ places_at = omega arith in
        let behind : drop (8 + length (0 ∷ 0 ∷ 0 ∷ bits)) start ≡ rows =
        ap (λ (k : ℕ). drop k start) long
        ∙ sym (drop-drop (4 + word_count) 7 start)
        ∙ ap (drop (4 + word_count)) (after_seven n last (1 ∷ more) made 1)
        ∙ tail_rows (pad 3 cut) words rows (cut_long few) (length_words word_count free) in
        ap₂ (λ (x y : List ℕ). x ++ (0 ∷ 0 ∷ 0 ∷ (bits ++ y))) (before_eight n last 1 more made 1) behind
        ∙ joined n last 1 (0 ∷ 0 ∷ 0 ∷ (bits ++ rows)) made 1

    only_store : over (set (set before 6 1) 5 (settled_word (block_word before 5))) 8
        (0 ∷ 0 ∷ 0 ∷ words_of word_count (with_all (before_zero (part before 8 3)) (nodes_of (part before free_at word_count))))
        ≡ block n last (1 ∷ (0 ∷ 0 ∷ 0 ∷ (words_of word_count after ++ rows))) (settled doing) 1
    only_store =
        ap₂ (λ (x : List ℕ) (f : List Bool). over x 8 (0 ∷ 0 ∷ 0 ∷ words_of word_count f)) (made_last n last (1 ∷ more) doing) freed
        ∙ over_three (words_of word_count after) (length_words word_count after) (settled doing)

  none : 1 ≤ 0 → ⊥
  none h = omega arith

  abbrev left : List Store → Memory
  left stores = advanced (planning (memory_in b) doing free last cut) (drop 1 stores)

  pub first_words_lem : (stores : List Store) → 1 ≤ length stores → length b ≡ state_words → Plannable stores free cut
      → played_block (planned_block b doing stores free last cut) 1 (drop 1 stores) ≡ first_words b (get_or stores 0 (0, 0) ∷ (left stores).rest) (left stores)
  unfolding played_block planned_block first_words advanced planning
  first_words_lem [] some l h = absurd (none some)
  first_words_lem (s ∷ []) some l h =
      let planned = memory_planned b doing (s ∷ []) free last cut l h in
      ap₂ totalled
      (only_store (at_front (s.0 ∷ []) (part b places_at 73) ++ (at_front (s.1 ∷ []) (part b values_at 73) ++ drop depth_at b)) h.few h.readable h.full)
      (ap₂ settled_totals (ap (λ (m : Memory). m.doing) planned) (ap (λ (m : Memory). m.totals) planned))
  first_words_lem (s ∷ t ∷ rest) some l h =
      let block_before : List ℕ = planned_block b doing (s ∷ t ∷ rest) free last cut in
      let long : length (set block_before 6 1) ≡ state_words = length-set block_before 6 1 ∙ planned_length b doing (s ∷ t ∷ rest) free last cut l h in
      sym (totals_again (set block_before 6 1) long)
      ∙ ap₂ totalled (made_one (block_word b 0) last _ doing)
      (one_made block_before (omega (arith, planned_length b doing (s ∷ t ∷ rest) free last cut l h))
      ∙ ap (λ (m : Memory). m.totals) (memory_planned b doing (s ∷ t ∷ rest) free last cut l h))
