-- Laws of the words of a block that is played in place: one for each branch of the code.
use mathlib.Core.Path.{◌≡◌, refl, sym, ap, ap₂, ◌∙◌}
use mathlib.Core.Bool.{Bool, true, false}
use mathlib.Core.List.{List, [], ◌∷◌, ◌++◌}
use Prim.Native.Nat.{ℕ, suc, ◌+◌, ◌^◌, ◌≤◌, ◌<◌}
use native.Mathlib.Omega.{arith}
use lib.ListN.{length, get_or, take, drop, set, replicate, length-take, length-drop, length-set, take-append-drop, get_or-eq_default}
use lib.Seq.{take_at, drop_at, drop-drop, get_or-take, get_or-drop, set_out}
use lib.Dec.{ltb, eqb}
use borrow.Author.Tests.{ne_eqb}
use Rattle.laws.specs.Lists.{before_zero}
use Rattle.laws.proofs.Cases.{order, impossible, bool_cases}
use Rattle.card.specs.Stores.{Store}
use Rattle.card_family.specs.Families.{family_count, counted_in, counted_out}
use Rattle.card_free.specs.NodeSet.{word_count, capacity, nodes_of}
use Rattle.card_free.proofs.NodeSetLaws.{length_nodes}
use Rattle.change_plan.specs.Plan.{stores_of}
use Rattle.change_plan.specs.Planning.{with_all}
use Rattle.state.specs.Memory.{settled_in, settled_out, settled_totals}
use Rattle.state.specs.Results.{more_to_store}
use Rattle.state.specs.Block.{free_at, places_at, totals_at, values_at, state_words, block_word, part, phase_in, doing_in, memory_in}
use Rattle.state.specs.Blocks.{over, words_of}
use Rattle.state.proofs.Rows.{placed}
use Rattle.state.proofs.Blocks.{Words, by_head, over_placed, length_words, words_nodes, free_span, freed_part, freed_length}
use Rattle.state.proofs.StepLaws.{store_at, more_full, more_test, more_below, cut_end, cut_zero, cut_next, no_cut}
use Rattle.call_step.specs.StepBlocks.{idled_block, settled_word, totalled, settled_block, played_block}

pub part_length : (b : List ℕ) (from n : ℕ) → from + n ≤ length b → length (part b from n) ≡ n
part_length b from n h = omega (arith, length-take n (drop from b), length-drop from b)

pub part_word : (b : List ℕ) (from n i : ℕ) → i < n → get_or (part b from n) i 0 ≡ block_word b (from + i)
part_word b from n i h = get_or-take n (drop from b) i 0 h ∙ get_or-drop from b i 0

-- a value of the plan, stored on a card
pub value_stored : (b card : List ℕ) (at k : ℕ) → k < 73 → set card at (block_word b (values_at + k)) ≡ set card at (get_or (part b values_at 73) k 0)
value_stored b card at k h = ap (set card at) (sym (part_word b values_at 73 k h))

pub part_small : (b : List ℕ) (from n : ℕ) → Words b → (i : ℕ) → get_or (part b from n) i 0 < 2 ^ 32
part_small b from n w i =
    order i n (λ h. rw (part_word b from n i h) (w (from + i)))
    (λ h. rw (get_or-eq_default (part b from n) 0 {n = i} (omega (arith, length-take n (drop from b)))) (omega arith))

-- a number that is no node's is in no set of nodes
pub free_outside : (row : List ℕ) (m : ℕ) → length row ≡ word_count → capacity ≤ m → nodes_of row ≡ set (nodes_of row) m true
free_outside row m l h = sym (set_out (nodes_of row) m true (omega (arith, length_nodes row)))

-- ---- the state made idle

pub idled_stored : (b : List ℕ) → 11 ≤ length b
    → over (set (set (set (set (set (set b 2 0) 3 0) 4 0) 5 0) 6 0) 7 0) 8 (0 ∷ 0 ∷ 0 ∷ []) ≡ idled_block b
unfolding idled_block
idled_stored b h =
    by_head (λ (x : List ℕ). over (set (set (set (set (set (set x 2 0) 3 0) 4 0) 5 0) 6 0) 7 0) 8 (0 ∷ 0 ∷ 0 ∷ []) ≡ over x 2 (replicate 9 0))
    b h (λ a b c d e f g i j k l rest. refl)

-- ---- "Nodes cut out of the tree are free after the store that cuts them out"

-- the nodes free then
abbrev pub freed_nodes : List ℕ → List Bool
freed_nodes b = with_all (before_zero (part b 8 3)) (nodes_of (part b free_at word_count))

-- i of the nodes cut out are free, in a block that differs from the one before in the words of the free nodes alone
pub record Freeing (b s : List ℕ) (i : ℕ) : Type 0 where
  pub within : i ≤ 3
  pub long : length s ≡ state_words
  pub small : Words s
  pub front : take 11 s ≡ take 11 b
  pub back : drop places_at s ≡ drop places_at b
  pub left : with_all (before_zero (drop i (part b 8 3))) (nodes_of (part s free_at word_count)) ≡ freed_nodes b

module _ (b : List ℕ) (long : length b ≡ state_words) where
  pub freeing_start : Words b → Freeing b b 0
  freeing_start w = record { within = omega arith; long = long; small = w; front = refl; back = refl; left = refl }

  cut_words : length (part b 8 3) ≡ 3
  cut_words = part_length b 8 3 (omega arith)

  module _ (s : List ℕ) (i : ℕ) (f : Freeing b s i) where
    -- the next node to free
    freeing_word : i < 3 → get_or (part b 8 3) i 0 ≡ block_word s (8 + i)
    freeing_word h =
        part_word b 8 3 i h ∙ sym (get_or-take 11 b (8 + i) 0 (omega arith)) ∙ ap (λ (l : List ℕ). get_or l (8 + i) 0) (sym f.front)
        ∙ get_or-take 11 s (8 + i) 0 (omega arith)

    pub freeing_more : (m : ℕ) (row : List ℕ) → i < 3 → m ≡ block_word s (8 + i) → (m ≡ 0 → ⊥) → length row ≡ length (part s free_at word_count)
        → nodes_of row ≡ set (nodes_of (part s free_at word_count)) m true → Words (placed free_at word_count s row) → Freeing b (placed free_at word_count s row) (i + 1)
    freeing_more m row h e p l n w =
        let word : get_or (part b 8 3) i 0 ≡ m = freeing_word h ∙ sym e in
        let eleven : length (take 11 s) ≡ 11 = omega (arith, length-take 11 s, f.long) in
        let twenty : length row ≡ word_count = l ∙ free_span s [] f.long in
        record {
          within = omega arith;
          long = freed_length s row f.long l;
          small = w;
          front = take_at (take 11 s) (row ++ drop word_count (drop 11 s)) 11 eleven ∙ f.front;
          back =
              sym (drop-drop word_count 11 (placed free_at word_count s row))
              ∙ ap (drop word_count) (drop_at (take 11 s) (row ++ drop word_count (drop 11 s)) 11 eleven)
              ∙ drop_at row (drop word_count (drop 11 s)) word_count twenty
              ∙ drop-drop word_count 11 s
              ∙ f.back;
          left =
              ap (λ (r : List ℕ). with_all (before_zero (drop (i + 1) (part b 8 3))) (nodes_of r)) (freed_part s row f.long l)
              ∙ ap (with_all (before_zero (drop (i + 1) (part b 8 3)))) (n ∙ ap (λ (x : ℕ). set (nodes_of (part s free_at word_count)) x true) (sym word))
              ∙ sym (cut_next (part b 8 3) i (nodes_of (part s free_at word_count)) (omega (arith, cut_words)) (λ z. p (sym word ∙ z)))
              ∙ f.left;
        }

    freeing_done : before_zero (drop i (part b 8 3)) ≡ [] → s ≡ over b 11 (words_of word_count (freed_nodes b))
    freeing_done z =
        let row : part s free_at word_count ≡ words_of word_count (freed_nodes b) =
        sym (words_nodes (part s free_at word_count) (part_small s free_at word_count f.small))
        ∙ ap₂ words_of (free_span s [] f.long)
        (sym (no_cut (nodes_of (part s free_at word_count))) ∙ ap (λ (ms : List ℕ). with_all ms (nodes_of (part s free_at word_count))) (sym z) ∙ f.left) in
        sym (take-append-drop 11 s)
        ∙ ap₂ ◌++◌ f.front
        (sym (take-append-drop word_count (drop 11 s))
        ∙ ap (λ (l : List ℕ). part s free_at word_count ++ l)
        (drop-drop word_count 11 s ∙ f.back ∙ ap (λ (k : ℕ). drop k b) (let t : places_at ≡ 11 + length (part s free_at word_count) = omega (arith, free_span s [] f.long) in t)))
        ∙ ap (over b 11) row

    pub freeing_end : 3 ≤ i → s ≡ over b 11 (words_of word_count (freed_nodes b))
    freeing_end h = freeing_done (cut_end (part b 8 3) i (omega (arith, cut_words)))

    pub freeing_zero : i < 3 → block_word s (8 + i) ≡ 0 → s ≡ over b 11 (words_of word_count (freed_nodes b))
    freeing_zero h z = freeing_done (cut_zero (part b 8 3) i (omega (arith, cut_words)) (freeing_word h ∙ z))

-- ---- one store of the plan

-- of a change that is no first change in hand nothing is counted
totals_stay : (what x y w : ℕ) (totals : List ℕ) → (w ≡ 1 → ⊥) → settled_totals (doing_in what x y w) totals ≡ totals
unfolding doing_in phase_in settled_totals settled_in settled_out
totals_stay what x y w totals p =
    bool_cases (eqb what 1) (λ h. rw h refl)
    (λ n. bool_cases (eqb what 2) (λ h. rw (n, h, ne_eqb w 1 p) (bool_cases (eqb w 0) (λ z. rw z refl) (λ z. rw z refl)))
    (λ n₂. bool_cases (eqb what 3) (λ h. rw (n, n₂, h, ne_eqb w 1 p) (bool_cases (eqb w 0) (λ z. rw z refl) (λ z. rw z refl)))
    (λ n₃. bool_cases (eqb what 4) (λ h. rw (n, n₂, n₃, h) refl) (λ n₄. rw (n, n₂, n₃, n₄) refl))))

-- of a first change in hand the pair is counted
counted_insert : (what key y : ℕ) (totals : List ℕ) → what ≡ 2 → settled_totals (doing_in what key y 1) totals ≡ counted_in key totals
unfolding doing_in phase_in settled_totals settled_in
counted_insert what key y totals e = rw e refl

counted_delete : (what key y : ℕ) (totals : List ℕ) → what ≡ 3 → settled_totals (doing_in what key y 1) totals ≡ counted_out key totals
unfolding doing_in phase_in settled_totals settled_out
counted_delete what key y totals e = rw e refl

pub counted_none : (what key y : ℕ) (totals : List ℕ) → (what ≡ 2 → ⊥) → (what ≡ 3 → ⊥) → settled_totals (doing_in what key y 1) totals ≡ totals
unfolding doing_in settled_totals
counted_none what key y totals p q =
    bool_cases (eqb what 1) (λ h. rw h refl)
    (λ n. rw (n, ne_eqb what 2 p, ne_eqb what 3 q) (bool_cases (eqb what 4) (λ h. rw h refl) (λ h. rw h refl)))

-- the totals that a block has, stored again
pub totals_again : (b : List ℕ) → length b ≡ state_words → totalled b (part b totals_at family_count) ≡ b
totals_again b l =
    let after : drop (totals_at + length (part b totals_at family_count)) b ≡ drop family_count (drop totals_at b) =
    ap (λ (k : ℕ). drop (totals_at + k) b) (part_length b totals_at family_count (omega arith)) ∙ sym (drop-drop family_count totals_at b) in
    ap (λ (x : List ℕ). take totals_at b ++ x) (ap (λ (x : List ℕ). part b totals_at family_count ++ x) after ∙ take-append-drop family_count (drop totals_at b))
    ∙ take-append-drop totals_at b

-- the totals in place after the pair of a first change is counted
module _ (b row : List ℕ) (long : length b ≡ state_words) (same : length row ≡ length (part b totals_at family_count)) where
  row_over : placed totals_at family_count b row ≡ totalled b row
  row_over = sym (over_placed b row totals_at family_count (same ∙ part_length b totals_at family_count (omega arith)))

  abbrev Counts : Type 0
  Counts =
      placed totals_at family_count b row
      ≡ totalled b (settled_totals (doing_in (block_word b 2) (block_word b 3) (block_word b 4) 1) (part b totals_at family_count))

  pub inserted_row : block_word b 2 ≡ 2 → row ≡ counted_in (block_word b 3) (part b totals_at family_count) → Counts
  inserted_row e put = row_over ∙ ap (totalled b) (put ∙ sym (counted_insert (block_word b 2) (block_word b 3) (block_word b 4) (part b totals_at family_count) e))

  pub deleted_row : block_word b 2 ≡ 3 → row ≡ counted_out (block_word b 3) (part b totals_at family_count) → Counts
  deleted_row e put = row_over ∙ ap (totalled b) (put ∙ sym (counted_delete (block_word b 2) (block_word b 3) (block_word b 4) (part b totals_at family_count) e))

-- word 5 and the totals after the last store of a change
pub settled_hand : (b : List ℕ) → 11 ≤ length b → block_word b 5 ≡ 1
    → totalled (set b 5 2) (settled_totals (doing_in (block_word (set b 5 2) 2) (block_word (set b 5 2) 3) (block_word (set b 5 2) 4) 1) (part (set b 5 2) totals_at family_count))
    ≡ settled_block b
unfolding settled_block
settled_hand b h =
    by_head
    (λ (x : List ℕ). block_word x 5 ≡ 1
    → totalled (set x 5 2) (settled_totals (doing_in (block_word (set x 5 2) 2) (block_word (set x 5 2) 3) (block_word (set x 5 2) 4) 1) (part (set x 5 2) totals_at family_count))
    ≡ settled_block x)
    b h (λ a b c d e f g i j k l rest z. rw z refl)

pub settled_other : (b : List ℕ) → length b ≡ state_words → (block_word b 5 ≡ 1 → ⊥) → b ≡ settled_block b
unfolding settled_block
settled_other b l p =
    let same : b ≡ set b 5 (settled_word (block_word b 5)) =
    rw (ne_eqb (block_word b 5) 1 p) (by_head (λ (x : List ℕ). x ≡ set x 5 (block_word x 5)) b (omega arith) (λ a b c d e f g i j k l rest. refl)) in
    sym (totals_again b l)
    ∙ ap₂ totalled same (sym (totals_stay (block_word b 2) (block_word b 3) (block_word b 4) (block_word b 5) (part b totals_at family_count) p))

-- the stores of the plan in a block
abbrev pub planned : List ℕ → List Store
planned b = stores_of (part b places_at 73) (part b values_at 73) (block_word b 7)

over_cut : (b w : List ℕ) → 11 ≤ length b → over (over b 11 w) 8 (0 ∷ 0 ∷ 0 ∷ []) ≡ over b 8 (0 ∷ 0 ∷ 0 ∷ w)
over_cut b w h =
    by_head (λ (x : List ℕ). over (over x 11 w) 8 (0 ∷ 0 ∷ 0 ∷ []) ≡ over x 8 (0 ∷ 0 ∷ 0 ∷ w)) b h
    (λ a b c d e f g i j k l rest.
    ap (λ (n : ℕ). a ∷ b ∷ c ∷ d ∷ e ∷ f ∷ g ∷ i ∷ 0 ∷ 0 ∷ 0 ∷ w ++ drop n (a ∷ b ∷ c ∷ d ∷ e ∷ f ∷ g ∷ i ∷ j ∷ k ∷ l ∷ rest))
    (let t : 11 + length w ≡ 8 + suc (suc (suc (length w))) = omega arith in t))

module _ (b : List ℕ) (long : length b ≡ state_words) where
  places_long : length (part b places_at 73) ≡ 73
  places_long = part_length b places_at 73 (omega arith)

  values_long : length (part b values_at 73) ≡ 73
  values_long = part_length b values_at 73 (omega arith)

  -- whether a store is to come after so many, and which
  pub plan_full : (k : ℕ) → 73 ≤ k → more_to_store (drop k (planned b)) ≡ false
  plan_full k h = more_full (part b places_at 73) (part b values_at 73) (block_word b 7) k places_long values_long h

  pub plan_test : (k : ℕ) → k < 73 → more_to_store (drop k (planned b)) ≡ ltb k (block_word b 7)
  plan_test k h = more_test (part b places_at 73) (part b values_at 73) (block_word b 7) k places_long values_long h

  pub plan_below : (k : ℕ) → more_to_store (drop k (planned b)) ≡ true → (k < block_word b 7) × (k < 73)
  plan_below k e = more_below (part b places_at 73) (part b values_at 73) (block_word b 7) k places_long values_long e

  pub plan_next : (k : ℕ) → more_to_store (drop k (planned b)) ≡ true
      → drop k (planned b) ≡ (block_word b (places_at + k), block_word b (values_at + k)) ∷ drop (k + 1) (planned b)
  plan_next k e =
      let h = plan_below k e in
      let p : get_or (part b places_at 73) k 0 ≡ block_word b (places_at + k) = part_word b places_at 73 k h.1 in
      let v : get_or (part b values_at 73) k 0 ≡ block_word b (values_at + k) = part_word b values_at 73 k h.1 in
      store_at (part b places_at 73) (part b values_at 73) (block_word b 7) k places_long values_long h.0 h.1
      ∙ ap₂ (λ (x y : ℕ). (x, y) ∷ drop (k + 1) (planned b)) p v

  -- the number of stores made does not bear on what the plan cuts out
  made_freed : (k : ℕ) → freed_nodes (set b 6 k) ≡ freed_nodes b
  made_freed k = by_head (λ (x : List ℕ). freed_nodes (set x 6 k) ≡ freed_nodes x) b (omega arith) (λ a b c d e f g i j k l rest. refl)

  -- the last of the stores is made and the nodes are cut out: what is left is word 5 and the totals
  settled_over : (k : ℕ) (words : List ℕ) → length words ≡ word_count → settled_block (over (set b 6 k) 8 (0 ∷ 0 ∷ 0 ∷ words))
      ≡ totalled (over (set (set b 6 k) 5 (settled_word (block_word b 5))) 8 (0 ∷ 0 ∷ 0 ∷ words)) (settled_totals (memory_in b).doing (memory_in b).totals)
  unfolding settled_block memory_in
  settled_over k words w =
      let three_more : length (0 ∷ 0 ∷ 0 ∷ words) ≡ 3 + word_count = omega arith in
      ap settled_block (over_placed (set b 6 k) (0 ∷ 0 ∷ 0 ∷ words) 8 (3 + word_count) three_more)
      ∙ by_head
      (λ (x : List ℕ). settled_block (placed 8 (3 + word_count) (set x 6 k) (0 ∷ 0 ∷ 0 ∷ words))
      ≡ totalled (placed 8 (3 + word_count) (set (set x 6 k) 5 (settled_word (block_word x 5))) (0 ∷ 0 ∷ 0 ∷ words)) (settled_totals (memory_in x).doing (memory_in x).totals))
      b (omega arith)
      (λ n last c d e f g i j q m rest.
      let x : List ℕ = n ∷ last ∷ c ∷ d ∷ e ∷ f ∷ g ∷ i ∷ j ∷ q ∷ m ∷ rest in
      ap
      (λ (t : List ℕ). totalled (placed 8 (3 + word_count) (set (set x 6 k) 5 (settled_word f)) (0 ∷ 0 ∷ 0 ∷ words)) (settled_totals (doing_in c d e f) (take family_count t)))
      (sym (drop-drop 147 word_count (words ++ drop word_count rest)) ∙ ap (drop 147) (drop_at words (drop word_count rest) word_count w) ∙ drop-drop 147 word_count rest))
      ∙ ap (λ (y : List ℕ). totalled y (settled_totals (memory_in b).doing (memory_in b).totals))
      (sym (over_placed (set (set b 6 k) 5 (settled_word (block_word b 5))) (0 ∷ 0 ∷ 0 ∷ words) 8 (3 + word_count) three_more))

  pub played_on : (k : ℕ) (rest : List Store) → more_to_store rest ≡ true → set b 6 k ≡ played_block b k rest
  unfolding more_to_store played_block
  played_on k [] e = impossible (cc)
  played_on k (s ∷ rest) e = refl

  played_last : (k : ℕ) (rest : List Store) → more_to_store rest ≡ false
      → settled_block (over (over (set b 6 k) 11 (words_of word_count (freed_nodes (set b 6 k)))) 8 (0 ∷ 0 ∷ 0 ∷ [])) ≡ played_block b k rest
  unfolding more_to_store played_block
  played_last k [] e =
      let words : List ℕ = words_of word_count (freed_nodes b) in
      ap settled_block
      (ap (λ (f : List Bool). over (over (set b 6 k) 11 (words_of word_count f)) 8 (0 ∷ 0 ∷ 0 ∷ [])) (made_freed k)
      ∙ over_cut (set b 6 k) words (omega (arith, length-set b 6 k)))
      ∙ settled_over k words (length_words word_count (freed_nodes b))
  played_last k (s ∷ rest) e = impossible (cc)

  -- the block after the last store, as the code leaves it
  pub ended : (k : ℕ) (rest : List Store) → more_to_store rest ≡ false → {x y : List ℕ} → x ≡ set b 6 k
      → y ≡ settled_block (over (over x 11 (words_of word_count (freed_nodes x))) 8 (0 ∷ 0 ∷ 0 ∷ [])) → y ≡ played_block b k rest
  ended k rest e p q = q ∙ ap (λ (x : List ℕ). settled_block (over (over x 11 (words_of word_count (freed_nodes x))) 8 (0 ∷ 0 ∷ 0 ∷ []))) p ∙ played_last k rest e
