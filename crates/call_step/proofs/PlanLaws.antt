-- Laws of a change that is planned in a block: its words, its stores, and where the first of them goes.
use mathlib.Core.Path.{◌≡◌, refl, sym, ap, ap₂, subst, ◌∙◌}
use mathlib.Core.List.{List, [], ◌∷◌, ◌++◌, map, zip, zip_with, append_assoc}
use mathlib.Core.Option.{some}
use Prim.Native.Nat.{ℕ, suc, ◌^◌, ◌<◌, ◌≤◌}
use native.Mathlib.Omega.{arith}
use lib.ListN.{length, get_or, take, drop, length-append, length-take}
use lib.Seq.{take_at, drop_at, drop-drop}
use Rattle.laws.specs.Lists.{pad}
use Rattle.card_free.specs.NodeSet.{word_count, nodes_of}
use Rattle.change_decide.specs.declared.Decision.{Decision}
use Rattle.change_plan.specs.Plan.{Among}
use Rattle.change_plan.specs.Planning.{take_numbers, without_all, last_of}
use Rattle.change_plan.proofs.NumberLaws.{given_within}
use Rattle.change_layout.specs.declared.Size.{Size}
use Rattle.change_layout.specs.LayOut.{size_of, needed, store_count, cut_by, places_by, words_by, stores_by}
use Rattle.change_layout.proofs.LayOutLaws.{length_by, needed_few, words_count}
use Rattle.state.specs.Block.{depth_at, free_at, places_at, values_at, state_words, block_word, part, doing_words, head_words}
use Rattle.state.specs.Blocks.{words_of}
use Rattle.state.specs.declared.Doing.{Doing}
use Rattle.state.specs.declared.State.{State}
use Rattle.state.proofs.Rows.{placed, placed_length, placed_before, same_part, rows_placed}
use Rattle.state.proofs.Blocks.{Words, length_doing, free_span, words_nodes}
use Rattle.call_step.proofs.PlayLaws.{part_length, part_small}
use Rattle.call_step.specs.StepBlocks.{at_front, planned_block, planned_over}

-- ---- the rows and the words of the free nodes, stored one after the other

module _ (b x : List ℕ) (long : length b ≡ state_words) (lx : length x ≡ 73) where
  -- the block with the places
  abbrev with_places : List ℕ
  with_places = placed places_at 73 b x

  places_length : length with_places ≡ state_words
  places_length = placed_length b x places_at 73 lx (omega arith) ∙ long

  -- what was there before in the part that is stored next
  values_stood : part with_places values_at 73 ≡ part b values_at 73
  values_stood =
      let rest : List ℕ = drop 73 (drop places_at b) in
      let front : length (take places_at b ++ x) ≡ values_at = omega (arith, length-append (take places_at b) x, length-take places_at b) in
      ap (take 73) (ap (drop values_at) (sym (append_assoc (take places_at b) x rest)) ∙ drop_at (take places_at b ++ x) rest values_at front ∙ drop-drop 73 places_at b)

  module _ (y : List ℕ) (ly : length y ≡ 73) where
    -- with the values too
    abbrev with_values : List ℕ
    with_values = placed values_at 73 with_places y

    values_length : length with_values ≡ state_words
    values_length = placed_length with_places y values_at 73 ly (omega (arith, places_length)) ∙ places_length

    free_stood : part with_values free_at word_count ≡ part b free_at word_count
    free_stood =
        same_part with_values b free_at word_count (values_length ∙ sym long)
        (λ j h k. placed_before with_places y values_at 73 ly (omega (arith, places_length)) j (omega arith)
        ∙ placed_before b x places_at 73 lx (omega arith) j (omega arith))

    -- the head is still as it was
    head_stood : (j : ℕ) → j < 11 → block_word with_values j ≡ block_word b j
    head_stood j h =
        placed_before with_places y values_at 73 ly (omega (arith, places_length)) j (omega arith)
        ∙ placed_before b x places_at 73 lx (omega arith) j (omega arith)

    -- and with the free nodes
    word_stood : (z : List ℕ) → length z ≡ word_count → (j : ℕ) → j < 11 → block_word (placed free_at word_count with_values z) j ≡ block_word b j
    word_stood z lz j h = placed_before with_values z free_at word_count lz (omega (arith, values_length)) j h ∙ head_stood j h

-- ---- the stores of two rows

zip_places : (x y : List ℕ) → length x ≡ length y → map (λ s. s.0) (zip x y) ≡ x
unfolding zip zip_with
zip_places [] [] e = refl
zip_places [] (b ∷ y) e = absurd (omega arith)
zip_places (a ∷ x) [] e = absurd (omega arith)
zip_places (a ∷ x) (b ∷ y) e = ap (λ (l : List ℕ). a ∷ l) (zip_places x y (omega arith))

zip_values : (x y : List ℕ) → length x ≡ length y → map (λ s. s.1) (zip x y) ≡ y
unfolding zip zip_with
zip_values [] [] e = refl
zip_values [] (b ∷ y) e = absurd (omega arith)
zip_values (a ∷ x) [] e = absurd (omega arith)
zip_values (a ∷ x) (b ∷ y) e = ap (λ (l : List ℕ). b ∷ l) (zip_values x y (omega arith))

zip_length : (x y : List ℕ) → length x ≡ length y → length (zip x y) ≡ length x
unfolding zip zip_with
zip_length [] [] e = refl
zip_length [] (b ∷ y) e = absurd (omega arith)
zip_length (a ∷ x) [] e = absurd (omega arith)
zip_length (a ∷ x) (b ∷ y) e = ap suc (zip_length x y (omega arith))

pub zip_first : (x y : List ℕ) → length x ≡ length y → get_or (zip x y) 0 (0, 0) ≡ (get_or x 0 0, get_or y 0 0)
unfolding zip zip_with
zip_first [] [] e = refl
zip_first [] (b ∷ y) e = absurd (omega arith)
zip_first (a ∷ x) [] e = absurd (omega arith)
zip_first (a ∷ x) (b ∷ y) e = refl

-- ---- the words of the block

words_same : (doing : Doing) (end : List ℕ) {n m l k i j : ℕ} {c d u v p q r s : List ℕ} → n ≡ m → l ≡ k → i ≡ j → c ≡ d → u ≡ v → p ≡ q → r ≡ s
    → n ∷ l ∷ doing_words doing ++ (0 ∷ i ∷ c ++ (u ++ (p ++ (r ++ end)))) ≡ m ∷ k ∷ doing_words doing ++ (0 ∷ j ∷ d ++ (v ++ (q ++ (s ++ end))))
words_same doing end e f g h o t w = rw (e, f, g, h, o, t, w)

module _ (card b : List ℕ) (doing : Doing) (d : Decision) (ms : List ℕ) (three : length ms ≡ 3)
    (count : length (words_by card d ms) ≡ store_count d) where
  same_count : length (places_by d ms) ≡ length (words_by card d ms)
  same_count = length_by d ms three ∙ sym count

  stores_count : length (stores_by card d ms) ≡ store_count d
  stores_count = zip_length (places_by d ms) (words_by card d ms) same_count ∙ length_by d ms three

  -- a row that begins with the places, and one that begins with the words
  places_front : (row : List ℕ) → at_front (map (λ s. s.0) (stores_by card d ms)) row ≡ places_by d ms ++ drop (store_count d) row
  places_front row =
      ap (λ (l : List ℕ). at_front l row) (zip_places (places_by d ms) (words_by card d ms) same_count)
      ∙ ap (λ (k : ℕ). places_by d ms ++ drop k row) (length_by d ms three)

  values_front : (row : List ℕ) → at_front (map (λ s. s.1) (stores_by card d ms)) row ≡ words_by card d ms ++ drop (store_count d) row
  values_front row =
      ap (λ (l : List ℕ). at_front l row) (zip_values (places_by d ms) (words_by card d ms) same_count)
      ∙ ap (λ (k : ℕ). words_by card d ms ++ drop k row) count

  plan_stored : (head : State) (x y z after : List ℕ) → head.nodes ≡ block_word b 0 → head.last ≡ last_of (block_word b 1) (take (needed d) ms)
      → head.doing ≡ doing → head.made ≡ 0 → head.count ≡ store_count d → head.cut ≡ pad 3 (cut_by card d) → after ≡ z ++ (x ++ (y ++ drop depth_at b))
      → x ≡ places_by d ms ++ drop (store_count d) (part b places_at 73) → y ≡ words_by card d ms ++ drop (store_count d) (part b values_at 73)
      → z ≡ words_of word_count (without_all (take (needed d) ms) (nodes_of (part b free_at word_count))) → head_words head ++ after ≡ planned_over card b doing d ms
  unfolding head_words planned_over planned_block
  plan_stored head x y z after en el ed em ec ecut ea ex ey ez =
      rw (ed, em, ea)
      (ap (λ (l : List ℕ). head.nodes ∷ head.last ∷ l) (append_assoc (doing_words doing) (0 ∷ head.count ∷ head.cut) (z ++ (x ++ (y ++ drop depth_at b))))
      ∙ words_same doing (drop depth_at b) en el (ec ∙ sym stores_count) ecut ez (ex ∙ sym (places_front (part b places_at 73))) (ey ∙ sym (values_front (part b values_at 73))))

-- ---- a change planned: both rows are stored, the words of the free nodes, and the head

head_long : (head : State) → length head.cut ≡ 3 → length (head_words head) ≡ 11
unfolding head_words
head_long head e =
    ap (λ (k : ℕ). suc (suc k)) (length-append (doing_words head.doing) (head.made ∷ head.count ∷ head.cut) ∙ omega (arith, length_doing head.doing, e))

module _ (card b : List ℕ) (long : length b ≡ state_words) (d : Decision) (size : Size) (sized : size ≡ size_of d) (nodes : List ℕ)
    (taken : take_numbers (needed d) (nodes_of (part b free_at word_count)) (block_word b 1) ≡ some (take (needed d) nodes)) where
  nodes_are : size.nodes ≡ needed d
  unfolding size_of
  nodes_are = ap (λ (z : Size). z.nodes) sized

  stores_are : size.stores ≡ store_count d
  unfolding size_of
  stores_are = ap (λ (z : Size). z.stores) sized

  -- the numbers are nodes of the set
  pub plan_given : Among (needed d) nodes
  plan_given = given_within (part b free_at word_count) nodes (needed d) (block_word b 1) (free_span b [] long) taken

  pub plan_few : size.nodes ≤ 3
  plan_few = omega (arith, nodes_are, needed_few d)

  pub plan_among : Among size.nodes nodes
  plan_among = subst (λ (k : ℕ). Among k nodes) (sym nodes_are) plan_given

  module _ (x : List ℕ) (same_x : length x ≡ length (part b places_at 73)) (y : List ℕ)
      (same_y : length y ≡ length (part (placed places_at 73 b x) values_at 73)) where
    places_row : length x ≡ 73
    places_row = same_x ∙ part_length b places_at 73 (omega (arith, long))

    values_row : length y ≡ 73
    values_row = same_y ∙ part_length (placed places_at 73 b x) values_at 73 (omega (arith, places_length b x long places_row))

    abbrev rows : List ℕ
    rows = placed values_at 73 (placed places_at 73 b x) y

    pub plan_free : length (part rows free_at word_count) ≡ word_count
    plan_free = ap length (free_stood b x long places_row y values_row) ∙ free_span b [] long

    module _ (places : x ≡ places_by d nodes ++ drop (store_count d) (part b places_at 73))
        (values : y ≡ words_by card d nodes ++ drop (store_count d) (part (placed places_at 73 b x) values_at 73)) where
      values_are : y ≡ words_by card d nodes ++ drop (store_count d) (part b values_at 73)
      values_are = values ∙ ap (λ (l : List ℕ). words_by card d nodes ++ drop (store_count d) l) (values_stood b x long places_row)

      pub plan_count : length (words_by card d nodes) ≡ store_count d
      plan_count = words_count card d nodes y (part b values_at 73) values_are values_row (part_length b values_at 73 (omega (arith, long)))

      module _ (z : List ℕ) (same_z : length z ≡ length (part rows free_at word_count))
          (freed : nodes_of z ≡ without_all (take size.nodes nodes) (nodes_of (part rows free_at word_count))) where
        free_row : length z ≡ word_count
        free_row = same_z ∙ plan_free

        abbrev full : List ℕ
        full = placed free_at word_count rows z

        rows_then : drop 11 full ≡ z ++ (x ++ (y ++ drop depth_at b))
        rows_then = rows_placed b z x y long free_row places_row values_row

        module _ (last : ℕ) (given : last ≡ last_of (block_word rows 1) (take size.nodes nodes)) (doing : Doing) (cut : List ℕ)
            (cut_is : cut ≡ pad 3 (cut_by card d)) (three_cut : length cut ≡ 3) (three : length nodes ≡ 3) (after : List ℕ) (readable : Words after) where
          abbrev head : State
          head = record { nodes = block_word full 0; last = last; doing = doing; made = 0; count = size.stores; cut = cut }

          module _ (stored : after ≡ head_words head ++ drop 11 full) where
            -- the words of the free nodes are those of the nodes that are free then
            free_read : part after free_at word_count ≡ z
            free_read =
                ap (λ (l : List ℕ). take word_count (drop 11 l)) stored
                ∙ ap (take word_count) (drop_at (head_words head) (drop 11 full) 11 (head_long head three_cut) ∙ rows_then)
                ∙ take_at z (x ++ (y ++ drop depth_at b)) word_count free_row

            free_words : z ≡ words_of word_count (without_all (take (needed d) nodes) (nodes_of (part b free_at word_count)))
            free_words =
                sym (words_nodes z (λ i. subst (λ (l : List ℕ). get_or l i 0 < 2 ^ 32) free_read (part_small after free_at word_count readable i)))
                ∙ ap₂ words_of free_row
                (freed
                ∙ ap₂ (λ (k : ℕ) (l : List ℕ). without_all (take k nodes) (nodes_of l)) nodes_are (free_stood b x long places_row y values_row))

            pub plan_words : after ≡ planned_over card b doing d nodes
            plan_words =
                stored
                ∙ plan_stored card b doing d nodes three plan_count head x y z (drop 11 full)
                (word_stood b x long places_row y values_row z free_row 0 (omega arith))
                (given ∙ ap₂ (λ (w k : ℕ). last_of w (take k nodes)) (head_stood b x long places_row y values_row 1 (omega arith)) nodes_are)
                refl refl stores_are cut_is rows_then places values_are free_words
