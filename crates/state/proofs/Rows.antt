-- Laws of parts of a block, and of parts stored anew.
use mathlib.Core.Path.{◌≡◌, refl, sym, ap, ap₂, ◌∙◌}
use mathlib.Core.List.{List, [], ◌∷◌, ◌++◌, append_assoc}
use Prim.Native.Nat.{ℕ, suc, ◌+◌, ◌-◌, ◌≤◌, ◌<◌, min}
use native.Mathlib.Omega.{arith}
use lib.ListN.{length, get_or, take, drop, length-append, length-take, length-drop, get_or-append}
use lib.Seq.{take_at, drop_at, drop-drop, drop-cons, get_or-take, get_or-drop, ext_get_or}
use Rattle.state.specs.Block.{depth_at, free_at, places_at, state_words, values_at, part}
use Rattle.card_free.specs.NodeSet.{word_count}

-- three words of a block, one by one
pub three : (block : List ℕ) (i : ℕ) → i + 3 ≤ length block → get_or block i 0 ∷ get_or block (i + 1) 0 ∷ get_or block (i + 2) 0 ∷ [] ≡ part block i 3
three block i h =
    let e : i + 1 ≡ suc i = omega arith in
    let f : i + 2 ≡ suc (suc i) = omega arith in
    rw (e, f)
    (sym (ap (take 3) (drop-cons block i 0 (omega arith)) ∙ ap (λ (l : List ℕ). get_or block i 0 ∷ take 2 l) (drop-cons block (suc i) 0 (omega arith))
    ∙ ap (λ (l : List ℕ). get_or block i 0 ∷ get_or block (suc i) 0 ∷ take 1 l) (drop-cons block (suc (suc i)) 0 (omega arith))))

-- a word past the first of two lists
pub append_after : (xs ys : List ℕ) (i j : ℕ) → j ≡ length xs + i → get_or (xs ++ ys) j 0 ≡ get_or ys i 0
append_after xs ys i j e =
    ap (λ (k : ℕ). get_or (xs ++ ys) k 0) e ∙ sym (get_or-drop (length xs) (xs ++ ys) i 0) ∙ ap (λ (l : List ℕ). get_or l i 0) (drop_at xs ys (length xs) refl)

-- ---- parts of a block stored one after the other

-- the list with other words in the place of `count` words from word `from` on
abbrev pub placed : ℕ → ℕ → List ℕ → List ℕ → List ℕ
placed from count xs ys = take from xs ++ (ys ++ drop count (drop from xs))

placed_next : (xs rest ys : List ℕ) (a n : ℕ) → length xs ≡ a → placed a n (xs ++ rest) ys ≡ (xs ++ ys) ++ drop n rest
placed_next xs rest ys a n e = ap₂ (λ (x y : List ℕ). x ++ (ys ++ drop n y)) (take_at xs rest a e) (drop_at xs rest a e) ∙ sym (append_assoc xs ys (drop n rest))

-- the free nodes, the places and the values, stored in one order or the other; the words after them stay
pub rows_placed : (block free places values : List ℕ) → length block ≡ state_words → length free ≡ word_count → length places ≡ 73 → length values ≡ 73
    → drop 11 (placed free_at word_count (placed values_at 73 (placed places_at 73 block places) values) free) ≡ free ++ (places ++ (values ++ drop depth_at block))
rows_placed block free places values lb lf lp lv =
    let head : List ℕ = take places_at block in
    let rest : List ℕ = drop 73 (drop places_at block) in
    let later : List ℕ = places ++ (values ++ drop 73 rest) in
    let lh : length head ≡ places_at = omega (arith, length-take places_at block) in
    let lhp : length (head ++ places) ≡ values_at = omega (arith, length-append head places) in
    let end : drop 73 rest ≡ drop depth_at block = drop-drop 73 73 (drop places_at block) ∙ drop-drop 146 places_at block in
    let both : placed values_at 73 (placed places_at 73 block places) values ≡ head ++ (places ++ (values ++ drop 73 rest)) =
    ap (λ (l : List ℕ). placed values_at 73 l values) (sym (append_assoc head places rest))
    ∙ placed_next (head ++ places) rest values values_at 73 lhp
    ∙ append_assoc (head ++ places) values (drop 73 rest) ∙ append_assoc head places (values ++ drop 73 rest) in
    let front : length (take 11 (head ++ later)) ≡ 11 = omega (arith, length-take 11 (head ++ later), length-append head later) in
    ap (λ (l : List ℕ). drop 11 (placed free_at word_count l free)) both
    ∙ drop_at (take 11 (head ++ later)) (free ++ drop word_count (drop 11 (head ++ later))) 11 front
    ∙ ap (λ (l : List ℕ). free ++ l) (drop-drop word_count 11 (head ++ later) ∙ drop_at head later places_at lh)
    ∙ ap (λ (l : List ℕ). free ++ (places ++ (values ++ l))) end

-- ---- a part of a block stored anew

module _ (block row : List ℕ) (from count : ℕ) (l : length row ≡ count) (fits : from + count ≤ length block) where
  abbrev rest : List ℕ
  rest = drop count (drop from block)

  pub placed_length : length (placed from count block row) ≡ length block
  placed_length =
      omega (
        arith,
        length-append (take from block) (row ++ rest),
        length-append row rest,
        length-take from block,
        length-drop count (drop from block),
        length-drop from block,
      )

  -- the words before it stay
  pub placed_before : (j : ℕ) → j < from → get_or (placed from count block row) j 0 ≡ get_or block j 0
  placed_before j h = get_or-append (take from block) (row ++ rest) 0 j (omega (arith, length-take from block)) ∙ get_or-take from block j 0 h

  -- and those after it
  pub placed_after : (k : ℕ) → from + count ≤ k → drop k (placed from count block row) ≡ drop k block
  placed_after k h =
      let j : ℕ = k - (from + count) in
      let is : (l : List ℕ) → drop k l ≡ drop j (drop count (drop from l)) =
      λ l. let e : k ≡ from + count + j = omega arith in ap (λ (i : ℕ). drop i l) e ∙ sym (drop-drop j (from + count) l) ∙ ap (drop j) (sym (drop-drop count from l)) in
      is (placed from count block row)
      ∙ ap (λ (l : List ℕ). drop j (drop count l)) (drop_at (take from block) (row ++ rest) from (omega (arith, length-take from block)))
      ∙ ap (drop j) (drop_at row rest count l)
      ∙ sym (is block)

  pub placed_part : part (placed from count block row) from count ≡ row
  placed_part = ap (take count) (drop_at (take from block) (row ++ rest) from (omega (arith, length-take from block))) ∙ take_at row rest count l

-- parts of two blocks that have the same words there
pub same_part : (a b : List ℕ) (from n : ℕ) → length a ≡ length b → ((j : ℕ) → from ≤ j → j < from + n → get_or a j 0 ≡ get_or b j 0)
    → part a from n ≡ part b from n
same_part a b from n e same =
    ext_get_or 0 (part a from n) (part b from n) (omega (arith, longs a, longs b)) (λ i h. at a i (small i h) ∙ same (from + i) (omega arith) (up i (small i h)) ∙ sym (at b i (small i h)))
  where
    longs : (l : List ℕ) → length (part l from n) ≡ min n (length l - from)
    longs l = length-take n (drop from l) ∙ ap (λ (k : ℕ). min n k) (length-drop from l)

    small : (i : ℕ) → i < length (part a from n) → i < n
    small i h = omega (arith, longs a)

    up : (i : ℕ) → i < n → from + i < from + n
    up i h = omega arith

    at : (l : List ℕ) (i : ℕ) → i < n → get_or (part l from n) i 0 ≡ get_or l (from + i) 0
    at l i h = get_or-take n (drop from l) i 0 h ∙ get_or-drop from l i 0
