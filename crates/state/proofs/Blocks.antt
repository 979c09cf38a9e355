-- Laws of Blocks: what a block holds whose words are those of a definition, and the stores that make it.
use mathlib.Core.Path.{◌≡◌, refl, sym, ap, ap₂, subst, ◌∙◌}
use mathlib.Core.Bool.{Bool, true, false}
use mathlib.Core.List.{List, [], ◌∷◌, ◌++◌, zip}
use Prim.Native.Nat.{ℕ, zero, suc, ◌+◌, ◌*◌, ◌/◌, ◌%◌, ◌≤◌, ◌<◌, ◌^◌}
use native.Mathlib.Omega.{arith}
use native.Mathlib.Nat.{pow-suc}
use lib.ListN.{length, get_or, set, take, drop, replicate, length-set, length-take, length-drop, take-append-drop}
use lib.Seq.{take_at, drop_at, drop-drop, drop-cons, drop-set-add, get_or-set_same, get_or-set_other}
use lib.Dec.{ltb, eqb}
use borrow.Author.Tests.{lt-ltb, eq-eqb, ne_eqb}
use Rattle.laws.specs.Bits.{bit}
use Rattle.laws.specs.Lists.{before_zero}
use Rattle.laws.specs.Digits.{digits_of}
use Rattle.laws.proofs.Digits.{length_digits}
use Rattle.card_family.specs.Families.{family_count, several_in}
use Rattle.card_free.specs.NodeSet.{word_count, nodes_of, all_nodes}
use Rattle.change_plan.specs.Plan.{stores_of}
use Rattle.state.specs.Memory.{Memory, resting, no_memory, settled_in, settled_out, settled_totals}
use Rattle.state.specs.Steps.{is_idle}
use Rattle.state.specs.declared.State.{State}
use Rattle.state.specs.declared.Doing.{Doing}
use Rattle.state.specs.declared.Doing.TheVariants.{Idle, Formatting, Inserting, Deleting, Repairing}
use Rattle.state.specs.declared.Phase.{Phase}
use Rattle.state.specs.declared.Phase.TheVariants.{NotBegun, InHand, Decided}
use Rattle.state.specs.Block.{depth_at, totals_at, lines_at, back_at, free_at, places_at, values_at, rest_words, state_words, block_word, part}
use Rattle.state.specs.Block.{phase_in, doing_in, phase_word, head_in, memory_in, doing_words, head_words}
use Rattle.state.specs.Blocks.{over, begun_block, number_of, words_of, resting_words, resting_block}
use Rattle.state.proofs.Rows.{three, append_after, same_part, placed, placed_length, placed_before, placed_after, placed_part}

-- every word of a block has 32 bits
abbrev pub Words : List ℕ → Type 0
Words block = (i : ℕ) → block_word block i < 2 ^ 32

-- the first eleven words of a block, and the rest
pub record Head (block : List ℕ) : Type 0 where
  pub nodes : ℕ
  pub last : ℕ
  pub what : ℕ
  pub first : ℕ
  pub second : ℕ
  pub third : ℕ
  pub made : ℕ
  pub count : ℕ
  pub cut : ℕ
  pub cut1 : ℕ
  pub cut2 : ℕ
  pub rows : List ℕ
  pub is : nodes ∷ last ∷ what ∷ first ∷ second ∷ third ∷ made ∷ count ∷ cut ∷ cut1 ∷ cut2 ∷ rows ≡ block

pub head_of : (block : List ℕ) → 11 ≤ length block → Head block
head_of [] h = absurd (omega arith)
head_of (a ∷ []) h = absurd (omega arith)
head_of (a ∷ b ∷ []) h = absurd (omega arith)
head_of (a ∷ b ∷ c ∷ []) h = absurd (omega arith)
head_of (a ∷ b ∷ c ∷ d ∷ []) h = absurd (omega arith)
head_of (a ∷ b ∷ c ∷ d ∷ e ∷ []) h = absurd (omega arith)
head_of (a ∷ b ∷ c ∷ d ∷ e ∷ f ∷ []) h = absurd (omega arith)
head_of (a ∷ b ∷ c ∷ d ∷ e ∷ f ∷ g ∷ []) h = absurd (omega arith)
head_of (a ∷ b ∷ c ∷ d ∷ e ∷ f ∷ g ∷ i ∷ []) h = absurd (omega arith)
head_of (a ∷ b ∷ c ∷ d ∷ e ∷ f ∷ g ∷ i ∷ j ∷ []) h = absurd (omega arith)
head_of (a ∷ b ∷ c ∷ d ∷ e ∷ f ∷ g ∷ i ∷ j ∷ k ∷ []) h = absurd (omega arith)
head_of (a ∷ b ∷ c ∷ d ∷ e ∷ f ∷ g ∷ i ∷ j ∷ k ∷ l ∷ rest) h =
    record { nodes = a; last = b; what = c; first = d; second = e; third = f; made = g; count = i; cut = j; cut1 = k; cut2 = l; rows = rest; is = refl }

-- a law of every block that has its eleven first words
pub by_head : (Law : List ℕ → Type 0) (block : List ℕ) → 11 ≤ length block → ((a b c d e f g i j k l : ℕ) (rest : List ℕ) → Law (a ∷ b ∷ c ∷ d ∷ e ∷ f ∷ g ∷ i ∷ j ∷ k ∷ l ∷ rest)) → Law block
by_head Law block h holds =
    let v = head_of block h in
    subst Law v.is (holds v.nodes v.last v.what v.first v.second v.third v.made v.count v.cut v.cut1 v.cut2 v.rows)

-- ---- what is being done

pub words_each : (doing : Doing) → get_or (doing_words doing) 0 0 ∷ get_or (doing_words doing) 1 0 ∷ get_or (doing_words doing) 2 0 ∷ get_or (doing_words doing) 3 0 ∷ [] ≡ doing_words doing
unfolding doing_words
words_each Idle = refl
words_each (Formatting made) = refl
words_each (Inserting key value begun) = refl
words_each (Deleting key begun value) = refl
words_each (Repairing key) = refl

pub length_doing : (doing : Doing) → length (doing_words doing) ≡ 4
length_doing doing = sym (ap length (words_each doing))

phase_read : (phase : Phase) → phase_in (phase_word phase) ≡ phase
unfolding phase_in phase_word
phase_read NotBegun = refl
phase_read InHand = refl
phase_read Decided = refl

-- what is being done is read back as it was stored
pub doing_read : (doing : Doing) → doing_in (get_or (doing_words doing) 0 0) (get_or (doing_words doing) 1 0) (get_or (doing_words doing) 2 0) (get_or (doing_words doing) 3 0) ≡ doing
unfolding doing_words doing_in
doing_read Idle = refl
doing_read (Formatting k) = refl
doing_read (Inserting key value phase) = ap (Inserting key value) (phase_read phase)
doing_read (Deleting key phase value) = ap (λ (p : Phase). Deleting key p value) (phase_read phase)
doing_read (Repairing key) = refl

-- a state with something else being done
unfoldable pub with_doing : Memory → Doing → Memory
with_doing m doing = record { nodes = m.nodes; free = m.free; last = m.last; doing = doing; rest = m.rest; cut = m.cut; depth = m.depth; totals = m.totals }

memory_four : (block : List ℕ) (p q r s : ℕ) → 11 ≤ length block → memory_in (over block 2 (p ∷ q ∷ r ∷ s ∷ [])) ≡ with_doing (memory_in block) (doing_in p q r s)
unfolding memory_in with_doing
memory_four block p q r s h =
    by_head (λ (b : List ℕ). memory_in (over b 2 (p ∷ q ∷ r ∷ s ∷ [])) ≡ with_doing (memory_in b) (doing_in p q r s)) block h (λ a b c d e f g i j k l rest. refl)

pub memory_begun : (block : List ℕ) (doing : Doing) → 11 ≤ length block → memory_in (begun_block block doing) ≡ with_doing (memory_in block) doing
unfolding begun_block
memory_begun block doing h =
    ap (λ (words : List ℕ). memory_in (over block 2 words)) (sym (words_each doing)) ∙ memory_four block _ _ _ _ h
    ∙ ap (with_doing (memory_in block)) (doing_read doing)

pub begun_length : (block : List ℕ) (doing : Doing) → length block ≡ state_words → length (begun_block block doing) ≡ state_words
unfolding begun_block
begun_length block doing l =
    ap (λ (words : List ℕ). length (over block 2 words)) (sym (words_each doing))
    ∙ by_head (λ (b : List ℕ). length (over b 2 (get_or (doing_words doing) 0 0 ∷ get_or (doing_words doing) 1 0 ∷ get_or (doing_words doing) 2 0 ∷ get_or (doing_words doing) 3 0 ∷ [])) ≡ length b)
    block (omega arith) (λ a b c d e f g i j k m rest. refl) ∙ l

-- a state with another depth
unfoldable pub with_depth : Memory → ℕ → Memory
with_depth m depth = record { nodes = m.nodes; free = m.free; last = m.last; doing = m.doing; rest = m.rest; cut = m.cut; depth = depth; totals = m.totals }

pub memory_deep : (block : List ℕ) (depth : ℕ) → length block ≡ state_words → memory_in (set block depth_at depth) ≡ with_depth (memory_in block) depth
unfolding memory_in with_depth
memory_deep block depth l =
    by_head (λ (b : List ℕ). length b ≡ state_words → memory_in (set b depth_at depth) ≡ with_depth (memory_in b) depth) block (omega arith)
    (λ n last w d e f g i j k m rest h.
    let with : List ℕ → List ℕ → List ℕ → ℕ → List ℕ → Memory = λ x y z deep totals. record {
      nodes = n;
      free = nodes_of x;
      last = last;
      doing = doing_in w d e f;
      rest = drop g (stores_of y z i);
      cut = before_zero (j ∷ k ∷ m ∷ []);
      depth = deep;
      totals = totals;
    } in
    let after : List ℕ = set rest (word_count + 146) depth in
    ap₂ (λ (x y : List ℕ). with x y (part after (word_count + 73) 73) (get_or after (word_count + 146) 0) (part after (word_count + 147) family_count))
    (before rest 0 word_count (omega arith)) (before rest word_count 73 (omega arith))
    ∙ ap₂ (λ (z : List ℕ) (deep : ℕ). with (part rest 0 word_count) (part rest word_count 73) z deep (part after (word_count + 147) family_count))
    (before rest (word_count + 73) 73 (omega arith)) (get_or-set_same rest (word_count + 146) depth 0 (omega arith))
    ∙ ap (with (part rest 0 word_count) (part rest word_count 73) (part rest (word_count + 73) 73) depth) (behind rest))
    l
  where
    before : (rest : List ℕ) (from count : ℕ) → from + count ≤ (word_count + 146) → part (set rest (word_count + 146) depth) from count ≡ part rest from count
    before rest from count h =
        same_part (set rest (word_count + 146) depth) rest from count (length-set rest (word_count + 146) depth) (λ i a b. get_or-set_other rest (word_count + 146) i depth 0 (λ z. omega arith))

    behind : (rest : List ℕ) → part (set rest (word_count + 146) depth) (word_count + 147) family_count ≡ part rest (word_count + 147) family_count
    behind rest =
        same_part (set rest (word_count + 146) depth) rest (word_count + 147) family_count (length-set rest (word_count + 146) depth)
        (λ i a b. get_or-set_other rest (word_count + 146) i depth 0 (λ z. omega arith))

-- words 0 to 10, read one by one
pub head_read : (block : List ℕ) (doing : Doing) → 11 ≤ length block → doing ≡ doing_in (block_word block 2) (block_word block 3) (block_word block 4) (block_word block 5)
    → record {
      nodes = block_word block 0;
      last = block_word block 1;
      doing = doing;
      made = block_word block 6;
      count = block_word block 7;
      cut = block_word block 8 ∷ block_word block 9 ∷ block_word block 10 ∷ [];
    } ≡ head_in block
unfolding head_in
head_read block doing h e =
    ap₂ (λ (d : Doing) (l : List ℕ). record { nodes = block_word block 0; last = block_word block 1; doing = d; made = block_word block 6; count = block_word block 7; cut = l })
    e (three block 8 (omega arith))

-- words 0 to 10, stored
abbrev headed : List ℕ → State → List ℕ
headed block s = placed 8 3 (set (set block 6 s.made) 7 s.count) s.cut

head_four : (block : List ℕ) (n l p q r s made count : ℕ) (cut : List ℕ) → 11 ≤ length block
    → placed 8 3 (set (set (over (set (set block 0 n) 1 l) 2 (p ∷ q ∷ r ∷ s ∷ [])) 6 made) 7 count) cut
    ≡ n ∷ l ∷ p ∷ q ∷ r ∷ s ∷ made ∷ count ∷ cut ++ drop 11 block
head_four block n l p q r s made count cut h =
    by_head
    (λ (b : List ℕ). placed 8 3 (set (set (over (set (set b 0 n) 1 l) 2 (p ∷ q ∷ r ∷ s ∷ [])) 6 made) 7 count) cut
    ≡ n ∷ l ∷ p ∷ q ∷ r ∷ s ∷ made ∷ count ∷ cut ++ drop 11 b)
    block h (λ a b c d e f g i j k m rest. refl)

pub head_stored : (block : List ℕ) (s : State) → 11 ≤ length block
    → headed (begun_block (set (set block 0 s.nodes) 1 s.last) s.doing) s ≡ head_words s ++ drop 11 block
unfolding begun_block head_words
head_stored block s h =
    ap (λ (words : List ℕ). headed (over (set (set block 0 s.nodes) 1 s.last) 2 words) s) (sym (words_each s.doing))
    ∙ head_four block _ _ _ _ _ _ _ _ _ h
    ∙ ap (λ (words : List ℕ). (s.nodes ∷ s.last ∷ words ++ (s.made ∷ s.count ∷ s.cut)) ++ drop 11 block) (words_each s.doing)

-- any number that is none of the four is idle
kind_idle : (what a b c : ℕ) → (what ≡ 0 → ⊥) → ltb 4 what ≡ is_idle (doing_in what a b c)
unfolding doing_in is_idle
kind_idle zero a b c p = absurd (p refl)
kind_idle (suc zero) a b c p = refl
kind_idle (suc (suc zero)) a b c p = refl
kind_idle (suc (suc (suc zero))) a b c p = refl
kind_idle (suc (suc (suc (suc zero)))) a b c p = refl
kind_idle (suc (suc (suc (suc (suc what))))) a b c p =
    let w : ℕ = suc (suc (suc (suc (suc what)))) in
    lt-ltb 4 w (omega arith) ∙ sym (simp (ne_eqb w 1 (λ z. omega arith), ne_eqb w 2 (λ z. omega arith), ne_eqb w 3 (λ z. omega arith), ne_eqb w 4 (λ z. omega arith)))

module _ (block : List ℕ) where
  pub idle_none : block_word block 2 ≡ 0 → true ≡ is_idle (memory_in block).doing
  unfolding memory_in doing_in is_idle
  idle_none e = ap (λ (what : ℕ). is_idle (doing_in what (block_word block 3) (block_word block 4) (block_word block 5))) (sym e)

  pub idle_other : (block_word block 2 ≡ 0 → ⊥) → ltb 4 (block_word block 2) ≡ is_idle (memory_in block).doing
  unfolding memory_in
  idle_other p = kind_idle (block_word block 2) (block_word block 3) (block_word block 4) (block_word block 5) p

-- ---- the words of the free nodes

bit_odd : (x : ℕ) → x < 2 → bit (eqb x 1) ≡ x
bit_odd zero h = refl
bit_odd (suc zero) h = refl
bit_odd (suc (suc x)) h = absurd (omega arith)

number_digits : (k n : ℕ) → n < 2 ^ k → number_of (digits_of k n) ≡ n
unfolding number_of digits_of
number_digits zero n h = omega arith
number_digits (suc k) n h = omega (arith, bit_odd (n % 2) (omega arith), number_digits k (n / 2) (omega (arith, pow-suc 2 k)))

pub words_nodes : (words : List ℕ) → ((i : ℕ) → get_or words i 0 < 2 ^ 32) → words_of (length words) (nodes_of words) ≡ words
unfolding words_of nodes_of
words_nodes [] h = refl
words_nodes (w ∷ words) h =
    ap₂ (λ (x : ℕ) (l : List ℕ). x ∷ l)
    (ap number_of (take_at (digits_of 32 w) (nodes_of words) 32 (length_digits 32 w)) ∙ number_digits 32 w (h 0))
    (ap (words_of (length words)) (drop_at (digits_of 32 w) (nodes_of words) 32 (length_digits 32 w)) ∙ words_nodes words (λ i. h (suc i)))

-- the other way round: as many bits as the words have
bit_parts : (b : Bool) (n : ℕ) → (eqb ((bit b + 2 * n) % 2) 1 ≡ b) × ((bit b + 2 * n) / 2 ≡ n)
bit_parts true n = (eq-eqb ((1 + 2 * n) % 2) 1 (omega arith), omega arith)
bit_parts false n = (ne_eqb ((0 + 2 * n) % 2) 1 (λ z. omega arith), omega arith)

digits_number : (bits : List Bool) → digits_of (length bits) (number_of bits) ≡ bits
unfolding number_of digits_of
digits_number [] = refl
digits_number (b ∷ bits) =
    let p = bit_parts b (number_of bits) in
    ap₂ (λ (x : Bool) (n : ℕ). x ∷ digits_of (length bits) n) p.0 p.1 ∙ ap (λ (l : List Bool). b ∷ l) (digits_number bits)

pub nodes_words : (k : ℕ) (bits : List Bool) → length bits ≡ k * 32 → nodes_of (words_of k bits) ≡ bits
unfolding words_of nodes_of
nodes_words zero [] h = refl
nodes_words zero (b ∷ bits) h = absurd (omega arith)
nodes_words (suc k) bits h =
    let front : length (take 32 bits) ≡ 32 = omega (arith, length-take 32 bits) in
    let rest : length (drop 32 bits) ≡ k * 32 = omega (arith, length-drop 32 bits) in
    ap₂ (λ (x y : List Bool). x ++ y)
    (ap (λ (n : ℕ). digits_of n (number_of (take 32 bits))) (sym front) ∙ digits_number (take 32 bits))
    (nodes_words k (drop 32 bits) rest)
    ∙ take-append-drop 32 bits

pub length_words : (k : ℕ) (bits : List Bool) → length (words_of k bits) ≡ k
unfolding words_of
length_words zero bits = refl
length_words (suc k) bits = ap suc (length_words k (drop 32 bits))

-- as many words stored as there were
pub over_placed : (block words : List ℕ) (from count : ℕ) → length words ≡ count → over block from words ≡ placed from count block words
over_placed block words from count l =
    ap (λ (rest : List ℕ). take from block ++ (words ++ rest))
    (ap (λ (n : ℕ). drop (from + n) block) l ∙ sym (drop-drop count from block))

-- a block whose words of the free nodes were stored anew
module _ (block row : List ℕ) (l : length block ≡ state_words) where
  pub free_span : length (part block free_at word_count) ≡ word_count
  free_span = omega (arith, length-take word_count (drop 11 block), length-drop 11 block)

  module _ (e : length row ≡ length (part block free_at word_count)) where
    pub freed_length : length (placed free_at word_count block row) ≡ state_words
    freed_length = placed_length block row free_at word_count (e ∙ free_span) (omega arith) ∙ l

    pub freed_after : drop back_at (placed free_at word_count block row) ≡ drop back_at block
    freed_after = placed_after block row free_at word_count (e ∙ free_span) (omega arith) back_at (omega arith)

    pub freed_part : part (placed free_at word_count block row) free_at word_count ≡ row
    freed_part = placed_part block row free_at word_count (e ∙ free_span) (omega arith)

-- ---- the totals stored anew

-- a state with other totals
unfoldable pub with_totals : Memory → List ℕ → Memory
with_totals m totals = record { nodes = m.nodes; free = m.free; last = m.last; doing = m.doing; rest = m.rest; cut = m.cut; depth = m.depth; totals = totals }

module _ (b totals : List ℕ) (l : length b ≡ state_words) (k : length totals ≡ family_count) where
  abbrev stored : List ℕ
  stored = over b totals_at totals

  stored_is : stored ≡ placed totals_at family_count b totals
  stored_is = over_placed b totals totals_at family_count k

  pub stored_length : length stored ≡ state_words
  stored_length = ap length stored_is ∙ placed_length b totals totals_at family_count k (omega arith) ∙ l

  stored_before : (j : ℕ) → j < totals_at → block_word stored j ≡ block_word b j
  stored_before j h = ap (λ (x : List ℕ). get_or x j 0) stored_is ∙ placed_before b totals totals_at family_count k (omega arith) j h

  pub stored_part : (from n : ℕ) → from + n ≤ totals_at → part stored from n ≡ part b from n
  stored_part from n h = same_part stored b from n (stored_length ∙ sym l) (λ j u v. stored_before j (omega arith))

  pub stored_after : drop back_at stored ≡ drop back_at b
  stored_after = ap (drop back_at) stored_is ∙ placed_after b totals totals_at family_count k (omega arith) back_at (omega arith)

  pub stored_totals : part stored totals_at family_count ≡ totals
  stored_totals = ap (λ (x : List ℕ). part x totals_at family_count) stored_is ∙ placed_part b totals totals_at family_count k (omega arith)

pub memory_totals : (b totals : List ℕ) → length b ≡ state_words → length totals ≡ family_count → memory_in (over b totals_at totals) ≡ with_totals (memory_in b) totals
unfolding memory_in with_totals
memory_totals block totals len k =
    by_head (λ (b : List ℕ). length b ≡ state_words → memory_in (over b totals_at totals) ≡ with_totals (memory_in b) totals) block (omega arith)
    (λ n last w d e f g i j q m rest h.
    let b : List ℕ = n ∷ last ∷ w ∷ d ∷ e ∷ f ∷ g ∷ i ∷ j ∷ q ∷ m ∷ rest in
    let with : List ℕ → List ℕ → List ℕ → ℕ → List ℕ → Memory = λ x y z deep t. record {
      nodes = n;
      free = nodes_of x;
      last = last;
      doing = doing_in w d e f;
      rest = drop g (stores_of y z i);
      cut = before_zero (j ∷ q ∷ m ∷ []);
      depth = deep;
      totals = t;
    } in
    let s : List ℕ = over b totals_at totals in
    ap₂ (λ (x y : List ℕ). with x y (part s values_at 73) (block_word s depth_at) (part s totals_at family_count))
    (stored_part b totals h k free_at word_count (omega arith)) (stored_part b totals h k places_at 73 (omega arith))
    ∙ ap₂ (λ (z : List ℕ) (deep : ℕ). with (part b free_at word_count) (part b places_at 73) z deep (part s totals_at family_count))
    (stored_part b totals h k values_at 73 (omega arith)) (stored_before b totals h k depth_at (omega arith))
    ∙ ap (with (part b free_at word_count) (part b places_at 73) (part b values_at 73) (block_word b depth_at)) (stored_totals b totals h k))
    len

-- the totals of a first change in hand, and of any other work
pub settled_long : (doing : Doing) (totals : List ℕ) → length (settled_totals doing totals) ≡ length totals
unfolding settled_totals settled_in settled_out several_in
settled_long Idle totals = refl
settled_long (Formatting made) totals = refl
settled_long (Inserting key value NotBegun) totals = refl
settled_long (Inserting key value InHand) totals = length-set totals _ _
settled_long (Inserting key value Decided) totals = refl
settled_long (Deleting key NotBegun value) totals = refl
settled_long (Deleting key InHand value) totals = length-set totals _ _
settled_long (Deleting key Decided value) totals = refl
settled_long (Repairing key) totals = refl

-- ---- a state with no change planned

module _ (n : ℕ) (free : List ℕ) (last : ℕ) (totals after : List ℕ) (long : length free ≡ word_count) (all : length totals ≡ family_count) where
  -- what stands behind the words of the free nodes
  abbrev tail : List ℕ
  tail = replicate rest_words 0 ++ (totals ++ after)

  resting_four : (p q r s : ℕ) → memory_in (n ∷ last ∷ p ∷ q ∷ r ∷ s ∷ 0 ∷ 0 ∷ 0 ∷ 0 ∷ 0 ∷ free ++ tail) ≡ resting n (nodes_of free) last totals (doing_in p q r s)
  unfolding memory_in resting stores_of zip
  resting_four p q r s =
      ap₂ (λ (l : List ℕ) (d : ℕ). record {
        nodes = n;
        free = nodes_of l;
        last = last;
        doing = doing_in p q r s;
        rest = [];
        cut = [];
        depth = d;
        totals = take family_count (drop (word_count + 147) (free ++ tail));
      })
      (take_at free tail word_count long)
      (append_after free tail 146 (word_count + 146) (omega arith))
      ∙ ap (λ (l : List ℕ). record { nodes = n; free = nodes_of free; last = last; doing = doing_in p q r s; rest = []; cut = []; depth = 0; totals = l }) behind
    where
      behind : take family_count (drop (word_count + 147) (free ++ tail)) ≡ totals
      behind =
          ap (take family_count) (sym (drop-drop 147 word_count (free ++ tail)) ∙ ap (drop 147) (drop_at free tail word_count long)
          ∙ drop_at (replicate rest_words 0) (totals ++ after) 147 refl)
          ∙ take_at totals after family_count all

  pub memory_resting : (doing : Doing) → memory_in (resting_words n free last (totals ++ after) doing) ≡ resting n (nodes_of free) last totals doing
  unfolding resting_words
  memory_resting doing =
      ap (λ (words : List ℕ). memory_in (n ∷ last ∷ words ++ (0 ∷ 0 ∷ 0 ∷ 0 ∷ 0 ∷ free ++ tail))) (sym (words_each doing)) ∙ resting_four _ _ _ _
      ∙ ap (resting n (nodes_of free) last totals) (doing_read doing)

-- of a card with one line
pub resting_block_lem : (before : List ℕ) (n : ℕ) (free : List ℕ) (last : ℕ) (totals : List ℕ) (doing : Doing) → length free ≡ word_count → ((i : ℕ) → get_or free i 0 < 2 ^ 32)
    → resting_words n free last (totals ++ 0 ∷ drop back_at before) doing ≡ resting_block before (resting n (nodes_of free) last totals doing)
unfolding resting_block resting
resting_block_lem before n free last totals doing long h =
    ap (λ (l : List ℕ). resting_words n l last (totals ++ 0 ∷ drop back_at before) doing) (sym (ap (λ (k : ℕ). words_of k (nodes_of free)) (sym long) ∙ words_nodes free h))

-- it does not go by the words before these
pub resting_same : (a b : List ℕ) (m : Memory) → drop back_at a ≡ drop back_at b → resting_block a m ≡ resting_block b m
unfolding resting_block
resting_same a b m e = ap (λ (x : List ℕ). resting_words m.nodes (words_of word_count m.free) m.last (m.totals ++ 0 ∷ x) m.doing) e

-- "Opening or starting to format, refused, hands back an idle state for N = 0": zeros
pub none_block : (before : List ℕ) → replicate back_at 0 ++ drop back_at before ≡ resting_block before no_memory
unfolding resting_block resting_words no_memory doing_words words_of number_of all_nodes
none_block before = refl

pub memory_none : (after : List ℕ) → memory_in (replicate back_at 0 ++ after) ≡ no_memory
unfolding memory_in no_memory doing_in nodes_of digits_of all_nodes stores_of zip
memory_none after = refl

-- the stores that make it: words 0 and 1, what is being done, words 6 to 10, and the rows
abbrev numbered : List ℕ → ℕ → ℕ → List ℕ
numbered block n last = set (set block 0 n) 1 last

rest_four : (block zeros : List ℕ) (n last p q r s : ℕ) → length block ≡ state_words → zeros ≡ replicate rest_words 0
    → placed places_at rest_words (placed 6 5 (over (numbered block n last) 2 (p ∷ q ∷ r ∷ s ∷ [])) (replicate 5 0)) zeros
    ≡ n ∷ last ∷ p ∷ q ∷ r ∷ s ∷ 0 ∷ 0 ∷ 0 ∷ 0 ∷ 0 ∷ part block free_at word_count ++ (replicate rest_words 0 ++ drop totals_at block)
rest_four block zeros n last p q r s len z =
    by_head
    (λ (x : List ℕ). length x ≡ state_words
    → placed places_at rest_words (placed 6 5 (over (numbered x n last) 2 (p ∷ q ∷ r ∷ s ∷ [])) (replicate 5 0)) zeros
    ≡ n ∷ last ∷ p ∷ q ∷ r ∷ s ∷ 0 ∷ 0 ∷ 0 ∷ 0 ∷ 0 ∷ part x free_at word_count ++ (replicate rest_words 0 ++ drop totals_at x))
    block (omega (arith, len))
    (λ a b c d e f g i j k l rest h.
    ap (λ (t : List ℕ). n ∷ last ∷ p ∷ q ∷ r ∷ s ∷ 0 ∷ 0 ∷ 0 ∷ 0 ∷ 0 ∷ take word_count rest ++ t) (ap₂ (λ (x y : List ℕ). x ++ y) z (drop-drop rest_words word_count rest)))
    len

-- the words from the totals on, of a block that says that its card has one line
one_line : (block : List ℕ) → length block ≡ state_words → drop totals_at (set block lines_at 0) ≡ part block totals_at family_count ++ 0 ∷ drop back_at block
one_line block len =
    drop-set-add totals_at block family_count 0
    ∙ ap (λ (l : List ℕ). set l family_count 0) (sym (take-append-drop family_count (drop totals_at block)) ∙ ap (λ (l : List ℕ). part block totals_at family_count ++ l)
    (drop-drop family_count totals_at block ∙ drop-cons block lines_at 0 (omega arith)))
    ∙ set_at (part block totals_at family_count) (drop back_at block) (get_or block lines_at 0) family_count
    (omega (arith, length-take family_count (drop totals_at block), length-drop totals_at block))
  where
    set_at : (xs ys : List ℕ) (y i : ℕ) → length xs ≡ i → set (xs ++ y ∷ ys) i 0 ≡ xs ++ 0 ∷ ys
    set_at [] ys y i e = ap (λ (k : ℕ). set (y ∷ ys) k 0) (sym e)
    set_at (x ∷ xs) ys y zero e = absurd (omega arith)
    set_at (x ∷ xs) ys y (suc i) e = ap (λ (l : List ℕ). x ∷ l) (set_at xs ys y i (omega arith))

-- another word of the block in it changes neither the free nodes nor the totals before it
free_before : (block : List ℕ) → part (set block lines_at 0) free_at word_count ≡ part block free_at word_count
free_before block = same_part (set block lines_at 0) block free_at word_count (length-set block lines_at 0) (λ i a b. get_or-set_other block lines_at i 0 0 (λ z. omega arith))

pub rest_stored : (block five zeros : List ℕ) (n last : ℕ) (doing : Doing) → length block ≡ state_words → five ≡ replicate 5 0 → zeros ≡ replicate rest_words 0
    → placed places_at rest_words (placed 6 5 (begun_block (numbered (set block lines_at 0) n last) doing) five) zeros
    ≡ resting_words n (part block free_at word_count) last (part block totals_at family_count ++ 0 ∷ drop back_at block) doing
unfolding begun_block resting_words
rest_stored block five zeros n last doing len e z =
    ap₂ (λ (words l : List ℕ). placed places_at rest_words (placed 6 5 (over (numbered (set block lines_at 0) n last) 2 words) l) zeros) (sym (words_each doing)) e
    ∙ rest_four (set block lines_at 0) zeros n last _ _ _ _ (length-set block lines_at 0 ∙ len) z
    ∙ ap (λ (words : List ℕ). n ∷ last ∷ words
    ++ (0 ∷ 0 ∷ 0 ∷ 0 ∷ 0 ∷ part (set block lines_at 0) free_at word_count ++ (replicate rest_words 0 ++ drop totals_at (set block lines_at 0))))
    (words_each doing)
    ∙ ap₂ (λ (x y : List ℕ). n ∷ last ∷ doing_words doing ++ (0 ∷ 0 ∷ 0 ∷ 0 ∷ 0 ∷ x ++ (replicate rest_words 0 ++ y))) (free_before block) (one_line block len)
