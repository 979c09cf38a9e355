-- Laws of the key in a file: where the last line stands, and what a digit more does to a value.
use mathlib.Core.Path.{◌≡◌, refl, sym, ap, ◌∙◌}
use mathlib.Core.Bool.{Bool, true, false, ◌&&◌, ◌||◌}
use mathlib.Core.List.{List, [], ◌∷◌, ◌++◌, append_assoc}
use Prim.Native.Nat.{ℕ, zero, suc, ◌+◌, ◌-◌, ◌*◌, ◌^◌, ◌≤◌, ◌<◌}
use native.Mathlib.Nat.{zero-mul, add-mul, mul_assoc, mul_left_comm, pow-succ', one-le-pow, le-mul_of_pos_right}
use native.Mathlib.Numerals.{add-one}
use native.Mathlib.Omega.{arith}
use lib.ListN.{length, get_or, take, drop, length-append, drop_of_length-le}
use lib.Seq.{drop-cons, drop_at, get_or-drop}
use lib.Pointwise.{pointwise}
use denote.Ref.{Bor}
use Rattle.std.specs.Prelude.{Option, Some, None, MatchOption, unwrap_or}
use Rattle.std.specs.List.{IsAfterLastMatch}
use Rattle.std.specs.Bool.{MatchBool}
use lib.Dec.{eqb, leb, ltb}
use borrow.Author.Tests.{eq-eqb, ne_eqb, le-leb, lt-leb, lt-ltb, le-ltb, ltb-true, eqb-true}
use Rattle.std.specs.Char.{is_ascii_digit}
use Rattle.std.proofs.lemmas.Bool.Decides.{nat_tests}
use Rattle.laws.specs.Cases.{pick}
use Rattle.laws.proofs.Cases.{bool_cases, order, and_true}
use Rattle.card.specs.Layout.{lowest_key, key_limit}
use Rattle.reason_key.specs.KeyFile.{most_bytes, line_feed_byte, without_final_feed, has_feed, last_line, is_digit, all_digits, decimal_value, is_key_line, key_of_line, key_in}

and_false : (a : Bool) → (a && false) ≡ false
and_false true = refl
and_false false = refl

or_right : (a : Bool) → (a || true) ≡ true
or_right true = refl
or_right false = refl

-- ---- the final line feed, whose place is the last

final_feed : (file : List ℕ) (last : ℕ) → length file ≡ suc last → get_or file last 0 ≡ line_feed_byte → take last file ≡ without_final_feed file
unfolding without_final_feed
final_feed [] last h e = absurd (omega arith)
final_feed (byte ∷ []) zero h e = rw (eq-eqb byte line_feed_byte e)
final_feed (byte ∷ []) (suc last) h e = absurd (omega arith)
final_feed (byte ∷ next ∷ bytes) zero h e = absurd (omega arith)
final_feed (byte ∷ next ∷ bytes) (suc last) h e = ap (λ (l : List ℕ). byte ∷ l) (final_feed (next ∷ bytes) last (omega arith) e)

no_final_feed : (file : List ℕ) (last : ℕ) → length file ≡ suc last → (get_or file last 0 ≡ line_feed_byte → ⊥) → file ≡ without_final_feed file
unfolding without_final_feed
no_final_feed [] last h d = refl
no_final_feed (byte ∷ []) zero h d = rw (ne_eqb byte line_feed_byte d)
no_final_feed (byte ∷ []) (suc last) h d = absurd (omega arith)
no_final_feed (byte ∷ next ∷ bytes) zero h d = absurd (omega arith)
no_final_feed (byte ∷ next ∷ bytes) (suc last) h d = ap (λ (l : List ℕ). byte ∷ l) (no_final_feed (next ∷ bytes) last (omega arith) d)

no_bytes : (file : List ℕ) → length file ≡ 0 → file ≡ without_final_feed file
unfolding without_final_feed
no_bytes [] h = refl
no_bytes (byte ∷ bytes) h = absurd (omega arith)

-- whether the last byte is a line feed, as the library tells it
ends_fed : (file : List ℕ) (last : ℕ) → length file ≡ suc last → pointwise eqb (drop last file) (line_feed_byte ∷ []) ≡ (eqb (get_or file last 0) line_feed_byte && true)
ends_fed file last h = rw (drop-cons file last 0 (omega arith), drop_of_length-le file {i = suc last} (omega arith)) refl

-- what `strip_suffix` answers
pub stripped : (file : Bor (List ℕ)) (o : Option (Bor (List ℕ)))
    → MatchOption o (pointwise eqb (drop (length file.now - 1) file.now) (line_feed_byte ∷ []) ≡ false)
    (λ x. (pointwise eqb (drop (length file.now - 1) file.now) (line_feed_byte ∷ []) ≡ true) × (x.now ≡ take (length file.now - 1) file.now) × (length x.now + 1 ≡ length file.now))
    → (unwrap_or o file).now ≡ without_final_feed file.now
stripped file None h =
    order (length file.now) 1 (λ o. no_bytes file.now (omega arith))
    (λ o.
    let l : length file.now ≡ suc (length file.now - 1) = omega arith in
    no_final_feed file.now (length file.now - 1) l (λ e. let t = ends_fed file.now _ l ∙ ap (λ (b : Bool). b && true) (eq-eqb _ _ e) in cc))
stripped file (Some x) h =
    let l : length file.now ≡ suc (length file.now - 1) = omega arith in
    h.1 ∙ final_feed file.now (length file.now - 1) l (eqb-true _ _ (and_true (eqb _ _) true (sym (ends_fed file.now _ l) ∙ h.0)).0)

-- ---- the last line

-- no byte is a line feed
no_feed : (text : List ℕ) → ((k : ℕ) → k < length text → eqb (get_or text k 0) line_feed_byte ≡ false) → has_feed text ≡ false
unfolding has_feed
no_feed [] h = refl
no_feed (byte ∷ bytes) h = rw (h 0 (omega arith), no_feed bytes (λ k l. h (suc k) (omega arith))) refl

feed_there : (text : List ℕ) (place : ℕ) → place < length text → get_or text place 0 ≡ line_feed_byte → has_feed text ≡ true
unfolding has_feed
feed_there [] place h e = absurd (omega arith)
feed_there (byte ∷ bytes) zero h e = rw (eq-eqb byte line_feed_byte e)
feed_there (byte ∷ bytes) (suc place) h e = rw (feed_there bytes place (omega arith) e) (or_right (eqb byte line_feed_byte))

pub line_whole : (text : List ℕ) → has_feed text ≡ false → text ≡ last_line text
unfolding last_line
line_whole [] n = refl
line_whole (byte ∷ bytes) n = rw n

line_later : (byte : ℕ) (bytes : List ℕ) → has_feed (byte ∷ bytes) ≡ true → last_line bytes ≡ last_line (byte ∷ bytes)
unfolding last_line
line_later byte bytes f = rw f

-- after a line feed that none follows
line_after : (text : List ℕ) (place : ℕ) → place < length text → get_or text place 0 ≡ line_feed_byte → has_feed (drop (suc place) text) ≡ false → drop (suc place) text ≡ last_line text
line_after [] place h e n = absurd (omega arith)
line_after (byte ∷ bytes) zero h e n = line_whole bytes n ∙ line_later byte bytes (feed_there (byte ∷ bytes) 0 h e)
line_after (byte ∷ bytes) (suc place) h e n = line_after bytes place (omega arith) e n ∙ line_later byte bytes (feed_there (byte ∷ bytes) (suc place) h e)

-- what the first part of `rsplit` is
pub line_last : (text front line : List ℕ) → text ≡ front ++ line → IsAfterLastMatch (λ b. eqb b line_feed_byte) text (length text - length line) → line ≡ last_line text
line_last text front line e h =
    let at : length text - length line ≡ length front = omega (arith, ap length e, length-append front line) in
    let rest : drop (length front) text ≡ line = ap (drop (length front)) e ∙ drop_at front line (length front) refl in
    let after : has_feed line ≡ false =
    no_feed line (λ k l.
    ap (λ (x : ℕ). eqb x line_feed_byte) (ap (λ (t : List ℕ). get_or t k 0) (sym rest) ∙ get_or-drop (length front) text k 0)
    ∙ h.0 (length front + k) 0 (omega arith) (omega (arith, ap length e, length-append front line))) in
    order 0 (length front)
    (λ some.
    let place : length front ≡ suc (length front - 1) = omega arith in
    sym rest ∙ ap (λ (k : ℕ). drop k text) place
    ∙ line_after text (length front - 1) (omega (arith, ap length e, length-append front line)) (eqb-true _ _ (rw at at h.1 (omega arith) 0))
    (rw (← place) (rw rest after)))
    (λ none. let whole = let z : length front ≡ 0 = omega arith in rw z at rest in sym whole ∙ line_whole text (rw whole after))

-- what stands before it
pub line_front : (done : Bool) (text rest line : List ℕ) → MatchBool done (text ≡ line) ((byte : ℕ) × (text ≡ rest ++ (byte ∷ line))) → (front : List ℕ) × (text ≡ front ++ line)
line_front true text rest line e = ([], e)
line_front false text rest line h = (rest ++ h.0 ∷ [], h.1 ∙ sym (append_assoc rest (h.0 ∷ []) line))

-- the first part that `rsplit` gives
pub first_part : (text : Bor (List ℕ)) (o : Option (Bor (List ℕ))) (Done : Type 0) (Part : Bor (List ℕ) → Type 0) → MatchOption o Done Part → (Done → ⊥)
    → ((line : Bor (List ℕ)) → Part line → line.now ≡ last_line text.now) → (unwrap_or o text).now ≡ last_line text.now
first_part text None Done Part h n s = absurd (n h)
first_part text (Some line) Done Part h n s = s line h

-- ---- digits

-- the library's test is the one of the papers
pub digit_test : (byte : ℕ) → is_ascii_digit byte ≡ is_digit byte
unfolding is_digit
digit_test byte = grind (arith, nat_tests)

pub digits_next : (line : List ℕ) (i : ℕ) → i < length line → is_digit (get_or line i 0) ≡ true → all_digits (drop i line) ≡ all_digits (drop (i + 1) line)
unfolding all_digits
digits_next line i h d = rw (add-one i, drop-cons line i 0 h, d)

pub digits_stop : (line : List ℕ) (i : ℕ) → i < length line → is_digit (get_or line i 0) ≡ false → all_digits (drop i line) ≡ false
unfolding all_digits
digits_stop line i h d = rw (drop-cons line i 0 h, d)

pub digits_end : (line : List ℕ) (i : ℕ) → length line ≤ i → all_digits (drop i line) ≡ true
unfolding all_digits
digits_end line i h = rw (drop_of_length-le line {i = i} h)

-- ---- the value of digits that follow others, which are worth `value`

abbrev pub continued : ℕ → List ℕ → ℕ
continued value rest = value * 10 ^ length rest + decimal_value rest

pub continued_start : (line : List ℕ) → decimal_value line ≡ continued 0 line
continued_start line = omega (arith, zero-mul (10 ^ length line))

one_digit : (value digit power rest : ℕ) → value * (10 * power) + (digit * power + rest) ≡ (10 * value + digit) * power + rest
one_digit value digit power rest = omega (arith, add-mul (10 * value) digit power, mul_assoc 10 value power, mul_left_comm value 10 power)

pub continued_next : (line : List ℕ) (i value digit : ℕ) → i < length line → digit ≡ get_or line i 0 - 48 → continued value (drop i line) ≡ continued (10 * value + digit) (drop (i + 1) line)
unfolding decimal_value
continued_next line i value digit h e =
    let rest = drop (suc i) line in
    rw (add-one i, drop-cons line i 0 h, pow-succ' 10 (length rest), e) (one_digit value (get_or line i 0 - 48) (10 ^ length rest) (decimal_value rest))

pub continued_end : (line : List ℕ) (i value : ℕ) → length line ≤ i → continued value (drop i line) ≡ value
unfolding decimal_value
continued_end line i value h = rw (drop_of_length-le line {i = i} h) (omega arith)

-- the value only grows
pub continued_least : (value : ℕ) (rest : List ℕ) → value ≤ continued value rest
continued_least value rest = omega (arith, le-mul_of_pos_right value (one-le-pow (length rest) 10 (omega arith)))

-- ---- the key

module _ (line : List ℕ) where
  pub key_other : all_digits line ≡ false → 0 ≡ key_of_line line
  unfolding key_of_line is_key_line
  key_other n = rw n

  pub key_great : key_limit ≤ decimal_value line → 0 ≡ key_of_line line
  unfolding key_of_line is_key_line
  key_great h = rw (le-ltb (decimal_value line) key_limit h, and_false (leb lowest_key (decimal_value line)), and_false (all_digits line))

  pub key_found : (value : ℕ) → all_digits line ≡ true → decimal_value line ≡ value → value < key_limit → value ≡ key_of_line line
  unfolding key_of_line is_key_line
  key_found value d e h =
      order value lowest_key (λ none. rw (d, e, lt-leb lowest_key value none) (omega arith))
      (λ some. rw (d, e, le-leb lowest_key value some, lt-ltb value key_limit h))

  line_below : key_of_line line < key_limit
  unfolding key_of_line is_key_line
  line_below = go (is_key_line line) refl
    where
      go : (b : Bool) → is_key_line line ≡ b → pick b (decimal_value line) 0 < key_limit
      go true e = ltb-true (decimal_value line) key_limit (and_true (leb lowest_key (decimal_value line)) (ltb (decimal_value line) key_limit) (and_true (all_digits line) _ e).1).1
      go false e = omega arith

module _ (file : List ℕ) where
  pub key_longer : most_bytes < length file → 0 ≡ key_in file
  unfolding key_in
  key_longer h = rw (lt-leb (length file) most_bytes h)

  pub key_within : length file ≤ most_bytes → key_of_line (last_line (without_final_feed file)) ≡ key_in file
  unfolding key_in
  key_within h = rw (le-leb (length file) most_bytes h)

  -- "from 1 to 4,294,967,295", or 0, which is no key
  pub key_below : key_in file < key_limit
  unfolding key_in
  key_below = bool_cases (leb (length file) most_bytes) (λ yes. rw yes (line_below (last_line (without_final_feed file)))) (λ no. rw no (omega arith))
