-- The definitions at work: a text of each kind.
use mathlib.Core.Path.{◌≡◌, refl}
use mathlib.Core.List.{[], ◌∷◌}
use Rattle.text_row.specs.Lines.{digits_from, digit_count, decimal, line_feed, free_word, refused_word, number_line, refusal_line}
use Rattle.reason.specs.Reason.{Refused, NoKey, Held, Slot, Split}
use Rattle.reason_text.specs.ReasonText.{no_key_word, held_word, slot_word, split_word, need_word, split_line, reason_text}

-- "split 1 free 3 need 6"
example_split : reason_text (Split 1 3 6) ≡ 115 ∷ 112 ∷ 108 ∷ 105 ∷ 116 ∷ 32 ∷ 49 ∷ 32 ∷ 102 ∷ 114 ∷ 101 ∷ 101 ∷ 32 ∷ 51 ∷ 32 ∷ 110 ∷ 101 ∷ 101 ∷ 100 ∷ 32 ∷ 54 ∷ 10 ∷ []
unfolding reason_text split_line split_word free_word need_word line_feed decimal digit_count digits_from
example_split = refl

-- "held 70"
example_held : reason_text (Held 70) ≡ 104 ∷ 101 ∷ 108 ∷ 100 ∷ 32 ∷ 55 ∷ 48 ∷ 10 ∷ []
unfolding reason_text number_line held_word line_feed decimal digit_count digits_from
example_held = refl

-- "slot"
example_slot : reason_text Slot ≡ 115 ∷ 108 ∷ 111 ∷ 116 ∷ 10 ∷ []
unfolding reason_text slot_word line_feed
example_slot = refl

-- "no key"
example_no_key : reason_text NoKey ≡ 110 ∷ 111 ∷ 32 ∷ 107 ∷ 101 ∷ 121 ∷ 10 ∷ []
unfolding reason_text no_key_word line_feed
example_no_key = refl

-- "refused 11"
example_refused : reason_text (Refused 11) ≡ 114 ∷ 101 ∷ 102 ∷ 117 ∷ 115 ∷ 101 ∷ 100 ∷ 32 ∷ 49 ∷ 49 ∷ 10 ∷ []
unfolding reason_text refusal_line number_line refused_word line_feed decimal digit_count digits_from
example_refused = refl
