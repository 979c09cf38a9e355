-- The definitions at work on small files.
use mathlib.Core.Path.{◌≡◌, refl}
use mathlib.Core.List.{[], ◌∷◌, ◌++◌}
use lib.ListN.{replicate}
use Rattle.reason_key.specs.KeyFile.{without_final_feed, has_feed, last_line, is_digit, all_digits, decimal_value, is_key_line, key_of_line, key_in}

-- "17" and a line feed
example_line : key_in (49 ∷ 55 ∷ 10 ∷ []) ≡ 17
unfolding key_in without_final_feed last_line has_feed key_of_line is_key_line all_digits is_digit decimal_value
example_line = refl

-- "5", a line feed, "017": "the last line", "leading zeros allowed"
example_last : key_in (53 ∷ 10 ∷ 48 ∷ 49 ∷ 55 ∷ []) ≡ 17
unfolding key_in without_final_feed last_line has_feed key_of_line is_key_line all_digits is_digit decimal_value
example_last = refl

-- "17" and two line feeds: one only is set apart, and the last line is empty
example_empty_line : key_in (49 ∷ 55 ∷ 10 ∷ 10 ∷ []) ≡ 0
unfolding key_in without_final_feed last_line has_feed key_of_line is_key_line all_digits is_digit decimal_value
example_empty_line = refl

-- "4294967295", the greatest key, and "4294967296"
example_greatest : key_in (52 ∷ 50 ∷ 57 ∷ 52 ∷ 57 ∷ 54 ∷ 55 ∷ 50 ∷ 57 ∷ 53 ∷ []) ≡ 4294967295
unfolding key_in without_final_feed last_line has_feed key_of_line is_key_line all_digits is_digit decimal_value
example_greatest = refl

example_greater : key_in (52 ∷ 50 ∷ 57 ∷ 52 ∷ 57 ∷ 54 ∷ 55 ∷ 50 ∷ 57 ∷ 54 ∷ []) ≡ 0
unfolding key_in without_final_feed last_line has_feed key_of_line is_key_line all_digits is_digit decimal_value
example_greater = refl

-- "0": a key is at least 1
example_zero : key_in (48 ∷ []) ≡ 0
unfolding key_in without_final_feed last_line has_feed key_of_line is_key_line all_digits is_digit decimal_value
example_zero = refl

-- " 17", and "17" with a carriage return before its line feed: "digits only"
example_space : key_in (32 ∷ 49 ∷ 55 ∷ []) ≡ 0
unfolding key_in without_final_feed last_line has_feed key_of_line is_key_line all_digits is_digit decimal_value
example_space = refl

example_carriage_return : key_in (49 ∷ 55 ∷ 13 ∷ 10 ∷ []) ≡ 0
unfolding key_in without_final_feed last_line has_feed key_of_line is_key_line all_digits is_digit decimal_value
example_carriage_return = refl

-- a file without a byte
example_empty : key_in [] ≡ 0
unfolding key_in without_final_feed last_line has_feed key_of_line is_key_line all_digits is_digit decimal_value
example_empty = refl

-- 62 zeros, "17" and a line feed are 65 bytes, "longer"; with one zero less they are 64
example_longer : key_in (replicate 62 48 ++ 49 ∷ 55 ∷ 10 ∷ []) ≡ 0
unfolding key_in without_final_feed last_line has_feed key_of_line is_key_line all_digits is_digit decimal_value
example_longer = refl

example_longest : key_in (replicate 61 48 ++ 49 ∷ 55 ∷ 10 ∷ []) ≡ 17
unfolding key_in without_final_feed last_line has_feed key_of_line is_key_line all_digits is_digit decimal_value
example_longest = refl
