-- THE LINE `split J free F need M` TELLS ITS NUMBERS: no other reason is printed so, and no other numbers are.
use mathlib.Core.Path.{◌≡◌, sym, ◌∙◌}
use mathlib.Core.List.{List, [], ◌∷◌, ◌++◌, append_assoc}
use Prim.Native.Nat.{ℕ}
use native.Mathlib.Omega.{arith}
use Rattle.text_row.specs.Lines.{decimal, line_feed, free_word, refused_word, number_line, refusal_line}
use Rattle.text_row.proofs.Telling.{number_told}
use Rattle.reason.specs.Reason.{Reason}
use Rattle.reason.specs.Reason.{Refused, NoKey, Held, Slot, Split}
use Rattle.reason_text.specs.ReasonText.{no_key_word, held_word, slot_word, split_word, need_word, split_line, reason_text}

-- the line byte by byte, from "need " on, from "free " on, and whole
abbrev from_need : ℕ → List ℕ
from_need need = 110 ∷ 101 ∷ 101 ∷ 100 ∷ 32 ∷ (decimal need ++ (10 ∷ []))

abbrev from_free : ℕ → ℕ → List ℕ
from_free free need = 102 ∷ 114 ∷ 101 ∷ 101 ∷ 32 ∷ (decimal free ++ (32 ∷ from_need need))

abbrev from_split : ℕ → ℕ → ℕ → List ℕ
from_split run free need = 115 ∷ 112 ∷ 108 ∷ 105 ∷ 116 ∷ 32 ∷ (decimal run ++ (32 ∷ from_free free need))

regroup : (a b c d e f g : List ℕ) → (a ++ b) ++ (c ++ d) ++ (e ++ f) ++ g ≡ a ++ (b ++ (c ++ (d ++ (e ++ (f ++ g)))))
regroup a b c d e f g = simp append_assoc

line_is : (run free need : ℕ) → split_line run free need ≡ from_split run free need
unfolding split_line split_word free_word need_word line_feed
line_is run free need = regroup split_word (decimal run) free_word (decimal free) need_word (decimal need) line_feed

same_numbers : (j f n j' f' n' : ℕ) → split_line j f n ≡ split_line j' f' n' → Split j f n ≡ Split j' f' n'
same_numbers j f n j' f' n' e =
    let whole : from_split j f n ≡ from_split j' f' n' = sym (line_is j f n) ∙ e ∙ line_is j' f' n' in
    let first : decimal j ++ (32 ∷ from_free f n) ≡ decimal j' ++ (32 ∷ from_free f' n') = cc in
    let a = number_told 32 (omega arith) j j' (from_free f n) (from_free f' n') first in
    let frees : from_free f n ≡ from_free f' n' = a.1 in
    let second : decimal f ++ (32 ∷ from_need n) ≡ decimal f' ++ (32 ∷ from_need n') = cc in
    let b = number_told 32 (omega arith) f f' (from_need n) (from_need n') second in
    let needs : from_need n ≡ from_need n' = b.1 in
    let third : decimal n ++ (10 ∷ []) ≡ decimal n' ++ (10 ∷ []) = cc in
    let d = number_told 10 (omega arith) n n' [] [] third in
    let x : j ≡ j' = a.0 in
    let y : f ≡ f' = b.0 in
    let z : n ≡ n' = d.0 in
    cc

pub split_told : (r : Reason) (j f n : ℕ) → reason_text r ≡ split_line j f n → r ≡ Split j f n
unfolding reason_text refusal_line number_line refused_word held_word no_key_word slot_word split_line split_word
split_told (Refused number) j f n e = let z : ◌≡◌ {A = ℕ} 114 115 = cc in absurd (omega arith)
split_told NoKey j f n e = let z : ◌≡◌ {A = ℕ} 110 115 = cc in absurd (omega arith)
split_told (Held value) j f n e = let z : ◌≡◌ {A = ℕ} 104 115 = cc in absurd (omega arith)
split_told Slot j f n e = let z : ◌≡◌ {A = ℕ} 108 112 = cc in absurd (omega arith)
split_told (Split j' f' n') j f n e = same_numbers j' f' n' j f n e
