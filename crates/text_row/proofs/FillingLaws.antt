-- Laws of a row that is being filled: two fillings in a row, all bytes at once, the row afterwards, and where a number ends.
use mathlib.Core.Path.{◌≡◌, refl, ap, ap₂, sym, ◌∙◌}
use mathlib.Core.List.{List, [], ◌∷◌, ◌++◌, append_assoc}
use Prim.Native.Nat.{ℕ, suc, ◌+◌, ◌-◌, ◌≤◌}
use native.Mathlib.Omega.{arith}
use lib.ListN.{length, set, take, drop, length-append}
use lib.Seq.{drop-drop, sets, sets-eq}
use Rattle.text_row.specs.Filling.{Filled, filled, fill}
use Rattle.text_row.specs.Lines.{decimal}

pub fill_append : (a b : List ℕ) (f : Filled) → fill (a ++ b) f ≡ fill b (fill a f)
unfolding fill
fill_append [] b f = refl
fill_append (x ∷ a) b f = fill_append a b (filled (suc f.at) (set f.row f.at x))

fill_at : (bytes : List ℕ) (f : Filled) → (fill bytes f).at ≡ f.at + length bytes
unfolding fill
fill_at [] f = omega arith
fill_at (x ∷ bytes) f = omega (arith, fill_at bytes (filled (suc f.at) (set f.row f.at x)))

fill_sets : (bytes : List ℕ) (f : Filled) → (fill bytes f).row ≡ sets f.row f.at bytes
unfolding fill
fill_sets [] f = refl
fill_sets (x ∷ bytes) f = fill_sets bytes (filled (suc f.at) (set f.row f.at x))

-- the bytes all at once, over the part of the row where they go
pub fill_part : (bytes row : List ℕ) (at : ℕ) → at + length bytes ≤ length row
    → filled (at + length bytes) (take at row ++ (bytes ++ drop (at + length bytes - at) (drop at row))) ≡ fill bytes (filled at row)
fill_part bytes row at h =
    let rest : drop (at + length bytes - at) (drop at row) ≡ drop (at + length bytes) row =
    drop-drop (at + length bytes - at) at row ∙ ap (λ (k : ℕ). drop k row) (let z : at + (at + length bytes - at) ≡ at + length bytes = omega arith in z) in
    ap₂ filled (sym (fill_at bytes (filled at row)))
    (ap (λ (l : List ℕ). take at row ++ (bytes ++ l)) rest ∙ sym (append_assoc (take at row) bytes (drop (at + length bytes) row)) ∙ sym (sets-eq bytes row at h)
    ∙ sym (fill_sets bytes (filled at row)))

-- what one call after another puts, and where the next byte goes
pub fill_then : (a b : List ℕ) (f : Filled) {r s : ℕ} {first second : List ℕ} → filled r first ≡ fill a f → filled s second ≡ fill b (filled r first) → filled s second ≡ fill (a ++ b) f
fill_then a b f p q = q ∙ ap (fill b) p ∙ sym (fill_append a b f)

pub fill_reached : (bytes : List ℕ) (at : ℕ) (row : List ℕ) {r : ℕ} {after : List ℕ} → filled r after ≡ fill bytes (filled at row) → r ≡ at + length bytes
fill_reached bytes at row e = ap (λ (f : Filled). f.at) e ∙ fill_at bytes (filled at row)

-- filled from the start, inside the row: the bytes first, the rest as it was
pub fill_whole : (bytes row : List ℕ) (r : ℕ) (after : List ℕ) → r ≤ length row → filled r after ≡ fill bytes (filled 0 row) → (r ≡ length bytes) × (after ≡ bytes ++ drop (length bytes) row)
fill_whole bytes row r after h e =
    let z : 0 + length bytes ≡ length bytes = omega arith in
    let all : r ≡ length bytes = fill_reached bytes 0 row e ∙ z in
    (all, ap (λ (f : Filled). f.row) e ∙ fill_sets bytes (filled 0 row) ∙ sets-eq bytes row 0 (omega arith) ∙ ap (λ (k : ℕ). bytes ++ drop k row) z)

-- a word and a number of at most so many digits
pub number_within : (word : List ℕ) (n most at : ℕ) (row : List ℕ) → length (decimal n) ≤ most → {r : ℕ} {after : List ℕ}
    → filled r after ≡ fill (word ++ decimal n) (filled at row) → r ≤ at + length word + most
number_within word n most at row h e = omega (arith, fill_reached (word ++ decimal n) at row e, length-append word (decimal n))
