-- Laws of rows that are laid out word by word.
use mathlib.Core.Path.{◌≡◌, ap, sym, ◌∙◌}
use mathlib.Core.List.{List, ◌++◌, append_assoc, append-nil}
use Prim.Native.Nat.{ℕ, suc, ◌+◌, ◌-◌, ◌≤◌, ◌<◌}
use native.Mathlib.Omega.{arith}
use native.Mathlib.Numerals.{add-one}
use lib.ListN.{length, set, get_or, take, drop, drop_of_length-le, length-drop}
use lib.Seq.{take_all, take_at, drop_at, drop-drop, paste-suc}

-- one word of s more at the front
pub lay_more : (d s : List ℕ) (i : ℕ) → i < length d → i < length s → set (take i s ++ drop i d) i (get_or s i 0) ≡ take (i + 1) s ++ drop (i + 1) d
lay_more d s i h l =
    let a : 0 + i ≡ i = omega arith in
    let b : 0 + suc i ≡ i + 1 = omega arith in
    let e : set (take i s ++ drop (0 + i) d) (0 + i) (get_or s i 0) ≡ take (suc i) s ++ drop (0 + suc i) d = paste-suc d 0 s i 0 (omega arith) l in
    rw (add-one i) (rw (a, b, add-one i) at e)

-- all of it
pub lay_all : (d s : List ℕ) (i : ℕ) → length s ≤ i → length d ≤ i → take i s ++ drop i d ≡ s
lay_all d s i h l = rw (take_all i s h, drop_of_length-le d {i = i} l) (append-nil s)

-- the end of a part, as the code cuts it out
pub drop_end : (k : ℕ) (l : List ℕ) → take (length l - k) (drop k l) ≡ drop k l
drop_end k l = take_all (length l - k) (drop k l) (omega (arith, length-drop k l))

-- a part of k words after the n that are laid out
pub lay_next : (d front part : List ℕ) (n k : ℕ) → length front ≡ n
    → take n (front ++ drop n d) ++ (part ++ drop k (drop n (front ++ drop n d))) ≡ front ++ part ++ drop (n + k) d
lay_next d front part n k e =
    let first : take n (front ++ drop n d) ≡ front = take_at front (drop n d) n e in
    let rest : drop k (drop n (front ++ drop n d)) ≡ drop (n + k) d = ap (drop k) (drop_at front (drop n d) n e) ∙ drop-drop k n d in
    rw (first, rest) (sym (append_assoc front part (drop (n + k) d)))
