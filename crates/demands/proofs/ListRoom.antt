-- How much room the pairs take: a slice with two words for each of them holds them all.
use mathlib.Core.Path.{◌≡◌, refl, ap, ap₂, sym, ◌∙◌}
use mathlib.Core.List.{List, [], ◌∷◌, ◌++◌, append_assoc}
use Prim.Native.Nat.{ℕ, suc, ◌+◌, ◌*◌, ◌≤◌}
use native.Mathlib.Omega.{arith}
use lib.ListN.{length, drop, set, length-append}
use lib.Seq.{set-append_seam}
use borrow.Author.Tests.{lt-ltb}
use Rattle.list_pairs.specs.Listing.{Laid, laid, lay_pair, lay_pairs}

-- key, value, key, value ..
abbrev pub pair_words : List (ℕ × ℕ) → List ℕ
pair_words [] = []
pair_words (p ∷ ps) = p.0 ∷ p.1 ∷ pair_words ps

set_next : (done : List ℕ) (a y b : ℕ) (rest : List ℕ) → set (done ++ a ∷ y ∷ rest) (length done + 1) b ≡ done ++ a ∷ b ∷ rest
set_next [] a y b rest = refl
set_next (d ∷ done) a y b rest = let e : suc (length done) + 1 ≡ suc (length done + 1) = omega arith in rw e (ap (λ (l : List ℕ). d ∷ l) (set_next done a y b rest))

one_laid : (p : ℕ × ℕ) (done : List ℕ) (x y : ℕ) (rest : List ℕ) → lay_pair p (laid (length done) (done ++ x ∷ y ∷ rest)) ≡ laid (length (done ++ p.0 ∷ p.1 ∷ [])) ((done ++ p.0 ∷ p.1 ∷ []) ++ rest)
unfolding lay_pair
one_laid p done x y rest =
    rw (lt-ltb (length done + 1) (length (done ++ x ∷ y ∷ rest)) (omega (arith, length-append done (x ∷ y ∷ rest))))
    (ap₂ laid (omega (arith, length-append done (p.0 ∷ p.1 ∷ [])))
    (ap (λ (l : List ℕ). set l (length done + 1) p.1) (set-append_seam done x (y ∷ rest) p.0) ∙ set_next done p.0 y p.1 rest ∙ sym (append_assoc done (p.0 ∷ p.1 ∷ []) rest)))

lay_none : (l : Laid) → lay_pairs [] l ≡ l
unfolding lay_pairs
lay_none l = refl

lay_more : (p : ℕ × ℕ) (ps : List (ℕ × ℕ)) (l : Laid) → lay_pairs (p ∷ ps) l ≡ lay_pairs ps (lay_pair p l)
unfolding lay_pairs
lay_more p ps l = refl

-- stored from the end of `done` on, over as many words
pub all_laid : (ps : List (ℕ × ℕ)) (done rest : List ℕ) → 2 * length ps ≤ length rest → lay_pairs ps (laid (length done) (done ++ rest))
    ≡ laid (length done + 2 * length ps) (done ++ (pair_words ps ++ drop (2 * length ps) rest))
all_laid [] done rest h = lay_none (laid (length done) (done ++ rest)) ∙ ap (λ (a : ℕ). laid a (done ++ rest)) (omega arith)
all_laid (p ∷ ps) done [] h = absurd (omega arith)
all_laid (p ∷ ps) done (x ∷ []) h = absurd (omega arith)
all_laid (p ∷ ps) done (x ∷ y ∷ rest) h =
    let e : 2 * suc (length ps) ≡ suc (suc (2 * length ps)) = omega arith in
    lay_more p ps (laid (length done) (done ++ x ∷ y ∷ rest))
    ∙ ap (lay_pairs ps) (one_laid p done x y rest)
    ∙ all_laid ps (done ++ p.0 ∷ p.1 ∷ []) rest (omega arith)
    ∙ ap₂ laid (omega (arith, length-append done (p.0 ∷ p.1 ∷ [])))
    (append_assoc done (p.0 ∷ p.1 ∷ []) (pair_words ps ++ drop (2 * length ps) rest) ∙ ap (λ (k : ℕ). done ++ (p.0 ∷ p.1 ∷ (pair_words ps ++ drop k (x ∷ y ∷ rest)))) (sym e))
