-- LINES APART, the induction over lists of calls, with what one whole call of either line does as its premise: a call of a line has
-- the outcome that its own limit and tree give, and leaves the other line's tree as it is.
use mathlib.Core.Path.{◌≡◌, refl, ap₂}
use mathlib.Core.List.{List, [], ◌∷◌}
use Prim.Native.Nat.{ℕ, ◌≤◌, ◌<◌}
use Rattle.card.specs.Layout.{lowest_key, key_limit}
use Rattle.theory_lines.proofs.Alike.{Outcome, outcome, leaves, outcomes, shape_left}
use Rattle.demands.proofs.Shapes.{key_of}
use Rattle.demands.specs.Book.{Update}
use Rattle.theory_tree.specs.Tree.{Tree}

pub data Line : Type 0 where
  first : Line
  second : Line

abbrev pub of : {A : Type 0} → Line → A → A → A
of first a b = a
of second a b = b

-- a line's own among calls, or among their outcomes
abbrev pub own : {A : Type 0} → Line → List (Line × A) → List A
own l [] = []
own first ((first, a) ∷ rest) = a ∷ own first rest
own first ((second, a) ∷ rest) = own first rest
own second ((first, a) ∷ rest) = own second rest
own second ((second, a) ∷ rest) = a ∷ own second rest

pub data Works (World : Type 0) (Whole : Line → Update → World → World → Outcome → Type 0) : List (Line × Update) → World → World → List (Line × Outcome) → Type 0 where
  no_more : {w : World} → Works World Whole [] w w []
  one_more : {l : Line} {u : Update} {us : List (Line × Update)} {w v x : World} {o : Outcome} {os : List (Line × Outcome)}
      → Whole l u w v o → Works World Whole us v x os → Works World Whole ((l, u) ∷ us) w x ((l, o) ∷ os)

abbrev pub AllKeys : List (Line × Update) → Type 0
AllKeys [] = Unit
AllKeys (u ∷ us) = (lowest_key ≤ key_of u.1) × (key_of u.1 < key_limit) × AllKeys us

module _ (World : Type 0) (Whole : Line → Update → World → World → Outcome → Type 0) (Resting : World → Tree → Tree → Type 0) (limit limit' : ℕ)
    (first_whole : (u : Update) (w v : World) (o : Outcome) (t s : Tree) → Whole first u w v o → Resting w t s
    → lowest_key ≤ key_of u → key_of u < key_limit → (o ≡ outcome limit u t) × Resting v (leaves limit u t) s)
    (second_whole : (u : Update) (w v : World) (o : Outcome) (t s : Tree) → Whole second u w v o → Resting w t s
    → lowest_key ≤ key_of u → key_of u < key_limit → (o ≡ outcome limit' u s) × Resting v t (leaves limit' u s))
  where
    pub lines_apart : {us : List (Line × Update)} {w v : World} {os : List (Line × Outcome)} → Works World Whole us w v os → (t s : Tree) → Resting w t s → AllKeys us
        → (own first os ≡ outcomes limit (own first us) t) × (own second os ≡ outcomes limit' (own second us) s) × Resting v (shape_left limit (own first us) t) (shape_left limit' (own second us) s)
    lines_apart no_more t s r k = (refl, refl, r)
    lines_apart (one_more {l = first} {u} {us} {w} {v} {x} {o} c rest) t s r k =
        let p = first_whole u w v o t s c r k.0 k.1 in
        let q = lines_apart rest (leaves limit u t) s p.1 k.2 in
        (ap₂ (λ (a : Outcome) (b : List Outcome). a ∷ b) p.0 q.0, q.1, q.2)
    lines_apart (one_more {l = second} {u} {us} {w} {v} {x} {o} c rest) t s r k =
        let p = second_whole u w v o t s c r k.0 k.1 in
        let q = lines_apart rest t (leaves limit' u s) p.1 k.2 in
        (q.0, ap₂ (λ (a : Outcome) (b : List Outcome). a ∷ b) p.0 q.1, q.2)
