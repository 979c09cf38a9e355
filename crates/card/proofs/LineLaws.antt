-- A line's table as one of its own: its nodes are the card's, and a store of it is one on the card.
use mathlib.Core.Path.{◌≡◌, refl, ap, ap₂, sym, subst, ◌∙◌}
use mathlib.Core.List.{List, [], ◌∷◌, ◌++◌}
use mathlib.Core.Bool.{Bool, true, false}
use mathlib.Core.Logic.{by_cases}
use Prim.Native.Nat.{ℕ, suc, ◌+◌, ◌*◌, ◌-◌, ◌≤◌, ◌<◌}
use native.Mathlib.Omega.{arith}
use native.Mathlib.Decide.{ℕ_discrete}
use lib.ListN.{length, set, get_or, drop, take, length-drop, length-append}
use lib.Seq.{get_or-set_same, get_or-set_other, drop-append-add, drop-drop, drop-set-lt, drop-set-add}
use lib.Dec.{eqb}
use borrow.Author.Tests.{ne_eqb, eq-eqb}
use Rattle.laws.proofs.Cases.{impossible}
use Rattle.card.specs.Header.{nodes_of_length, card_refusal, Formatted, Sized}
use Rattle.card.specs.Layout.{root_place, node_at}
use Rattle.card.proofs.HeaderLaws.{header_formatted, card_header, sized, card_sized}
use Rattle.card.specs.Lines.{IsLine, has_line, root_of, header_for, seen, on_line}

set_append_right : (xs ys : List ℕ) (i v : ℕ) → set (xs ++ ys) (length xs + i) v ≡ xs ++ set ys i v
set_append_right [] ys i v = ap (λ (k : ℕ). set ys k v) (let z : 0 + i ≡ i = omega arith in z)
set_append_right (x ∷ xs) ys i v =
    ap (λ (k : ℕ). set (x ∷ xs ++ ys) k v) (let z : suc (length xs) + i ≡ suc (length xs + i) = omega arith in z) ∙ ap (λ (l : List ℕ). x ∷ l) (set_append_right xs ys i v)

-- a node is read alike on the card and in the line's table
pub seen_node : (line : ℕ) (card : List ℕ) (m : ℕ) → node_at (seen line card) m ≡ node_at card m
unfolding seen node_at
seen_node line card m = ap (take 24) (drop-append-add (header_for line card) (drop 8 card) (24 * (m - 1)) ∙ drop-drop (24 * (m - 1)) 8 card)

pub seen_length : (line : ℕ) (card : List ℕ) → 8 ≤ length card → length (seen line card) ≡ length card
unfolding seen
seen_length line card h = omega (arith, length-append (header_for line card) (drop 8 card), length-drop 8 card)

-- of a card that is not refused it has the same length
pub seen_long : {greatest n : ℕ} (line : ℕ) (card : List ℕ) → Sized greatest (length card) n → length (seen line card) ≡ length card
seen_long line card s = seen_length line card (omega (arith, s.words))

pub seen_sized : {greatest n : ℕ} (line : ℕ) (card : List ℕ) → Sized greatest (length card) n → Sized greatest (length (seen line card)) n
seen_sized {greatest} {n} line card s = subst (λ (l : ℕ). Sized greatest l n) (sym (seen_long line card s)) s

pub seen_root : (line : ℕ) (card : List ℕ) → get_or (seen line card) root_place 0 ≡ get_or card (root_of line) 0
unfolding seen
seen_root line card = refl

-- the table of a card's only line is the card
pub seen_only : (card : List ℕ) (n : ℕ) → 8 ≤ length card → Formatted card n → seen 1 card ≡ card
unfolding seen
seen_only (a ∷ b ∷ c ∷ d ∷ e ∷ f ∷ g ∷ h ∷ rest) n l k = rw (k.mark, k.five, k.six, k.seven)
seen_only [] n l k = absurd (omega arith)
seen_only (a ∷ []) n l k = absurd (omega arith)
seen_only (a ∷ b ∷ []) n l k = absurd (omega arith)
seen_only (a ∷ b ∷ c ∷ []) n l k = absurd (omega arith)
seen_only (a ∷ b ∷ c ∷ d ∷ []) n l k = absurd (omega arith)
seen_only (a ∷ b ∷ c ∷ d ∷ e ∷ []) n l k = absurd (omega arith)
seen_only (a ∷ b ∷ c ∷ d ∷ e ∷ f ∷ []) n l k = absurd (omega arith)
seen_only (a ∷ b ∷ c ∷ d ∷ e ∷ f ∷ g ∷ []) n l k = absurd (omega arith)

-- of a card that is not refused, too
pub seen_accepted : (greatest : ℕ) (card : List ℕ) → card_refusal greatest card ≡ 0 → seen 1 card ≡ card
seen_accepted greatest card e =
    let n = nodes_of_length greatest (length card) in
    let some = card_sized greatest card e in
    let s = sized greatest card n refl some in
    seen_only card n (omega (arith, s.words)) (header_formatted card n (sym (card_header greatest card n refl some) ∙ e))

-- the header of the table is the one that document 01 gives a card
pub seen_formatted : (line : ℕ) (card : List ℕ) (n : ℕ) → get_or card 1 0 ≡ n → get_or card 2 0 ≡ 8 → get_or card 3 0 ≡ 24 → Formatted (seen line card) n
unfolding seen
seen_formatted line card n e f g = record { mark = refl; nodes = e; first = f; each = g; five = refl; six = refl; seven = refl }

-- ---- stores

header_same : (line : ℕ) (card : List ℕ) (p v : ℕ) → (p ≡ 1 → ⊥) → (p ≡ 2 → ⊥) → (p ≡ 3 → ⊥) → (p ≡ root_of line → ⊥) → header_for line (set card p v) ≡ header_for line card
header_same line card p v a b c d =
    rw (
      get_or-set_other card p 1 v 0 (λ e. a (sym e)),
      get_or-set_other card p 2 v 0 (λ e. b (sym e)),
      get_or-set_other card p 3 v 0 (λ e. c (sym e)),
      get_or-set_other card p (root_of line) v 0 (λ e. d (sym e)),
    )

-- in a node
pub seen_set : (line : ℕ) (card : List ℕ) (p v : ℕ) → root_of line < 8 → 8 ≤ p → seen line (set card p v) ≡ set (seen line card) p v
unfolding seen
seen_set line card p v r h =
    let j : p ≡ 8 + (p - 8) = omega arith in
    ap₂ (λ (a b : List ℕ). a ++ b) (header_same line card p v (λ e. omega arith) (λ e. omega arith) (λ e. omega arith) (λ e. omega arith))
    (ap (λ (k : ℕ). drop 8 (set card k v)) j ∙ drop-set-add 8 card (p - 8) v)
    ∙ sym (set_append_right (header_for line card) (drop 8 card) (p - 8) v)
    ∙ ap (λ (k : ℕ). set (header_for line card ++ drop 8 card) k v) (sym j)

-- in the line's root word
pub seen_link : (line : ℕ) (card : List ℕ) (v : ℕ) → 0 < line → root_of line < 8 → 8 ≤ length card → seen line (set card (root_of line) v) ≡ set (seen line card) root_place v
unfolding seen
seen_link line card v l r h =
    rw (
      get_or-set_other card (root_of line) 1 v 0 (λ e. omega arith),
      get_or-set_other card (root_of line) 2 v 0 (λ e. omega arith),
      get_or-set_other card (root_of line) 3 v 0 (λ e. omega arith),
      get_or-set_same card (root_of line) v 0 (omega arith),
      drop-set-lt 8 card (root_of line) v r,
    )

-- in another word of the header: the line does not see it
pub seen_other : (line : ℕ) (card : List ℕ) (p v : ℕ) → 3 < p → p < 8 → (p ≡ root_of line → ⊥) → seen line (set card p v) ≡ seen line card
unfolding seen
seen_other line card p v a b d =
    ap₂ (λ (x y : List ℕ). x ++ y) (header_same line card p v (λ e. omega arith) (λ e. omega arith) (λ e. omega arith) d) (drop-set-lt 8 card p v b)

-- a store of the line's table, on the card
pub seen_store : (line : ℕ) (card : List ℕ) (p v : ℕ) → 0 < line → root_of line < 8 → 8 ≤ length card → (p ≡ root_place → ⊥) → 8 ≤ p
    → seen line (set card (on_line line p) v) ≡ set (seen line card) p v
unfolding on_line
seen_store line card p v l r h d q = rw (ne_eqb p root_place d) (seen_set line card p v r q)

pub seen_store_link : (line : ℕ) (card : List ℕ) (v : ℕ) → 0 < line → root_of line < 8 → 8 ≤ length card → seen line (set card (on_line line root_place) v) ≡ set (seen line card) root_place v
unfolding on_line
seen_store_link line card v l r h = seen_link line card v l r h

-- ---- the lines that a card has

pub line_one : (card : List ℕ) → has_line card 1 ≡ true
unfolding has_line
line_one card = refl

pub is_neither : (card : List ℕ) (line : ℕ) → (line ≡ 1 → ⊥) → (line ≡ 2 → ⊥) → eqb line 2 ≡ has_line card line
unfolding has_line
is_neither card line a b = rw (ne_eqb line 1 a, ne_eqb line 2 b)

pub not_second : (card : List ℕ) (line : ℕ) → has_line card line ≡ true → (line ≡ 2 → ⊥) → line ≡ 1
not_second card line h b = by_cases (ℕ_discrete line 1) (λ e. e) (λ a. let z : ◌≡◌ {A = Bool} false true = sym (ne_eqb line 2 b) ∙ is_neither card line a b ∙ h in impossible (cc))

-- a line that a card has is one or two
pub has_is : (card : List ℕ) (line : ℕ) → has_line card line ≡ true → IsLine line
has_is card line h =
    by_cases (ℕ_discrete line 2) (λ e. record { from = omega arith; to = omega arith })
    (λ b. let e = not_second card line h b in record { from = omega arith; to = omega arith })

-- ---- where a store stands

pub on_root : (line p : ℕ) → p ≡ root_place → on_line line p ≡ root_of line
unfolding on_line
on_root line p e = rw (eq-eqb p root_place e)

pub on_node : (line p : ℕ) → (p ≡ root_place → ⊥) → on_line line p ≡ p
unfolding on_line
on_node line p d = rw (ne_eqb p root_place d)

-- of the first line it stands where it is
pub on_first : (p : ℕ) → on_line 1 p ≡ p
on_first p = by_cases (ℕ_discrete p root_place) (λ e. on_root 1 p e ∙ sym e) (on_node 1 p)
