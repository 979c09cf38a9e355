-- A tree taken apart at a place in it: its context, the children left and right of the way; totals over nodes.
use mathlib.Core.Path.{◌≡◌}
use mathlib.Core.List.{List, [], ◌∷◌}
use mathlib.Core.Bool.{Bool}
use Prim.Native.Nat.{ℕ, ◌+◌}
use native.Mathlib.Omega.{arith}
use Rattle.theory_tree.specs.Tree.{Tree, Forest, node, one, more, node_total, node_totals}

-- the children left of a hole, each with the key after it
abbrev pub Left : Type 0
Left = List (Tree × ℕ)

pub data Right : Type 0 where
  rightmost : Right
  followed : ℕ → Forest → Right

abbrev pub join : Forest → ℕ → Forest → Forest
join (one t) k g = more t k g
join (more t x f) k g = more t x (join f k g)

abbrev pub shut : Forest → Right → Forest
shut f rightmost = f
shut f (followed k g) = join f k g

abbrev pub splice : Left → Forest → Right → Forest
splice [] f r = shut f r
splice (a ∷ l) f r = more a.0 a.1 (splice l f r)

abbrev pub fill : Left → Tree → Right → Forest
fill l t r = splice l (one t) r

pub data Context : Type 0 where
  top : Context
  down : Context → ℕ → Bool → Left → Right → Context

abbrev pub plug : Context → Tree → Tree
plug top t = t
plug (down C m g l r) t = plug C (node m g (fill l t r))

abbrev pub left_total : (ℕ → ℕ) → Left → ℕ
left_total w [] = 0
left_total w (a ∷ l) = node_total w a.0 + left_total w l

abbrev pub right_total : (ℕ → ℕ) → Right → ℕ
right_total w rightmost = 0
right_total w (followed k f) = node_totals w f

abbrev pub context_total : (ℕ → ℕ) → Context → ℕ
context_total w top = 0
context_total w (down C m g l r) = w m + left_total w l + right_total w r + context_total w C

pub totals_fill : (w : ℕ → ℕ) (l : Left) (t : Tree) (r : Right) → node_totals w (fill l t r) ≡ left_total w l + node_total w t + right_total w r
totals_fill w [] t rightmost = omega arith
totals_fill w [] t (followed k f) = omega arith
totals_fill w (a ∷ l) t r = omega (arith, totals_fill w l t r)

pub total_plug : (w : ℕ → ℕ) (C : Context) (t : Tree) → node_total w (plug C t) ≡ context_total w C + node_total w t
total_plug w top t = omega arith
total_plug w (down C m g l r) t = omega (arith, total_plug w C (node m g (fill l t r)), totals_fill w l t r)
