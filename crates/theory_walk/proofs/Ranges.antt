-- A key and the ranges on its way: a key that a tree holds lies in its range, and so does one that leads to a part of it.
use mathlib.Core.List.{[], ◌∷◌}
use mathlib.Core.Logic.{inl, inr}
use Prim.Native.Nat.{ℕ, ◌≤◌, ◌<◌}
use native.Mathlib.Omega.{arith}
use Rattle.theory_walk.proofs.Routing.{Leads}
use Rattle.laws.proofs.Cases.{order}
use Rattle.laws.specs.Totals.{total}
use Rattle.theory_tree.specs.Pairs.{pairs, has_key}
use Rattle.theory_tree.proofs.Pairs.{InRange, AllInRange, absent}
use Rattle.theory_tree.proofs.Path.{Past, Short}
use Rattle.theory_tree.specs.Tree.{Tree, node}
use Rattle.theory_tree.proofs.Tree.{Left, Right, fill, Context, plug, rightmost, followed, top, down}

-- a key that a tree holds lies in its range
pub held_in_range : (lo hi key : ℕ) (t : Tree) → InRange lo hi t → 0 < total (has_key key) (pairs t) → (lo ≤ key) × (key < hi)
held_in_range lo hi key t i held =
    order key lo (λ o. absurd (omega (arith, absent lo hi key (inl o) t i)))
    (λ o. order key hi (λ q. (o, q)) (λ q. absurd (omega (arith, absent lo hi key (inr q) t i))))

-- the range of a part that a key leads to: the key lies in it, and another part of that range may be put there
pub record RangeAt (lo hi key : ℕ) (C : Context) (s : Tree) : Type 0 where
  pub low : ℕ
  pub high : ℕ
  pub part : InRange low high s
  pub from : low ≤ key
  pub until : key < high
  pub fits : (s' : Tree) → InRange low high s' → InRange lo hi (plug C s')

range_past : (lo hi key : ℕ) (l : Left) (s : Tree) (r : Right) → AllInRange lo hi (fill l s r) → Past key l → Short key r → lo ≤ key → key < hi
    → (low : ℕ) × (high : ℕ) × InRange low high s × (low ≤ key) × (key < high) × ((s' : Tree) → InRange low high s' → AllInRange lo hi (fill l s' r))
range_past lo hi key [] s rightmost i p q a b = (lo, hi, i, a, b, λ s' j. j)
range_past lo hi key [] s (followed x f) i p q a b = (lo, x, i.0, a, q, λ s' j. (j, i.1, i.2, i.3))
range_past lo hi key (x ∷ l) s r i p q a b =
    let u = range_past x.1 hi key l s r i.3 p.1 q p.0 b in
    (u.0, u.1, u.2, u.3, u.4, λ s' j. (i.0, i.1, i.2, u.5 s' j))

pub in_range_of_path : (lo hi key : ℕ) (C : Context) (s : Tree) → InRange lo hi (plug C s) → Leads key C → lo ≤ key → key < hi → RangeAt lo hi key C s
in_range_of_path lo hi key top s i p a b = record { low = lo; high = hi; part = i; from = a; until = b; fits = λ s' j. j }
in_range_of_path lo hi key (down C m g l r) s i p a b =
    let u = in_range_of_path lo hi key C (node m g (fill l s r)) i p.2 a b in
    let v = range_past u.low u.high key l s r u.part p.0 p.1 u.from u.until in
    record { low = v.0; high = v.1; part = v.2; from = v.3; until = v.4; fits = λ s' j. u.fits (node m g (fill l s' r)) (v.5 s' j) }
