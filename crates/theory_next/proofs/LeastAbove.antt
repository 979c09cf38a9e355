-- The pair that `least_above` finds in a list is the next one of that list.
use mathlib.Core.Path.{refl, ◌∙◌}
use mathlib.Core.List.{List, [], ◌∷◌}
use mathlib.Core.Option.{Option, none, some}
use Prim.Native.Nat.{ℕ, ◌≤◌, ◌<◌}
use native.Mathlib.Omega.{arith}
use borrow.Author.Tests.{lt-ltb, le-ltb}
use Rattle.laws.proofs.Cases.{order}
use Rattle.walk_next.specs.Successor.{nearer, nearer_above, least_above, found}
use Rattle.theory_next.proofs.IsNext.{IsNext}
use Rattle.theory_next.proofs.Lookups.{lookup_head, lookup_tail}

module _ (p : ℕ × ℕ) (ps : List (ℕ × ℕ)) where
  -- a pair more, whose key is not above the number
  pass_pair : (after : ℕ) (least : Option (ℕ × ℕ)) → p.0 ≤ after → IsNext ps after (found least) → IsNext (p ∷ ps) after (found least)
  unfolding found
  pass_pair after none l i = λ x o. lookup_tail p ps x (λ e. omega arith) ∙ i x o
  pass_pair after (some q) l i = (i.0, lookup_tail p ps q.0 (λ e. omega (arith, i.0)) ∙ i.1, λ x o u. lookup_tail p ps x (λ e. omega arith) ∙ i.2 x o u)

  -- and one whose key is: where two pairs have the same key the first stays, as in a look-up
  take_pair : (after : ℕ) (least : Option (ℕ × ℕ)) → after < p.0 → IsNext ps after (found least) → IsNext (p ∷ ps) after (found (nearer p least))
  unfolding found nearer
  take_pair after none a i = (a, lookup_head p ps, λ x o u. lookup_tail p ps x (λ e. omega arith) ∙ i x o)
  take_pair after (some q) a i =
      order q.0 p.0
      (λ o. rw (lt-ltb q.0 p.0 o) (i.0, lookup_tail p ps q.0 (λ e. omega arith) ∙ i.1, λ x l u. lookup_tail p ps x (λ e. omega arith) ∙ i.2 x l u))
      (λ o. rw (le-ltb q.0 p.0 o) (a, lookup_head p ps, λ x l u. lookup_tail p ps x (λ e. omega arith) ∙ i.2 x l (omega arith)))

pub least_next : (after : ℕ) (ps : List (ℕ × ℕ)) → IsNext ps after (found (least_above after ps))
unfolding found least_above nearer_above
least_next after [] = λ x o. refl
least_next after (p ∷ ps) =
    order after p.0
    (λ o. rw (lt-ltb after p.0 o) (take_pair p ps after (least_above after ps) o (least_next after ps)))
    (λ o. rw (le-ltb after p.0 o) (pass_pair p ps after (least_above after ps) o (least_next after ps)))
