-- Where a key leads on a card is where the calls land, and whether the leaf there is full is what they find in it.
use mathlib.Core.Path.{◌≡◌, refl, ap, sym, subst, ◌∙◌}
use mathlib.Core.Bool.{Bool, true, false, not}
use mathlib.Core.List.{List, [], ◌∷◌}
use mathlib.Core.Option.{Option as Maybe, map, Option-elim, none, some}
use Prim.Native.Nat.{ℕ, suc}
use native.Mathlib.Omega.{arith}
use lib.ListN.{length}
use lib.Dec.{eqb}
use Rattle.demands.specs.Way.{nodes_on, leads_to, among, leaf_full}
use Rattle.card.specs.Header.{Sized}
use Rattle.card.specs.Layout.{node_at, key_words}
use Rattle.walk.specs.Descent.{first_equal, slot_of, way, reached_at, leaf_of, run_over, landed_at, landing_of}
use Rattle.walk.specs.declared.Position.{Position}
use Rattle.laws.proofs.Cases.{bool_cases}
use Rattle.call_change.specs.Updates.{landing}
use Rattle.std.specs.Prelude.{Option, Some, None}
use Rattle.walk.proofs.DescentLaws.{landing_at}
use Rattle.walk.specs.declared.Landing.{Landing}
use Rattle.walk.specs.declared.Reached.{Reached}

pub sized_on : (greatest : ℕ) (c : List ℕ) (n : ℕ) → Sized greatest (length c) n → nodes_on c ≡ n
sized_on greatest c n s = omega (arith, s.words)

unfoldable pub landed : Option Landing → Maybe (ℕ × ℕ)
landed None = none
landed (Some l) = some (l.node, l.run)

unfoldable pub arrived : Option Reached → Maybe ℕ
arrived None = none
arrived (Some l) = some l.node

unfoldable pub reached_leaf : Maybe (ℕ × ℕ) → Maybe ℕ
reached_leaf none = none
reached_leaf (some l) = some l.0

landed_at_lem : (run : ℕ) (l : Maybe Position) → landed (landed_at run l) ≡ map (λ p. (p.node, run)) l
unfolding landed landed_at
landed_at_lem run none = refl
landed_at_lem run (some p) = refl

pub leads_is : (c : List ℕ) (n key : ℕ) → nodes_on c ≡ n → landed (landing c n key) ≡ leads_to c key
unfolding landing landing_of
leads_is c n key e =
    subst (λ x. landed (landing c x key) ≡ leads_to c key) e (landed_at_lem (run_over c 0 (way c (nodes_on c) key).inner) (way c (nodes_on c) key).leaf)

reached_at_lem : (depth run : ℕ) (l : Maybe Position) → arrived (reached_at depth l) ≡ reached_leaf (map (λ p. (p.node, run)) l)
unfolding arrived reached_at reached_leaf
reached_at_lem depth run none = refl
reached_at_lem depth run (some p) = refl

pub leaf_way : (c : List ℕ) (key : ℕ) → arrived (leaf_of (way c (nodes_on c) key)) ≡ reached_leaf (leads_to c key)
unfolding leaf_of
leaf_way c key = reached_at_lem (length (way c (nodes_on c) key).inner) (run_over c 0 (way c (nodes_on c) key).inner) (way c (nodes_on c) key).leaf

-- a word is among the words exactly where the look-up finds a slot
unfoldable pub slot_found : Option ℕ → Bool
slot_found (Some i) = true
slot_found None = false

pub slot_among : (ws : List ℕ) (x i : ℕ) → slot_found (first_equal ws x i) ≡ among x ws
unfolding first_equal among slot_found
slot_among [] x i = refl
slot_among (y ∷ ws) x i = bool_cases (eqb y x) (λ q. rw q) (λ q. rw q (slot_among ws x (suc i)))

pub slot_is : (words : List ℕ) (x : ℕ) (s : Option ℕ) → slot_of words x ≡ s → slot_found s ≡ among x (key_words words)
unfolding slot_of
slot_is words x s e = ap slot_found (sym e) ∙ slot_among (key_words words) x 0

full_at : (c : List ℕ) (run : ℕ) (l : Maybe Position) → Option-elim l false (λ p. not (among 0 (key_words (node_at c p.node))))
    ≡ Option-elim {A = ℕ × ℕ} (map (λ p. (p.node, run)) l) false (λ x. not (among 0 (key_words (node_at c x.0))))
unfolding Option-elim
full_at c run none = refl
full_at c run (some p) = refl

-- the leaf is full exactly where no slot of it is empty
pub full_is : (greatest : ℕ) (c : List ℕ) (n key m link run : ℕ) (s : Option ℕ) → Sized greatest (length c) n
    → landing c n key ≡ landing_at m link run → slot_of (node_at c m) 0 ≡ s → leaf_full c key ≡ not (slot_found s)
unfolding Option-elim landed
full_is greatest c n key m link run s z e f =
    full_at c (run_over c 0 (way c (nodes_on c) key).inner) (way c (nodes_on c) key).leaf
    ∙ ap (λ (o : Maybe (ℕ × ℕ)). Option-elim o false (λ l. not (among 0 (key_words (node_at c l.0)))))
    (sym (leads_is c n key (sized_on greatest c n z)) ∙ ap landed e) ∙ ap not (sym (slot_is (node_at c m) 0 s f))
