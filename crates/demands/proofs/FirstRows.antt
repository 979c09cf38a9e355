-- The rows 1, 2 and 3, for every call that goes through them.
use mathlib.Core.Path.{◌≡◌, sym, subst, ◌∙◌}
use mathlib.Core.List.{List}
use mathlib.Core.Logic.{◌⊎◌, inl, inr}
use Prim.Native.Nat.{ℕ}
use native.Mathlib.Omega.{arith}
use native.Mathlib.Decide.{ℕ_discrete}
use lib.ListN.{length, get_or}
use borrow.Author.Tests.{eq-eqb}
use Rattle.card.specs.Header.{nodes_of_length, header_refusal, card_refusal, Sized, Formatted}
use Rattle.card.proofs.HeaderLaws.{nodes_sized, sized_nodes, header_formatted, formatted_header, wrong_word0}
use Rattle.demands.proofs.WayDown.{sized_on}
use Rattle.demands.specs.Way.{nodes_on}
use Rattle.demands.specs.Refusals.{Rows, ByRows, card_rows}
use Rattle.demands.proofs.OpenRefusals.{header_three}

pub sized? : (greatest : ℕ) (len n : ℕ) → Dec (Sized greatest len n)
sized? greatest len n = go (ℕ_discrete (nodes_of_length greatest len) n) (ℕ_discrete n 0)
  where
    go : Dec (nodes_of_length greatest len ≡ n) → Dec (n ≡ 0) → Dec (Sized greatest len n)
    go d (yes z) = no (λ s. omega (arith, s.least))
    go (no d) (no z) = no (λ s. d (sized_nodes greatest len n s))
    go (yes e) (no z) = yes (subst (λ x. Sized greatest len x) e (nodes_sized greatest len (λ q. z (sym e ∙ q))))

-- the card's length is not that of so many nodes
abbrev pub NoCard : ℕ → List ℕ → ℕ → Type 0
NoCard greatest c n = Sized greatest (length c) n → ⊥

-- no N fits the length
pub no_nodes : (greatest : ℕ) (c : List ℕ) → NoCard greatest c (nodes_on c) → nodes_of_length greatest (length c) ≡ 0
no_nodes greatest c p = go (ℕ_discrete (nodes_of_length greatest (length c)) 0)
  where
    go : Dec (nodes_of_length greatest (length c) ≡ 0) → nodes_of_length greatest (length c) ≡ 0
    go (yes z) = z
    go (no d) = let s = nodes_sized greatest (length c) d in absurd (p (subst (λ x. Sized greatest (length c) x) (sym (sized_on greatest c (nodes_of_length greatest (length c)) s)) s))

-- rows 1, 2 and 3, then the others
pub by_card : (greatest : ℕ) (rows : Rows) (refuses : ℕ → Type 0) (works : Type 0) (c : List ℕ) (n : ℕ) → (NoCard greatest c n → refuses 1)
    → ((r : ℕ) → Sized greatest (length c) n → header_refusal c n ≡ r → (r ≡ 0 → ⊥) → refuses r)
    → (Sized greatest (length c) n → Formatted c n → ByRows rows refuses works) → ByRows (card_rows greatest c n rows) refuses works
unfolding ByRows
by_card greatest rows refuses works c n one header next = go (sized? greatest (length c) n)
  where
    past : Sized greatest (length c) n → get_or c 0 0 ≡ 1 → (header_refusal c n ≡ 0) ⊎ (header_refusal c n ≡ 3)
        → ((Formatted c n → ⊥) × refuses 3) ⊎ (((Formatted c n → ⊥) → ⊥) × ByRows rows refuses works)
    past s m (inl z) = inr (λ p. p (header_formatted c n z), next s (header_formatted c n z))
    past s m (inr z) = inl (λ f. omega (arith, z, formatted_header c n f), header 3 s z (λ q. omega (arith, q)))

    marked : Sized greatest (length c) n → Dec (get_or c 0 0 ≡ 1) → ((get_or c 0 0 ≡ 1 → ⊥) × refuses 2)
        ⊎ (((get_or c 0 0 ≡ 1 → ⊥) → ⊥) × (((Formatted c n → ⊥) × refuses 3) ⊎ (((Formatted c n → ⊥) → ⊥) × ByRows rows refuses works)))
    marked s (no q) = inl (q, header 2 s (wrong_word0 c n q) (λ z. omega (arith, z)))
    marked s (yes q) = inr (λ p. p q, past s q (header_three c n q))

    go : Dec (Sized greatest (length c) n) → (NoCard greatest c n × refuses 1) ⊎ ((NoCard greatest c n → ⊥) × (((get_or c 0 0 ≡ 1 → ⊥) × refuses 2)
        ⊎ (((get_or c 0 0 ≡ 1 → ⊥) → ⊥) × (((Formatted c n → ⊥) × refuses 3) ⊎ (((Formatted c n → ⊥) → ⊥) × ByRows rows refuses works)))))
    go (no p) = inl (p, one p)
    go (yes s) = inr (λ p. p s, marked s (ℕ_discrete (get_or c 0 0) 1))

-- what the calls without a state ask: the refusals 1, 2 and 3 of the card
pub card_one : (greatest : ℕ) (c : List ℕ) → NoCard greatest c (nodes_on c) → card_refusal greatest c ≡ 1
unfolding card_refusal
card_one greatest c p = rw (eq-eqb (nodes_of_length greatest (length c)) 0 (no_nodes greatest c p))
