-- The calls of formatting: "Formatting needs no earlier state and is stepped too: 0 in word 0, then every word from 1 to the last
-- in rising order .., then 1 in word 0; so 8 + 24 × N + 1 stores, then "ready"." The card may hold any words before.
use mathlib.Core.Path.{◌≡◌, refl, ◌∙◌}
use mathlib.Core.List.{List}
use mathlib.Core.Bool.{Bool, false}
use mathlib.Core.Option.{Option, none, some}
use Prim.Native.Nat.{ℕ, suc, ◌≤◌}
use native.Mathlib.Omega.{arith}
use lib.ListN.{length, set}
use borrow.Author.Tests.{ne_eqb, eq-eqb}
use Rattle.card.specs.Header.{nodes_of_length, Sized}
use Rattle.card.specs.Layout.{formatted_root}
use Rattle.card.proofs.HeaderLaws.{sized_nodes}
use Rattle.card.specs.Stores.{Store}
use Rattle.theory_format.proofs.FormatCard.{place_of, format_card, format_next, format_length}
use Rattle.theory_format.proofs.FormatStores.{some_store}
use Rattle.card_family.specs.Families.{no_totals}
use Rattle.card_free.specs.NodeSet.{all_nodes}
use Rattle.state.specs.Steps.{held_by, no_beginning, step_final, format_store, formatting_from, step_format}
use Rattle.call_start.specs.Starts.{format_of}
use Rattle.call_step.specs.Calls.{step_held, step_of}
use Rattle.state.specs.Memory.{Memory, resting, idled}
use Rattle.state.specs.declared.Doing.TheVariants.{Idle, Formatting}
use Rattle.state.specs.Answer.{Stored, Ready}
use Rattle.state.specs.Begun.{Started}
use Rattle.state.proofs.StepLaws.{format_end}

-- "those not reached from the root", which is node 1
abbrev pub fresh_nodes : ℕ → List Bool
fresh_nodes n = set (all_nodes n) formatted_root false

-- the state after so many stores of formatting
abbrev pub format_memory : ℕ → ℕ → Memory
format_memory n made = resting n (fresh_nodes n) formatted_root no_totals (Formatting made)

-- the state after "ready"
abbrev pub fresh_memory : ℕ → Memory
fresh_memory n = resting n (fresh_nodes n) formatted_root no_totals Idle

-- STARTING
pub format_starts : (greatest : ℕ) (c : List ℕ) (n : ℕ) → Sized greatest (length c) n → format_of greatest c ≡ record { begun = Started; memory = format_memory n 0 }
unfolding format_of
format_starts greatest c n s = rw (sized_nodes greatest (length c) n s, ne_eqb n 0 (omega (arith, s.least)))

-- "1: length not 8 + 24 × N, N 4 to 600"
pub format_refused : (greatest : ℕ) (c : List ℕ) → nodes_of_length greatest (length c) ≡ 0 → format_of greatest c ≡ no_beginning 1
unfolding format_of
format_refused greatest c e = rw e

-- ONE STEP: "Formatting steps check only 1."
step_formats : (greatest : ℕ) (card : List ℕ) (n made : ℕ) (free : List Bool) (last : ℕ) (o : Option Store) → Sized greatest (length card) n → format_store n (length card) made ≡ o
    → step_of greatest 1 card (resting n free last no_totals (Formatting made)) ≡ step_format card (resting n free last no_totals (Formatting made)) made o
unfolding step_of held_by step_held resting
step_formats greatest card n made free last o s e = rw (sized_nodes greatest (length card) n s, ne_eqb n 0 (omega (arith, s.least)), eq-eqb n n refl, e)

format_stores : (card : List ℕ) (n made : ℕ) (free : List Bool) (last : ℕ) (s : Store)
    → step_format card (resting n free last no_totals (Formatting made)) made (some s)
    ≡ record { answer = Stored s.0; card = set card s.0 s.1; memory = resting n free last no_totals (Formatting (suc made)) }
unfolding step_format formatting_from resting
format_stores card n made free last s = refl

format_ends : (card : List ℕ) (n made : ℕ) (free : List Bool) (last : ℕ) → step_format card (resting n free last no_totals (Formatting made)) made none
    ≡ record { answer = Ready; card = card; memory = resting n free last no_totals Idle }
unfolding step_format step_final idled resting
format_ends card n made free last = refl

module _ (greatest : ℕ) (c : List ℕ) (n : ℕ) (sized : Sized greatest (length c) n) where
  still_sized : (made : ℕ) → Sized greatest (length (format_card n c made)) n
  still_sized made = rw (format_length n c made) sized

  same_store : (made : ℕ) → format_store n (length (format_card n c made)) made ≡ format_store n (length c) made
  same_store made = rw (format_length n c made)

  -- after so many stores, at most as many as the card has words, a step makes the next one
  pub format_step_stores : (made : ℕ) → made ≤ length c
      → step_of greatest 1 (format_card n c made) (format_memory n made)
      ≡ record { answer = Stored (place_of (format_store n (length c) made)); card = format_card n c (suc made); memory = format_memory n (suc made) }
  format_step_stores made h =
      let f = some_store n (length c) made (omega (arith, sized.words)) h in
      rw (format_next n c made f.0 f.1, f.1)
      (step_formats greatest (format_card n c made) n made (fresh_nodes n) formatted_root (some f.0) (still_sized made) (same_store made ∙ f.1)
      ∙ format_stores (format_card n c made) n made (fresh_nodes n) formatted_root f.0)

  -- after the last store a step answers "ready" and makes the state idle
  pub format_step_ready : step_of greatest 1 (format_card n c (suc (length c))) (format_memory n (suc (length c)))
      ≡ record { answer = Ready; card = format_card n c (suc (length c)); memory = fresh_memory n }
  format_step_ready =
      let made : ℕ = suc (length c) in
      step_formats greatest (format_card n c made) n made (fresh_nodes n) formatted_root none (still_sized made) (same_store made ∙ format_end n (length c) made (omega arith))
      ∙ format_ends (format_card n c made) n made (fresh_nodes n) formatted_root
