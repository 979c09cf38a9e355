-- `call_open::open_checked` meets its contract.
use mathlib.Core.Path.{◌≡◌, ap, ap₂, sym, subst, ◌∙◌}
use mathlib.Core.List.{List}
use Prim.Native.Nat.{ℕ}
use native.Mathlib.Omega.{arith}
use lib.ListN.{length, drop, take, length-drop}
use lib.Seq.{take_all}
use Rattle.card.specs.Layout.{search_start}
use Rattle.card_family.specs.Families.{family_count}
use Rattle.card_free.specs.NodeSet.{word_count, nodes_of}
use Rattle.card_check.specs.Check.{findings_of, checked_of}
use Rattle.card_check.specs.Counting.{table_counted}
use Rattle.std.specs.Prelude.{Option}
use Rattle.state.specs.Block.{back_at, free_at, totals_at, state_words, part}
use Rattle.state.specs.Steps.{Handed}
use Rattle.state.specs.Begun.{told}
use Rattle.state.specs.Clauses.{Opened}
use Rattle.state.proofs.Rows.{placed}
use Rattle.state.proofs.Blocks.{freed_length, freed_part, stored_part, stored_totals, freed_after, stored_after}
use Rattle.state.proofs.ContractLaws.{opened_from}
use Rattle.call_open.specs.Opening.{open_sound, open_checked}
use Rattle.call_open.proofs.open_checked.Goals as goal

pub returns-in-None : goal.returns-in-None
unfolding open_checked checked_of
returns-in-None c =
    let k = c.check_table in
    let b = c.args.state.now in
    let block = placed free_at word_count b k.new.free in
    opened_from block b _ _ _ (freed_after b k.new.free c.requires.2 k.auto.free)
    (subst (λ (due : Handed). Opened block c.refuse_beginning.new.block (told c.refuse_beginning.result) due)
    (ap (open_checked c.args.n (search_start c.args.card.now) (table_counted c.args.card.now))
    (sym (ap (λ (r : Option ℕ). checked_of r (findings_of (nodes_of k.new.free) k.new.found)) c.in-None.is)
    ∙ k.ensures.found_after))
    c.refuse_beginning.ensures)

pub returns-in-Some : goal.returns-in-Some
unfolding open_checked checked_of
returns-in-Some c =
    let b = c.args.state.now in
    let k = c.check_table in
    let put = c.store_totals.ensures in
    let found = k.new.found in
    let block = placed free_at word_count b k.new.free in
    let long : length block ≡ state_words = freed_length b k.new.free c.requires.2 k.auto.free in
    let totals : List ℕ = take family_count (drop 3 found) in
    let all : totals ≡ drop 3 found = take_all family_count (drop 3 found) (omega (arith, length-drop 3 found, k.auto.found)) in
    let sixteen : length totals ≡ family_count = omega (arith, ap length all, length-drop 3 found, k.auto.found) in
    let free = ap (λ (x : List ℕ). part x free_at word_count) put ∙ stored_part block totals long sixteen free_at word_count (omega arith)
    ∙ freed_part b k.new.free c.requires.2 k.auto.free in
    let counted = ap (λ (x : List ℕ). part x totals_at family_count) put ∙ stored_totals block totals long sixteen ∙ all ∙ k.ensures.by_index c.in-Some.field-0 c.in-Some.is in
    let stands = ap (drop back_at) put ∙ stored_after block totals long sixteen ∙ freed_after b k.new.free c.requires.2 k.auto.free in
    let stored = c.store_totals.new.block in
    opened_from stored b _ _ _ stands
    (subst (λ (due : Handed). Opened stored c.open_sound.new.state (told c.open_sound.result) due)
    (ap₂ (λ (row t : List ℕ). open_sound c.args.n (search_start c.args.card.now) t (findings_of (nodes_of row) found)) free counted
    ∙ ap (open_checked c.args.n (search_start c.args.card.now) (table_counted c.args.card.now))
    (sym (ap (λ (r : Option ℕ). checked_of r (findings_of (nodes_of k.new.free) found)) c.in-Some.is) ∙ k.ensures.found_after))
    c.open_sound.ensures)
