use Rattle.std.proofs.Common.{◌≡◌, ℕ, List, length, drop, ap, ◌∙◌, arith}
use Rattle.std.proofs.lemmas.List.{length-replicate}
use Rattle.card_family.specs.Families.{family_count, no_totals}
use Rattle.card_free.specs.NodeSet.{word_count, nodes_of}
use Rattle.state.specs.Block.{free_at, totals_at, back_at, part}
use Rattle.state.proofs.Rows.{placed}
use Rattle.state.proofs.Blocks.{freed_length, freed_after, freed_part, stored_after, stored_part, stored_totals}
use Rattle.call_start.proofs.hold_empty.Goals as goal

-- as many totals as families
sixteen : length no_totals ≡ family_count
sixteen = length-replicate {A = ℕ} family_count 0

pub returns-clause-word_count_after : goal.returns-clause-word_count_after
returns-clause-word_count_after c =
    let b = c.args.state.now in
    let row = c.free_but_root.new.free in
    let e = c.free_but_root.auto.free in
    ap (λ (x : List ℕ). nodes_of (part x free_at word_count)) c.store_totals.ensures
    ∙ ap nodes_of (stored_part (placed free_at word_count b row) no_totals (freed_length b row c.requires.0 e) sixteen free_at word_count (omega arith)
    ∙ freed_part b row c.requires.0 e)
    ∙ c.free_but_root.ensures

pub returns-clause-family_count_after : goal.returns-clause-family_count_after
returns-clause-family_count_after c =
    let b = c.args.state.now in
    let row = c.free_but_root.new.free in
    ap (λ (x : List ℕ). part x totals_at family_count) c.store_totals.ensures
    ∙ stored_totals (placed free_at word_count b row) no_totals (freed_length b row c.requires.0 c.free_but_root.auto.free) sixteen

pub returns-clause-state_unchanged : goal.returns-clause-state_unchanged
returns-clause-state_unchanged c =
    let b = c.args.state.now in
    let row = c.free_but_root.new.free in
    let e = c.free_but_root.auto.free in
    ap (drop back_at) c.store_totals.ensures
    ∙ stored_after (placed free_at word_count b row) no_totals (freed_length b row c.requires.0 e) sixteen
    ∙ freed_after b row c.requires.0 e
