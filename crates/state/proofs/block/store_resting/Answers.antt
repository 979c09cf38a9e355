use Rattle.std.proofs.Common.{◌≡◌, ap, ◌∙◌, List, ◌∷◌, ◌++◌, ℕ, ◌^◌, ◌<◌, length, get_or, drop, length-take-le, length-drop, arith, rules}
use lib.ListN.{replicate, length-set, get_or-eq_default}
use lib.Seq.{get_or-take, get_or-drop}
use Rattle.laws.proofs.Cases.{order}
use Rattle.card_family.specs.Families.{family_count}
use Rattle.card_free.specs.NodeSet.{word_count}
use Rattle.state.specs.Block.{free_at, places_at, totals_at, back_at, rest_words, state_words, part, memory_in}
use Rattle.state.specs.Blocks.{resting_words}
use Rattle.state.proofs.Rows.{placed, placed_length}
use Rattle.state.proofs.Blocks.{memory_resting, resting_block_lem, rest_stored}
use Rattle.state.proofs.block.store_resting.Goals as goal

-- the words stored
stored : (c : goal.After-slice_known-4-1) →
    placed places_at rest_words (placed 6 5 c.store_doing.new.block c.fill.new.self) c.fill-2.new.self
    ≡ resting_words c.args.n (part c.args.block.now free_at word_count) c.args.last
    (part c.args.block.now totals_at family_count ++ 0 ∷ drop back_at c.args.block.now) c.args.doing
stored c =
    let block = c.args.block.now in
    let begun = c.store_doing.new.block in
    let long : length begun ≡ state_words =
    c.store_doing.auto.block ∙ simp length-set c.requires.0 in
    let five : c.fill.new.self ≡ replicate 5 0 =
    c.fill.ensures.after (λ y e. e) ∙ ap (λ (k : ℕ). replicate k 0) (length-take-le 5 (drop 6 begun) (omega (arith, long, length-drop 6 begun))) in
    let cleared : length (placed 6 5 begun c.fill.new.self) ≡ state_words =
    placed_length begun c.fill.new.self 6 5 (ap length five) (omega (arith, long)) ∙ long in
    let rest = drop places_at (placed 6 5 begun c.fill.new.self) in
    let zeros : c.fill-2.new.self ≡ replicate rest_words 0 =
    c.fill-2.ensures.after (λ y e. e)
    ∙ ap (λ (k : ℕ). replicate k 0) (length-take-le rest_words rest (omega (arith, cleared, length-drop places_at (placed 6 5 begun c.fill.new.self)))) in
    ap (λ (b : List ℕ). placed places_at rest_words (placed 6 5 b c.fill.new.self) c.fill-2.new.self) c.store_doing.ensures
    ∙ rest_stored block c.fill.new.self c.fill-2.new.self c.args.n c.args.last c.args.doing c.requires.0 five zeros

pub returns-clause-words_after : goal.returns-clause-words_after
returns-clause-words_after c =
    let block = c.args.block.now in
    let row = part block free_at word_count in
    let all_free : length row ≡ word_count = length-take-le word_count (drop 11 block) (omega (arith, length-drop 11 block, c.requires.0)) in
    let words : (i : ℕ) → get_or row i 0 < 2 ^ 32 =
    λ i. order i word_count
    (λ h. rw (get_or-take word_count (drop 11 block) i 0 h ∙ get_or-drop 11 block i 0) (search rules))
    (λ h. rw (get_or-eq_default row 0 {n = i} (omega (arith, all_free))) (omega arith)) in
    stored c ∙ resting_block_lem block c.args.n row c.args.last (part block totals_at family_count) c.args.doing all_free words

pub returns-clause-memory_after : goal.returns-clause-memory_after
returns-clause-memory_after c =
    let block = c.args.block.now in
    let all_free = length-take-le word_count (drop 11 block) (omega (arith, length-drop 11 block, c.requires.0)) in
    let sixteen = length-take-le family_count (drop totals_at block) (omega (arith, length-drop totals_at block, c.requires.0)) in
    ap memory_in (stored c)
    ∙ memory_resting c.args.n (part block free_at word_count) c.args.last (part block totals_at family_count) _ all_free sixteen c.args.doing
