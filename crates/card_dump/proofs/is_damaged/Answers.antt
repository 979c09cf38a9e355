use Rattle.std.proofs.Common.{◌≡◌, ℕ, ◌*◌, drop, sym, ap, ◌∙◌, arith, eqb-true}
use Rattle.laws.specs.Lists.{all_zero}
use Rattle.card_dump.specs.Dump.{padded_length, words_for, dump_nodes}
use Rattle.card_dump.proofs.AnswerLaws.{damaged_empty, damaged_odd, damaged_long, damaged_few, damaged_many, damaged_length, padding_decides}
use Rattle.card_dump.proofs.Padding.{padding_start}
use Rattle.card_dump.proofs.is_damaged.Goals as goal
use Rattle.card_dump.proofs.is_damaged.Goals.{After-padded_length-2}

-- the two calls answer for N as word 1 says it
padded : (c : After-padded_length-2) → padded_length (words_for (dump_nodes c.args.dump.now)) ≡ c.padded_length-2.result
padded c = ap (λ (k : ℕ). padded_length (words_for k)) (sym c.word_at-n.ensures) ∙ sym c.padded_length-2.ensures

pub returns-then-is_empty : goal.returns-then-is_empty
returns-then-is_empty c = sym (damaged_empty _ _ (eqb-true _ _ (sym c.is_empty.ensures ∙ c.if-is_empty.true)))

pub returns-then-dump-ne0 : goal.returns-then-dump-ne0
returns-then-dump-ne0 c = sym (damaged_odd _ _ c.if-dump-ne0.true)

pub returns-then-padded_length-dump : goal.returns-then-padded_length-dump
returns-then-padded_length-dump c =
    sym (damaged_long _ _ (rw (sym (ap (λ (k : ℕ). padded_length (words_for k)) c.limit-most.ensures.0)) (omega (arith, c.padded_length.ensures))))

pub returns-then-n-lt-LEAST_NODES : goal.returns-then-n-lt-LEAST_NODES
returns-then-n-lt-LEAST_NODES c = sym (damaged_few _ _ (omega arith))

pub returns-then-most-n : goal.returns-then-most-n
returns-then-most-n c = sym (damaged_many _ _ (omega arith))

pub returns-then-padded_length-dump-2 : goal.returns-then-padded_length-dump-2
returns-then-padded_length-dump-2 c =
    sym (damaged_length _ _ (λ e. c.if-padded_length-dump-2.true (sym (padded (goal.at.returns-then-padded_length-dump-2 c).After-padded_length-2) ∙ e)))

pub returns : goal.returns
returns c =
    let dump = c.args.dump.now in
    padding_decides _ _ (omega arith) (omega (arith, c.limit-most.ensures.0)) (padded (goal.at.returns c).After-padded_length-2 ∙ c.if-padded_length-dump-2.false)
    _ (c.is_zero.ensures ∙ ap (λ (i : ℕ). all_zero (drop i dump)) (padding_start c.word_at-n.result)
    ∙ ap (λ (k : ℕ). all_zero (drop (4 * words_for k) dump)) c.word_at-n.ensures)
