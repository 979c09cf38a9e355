use Rattle.std.proofs.Common.{◌≡◌, ℕ, ◌-◌, ◌++◌, length, replicate, ap, ap₂, ◌∙◌, arith, rules}
use Rattle.card_dump.specs.Dump.{card_bytes, padded_length, dump_of}
use Rattle.card_dump.proofs.ByteLaws.{length_card_bytes}
use Rattle.card_dump.proofs.AnswerLaws.{padded_covers}
use Rattle.card_dump.proofs.write_padded.Goals as goal

pub split_at_mut-words-requires : goal.split_at_mut-words-requires
split_at_mut-words-requires c = omega (arith, padded_covers (length c.args.card.now))

pub returns : goal.returns
unfolding dump_of
returns c =
    let card = c.args.card.now in
    let left : length c.split_at_mut-words.result.1.now ≡ padded_length (length card) - length (card_bytes card) =
    omega (arith, c.split_at_mut-words.ensures.back_len, length_card_bytes card) in
    ap₂ ◌++◌ c.write_words.ensures (c.fill.ensures.after (λ y h. search rules) ∙ ap (λ (k : ℕ). replicate k 0) left)
