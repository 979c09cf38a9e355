use Rattle.std.proofs.Common.{◌≡◌, ℕ, ◌++◌, ◌+◌, ◌*◌, List, drop, length, length-take, sym, ap, ◌∙◌, arith}
use Rattle.std.proofs.Math.Seq.{length-take-le}
use Rattle.card_dump.specs.Dump.{dump_words, words_for, fitting_length, read_answer}
use Rattle.card_dump.proofs.AnswerLaws.{whole_covers, undamaged_whole, read_damaged, read_whole, room_short, room_long, read_words, read_refused}
use Rattle.card_dump.proofs.read_dump.Goals as goal
use Rattle.card_dump.proofs.read_dump.Goals.{After-word_at}

-- past the first test the answer is as the lent slice's room says
sized_answer : (c : After-word_at)
    → read_answer c.args.greatest c.args.dump.now (length c.args.words.now) ≡ fitting_length (8 + 24 * c.word_at.result) (length c.args.words.now)
sized_answer c =
    read_whole _ _ _ (sym c.is_damaged.ensures ∙ c.if-is_damaged.false)
    ∙ ap (λ (k : ℕ). fitting_length (words_for k) (length c.args.words.now)) (sym c.word_at.ensures)

pub returns-then-is_damaged : goal.returns-then-is_damaged
returns-then-is_damaged c =
    let e = read_damaged _ _ _ (sym c.is_damaged.ensures ∙ c.if-is_damaged.true) in
    record { value = sym e; words_after = sym (read_refused _ _ _ 11 e) }

pub word_at-requires : goal.word_at-requires
word_at-requires c = omega (arith, whole_covers (undamaged_whole _ _ (sym c.is_damaged.ensures ∙ c.if-is_damaged.false)))

pub returns-then-words-size : goal.returns-then-words-size
returns-then-words-size c =
    let e = sized_answer (goal.at.returns-then-words-size c).After-word_at ∙ room_short _ _ c.if-words-size.true in
    record { value = sym e; words_after = sym (read_refused _ _ _ 12 e) }

pub read_words-requires : goal.read_words-requires
read_words-requires c =
    omega (arith, c.word_at.ensures, whole_covers (undamaged_whole _ _ (sym c.is_damaged.ensures ∙ c.if-is_damaged.false)), length-take (8 + 24 * c.word_at.result) c.args.words.now)

pub returns : goal.returns
returns c =
    let e = sized_answer (goal.at.returns c).After-word_at ∙ room_long (8 + 24 * c.word_at.result) _ (omega arith) in
    let size = length-take-le (8 + 24 * c.word_at.result) c.args.words.now (omega arith) in
    record {
      value = sym e;
      words_after =
          ap (λ (l : List ℕ). l ++ drop (8 + 24 * c.word_at.result) c.args.words.now) (c.read_words.ensures ∙ ap (λ (k : ℕ). dump_words k c.args.dump.now) size)
          ∙ sym (read_words _ _ _ _ e);
    }
