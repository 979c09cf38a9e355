-- The length of a dump's result fits a word.
use mathlib.Core.Path.{◌≡◌}
use Rattle.card.specs.Layout.{greatest_nodes}
use mathlib.Core.List.{List}
use Prim.Native.Nat.{ℕ, ◌^◌, ◌<◌}
use native.Mathlib.Omega.{arith}
use Rattle.card_dump.specs.Dump.{padded_length, read_answer, write_answer}
use Rattle.card_dump.proofs.AnswerLaws.{read_sized, write_sized}
use Rattle.card_dump.specs.Answer.{Length}

pub short_read : (dump : List ℕ) (lent n : ℕ) → read_answer greatest_nodes dump lent ≡ Length n → n < 2 ^ 32
short_read dump lent n e = let s = read_sized greatest_nodes dump lent n e in omega (arith, s.sized.words, s.sized.most)

pub short_write : (card : List ℕ) (lent n : ℕ) → write_answer greatest_nodes card lent ≡ Length n → n < 2 ^ 32
unfolding padded_length
short_write card lent n e =
    let s = write_sized greatest_nodes card lent n e in
    omega (arith, s.size, s.good.sized.words, s.good.sized.most)
