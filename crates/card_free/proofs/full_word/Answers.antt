use Rattle.std.proofs.Common.{suc, ◌-◌, ◌*◌, arith}
use lib.Pow.{pow_pos}
use Rattle.card_free.proofs.Filling.{word_none, word_whole, two_shl, word_part}
use Rattle.card_free.proofs.full_word.Goals as goal

pub returns-then-n-q : goal.returns-then-n-q
returns-then-n-q c = word_none c.args.q c.args.n c.requires.0 c.requires.1 c.if-n-q.true

pub returns-then-last-ge31 : goal.returns-then-last-ge31
returns-then-last-ge31 c = word_whole _ _ c.requires.0 c.requires.1 (omega arith) c.if-last-ge31.true

pub overflow_sub-result : goal.overflow_sub-result
overflow_sub-result c =
    let last = c.args.n - 32 * c.args.q in
    omega (arith, two_shl last (omega arith), pow_pos (suc last))

pub returns : goal.returns
returns c = word_part _ _ c.requires.0 c.requires.1 (omega arith) (omega arith)
