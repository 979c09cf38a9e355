use Rattle.std.proofs.Common.{arith}
use Rattle.card_free.proofs.Words.{node_added}
use Rattle.card_free.proofs.put_in.Goals as goal

pub returns : goal.returns
returns c = node_added c.args.words.now c.args.m (omega arith)
