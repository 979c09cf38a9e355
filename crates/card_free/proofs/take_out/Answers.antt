use Rattle.std.proofs.Common.{arith}
use Rattle.card_free.proofs.Words.{node_removed}
use Rattle.card_free.proofs.take_out.Goals as goal

pub returns : goal.returns
returns c = node_removed c.args.words.now c.args.m (omega arith) (omega arith)
