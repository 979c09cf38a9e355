use Rattle.std.proofs.Common.{arith}
use Rattle.card_free.proofs.Words.{node_tested}
use Rattle.card_free.proofs.contains.Goals as goal

pub returns : goal.returns
returns c = node_tested c.args.words.now c.args.m (omega arith)
