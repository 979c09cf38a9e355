use Rattle.std.proofs.Common.{sym, ◌∙◌}
use Rattle.card_check.proofs.CheckLaws.{unused_keys, unused_values}
use Rattle.card_check.proofs.unused.unused_is_zero.Goals as goal

pub returns-then-are_zero : goal.returns-then-are_zero
returns-then-are_zero c =
    c.are_zero-then-are_zero.ensures ∙ sym (unused_values c.args.node.now c.args.c c.requires.1 (sym c.are_zero.ensures ∙ c.if-are_zero.true))

pub returns-else-are_zero : goal.returns-else-are_zero
returns-else-are_zero c =
    c.if-are_zero.false ∙ sym (unused_keys c.args.node.now c.args.c c.requires.1 (sym c.are_zero.ensures ∙ c.if-are_zero.false))
