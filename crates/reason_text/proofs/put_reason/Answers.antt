use Rattle.std.proofs.Common.{◌++◌, arith}
use Rattle.text_row.specs.Lines.{line_feed}
use Rattle.text_row.proofs.FillingLaws.{fill_reached}
use Rattle.reason_text.specs.ReasonText.{no_key_word, slot_word}
use Rattle.reason_text.proofs.put_reason.Goals as goal

pub returns-in-Ok-NoKey-clause-upper_bound : goal.returns-in-Ok-NoKey-clause-upper_bound
unfolding no_key_word line_feed
returns-in-Ok-NoKey-clause-upper_bound c = omega (arith, fill_reached (no_key_word ++ line_feed) _ _ c.put_all.ensures)

pub returns-in-Ok-Slot-clause-upper_bound : goal.returns-in-Ok-Slot-clause-upper_bound
unfolding slot_word line_feed
returns-in-Ok-Slot-clause-upper_bound c = omega (arith, fill_reached (slot_word ++ line_feed) _ _ c.put_all-in-Ok-Slot.ensures)
