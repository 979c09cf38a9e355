-- `ration_table::ration_write_dump` meets its contract.
use Rattle.std.proofs.Common.{◌≡◌, length, ap, sym, ◌∙◌}
use Rattle.card_dump.specs.Answer.{told}
use Rattle.card_dump.specs.Answers.{dump_reply}
use Rattle.c_replies.specs.Told.{dump_told}
use Rattle.ration_table.proofs.DumpLaws.{short_write}
use Rattle.ration_table.proofs.NumberLaws.{dump_numbered}
use Rattle.ration_table.proofs.ration_write_dump.Goals as goal

pub dump_reply-requires : goal.dump_reply-requires
dump_reply-requires c =
    let same : dump_told c.numbered.result ≡ told c.write_dump-answer.result = ap dump_told c.numbered.ensures ∙ dump_numbered c.write_dump-answer.result in
    λ n e. short_write c.args.card.now (length c.args.bytes.now) n (sym c.write_dump-answer.ensures.value ∙ sym same ∙ e)

pub returns : goal.returns
returns c =
    let same : dump_told c.numbered.result ≡ told c.write_dump-answer.result = ap dump_told c.numbered.ensures ∙ dump_numbered c.write_dump-answer.result in
    record { result_value = c.dump_reply.ensures ∙ ap dump_reply (same ∙ c.write_dump-answer.ensures.value); bytes_after = c.write_dump-answer.ensures.bytes_after }
