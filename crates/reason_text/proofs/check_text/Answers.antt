use Rattle.std.proofs.Common.{ap, ◌∙◌, ℕ}
use Rattle.std.proofs.lemmas.List.{length-replicate}
use Rattle.card.specs.Layout.{program_nodes}
use Rattle.text_row.specs.Filling.{filled, fill}
use Rattle.text_row.proofs.FillingLaws.{fill_whole}
use Rattle.reason.specs.InsertReason.{reason_in_dump}
use Rattle.reason.specs.Reason.{Reason}
use Rattle.reason_key.specs.KeyFile.{key_in}
use Rattle.call_repair.specs.Repairing.{card_room}
use Rattle.reason_text.specs.ReasonText.{reason_text, check_text}
use Rattle.reason_text.proofs.check_text.Goals as goal

pub returns : goal.returns
unfolding check_text
returns c =
    let file = key_in c.args.file.now in
    let reason = c.insert_reason_for_file-reason.ensures.value
    ∙ ap (λ (n : ℕ). reason_in_dump program_nodes c.args.dump.now n file) (length-replicate {A = ℕ} (card_room program_nodes) 0) in
    let whole = fill_whole (check_text program_nodes c.args.dump.now c.args.file.now) c.args.text.now _ _ c.put_reason.ensures.upper_bound
    (c.put_reason.ensures.text_after ∙ ap (λ (r : Reason). fill (reason_text r) (filled 0 c.args.text.now)) reason) in
    record { value = whole.0; text_after = whole.1 }
