use Rattle.std.proofs.Common.{ap, ◌∙◌}
use Rattle.reason_key.specs.KeyFile.{last_line, key_of_line}
use Rattle.reason_key.proofs.KeyFileLaws.{key_longer, key_within}
use Rattle.reason_key.proofs.key_in.Goals as goal

pub returns-then-file-gt-MOST_BYTES-clause-value : goal.returns-then-file-gt-MOST_BYTES-clause-value
returns-then-file-gt-MOST_BYTES-clause-value c = key_longer c.args.file.now c.if-file-gt-MOST_BYTES.true

pub returns-clause-value : goal.returns-clause-value
returns-clause-value c =
    c.key_of_line.ensures.value
    ∙ ap key_of_line (c.last_line.ensures ∙ ap last_line c.without_final_feed.ensures)
    ∙ key_within c.args.file.now c.if-file-gt-MOST_BYTES.false
