use Rattle.std.proofs.Common.{◌≡◌, ◌+◌, ◌*◌, drop, sym, ◌∙◌, arith}
use Rattle.reason_key.specs.KeyFile.{decimal_value, key_of_line}
use Rattle.reason_key.proofs.KeyFileLaws.{digit_test, digits_next, digits_stop, digits_end, continued, continued_next, continued_end, continued_least, key_other, key_great, key_found}
use Rattle.reason_key.proofs.key_of_line.Goals as goal
use Rattle.reason_key.proofs.key_of_line.Goals.{After-from, After-loop-byte}

-- the value with the digit that was read
continued_more : (c : After-from)
    → decimal_value c.args.line.now ≡ continued (10 * c.loop-byte.value + c.from.result) (drop (c.loop-byte.byte-index + 1) c.args.line.now)
continued_more c =
    let l = c.loop-byte in
    l.invariant.2 ∙ continued_next c.args.line.now l.byte-index l.value c.from.result (omega arith) c.from.ensures

pub returns-then-not-is_ascii_digit-clause-value : goal.returns-then-not-is_ascii_digit-clause-value
returns-then-not-is_ascii_digit-clause-value c =
    let l = c.loop-byte in
    key_other c.args.line.now (l.invariant.1 ∙ digits_stop c.args.line.now l.byte-index (omega arith) (sym (digit_test _) ∙ sym c.is_ascii_digit.ensures.value ∙ c.if-not-is_ascii_digit.true))

pub returns-then-value-ge-KEY_LIMIT-clause-value : goal.returns-then-value-ge-KEY_LIMIT-clause-value
returns-then-value-ge-KEY_LIMIT-clause-value c =
    let more = continued_more (goal.at.returns-then-value-ge-KEY_LIMIT-clause-value c).After-from in
    key_great c.args.line.now (omega (arith, continued_least (10 * c.loop-byte.value + c.from.result) (drop (c.loop-byte.byte-index + 1) c.args.line.now)))

pub loop-byte-preserved : goal.loop-byte-preserved
loop-byte-preserved c =
    let l = c.loop-byte in (
      omega arith,
      l.invariant.1 ∙ digits_next c.args.line.now l.byte-index (omega arith) (sym (digit_test _) ∙ sym c.is_ascii_digit.ensures.value ∙ c.if-not-is_ascii_digit.false),
      continued_more (goal.at.loop-byte-preserved c).After-from,
    )

-- after the last byte the line is worth the value
worth : (c : After-loop-byte) → c.loop-byte.value ≡ key_of_line c.args.line.now
worth c =
    let l = c.loop-byte in
    key_found c.args.line.now l.value
    (l.invariant.1 ∙ digits_end c.args.line.now l.byte-index (omega arith))
    (l.invariant.2 ∙ continued_end c.args.line.now l.byte-index l.value (omega arith))
    l.invariant.0

pub returns-then-value-eq0-clause-value : goal.returns-then-value-eq0-clause-value
returns-then-value-eq0-clause-value c = sym c.if-value-eq0.true ∙ worth (goal.at.returns-then-value-eq0-clause-value c).After-loop-byte

pub returns-else-value-eq0-clause-value : goal.returns-else-value-eq0-clause-value
returns-else-value-eq0-clause-value c = worth (goal.at.returns-else-value-eq0-clause-value c).After-loop-byte
