use Rattle.std.proofs.Common.{ℕ, eqb, ap, ◌∙◌, rules, tests}
use Rattle.std.proofs.lemmas.Fn.{always_returns_same}
use Rattle.reason_key.specs.KeyFile.{line_feed_byte, last_line}
use Rattle.reason_key.proofs.KeyFileLaws.{line_last, line_front, first_part}
use Rattle.reason_key.proofs.last_line.Goals as goal

pub returns : goal.returns
returns c =
    ap (λ x. x.now) c.unwrap_or.ensures
    ∙ first_part c.args.text c.next.result _ _ c.next.ensures.steps (λ n. let d = c.rsplit.ensures.done in cc)
    (λ line s.
    let cut = line_front _ _ _ _ s.1 in
    let after = s.2 (λ (b : ℕ). eqb b line_feed_byte) (always_returns_same _ _ _ (λ a r q k. (search (rules, tests), search rules))) in
    line_last _ cut.0 line.now cut.1 after.1 ∙ ap last_line c.rsplit.ensures.rest)
