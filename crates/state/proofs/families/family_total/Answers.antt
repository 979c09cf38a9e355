use Rattle.std.proofs.Common.{◌<◌, ap, sym, ◌∙◌, drop}
use lib.Seq.{get_or-take, get_or-drop}
use borrow.Author.Tests.{lt-ltb}
use Rattle.card_family.specs.Families.{family_count}
use Rattle.state.specs.Block.{totals_at, memory_in}
use Rattle.state.specs.Answers.{total_of}
use Rattle.state.specs.Total.{Pairs}
use Rattle.state.proofs.families.family_total.Goals as goal

pub returns : goal.returns
unfolding total_of memory_in
returns c =
    let block = c.args.state.now in
    let family = c.args.family in
    let few : family < family_count = c.if-family-ge-FAMILIES.false in
    record {
      told = λ l. rw (lt-ltb family family_count few) (ap Pairs (sym (get_or-take family_count (drop totals_at block) family 0 few ∙ get_or-drop totals_at block family 0)));
      no_state_lem = λ n. absurd (n c.if-state-ne-STATE_WORDS.false);
    }
