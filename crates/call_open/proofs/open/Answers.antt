-- `call_open::open` meets its contract.
use mathlib.Core.Path.{ap, refl, sym, subst, ◌∙◌}
use Prim.Native.Nat.{ℕ}
use Rattle.card.specs.Layout.{search_start}
use Rattle.card.proofs.HeaderLaws.{sized_nodes}
use Rattle.card.proofs.RefusalLaws.{number_some}
use Rattle.card_check.specs.Check.{table_check}
use Rattle.card_check.specs.Counting.{table_counted}
use Rattle.state.specs.Steps.{Handed, no_beginning}
use Rattle.state.specs.Begun.{told}
use Rattle.state.specs.Clauses.{Opened}
use Rattle.state.proofs.ContractLaws.{open_no_state, opened_call}
use Rattle.call_open.specs.Opening.{open_checked, open_of}
use Rattle.call_open.proofs.OpeningLaws.{open_refused, open_unrefused}
use Rattle.call_open.proofs.open.Goals as goal

pub returns-then-state-ne-STATE_WORDS : goal.returns-then-state-ne-STATE_WORDS
returns-then-state-ne-STATE_WORDS c = open_no_state c.args.state.now c.if-state-ne-STATE_WORDS.true (open_of c.args.greatest c.args.card.now)

pub returns-in-Err : goal.returns-in-Err
returns-in-Err c =
    opened_call c.args.state.now c.refuse_beginning.new.block _ _ c.if-state-ne-STATE_WORDS.false
    (subst (λ (due : Handed). Opened c.args.state.now c.refuse_beginning.new.block (told c.refuse_beginning.result) due)
    (ap no_beginning c.in-Err.ensures.refused
    ∙ sym (open_refused _ _ (λ z. number_some c.in-Err.refusal (c.in-Err.ensures.refused ∙ z))))
    c.refuse_beginning.ensures)

pub open_checked-requires : goal.open_checked-requires
open_checked-requires c =
    let k = c.in-Ok.ensures.sized c.in-Ok.n refl in (k.words, k.most, c.if-state-ne-STATE_WORDS.false)

pub returns-in-Ok : goal.returns-in-Ok
returns-in-Ok c =
    let n = c.in-Ok.n in
    opened_call c.args.state.now c.open_checked.new.state _ _ c.if-state-ne-STATE_WORDS.false
    (subst (λ (due : Handed). Opened c.args.state.now c.open_checked.new.state (told c.open_checked.result) due)
    (ap (λ (n : ℕ). open_checked n (search_start c.args.card.now) (table_counted c.args.card.now) (table_check c.args.card.now n))
    (sym (sized_nodes _ _ _ (c.in-Ok.ensures.sized n refl)))
    ∙ sym (open_unrefused _ _ (sym c.in-Ok.ensures.refused)))
    c.open_checked.ensures)
