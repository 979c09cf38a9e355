-- `call_open::open_sound` meets its contract.
use mathlib.Core.Path.{refl, ap, sym, subst}
use mathlib.Core.Bool.{not}
use native.Mathlib.Omega.{arith}
use lib.ListN.{get_or}
use borrow.Author.Tests.{eq-eqb, ne_eqb}
use Rattle.card_free.specs.NodeSet.{word_count, nodes_of}
use Rattle.card_check.specs.Check.{findings_of}
use Rattle.state.specs.Steps.{Handed}
use Rattle.state.specs.Begun.{Idle as OpenedIdle, Started, told}
use Rattle.state.specs.Block.{free_at, part}
use Rattle.state.specs.Clauses.{Opened}
use Rattle.call_open.proofs.OpeningLaws.{open_scarce, open_repair, open_idle}
use Rattle.call_open.proofs.open_sound.Goals as goal

pub returns-then-count-lt3 : goal.returns-then-count-lt3
unfolding findings_of
returns-then-count-lt3 c =
    subst (λ (due : Handed). Opened c.args.state.now c.refuse_beginning.new.block (told c.refuse_beginning.result) due)
    (sym (open_scarce _ _ _ _ (omega (arith, c.count-count.ensures, c.if-count-lt3.true))))
    c.refuse_beginning.ensures

pub returns-then-count-run : goal.returns-then-count-run
unfolding findings_of
returns-then-count-run c =
    subst (λ (due : Handed). Opened c.args.state.now c.refuse_beginning-then-count-run.new.block (told c.refuse_beginning-then-count-run.result) due)
    (sym (open_scarce _ _ _ _ (omega (
      arith,
      c.count-count.ensures,
      c.if-count-lt3.false,
      c.if-count-run.true,
    )))) c.refuse_beginning-then-count-run.ensures

pub store_resting-requires : goal.store_resting-requires
store_resting-requires c = (c.requires.0, c.requires.1)

pub returns-then-found-ne0 : goal.returns-then-found-ne0
unfolding findings_of
returns-then-found-ne0 c =
    subst (λ (due : Handed). Opened c.args.state.now c.store_resting.new.block Started due)
    (sym (open_repair _ _ _ (findings_of (nodes_of (part c.args.state.now free_at word_count)) c.args.found.now) (omega (
      arith,
      c.count-count.ensures,
      c.if-count-lt3.false,
      c.if-count-run.false,
    )) (ap not (ne_eqb (get_or c.args.found.now 0 0) 0 c.if-found-ne0.true))))
    (record { answered = refl; handed = c.store_resting.ensures.memory_after; words = c.store_resting.ensures.words_after })

pub store_resting-requires-2 : goal.store_resting-requires-2
store_resting-requires-2 c = (c.requires.0, c.requires.1)

pub returns : goal.returns
unfolding findings_of
returns c =
    subst (λ (due : Handed). Opened c.args.state.now c.store_resting-2.new.block OpenedIdle due)
    (sym (open_idle _ _ _ (findings_of (nodes_of (part c.args.state.now free_at word_count)) c.args.found.now) (omega (
      arith,
      c.count-count.ensures,
      c.if-count-lt3.false,
      c.if-count-run.false,
    )) (ap not (eq-eqb (get_or c.args.found.now 0 0) 0 c.if-found-ne0.false))))
    (record { answered = refl; handed = c.store_resting-2.ensures.memory_after; words = c.store_resting-2.ensures.words_after })
