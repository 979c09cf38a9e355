use Rattle.std.proofs.Common.{ap, ◌∙◌, ℕ, Option}
use Rattle.change_decide.specs.declared.Decision.{Decision}
use Rattle.state.specs.declared.Answer.TheVariants.{Absent}
use Rattle.state.specs.declared.Doing.TheVariants.{Inserting}
use Rattle.state.specs.declared.Phase.TheVariants.{InHand}
use Rattle.call_change.specs.Updates.{reason_in, insert_reason}
use Rattle.call_change.specs.Decided.{placed, insert_answer, insert_decided}
use Rattle.call_change.proofs.UpdateLaws.{answer_empty}
use Rattle.call_change.proofs.insert_in.Goals as goal

pub returns-in-Some : goal.returns-in-Some
unfolding insert_reason reason_in insert_answer placed
returns-in-Some c = ap (λ (t : Option ℕ). insert_decided c.args.key c.args.value c.args.node c.args.link (reason_in c.args.leaf.now t)) c.in-Some.ensures

pub returns-in-None : goal.returns-in-None
unfolding insert_reason reason_in
returns-in-None c =
    ap (λ (d : Decision). record { doing = Inserting c.args.key c.args.value InHand; answer = Absent; decision = d }) c.place_new.ensures
    ∙ answer_empty c.args.leaf.now c.args.key c.args.value c.args.node c.args.link
    ∙ ap (λ (t : Option ℕ). insert_decided c.args.key c.args.value c.args.node c.args.link (reason_in c.args.leaf.now t)) c.in-None.ensures
