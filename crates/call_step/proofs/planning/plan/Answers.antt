use Rattle.std.proofs.Common.{◌≡◌, arith, length}
use Rattle.call_step.proofs.PlanLaws.{plan_given, plan_few, plan_among, plan_free, plan_count, plan_words}
use Rattle.change_layout.proofs.LayOutLaws.{all_numbered}
use Rattle.call_step.proofs.PlayLaws.{part_length}
use Rattle.state.specs.Block.{places_at}
use borrow.Author.Rules.{rules}
use Rattle.call_step.proofs.planning.plan.Goals as goal

pub lay_places-requires : goal.lay_places-requires
lay_places-requires c = (
  (c.args.card.now, c.requires.1),
  all_numbered _ _ (plan_given c.args.card.now c.args.state.now c.requires.0 c.args.decision c.args.size c.requires.2 c.args.nodes c.requires.3),
  part_length c.args.state.now places_at 73 (omega (arith, c.requires.0)),
)

pub take-last-requires : goal.take-last-requires
take-last-requires c = (
  plan_free c.args.card.now c.args.state.now c.requires.0 c.args.decision c.args.size c.requires.2 c.args.nodes c.requires.3 _ c.lay_places.auto.places _
      c.lay_values.auto.values,
  plan_few c.args.card.now c.args.state.now c.requires.0 c.args.decision c.args.size c.requires.2 c.args.nodes c.requires.3,
  plan_among c.args.card.now c.args.state.now c.requires.0 c.args.decision c.args.size c.requires.2 c.args.nodes c.requires.3,
)

pub returns : goal.returns
returns c =
    let three_cut : length c.cut_of.result ≡ 3 = search rules in
    let three : length c.args.nodes ≡ 3 = search rules in (
      plan_words c.args.card.now c.args.state.now c.requires.0 c.args.decision c.args.size c.requires.2 c.args.nodes c.requires.3 _ c.lay_places.auto.places _
          c.lay_values.auto.values c.lay_places.ensures c.lay_values.ensures _ c.take-last.auto.free c.take-last.ensures.free_after _
          c.take-last.ensures.value c.args.doing _ c.cut_of.ensures three_cut three _ (λ i. omega (arith, c.type_inv.state i)) c.store_head.ensures,
      plan_count c.args.card.now c.args.state.now c.requires.0 c.args.decision c.args.size c.requires.2 c.args.nodes c.requires.3 _ c.lay_places.auto.places _
          c.lay_values.auto.values c.lay_places.ensures c.lay_values.ensures,
    )
