use Rattle.std.proofs.Common.{refl, sym, ◌∙◌, length-set, arith}
use Rattle.change_plan.specs.Plan.{given_by, left_given}
use Rattle.change_plan.proofs.NumberLaws.{taking_start, taking_more, taking_none, taking_round, taking_done, first_zero, found_below}
use Rattle.change_plan.proofs.numbers.give.Goals as goal

pub loop-i-init : goal.loop-i-init
loop-i-init c = (taking_start _ _ _ _ refl, refl)

pub returns-in_default : goal.returns-in_default
unfolding given_by left_given
returns-in_default c =
    let l = c.loop-i in (
      taking_none _ _ l.i _ _ _ l.invariant.0 c.loop-i-test.true (sym c.next_free.ensures ∙ c.in_default.is),
      λ z. refl,
    )

pub overflow_cast-number : goal.overflow_cast-number
overflow_cast-number c = omega (arith, found_below c.args.free.now c.loop-i.latest _ c.requires.0 (sym c.next_free.ensures ∙ c.in-Some.is))

pub returns-then-number-nodes : goal.returns-then-number-nodes
unfolding given_by left_given
returns-then-number-nodes c =
    let l = c.loop-i in (
      taking_round _ _ l.i _ _ _ l.invariant.0 c.in-Some.m
          c.loop-i-test.true
          (sym c.next_free.ensures ∙ c.in-Some.is) c.if-number-nodes.true,
      λ z. refl,
    )

pub loop-i-preserved : goal.loop-i-preserved
loop-i-preserved c =
    let l = c.loop-i in (
      taking_more _ _ l.i _ _ _ l.invariant.0 _ l.invariant.1 c.requires.1 c.loop-i-test.true
          (sym c.next_free.ensures ∙ c.in-Some.is) c.if-number-nodes.false,
      length-set l.nodes l.i c.in-Some.m ∙ l.invariant.1,
    )

pub returns : goal.returns
unfolding given_by left_given
returns c =
    let l = c.loop-i in (
      taking_done _ _ l.i _ _ _ l.invariant.0 (omega arith),
      λ z. first_zero _ _ l.i _ _ _ l.invariant.0 l.invariant.0.within z,
    )
