use Rattle.std.proofs.Common.{refl, ap, ◌∙◌, ◌≡◌, ℕ, ◌+◌, ◌-◌, List, Bool, false, set, get_or, take, take_all, arith}
use Rattle.card_free.specs.NodeSet.{nodes_of}
use Rattle.change_plan.specs.Planning.{without_all, last_of}
use Rattle.change_plan.proofs.NumberLaws.{without_next, last_some}
use Rattle.change_plan.proofs.numbers.take.Goals as goal

pub loop-m-init : goal.loop-m-init
unfolding without_all last_of
loop-m-init c = (refl, refl)

pub loop-m-preserved : goal.loop-m-preserved
loop-m-preserved c =
    let l = c.loop-m in
    let ms = take c.args.count c.args.nodes in (
      c.take_out.ensures ∙ ap (λ (b : List Bool). set b (get_or ms l.m-index 0) false) l.invariant.0
          ∙ without_next ms l.m-index (nodes_of c.args.free.now) c.loop-m-test.true,
      ap (λ (k : ℕ). get_or ms k 0) (let z : l.m-index ≡ l.m-index + 1 - 1 = omega arith in z)
          ∙ last_some ms (l.m-index + 1) c.args.last (λ z. omega (arith, z)) (omega arith),
    )

pub returns-clause-free_after : goal.returns-clause-free_after
returns-clause-free_after c =
    let l = c.loop-m in
    l.invariant.0 ∙ ap (λ (ms : List ℕ). without_all ms (nodes_of c.args.free.now)) (take_all l.m-index (take c.args.count c.args.nodes) c.loop-m-test.false)

pub returns-clause-value : goal.returns-clause-value
returns-clause-value c =
    let l = c.loop-m in
    l.invariant.1 ∙ ap (last_of c.args.last) (take_all l.m-index (take c.args.count c.args.nodes) c.loop-m-test.false)
