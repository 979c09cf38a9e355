use Rattle.std.proofs.Common.{true, sym, ap, ◌∙◌, arith}
use Rattle.card_check.specs.Check.{Findings, leaf, look_of, findings_of, noted}
use Rattle.card_check.specs.declared.Entry.TheVariants.{Leaf}
use Rattle.card_check.proofs.CheckLaws.{enter_leaf_unsound, enter_leaf_root, enter_leaf_empty, enter_leaf_few, enter_leaf_enough}
use Rattle.card_check.proofs.CountingLaws.{with_findings}
use Rattle.card_check.proofs.entering.enter_leaf.Goals as goal

pub returns-in_err-count-clause-looks : goal.returns-in_err-count-clause-looks
unfolding look_of
returns-in_err-count-clause-looks c = λ free.
    let a = c.args in
    rw (c.from_residual.ensures) (sym (enter_leaf_unsound a.node.now a.low a.high a.root (findings_of free a.found.now) c.in_err-count.ensures))

pub returns-then-root-clause-looks : goal.returns-then-root-clause-looks
unfolding look_of
returns-then-root-clause-looks c = λ free.
    let a = c.args in
    ap leaf (with_findings free a.found.now c.count_leaf.new.totals c.requires.1)
    ∙ sym (enter_leaf_root a.node.now a.low a.high a.root (findings_of free a.found.now) c.in_ok-count.ensures.0 c.if-root.true)

pub returns-in-0-clause-looks : goal.returns-in-0-clause-looks
unfolding look_of
returns-in-0-clause-looks c = λ free.
    let a = c.args in
    let told = c.in_ok-count.ensures in
    sym (enter_leaf_empty a.node.now a.low a.high a.root (findings_of free a.found.now) told.0 c.if-root.false c.in_ok-count.count told.1 c.in-0.is)

pub returns-in-1-clause-looks : goal.returns-in-1-clause-looks
returns-in-1-clause-looks c = λ free.
    let a = c.args in
    let told = c.in_ok-count.ensures in
    c.with_violation.ensures.looks free
    ∙ ap (λ (f : Findings). noted true Leaf f a.low 0) (with_findings free a.found.now c.count_leaf.new.totals c.requires.1)
    ∙ sym (enter_leaf_few a.node.now a.low a.high a.root (findings_of free a.found.now) told.0 c.if-root.false c.in_ok-count.count told.1
    (λ e. absurd (omega (arith, e, c.in-1.is))) (omega (arith, c.in-1.is)))

pub returns-in_default-clause-looks : goal.returns-in_default-clause-looks
unfolding look_of
returns-in_default-clause-looks c = λ free.
    let a = c.args in
    let told = c.in_ok-count.ensures in
    ap leaf (with_findings free a.found.now c.count_leaf.new.totals c.requires.1)
    ∙ sym (enter_leaf_enough a.node.now a.low a.high a.root (findings_of free a.found.now) told.0 c.if-root.false c.in_ok-count.count told.1 (omega arith))
