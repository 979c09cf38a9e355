use Rattle.std.proofs.Common.{sym, ◌∙◌, arith}
use Rattle.card.proofs.NodeLaws.{children_le}
use Rattle.card_check.specs.Check.{look_of, findings_of}
use Rattle.card_check.proofs.CheckLaws.{enter_inner_none, enter_inner_unused, enter_tagged_root, enter_tagged_count, enter_tagged, enter_single_root, enter_single, enter_several}
use Rattle.card_check.proofs.entering.enter_inner.Goals as goal
use Rattle.card_check.proofs.entering.enter_inner.Goals.{then-c-eq0-via-then-c-eq0, then-c-eq0-via-else-c-eq0+then-not-unused_is_zero, then-root-via-then-root, then-root-via-else-root+then-c-ne2}

pub unused_is_zero-requires : goal.unused_is_zero-requires
unused_is_zero-requires c = (c.requires.0, omega arith, omega (arith, children_le c.args.node.now))

pub returns-then-c-eq0-clause-looks : goal.returns-then-c-eq0-clause-looks
unfolding look_of
returns-then-c-eq0-clause-looks c = λ free.
    let a = c.args in
    elim c.then-c-eq0.branch [
      | then-c-eq0-via-then-c-eq0 w ↦
          sym (enter_inner_none a.node.now a.tagged a.low a.run a.root (findings_of free a.found.now) _ c.child_count-c.ensures w.if-c-eq0.true)
      | then-c-eq0-via-else-c-eq0+then-not-unused_is_zero w ↦
          sym (enter_inner_unused a.node.now a.tagged a.low a.run a.root (findings_of free a.found.now) _ c.child_count-c.ensures w.if-c-eq0.false
          (sym w.unused_is_zero.ensures ∙ w.if-not-unused_is_zero.true))
    ]

pub returns-then-root-clause-looks : goal.returns-then-root-clause-looks
unfolding look_of
returns-then-root-clause-looks c = λ free.
    let a = c.args in
    let unused = sym c.unused_is_zero.ensures ∙ c.if-not-unused_is_zero.false in
    elim c.then-root.branch [
      | then-root-via-then-root w ↦
          sym (enter_tagged_root a.node.now a.tagged a.low a.run a.root (findings_of free a.found.now) _ c.child_count-c.ensures c.if-c-eq0.false unused c.if-tagged.true w.if-root.true)
      | then-root-via-else-root+then-c-ne2 w ↦
          sym (enter_tagged_count a.node.now a.tagged a.low a.run a.root (findings_of free a.found.now) _ c.child_count-c.ensures c.if-c-eq0.false unused c.if-tagged.true w.if-c-ne2.true)
    ]

pub returns-then-tagged-clause-looks : goal.returns-then-tagged-clause-looks
returns-then-tagged-clause-looks c = λ free.
    let a = c.args in
    let unused = sym c.unused_is_zero.ensures ∙ c.if-not-unused_is_zero.false in
    c.with_violation.ensures.looks free
    ∙ sym (enter_tagged a.node.now a.tagged a.low a.run a.root (findings_of free a.found.now) _ c.child_count-c.ensures c.if-c-eq0.false unused c.if-tagged.true
    c.if-root.false c.if-c-ne2.false)

pub returns-then-root-2-clause-looks : goal.returns-then-root-2-clause-looks
unfolding look_of
returns-then-root-2-clause-looks c = λ free.
    let a = c.args in
    let unused = sym c.unused_is_zero.ensures ∙ c.if-not-unused_is_zero.false in
    sym (enter_single_root a.node.now a.tagged a.low a.run a.root (findings_of free a.found.now) _ c.child_count-c.ensures c.if-c-eq0.false unused c.if-tagged.false
    c.if-c-lt2.true c.if-root-2.true)

pub returns-then-c-lt2-clause-looks : goal.returns-then-c-lt2-clause-looks
returns-then-c-lt2-clause-looks c = λ free.
    let a = c.args in
    let unused = sym c.unused_is_zero.ensures ∙ c.if-not-unused_is_zero.false in
    c.with_violation-then-c-lt2.ensures.looks free
    ∙ sym (enter_single a.node.now a.tagged a.low a.run a.root (findings_of free a.found.now) _ c.child_count-c.ensures c.if-c-eq0.false unused c.if-tagged.false
    c.if-c-lt2.true c.if-root-2.false)

pub returns-clause-looks : goal.returns-clause-looks
unfolding look_of
returns-clause-looks c = λ free.
    let a = c.args in
    let unused = sym c.unused_is_zero.ensures ∙ c.if-not-unused_is_zero.false in
    sym (enter_several a.node.now a.tagged a.low a.run a.root (findings_of free a.found.now) _ c.child_count-c.ensures c.if-c-eq0.false unused c.if-tagged.false c.if-c-lt2.false)
