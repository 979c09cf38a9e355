use Rattle.std.proofs.Common.{true, false, sym, ◌∙◌, arith}
use Rattle.card_check.specs.Check.{look_of, findings_of}
use Rattle.card_check.proofs.CheckLaws.{enter_kind_leaf, enter_kind_internal, enter_kind_tagged, enter_kind_none}
use Rattle.card_check.proofs.CountingLaws.{counts_leaf, counts_inner}
use Rattle.card_check.proofs.entering.enter_kind.Goals as goal

pub returns-in-1-clause-looks : goal.returns-in-1-clause-looks
returns-in-1-clause-looks c = λ free.
    let a = c.args in
    c.enter_leaf.ensures.looks free ∙ sym (enter_kind_leaf a.node.now a.low a.high a.run a.root (findings_of free a.found.now) c.in-1.is)

pub returns-in-1-clause-entry_counts : goal.returns-in-1-clause-entry_counts
returns-in-1-clause-entry_counts c =
    let a = c.args in
    counts_leaf a.node.now a.found.now c.enter_leaf.new.found a.low a.root c.enter_leaf.result a.high c.in-1.is c.enter_leaf.ensures.looks c.enter_leaf.ensures.found_after

pub returns-in-2-clause-looks : goal.returns-in-2-clause-looks
returns-in-2-clause-looks c = λ free.
    let a = c.args in
    c.enter_inner.ensures.looks free ∙ sym (enter_kind_internal a.node.now a.low a.high a.run a.root (findings_of free a.found.now) c.in-2.is)

pub returns-in-2-clause-entry_counts : goal.returns-in-2-clause-entry_counts
returns-in-2-clause-entry_counts c =
    let a = c.args in
    let e = c.enter_inner.ensures in
    counts_inner a.node.now a.found.now c.enter_inner.new.found a.low a.root c.enter_inner.result false a.run (λ k. omega (arith, k, c.in-2.is)) e.looks e.found_unchanged

pub returns-in-3-clause-looks : goal.returns-in-3-clause-looks
returns-in-3-clause-looks c = λ free.
    let a = c.args in
    c.enter_inner-in-3.ensures.looks free ∙ sym (enter_kind_tagged a.node.now a.low a.high a.run a.root (findings_of free a.found.now) c.in-3.is)

pub returns-in-3-clause-entry_counts : goal.returns-in-3-clause-entry_counts
returns-in-3-clause-entry_counts c =
    let a = c.args in
    let e = c.enter_inner-in-3.ensures in
    counts_inner a.node.now a.found.now c.enter_inner-in-3.new.found a.low a.root c.enter_inner-in-3.result true a.run (λ k. omega (arith, k, c.in-3.is)) e.looks e.found_unchanged

pub returns-in_default-clause-looks : goal.returns-in_default-clause-looks
unfolding look_of
returns-in_default-clause-looks c = λ free.
    let a = c.args in
    sym (enter_kind_none a.node.now a.low a.high a.run a.root (findings_of free a.found.now) (λ e. omega (arith, e)) (λ e. omega (arith, e)) (λ e. omega (arith, e)))
