use Rattle.std.proofs.Common.{ap, sym, ◌∙◌, ℕ, nat_lt, length, arith}
use borrow.Author.Tests.{lt-ltb, eq-eqb}
use Rattle.card.specs.Layout.{children}
use Rattle.walk.proofs.DescentLaws.{children_stop, fault_root, fault_tagged, fault_leaf, fault_inner, second_child}
use Rattle.walk.proofs.is_fault.Goals as goal

pub returns-then-parent-eq0 : goal.returns-then-parent-eq0
returns-then-parent-eq0 c = sym (fault_root _ _ c.if-parent-eq0.true)

pub returns-then-kind-eq-TAGGED : goal.returns-then-kind-eq-TAGGED
returns-then-kind-eq-TAGGED c = sym (fault_tagged _ _ c.if-parent-eq0.false c.if-kind-eq-TAGGED.true)

pub returns-then-kind-eq-LEAF : goal.returns-then-kind-eq-LEAF
returns-then-kind-eq-LEAF c = ap (λ (x : ℕ). nat_lt x 2) c.pair_count.ensures ∙ sym (fault_leaf _ _ c.if-parent-eq0.false c.if-kind-eq-LEAF.true)

-- no child
pub returns-then-node-eq0 : goal.returns-then-node-eq0
returns-then-node-eq0 c =
    eq-eqb _ _ c.if-node-eq0.true
    ∙ sym (fault_inner _ _ c.if-parent-eq0.false c.if-kind-eq-TAGGED.false c.if-kind-eq-LEAF.false
    ∙ lt-ltb (length (children c.args.node.now)) 2 (omega (arith, children_stop c.args.node.now 0 (omega arith) c.if-node-eq0.true)))

pub returns-else-node-eq0 : goal.returns-else-node-eq0
returns-else-node-eq0 c = second_child _ c.if-node-eq0.false ∙ sym (fault_inner _ _ c.if-parent-eq0.false c.if-kind-eq-TAGGED.false c.if-kind-eq-LEAF.false)
