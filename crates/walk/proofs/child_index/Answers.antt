use Rattle.std.proofs.Common.{◌≡◌, ℕ, List, ◌+◌, ◌<◌, length, get_or, sym, ◌∙◌, arith}
use Rattle.card.specs.Layout.{children}
use Rattle.card.proofs.NodeLaws.{children_le}
use Rattle.laws.proofs.Cases.{order}
use Rattle.walk.proofs.DescentLaws.{children_more, last_child, next_child, index_from, index_start, index_last, index_stop, index_next}
use Rattle.walk.proofs.child_index.Goals as goal

pub loop-i-init : goal.loop-i-init
loop-i-init c = (omega arith, children_more _ 0 (omega arith) (omega arith) c.requires.1, index_start _ _)

-- a key below the word beside child i, which may be the last
stops : (node : List ℕ) (key i : ℕ) → length node ≡ 24 → key < get_or node (1 + i) 0 → index_from node key i ≡ i
stops node key i len h =
    order (i + 1) (length (children node)) (λ more. index_stop node len key i more h) (λ last. index_last node len key i last)

pub returns-then-key-node : goal.returns-then-key-node
returns-then-key-node c = sym (c.loop-i.invariant.2 ∙ stops _ _ _ c.requires.0 c.if-key-node.true)

pub returns-then-node-i-eq0 : goal.returns-then-node-i-eq0
returns-then-node-i-eq0 c = sym (c.loop-i.invariant.2 ∙ index_last _ c.requires.0 _ _ (last_child _ _ (omega arith) c.if-node-i-eq0.true))

pub loop-i-preserved : goal.loop-i-preserved
loop-i-preserved c =
    let l = c.loop-i in
    let more = next_child _ _ (omega arith) l.invariant.1 c.if-node-i-eq0.false in
    (omega arith, more, l.invariant.2 ∙ index_next _ c.requires.0 _ _ more c.if-key-node.false)

pub returns : goal.returns
returns c = let ten : 10 ≡ c.loop-i.i = omega arith in ten ∙ sym (c.loop-i.invariant.2 ∙ index_last _ c.requires.0 _ _ (omega (arith, children_le c.args.node.now)))
