use Rattle.std.proofs.Common.{length, get_or, List, ℕ, sym, ap, ◌∙◌, arith}
use Rattle.card.proofs.NodeLaws.{length_node}
use Rattle.card_free.specs.NodeSet.{nodes_of}
use Rattle.card_check.specs.Check.{look_of, findings_of}
use Rattle.card_check.proofs.CheckLaws.{reached, enter_zero, enter_beyond, enter_again, enter_last_word, enter_new}
use Rattle.card_check.proofs.entering.enter.Goals as goal
use Rattle.card_check.proofs.entering.enter.Goals.{then-m-eq0-via-then-m-eq0, then-m-eq0-via-else-m-eq0+then-n-m, then-m-eq0-via-else-m-eq0+else-n-m+then-not-contains}

pub returns-then-m-eq0-clause-found_after : goal.returns-then-m-eq0-clause-found_after
unfolding look_of findings_of
returns-then-m-eq0-clause-found_after c =
    let a = c.args in
    let f = findings_of (nodes_of c.args.free.now) c.args.found.now in
    elim c.then-m-eq0.branch [
      | then-m-eq0-via-then-m-eq0 w ↦ sym (enter_zero a.card.now a.n a.m a.low a.high a.run a.root f w.if-m-eq0.true)
      | then-m-eq0-via-else-m-eq0+then-n-m w ↦ sym (enter_beyond a.card.now a.n a.m a.low a.high a.run a.root f w.if-m-eq0.false (omega arith))
      | then-m-eq0-via-else-m-eq0+else-n-m+then-not-contains w ↦
          sym (enter_again a.card.now a.n a.m a.low a.high a.run a.root f w.if-m-eq0.false (omega arith) (sym w.contains.ensures ∙ w.if-not-contains.true))
    ]

pub bounds-node-23 : goal.bounds-node-23
bounds-node-23 c = omega (arith, ap length c.node_at-node.ensures, length_node c.args.card.now c.args.m (omega arith) (omega arith))

pub returns-then-node-ne0-clause-found_after : goal.returns-then-node-ne0-clause-found_after
unfolding look_of findings_of
returns-then-node-ne0-clause-found_after c =
    let a = c.args in
    sym (enter_last_word a.card.now a.n a.m a.low a.high a.run a.root (findings_of (nodes_of a.free.now) a.found.now) c.if-m-eq0.false (omega arith)
    (sym c.contains.ensures ∙ c.if-not-contains.false)
    (λ e. c.if-node-ne0.true (ap (λ (l : List ℕ). get_or l 23 0) c.node_at-node.ensures ∙ e)))

pub enter_kind-requires : goal.enter_kind-requires
enter_kind-requires c =
    (ap length c.node_at-node.ensures ∙ length_node c.args.card.now c.args.m (omega arith) (omega arith), omega arith)

pub returns-clause-found_after : goal.returns-clause-found_after
unfolding findings_of reached
returns-clause-found_after c =
    let a = c.args in
    c.enter_kind.ensures.looks _
    ∙ rw (c.node_at-node.ensures, c.take_out.ensures)
    (sym (enter_new a.card.now a.n a.m a.low a.high a.run a.root (findings_of (nodes_of a.free.now) a.found.now) c.if-m-eq0.false (omega arith)
    (sym c.contains.ensures ∙ c.if-not-contains.false)
    (sym (ap (λ (l : List ℕ). get_or l 23 0) c.node_at-node.ensures) ∙ c.if-node-ne0.false)))
