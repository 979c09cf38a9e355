use Rattle.std.proofs.Common.{◌≡◌, refl, sym, ap, Some, ◌∙◌, true, false, ◌||◌, ℕ, ◌+◌, length, drop, eqb, List, arith}
use borrow.Author.Tests.{eq-eqb, ne_eqb}
use Rattle.card.proofs.NodeLaws.{children_le, length_node, run_below_le}
use Rattle.card.specs.Layout.{kind_of, children}
use Rattle.card_free.specs.NodeSet.{nodes_of}
use Rattle.card_check.specs.Check.{findings_of, checked_of, height_of, look_of, range_end_of, node_check}
use Rattle.card_check.specs.Counting.{children_counted, node_counted}
use Rattle.card_check.proofs.CheckLaws.{enter_children, look_found, counts_found, is_leaf, raised_none, raised_tagged, raised_more, turn_wrong, turn_bad, turn_uneven, turn_on, turn_end, check_bad, check_leaf, check_deep, check_inner}
use Rattle.card_check.proofs.CountingLaws.{turn_counted, turn_counted_end, leaf_counted, counted_inner}
use Rattle.card_check.proofs.+children_check_node_check.Goals as goal
use Rattle.card_check.proofs.+children_check_node_check.Goals.{children_check-else-i-ne0-via-then-i-ne0+else-its-height, children_check-else-i-ne0-via-else-i-ne0}

pub children_check-returns-in_err-to-clause-found_after : goal.children_check-returns-in_err-to-clause-found_after
unfolding range_end_of checked_of
children_check-returns-in_err-to-clause-found_after t c =
    let a = c.args in
    let l = c.loop-i in
    rw c.from_residual.ensures
    (sym (l.invariant.checked ∙ turn_wrong a.node.now c.requires.2 a.c l.i c.requires.3
    (node_check a.levels a.card.now a.n a.run false) l.height l.from a.high (findings_of (nodes_of l.free) l.found) (omega arith) (sym c.in_err-to.ensures)))

pub children_check-returns-in_err-to-clause-result_bound : goal.children_check-returns-in_err-to-clause-result_bound
unfolding height_of
children_check-returns-in_err-to-clause-result_bound t c = rw c.from_residual.ensures (omega arith)

pub children_check-overflow_add-m : goal.children_check-overflow_add-m
children_check-overflow_add-m t c = omega (arith, children_le c.args.node.now)

pub children_check-offset_bounds-node-i : goal.children_check-offset_bounds-node-i
children_check-offset_bounds-node-i t c = omega (arith, children_le c.args.node.now)

pub children_check-bounds-node-i : goal.children_check-bounds-node-i
children_check-bounds-node-i t c = omega (arith, children_le c.args.node.now)

pub children_check-returns-in_err-its-clause-found_after : goal.children_check-returns-in_err-its-clause-found_after
unfolding range_end_of checked_of
children_check-returns-in_err-its-clause-found_after t c =
    let a = c.args in
    let l = c.loop-i in
    rw c.from_residual-in_err-its.ensures
    (sym (l.invariant.checked ∙ turn_bad a.node.now c.requires.2 a.c l.i c.requires.3
    (node_check a.levels a.card.now a.n a.run false) l.height l.from a.high (findings_of (nodes_of l.free) l.found) (omega arith)
    c.in_ok-to.to (sym c.in_ok-to.ensures) (sym c.in_err-its.ensures.found_after)))

pub children_check-returns-then-its-height-clause-found_after : goal.children_check-returns-then-its-height-clause-found_after
unfolding range_end_of checked_of
children_check-returns-then-its-height-clause-found_after t c =
    let a = c.args in
    let l = c.loop-i in
    sym (l.invariant.checked ∙ turn_uneven a.node.now c.requires.2 a.c l.i c.requires.3
    (node_check a.levels a.card.now a.n a.run false) l.height l.from a.high (findings_of (nodes_of l.free) l.found) (omega arith)
    c.in_ok-to.to (sym c.in_ok-to.ensures) c.in_ok-its.its (findings_of (nodes_of c.node_check.new.free) c.node_check.new.found)
    (sym c.in_ok-its.ensures.found_after)
    (rw (ne_eqb l.i 0 c.if-i-ne0.true, ne_eqb c.in_ok-its.its l.height c.if-its-height.true)))

pub children_check-returns-then-its-height-clause-result_bound : goal.children_check-returns-then-its-height-clause-result_bound
unfolding height_of
children_check-returns-then-its-height-clause-result_bound t c = omega arith

pub children_check-offset_bounds-node-i-in-loop-i : goal.children_check-offset_bounds-node-i-in-loop-i
children_check-offset_bounds-node-i-in-loop-i t c = omega (arith, children_le c.args.node.now)

pub children_check-bounds-node-i-in-loop-i : goal.children_check-bounds-node-i-in-loop-i
children_check-bounds-node-i-in-loop-i t c = omega (arith, children_le c.args.node.now)

pub children_check-loop-i-preserved : goal.children_check-loop-i-preserved
unfolding range_end_of checked_of height_of
children_check-loop-i-preserved t c =
    let a = c.args in
    let l = c.loop-i in
    let even : (eqb c.loop-i.i 0 || eqb c.in_ok-its.its c.loop-i.height) ≡ true =
    elim c.else-i-ne0.branch [
      | children_check-else-i-ne0-via-then-i-ne0+else-its-height w ↦ rw (ne_eqb c.loop-i.i 0 w.if-i-ne0.true, eq-eqb c.in_ok-its.its c.loop-i.height w.if-its-height.false)
      | children_check-else-i-ne0-via-else-i-ne0 w ↦ rw (eq-eqb c.loop-i.i 0 w.if-i-ne0.false)
    ] in
    record {
      bound = c.in_ok-its.ensures.result_bound;
      checked = l.invariant.checked ∙ turn_on a.node.now c.requires.2 a.c l.i c.requires.3
          (node_check a.levels a.card.now a.n a.run false) l.height l.from a.high (findings_of (nodes_of l.free) l.found) (omega arith)
          c.in_ok-to.to (sym c.in_ok-to.ensures) c.in_ok-its.its (findings_of (nodes_of c.node_check.new.free) c.node_check.new.found)
          (sym c.in_ok-its.ensures.found_after) even;
      counted = l.invariant.counted
          ∙ turn_counted a.node.now c.requires.2 a.c l.i c.requires.3 (node_counted a.levels a.card.now) (drop 3 l.found) (omega arith)
          ∙ ap (children_counted (node_counted a.levels a.card.now) (drop (l.i + 1) (children a.node.now))) (sym (c.in_ok-its.ensures.by_index _ refl));
    }

pub children_check-returns-clause-found_after : goal.children_check-returns-clause-found_after
unfolding checked_of
children_check-returns-clause-found_after t c =
    let a = c.args in
    let l = c.loop-i in
    sym (l.invariant.checked ∙ turn_end a.node.now c.requires.2 a.c l.i c.requires.3
    (node_check a.levels a.card.now a.n a.run false) (eqb l.i 0) l.height l.from a.high (findings_of (nodes_of l.free) l.found) (omega arith))

pub children_check-returns-clause-result_bound : goal.children_check-returns-clause-result_bound
unfolding height_of
children_check-returns-clause-result_bound t c = c.loop-i.invariant.bound

pub children_check-returns-clause-by_index : goal.children_check-returns-clause-by_index
children_check-returns-clause-by_index t c = λ h e.
    let a = c.args in
    let l = c.loop-i in
    sym (l.invariant.counted ∙ turn_counted_end a.node.now c.requires.2 a.c l.i c.requires.3 (node_counted a.levels a.card.now) (drop 3 l.found) (omega arith))

pub node_check-returns-in_err-c-clause-found_after : goal.node_check-returns-in_err-c-clause-found_after
unfolding checked_of look_of
node_check-returns-in_err-c-clause-found_after t c =
    let a = c.args in
    rw c.from_residual.ensures
    (sym (check_bad a.card.now a.n a.run a.root a.low a.high a.m (findings_of (nodes_of a.free.now) a.found.now) a.levels (sym c.in_err-c.ensures.found_after)))

pub node_check-returns-in_err-c-clause-result_bound : goal.node_check-returns-in_err-c-clause-result_bound
unfolding height_of
node_check-returns-in_err-c-clause-result_bound t c = rw c.from_residual.ensures (omega arith)

pub node_check-returns-in_default-clause-found_after : goal.node_check-returns-in_default-clause-found_after
unfolding checked_of look_of
node_check-returns-in_default-clause-found_after t c =
    let a = c.args in
    let leaf = is_leaf c.in_ok-c.field-0 c.in_default.not-Inner in
    sym (check_leaf a.card.now a.n a.run a.root a.low a.high a.m (findings_of (nodes_of a.free.now) a.found.now) a.levels _
    (sym c.in_ok-c.ensures.found_after ∙ rw leaf))

pub node_check-returns-in_default-clause-result_bound : goal.node_check-returns-in_default-clause-result_bound
unfolding height_of
node_check-returns-in_default-clause-result_bound t c = omega arith

pub node_check-returns-in_default-clause-by_index : goal.node_check-returns-in_default-clause-by_index
node_check-returns-in_default-clause-by_index t c = λ h q.
    let a = c.args in
    let leaf = is_leaf c.in_ok-c.field-0 c.in_default.not-Inner in
    leaf_counted a.card.now a.m (drop 3 a.found.now) a.levels _ _ (ap Some leaf) c.in_ok-c.ensures.entry_counts

pub node_check-returns-then-levels-eq0-clause-found_after : goal.node_check-returns-then-levels-eq0-clause-found_after
unfolding checked_of
node_check-returns-then-levels-eq0-clause-found_after t c =
    let a = c.args in
    let found = look_found _ _ c.in-Inner.is _ c.in_ok-c.ensures.found_after in
    sym (check_deep a.card.now a.n a.run a.root a.low a.high a.m (findings_of (nodes_of a.free.now) a.found.now) a.levels _ _ found c.if-levels-eq0.true)

pub node_check-returns-then-levels-eq0-clause-result_bound : goal.node_check-returns-then-levels-eq0-clause-result_bound
unfolding height_of
node_check-returns-then-levels-eq0-clause-result_bound t c = omega arith

pub node_check-node_at-node-requires : goal.node_check-node_at-node-requires
node_check-node_at-node-requires t c =
    let k = enter_children _ _ _ _ _ _ _ _ _ _ (look_found _ _ c.in-Inner.is _ c.in_ok-c.ensures.found_after) in
    (k.one, omega arith, omega arith)

pub node_check-children_check-requires : goal.node_check-children_check-requires
node_check-children_check-requires t c =
    let k = enter_children _ _ _ _ _ _ _ _ _ _ (look_found _ _ c.in-Inner.is _ c.in_ok-c.ensures.found_after) in (
      omega arith,
      (
        omega arith,
        omega arith,
        ap length c.node_at-node.ensures ∙ length_node c.args.card.now c.args.m k.one (omega arith),
        k.counted ∙ ap (λ (l : List ℕ). length (children l)) (sym c.node_at-node.ensures),
        omega (arith, c.child_run-below.ensures, run_below_le c.in-Inner.c c.args.run),
        omega arith,
        omega arith,
      ),
    )

pub node_check-returns-in_err-height-clause-found_after : goal.node_check-returns-in_err-height-clause-found_after
unfolding checked_of
node_check-returns-in_err-height-clause-found_after t c =
    let a = c.args in
    let found = look_found _ _ c.in-Inner.is _ c.in_ok-c.ensures.found_after in
    rw c.from_residual-in_err-height.ensures
    (raised_none (eqb (kind_of c.node_at-node.result.now) 3) 0 (findings_of (nodes_of a.free.now) a.found.now) _ c.in_err-height.ensures.found_after
    ∙ rw (c.child_run-below.ensures, c.node_at-node.ensures)
    (sym (check_inner a.card.now a.n a.run a.root a.low a.high a.m (findings_of (nodes_of a.free.now) a.found.now) a.levels _ _ found c.if-levels-eq0.false)))

pub node_check-bounds-node-0 : goal.node_check-bounds-node-0
node_check-bounds-node-0 t c =
    let k = enter_children _ _ _ _ _ _ _ _ _ _ (look_found _ _ c.in-Inner.is _ c.in_ok-c.ensures.found_after) in
    omega (arith, ap length c.node_at-node.ensures, length_node c.args.card.now c.args.m k.one (omega arith))

pub node_check-returns-then-node-eq-TAGGED-clause-found_after : goal.node_check-returns-then-node-eq-TAGGED-clause-found_after
unfolding checked_of
node_check-returns-then-node-eq-TAGGED-clause-found_after t c =
    let a = c.args in
    let found = look_found _ _ c.in-Inner.is _ c.in_ok-c.ensures.found_after in
    raised_tagged (eqb (kind_of c.node_at-node.result.now) 3) _ _ _ (eq-eqb (kind_of c.node_at-node.result.now) 3 c.if-node-eq-TAGGED.true) c.in_ok-height.ensures.found_after
    ∙ rw (c.child_run-below.ensures, c.node_at-node.ensures)
    (sym (check_inner a.card.now a.n a.run a.root a.low a.high a.m (findings_of (nodes_of a.free.now) a.found.now) a.levels _ _ found c.if-levels-eq0.false))

pub node_check-returns-then-node-eq-TAGGED-clause-by_index : goal.node_check-returns-then-node-eq-TAGGED-clause-by_index
node_check-returns-then-node-eq-TAGGED-clause-by_index t c = λ h e.
    let a = c.args in
    let same = counts_found _ _ c.in-Inner.is _ _ _ c.in_ok-c.ensures.entry_counts in
    c.in_ok-height.ensures.by_index _ refl
    ∙ rw (c.node_at-node.ensures, same.1) (sym (counted_inner a.card.now a.m (drop 3 a.found.now) a.levels c.if-levels-eq0.false same.0))

pub node_check-overflow_add-result : goal.node_check-overflow_add-result
unfolding height_of
node_check-overflow_add-result t c = omega (arith, c.in_ok-height.ensures.result_bound)

pub node_check-returns-clause-found_after : goal.node_check-returns-clause-found_after
unfolding checked_of
node_check-returns-clause-found_after t c =
    let a = c.args in
    let found = look_found _ _ c.in-Inner.is _ c.in_ok-c.ensures.found_after in
    raised_more (eqb (kind_of c.node_at-node.result.now) 3) _ _ _ (ne_eqb (kind_of c.node_at-node.result.now) 3 c.if-node-eq-TAGGED.false) c.in_ok-height.ensures.found_after
    ∙ rw (c.child_run-below.ensures, c.node_at-node.ensures)
    (sym (check_inner a.card.now a.n a.run a.root a.low a.high a.m (findings_of (nodes_of a.free.now) a.found.now) a.levels _ _ found c.if-levels-eq0.false))

pub node_check-returns-clause-result_bound : goal.node_check-returns-clause-result_bound
unfolding height_of
node_check-returns-clause-result_bound t c = omega (arith, c.in_ok-height.ensures.result_bound)

pub node_check-returns-clause-by_index : goal.node_check-returns-clause-by_index
node_check-returns-clause-by_index t c = λ h e.
    let a = c.args in
    let same = counts_found _ _ c.in-Inner.is _ _ _ c.in_ok-c.ensures.entry_counts in
    c.in_ok-height.ensures.by_index _ refl
    ∙ rw (c.node_at-node.ensures, same.1) (sym (counted_inner a.card.now a.m (drop 3 a.found.now) a.levels c.if-levels-eq0.false same.0))
