use Rattle.std.proofs.Common.{ap, sym, ◌∙◌, ℕ, arith}
use mathlib.Core.Option.{some}
use Rattle.walk.proofs.DescentLaws.{slot_below}
use Rattle.walk_next.specs.Successor.{least_of}
use Rattle.walk_next.proofs.SuccessorLaws.{key_none, key_some, least_at, least_found}
use Rattle.walk_next.proofs.least_above.Goals as goal

pub returns-then-least-eq-KEY_LIMIT : goal.returns-then-least-eq-KEY_LIMIT
unfolding least_of
returns-then-least-eq-KEY_LIMIT c = sym (key_none _ _ c.least_key-least.ensures c.if-least-eq-KEY_LIMIT.true)

-- the key found is in a slot
pub returns-in_err-slot : goal.returns-in_err-slot
returns-in_err-slot c =
    let q = key_some _ _ c.least_key-least.ensures c.if-least-eq-KEY_LIMIT.false in
    absurd (least_found c.args.node.now c.requires c.args.after _ _ q.1 (sym c.in_err-slot.ensures))

-- its slot is one of the eleven
pub overflow_add-result : goal.overflow_add-result
overflow_add-result c = omega (arith, slot_below c.args.node.now _ c.in_ok-slot.slot c.requires (sym c.in_ok-slot.ensures))

pub offset_bounds-node-slot : goal.offset_bounds-node-slot
offset_bounds-node-slot c = omega (arith, slot_below c.args.node.now _ c.in_ok-slot.slot c.requires (sym c.in_ok-slot.ensures))

pub bounds-node-slot : goal.bounds-node-slot
bounds-node-slot c = omega (arith, c.requires, slot_below c.args.node.now _ c.in_ok-slot.slot c.requires (sym c.in_ok-slot.ensures))

pub returns : goal.returns
unfolding least_of
returns c =
    let q = key_some _ _ c.least_key-least.ensures c.if-least-eq-KEY_LIMIT.false in
    sym (q.1 ∙ ap (λ (x : ℕ). some (c.least_key-least.result, x)) (least_at c.args.node.now c.requires c.args.after _ _ _ q.1 (sym c.in_ok-slot.ensures)))
