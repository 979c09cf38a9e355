use Rattle.std.proofs.Common.{◌≡◌, refl, ap, sym, ◌∙◌, subst, ℕ, ◌+◌, ◌-◌, List, get_or, arith}
use mathlib.Core.Option.{Option}
use Rattle.card.proofs.NodeLaws.{leaf_from, leaf_start}
use Rattle.walk_next.specs.Successor.{IsKey, nearer_key, nearer_above, least_above}
use Rattle.walk_next.proofs.SuccessorLaws.{least_end, least_slot, key_nearer}
use Rattle.walk_next.proofs.least_key.Goals as goal

pub loop-i-init : goal.loop-i-init
loop-i-init c = subst (λ (o : Option (ℕ × ℕ)). IsKey o 4294967296) (sym (least_end c.args.after c.args.node.now c.requires 11 refl)) refl

pub loop-i-preserved : goal.loop-i-preserved
loop-i-preserved c =
    let l = c.loop-i in
    let node = c.args.node.now in
    let after = c.args.after in
    let i : ℕ = l.i - 1 in
    let e : i + 1 ≡ l.i = omega arith in
    subst (IsKey (least_above after (leaf_from node i))) (sym c.nearer-least.ensures)
    (subst (λ (o : Option (ℕ × ℕ)). IsKey o (nearer_key after (get_or node (1 + i) 0) l.least))
    (ap (λ (j : ℕ). nearer_above after (get_or node (1 + i) 0, get_or node (12 + i) 0) (least_above after (leaf_from node j))) (sym e)
    ∙ sym (least_slot after node c.requires i (omega arith)))
    (key_nearer after (get_or node (1 + i) 0) (get_or node (12 + i) 0) (omega (arith, c.type_inv.node (1 + i))) _ l.least l.invariant))

pub returns : goal.returns
returns c =
    let e : c.loop-i.i ≡ 0 = omega arith in
    subst (λ (l : List (ℕ × ℕ)). IsKey (least_above c.args.after l) c.loop-i.least) (ap (leaf_from c.args.node.now) e ∙ leaf_start c.args.node.now) c.loop-i.invariant
