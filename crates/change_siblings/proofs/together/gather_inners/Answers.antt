use Rattle.std.proofs.Common.{◌≡◌, refl, ap, ap₂, ◌∙◌, List, [], ◌∷◌, ◌++◌, ℕ, length, append_assoc, length-append, arith}
use Rattle.card.specs.Layout.{routing_keys}
use Rattle.card.proofs.NodeLaws.{length_routing}
use Rattle.change_plan.specs.Change.{inners_together}
use Rattle.change_siblings.proofs.together.gather_inners.Goals as goal

pub append-requires : goal.append-requires
append-requires c =
    omega (arith, ap length c.new-keys.ensures, ap length c.routing_keys.ensures, length_routing c.args.x.now c.requires.0, c.requires.4)

pub push-requires : goal.push-requires
push-requires c =
    let left : c.append.new.self ≡ routing_keys c.args.x.now =
    c.append.ensures ∙ ap₂ (λ (l m : List ℕ). l ++ m) c.new-keys.ensures c.routing_keys.ensures in
    omega (arith, ap length left, length_routing c.args.x.now c.requires.0, c.requires.2, c.requires.3, c.requires.4)

pub append-requires-2 : goal.append-requires-2
append-requires-2 c =
    let left : c.append.new.self ≡ routing_keys c.args.x.now =
    c.append.ensures ∙ ap₂ (λ (l m : List ℕ). l ++ m) c.new-keys.ensures c.routing_keys.ensures in
    omega (
      arith,
      ap length c.push.ensures,
      length-append c.append.new.self (c.args.between ∷ []),
      ap length left,
      ap length c.routing_keys-2.ensures,
      length_routing c.args.x.now c.requires.0,
      length_routing c.args.y.now c.requires.1,
      c.requires.2,
      c.requires.3,
      c.requires.4,
    )

pub returns : goal.returns
unfolding inners_together
returns c =
    let joined = λ (l m : List ℕ). l ++ m in
    let left : c.append.new.self ≡ routing_keys c.args.x.now = c.append.ensures ∙ ap₂ joined c.new-keys.ensures c.routing_keys.ensures in
    record {
      kind = refl;
      keys = c.append-2.ensures
          ∙ ap₂ joined (c.push.ensures ∙ ap (λ (l : List ℕ). l ++ c.args.between ∷ []) left) c.routing_keys-2.ensures
          ∙ append_assoc (routing_keys c.args.x.now) (c.args.between ∷ []) (routing_keys c.args.y.now);
      values = c.append-4.ensures ∙ ap₂ joined (c.append-3.ensures ∙ ap₂ joined c.new-beside.ensures c.children.ensures) c.children-2.ensures;
    }
