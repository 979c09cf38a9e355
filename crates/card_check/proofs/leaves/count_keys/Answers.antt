use Rattle.std.proofs.Common.{◌≡◌, ◌+◌, ◌-◌, get_or, drop, sym, ap, ◌∙◌, ℕ, arith}
use Rattle.card.specs.Layout.{key_words}
use Rattle.card_family.specs.Families.{counted_in}
use Rattle.card_check.specs.Counting.{keys_counted}
use Rattle.card_check.proofs.CountingLaws.{keys_empty, keys_more, keys_end}
use Rattle.card_check.proofs.leaves.count_keys.Goals as goal

pub loop-i-init : goal.loop-i-init
loop-i-init c = sym (keys_end c.args.node.now c.requires.0 11 c.args.totals.now (omega arith))

pub loop-i-preserved-then-key-ne0 : goal.loop-i-preserved-then-key-ne0
loop-i-preserved-then-key-ne0 c =
    let node = c.args.node.now in
    let j = c.loop-i.i - 1 in
    let e : c.loop-i.i - 1 + 1 ≡ c.loop-i.i = omega arith in
    c.count_in.ensures
    ∙ ap (counted_in (get_or node (1 + j) 0)) (c.loop-i.invariant ∙ ap (λ (x : ℕ). keys_counted (drop x (key_words node)) c.args.totals.now) (sym e))
    ∙ sym (keys_more node c.requires.0 j c.args.totals.now (omega arith) c.if-key-ne0.true)

pub loop-i-preserved : goal.loop-i-preserved
loop-i-preserved c =
    let node = c.args.node.now in
    let e : c.loop-i.i - 1 + 1 ≡ c.loop-i.i = omega arith in
    c.loop-i.invariant ∙ ap (λ (x : ℕ). keys_counted (drop x (key_words node)) c.args.totals.now) (sym e)
    ∙ sym (keys_empty node c.requires.0 (c.loop-i.i - 1) c.args.totals.now (omega arith) c.if-key-ne0.false)

pub returns : goal.returns
returns c =
    let e : c.loop-i.i ≡ 0 = omega arith in
    rw e at c.loop-i.invariant
