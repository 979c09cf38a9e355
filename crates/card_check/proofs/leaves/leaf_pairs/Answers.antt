use Rattle.std.proofs.Common.{◌≡◌, ◌+◌, ◌-◌, length, get_or, drop, sym, ap, ◌∙◌, arith}
use Rattle.card.specs.Layout.{key_words}
use Rattle.card.proofs.NodeLaws.{is_key_none, is_key_some, leaf_from, leaf_start, leaf_length, leaf_end}
use Rattle.card_check.specs.Check.{Least}
use Rattle.card_check.proofs.CheckLaws.{leaf_empty, leaf_key, leaf_outside, leaf_repeated, leaf_none, least_none, least_empty, least_more}
use Rattle.card_check.proofs.leaves.leaf_pairs.Goals as goal
use Rattle.card_check.proofs.leaves.leaf_pairs.Goals.{then-not-is_in_range-via-then-not-is_in_range, then-not-is_in_range-via-else-not-is_in_range+then-not-is_new}

pub loop-i-init : goal.loop-i-init
loop-i-init c =
    let node = c.args.node.now in
    record {
      bound = omega arith;
      counted = sym (ap length (leaf_end node c.requires 11 (omega arith)));
      sound = leaf_none node c.requires c.args.low c.args.high 11 (omega arith);
      least = least_none node c.requires _ 11 (omega arith);
    }

pub is_new-requires : goal.is_new-requires
is_new-requires c =
    let e : c.loop-i.i - 1 + 1 ≡ c.loop-i.i = omega arith in
    (c.requires, omega arith, c.if-key-ne0.true, rw e c.loop-i.invariant.least)

pub returns-then-not-is_in_range : goal.returns-then-not-is_in_range
returns-then-not-is_in_range c =
    let node = c.args.node.now in
    let j = c.loop-i.i - 1 in
    elim c.then-not-is_in_range.branch [
      | then-not-is_in_range-via-then-not-is_in_range w ↦
          leaf_outside node c.requires c.args.low c.args.high j (omega arith) c.if-key-ne0.true (sym c.is_in_range.ensures ∙ w.if-not-is_in_range.true)
      | then-not-is_in_range-via-else-not-is_in_range+then-not-is_new w ↦
          leaf_repeated node c.requires c.args.low c.args.high j (omega arith) c.if-key-ne0.true (sym w.is_new.ensures ∙ w.if-not-is_new.true)
    ]

pub loop-i-preserved-then-key-ne0 : goal.loop-i-preserved-then-key-ne0
loop-i-preserved-then-key-ne0 c =
    let l = c.loop-i in
    let node = c.args.node.now in
    let j = l.i - 1 in
    let e : c.loop-i.i - 1 + 1 ≡ c.loop-i.i = omega arith in
    let more : length (leaf_from c.args.node.now (c.loop-i.i - 1 + 1)) ≡ c.loop-i.pairs = rw e (sym l.invariant.counted) in
    let rest : Least c.loop-i.least (drop (c.loop-i.i - 1 + 1) (key_words c.args.node.now)) = rw e l.invariant.least in
    record {
      bound = omega arith;
      counted = omega (arith, leaf_length node c.requires j (omega arith), is_key_some (get_or node (1 + j) 0) c.if-key-ne0.true);
      sound = leaf_key node c.requires c.args.low c.args.high j (omega arith) c.if-key-ne0.true
          (sym c.is_in_range.ensures ∙ c.if-not-is_in_range.false) (sym c.is_new.ensures ∙ c.if-not-is_new.false)
          ∙ rw e l.invariant.sound;
      least = least_more node c.requires l.least j (omega arith) rest _ (omega arith) (omega arith);
    }

pub loop-i-preserved : goal.loop-i-preserved
loop-i-preserved c =
    let l = c.loop-i in
    let node = c.args.node.now in
    let j = l.i - 1 in
    let e : c.loop-i.i - 1 + 1 ≡ c.loop-i.i = omega arith in
    let more : length (leaf_from c.args.node.now (c.loop-i.i - 1 + 1)) ≡ c.loop-i.pairs = rw e (sym l.invariant.counted) in
    let rest : Least c.loop-i.least (drop (c.loop-i.i - 1 + 1) (key_words c.args.node.now)) = rw e l.invariant.least in
    record {
      bound = omega arith;
      counted = omega (arith, leaf_length node c.requires j (omega arith), is_key_none (get_or node (1 + j) 0) c.if-key-ne0.false);
      sound = leaf_empty node c.requires c.args.low c.args.high j (omega arith) c.if-key-ne0.false ∙ rw e l.invariant.sound;
      least = least_empty node c.requires l.least j (omega arith) rest c.if-key-ne0.false;
    }

pub returns : goal.returns
returns c =
    let l = c.loop-i in
    let e : c.loop-i.i ≡ 0 = omega arith in
    (rw e at l.invariant.sound, rw e at l.invariant.counted ∙ ap length (leaf_start c.args.node.now))
