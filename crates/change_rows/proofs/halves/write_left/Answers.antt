use Rattle.std.proofs.Common.{◌∙◌, ◌+◌, ◌/◌, length, length-take, arith, rules}
use Rattle.change_rows.proofs.HalfLaws.{whole_counts, left_cut}
use Rattle.change_rows.proofs.halves.write_left.Goals as goal

pub slice_bounds-write_node-end : goal.slice_bounds-write_node-end
slice_bounds-write_node-end c =
    let k = c.keys_for-taken in
    let n = whole_counts c.args.kind c.args.keys.now c.args.beside.now k.result c.requires.1 k.ensures in
    search rules

pub write_node-requires : goal.write_node-requires
write_node-requires c =
    let k = c.keys_for-taken in
    let n = whole_counts c.args.kind c.args.keys.now c.args.beside.now k.result c.requires.1 k.ensures in (
      c.requires.0,
      omega (arith, length-take k.result c.args.keys.now),
      omega (arith, length-take ((length c.args.beside.now + 1) / 2) c.args.beside.now),
    )

pub returns : goal.returns
returns c =
    let k = c.keys_for-taken in
    c.write_node.ensures ∙ left_cut c.args.kind c.args.keys.now c.args.beside.now k.result k.ensures
