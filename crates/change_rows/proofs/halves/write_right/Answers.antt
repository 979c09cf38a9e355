use Rattle.std.proofs.Common.{refl, ◌∙◌, ◌+◌, ◌-◌, ◌/◌, length, drop, length-take, arith, rules}
use Rattle.change_rows.proofs.HalfLaws.{whole_counts, right_cut}
use Rattle.change_rows.proofs.halves.write_right.Goals as goal

pub slice_bounds-write_node-count : goal.slice_bounds-write_node-count
slice_bounds-write_node-count c =
    let n = whole_counts c.args.kind c.args.keys.now c.args.beside.now _ c.requires.1 refl in
    omega arith

pub slice_bounds-write_node-start : goal.slice_bounds-write_node-start
slice_bounds-write_node-start c =
    let n = whole_counts c.args.kind c.args.keys.now c.args.beside.now _ c.requires.1 refl in
    search rules

pub write_node-requires : goal.write_node-requires
write_node-requires c =
    let n = whole_counts c.args.kind c.args.keys.now c.args.beside.now _ c.requires.1 refl in
    let half = (length c.args.beside.now + 1) / 2 in (
      c.requires.0,
      omega (arith, length-take (length c.args.keys.now - half) (drop half c.args.keys.now)),
      omega (arith, length-take (length c.args.beside.now - half) (drop half c.args.beside.now)),
    )

pub returns : goal.returns
returns c = c.write_node.ensures ∙ right_cut c.args.kind c.args.keys.now c.args.beside.now
