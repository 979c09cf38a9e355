use Rattle.std.proofs.Common.{arith}
use Rattle.change_rows.proofs.HalfLaws.{whole_counts, key_read}
use Rattle.change_rows.proofs.halves.key_between.Goals as goal

pub offset_bounds-keys-keys_for : goal.offset_bounds-keys-keys_for
offset_bounds-keys-keys_for c =
    let n = whole_counts c.args.kind c.args.keys.now c.args.beside.now c.keys_for.result c.requires c.keys_for.ensures in
    omega arith

pub bounds-keys-keys_for : goal.bounds-keys-keys_for
bounds-keys-keys_for c =
    let n = whole_counts c.args.kind c.args.keys.now c.args.beside.now c.keys_for.result c.requires c.keys_for.ensures in
    omega arith

pub returns : goal.returns
returns c = key_read _ _ _ _ c.keys_for.ensures
