use Rattle.std.proofs.Common.{◌-◌, ◌≤◌, length, arith}
use Rattle.list_pairs.proofs.ListingLaws.{pair_short, pair_stored}
use Rattle.list_pairs.proofs.pairs.put_pair.Goals as goal

pub returns-then-out-at-lt2-clause-out_after : goal.returns-then-out-at-lt2-clause-out_after
returns-then-out-at-lt2-clause-out_after c =
    pair_short (c.args.key, c.args.value) c.args.at c.args.out.now c.requires c.if-out-at-lt2.true

pub returns-clause-out_after : goal.returns-clause-out_after
returns-clause-out_after c =
    let room : 2 ≤ length c.args.out.now - c.args.at = omega arith in
    pair_stored (c.args.key, c.args.value) c.args.at c.args.out.now room
