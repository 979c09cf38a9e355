use Rattle.std.proofs.Common.{◌≡◌, ap, sym, ◌∙◌, ℕ, ◌+◌, ◌-◌, arith}
use Rattle.walk_next.specs.Successor.{walk_from}
use Rattle.walk_next.specs.Next.{pair_told}
use Rattle.list_pairs.specs.Listing.{most_pairs, laid, lay_pairs}
use Rattle.list_pairs.proofs.ListingLaws.{walk_goes_on}
use Rattle.list_pairs.proofs.pairs.put_pairs.Goals as goal

pub loop-preserved : goal.loop-preserved
loop-preserved c =
    let l = c.loop in
    let put = c.put_pair-at in
    let card = c.args.card.now in
    let pair = c.in-Ok-Some.pair in
    let left : most_pairs - l.counter - 1 ≡ most_pairs - (l.counter + 1) = omega arith in (
      omega (arith, put.auto.out, put.ensures.upper_bound),
      l.invariant.1
          ∙ walk_goes_on c.args.greatest card l.after (laid l.at l.out) (most_pairs - l.counter) pair.key pair.value (omega arith) (sym c.in-Ok-Some.ensures ∙ ap pair_told c.in-Ok-Some.field-0-is)
          ∙ ap (lay_pairs (walk_from c.args.greatest 1 (most_pairs - l.counter - 1) card pair.key)) (sym put.ensures.out_after)
          ∙ ap (λ (n : ℕ). lay_pairs (walk_from c.args.greatest 1 n card pair.key) (laid put.result put.new.out)) left,
    )
