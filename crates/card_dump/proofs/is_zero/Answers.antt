use Rattle.std.proofs.Common.{◌≡◌, ◌*◌, List, ℕ, drop, sym, ap, ◌∙◌, arith}
use Rattle.laws.specs.Lists.{all_zero}
use Rattle.card_dump.proofs.Padding.{zero_eights, zero_from, eight_stops, eights_end}
use Rattle.card_dump.proofs.is_zero.Goals as goal
use Rattle.card_dump.proofs.is_zero.Goals.{After-as_chunks}

-- the arrays of eight hold the bytes
held : (c : After-as_chunks) → zero_eights (drop c.args.from c.as_chunks.result.0.now) ≡ all_zero (drop (8 * c.args.from) c.args.dump.now)
held c = ap (λ (e : List (List ℕ)). zero_eights (drop c.args.from e)) c.as_chunks.ensures.front ∙ zero_from c.args.dump.now c.args.from c.requires

pub returns-then-eight-ne0 : goal.returns-then-eight-ne0
returns-then-eight-ne0 c =
    sym (eight_stops c.as_chunks.result.0.now c.loop-k.k (omega arith) (λ z. c.if-eight-ne0.true (c.eight.ensures ∙ z)))
    ∙ sym c.loop-k.invariant ∙ held (goal.at.returns-then-eight-ne0 c).After-as_chunks

pub returns : goal.returns
returns c = sym (eights_end c.as_chunks.result.0.now c.loop-k.k (omega arith)) ∙ sym c.loop-k.invariant ∙ held (goal.at.returns c).After-as_chunks
