use Rattle.std.proofs.Common.{◌≡◌, ap, ap₂, sym, ◌∙◌, ◌+◌, ◌*◌, ℕ, get_or, drop, arith}
use Rattle.list_text.specs.Text.{pair_line, pair_lines, pairs_of_words}
use Rattle.text_row.specs.Filling.{filled, fill}
use Rattle.text_row.proofs.FillingLaws.{fill_reached}
use Rattle.list_text.proofs.TextLaws.{pair_short, two_words, lines_next, lines_end}
use Rattle.list_text.proofs.put_pairs.Goals as goal

pub put_pair-next-requires : goal.put_pair-next-requires
put_pair-next-requires c = omega (arith, c.as_chunks.ensures.front_len)

pub loop-key-preserved : goal.loop-key-preserved
loop-key-preserved c =
    let l = c.loop-key in
    let words = c.args.words.now in
    let key = get_or words (2 * l.key-index) 0 in
    let value = get_or words (2 * l.key-index + 1) 0 in
    let two = two_words words _ l.key-index c.as_chunks.ensures.front (omega (arith, c.as_chunks.ensures.front_len)) in
    let put : filled c.put_pair-next.result c.put_pair-next.new.text ≡ fill (pair_line key value) (filled l.next l.text) =
    c.put_pair-next.ensures ∙ ap₂ (λ (k v : ℕ). fill (pair_line k v) (filled l.next l.text)) two.0 two.1 in
    let after : 2 * l.key-index + 2 ≡ 2 * (l.key-index + 1) = omega arith in (
      omega (
        arith,
        fill_reached (pair_line key value) _ _ put,
        pair_short key value (omega (arith, c.type_inv.words (2 * l.key-index))) (omega (arith, c.type_inv.words (2 * l.key-index + 1))),
      ),
      l.invariant.1
          ∙ lines_next words (2 * l.key-index) l.next l.text (omega (arith, c.as_chunks.ensures.front_len)) put
          ∙ ap (λ (k : ℕ). fill (pair_lines (pairs_of_words (drop k words))) (filled c.put_pair-next.result c.put_pair-next.new.text)) after,
    )

pub returns-clause-text_after : goal.returns-clause-text_after
returns-clause-text_after c =
    let l = c.loop-key in
    sym (l.invariant.1 ∙ lines_end c.args.words.now (2 * l.key-index) l.next l.text (omega (arith, c.as_chunks.ensures.front_len)))
