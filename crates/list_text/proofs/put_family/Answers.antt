use Rattle.std.proofs.Common.{◌≡◌, ap, sym, ◌∙◌, List, ℕ, arith}
use Rattle.list_text.specs.Text.{family_word, pair_line, family_line, family_shown}
use Rattle.text_row.specs.Filling.{filled, fill}
use Rattle.text_row.proofs.FillingLaws.{fill_then, fill_reached}
use Rattle.list_text.proofs.TextLaws.{family_short, family_shown_lem}
use Rattle.list_text.proofs.put_family.Goals as goal

pub put_pair-requires : goal.put_pair-requires
unfolding family_word
put_pair-requires c = omega (arith, fill_reached family_word _ _ c.put_all-first.ensures)

pub returns-clause-text_after : goal.returns-clause-text_after
unfolding family_line family_word
returns-clause-text_after c =
    let line = fill_then family_word (pair_line c.args.family c.args.total) _ c.put_all-first.ensures c.put_pair.ensures in
    let some : c.args.total ≡ 0 → ⊥ = λ none. omega arith in
    line ∙ ap (λ (bytes : List ℕ). fill bytes (filled c.args.at c.args.text.now)) (sym (family_shown_lem c.args.family c.args.total some))

pub returns-clause-upper_bound : goal.returns-clause-upper_bound
returns-clause-upper_bound c =
    omega (
      arith,
      fill_reached (family_shown c.args.family c.args.total) _ _ (returns-clause-text_after c),
      family_short c.args.family c.args.total (omega arith) (omega arith),
    )
