use Rattle.std.proofs.Common.{refl, ap, sym, ◌∙◌, List, ℕ, ◌/◌, ◌≤◌, length, take, length-take-le, Ok, Err, arith}
use Rattle.std.proofs.lemmas.List.{length-replicate}
use Rattle.card.specs.Layout.{program_nodes}
use Rattle.card.proofs.RefusalLaws.{number_some}
use Rattle.list_pairs.specs.Summaries.{told}
use Rattle.list_text.specs.Text.{first_line, pair_lines, family_lines, pairs_of_words, list_text, pair_room, dump_text}
use Rattle.text_row.specs.Filling.{filled, fill}
use Rattle.text_row.specs.Lines.{refusal_line}
use Rattle.text_row.proofs.FillingLaws.{fill_then, fill_whole}
use Rattle.list_text.proofs.TextLaws.{told_refused, told_listed, handed_is, words_fit}
use Rattle.list_text.proofs.list_text.Goals as goal
use Rattle.list_text.proofs.list_text.Goals.{In-Ok}

-- the words of the summary lie inside the words lent
inside : (c : In-Ok) → c.in-Ok.s.words ≤ length c.list_dump.new.out
inside c =
    omega (
      arith,
      words_fit program_nodes _ (told (Ok c.in-Ok.s)) c.in-Ok.ensures.value,
      c.list_dump.auto.out,
      length-replicate {A = ℕ} (pair_room program_nodes) 0,
    )

pub slice_bounds-out-end : goal.slice_bounds-out-end
slice_bounds-out-end c = inside (goal.at.slice_bounds-out-end c).In-Ok

pub slice_bounds-put_pairs-end-in-Ok : goal.slice_bounds-put_pairs-end-in-Ok
slice_bounds-put_pairs-end-in-Ok c = sym (length-take-le c.in-Ok.s.words c.list_dump.new.out (inside (goal.at.slice_bounds-put_pairs-end-in-Ok c).In-Ok))

pub returns-in-Ok : goal.returns-in-Ok
unfolding dump_text
returns-in-Ok c =
    let d = c.list_dump in
    let s = c.in-Ok.s in
    let words = d.new.out in
    let first = c.put_summary-first in
    let families = c.put_families-next in
    let text = told_listed (told (Ok s)) words refl (inside (goal.at.returns-in-Ok c).In-Ok)
    ∙ ap list_text (handed_is program_nodes _ (told (Ok s)) c.in-Ok.ensures.value _ d.ensures.out_after) in
    let put = fill_then (first_line s.nodes s.free s.levels (s.words / 2)) (family_lines s.families) _ first.ensures.text_after families.ensures.text_after in
    let all = fill_then _ (pair_lines (pairs_of_words (take s.words words))) _ put c.put_pairs.ensures.text_after in
    let whole = fill_whole (dump_text program_nodes c.args.dump.now) c.args.text.now _ _
    (omega (arith, c.put_pairs.ensures.upper_bound, first.auto.text, families.auto.text))
    (all ∙ ap (λ (bytes : List ℕ). fill bytes (filled 0 c.args.text.now)) text) in
    record { value = whole.0; text_after = whole.1 }

pub returns-in-Err : goal.returns-in-Err
unfolding dump_text
returns-in-Err c =
    let d = c.list_dump in
    let r = c.in-Err.refusal in
    let text = ap refusal_line c.number.ensures ∙ told_refused (told (Err r)) d.new.out (number_some r)
    ∙ ap list_text (handed_is program_nodes _ (told (Err r)) c.in-Err.ensures.value _ d.ensures.out_after) in
    let whole = fill_whole (dump_text program_nodes c.args.dump.now) c.args.text.now _ _ c.put_refusal.ensures.upper_bound
    (c.put_refusal.ensures.text_after ∙ ap (λ (bytes : List ℕ). fill bytes (filled 0 c.args.text.now)) text) in
    record { value = whole.0; text_after = whole.1 }
