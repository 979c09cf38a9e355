use Rattle.std.proofs.Common.{◌++◌, ◌+◌, ◌-◌, List, ℕ, length, take, drop, ap, ◌∙◌}
use Rattle.text_row.specs.Filling.{filled}
use Rattle.text_row.proofs.FillingLaws.{fill_part}
use Rattle.text_row.proofs.put_all.Goals as goal

pub returns : goal.returns
returns c =
    let at = c.args.at in
    let text = c.args.text.now in
    let end = at + length c.args.bytes.now in
    ap (λ (bytes : List ℕ). filled end (take at text ++ (bytes ++ drop (end - at) (drop at text)))) c.copy_from_slice.ensures.after
    ∙ fill_part c.args.bytes.now text at c.requires
