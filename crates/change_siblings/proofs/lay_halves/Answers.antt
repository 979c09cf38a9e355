use Rattle.std.proofs.Common.{ap, ◌∙◌, ◌++◌, drop}
use Rattle.change_rows.specs.Halves.{halves_words}
use Rattle.change_plan.specs.Change.{Together, key_between}
use Rattle.change_siblings.proofs.SiblingLaws.{held_whole, held_both}
use Rattle.change_siblings.proofs.lay_halves.Goals as goal

pub write_halves-requires : goal.write_halves-requires
write_halves-requires c =
    let g = c.gather_siblings-held.ensures in
    (c.requires.2, held_whole _ _ c.requires.0 _ _ _ g.kind (c.as_slice-keys.ensures ∙ g.keys) (c.as_slice-beside.ensures ∙ g.values) c.requires.1)

pub key_between-requires : goal.key_between-requires
key_between-requires c =
    let g = c.gather_siblings-held.ensures in
    held_whole _ _ c.requires.0 _ _ _ g.kind (c.as_slice-keys.ensures ∙ g.keys) (c.as_slice-beside.ensures ∙ g.values) c.requires.1

pub returns : goal.returns
returns c =
    let g = c.gather_siblings-held.ensures in
    let same = held_both _ _ c.requires.0 _ _ _ g.kind (c.as_slice-keys.ensures ∙ g.keys) (c.as_slice-beside.ensures ∙ g.values) in (
      c.write_halves.ensures ∙ ap (λ (both : Together). halves_words both ++ drop 48 c.args.values.now) same,
      c.key_between.ensures ∙ ap key_between same,
    )
