-- The lines of the families before this one stand in the row.
use Rattle.std.proofs.Common.{◌≡◌, ◌+◌, ◌-◌, ◌*◌, ◌≤◌}
use Rattle.card_family.specs.Families.{family_count}
use Rattle.list_text.specs.Text.{family_lines_from, family_lines}
use Rattle.text_row.specs.Filling.{filled, fill}
use Rattle.list_text.proofs.put_families.Given as goal

abbrev pub invariant-loop-family : goal.invariant-loop-family
invariant-loop-family l =
    (l.next ≤ l.at + 29 * l.family)
    × (fill (family_lines l.families) (filled l.at l.initial.text) ≡ fill (family_lines_from l.family (family_count - l.family) l.families) (filled l.next l.text))
