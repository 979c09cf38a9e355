use Rattle.std.proofs.Common.{refl, sym, ◌∙◌, arith}
use Rattle.list_text.specs.Text.{family_lines}
use Rattle.list_text.proofs.TextLaws.{families_next, families_end}
use Rattle.list_text.proofs.put_families.Goals as goal

pub loop-family-init : goal.loop-family-init
unfolding family_lines
loop-family-init c = (omega arith, refl)

pub loop-family-preserved : goal.loop-family-preserved
loop-family-preserved c =
    let l = c.loop-family in
    let put = c.put_family-next.ensures in (
      omega (arith, put.upper_bound, l.invariant.0),
      l.invariant.1 ∙ families_next c.args.families.now l.family l.next l.text (omega arith) put.text_after,
    )

pub returns-clause-text_after : goal.returns-clause-text_after
returns-clause-text_after c =
    let l = c.loop-family in
    sym (l.invariant.1 ∙ families_end c.args.families.now l.family l.next l.text (omega arith))
