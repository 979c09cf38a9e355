use Rattle.std.proofs.Common.{ap₂, sym, ◌∙◌, List, ℕ, set, arith}
use Rattle.change_rows.specs.Nodes.{node_places}
use Rattle.change_rows.proofs.RowLaws.{lay_more, lay_all}
use Rattle.change_rows.proofs.NodeLaws.{length_places, place_at}
use Rattle.change_rows.proofs.nodes.write_places.Goals as goal

pub loop-i-preserved : goal.loop-i-preserved
loop-i-preserved c =
    let l = c.loop-i in
    let long = length_places c.args.m in
    ap₂ (λ (x : List ℕ) (w : ℕ). set x l.i w) l.invariant (sym (place_at c.args.m l.i (omega arith)))
    ∙ lay_more c.args.places.now (node_places c.args.m) l.i (omega arith) (omega arith)

pub returns : goal.returns
returns c =
    let l = c.loop-i in
    l.invariant ∙ lay_all c.args.places.now (node_places c.args.m) l.i (omega (arith, length_places c.args.m)) (omega arith)
