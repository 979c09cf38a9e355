use Rattle.change_rows.proofs.NodeLaws.{node_laid}
use Rattle.change_rows.proofs.nodes.write_node.Goals as goal

pub returns : goal.returns
returns c =
    let a = c.write_row in
    let b = c.write_row-2 in
    node_laid c.args.kind c.args.words.now a.new.row b.new.row c.args.keys.now c.args.beside.now c.requires.0 c.requires.1
    c.requires.2 a.ensures b.ensures
