-- `put_line` meets its contract: a store at the next place, or a limit is passed. Assumes nothing.
use Rattle.making.proofs.Lines.{lined_yes, lined_no}
use Rattle.making.proofs.nodes.put_line.Goals as goal

pub returns-then-n-lt-NODES : goal.returns-then-n-lt-NODES
returns-then-n-lt-NODES c =
    let a = c.args in
    lined_yes a.c a.lines.now a.x c.packed_line.result c.if-n-lt-NODES.true c.packed_line.ensures

pub returns : goal.returns
returns c =
    let a = c.args in
    lined_no a.c a.lines.now a.x c.if-n-lt-NODES.false
