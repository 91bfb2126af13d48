-- `lend_edges` meets its contract: the numbers are those of the bytes, which are those of the edges, cut. Assumes nothing.
use Rattle.crossing.proofs.Lent.{edges_put}
use Rattle.crossing.proofs.lending.lend_edges.Goals as goal

pub returns : goal.returns
returns c =
    let e = c.cut_edges-fit.ensures in
    (e.0, edges_put c.args.xs.now _ c.args.numbers.now _ e.1 c.put_edges.ensures)
